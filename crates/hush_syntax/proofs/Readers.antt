-- What the answer of a reader says of the readers that it is made of.
use Rattle.std.proofs.Common.{◌≡◌, Bool, true, false, List, codes, refl, sym, ◌∙◌, ap, Option, Some, None, if◌then◌else◌}
use Rattle.hush_words.specs.Tokens.{Token}
use Rattle.hush_syntax.specs.declared.nodes.Bodies.{Bodies}
use Rattle.hush_syntax.specs.Reading.{Reader, bind, ◌into◌, mapped, is, one, elif_at_once, then_word}

-- either way of an option
pub by_option : {X P : Type 0} (o : Option X) → (o ≡ None → P) → ((x : X) → o ≡ Some x → P) → P
by_option None absent present = absent refl
by_option (Some x) absent present = present x refl

pub bind-some : {X Y : Type 0} (o : Option X) (f : X → Option Y) (y : Y) → bind o f ≡ Some y → (x : X) × (o ≡ Some x) × (f x ≡ Some y)
bind-some {X} {Y} None f y e = absurd (let no : ◌≡◌ {A = Option Y} None (Some y) = e in cc)
bind-some (Some x) f y e = (x, refl, e)

pub same_pair : {X : Type 0} (x y : X) (r s : List Token) → ◌≡◌ {A = Option (X × List Token)} (Some (x, r)) (Some (y, s)) → (x ≡ y) × (r ≡ s)
same_pair {X} x y r s e = let w : ◌≡◌ {A = X × List Token} (x, r) (y, s) = cc in (ap (λ v. v.0) w, ap (λ v. v.1) w)

pub into-some : {X Y : Type 0} (p : Reader X) (q : X → Reader Y) (ts r : List Token) (y : Y) → (p into q) ts ≡ Some (y, r) → (x : X) × (m : List Token) × (p ts ≡ Some (x, m)) × (q x m ≡ Some (y, r))
into-some p q ts r y e = let s = bind-some (p ts) (λ x. q x.0 x.1) (y, r) e in (s.0.0, s.0.1, s.1, s.2)

pub mapped-some : {X Y : Type 0} (f : X → Y) (p : Reader X) (ts r : List Token) (y : Y) → mapped f p ts ≡ Some (y, r) → (x : X) × (p ts ≡ Some (x, r)) × (y ≡ f x)
mapped-some {X} {Y} f p ts r y e =
    let s = bind-some (p ts) (λ x. Some (f x.0, x.1)) (y, r) e in
    let same = same_pair (f s.0.0) y s.0.1 r s.2 in
    (s.0.0, s.1 ∙ ap (λ (z : List Token). let o : Option (X × List Token) = Some (s.0.0, z) in o) same.1, sym same.0)

-- a `then` that is taken: what is after it isn't `elif` where that may not be
unless : {X : Type 0} (b : Bool) (x y : X) → (if b then None else Some x) ≡ Some y → (b ≡ false) × (x ≡ y)
unless {X} true x y e = absurd (let no : ◌≡◌ {A = Option X} None (Some y) = e in cc)
unless false x y e = (refl, cc)

pub then-some : (bodies : Bodies) (ts r : List Token) (u : Unit {0}) → then_word bodies ts ≡ Some (u, r) → (one (is (codes "then")) ts ≡ Some (u, r)) × (elif_at_once bodies r ≡ false)
then-some bodies ts r u e =
    let s = bind-some (one (is (codes "then")) ts) (λ u. if elif_at_once bodies u.1 then None else Some u) (u, r) e in
    let t = unless (elif_at_once bodies s.0.1) s.0 (u, r) s.2 in (
      s.1 ∙ ap (λ (x : Unit {0} × List Token). let o : Option (Unit {0} × List Token) = Some x in o) t.1,
      ap (λ (x : Unit {0} × List Token). elif_at_once bodies x.1) (sym t.1) ∙ t.0,
    )
