-- How far the loop over the branches of an `if` has come: what is read already goes before what the reader still finds.
use Rattle.std.proofs.Common.{◌≡◌, ℕ, ◌≤◌, true, false, List, [], ◌∷◌, ◌++◌, codes, length, refl, ◌∙◌, ap, arith, le_refl, Option, Some, None, suc, zero}
use Rattle.hush_words.specs.Tokens.{Token}
use Rattle.hush_syntax.specs.declared.nodes.Bodies.{Bodies}
use Rattle.hush_syntax.specs.declared.keywords.Keyword.TheVariants as keyword
use Rattle.hush_syntax.specs.Answers.{branch, otherwise}
use Rattle.hush_syntax.specs.Grammar.{Command, If, Branches, Elif, Else, Fi, Chains, begins}
use Rattle.hush_syntax.specs.Reading.{Reader, bind, ◌into◌, mapped, behind, is, one, list, branches_within, branches, compound, command, inner, then_word}
use Rattle.hush_syntax.proofs.FromMembers.{no_command, branches_from, if_from}
use Rattle.hush_syntax.proofs.Fronts.{by_test}
use Rattle.hush_syntax.proofs.Readers.{by_option}
use Rattle.hush_syntax.proofs.Shorter.{behind-begun, empty, Shortens, into-shortens, mapped-shortens, then-shortens, list-shorter, inner-shorter}

abbrev pub branches_before : List (Chains × Chains) → Branches → Branches
branches_before [] rest = rest
branches_before ((c, d) ∷ bs) rest = Elif c d (branches_before bs rest)

abbrev pub branches_found : List (Chains × Chains) → Option (Branches × List Token) → Option (Command × List Token)
branches_found [] found = bind found (λ v. Some (no_command, v.1))
branches_found ((c, d) ∷ bs) found = bind found (λ v. Some (If c d (branches_before bs v.0), v.1))

-- what `else` or `fi` ends the branches with
abbrev pub ending : Option Chains → Branches
ending None = Fi
ending (Some d) = Else d

branches_before-end : (bs : List (Chains × Chains)) (o : Option Chains) → branches_before bs (ending o) ≡ branches_from bs o
branches_before-end [] None = refl
branches_before-end [] (Some d) = refl
branches_before-end ((c, d) ∷ bs) o = ap (Elif c d) (branches_before-end bs o)

branches_before-push : (bs : List (Chains × Chains)) (c d : Chains) (rest : Branches) → branches_before bs (Elif c d rest) ≡ branches_before (bs ++ (c, d) ∷ []) rest
branches_before-push [] c d rest = refl
branches_before-push ((x, y) ∷ bs) c d rest = ap (Elif x y) (branches_before-push bs c d rest)

branches_found-push : (x y : Chains) (bs : List (Chains × Chains)) (c d : Chains) (found : Option (Branches × List Token)) → branches_found ((x, y) ∷ bs) (bind found (λ v. Some (Elif c d v.0, v.1))) ≡ branches_found ((x, y) ∷ (bs ++ (c, d) ∷ [])) found
branches_found-push x y bs c d None = refl
branches_found-push x y bs c d (Some v) = rw (branches_before-push bs c d v.0)

-- a branch in one piece
branch-joined : {Y : Type 0} (bodies : Bodies) (p : Reader Command) (f : Chains → Chains → Branches → Y) (rest : Reader Branches) (ts : List Token) → (list p into λ c. then_word bodies into λ _. inner bodies p into λ d. mapped (f c d) rest) ts ≡ (branch bodies p into λ b. mapped (f b.0 b.1) rest) ts
branch-joined bodies p f rest ts =
    by_option (list p ts)
    (λ e. rw e)
    (λ c e.
    by_option (then_word bodies c.1)
    (λ g. rw (e, g))
    (λ u g. by_option (inner bodies p u.1) (λ h. rw (e, g, h)) (λ d h. rw (e, g, h))))

branches-end : (bodies : Bodies) (p : Reader Command) (n : ℕ) (now : List Token) → length now ≤ n → begins (is (codes "elif")) now ≡ false → branches_within bodies p n now ≡ mapped ending (otherwise bodies p) now
branches-end bodies p zero now short e = let none = empty now short in rw none
branches-end bodies p (suc n) now short e =
    by_test (begins (is (codes "else")) now)
    (λ h. rw (e, h) (joined (behind now)))
    (λ h. rw (e, h) (joined-fi now))
  where
    joined-fi : (ts : List Token) → mapped (λ _. Fi) (one (is (codes "fi"))) ts ≡ mapped ending (mapped (λ _. None) (one (is (codes "fi")))) ts
    joined-fi ts = by_option (one (is (codes "fi")) ts) (λ g. rw g) (λ u g. rw g)

    joined : (ts : List Token) → (inner bodies p into λ d. mapped (λ _. Else d) (one (is (codes "fi")))) ts ≡ mapped ending (inner bodies p into λ d. mapped (λ _. Some d) (one (is (codes "fi")))) ts
    joined ts =
        by_option (inner bodies p ts) (λ g. rw g) (λ d g. by_option (one (is (codes "fi")) d.1) (λ h. rw (g, h)) (λ u h. rw (g, h)))

pub record IfSoFar (bodies : Bodies) (room : ℕ) (found : Option (Command × List Token)) (bs : List (Chains × Chains)) (now : List Token) : Type 0 where
  pub condition : Chains
  pub body : Chains
  pub others : List (Chains × Chains)
  pub are : bs ≡ (condition, body) ∷ others
  pub n : ℕ
  pub short : length now ≤ n
  pub same : found ≡ branches_found ((condition, body) ∷ others) (branches_within bodies (command bodies room) n now)

branches-turn : (bodies : Bodies) (room n : ℕ) (now : List Token) → length now ≤ n → begins (is (codes "elif")) now ≡ true → (k : ℕ) × (length (behind now) ≤ k) × (branches_within bodies (command bodies room) n now ≡ (branch bodies (command bodies room) into λ b. mapped (Elif b.0 b.1) (branches_within bodies (command bodies room) k)) (behind now))
branches-turn bodies room zero now short e = absurd (let gone = behind-begun (is (codes "elif")) now e in omega arith)
branches-turn bodies room (suc k) now short e =
    let gone = behind-begun (is (codes "elif")) now e in
    (k, omega arith, rw e (branch-joined bodies (command bodies room) Elif (branches_within bodies (command bodies room) k) (behind now)))

pub branch-shorter : (bodies : Bodies) (room : ℕ) → Shortens (branch bodies (command bodies room))
branch-shorter bodies room =
    into-shortens (list (command bodies room)) (λ c. then_word bodies into λ _. mapped (λ d. (c, d)) (inner bodies (command bodies room))) (list-shorter bodies room)
    (λ c. into-shortens (then_word bodies) (λ _. mapped (λ d. (c, d)) (inner bodies (command bodies room))) (then-shortens bodies)
    (λ _. mapped-shortens (λ d. (c, d)) (inner bodies (command bodies room)) (inner-shorter bodies room)))

module _ (bodies : Bodies) (room : ℕ) where
  pub if-starts_with : (ts m : List Token) (c d : Chains) → branch bodies (command bodies room) ts ≡ Some ((c, d), m) → IfSoFar bodies room (compound bodies (command bodies room) keyword.If ts) ((c, d) ∷ []) m
  if-starts_with ts m c d e = record {
    condition = c;
    body = d;
    others = [];
    are = refl;
    n = length m;
    short = le_refl (length m);
    same = branch-joined bodies (command bodies room) If (branches bodies (command bodies room)) ts ∙ rw e;
  }

  pub if-none : (ts : List Token) → branch bodies (command bodies room) ts ≡ None → compound bodies (command bodies room) keyword.If ts ≡ None
  if-none ts e = branch-joined bodies (command bodies room) If (branches bodies (command bodies room)) ts ∙ rw e

  pub if-branch_none : (found : Option (Command × List Token)) (bs : List (Chains × Chains)) (now : List Token) → IfSoFar bodies room found bs now → begins (is (codes "elif")) now ≡ true → branch bodies (command bodies room) (behind now) ≡ None → found ≡ None
  if-branch_none found bs now s e f =
      let turn = branches-turn bodies room s.n now s.short e in
      s.same ∙ ap (branches_found ((s.condition, s.body) ∷ s.others)) turn.2 ∙ rw f

  pub if-goes_on : (found : Option (Command × List Token)) (bs : List (Chains × Chains)) (b : Chains × Chains) (now m : List Token) → IfSoFar bodies room found bs now → begins (is (codes "elif")) now ≡ true → branch bodies (command bodies room) (behind now) ≡ Some (b, m) → IfSoFar bodies room found (bs ++ b ∷ []) m
  if-goes_on found bs b now m s e f =
      let turn = branches-turn bodies room s.n now s.short e in
      let shorter = branch-shorter bodies room (behind now) m b f in
      record {
        condition = s.condition;
        body = s.body;
        others = s.others ++ b ∷ [];
        are = ap (λ x. x ++ b ∷ []) s.are;
        n = turn.0;
        short = omega (arith, turn.1);
        same = s.same ∙ ap (branches_found ((s.condition, s.body) ∷ s.others)) turn.2 ∙ rw f (branches_found-push s.condition s.body s.others b.0 b.1 (branches_within bodies (command bodies room) turn.0 m));
      }

  pub if-otherwise_none : (found : Option (Command × List Token)) (bs : List (Chains × Chains)) (now : List Token) → IfSoFar bodies room found bs now → begins (is (codes "elif")) now ≡ false → otherwise bodies (command bodies room) now ≡ None → found ≡ None
  if-otherwise_none found bs now s e f =
      s.same ∙ ap (branches_found ((s.condition, s.body) ∷ s.others)) (branches-end bodies (command bodies room) s.n now s.short e) ∙ rw f

  pub if-ends : (found : Option (Command × List Token)) (bs : List (Chains × Chains)) (o : Option Chains) (now r : List Token) → IfSoFar bodies room found bs now → begins (is (codes "elif")) now ≡ false → otherwise bodies (command bodies room) now ≡ Some (o, r) → found ≡ Some (if_from bs o, r)
  if-ends found bs o now r s e f =
      s.same ∙ ap (branches_found ((s.condition, s.body) ∷ s.others)) (branches-end bodies (command bodies room) s.n now s.short e) ∙ rw (f, s.are, branches_before-end s.others o)

-- no branch is read if none is found first
pub branch-none : (bodies : Bodies) (room : ℕ) (ts : List Token) → branch bodies (command bodies room) ts ≡ None → compound bodies (command bodies room) keyword.If ts ≡ None
branch-none bodies room ts e =
    branch-joined bodies (command bodies room) If (branches bodies (command bodies room)) ts
    ∙ ap (λ o. bind o (λ x. mapped (If x.0.0 x.0.1) (branches bodies (command bodies room)) x.1)) e
