-- What the calls of the parser say, as premises of the lemmas on its loops and exits.
use Rattle.std.proofs.Common.{◌≡◌, ℕ, Bool, List, sym, ◌∙◌, ap, Option, Some}
use Rattle.hush_words.specs.Parts.{Written}
use Rattle.hush_words.specs.Tokens.{Token}
use Rattle.hush_syntax.specs.declared.refusal.Refusal.{Refusal}
use Rattle.hush_syntax.specs.declared.refusal.Refusal.TheVariants as refusal
use Rattle.hush_syntax.specs.declared.table.Builder.{Builder}
use Rattle.hush_syntax.specs.Answers.{Refuses}
use Rattle.hush_syntax.specs.Grammar.{begins}
use Rattle.hush_syntax.specs.Nodes.{At}
use Rattle.hush_syntax.specs.Stored.{Members}
use Rattle.hush_syntax.specs.Builders.{waiting, later, Grows}
use Rattle.hush_syntax.specs.Reading.{is}

-- a refusal for one reason is a refusal for what follows from it
pub refuses : {A B : Type 0} (r : Refusal) → (A → B) → Refuses r A → Refuses r B
refuses refusal.NoScript f a = f a
refuses refusal.Memory f a = tt

pub refuses_always : {A : Type 0} (r : Refusal) → A → Refuses r A
refuses_always refusal.NoScript a = a
refuses_always refusal.Memory a = tt

pub tested : (text asked : List ℕ) (now : List Token) (b v : Bool) → b ≡ begins (is asked) now → asked ≡ text → b ≡ v → begins (is text) now ≡ v
tested text asked now b v called same value = ap (λ x. begins (is x) now) (sym same) ∙ sym called ∙ value

-- what a call that answered has found, put after what was there
abbrev pub Found : {X Y : Type 0} → (At → X → Y → Type 0) → Written → Option (X × List Token) → Builder → Builder → List Token → Y → Type 0
Found {X} Is text found old new left y =
    (x : X) × (found ≡ Some (x, left)) × Grows old.table new.table × ((more : Members) → Is (later text new.table more) x y) × (waiting new ≡ waiting old)
