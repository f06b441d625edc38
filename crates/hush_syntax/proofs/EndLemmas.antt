-- How the tokens of a text end.
use Rattle.std.specs.Prelude.{◌≡◌, ℕ, ◌==◌, false, List, [], ◌∷◌, length}
use Rattle.std.proofs.Common.{refl, arith}
use Rattle.std.proofs.lemmas.Bool.{ne_eqb}
use Rattle.hush_words.specs.declared.faults.FaultKind as words
use Rattle.hush_words.specs.declared.faults.FaultKind.TheVariants as word
use Rattle.hush_syntax.specs.Faults.{word_kind, is_missing}

-- the fault of a word is never the end of the text
pub not-missing : (kind : words.FaultKind) → is_missing (word_kind kind) ≡ false
not-missing word.Quote = refl
not-missing word.Backslash = refl
not-missing word.Substitution = refl
not-missing word.Operator = refl
not-missing word.Nul = refl

pub some-left : (l : List ℕ) → (l ≡ [] → ⊥) → (length l == 0) ≡ false
some-left [] h = absurd (h refl)
some-left (b ∷ bs) h = ne_eqb (length (b ∷ bs)) 0 (λ e. omega arith)
