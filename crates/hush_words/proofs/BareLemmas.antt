-- The table of the bytes that stand for themselves in a word is their definition, byte for byte.
use Rattle.std.proofs.Common.{◌≡◌, ℕ, zero, suc, ◌+◌, ◌<◌, ◌∙◌, Bool, List, [], ◌∷◌, get_or, refl, ap, arith}
use Rattle.hush_words.specs.Words.{is_blank, ends_word, is_special, is_bare}
use Rattle.hush_words.specs.declared.classes.bare.TheConstants.{BARE}

-- what a test answers of this many numbers, from this one on
abbrev answers : (ℕ → Bool) → ℕ → ℕ → List Bool
answers test i zero = []
answers test i (suc n) = test i ∷ answers test (i + 1) n

table_made : BARE ≡ answers is_bare 0 256
unfolding is_blank ends_word is_special is_bare
table_made = refl

get-answers : (test : ℕ → Bool) (i n k : ℕ) (other : Bool) → k < n → get_or (answers test i n) k other ≡ test (i + k)
get-answers test i zero k other h = absurd (omega arith)
get-answers test i (suc n) zero other h = ap test (let e : i ≡ i + 0 = omega arith in e)
get-answers test i (suc n) (suc k) other h =
    get-answers test (i + 1) n k other (omega arith) ∙ ap test (let e : i + 1 + k ≡ i + suc k = omega arith in e)

pub table_entry : (b : ℕ) (other : Bool) → b < 256 → get_or BARE b other ≡ is_bare b
table_entry b other h =
    ap (λ bs. get_or bs b other) table_made ∙ get-answers is_bare 0 256 b other h ∙ ap is_bare (let e : 0 + b ≡ b = omega arith in e)
