-- The words of a text.
use Rattle.std.specs.Prelude.{ℕ, Bool, not, ◌==◌, List, [], ◌∷◌, ◌++◌, length, filter, map}
use Rattle.std.specs.Borrow.{Bor}
use Rattle.std.specs.List.{flat_map, slice_split}

-- what is between the bytes that pass the test, if something is (no call of this crate speaks of it: envcfg_core and
-- hush_commands define fields and words with it)
abbrev pub words_between : (ℕ → Bool) → List ℕ → List (List ℕ)
words_between test text = filter (λ word. not (length word == 0)) (slice_split test text)

-- words each after a space, and words joined by one
abbrev pub after_spaces : List (List ℕ) → List ℕ
after_spaces words = flat_map (λ word. 32 ∷ word) words

abbrev pub spaced : List (List ℕ) → List ℕ
spaced [] = []
spaced (word ∷ words) = word ++ after_spaces words

-- the texts that are lent
abbrev pub texts : List (Bor (List ℕ)) → List (List ℕ)
texts words = map (λ word. word.now) words
