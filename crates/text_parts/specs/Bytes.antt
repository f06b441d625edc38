-- The bytes that text forms tell apart, and how a text begins.
use Rattle.std.specs.Prelude.{ℕ, Bool, false, ◌||◌, ◌==◌, List, [], ◌∷◌, if◌then◌else◌}

abbrev pub tab : ℕ
tab = 9

abbrev pub newline : ℕ
newline = 10

abbrev pub carriage_return : ℕ
carriage_return = 13

abbrev pub space : ℕ
space = 32

-- `#`, which begins a comment
abbrev pub hash : ℕ
hash = 35

abbrev pub is_newline : ℕ → Bool
is_newline b = b == newline

-- a space or a tab
abbrev pub is_blank : ℕ → Bool
is_blank b = b == space || b == tab

-- whether a text begins with a byte that passes the test; the empty text begins with none
abbrev pub begins : (ℕ → Bool) → List ℕ → Bool
begins test [] = false
begins test (b ∷ bs) = test b

-- whether it begins with this byte
abbrev pub begins_with : ℕ → List ℕ → Bool
begins_with byte text = begins (λ b. b == byte) text

-- a text without the blanks at its front
abbrev pub without_blanks : List ℕ → List ℕ
without_blanks [] = []
without_blanks (b ∷ bs) = if is_blank b then without_blanks bs else b ∷ bs
