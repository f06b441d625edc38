-- The bytes that words and tokens tell apart, each named once (docs/scripts.md, "Words").
use Rattle.std.specs.Prelude.{ℕ}

-- the byte 0, which no script has
abbrev pub nul : ℕ
nul = 0

abbrev pub tab : ℕ
tab = 9

abbrev pub newline : ℕ
newline = 10

abbrev pub space : ℕ
space = 32

-- `"`
abbrev pub double_quote : ℕ
double_quote = 34

-- `#`, which begins a comment
abbrev pub hash : ℕ
hash = 35

-- `$`
abbrev pub dollar : ℕ
dollar = 36

-- `&`
abbrev pub ampersand : ℕ
ampersand = 38

-- `'`
abbrev pub single_quote : ℕ
single_quote = 39

-- `;`
abbrev pub semicolon : ℕ
semicolon = 59

-- `=`, which ends the name of an assignment
abbrev pub equals : ℕ
equals = 61

-- `?`
abbrev pub question_mark : ℕ
question_mark = 63

-- `\`
abbrev pub backslash : ℕ
backslash = 92

-- `_`
abbrev pub underscore : ℕ
underscore = 95

-- `{`
abbrev pub opening_brace : ℕ
opening_brace = 123

-- `|`
abbrev pub vertical_bar : ℕ
vertical_bar = 124

-- `}`
abbrev pub closing_brace : ℕ
closing_brace = 125
