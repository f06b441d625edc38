-- The bytes of a name among the other classes.
use Rattle.std.specs.Prelude.{◌≡◌, ℕ, ◌==◌, true, false}
use Rattle.std.proofs.Common.{refl}
use Rattle.hush_words.specs.Words.{is_blank, ends_word, begins_name, is_in_name, is_in_braces, is_bare, is_special}
use Rattle.hush_words.proofs.Finders.{differs}

pub name-ends : (b : ℕ) → is_in_name b ≡ true → ends_word b ≡ false
unfolding ends_word is_blank is_in_name begins_name
name-ends b e =
    let blank : (b == 32) ≡ false = differs is_in_name b 32 e refl in
    let tab : (b == 9) ≡ false = differs is_in_name b 9 e refl in
    let line : (b == 10) ≡ false = differs is_in_name b 10 e refl in
    let semicolon : (b == 59) ≡ false = differs is_in_name b 59 e refl in
    let ampersand : (b == 38) ≡ false = differs is_in_name b 38 e refl in
    let bar : (b == 124) ≡ false = differs is_in_name b 124 e refl in
    rw (blank, tab, line, semicolon, ampersand, bar) refl

pub name-special : (b : ℕ) → is_in_name b ≡ true → is_special b ≡ false
unfolding is_special is_in_name begins_name
name-special b e =
    let dollar : (b == 36) ≡ false = differs is_in_name b 36 e refl in
    let single : (b == 39) ≡ false = differs is_in_name b 39 e refl in
    let double : (b == 34) ≡ false = differs is_in_name b 34 e refl in
    let backslash : (b == 92) ≡ false = differs is_in_name b 92 e refl in
    rw (dollar, single, double, backslash) refl

pub name-bare : (b : ℕ) → is_in_name b ≡ true → is_bare b ≡ true
unfolding is_bare
name-bare b e =
    let ends : ends_word b ≡ false = name-ends b e in
    let special : is_special b ≡ false = name-special b e in
    rw (ends, special) refl

pub name-braces : (b : ℕ) → is_in_name b ≡ true → is_in_braces b ≡ true
unfolding is_in_braces is_blank is_in_name begins_name
name-braces b e =
    let blank : (b == 32) ≡ false = differs is_in_name b 32 e refl in
    let tab : (b == 9) ≡ false = differs is_in_name b 9 e refl in
    let line : (b == 10) ≡ false = differs is_in_name b 10 e refl in
    let closes : (b == 125) ≡ false = differs is_in_name b 125 e refl in
    let opens : (b == 123) ≡ false = differs is_in_name b 123 e refl in
    let dollar : (b == 36) ≡ false = differs is_in_name b 36 e refl in
    let colon : (b == 58) ≡ false = differs is_in_name b 58 e refl in
    let equals : (b == 61) ≡ false = differs is_in_name b 61 e refl in
    let single : (b == 39) ≡ false = differs is_in_name b 39 e refl in
    let double : (b == 34) ≡ false = differs is_in_name b 34 e refl in
    let backslash : (b == 92) ≡ false = differs is_in_name b 92 e refl in
    rw (blank, tab, line, closes, opens, dollar, colon, equals, single, double, backslash) refl
