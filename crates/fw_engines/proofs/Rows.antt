-- Places in a text, computed by the checker.
use Rattle.std.proofs.Common.{◌≡◌, codes, refl}
use Rattle.fw_engines.specs.TextPlaces.{place_of}

pub first_place : place_of (codes "ab") 0 ≡ record { line = 1; column = 1 }
first_place = refl

pub after_two_bytes : place_of (codes "ab\ncd") 2 ≡ record { line = 1; column = 3 }
after_two_bytes = refl

pub next_line : place_of (codes "ab\ncd") 3 ≡ record { line = 2; column = 1 }
next_line = refl

pub empty_line : place_of (codes "a\n\nb") 3 ≡ record { line = 3; column = 1 }
empty_line = refl

pub past_the_end : place_of (codes "ab\ncd") 9 ≡ record { line = 2; column = 3 }
past_the_end = refl
