-- Examples that the checker computes (docs/tools.md, "Environments in a dump").
use Rattle.std.proofs.Common.{◌≡◌, true, false, [], ◌∷◌, ◌++◌, length, refl, codes}
use Rattle.dump_search.specs.Search.{begins_entry, ends_entry, ends_value, places_from, sizes}

a_value : begins_entry (codes "a=1" ++ 0 ∷ []) ≡ true
unfolding ends_entry ends_value
a_value = refl

an_empty_value : begins_entry (codes "boot.cmd=" ++ 0 ∷ []) ≡ true
unfolding ends_entry ends_value
an_empty_value = refl

no_name : begins_entry (codes "=1" ++ 0 ∷ []) ≡ false
no_name = refl

a_blank_in_a_name : begins_entry (codes "a b=1" ++ 0 ∷ []) ≡ false
unfolding ends_entry ends_value
a_blank_in_a_name = refl

a_line_of_a_text : begins_entry (codes "a=1\nb=2\n" ++ 0 ∷ []) ≡ false
unfolding ends_entry ends_value
a_line_of_a_text = refl

without_an_end : begins_entry (codes "a=1") ≡ false
unfolding ends_entry ends_value
without_an_end = refl

how_many_sizes : length sizes ≡ 122
how_many_sizes = refl

-- a byte more is one place more
places_of_512 : places_from 0 (codes "") ≡ 0
places_of_512 = refl
