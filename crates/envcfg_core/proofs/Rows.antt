-- Worked examples of docs/texts.md, which the checker computes from the definitions.
use Rattle.std.proofs.Common.{◌≡◌, ℕ, ℤ, pos, negsuc, true, List, [], ◌∷◌, ◌++◌, Option, None, Some, Ok, Err, refl}
use Rattle.std.specs.Prelude.{codes, map}
use Rattle.std.specs.Str.{is_utf8, chars}
use lib.Utf8.{encode}
use Rattle.envimg_core.specs.declared.geometry.Layout.TheVariants.{Redundant}
use Rattle.envcfg_core.specs.declared.entry.TextFault.TheVariants.{EmptyName, Nul}
use Rattle.envcfg_core.specs.declared.config.ConfigFault.TheVariants.{NoCopy, Size, Overlap, NotUtf8}
use Rattle.envcfg_core.specs.Config.{CopyPlace, config_of}
use Rattle.envcfg_core.specs.Entries.{Entry}
use Rattle.envcfg_core.specs.Export.{exported, is_unreadable}
use Rattle.envcfg_core.specs.Import.{import_of, entries_from, entries_within}
use Rattle.envcfg_core.specs.Numerals.{offset_of, size_of}
use Rattle.envcfg_core.specs.Place.{start_of}
use Rattle.envcfg_core.specs.SetScript.{set_script_of}

entry : List ℕ → Option (List ℕ) → ℕ → Entry
entry name value line = record { name = name; value = value; line = line }

-- a text for import with blanks before a name, a comment, a name alone and an empty value
import_entries : import_of (codes "  a=1\n# x\nb\nc=\n")
    ≡ Ok (entry (codes "a") (Some (codes "1")) 1 ∷ entry (codes "b") None 3 ∷ entry (codes "c") None 4 ∷ [])
unfolding entry entries_from entries_within
import_entries = refl

import_empty_name : import_of (codes "=z") ≡ Err (EmptyName 1)
unfolding entries_from entries_within
import_empty_name = refl

-- a 0 byte anywhere comes before a name that is missing
import_nul : import_of (codes "=x\n" ++ 0 ∷ []) ≡ Err Nul
import_nul = refl

-- a `\` at the end stands for itself
import_backslash_at_end : import_of (codes "a=1\\") ≡ Ok (entry (codes "a") (Some (codes "1\\")) 1 ∷ [])
unfolding entry entries_from entries_within
import_backslash_at_end = refl

-- an escaped newline ends a line too
import_escaped_newline : import_of (codes "a=x\\\ny\nb=1") ≡ Ok (entry (codes "a") (Some (codes "x\ny")) 1 ∷ entry (codes "b") (Some (codes "1")) 3 ∷ [])
unfolding entry entries_from entries_within
import_escaped_newline = refl

export_escapes : exported (codes "m") (codes "x\n\\y") ≡ 0x6D ∷ 0x3D ∷ 0x78 ∷ 0x5C ∷ 0x0A ∷ 0x5C ∷ 0x5C ∷ 0x79 ∷ 0x0A ∷ []
export_escapes = refl

export_comment_name : is_unreadable (codes "#a") ≡ true
export_comment_name = refl

set_script_entries : set_script_of (codes "# c\n\nnetdev  eth0\nfoo a  b\nbar\nk=v w\n")
    ≡ Ok (entry (codes "netdev") (Some (codes "eth0")) 3 ∷ entry (codes "foo") (Some (codes "a  b")) 4 ∷ entry (codes "bar") None 5
    ∷ entry (codes "k") (Some (codes "v w")) 6 ∷ [])
unfolding entry
set_script_entries = refl

place : List ℕ → ℤ → CopyPlace
place device offset = record { device = device; offset = offset }

-- the third accepted line is ignored, and a line that is too short is skipped
config_redundant : config_of (codes "# c\nd 0200000 4000\nshort line\nd -0x4000 0x4000 0x200 1\ne 0 8\n")
    ≡ Ok (record { layout = Redundant; size = 16384; first = place (codes "d") (pos 65536); second = Some (place (codes "d") (negsuc 16383)) })
unfolding place is_utf8 chars encode
config_redundant = refl

config_overlap : config_of (codes "d 0 4000\nd 0x2000 4000\n") ≡ Err Overlap
unfolding is_utf8 chars encode
config_overlap = refl

config_touching : config_of (codes "d 0 4000\nd 0x4000 4000\n")
    ≡ Ok (record { layout = Redundant; size = 16384; first = place (codes "d") (pos 0); second = Some (place (codes "d") (pos 16384)) })
unfolding place is_utf8 chars encode
config_touching = refl

config_small : config_of (codes "d 0 7\n") ≡ Err (Size 1)
unfolding is_utf8 chars encode
config_small = refl

config_two_of_eight : config_of (codes "d 0 8\ne 0 8\n") ≡ Err (Size 1)
unfolding is_utf8 chars encode
config_two_of_eight = refl

config_empty : config_of [] ≡ Err NoCopy
config_empty = refl

config_large : config_of (codes "d 0 FFFFFFFFFFFFFFFFFFFF\n") ≡ Err (Size 1)
unfolding is_utf8 chars encode
config_large = refl

config_not_utf8 : config_of (0xFF ∷ codes " 0 4000") ≡ Err (NotUtf8 1)
unfolding is_utf8 chars encode
config_not_utf8 = refl

offsets : map offset_of (codes "017" ∷ codes "+0X1f" ∷ codes "-0" ∷ codes "-9223372036854775807" ∷ [])
    ≡ Some (pos 15) ∷ Some (pos 31) ∷ Some (pos 0) ∷ Some (negsuc 9223372036854775806) ∷ []
offsets = refl

no_offsets : map offset_of (codes "9223372036854775808" ∷ codes "08" ∷ codes "1f" ∷ codes "0x" ∷ codes "+" ∷ codes "+-1" ∷ [])
    ≡ None ∷ None ∷ None ∷ None ∷ None ∷ None ∷ []
no_offsets = refl

sizes : map size_of (codes "4000" ∷ codes "0X4000" ∷ codes "0x" ∷ codes "40g0" ∷ []) ≡ Some 16384 ∷ Some 16384 ∷ None ∷ None ∷ []
sizes = refl

start_from_front : start_of (pos 65536) 16384 81920 ≡ Some 65536
start_from_front = refl

no_start_from_front : start_of (pos 65536) 16384 81919 ≡ None
no_start_from_front = refl

start_from_end : start_of (negsuc 16383) 16384 16384 ≡ Some 0
start_from_end = refl

no_start_from_end : start_of (negsuc 16383) 16384 16383 ≡ None
no_start_from_end = refl
