-- The configuration, read line by line.
use Rattle.std.specs.Prelude.{◌≡◌, ℕ, ◌+◌, ℤ, pos, negsuc, Bool, false, ◌||◌, ◌&&◌, not, ◌==◌, nat_lt, List, [], ◌∷◌, Option, Some, None, option_map, option_and_then, Result, Ok, Err, string_bytes, if◌then◌else◌}
use Rattle.std.specs.List.{filter_map}
use Rattle.std.specs.Str.{is_utf8, bytes_eq}
use Rattle.envimg_core.specs.declared.geometry.Layout.{Layout}
use Rattle.envimg_core.specs.declared.geometry.Layout.TheVariants.{Single, Redundant}
use Rattle.envcfg_core.specs.declared.config.Config.{Config}
use Rattle.envcfg_core.specs.declared.config.ConfigFault.{ConfigFault}
use Rattle.envcfg_core.specs.declared.config.ConfigFault.TheVariants.{NoCopy, Size, Unequal, Overlap, NotUtf8, Memory}
use Rattle.envcfg_core.specs.declared.place.Place.{Place}
use Rattle.text_parts.specs.Bytes.{begins_with, carriage_return, hash, is_blank}
use Rattle.text_parts.specs.Lines.{Line, numbered_lines}
use Rattle.text_parts.specs.Words.{words_between}
use Rattle.envcfg_core.specs.Sizes.{copy_size, least_size}
use Rattle.envcfg_core.specs.Numerals.{offset_of, size_of}

-- a space, a tab or a carriage return
abbrev pub is_space : ℕ → Bool
is_space b = is_blank b || b == carriage_return

-- the fields of a line: what is between spaces, if something is
abbrev pub fields : List ℕ → List (List ℕ)
fields text = words_between is_space text

-- an accepted line: its number, and its three readable fields
pub record Accepted : Type 0 where
  pub line : ℕ
  pub device : List ℕ
  pub offset : ℤ
  pub size : Option ℕ

abbrev pub accepted_by : ℕ → List (List ℕ) → Option Accepted
accepted_by line [] = None
accepted_by line (device ∷ []) = None
accepted_by line (device ∷ offset ∷ []) = None
accepted_by line (device ∷ offset ∷ size ∷ more) =
    option_and_then (λ z. option_map (λ n. record { line = line; device = device; offset = z; size = copy_size n }) (size_of size)) (offset_of offset)

-- a line is accepted unless it is a comment or has no three readable fields
abbrev pub accepted_line : Line → Option Accepted
accepted_line line = if begins_with hash line.1 then None else accepted_by line.0 (fields line.1)

abbrev pub accepted_lines : List Line → List Accepted
accepted_lines lines = filter_map accepted_line lines

-- where a copy lies
pub record CopyPlace : Type 0 where
  pub device : List ℕ
  pub offset : ℤ

-- what a configuration says
pub record Settings : Type 0 where
  pub layout : Layout
  pub size : ℕ
  pub first : CopyPlace
  pub second : Option CopyPlace

abbrev pub place_of : Accepted → CopyPlace
place_of a = record { device = a.device; offset = a.offset }

-- the size that an accepted line gives, or its first fault
abbrev pub sized : ℕ → Option ℕ → Result ℕ ConfigFault
sized line None = Err (Size line)
sized line (Some n) = Ok n

abbrev pub checked : Accepted → Result ℕ ConfigFault
checked a = if is_utf8 a.device then sized a.line a.size else Err (NotUtf8 a.line)

-- both offsets count from the same end of a device, and the two ranges of this size share a byte
abbrev pub shares_byte : ℤ → ℤ → ℕ → Bool
shares_byte (pos m) (pos n) size = nat_lt m (n + size) && nat_lt n (m + size)
shares_byte (pos m) (negsuc n) size = false
shares_byte (negsuc m) (pos n) size = false
shares_byte (negsuc m) (negsuc n) size = nat_lt m (n + size) && nat_lt n (m + size)

abbrev pub overlap : Accepted → Accepted → ℕ → Bool
overlap a b size = bytes_eq a.device b.device && shares_byte a.offset b.offset size

abbrev pub then_with : {A B : Type 0} → Result A ConfigFault → (A → Result B ConfigFault) → Result B ConfigFault
then_with (Ok x) f = f x
then_with (Err fault) f = Err fault

-- one accepted line is a single image
abbrev pub single_of : Accepted → Result Settings ConfigFault
single_of a = then_with (checked a) (λ size. Ok (record { layout = Single; size = size; first = place_of a; second = None }))

-- two are redundant copies, of one size that such a copy may have, and apart
abbrev pub paired : Accepted → Accepted → ℕ → ℕ → Result Settings ConfigFault
paired a b m n =
    if not (m == n) then Err Unequal
    else if m == least_size then Err (Size a.line)
    else if overlap a b m then Err Overlap
    else Ok (record { layout = Redundant; size = m; first = place_of a; second = Some (place_of b) })

abbrev pub redundant_of : Accepted → Accepted → Result Settings ConfigFault
redundant_of a b = then_with (checked a) (λ m. then_with (checked b) (λ n. paired a b m n))

-- what the accepted lines say; lines after the second are ignored
abbrev pub settings_of : List Accepted → Result Settings ConfigFault
settings_of [] = Err NoCopy
settings_of (a ∷ []) = single_of a
settings_of (a ∷ b ∷ more) = redundant_of a b

-- what a whole configuration is read as
abbrev pub config_of : List ℕ → Result Settings ConfigFault
config_of text = settings_of (accepted_lines (numbered_lines text))

abbrev pub place_view : Place → CopyPlace
place_view p = record { device = string_bytes p.device; offset = p.offset }

abbrev pub config_view : Config → Settings
config_view c = record { layout = c.layout; size = c.size; first = place_view c.first; second = option_map place_view c.second }

-- the fault is the definition's, or memory was refused
abbrev pub IsConfigFaultOf : {A : Type 0} → Result A ConfigFault → ConfigFault → Type 0
IsConfigFaultOf outcome NoCopy = outcome ≡ Err NoCopy
IsConfigFaultOf outcome (Size line) = outcome ≡ Err (Size line)
IsConfigFaultOf outcome Unequal = outcome ≡ Err Unequal
IsConfigFaultOf outcome Overlap = outcome ≡ Err Overlap
IsConfigFaultOf outcome (NotUtf8 line) = outcome ≡ Err (NotUtf8 line)
IsConfigFaultOf outcome Memory = Unit {0}
