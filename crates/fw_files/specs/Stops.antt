-- Why a subcommand can't go on with its files (docs/tools.md, "Subcommands over files").
use Rattle.std.specs.Prelude.{◌≡◌, List, ℕ, Option, true, ⊤}
use Rattle.envcfg_core.specs.declared.config.Config.{Config}
use Rattle.fw_files.specs.Copies.{overlap}
use Rattle.fw_files.specs.declared.copies.ReadCopy.{ReadCopy}
use Rattle.fw_files.specs.declared.stop.Stop.{Stop}
use Rattle.fw_files.specs.declared.stop.Stop.TheVariants as stop

-- it is about the file at this path, or memory ran out
abbrev pub IsAbout : (path : List ℕ) → Stop → Type 0
IsAbout path stop.Memory = ⊤
IsAbout path (stop.File other fault) = other.now ≡ path
IsAbout path other = ⊥

-- copies that a configuration names share a byte of one device
abbrev pub MayOverlap : Config → Type 0
MayOverlap config = (first : ReadCopy) × (second : Option ReadCopy) × (overlap config first second ≡ true)

-- why the copies that a configuration names can't be read
abbrev pub IsCopyStop : Config → Stop → Type 0
IsCopyStop config stop.Memory = ⊤
IsCopyStop config (stop.Copy named fault) = named ≡ config
IsCopyStop config stop.Overlap = MayOverlap config
IsCopyStop config other = ⊥
