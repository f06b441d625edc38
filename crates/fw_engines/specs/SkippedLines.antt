-- The lines of a configuration that are skipped (docs/texts.md, "Configuration").
use Rattle.std.specs.Prelude.{ℕ, ◌-◌, ◌==◌, Bool, true, false, List, [], ◌∷◌, Result, Err, if◌then◌else◌}
use Rattle.std.specs.List.{list_all}
use Rattle.envcfg_core.specs.Config.{Settings, config_of, is_space}
use Rattle.envcfg_core.specs.declared.config.ConfigFault.{ConfigFault}
use Rattle.envcfg_core.specs.declared.config.ConfigFault.TheVariants.{NoCopy}
use Rattle.text_parts.specs.Bytes.{begins_with, hash}
use Rattle.text_parts.specs.Lines.{Line, numbered_lines}

abbrev pub has_no_copy : Result Settings ConfigFault → Bool
has_no_copy (Err NoCopy) = true
has_no_copy other = false

-- as a configuration of its own it names no copy
abbrev pub names_no_copy : List ℕ → Bool
names_no_copy line = has_no_copy (config_of line)

-- a comment, or nothing but spaces
abbrev pub is_idle : List ℕ → Bool
is_idle line = if begins_with hash line then true else list_all is_space line

-- one more line, which isn't idle: it is taken if it names a copy and `wanted` isn't 0 yet
abbrev pub with_line : Bool → ℕ → ℕ → (ℕ → List ℕ) → List ℕ
with_line true wanted number later = number ∷ later wanted
with_line false wanted number later = if wanted == 0 then number ∷ later 0 else later (wanted - 1)

-- the numbers of those that are neither idle nor taken, while `wanted` copies are looked for
abbrev pub skipped_among : List Line → ℕ → List ℕ
skipped_among [] wanted = []
skipped_among (line ∷ lines) wanted =
    if is_idle line.1 then skipped_among lines wanted
    else with_line (names_no_copy line.1) wanted line.0 (skipped_among lines)

-- the lines that are skipped: two name the copies
abbrev pub skipped_lines : List ℕ → List ℕ
skipped_lines text = skipped_among (numbered_lines text) 2
