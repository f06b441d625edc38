-- What export prints (docs/tools.md, "The tools over a session").
use Rattle.std.specs.Prelude.{ℕ, List, [], ◌∷◌, codes, if◌then◌else◌}
use Rattle.std.specs.List.{flat_map}
use Rattle.std.specs.FinMap.{entries}
use Rattle.envimg_core.specs.Environment.{Environment, Pair}
use Rattle.envcfg_core.specs.Export.{exported, is_unreadable}
use Rattle.fw_engines.specs.Messages.{about}
use Rattle.fw_engines.specs.Tool.{Texts}

-- a variable in text form, if its name can be read back
abbrev pub export_text : Pair → List ℕ
export_text p = if is_unreadable p.0 then [] else exported p.0 p.1

-- else a message
abbrev pub export_message : Pair → List ℕ
export_message p = if is_unreadable p.0 then about (codes "## Error: can't export \"") p.0 else []

-- the status of a tool with these messages
abbrev pub status_for : List ℕ → ℕ
status_for [] = 0
status_for (b ∷ bs) = 1

-- every variable in ascending order of the names' bytes; the status is 1 if there is a message
abbrev pub export_texts : Environment → Texts
export_texts env = record {
  output = flat_map export_text (entries env);
  errors = flat_map export_message (entries env);
  status = status_for (flat_map export_message (entries env));
}
