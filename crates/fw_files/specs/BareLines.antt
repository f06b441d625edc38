-- Entries without `=`, which an environment can't have (docs/tools.md, "Default environment").
use Rattle.std.specs.Prelude.{ℕ, ◌==◌, List, [], ◌∷◌, Option, Some, None, if◌then◌else◌}
use Rattle.std.specs.List.{list_any}
use Rattle.envcfg_core.specs.Entries.{Entry}
use Rattle.envimg_core.specs.Environment.{is_equals}
use Rattle.fw_arguments.specs.declared.given_text.TextForm.{TextForm}
use Rattle.fw_arguments.specs.declared.given_text.TextForm.TheVariants.{Import, Initial}
use Rattle.text_parts.specs.Lines.{Line, numbered_lines}

-- the first of the lines in which these entries begin, one after the other, that has no `=`
abbrev pub bare_among : List Line → List Entry → Option ℕ
bare_among [] entries = None
bare_among (line ∷ lines) [] = None
bare_among (line ∷ lines) (e ∷ es) =
    if e.line == line.0 then (if list_any is_equals line.1 then bare_among lines es else Some line.0)
    else bare_among lines (e ∷ es)

abbrev pub bare_line : List ℕ → List Entry → Option ℕ
bare_line text entries = bare_among (numbered_lines text) entries

-- only a text for import is looked at, and lines as U-Boot's build prints them
abbrev pub bare_in : TextForm → List ℕ → List Entry → Option ℕ
bare_in Import text entries = bare_line text entries
bare_in Initial text entries = bare_line text entries
bare_in form text entries = None
