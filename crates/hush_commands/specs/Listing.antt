-- What `printenv` prints (docs/runs.md, "Commands").
use Rattle.std.specs.Prelude.{ℕ, ◌||◌, Bool, not, List, [], ◌∷◌, ◌++◌, codes, filter, Option, Some, None, is_some, Result, Ok, Err, ◌≡◌}
use Rattle.std.specs.List.{flat_map, list_all}
use Rattle.std.specs.FinMap.{get, entries}
use Rattle.envimg_core.specs.Environment.{Environment, Pair}
use Rattle.text_parts.specs.Bytes.{begins_with}
use Rattle.hush_commands.specs.declared.output.PrintFault.{PrintFault}
use Rattle.hush_commands.specs.declared.messages.Message.TheVariants.{NotDefined}
use Rattle.hush_commands.specs.Messages.{text_of}
use Rattle.hush_commands.specs.Output.{Answer, answer, Printed, Prints, status_if}

-- name=value and a newline
abbrev pub line_of : Pair → List ℕ
line_of p = p.0 ++ (codes "=" ++ (p.1 ++ codes "\n"))

abbrev pub dot : ℕ
dot = 46

-- a name that begins with `.` is hidden
abbrev pub is_hidden : List ℕ → Bool
is_hidden name = begins_with dot name

-- hidden names are shown only if all are asked for
abbrev pub is_shown : (all : Bool) → Pair → Bool
is_shown all p = all || not (is_hidden p.0)

abbrev pub lines_of : (all : Bool) → List Pair → List ℕ
lines_of all ps = flat_map line_of (filter (is_shown all) ps)

-- the line of a name, or that it isn't defined
abbrev pub named_line : List ℕ → Option (List ℕ) → List ℕ
named_line name None = text_of NotDefined name
named_line name (Some value) = line_of (name, value)

abbrev pub line_in : Environment → List ℕ → List ℕ
line_in env name = named_line name (get env name)

abbrev pub is_defined : Environment → List ℕ → Bool
is_defined env name = is_some (get env name)

-- without names all lines in order of names; with names theirs, and status 1 if one isn't defined
abbrev pub listed : (all : Bool) → Environment → List (List ℕ) → Answer
listed all env [] = answer 0 (lines_of all (entries env))
listed all env (name ∷ names) = answer (status_if (list_all (is_defined env) (name ∷ names))) (flat_map (line_in env) (name ∷ names))

-- a name is printed, and whether it is defined is returned
abbrev pub PrintsNamed : Environment → List ℕ → Printed → Printed → Result Bool PrintFault → Type 0
PrintsNamed env name old new (Ok defined) = (defined ≡ is_defined env name) × Prints (line_in env name) old new (Ok tt)
PrintsNamed env name old new (Err fault) = Prints (line_in env name) old new (Err fault)
