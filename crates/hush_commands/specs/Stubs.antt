-- Stand-in files (docs/runs.md, "Stand-ins").
use Rattle.std.specs.Prelude.{◌≡◌, refl, ℕ, ◌==◌, Bool, true, false, ◌&&◌, List, [], ◌∷◌, Option, Some, None, option_map, Result, Ok, Err, if◌then◌else◌}
use Rattle.std.specs.Ordering.{nat_cmp}
use Rattle.std.specs.Cmp.Lexicographic.{slice_cmp}
use Rattle.std.specs.declared.cmp.Ordering.{Ordering}
use Rattle.std.specs.FinMap as names
use Rattle.std.specs.FinMap.{FinMap}
use Rattle.std.specs.Coded.{Coded, code_by, coded×, coded_list, coded_option, coded_ℕ}
use Rattle.std.specs.Str.Lines.{strip_carriage_return}
use Rattle.text_parts.specs.Lines.{Line as NumberedLine, numbered_lines}
use Rattle.hush_commands.specs.declared.departure.Leaving.{Leaving}
use Rattle.hush_commands.specs.Departures.{leaving_code, leaving_with}
use Rattle.hush_commands.specs.declared.stand_ins.Role.{Role}
use Rattle.hush_commands.specs.declared.stand_in_line.StubFault.{StubFault}
use Rattle.hush_commands.specs.declared.stand_in_line.StubFault.TheVariants.{Line, Builtin, Twice, Memory}
use Rattle.hush_commands.specs.StandInLines.{StandInLine, read_line}

-- names in the order of their bytes
abbrev pub name_order : List ℕ → List ℕ → Ordering
name_order = slice_cmp nat_cmp

-- what each name that has a stand-in does: the status that it answers, and how it leaves the board
abbrev pub Statuses : Type 0
Statuses = FinMap name_order Role

abbrev role_code : Coded Role
role_code =
    code_by (ℕ × Option Leaving) (coded× coded_ℕ (coded_option leaving_code)) (λ r. (r.status, r.leaves)) (λ p. record { status = p.0; leaves = p.1 }) (λ _. refl)

abbrev pub statuses_code : Coded Statuses
statuses_code = names.code (coded_list coded_ℕ) role_code

-- the status of a name, if it has a stand-in
abbrev pub status_of_name : Statuses → List ℕ → Option ℕ
status_of_name stand_ins name = option_map (λ role. role.status) (names.get stand_ins name)

-- how a stand-in leaves the board
abbrev pub leaving_of : Option Role → Option Leaving
leaving_of None = None
leaving_of (Some role) = leaving_with role.leaves role.status

-- the same when a stand-in of this name leaves the board; a name without one changes nothing
abbrev pub leaving_by : Leaving → Statuses → List ℕ → Option ℕ → Statuses
leaving_by leaving stand_ins name None = stand_ins
leaving_by leaving stand_ins name (Some status) = names.insert stand_ins name (record { status = status; leaves = Some leaving })

abbrev pub with_leaving : Leaving → Statuses → List ℕ → Statuses
with_leaving leaving stand_ins name = leaving_by leaving stand_ins name (status_of_name stand_ins name)

-- what a stand-in file is read as
abbrev pub StubsOrFault : Type 0
StubsOrFault = Result Statuses StubFault

-- the stand-ins with one more, which comes back, unless the name has one already
abbrev pub with_stand_in : ℕ → Statuses → List ℕ → ℕ → StubsOrFault
with_stand_in number statuses name status =
    if names.contains_key statuses name then Err (Twice number) else Ok (names.insert statuses name (record { status = status; leaves = None }))

-- the stand-ins with what a line holds
abbrev pub with_read : ℕ → Statuses → StandInLine → StubsOrFault
with_read number statuses (Err fault) = Err fault
with_read number statuses (Ok None) = Ok statuses
with_read number statuses (Ok (Some stand_in)) = with_stand_in number statuses stand_in.0 stand_in.1

abbrev pub with_line : Statuses → NumberedLine → StubsOrFault
with_line statuses line = with_read line.0 statuses (read_line line.0 (strip_carriage_return line.1))

abbrev pub and_then : StubsOrFault → (Statuses → StubsOrFault) → StubsOrFault
and_then (Ok statuses) next = next statuses
and_then (Err fault) next = Err fault

-- line by line, as far as the first that is at fault
abbrev pub with_lines : Statuses → List NumberedLine → StubsOrFault
with_lines statuses [] = Ok statuses
with_lines statuses (line ∷ lines) = and_then (with_line statuses line) (λ more. with_lines more lines)

-- what a whole stand-in file is read as
abbrev pub stand_ins_of : List ℕ → StubsOrFault
stand_ins_of text = with_lines names.empty (numbered_lines text)

-- the fault is the definition's, or memory was refused
abbrev pub IsFaultOf : StubsOrFault → StubFault → Type 0
IsFaultOf outcome (Line number) = outcome ≡ Err (Line number)
IsFaultOf outcome (Builtin number) = outcome ≡ Err (Builtin number)
IsFaultOf outcome (Twice number) = outcome ≡ Err (Twice number)
IsFaultOf outcome Memory = Unit {0}
