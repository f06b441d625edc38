-- The table of the command line, as the code has it (docs/tools.md, "The command line").
use Rattle.std.specs.Prelude.{Bool, List, map}
use Rattle.std.specs.Str.{bytes_eq}
use Rattle.clap.specs.Words.{Text}
use Rattle.fw_arguments.specs.declared.program_name.Subcommand.{Subcommand}
use Rattle.fw_arguments.specs.declared.program_name.Subcommand.TheVariants as sub
use Rattle.fw_arguments.specs.declared.table.CommandRow.{CommandRow}
use Rattle.fw_arguments.specs.declared.table.Names.{Names}
use Rattle.fw_arguments.specs.declared.table.Names.TheVariants.{Operand, Letter, Long, Both, More}
use Rattle.fw_arguments.specs.declared.table.OptionRow.{OptionRow}
use Rattle.fw_arguments.specs.declared.table.Takes.{Takes}
use Rattle.fw_arguments.specs.declared.table.Takes.TheVariants.{Nothing, Version, One, Wanted, Any, Many, Usual}
use Rattle.fw_arguments.specs.declared.command_rows.TheConstants.{PRINTENV, SETENV, IMPORT, EXPORT, RESTORE, STATUS, FIND, IMAGE, RUN, BOOT, CHECK, SESSION}

-- a row with plain texts, and a command's
pub record Row : Type 0 where
  pub id : Text
  pub names : Names Text
  pub takes : Takes Text

pub record Called : Type 0 where
  pub name : Text
  pub has_version : Bool
  pub options : List Row

abbrev pub names_view : {T : Type 0} → (T → Text) → Names T → Names Text
names_view text Operand = Operand
names_view text (Letter c) = Letter c
names_view text (Long name) = Long (text name)
names_view text (Both c name) = Both c (text name)
names_view text (More c name alias) = More c (text name) (text alias)

abbrev pub takes_view : {T : Type 0} → (T → Text) → Takes T → Takes Text
takes_view text Nothing = Nothing
takes_view text Version = Version
takes_view text (One name) = One (text name)
takes_view text (Wanted name) = Wanted (text name)
takes_view text (Any name) = Any (text name)
takes_view text (Many name) = Many (text name)
takes_view text (Usual name usual) = Usual (text name) (text usual)

abbrev pub row_view : {T : Type 0} → (T → Text) → OptionRow T → Row
row_view text r = record { id = text r.id; names = names_view text r.names; takes = takes_view text r.takes }

abbrev pub called_view : {T O : Type 0} → (T → Text) → (O → List (OptionRow T)) → CommandRow T O → Called
called_view text list c = record { name = text c.name; has_version = c.has_version; options = map (row_view text) (list c.options) }

-- the same of the table's constants
abbrev pub seen : CommandRow (record { now : Text }) (record { now : List (OptionRow (record { now : Text })) }) → Called
seen c = called_view (λ t. t.now) (λ o. o.now) c

abbrev pub row_of : Subcommand → Called
row_of sub.Printenv = seen PRINTENV
row_of sub.Setenv = seen SETENV
row_of sub.Import = seen IMPORT
row_of sub.Export = seen EXPORT
row_of sub.Restore = seen RESTORE
row_of sub.Status = seen STATUS
row_of sub.Find = seen FIND
row_of sub.Image = seen IMAGE
row_of sub.Run = seen RUN
row_of sub.Boot = seen BOOT
row_of sub.Check = seen CHECK
row_of sub.Session = seen SESSION

abbrev pub is_called : Text → Subcommand → Bool
is_called name s = bytes_eq (row_of s).name name
