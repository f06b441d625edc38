-- Which commands save (docs/runs.md, "Commands").
use Rattle.std.specs.Prelude.{ℕ, Bool, true, false, List}
use Rattle.hush_commands.specs.declared.command.Command.{Command}
use Rattle.hush_commands.specs.declared.command.Command.TheVariants as command
use Rattle.hush_commands.specs.declared.shell.Shell.{Shell}
use Rattle.hush_commands.specs.Hardware.{Hardware}
use Rattle.hush_commands.specs.Commands.{command_in}

-- whether a command does
abbrev pub saves : Command → Bool
saves command.Nothing = false
saves command.True = false
saves command.False = false
saves (command.Echo newline words) = false
saves (command.Set force name words) = false
saves (command.Print all names) = false
saves command.Save = true
saves (command.Run names) = false
saves (command.Delete force names) = false
saves (command.Exists name) = false
saves (command.Test words) = false
saves (command.Calculate called words) = false
saves (command.Exit own) = false
saves (command.WrongUse called) = false
saves (command.Other called fields) = false

-- whether the command of these fields does
unfoldable pub is_save : Shell → Hardware → List (List ℕ) → Bool
is_save shell stand_ins fields = saves (command_in shell stand_ins fields)
