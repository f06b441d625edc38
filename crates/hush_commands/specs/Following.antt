-- What follows a simple command (docs/runs.md, "Commands").
use Rattle.std.specs.Prelude.{ℕ, List, ◌∷◌, codes, drop, Option, Some, None}
use Rattle.hush_commands.specs.declared.departure.Leaving.{Leaving}
use Rattle.hush_commands.specs.declared.departure.Leaving.TheVariants.{Asks}
use Rattle.hush_commands.specs.Departures.{leaving_with}
use Rattle.hush_commands.specs.declared.command.Command.{Command}
use Rattle.hush_commands.specs.declared.command.Command.TheVariants as command
use Rattle.hush_commands.specs.declared.follow.Follow.{Follow}
use Rattle.hush_commands.specs.declared.follow.Follow.TheVariants as follow
use Rattle.hush_commands.specs.Commands.{command_in}
use Rattle.hush_commands.specs.declared.board_rules.Reply.{Reply}
use Rattle.hush_commands.specs.declared.board_rules.Reply.TheVariants.{Status, Text, Lacks}
use Rattle.hush_commands.specs.Hardware.{Hardware, answer_to, open_file}
use Rattle.hush_commands.specs.declared.shell.Shell.{Shell}
use Rattle.hush_commands.specs.declared.shell.Shell.TheVariants.{Strict, Board}

-- the end of the run if the board is left by a call of this name with the words after it
abbrev pub departing : (called : List ℕ) → (fields : List (List ℕ)) → Option Leaving → Follow
departing called fields None = follow.Next
departing called fields (Some leaving) = follow.End (Some (record { leaving = leaving; words = called ∷ drop 1 fields }))

-- a command that leaves the board ends the run if its status is 0; a text is started
abbrev pub follow_reply : (called : List ℕ) → (fields : List (List ℕ)) → Reply → Follow
follow_reply called fields (Status status leaves) = departing called fields (leaving_with leaves status)
follow_reply called fields (Text text) = follow.Answers fields text
follow_reply called fields Lacks = follow.Next

abbrev pub follow_to : (called : List ℕ) → (fields : List (List ℕ)) → Option Reply → Follow
follow_to called fields None = follow.Next
follow_to called fields (Some reply) = follow_reply called fields reply

-- a `test` ends the run at a file of which the board has to be asked
abbrev pub asking : Option (List (List ℕ)) → Follow
asking None = follow.Next
asking (Some words) = follow.End (Some (record { leaving = Asks; words = codes "test" ∷ words }))

abbrev pub asked_file : Shell → Hardware → (words : List (List ℕ)) → Option (List (List ℕ))
asked_file Strict stand_ins words = None
asked_file Board stand_ins words = open_file stand_ins words

-- an `exit` ends the run; on a board it ends the text that it is in
abbrev pub exit_follow : Shell → Follow
exit_follow Strict = follow.End None
exit_follow Board = follow.Leaves

abbrev pub follow_by : Shell → Hardware → Command → Follow
follow_by shell stand_ins command.Nothing = follow.Next
follow_by shell stand_ins command.True = follow.Next
follow_by shell stand_ins command.False = follow.Next
follow_by shell stand_ins (command.Echo newline words) = follow.Next
follow_by shell stand_ins (command.Set force name words) = follow.Next
follow_by shell stand_ins (command.Print all names) = follow.Next
follow_by shell stand_ins command.Save = follow.Next
follow_by shell stand_ins (command.Run names) = follow.Starts names
follow_by shell stand_ins (command.Delete force names) = follow.Deletes force names
follow_by shell stand_ins (command.Exists name) = follow.Next
follow_by shell stand_ins (command.Test words) = asking (asked_file shell stand_ins words)
follow_by shell stand_ins (command.Calculate called words) = follow.Next
follow_by shell stand_ins (command.Exit own) = exit_follow shell
follow_by shell stand_ins (command.WrongUse called) = follow.Next
follow_by shell stand_ins (command.Other called fields) = follow_to called fields (answer_to stand_ins called fields)

-- what follows the command of these fields
abbrev pub follow_of : Shell → Hardware → List (List ℕ) → Follow
follow_of shell stand_ins fields = follow_by shell stand_ins (command_in shell stand_ins fields)
