-- What a run prints when a command fails (docs/runs.md, "Messages").
use Rattle.std.specs.Prelude.{ℕ, List, [], ◌++◌, codes}
use Rattle.envvars_core.specs.Refusals.{before_name, after_name}
use Rattle.hush_commands.specs.declared.messages.Message.{Message}
use Rattle.hush_commands.specs.declared.messages.Message.TheVariants.{NotDefined, UnknownCommand, WrongUse, Refused, IsVariable, NoScript, DivisionByZero}

-- what is before the name, the name, and what is after it up to the newline
abbrev pub parts_of : Message → List ℕ → List ℕ × List ℕ × List ℕ
parts_of NotDefined name = (codes "## Error: \"", name, codes "\" not defined\n")
parts_of UnknownCommand name = (codes "Unknown command '", name, codes "' - try 'help'\n")
parts_of WrongUse name = (codes "## Error: wrong use of '", name, codes "'\n")
parts_of (Refused refusal) name = (before_name refusal, name, after_name refusal)
parts_of IsVariable name = (codes "## Error: \"", name, codes "\" is an environment variable\n")
parts_of NoScript name = (codes "## Error: syntax error in \"", name, codes "\"\n")
parts_of DivisionByZero name = (codes "## Error: division by zero", [], codes "\n")

-- the text of a message about a name
abbrev pub text_of : Message → List ℕ → List ℕ
text_of message name = (parts_of message name).0 ++ ((parts_of message name).1 ++ (parts_of message name).2)
