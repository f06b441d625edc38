-- What a simple command does (docs/runs.md, "Commands").
use Rattle.std.specs.Prelude.{◌≡◌, ℕ, ◌<◌, ◌≤◌, Bool, true, false, if◌then◌else◌, List, [], ◌++◌, codes, length, Option, Some, None, unwrap_or, is_some, get_or, Result, Ok, Err}
use Rattle.std.specs.FinMap as names
use Rattle.envvars_core.specs.declared.refusals.Memory.{Memory}
use Rattle.env_session.specs.Session.{Held, saved, side_of}
use Rattle.text_parts.specs.Words.{spaced}
use Rattle.hush_commands.specs.declared.command.Command.{Command}
use Rattle.hush_commands.specs.declared.command.Command.TheVariants as command
use Rattle.hush_commands.specs.declared.follow.Follow.{Follow}
use Rattle.hush_commands.specs.declared.messages.Message.TheVariants as message
use Rattle.hush_commands.specs.declared.output.PrintFault.{PrintFault}
use Rattle.hush_commands.specs.declared.output.PrintFault.TheVariants as fault
use Rattle.hush_commands.specs.declared.writes.Complaint.{Complaint}
use Rattle.hush_commands.specs.declared.board_rules.Reply.{Reply}
use Rattle.hush_commands.specs.declared.board_rules.Reply.TheVariants.{Status, Text, Lacks}
use Rattle.hush_commands.specs.Hardware.{Hardware, answer_to}
use Rattle.hush_commands.specs.declared.shell.Shell.{Shell}
use Rattle.hush_commands.specs.Shells.{kept_status, exit_status, test_by}
use Rattle.hush_commands.specs.Messages.{text_of}
use Rattle.hush_commands.specs.Output.{Printed, printed, Answer, answer, Answers, LacksRoom, OnMemory, status_if}
use Rattle.hush_commands.specs.Commands.{command_in}
use Rattle.hush_commands.specs.Following.{asked_file}
use Rattle.hush_commands.specs.Listing.{listed}
use Rattle.hush_commands.specs.Saving.{saved_line}
use Rattle.hush_commands.specs.Writing.{Change, write_of, calculated_of}

-- what a command answers, and the session that it leaves
abbrev pub Done : Type 0
Done = Answer × Held

abbrev pub quiet : ℕ → Held → Done
quiet status held = (answer status [], held)

-- echo: the words, and perhaps a newline
abbrev pub line_end : (newline : Bool) → List ℕ
line_end newline = if newline then codes "\n" else []

abbrev pub echo_of : (newline : Bool) → List (List ℕ) → Answer
echo_of newline words = answer 0 (spaced words ++ line_end newline)

-- a stand-in prints its fields, its name first, and has its own status
abbrev pub stand_in_of : ℕ → (fields : List (List ℕ)) → Answer
stand_in_of status fields = answer status (codes "+ " ++ (spaced fields ++ codes "\n"))

-- a command that isn't there is told as it was written
abbrev pub unknown : (called : List ℕ) → (fields : List (List ℕ)) → Answer
unknown called fields = answer 1 (text_of message.UnknownCommand (get_or fields 0 called))

-- no builtin: what answers the call, if something does. A text leaves the status, since its start follows
abbrev pub other_of : Option Reply → (status : ℕ) → (called : List ℕ) → (fields : List (List ℕ)) → Answer
other_of (Some (Status own leaves)) status called fields = stand_in_of own fields
other_of (Some (Text text)) status called fields = stand_in_of status fields
other_of (Some Lacks) status called fields = unknown called fields
other_of None status called fields = unknown called fields

-- a write, and its complaint
abbrev pub told : Change → Done
told (None, held) = quiet 0 held
told (Some (message, name), held) = (answer 1 (text_of message name), held)

-- a save
abbrev pub save_of : Held → Done
save_of held = (answer 0 (saved_line (side_of held)), saved held)

-- the status is the one before the command
abbrev pub done_by : Shell → Hardware → Command → (status : ℕ) → Held → Done
done_by shell stand_ins command.Nothing status held = quiet (kept_status shell status) held
done_by shell stand_ins command.True status held = quiet 0 held
done_by shell stand_ins command.False status held = quiet 1 held
done_by shell stand_ins (command.Echo newline words) status held = (echo_of newline words, held)
done_by shell stand_ins (command.Set force name words) status held = told (write_of held name (spaced words) force)
done_by shell stand_ins (command.Print all names) status held = (listed all held.now.env names, held)
done_by shell stand_ins command.Save status held = save_of held
done_by shell stand_ins (command.Run names) status held = quiet status held
done_by shell stand_ins (command.Delete force names) status held = quiet status held
done_by shell stand_ins (command.Exists name) status held = quiet (status_if (is_some (names.get held.now.env name))) held
done_by shell stand_ins (command.Test words) status held = quiet (status_if (test_by shell stand_ins words)) held
done_by shell stand_ins (command.Calculate called words) status held = told (calculated_of held called words)
done_by shell stand_ins (command.Exit own) status held = quiet (unwrap_or own (exit_status shell status)) held
done_by shell stand_ins (command.WrongUse called) status held = (answer 1 (text_of message.WrongUse called), held)
done_by shell stand_ins (command.Other called fields) status held = (other_of (answer_to stand_ins called fields) status called fields, held)

-- what the command of these fields does
abbrev pub done_of : Shell → Hardware → List (List ℕ) → (status : ℕ) → Held → Done
done_of shell stand_ins fields status held = done_by shell stand_ins (command_in shell stand_ins fields) status held

-- A name of `env delete`.
-- the status is 1 also if an earlier name failed
abbrev pub deletion_told : (failed : Bool) → Change → Done
deletion_told failed (None, held) = quiet (if failed then 1 else 0) held
deletion_told failed (Some (message, name), held) = (answer 1 (text_of message name), held)

abbrev pub deletion_by : Held → (name : List ℕ) → (force failed : Bool) → Option (List ℕ) → Done
deletion_by held name force failed None = (answer 1 (text_of message.NotDefined name), held)
deletion_by held name force failed (Some value) = deletion_told failed (write_of held name [] force)

-- a name that is absent has a message; one that is there is deleted, or the refusal has a message
abbrev pub deletion_of : Held → (name : List ℕ) → (force failed : Bool) → Done
deletion_of held name force failed = deletion_by held name force failed (names.get held.now.env name)

-- a command did this; or its text doesn't fit, or memory was refused, and the session is as it was
abbrev pub Attempts : Done → Held → Held → Printed → Printed → Result ℕ PrintFault → Type 0
Attempts done held after old new (Ok status) = (after ≡ done.1) × Answers done.0 old new (Ok status)
Attempts done held after old new (Err fault) = (after ≡ held) × Answers done.0 old new (Err fault)

-- a command did this, and its text fits; or it doesn't fit, or memory was refused, and nothing has changed
abbrev pub Carries : Done → Held → Held → Printed → Printed → Result ℕ PrintFault → Type 0
Carries done held after old new (Ok status) =
    (length (old.text ++ done.0.text) ≤ old.limit) × (status ≡ done.0.status) × (after ≡ done.1) × (new ≡ printed (old.text ++ done.0.text) old.limit)
Carries done held after old new (Err fault.Output) =
    (old.limit < length (old.text ++ done.0.text)) × (after ≡ held) × (new ≡ old)
Carries done held after old new (Err fault.Memory) = (after ≡ held) × (new ≡ old)

-- whether a command takes memory for more than its text; a `test` does only for a file of which the board has to be asked
abbrev pub takes_more : Shell → Hardware → Command → Bool
takes_more shell stand_ins command.Nothing = false
takes_more shell stand_ins command.True = false
takes_more shell stand_ins command.False = false
takes_more shell stand_ins (command.Echo newline words) = true
takes_more shell stand_ins (command.Set force name words) = true
takes_more shell stand_ins (command.Print all names) = true
takes_more shell stand_ins command.Save = true
takes_more shell stand_ins (command.Run names) = true
takes_more shell stand_ins (command.Delete force names) = true
takes_more shell stand_ins (command.Exists name) = false
takes_more shell stand_ins (command.Test words) = is_some (asked_file shell stand_ins words)
takes_more shell stand_ins (command.Calculate called words) = true
takes_more shell stand_ins (command.Exit own) = false
takes_more shell stand_ins (command.WrongUse called) = false
takes_more shell stand_ins (command.Other called fields) = true

-- if memory is refused to a command that takes it for its text alone, it has a text, and the text fits
abbrev pub RefusedBy : (more : Bool) → (text : List ℕ) → Printed → Result ℕ PrintFault → Type 0
RefusedBy true text old result = Unit {0}
RefusedBy false text old result = OnMemory result (LacksRoom text old)

abbrev pub IsRefused : Shell → Hardware → Command → Done → Printed → Result ℕ PrintFault → Type 0
IsRefused shell stand_ins command done old result = RefusedBy (takes_more shell stand_ins command) done.0.text old result

-- the status that a command answers, without what follows it
abbrev pub status_in : Result (ℕ × Follow) PrintFault → Result ℕ PrintFault
status_in (Ok (status, follow)) = Ok status
status_in (Err fault) = Err fault

-- the complaint of a write is reported, if it has one
abbrev pub Tells : Result (Option Complaint) Memory → Printed → Printed → Result ℕ PrintFault → Type 0
Tells (Ok None) old new result = (result ≡ Ok 0) × (new ≡ old)
Tells (Ok (Some complaint)) old new result = Answers (answer 1 (text_of complaint.message complaint.name.now)) old new result
Tells (Err refused) old new result = (result ≡ Err fault.Memory) × (new ≡ old)
