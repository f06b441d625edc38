-- What a command leaves: the session as it was, one write, or a save.
use Rattle.std.proofs.Common.{◌≡◌, ◌⊎◌, ℕ, Bool, false, List, [], Option, Some, None, Ok, Err, inl, inr, refl}
use Rattle.std.specs.FinMap as names
use Rattle.env_session.specs.Session.{Held, saved}
use Rattle.env_session.specs.Requests.{write_done}
use Rattle.hush_calc.specs.Setexpr.{Answer, setexpr_of}
use Rattle.hush_calc.specs.declared.calculation.SetexprFault.TheVariants as fault
use Rattle.hush_commands.specs.declared.command.Command.{Command}
use Rattle.hush_commands.specs.declared.command.Command.TheVariants as command
use Rattle.hush_commands.specs.Hardware.{Hardware}
use Rattle.hush_commands.specs.declared.shell.Shell.{Shell}
use Rattle.text_parts.specs.Words.{spaced}
use Rattle.hush_commands.specs.Writing.{Change, write_of, calculated_by, calculated_of}
use Rattle.hush_commands.specs.Commands.{command_in}
use Rattle.hush_commands.specs.Carrying.{told, done_by, done_of, deletion_told, deletion_by, deletion_of}

abbrev pub Leaves : Held → Held → Type 0
Leaves h after =
    (after ≡ h) ⊎ ((after ≡ saved h) ⊎ ((name : List ℕ) × (text : List ℕ) × (force : Bool) × (after ≡ write_done h name (Some text) force)))

kept : (h : Held) → Leaves h h
kept h = inl refl

written : (h : Held) (name text : List ℕ) (force : Bool) → Leaves h (write_of h name text force).1
written h name text force = inr (inr (name, text, force, refl))

told_leaves : (h : Held) (c : Change) → Leaves h c.1 → Leaves h (told c).1
told_leaves h (None, after) leaves = leaves
told_leaves h (Some (message, name), after) leaves = leaves

calculated_leaves : (h : Held) (called : List ℕ) (answer : Answer) → Leaves h (calculated_by h called answer).1
calculated_leaves h called (Ok (name, text)) = inr (inr (name, text, false, refl))
calculated_leaves h called (Err fault.WrongUse) = kept h
calculated_leaves h called (Err fault.DivisionByZero) = kept h

command_leaves : (shell : Shell) (stand_ins : Hardware) (c : Command) (status : ℕ) (h : Held) → Leaves h (done_by shell stand_ins c status h).1
command_leaves shell stand_ins command.Nothing status h = kept h
command_leaves shell stand_ins command.True status h = kept h
command_leaves shell stand_ins command.False status h = kept h
command_leaves shell stand_ins (command.Echo newline words) status h = kept h
command_leaves shell stand_ins (command.Set force name words) status h = told_leaves h (write_of h name (spaced words) force) (written h name (spaced words) force)
command_leaves shell stand_ins (command.Print all names) status h = kept h
command_leaves shell stand_ins command.Save status h = inr (inl refl)
command_leaves shell stand_ins (command.Run names) status h = kept h
command_leaves shell stand_ins (command.Delete force names) status h = kept h
command_leaves shell stand_ins (command.Exists name) status h = kept h
command_leaves shell stand_ins (command.Test words) status h = kept h
command_leaves shell stand_ins (command.Calculate called words) status h = told_leaves h (calculated_of h called words) (calculated_leaves h called (setexpr_of words))
command_leaves shell stand_ins (command.Exit own) status h = kept h
command_leaves shell stand_ins (command.WrongUse called) status h = kept h
command_leaves shell stand_ins (command.Other called words) status h = kept h

pub done_leaves : (shell : Shell) (stand_ins : Hardware) (fields : List (List ℕ)) (status : ℕ) (h : Held) → Leaves h (done_of shell stand_ins fields status h).1
done_leaves shell stand_ins fields status h = command_leaves shell stand_ins (command_in shell stand_ins fields) status h

deletion_told_leaves : (h : Held) (failed : Bool) (c : Change) → Leaves h c.1 → Leaves h (deletion_told failed c).1
deletion_told_leaves h failed (None, after) leaves = leaves
deletion_told_leaves h failed (Some (message, name), after) leaves = leaves

deletion_by_leaves : (h : Held) (name : List ℕ) (force failed : Bool) (value : Option (List ℕ)) → Leaves h (deletion_by h name force failed value).1
deletion_by_leaves h name force failed None = kept h
deletion_by_leaves h name force failed (Some value) = deletion_told_leaves h failed (write_of h name [] force) (written h name [] force)

-- a name of `env delete`
pub deletion_leaves : (h : Held) (name : List ℕ) (force failed : Bool) → Leaves h (deletion_of h name force failed).1
deletion_leaves h name force failed = deletion_by_leaves h name force failed (names.get h.now.env name)
