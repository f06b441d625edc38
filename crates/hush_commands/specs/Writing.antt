-- What the commands that write variables leave (docs/runs.md, "Commands").
use Rattle.std.specs.Prelude.{◌≡◌, ℕ, Bool, false, List, [], Option, Some, None, Result, Ok, Err, option_map}
use Rattle.std.specs.Option.{option_and_then}
use Rattle.envvars_core.specs.declared.refusals.Refusal.{Refusal}
use Rattle.envvars_core.specs.declared.refusals.Refusal.TheVariants as refusal
use Rattle.envvars_core.specs.declared.refusals.Memory.{Memory}
use Rattle.env_session.specs.Session.{Held}
use Rattle.env_session.specs.Requests.{refusal_in, write_done}
use Rattle.hush_calc.specs.Setexpr.{Answer, setexpr_of}
use Rattle.hush_calc.specs.declared.calculation.SetexprFault.TheVariants as fault
use Rattle.hush_commands.specs.declared.messages.Message.{Message}
use Rattle.hush_commands.specs.declared.messages.Message.TheVariants.{Refused, WrongUse, DivisionByZero}
use Rattle.hush_commands.specs.declared.writes.Complaint.{Complaint}

-- a message, and the name that it is about
abbrev pub About : Type 0
About = Message × List ℕ

abbrev pub complaint_view : Complaint → About
complaint_view complaint = (complaint.message, complaint.name.now)

-- what a command says when it fails, and the session that it leaves
abbrev pub Change : Type 0
Change = Option About × Held

-- a command left this; if it complains, or memory was refused, nothing has changed
abbrev pub CarriesOut : Change → Held → Held → Result (Option Complaint) Memory → Type 0
CarriesOut change old new (Ok None) = (None ≡ change.0) × (new ≡ change.1)
CarriesOut change old new (Ok (Some complaint)) = (Some (complaint_view complaint) ≡ change.0) × (new ≡ change.1) × (new ≡ old)
CarriesOut change old new (Err refused) = new ≡ old

-- the message about a refused write; out of memory has none
abbrev pub message_of : Refusal → Option Message
message_of refusal.Memory = None
message_of other = Some (Refused other)

abbrev pub about : List ℕ → Message → About
about name message = (message, name)

-- a write of a text; an empty one deletes
abbrev pub write_of : Held → (name text : List ℕ) → (force : Bool) → Change
write_of held name text force =
    (option_map (about name) (option_and_then message_of (refusal_in held name (Some text) force)), write_done held name (Some text) force)

abbrev pub calculated_by : Held → (called : List ℕ) → Answer → Change
calculated_by held called (Ok (name, text)) = write_of held name text false
calculated_by held called (Err fault.WrongUse) = (Some (WrongUse, called), held)
calculated_by held called (Err fault.DivisionByZero) = (Some (DivisionByZero, []), held)

-- setexpr
abbrev pub calculated_of : Held → (called : List ℕ) → List (List ℕ) → Change
calculated_of held called words = calculated_by held called (setexpr_of words)
