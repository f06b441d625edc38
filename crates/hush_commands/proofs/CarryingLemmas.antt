-- Where a command is of no use.
use Rattle.std.proofs.Common.{◌≡◌, ℕ, List, Ok, Err, refl, sym, subst}
use Rattle.std.specs.Prelude.{Result}
use Rattle.env_session.specs.Session.{Held}
use Rattle.hush_commands.specs.declared.command.Command.{Command}
use Rattle.hush_commands.specs.declared.command.Command.TheVariants as command
use Rattle.hush_commands.specs.declared.messages.Message.TheVariants as message
use Rattle.hush_commands.specs.declared.output.PrintFault.{PrintFault}
use Rattle.hush_commands.specs.Messages.{text_of}
use Rattle.hush_commands.specs.Output.{Printed, Answer, answer, Answers, LacksRoom, OnMemory}
use Rattle.hush_commands.specs.Hardware.{Hardware}
use Rattle.hush_commands.specs.declared.shell.Shell.{Shell}
use Rattle.hush_commands.specs.Carrying.{done_by, Attempts, IsRefused}

attempts : (a : Answer) (held : Held) (old new : Printed) (r : Result ℕ PrintFault) → Answers a old new r → Attempts (a, held) held held old new r
attempts a held old new (Ok status) answers = (refl, answers)
attempts a held old new (Err fault) answers = (refl, answers)

pub wrong_use : (shell : Shell) (stand_ins : Hardware) (c : Command) (called name : List ℕ) (status : ℕ) (held : Held) (old new : Printed) (r : Result ℕ PrintFault) → c ≡ command.WrongUse called → name ≡ called → Answers (answer 1 (text_of message.WrongUse name)) old new r → Attempts (done_by shell stand_ins c status held) held held old new r
wrong_use shell stand_ins c called name status held old new r is same answers =
    let wrong = attempts (answer 1 (text_of message.WrongUse name)) held old new r answers in
    subst (λ (d : Command). Attempts (done_by shell stand_ins d status held) held held old new r) (sym is)
    (subst (λ (n : List ℕ). Attempts (answer 1 (text_of message.WrongUse n), held) held held old new r) same wrong)

pub wrong_use_refused : (shell : Shell) (stand_ins : Hardware) (c : Command) (called name : List ℕ) (status : ℕ) (held : Held) (old : Printed) (r : Result ℕ PrintFault) → c ≡ command.WrongUse called → name ≡ called → OnMemory r (LacksRoom (text_of message.WrongUse name) old) → IsRefused shell stand_ins c (done_by shell stand_ins c status held) old r
wrong_use_refused shell stand_ins c called name status held old r is same lacks =
    subst (λ (d : Command). IsRefused shell stand_ins d (done_by shell stand_ins d status held) old r) (sym is)
    (subst (λ (n : List ℕ). OnMemory r (LacksRoom (text_of message.WrongUse n) old)) same lacks)
