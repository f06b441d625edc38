use Rattle.std.proofs.Common.{rules, ◌≡◌, ◌∷◌, drop, option_map, Option, None, sym, subst}
use Rattle.std.specs.Option.{option_or}
use Rattle.std.specs.FinMap as names
use Rattle.hush_commands.specs.declared.board_rules.Reply.{Reply}
use Rattle.hush_commands.specs.Hardware.{ruled, role_reply}
use Rattle.hush_commands.specs.Output.{Answers}
use Rattle.hush_commands.specs.Carrying.{other_of}
use Rattle.hush_commands.proofs.execution.other.Goals as goal

pub returns-in-None : goal.returns-in-None
returns-in-None c =
    let none : ruled c.args.board.now (c.args.called.now ∷ drop 1 c.args.fields) ≡ None = search rules in
    subst (λ (o : Option Reply). Answers (other_of (option_or o (option_map role_reply (names.get c.args.stand_ins.now c.args.called.now))) c.args.status c.args.called.now c.args.fields) c.args.output.now c.other_stub.new.output c.other_stub.result) (sym none)
    (c.other_stub.ensures c.args.status)
