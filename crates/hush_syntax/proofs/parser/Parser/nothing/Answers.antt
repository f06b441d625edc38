use Rattle.std.proofs.Common.{◌∙◌, refl}
use Rattle.hush_syntax.proofs.WordSteps.{adds, puts, settles-chains}
use Rattle.hush_syntax.proofs.ListExits.{nothing-built, nothing-within}
use Rattle.hush_syntax.proofs.parser.Parser.nothing.Goals as goal

pub settle_chains-requires : goal.settle_chains-requires
settle_chains-requires c =
    nothing-within c.args.builder.now c.put.new.self c.push_chain.new.self _ c.in_ok-command.command _ c.in_ok-command.ensures c.in_ok-push_chain.ensures c.waiting_chains-mark.ensures

pub returns-clause-built : goal.returns-clause-built
returns-clause-built c = λ ts.
    nothing-built c.args.self.text.now ts c.args.builder.now c.put.new.self c.push_chain.new.self c.settle_chains.new.self c.put-2.new.self _ c.in_ok-chains.chains c.in_ok-command.command c.in_ok-list.list _ refl c.in_ok-command.ensures c.in_ok-push_chain.ensures c.waiting_chains-mark.ensures c.in_ok-chains.ensures c.in_ok-list.ensures

pub returns-clause-words : goal.returns-clause-words
returns-clause-words c =
    puts c.settle_chains.new.self c.put-2.new.self _ _ c.in_ok-list.ensures
    ∙ settles-chains c.push_chain.new.self c.settle_chains.new.self _ _ c.in_ok-chains.ensures
    ∙ adds c.put.new.self c.push_chain.new.self c.in_ok-push_chain.ensures.0
    ∙ puts c.args.builder.now c.put.new.self _ _ c.in_ok-command.ensures
