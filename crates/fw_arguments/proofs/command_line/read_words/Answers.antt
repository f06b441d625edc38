use Rattle.std.proofs.Common.{[], Err, ◌≡◌, ◌∙◌, ap, map, rules, subst, sym}
use Rattle.clap.specs.Words.{FailsBy, HasKind, fault_of, is_simple_and_free}
use Rattle.fw_arguments.specs.ProgramNames.{app_of_name}
use Rattle.fw_arguments.proofs.WordLemmas.{app_free, order_chosen, tool_called}
use Rattle.fw_arguments.proofs.command_line.read_words.Goals as goal

pub returns-clause-fails : goal.returns-clause-fails
returns-clause-fails g c =
    subst (λ a. fault_of a (map g.S.AsStr.text c.args.words.now) ≡ []) c.in_ok-command.ensures (c.in_ok-matches.ensures.kinds (ap is_simple_and_free c.in_ok-command.ensures ∙ app_free c.args.under))

pub returns-clause-order : goal.returns-clause-order
returns-clause-order g c =
    order_chosen c.args.under _ (map g.S.AsStr.text c.args.words.now) c.in_ok-matches.matches c.in_ok-command.ensures c.in_ok-matches.ensures.matches

pub returns-clause-called : goal.returns-clause-called
returns-clause-called g c =
    tool_called c.args.under _ (map g.S.AsStr.text c.args.words.now) c.in_ok-matches.matches c.in_ok-command.ensures c.in_ok-matches.ensures.matches

pub returns-in_err-matches-clause-fails : goal.returns-in_err-matches-clause-fails
returns-in_err-matches-clause-fails g c =
    let words = map g.S.AsStr.text c.args.words.now in
    let same : c.from_residual-in_err-matches.result ≡ Err c.in_err-matches.field-0.0 = search rules in
    let has = subst (λ a. HasKind (fault_of a words) c.in_err-matches.field-0.0) c.in_ok-command.ensures (c.in_err-matches.ensures.kinds (ap is_simple_and_free c.in_ok-command.ensures ∙ app_free c.args.under)) in
    subst (λ r. FailsBy (fault_of (app_of_name c.args.under) words) r) (sym same) has
