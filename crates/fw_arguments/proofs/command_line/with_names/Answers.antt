use Rattle.std.proofs.Common.{rules, ◌≡◌, ◌∙◌, Some, ap, sym}
use Rattle.std.proofs.lemmas.Result.{IfOk-weaker}
use Rattle.clap.specs.Words.{rule_of}
use Rattle.fw_arguments.specs.Table.{names_view}
use Rattle.fw_arguments.specs.Words.{with_names}
use Rattle.fw_arguments.proofs.CallLemmas.{alias_rule}
use Rattle.fw_arguments.proofs.command_line.with_names.Goals as goal

pub returns-in-More-clause-rule : goal.returns-in-More-clause-rule
returns-in-More-clause-rule c =
    let is : rule_of c.long-in-More.result ≡ record (rule_of c.args.arg) { short = Some c.in-More.letter; long = Some c.in-More.long.now } = search rules in
    IfOk-weaker c.visible_alias.result _ _
    (λ r adds. alias_rule c.long-in-More.result r _ _ _ adds is ∙ ap (λ n. with_names (names_view (λ t. t.now) n) (rule_of c.args.arg)) (sym c.in-More.is)) c.visible_alias.ensures
