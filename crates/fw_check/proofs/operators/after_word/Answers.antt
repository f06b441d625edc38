use Rattle.std.proofs.Common.{ap, sym, ◌∙◌}
use Rattle.std.specs.Prelude.{option_map}
use Rattle.fw_check.specs.declared.operators.Expected.{Expected}
use Rattle.fw_check.specs.Expecting.{expected_view}
use Rattle.fw_check.specs.Operators.{after_word}
use Rattle.fw_check.proofs.operators.after_word.Goals as goal

pub returns-in-Operator : goal.returns-in-Operator
returns-in-Operator c =
    c.after_operator.ensures c.args.shell
    ∙ ap (λ (e : Expected). after_word c.args.shell (expected_view e) c.args.count (option_map (λ v. v.items) c.args.bytes)) (sym c.in-Operator.is)

pub returns-in-Joint : goal.returns-in-Joint
returns-in-Joint c =
    c.after_joint.ensures c.args.shell
    ∙ ap (λ (e : Expected). after_word c.args.shell (expected_view e) c.args.count (option_map (λ v. v.items) c.args.bytes)) (sym c.in-Joint.is)

pub returns-in-AfterValue : goal.returns-in-AfterValue
returns-in-AfterValue c =
    c.after_value.ensures c.args.shell
    ∙ ap (λ (e : Expected). after_word c.args.shell (expected_view e) c.args.count (option_map (λ v. v.items) c.args.bytes)) (sym c.in-AfterValue.is)

pub returns-in-Unclear : goal.returns-in-Unclear
returns-in-Unclear c =
    c.after_unclear.ensures c.args.shell c.args.count
    ∙ ap (λ (e : Expected). after_word c.args.shell (expected_view e) c.args.count (option_map (λ v. v.items) c.args.bytes)) (sym c.in-Unclear.is)
