use Rattle.std.proofs.Common.{◌≡◌, ◌++◌}
use Rattle.std.specs.List.{flat_map, AllByRecursion}
use Rattle.std.specs.FinMap as env
use Rattle.envimg_core.specs.Environment.{is_name, is_value}
use Rattle.std.specs.Prelude.{IsTrue}
use Rattle.fw_engines.specs.TextForm.{export_text, export_message}
use Rattle.fw_engines.proofs.text_form.export_all.Given as goal

abbrev pub invariant-loop-name : goal.invariant-loop-name
invariant-loop-name l = record {
  text : l.text.items ++ flat_map export_text l.name-iterator ≡ flat_map export_text (env.entries l.vars.env);
  messages : l.messages.items ++ flat_map export_message l.name-iterator ≡ flat_map export_message (env.entries l.vars.env);
  formed : AllByRecursion (λ p. IsTrue (is_name p.0) × IsTrue (is_value p.1)) l.name-iterator;
}
