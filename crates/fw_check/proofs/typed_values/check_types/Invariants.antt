use Rattle.std.proofs.Common.{◌≡◌}
use Rattle.std.specs.Prelude.{IsTrue, fold, option_map}
use Rattle.std.specs.List.{AllByRecursion}
use Rattle.envimg_core.specs.Environment.{is_name, is_value}
use Rattle.fw_check.specs.Checking.{with_typed, with_types}
use Rattle.fw_check.specs.EntryPlaces.{text_view}
use Rattle.fw_check.proofs.typed_values.check_types.Given as goal

abbrev pub invariant-loop-name : goal.invariant-loop-name
invariant-loop-name l = record {
  report : fold (with_typed l.vars.env (option_map text_view l.file)) l.so_far l.name-iterator ≡ with_types l.vars.env (option_map text_view l.file) l.fn.report;
  formed : AllByRecursion (λ p. IsTrue (is_name p.0) × IsTrue (is_value p.1)) l.name-iterator;
}
