use Rattle.std.proofs.Common.{◌≡◌}
use Rattle.std.specs.FinMap.{entries}
use Rattle.std.specs.List.{list_any}
use Rattle.fw_check.specs.Knowing.{is_recut, names_by, rereads}
use Rattle.fw_check.specs.NameSets.{no_names, set_of, with_all}
use Rattle.fw_check.proofs.reread.RereadNames.of.Given as goal

abbrev pub invariant-loop-name : goal.invariant-loop-name
invariant-loop-name l = record {
  reread : with_all (set_of l.reread) (names_by (list_any rereads) l.name-iterator) ≡ with_all no_names (names_by (list_any rereads) (entries l.fn.vars.env));
  recut : with_all (set_of l.recut) (names_by is_recut l.name-iterator) ≡ with_all no_names (names_by is_recut (entries l.fn.vars.env));
}
