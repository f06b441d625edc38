use Rattle.std.proofs.Common.{arith, ap, false, length, map, rules, sym, ◌-◌}
use Rattle.envcfg_core.specs.Entries.{entry_view}
use Rattle.fw_check.proofs.EntryLawLemmas.{values-there}
use Rattle.fw_check.proofs.EntryPlaceLemmas.{spelled-none}
use Rattle.fw_check.proofs.entry_places.EntryPlaces.of.Goals as goal

pub invariant_of-result : goal.invariant_of-result
invariant_of-result c =
    let value = c.after_equals-value.result.now in
    let line = sym (ap length c.new.ensures) in
    (ap (λ n. n - length value) line, omega (arith, c.after_equals-value.ensures.shorter, line), sym (spelled-none false value), omega arith, search rules)

pub returns-clause-there : goal.returns-clause-there
returns-clause-there c = λ h. values-there c.args.text.text.now (map entry_view c.args.text.entries.now) h
