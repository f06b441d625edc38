use Rattle.std.proofs.Common.{ap, map, of_calls, rules, ◌∙◌}
use Rattle.std.proofs.lemmas.List.Sorted.{IsPartitionPoint-from_clause}
use Rattle.fw_check.specs.NameSets.{is_ascending, is_before}
use Rattle.fw_check.proofs.SortedLemmas.{Name, before-parted, drop-ascends, point-drop, range-rest}
use Rattle.fw_check.proofs.sorted_names.not_before.Goals as goal

pub returns-clause-ascending : goal.returns-clause-ascending
returns-clause-ascending c =
    ap (λ ns. is_ascending (map (λ (n : Name). n.now) ns)) (range-rest c.partition_point-first.result c.args.names.now)
    ∙ drop-ascends (λ (n : Name). n.now) c.partition_point-first.result c.args.names.now c.requires

pub returns-clause-kept : goal.returns-clause-kept
returns-clause-kept c =
    let names = c.args.names.now in
    let text = c.args.text.now in
    let first = c.partition_point-first.result in
    let point = IsPartitionPoint-from_clause (λ (n : Name). is_before text n.now) names first c.partition_point-first.ensures.partitioned (before-parted text names c.requires) (λ a r q k. search (rules, of_calls)) in
    range-rest first names ∙ point-drop (λ (n : Name). is_before text n.now) names first c.partition_point-first.ensures.bound point
