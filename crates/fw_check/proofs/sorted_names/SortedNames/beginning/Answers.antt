use Rattle.std.proofs.Common.{ap, map, nat_eq, of_calls, rules, ◌∙◌}
use Rattle.std.specs.List.{starts_with}
use Rattle.std.proofs.lemmas.List.Sorted.{IsPartitionPoint-from_clause}
use Rattle.fw_check.specs.Following.{names_with}
use Rattle.fw_check.proofs.SortedLemmas.{Name, begun-names, begun-parted}
use Rattle.fw_check.proofs.sorted_names.SortedNames.beginning.Goals as goal

pub returns : goal.returns
returns c =
    let front = c.args.front.now in
    let names = c.deref.result.now in
    let rest = c.not_before-rest.result.now in
    let count = c.partition_point-count.result in
    let kept = c.not_before-rest.ensures.kept in
    let point = IsPartitionPoint-from_clause (λ (n : Name). starts_with nat_eq n.now front) rest count c.partition_point-count.ensures.partitioned (begun-parted front names rest kept c.not_before-rest.ensures.ascending) (λ a r q k. search (rules, of_calls)) in
    begun-names front names rest count kept c.partition_point-count.ensures.bound point
    ∙ ap (λ ns. names_with front (map (λ (n : Name). n.now) ns)) c.deref.ensures.value ∙ ap (names_with front) c.self.view_is
