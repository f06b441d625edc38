use Rattle.std.proofs.Common.{drop, map}
use Rattle.std.specs.Prelude.{option_map}
use Rattle.fw_check.specs.Checking.{Reports}
use Rattle.fw_check.specs.EntryPlaces.{text_view}
use Rattle.fw_check.specs.ReportLines.{Report}
use Rattle.fw_check.specs.Following.{is_among}
use Rattle.fw_check.specs.Looking.{known_in, rules_in}
use Rattle.fw_check.proofs.visits.report_all.Given as goal

abbrev pub invariant-loop-name : goal.invariant-loop-name
invariant-loop-name l =
    (final : Report) → Reports l.vars.env (option_map text_view l.file) (known_in l.lookups) (rules_in l.lookups) (is_among l.asked.names) (map (λ n. n.items) (drop l.name-index l.names)) l.so_far final
    → Reports l.vars.env (option_map text_view l.file) (known_in l.lookups) (rules_in l.lookups) (is_among l.asked.names) (map (λ n. n.items) l.names) l.fn.report final
