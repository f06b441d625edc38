use Rattle.std.proofs.Common.{◌≡◌, drop}
use Rattle.std.specs.List.{flat_map}
use Rattle.fw_check.specs.Called.{in_reply}
use Rattle.fw_check.specs.Following.{follow_fronts}
use Rattle.fw_check.specs.Looking.{rules_in}
use Rattle.fw_check.specs.NameSets.{set_of, with_all}
use Rattle.fw_check.specs.Naming.{foreseen_in, given_in, run_in, written_in}
use Rattle.fw_check.proofs.reading.follow_rules.Given as goal

abbrev pub invariant-loop-rule : goal.invariant-loop-rule
invariant-loop-rule l = record {
  names :
      follow_fronts l.names (flat_map (λ rule. in_reply (run_in (rules_in l.lookups)) rule.reply) (drop l.rule-index l.rules))
      ≡ follow_fronts l.initial.names (flat_map (λ rule. in_reply (run_in (rules_in l.lookups)) rule.reply) l.rules);
  given :
      with_all (set_of l.gathered.given) (flat_map (λ rule. in_reply (given_in (rules_in l.lookups)) rule.reply) (drop l.rule-index l.rules))
      ≡ with_all (set_of l.initial.gathered.given) (flat_map (λ rule. in_reply (given_in (rules_in l.lookups)) rule.reply) l.rules);
  foreseen :
      with_all (set_of l.gathered.foreseen) (flat_map (λ rule. in_reply (foreseen_in (rules_in l.lookups)) rule.reply) (drop l.rule-index l.rules))
      ≡ with_all (set_of l.initial.gathered.foreseen) (flat_map (λ rule. in_reply (foreseen_in (rules_in l.lookups)) rule.reply) l.rules);
  written :
      with_all (set_of l.gathered.written) (flat_map (λ rule. in_reply (written_in (rules_in l.lookups)) rule.reply) (drop l.rule-index l.rules))
      ≡ with_all (set_of l.initial.gathered.written) (flat_map (λ rule. in_reply (written_in (rules_in l.lookups)) rule.reply) l.rules);
}
