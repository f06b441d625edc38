use Rattle.std.proofs.Common.{fold, sym, ap, ◌∙◌}
use Rattle.envimg_core.specs.Pieces.{with_value, after_entry}
use Rattle.envvars_store.proofs.FindLemmas.{All_rest}
use Rattle.envvars_core.specs.Kept.{old_value, kept_entries, IsNamed}
use Rattle.envvars_core.proofs.olds.put_back.Goals as goal

pub loop-name-preserved : goal.loop-name-preserved
loop-name-preserved c = record {
  left =
      ap (λ m. fold after_entry m (kept_entries c.next.new.self)) (c.in_ok-put_back_one.ensures ∙ ap (λ n. with_value c.loop-name.variables n (old_value c.in-Some.old.now)) c.deref.ensures.value)
      ∙ sym (ap (λ es. fold after_entry c.loop-name.variables (kept_entries es)) c.in-Some.ensures.steps) ∙ c.loop-name.invariant.left;
  named = All_rest IsNamed c.loop-name.name-iterator c.next.new.self _ c.in-Some.ensures.steps c.loop-name.invariant.named;
}
