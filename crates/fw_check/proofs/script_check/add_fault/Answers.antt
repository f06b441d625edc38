use Rattle.std.proofs.Common.{refl, subst, sym}
use Rattle.std.specs.Prelude.{IsSome}
use Rattle.fw_check.proofs.FoundLemmas.{ok-then}
use Rattle.fw_check.proofs.script_check.add_fault.Goals as goal

pub add_first_fault-requires : goal.add_first_fault-requires
add_first_fault-requires c = subst (λ f. IsSome f) (sym (c.requires c.in_default.not-Memory)) refl

pub returns-in_default : goal.returns-in_default
returns-in_default c = ok-then c.add_first_fault.result _ _ (λ told. (c.in_default.not-Memory, told)) c.add_first_fault.ensures
