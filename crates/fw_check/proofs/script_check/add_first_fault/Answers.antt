use Rattle.std.proofs.Common.{◌≡◌, ap, subst, sym, ◌∙◌}
use Rattle.std.specs.Prelude.{IsSome, OnOk}
use Rattle.hush_syntax.specs.Halts.{fault_in}
use Rattle.hush_words.specs.Parts.{Written}
use Rattle.fw_check.specs.Reports.{TellsHalt}
use Rattle.fw_check.proofs.script_check.add_first_fault.Goals as goal

pub add_halt-requires : goal.add_halt-requires
add_halt-requires c =
    let same = ap (λ (t : Written). t.source) c.in_ok-source.ensures.text ∙ c.in_ok-from_slice.ensures.items in
    subst (λ t. IsSome (fault_in c.args.bodies t)) (sym same) c.requires

pub returns : goal.returns
returns c =
    let same = ap (λ (t : Written). t.source) c.in_ok-source.ensures.text ∙ c.in_ok-from_slice.ensures.items in
    subst (λ t. OnOk c.add_halt.result (TellsHalt c.args.bodies t c.args.found.now c.add_halt.new.found)) same c.add_halt.ensures
