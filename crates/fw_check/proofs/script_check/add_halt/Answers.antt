use Rattle.std.proofs.Common.{◌≡◌, ℕ, Bool, true, false, List, [], ◌∷◌, ap, subst, sym, ◌∙◌}
use Rattle.std.specs.Prelude.{IsSome, option_map}
use Rattle.hush_syntax.specs.declared.positions.Halt.{Halt}
use Rattle.finding_kinds.specs.declared.kinds.FindingKind.TheVariants as finding
use Rattle.fw_check.specs.FaultSentences.{halt_sentence}
use Rattle.fw_check.specs.Found.{found_more}
use Rattle.fw_check.specs.ReportLines.{found_at}
use Rattle.fw_check.proofs.FoundLemmas.{ok-then}
use Rattle.fw_check.proofs.script_check.add_halt.Goals as goal

pub unreachable-requires : goal.unreachable-requires
unreachable-requires c =
    let no : ◌≡◌ {A = Bool} false true = subst (λ h. IsSome (option_map (λ (h : Halt). h.fault) h)) (sym c.in_ok-halt.ensures.exact ∙ c.in-None.is) c.requires in
    cc

pub returns : goal.returns
returns c =
    let halt = c.in-Some.halt in
    ok-then c.tell_halt.result _ _
    (λ told. (
      halt,
      sym c.in_ok-halt.ensures.exact ∙ c.in-Some.is,
      told ∙ ap (λ (t : List ℕ). found_more c.args.found.now (found_at halt.fault.place finding.Syntax (halt_sentence t halt) ∷ [])) c.source.ensures.bytes,
    ))
    c.tell_halt.ensures
