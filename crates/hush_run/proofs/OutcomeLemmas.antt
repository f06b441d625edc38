-- What a run stopped with is what its outcome reports.
use Rattle.std.proofs.Common.{◌≡◌, ℕ, List, Option, Some, None, sym, ap, ◌∙◌, Vec, Global}
use Rattle.env_session.specs.Session.{Held}
use Rattle.hush_syntax.specs.Grammar.{Chains}
use Rattle.hush_run.specs.declared.ending.Ending.{Ending}
use Rattle.hush_run.specs.declared.outcome.Outcome.{Outcome}
use Rattle.hush_run.specs.Meaning.{Reason, Rules, State, meaning, place, place_in, first_state, run_of, run_from, within}
use Rattle.hush_run.specs.Advances.{Ran}
use Rattle.hush_run.specs.Runs.{RunsBy, DepartsBy, EndsBy}

abbrev pub told : Ending → State → Vec ℕ Global → Outcome
told ending t text = record { ending = ending; status = t.status; steps = t.steps; text = text }

pub runs_so : (rules : Rules) (tree : Option Chains) (old : Held) (s t : State) (ending : Ending) (text : Vec ℕ Global) (ends_in : Option (List ℕ)) (o : Option Reason) → s ≡ first_state rules old → Ran rules tree s t ends_in o → text.items ≡ t.printed.text → RunsBy o rules tree old t.held (told ending t text)
unfolding meaning
runs_so rules tree old s t ending text ends_in (Some e) is ran printed =
    let m : meaning rules tree old ≡ (e, t) = ap (λ (x : State). run_from rules tree x) (sym is) ∙ ran.0 in
    (ap (λ (p : Reason × State). p.0) m, record { held = sym (ap (λ (p : Reason × State). p.1.held) m); status = sym (ap (λ (p : Reason × State). p.1.status) m); steps = sym (ap (λ (p : Reason × State). p.1.steps) m); text = printed ∙ sym (ap (λ (p : Reason × State). p.1.printed.text) m) })
runs_so rules tree old s t ending text ends_in None is ran printed =
    let m : (meaning (within t.steps rules) tree old).1 ≡ t = ap (λ (x : State). (run_from (within t.steps rules) tree x).1) (sym is) ∙ ran.1 in
    (ran.0, record { held = sym (ap (λ (x : State). x.held) m); status = sym (ap (λ (x : State). x.status) m); steps = sym (ap (λ (x : State). x.steps) m); text = printed ∙ sym (ap (λ (x : State). x.printed.text) m) })

pub ends_so : (rules : Rules) (tree : Option Chains) (old : Held) (s t : State) (ends_in : Option (List ℕ)) (o : Option Reason) → s ≡ first_state rules old → Ran rules tree s t ends_in o → EndsBy o rules tree old ends_in
unfolding place
ends_so rules tree old s t ends_in (Some e) is ran = sym (ap (λ (x : State). place_in (run_of rules tree x)) (sym is) ∙ ran.1)
ends_so rules tree old s t ends_in None is ran = tt

pub departs_so : (rules : Rules) (tree : Option Chains) (old : Held) (s t : State) (ends_in : Option (List ℕ)) (o : Option Reason) → s ≡ first_state rules old → Ran rules tree s t ends_in o → DepartsBy o rules tree old t.departure
unfolding meaning
departs_so rules tree old s t ends_in (Some e) is ran = sym (ap (λ (p : Reason × State). p.1.departure) (ap (λ (x : State). run_from rules tree x) (sym is) ∙ ran.0))
departs_so rules tree old s t ends_in None is ran = tt
