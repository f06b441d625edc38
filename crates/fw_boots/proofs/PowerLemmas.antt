-- What a power-on leaves of the session, and what it comes to.
use Rattle.std.proofs.Common.{◌≡◌, ℕ, Bool, true, cond, List, [], ◌∷◌, ◌-◌, length, map, take, drop, fold, Option, Some, None, is_some, refl, sym, ap, ◌∙◌, arith, Result, Ok, Err}
use Rattle.std.proofs.lemmas.List.{length-map, take-map}
use Rattle.boot_search.specs.declared.board.Answer.{Answer}
use Rattle.std.specs.Prelude.{IfOk, OnOk, unwrap_or}
use Rattle.std.specs.List.{list_all}
use Rattle.std.proofs.lemmas.Bool.{false≢true}
use Rattle.envimg_core.specs.Geometry.{Shape}
use Rattle.envvars_core.specs.Variables.{Contents}
use Rattle.envvars_core.specs.declared.refusals.Refusal.{Refusal}
use Rattle.env_session.specs.Session.{State, Held, new_mark, state_at, opening, undone, written}
use Rattle.env_session.specs.Requests.{Request, Write, Import, Save, MarkNow, UndoTo, Print, refusal_in, request}
use Rattle.hush_syntax.specs.Grammar.{Chains}
use Rattle.hush_commands.specs.declared.departure.Departure.{Departure}
use Rattle.hush_syntax.specs.Reading.{read_in}
use Rattle.hush_syntax.specs.Scripts.{tree_of}
use Rattle.hush_syntax.specs.declared.script.Script.{Script}
use Rattle.hush_commands.specs.declared.shell.Shell.{Shell}
use Rattle.hush_run.specs.Meaning.{Rules, Reason, bodies_of, meaning}
use Rattle.hush_run.specs.Runs.{DepartsBy, RunsBy}
use Rattle.hush_run.specs.declared.outcome.Outcome.{Outcome as RunOutcome}
use Rattle.env_requests.specs.Laws.{run_left, writes_or_saves}
use Rattle.env_requests.proofs.RunRequests.{run_leads, run_keeps_marks, both_left, both_right}
use Rattle.std.specs.declared.alloc.AllocError.{AllocError}
use Rattle.fw_boots.specs.Cuts.{Cutting}
use Rattle.boot_search.specs.Outcomes.{Given, Outcome, given_of, outcome_of}
use Rattle.boot_search.specs.declared.board.Turn.{Turn}
use Rattle.boot_search.specs.SurveyText.{survey_status, told_of}
use Rattle.boot_search.specs.declared.bootable.Survey.{Survey}
use Rattle.boot_search.specs.declared.survey_lines.BootText.{BootText}
use Rattle.fw_boots.specs.Boots.{BootsAs, IsSurveyOf, IsTextOf, Power}
use Rattle.fw_boots.specs.PowerOns.{IsCounted, IsOutcome, asked_by, before_boot, behind_boot, counted_text, counted_tree, from_boot, outcome_by, run_by, run_over, tree_in, with_limits, IsFor}

-- ---- a run keeps the shape of the copies and the defaults

abbrev IsLike : Held → Held → Type 0
IsLike h after = (after.shape ≡ h.shape) × (after.defaults ≡ h.defaults)

written_like : (h : Held) (name : List ℕ) (new : Option (List ℕ)) (r : Option Refusal) → IsLike h (cond (is_some r) h (written h name new))
written_like h name new None = (refl, refl)
written_like h name new (Some r) = (refl, refl)

request_like : (h : Held) (r : Request) → writes_or_saves r ≡ true → IsLike h (request h r)
request_like h (Write name new force) is = written_like h name new (refusal_in h name new force)
request_like h (Import es) is = absurd (false≢true is)
request_like h Save is = (refl, refl)
request_like h MarkNow is = absurd (false≢true is)
request_like h (UndoTo n) is = absurd (false≢true is)
request_like h Print is = absurd (false≢true is)

requests_like : (rs : List Request) (h : Held) → list_all writes_or_saves rs ≡ true → IsLike h (fold request h rs)
requests_like [] h all = (refl, refl)
requests_like (r ∷ rs) h all =
    let first = request_like h r (both_left (writes_or_saves r) (list_all writes_or_saves rs) all) in
    let rest = requests_like rs (request h r) (both_right (writes_or_saves r) (list_all writes_or_saves rs) all) in
    (rest.0 ∙ first.0, rest.1 ∙ first.1)

run_like : (rules : Rules) (tree : Option Chains) (h : Held) → IsLike h (run_left rules tree h)
run_like rules tree h =
    let leads = run_leads rules tree h in
    let like = requests_like leads.requests h leads.only in
    (ap (λ (a : Held). a.shape) (sym leads.left) ∙ like.0, ap (λ (a : Held). a.defaults) (sym leads.left) ∙ like.1)

-- ---- so an undo after it brings back the session at its opening

at_opening : Shape → Contents → State → Held
at_opening shape defaults s = record { shape = shape; defaults = defaults; now = s; marks = new_mark s ∷ [] }

comes_back : (rules : Rules) (tree : Option Chains) (h : Held) → undone 0 (run_left rules tree (undone 0 h)) ≡ undone 0 h
unfolding undone at_opening
comes_back rules tree h =
    let g = undone 0 h in
    let after = run_left rules tree g in
    let like = run_like rules tree g in
    let same : state_at after.marks 0 after.now ≡ opening h = (run_keeps_marks rules tree g).1 0 (omega arith) in
    ap (λ (x : Shape). at_opening x after.defaults (state_at after.marks 0 after.now)) like.0
    ∙ ap (λ (x : Contents). at_opening h.shape x (state_at after.marks 0 after.now)) like.1
    ∙ ap (λ (x : State). at_opening h.shape h.defaults x) same

-- so a run after another comes to the same, if memory lasted in the first
pub back_again : (reason : Reason) (rules : Rules) (tree : Option Chains) (old mid after : Held) (o : RunOutcome) → mid ≡ undone 0 old →
    RunsBy (Some reason) rules tree mid after o → undone 0 after ≡ undone 0 old
back_again reason rules tree old mid after o is runs = ap (undone 0) (runs.1.held ∙ ap (run_left rules tree) is) ∙ comes_back rules tree old

pub same_again : (r : Result Turn AllocError) (reason : Option Reason) (rules : Rules) (tree : Option Chains) (old mid after : Held) (o : RunOutcome)
    (by : Reason → Outcome) → mid ≡ undone 0 old → RunsBy reason rules tree mid after o →
    IfOk r (λ turn. IsFor reason by (outcome_of turn)) → OnOk r (undone 0 after ≡ undone 0 old)
same_again (Err e) reason rules tree old mid after o by is runs turned = tt
same_again (Ok t) None rules tree old mid after o by is runs turned = absurd turned
same_again (Ok t) (Some reason) rules tree old mid after o by is runs turned = back_again reason rules tree old mid after o is runs

-- what a run comes to
pub run_is : (cuts : Cutting) (answers : List Given) (r : Result Turn AllocError) (reason : Option Reason) (given rules : Rules) (tree : Option Chains) (old mid after : Held) (o : RunOutcome)
    (departure : Option Departure) (next : List ℕ) → given ≡ with_limits cuts answers rules → mid ≡ undone 0 old → RunsBy reason given tree mid after o →
    DepartsBy reason given tree mid departure → next ≡ after.now.first →
    IfOk r (λ turn. IsOutcome reason (asked_by cuts answers given o.steps next) departure next (outcome_of turn)) →
    IfOk r (λ turn. outcome_of turn ≡ run_over cuts answers rules tree (undone 0 old))
run_is cuts answers (Err e) reason given rules tree old mid after o departure next limited is runs departs stored turned = tt
run_is cuts answers (Ok t) None given rules tree old mid after o departure next limited is runs departs stored turned = absurd turned
run_is cuts answers (Ok t) (Some reason) given rules tree old mid after o departure next limited is runs departs stored turned =
    let run = meaning given tree mid in
    let left : next ≡ run.1.held.now.first = stored ∙ ap (λ (h : Held). h.now.first) runs.1.held in
    turned ∙ ap (λ (d : Option Departure). outcome_by (asked_by cuts answers given o.steps next) d reason next) departs
    ∙ ap (λ (x : Reason). outcome_by (asked_by cuts answers given o.steps next) run.1.departure x next) (sym runs.0)
    ∙ ap (λ (k : ℕ). outcome_by (asked_by cuts answers given k next) run.1.departure run.0 next) runs.1.steps
    ∙ ap (λ (n : List ℕ). outcome_by (asked_by cuts answers given run.1.steps n) run.1.departure run.0 n) left
    ∙ ap (λ (g : Rules). run_by cuts answers g tree mid) limited
    ∙ ap (run_over cuts answers rules tree) is

-- ---- the count

pub count_again : (r : Result Script AllocError) (reason : Option Reason) (rules : Rules) (tree : Option Chains) (old mid after : Held) (o : RunOutcome)
    (text : List ℕ) → mid ≡ undone 0 old → RunsBy reason rules tree mid after o → IsCounted reason after o.status text →
    OnOk r (undone 0 after ≡ undone 0 old)
count_again (Err e) reason rules tree old mid after o text is runs counted = tt
count_again (Ok t) None rules tree old mid after o text is runs counted = absurd counted
count_again (Ok t) (Some reason) rules tree old mid after o text is runs counted = back_again reason rules tree old mid after o is runs

tree_read : (shell : Shell) (text text' : List ℕ) (tree : Option Chains) → text ≡ text' → read_in (bodies_of shell) text ≡ Some tree → tree ≡ tree_in shell text'
tree_read shell text text' tree is reads =
    sym (ap (λ (t : Option (Option Chains)). unwrap_or t None) (ap (read_in (bodies_of shell)) (sym is) ∙ reads))

pub counted_is : (r : Result Script AllocError) (reason : Option Reason) (rules : Rules) (tree : Option Chains) (old mid after : Held) (o : RunOutcome)
    (text : List ℕ) → mid ≡ undone 0 old → RunsBy reason rules tree mid after o → IsCounted reason after o.status text →
    IfOk r (λ script. read_in (bodies_of rules.shell) text ≡ Some (tree_of script)) →
    IfOk r (λ script. tree_of script ≡ counted_tree rules tree (undone 0 old))
counted_is (Err e) reason rules tree old mid after o text is runs counted reads = tt
counted_is (Ok script) None rules tree old mid after o text is runs counted reads = absurd counted
counted_is (Ok script) (Some reason) rules tree old mid after o text is runs counted reads =
    let run = meaning rules tree mid in
    let by : text ≡ counted_text run.1.held run.1.status =
    counted ∙ ap (λ (n : ℕ). counted_text after n) runs.1.status ∙ ap (λ (h : Held). counted_text h run.1.status) runs.1.held in
    tree_read rules.shell text _ (tree_of script) by reads ∙ ap (counted_tree rules tree) is

-- ---- a power-on

pub turned : (r : Result Turn AllocError) (a b : Outcome) → IfOk r (λ turn. outcome_of turn ≡ a) → a ≡ b → IfOk r (λ turn. outcome_of turn ≡ b)
turned (Ok t) a b of is = of ∙ is
turned (Err e) a b of is = tt

pub holds : (r : Result Turn AllocError) (X : Type 0) → X → OnOk r X
holds (Ok t) X x = x
holds (Err e) X x = tt

-- ---- the answers before the boot, and behind it

pub before_is : (answers from : List Answer) → map given_of from ≡ from_boot (map given_of answers) → map given_of (take (length answers - length from) answers) ≡ before_boot (map given_of answers)
before_is answers from is =
    sym (take-map given_of (length answers - length from) answers)
    ∙ ap (λ n. take (n - length from) (map given_of answers)) (sym (length-map answers given_of))
    ∙ ap (λ n. take (length (map given_of answers) - n) (map given_of answers)) (sym (length-map from given_of) ∙ ap length is)

pub behind_is : (from : List Answer) (answers : List Given) → map given_of from ≡ from_boot answers → map given_of (drop 1 from) ≡ behind_boot answers
behind_is [] answers is = ap (drop 1) is
behind_is (g ∷ from) answers is = ap (drop 1) is

-- ---- what is told

pub told_as : (is_graph : Bool) (p : Power) (most : ℕ) (survey : Survey) (r : Result BootText AllocError) → IsSurveyOf p most survey →
    IfOk r (λ t. IsTextOf is_graph p survey t.text.items) → IfOk r (λ t. t.status ≡ survey_status (told_of survey)) → IfOk r (BootsAs is_graph p most)
told_as is_graph p most survey (Ok t) of text status = (survey, of, text, status)
told_as is_graph p most survey (Err e) of text status = tt
