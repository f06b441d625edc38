-- Steps one after the other.
use Rattle.std.proofs.Common.{◌≡◌, ◌==◌, ℕ, suc, ◌+◌, ◌-◌, ◌≤◌, Bool, true, false, if◌then◌else◌, List, [], ◌∷◌, length, drop, Option, Some, None, Result, Ok, Err, refl, sym, ap, subst, ◌∙◌, arith, is_some}
use Rattle.hush_syntax.specs.declared.nodes.NodeId.{NodeId}
use Rattle.hush_syntax.specs.Scripts.{Parsed, tree_of, subtree_at, RootIs}
use Rattle.hush_syntax.specs.Nodes.{Subtree, OfChains, OfCommand}
use Rattle.hush_words.specs.Words.{Atom}
use Rattle.hush_syntax.specs.Grammar.{Chains, For}
use Rattle.hush_run.specs.declared.frames.Frame.{Frame}
use Rattle.hush_run.specs.declared.frames.Frame.TheVariants as frame
use Rattle.hush_run.specs.declared.due.Due.{Due}
use Rattle.hush_run.specs.declared.due.Due.TheVariants as due
use Rattle.hush_run.specs.declared.ending.Ending.{Ending}
use Rattle.hush_run.specs.declared.node_step.After.TheVariants as comes
use Rattle.hush_run.specs.Runs.{reason_of}
use Rattle.hush_run.specs.Meaning.Reason.{Steps}
use Rattle.hush_run.specs.Meaning.{Variable, Answer, Rules, Reason, Begin, State, Out, Goes, Leaves, Ends, ◌>>=◌, ◌then◌, with_status, if_ok, in_turn, bindings, deletions, ended, place_in, script, in_text, in_answer, chains, start, run_from, within}
use Rattle.hush_run.specs.Resume.{in_started, begin_in, at_in, behind, levels, place_of, resume, subtree_does, room, at_command, of_for, IsStack, Leads}
use Rattle.hush_run.specs.Turns.{IsDue, IsPart, FitsAfter, after_does, due_does, due_room}
use Rattle.hush_run.specs.Rises.{IsLeft, LeavesText}
use Rattle.hush_run.specs.Steps.{Did, NotDone, Started, NotStarted, Answered, NotAnswered}
use Rattle.hush_run.specs.Advances.{IsReady, Advances, EndsAt, EndsSo, Ran, due_left}
use Rattle.hush_run.specs.Stacks.{script_frames, frame_limit}
use Rattle.hush_run.proofs.PlaceLemmas.{ends_at}
use Rattle.hush_run.proofs.Descends.{stack-frame}
use Rattle.hush_run.proofs.Halting.{due-halts, chains-halt}

-- what is left ends as what is left later
ended_alike : (o p : Out) (e : Reason) (t : State) (place : Option (List ℕ)) → o ≡ p → EndsAt p e t place → EndsAt o e t place
ended_alike o p e t place same = subst (λ (x : Out). EndsAt x e t place) (sym same)

-- with no step left the state stays
halted : (rules : Rules) (calls : List Parsed) (old : List Frame) (d : Due) (s : State) → IsDue (at_in calls) d → IsPart d → (ended (due_left (within s.steps rules) calls old d s)).1 ≡ s
halted rules calls old d s is part = ap (λ (x : Reason × State). x.1) (ends_at (within s.steps rules) calls old _ Steps s (due-halts (within s.steps rules) (levels (within s.steps rules) calls) (at_in calls) d is part s (omega arith))).0

-- a step that stops
pub stopped : (rules : Rules) (calls : List Parsed) (old : List Frame) (d : Due) (s t : State) (o : Option Reason) → IsDue (at_in calls) d → IsPart d → NotDone rules (λ r begin. due_does r begin (at_in calls) d) s t o → EndsSo rules calls old d s old t o
stopped rules calls old d s t (Some e) is part did = ends_at rules calls old _ e t (did (begin_in rules calls))
stopped rules calls old d s t None is part did = (ap (λ (x : State). x.steps) did, halted rules calls old d s is part ∙ sym did)

-- a node
module _ (rules : Rules) (top : Parsed) (rest : List Parsed) (old new : List Frame) (capacity after : ℕ) (id node : NodeId) (s t : State) (ready : IsReady rules (top ∷ rest) old capacity (due.Node id)) (le : s.steps ≤ rules.limits.steps) (same : after ≡ capacity) (down : Leads top old new id node) where
  pub node_goes : (next : Due) → Did rules (λ r begin. subtree_does r begin (subtree_at top node)) (λ a r begin. after_does r begin (subtree_at top) a) s t (Ok (comes.Goes next)) → IsDue (subtree_at top) next → due_room (subtree_at top) next ≤ room (subtree_at top node) → Advances rules (top ∷ rest) old (due.Node id) s (top ∷ rest) new after t (Ok next)
  node_goes next did is fits =
      let m = down.1 rest ready.stack ready.frames_fit in (
        did.0,
        record { stack = m.0; is_due = is; some = ready.some; calls_fit = ready.calls_fit; frames_fit = omega (arith, m.1, fits); capacity_fits = same ∙ ready.capacity_fits },
        λ n more.
            down.2 (within n rules) rest s (omega (arith, more))
            ∙ ap (λ (o : Out). resume (within n rules) (top ∷ rest) new o) (did.1 n (begin_in (within n rules) (top ∷ rest)) more),
      )

  pub node_stops : (o : Option Reason) → NotDone rules (λ r begin. subtree_does r begin (subtree_at top node)) s t o → EndsSo rules (top ∷ rest) old (due.Node id) s new t o
  node_stops (Some e) did = ended_alike _ _ e t (place_of new) (down.2 rules rest s le) (ends_at rules (top ∷ rest) new _ e t (did (begin_in rules (top ∷ rest))))
  node_stops None did = (ap (λ (x : State). x.steps) did, halted rules (top ∷ rest) old (due.Node id) s ready.is_due tt ∙ sym did)

  -- an `exit` leaves its text
  before_leaving : (own : ℕ) → Did rules (λ r begin. subtree_does r begin (subtree_at top node)) (λ a r begin. after_does r begin (subtree_at top) a) s t (Ok (comes.Leaves own)) → (n : ℕ) → suc s.steps ≤ n → due_left (within n rules) (top ∷ rest) old (due.Node id) s ≡ resume (within n rules) (top ∷ rest) new (Leaves own t)
  before_leaving own did n more =
      down.2 (within n rules) rest s (omega (arith, more))
      ∙ ap (λ (o : Out). resume (within n rules) (top ∷ rest) new o) (did.1 n (begin_in (within n rules) (top ∷ rest)) more)

  pub node_leaves : (own status most : ℕ) (calls : List Parsed) (frames : List Frame) (next : Due) → Did rules (λ r begin. subtree_does r begin (subtree_at top node)) (λ a r begin. after_does r begin (subtree_at top) a) s t (Ok (comes.Leaves own)) → LeavesText (top ∷ rest) new own t.status calls frames status (Ok next) → most ≡ after → Advances rules (top ∷ rest) old (due.Node id) s calls frames most (with_status status t) (Ok next)
  node_leaves own status most calls frames next did l kept = (
    did.0,
    record { stack = l.0; is_due = l.1; some = l.2; calls_fit = omega (arith, l.3, ready.calls_fit); frames_fit = l.4; capacity_fits = kept ∙ same ∙ ready.capacity_fits },
    λ n more. before_leaving own did n more ∙ l.5 (within n rules) t,
  )

  pub node_exits : (own status : ℕ) (calls : List Parsed) (frames : List Frame) (e : Ending) → Did rules (λ r begin. subtree_does r begin (subtree_at top node)) (λ a r begin. after_does r begin (subtree_at top) a) s t (Ok (comes.Leaves own)) → LeavesText (top ∷ rest) new own t.status calls frames status (Err e) → EndsSo rules (top ∷ rest) old (due.Node id) s frames (with_status status t) (reason_of e)
  node_exits own status calls frames e did l =
      let left : due_left rules (top ∷ rest) old (due.Node id) s ≡ Leaves l.2 (with_status status t) = before_leaving own did rules.limits.steps did.0.1 ∙ l.3 rules t in
      subst (λ (x : Ending). EndsSo rules (top ∷ rest) old (due.Node id) s frames (with_status status t) (reason_of x)) (sym l.0)
      (ap ended left, ap place_in left ∙ ap place_of (sym l.1))

-- the same, when these scripts run
module _ (rules : Rules) (calls : List Parsed) (top : Parsed) (old new : List Frame) (capacity after : ℕ) (id node : NodeId) (s t : State) (is : calls ≡ top ∷ behind calls) (ready : IsReady rules calls old capacity (due.Node id)) (le : s.steps ≤ rules.limits.steps) (same : after ≡ capacity) (down : Leads top old new id node) where
  now : IsReady rules (top ∷ behind calls) old capacity (due.Node id)
  now = subst (λ (cs : List Parsed). IsReady rules cs old capacity (due.Node id)) is ready

  pub stack_below : IsStack calls new
  stack_below = subst (λ (cs : List Parsed). IsStack cs new) (sym is) (down.1 (behind calls) now.stack now.frames_fit).0

  pub node_advances : (next : Due) → Did rules (λ r begin. subtree_does r begin (subtree_at top node)) (λ a r begin. after_does r begin (subtree_at top) a) s t (Ok (comes.Goes next)) → FitsAfter (subtree_at top) (room (subtree_at top node)) (comes.Goes next) → Advances rules calls old (due.Node id) s calls new after t (Ok next)
  node_advances next did fits =
      subst (λ (cs : List Parsed). Advances rules cs old (due.Node id) s cs new after t (Ok next)) (sym is)
      (node_goes rules top (behind calls) old new capacity after id node s t now le same down next did fits.0 fits.1)

  pub node_ends : (e : Ending) → NotDone rules (λ r begin. subtree_does r begin (subtree_at top node)) s t (reason_of e) → Advances rules calls old (due.Node id) s calls new after t (Err e)
  node_ends e did =
      subst (λ (cs : List Parsed). EndsSo rules cs old (due.Node id) s new t (reason_of e)) (sym is)
      (node_stops rules top (behind calls) old new capacity after id node s t now le same down (reason_of e) did)

  pub exit_advances : (own status most : ℕ) (after_calls : List Parsed) (frames : List Frame) (result : Result Due Ending) → Did rules (λ r begin. subtree_does r begin (subtree_at top node)) (λ a r begin. after_does r begin (subtree_at top) a) s t (Ok (comes.Leaves own)) → LeavesText calls new own t.status after_calls frames status result → most ≡ after → Advances rules calls old (due.Node id) s after_calls frames most (with_status status t) result
  exit_advances own status most after_calls frames (Ok next) did l kept =
      subst (λ (cs : List Parsed). Advances rules cs old (due.Node id) s after_calls frames most (with_status status t) (Ok next)) (sym is)
      (node_leaves rules top (behind calls) old new capacity after id node s t now le same down own status most after_calls frames next did (subst (λ (cs : List Parsed). LeavesText cs new own t.status after_calls frames status (Ok next)) is l) kept)
  exit_advances own status most after_calls frames (Err e) did l kept =
      subst (λ (cs : List Parsed). EndsSo rules cs old (due.Node id) s frames (with_status status t) (reason_of e)) (sym is)
      (node_exits rules top (behind calls) old new capacity after id node s t now le same down own status after_calls frames e did (subst (λ (cs : List Parsed). LeavesText cs new own t.status after_calls frames status (Err e)) is l))

-- a name of `env delete`
pub delete_goes : (rules : Rules) (calls : List Parsed) (old : List Frame) (capacity : ℕ) (force failed again : Bool) (name : List ℕ) (names left : List (List ℕ)) (next : Due) (s t : State) → names ≡ name ∷ left → IsReady rules calls old capacity (due.Delete force failed names) → Did rules (λ r begin. deletions r force failed (name ∷ left)) (λ flag r begin. deletions r force flag left) s t (Ok again) → IsDue (at_in calls) next → due_room (at_in calls) next ≡ 0 → ((r : Rules) (begin : Begin) (u : State) → deletions r force again left u ≡ due_does r begin (at_in calls) next u) → Advances rules calls old (due.Delete force failed names) s calls old capacity t (Ok next)
delete_goes rules calls old capacity force failed again name names left next s t is ready did isdue none same = (
  did.0,
  record { stack = ready.stack; is_due = isdue; some = ready.some; calls_fit = ready.calls_fit; frames_fit = omega (arith, ready.frames_fit, none); capacity_fits = ready.capacity_fits },
  λ n more.
      ap (λ (ns : List (List ℕ)). resume (within n rules) calls old (deletions (within n rules) force failed ns s)) is
      ∙ ap (λ (o : Out). resume (within n rules) calls old o) (did.1 n (begin_in (within n rules) calls) more ∙ same (within n rules) (begin_in (within n rules) calls) t),
)

pub delete_over : (r : Rules) (force again : Bool) (left : List (List ℕ)) (u : State) → length left ≡ 0 → deletions r force again left u ≡ Goes u
delete_over r force again [] u e = refl
delete_over r force again (n ∷ ns) u e = absurd (omega (arith, e))

pub delete_stops_so : (rules : Rules) (calls : List Parsed) (old : List Frame) (force failed : Bool) (name : List ℕ) (names left : List (List ℕ)) (s t : State) (o : Option Reason) → names ≡ name ∷ left → IsDue (at_in calls) (due.Delete force failed names) → NotDone rules (λ r begin. deletions r force failed (name ∷ left)) s t o → EndsSo rules calls old (due.Delete force failed names) s old t o
delete_stops_so rules calls old force failed name names left s t o is isdue did =
    stopped rules calls old (due.Delete force failed names) s t o isdue tt (subst (λ (ns : List (List ℕ)). NotDone rules (λ r begin. deletions r force failed ns) s t o) (sym is) did)

-- a binding
module _ (rules : Rules) (top : Parsed) (rest : List Parsed) (old : List Frame) (capacity : ℕ) (node body : NodeId) (name field : List ℕ) (words fields left : List (List ℕ)) (ws : List (List Atom)) (d : Chains) (s t : State) (e : subtree_at top node ≡ Some (OfCommand (For name ws d))) (eb : subtree_at top body ≡ Some (OfChains d)) (is : fields ≡ field ∷ left) (ready : IsReady rules (top ∷ rest) old capacity (due.Binding node fields)) where
  -- what is left before it
  first : (r : Rules) → due_left r (top ∷ rest) old (due.Binding node fields) s ≡ resume r (top ∷ rest) old (bindings r name (chains r (begin_in r (top ∷ rest)) d) (field ∷ left) s)
  first r =
      ap (λ (o : Option Subtree). resume r (top ∷ rest) old (at_command Goes (of_for r (begin_in r (top ∷ rest)) fields) o s)) e
      ∙ ap (λ (xs : List (List ℕ)). resume r (top ∷ rest) old (bindings r name (chains r (begin_in r (top ∷ rest)) d) xs s)) is

  pub bound_goes : Did rules (λ r begin. bindings r name (chains r begin d) (field ∷ left)) (λ bound r begin. if bound then (chains r begin d then bindings r name (chains r begin d) left) else Goes) s t (Ok true) → Advances rules (top ∷ rest) old (due.Binding node fields) s (top ∷ rest) (frame.Bindings node left ∷ old) capacity t (Ok (due.Node body))
  bound_goes did = (
    did.0,
    record { stack = stack-frame (top ∷ rest) (frame.Bindings node left) old refl (omega arith) (ap (λ (o : Option Subtree). is_some o) e) ready.frames_fit ready.stack; is_due = ap (λ (o : Option Subtree). is_some o) eb; some = ready.some; calls_fit = ready.calls_fit; frames_fit = omega (arith, ready.frames_fit, ap room e, ap room eb); capacity_fits = ready.capacity_fits },
    λ n more.
        first (within n rules)
        ∙ ap (λ (o : Out). resume (within n rules) (top ∷ rest) old o) (did.1 n (begin_in (within n rules) (top ∷ rest)) more)
        ∙ ap (λ (o : Option Subtree). resume (within n rules) (top ∷ rest) old (chains (within n rules) (begin_in (within n rules) (top ∷ rest)) d t >>= at_command Goes (of_for (within n rules) (begin_in (within n rules) (top ∷ rest)) left) o)) (sym e)
        ∙ ap (λ (o : Option Subtree). resume (within n rules) (top ∷ rest) (frame.Bindings node left ∷ old) (subtree_does (within n rules) (begin_in (within n rules) (top ∷ rest)) o t)) (sym eb),
  )

  pub bound_not : Did rules (λ r begin. bindings r name (chains r begin d) (field ∷ left)) (λ bound r begin. if bound then (chains r begin d then bindings r name (chains r begin d) left) else Goes) s t (Ok false) → Advances rules (top ∷ rest) old (due.Binding node fields) s (top ∷ rest) old capacity t (Ok due.Over)
  bound_not did = (
    did.0,
    record { stack = ready.stack; is_due = tt; some = ready.some; calls_fit = ready.calls_fit; frames_fit = omega (arith, ready.frames_fit); capacity_fits = ready.capacity_fits },
    λ n more. first (within n rules) ∙ ap (λ (o : Out). resume (within n rules) (top ∷ rest) old o) (did.1 n (begin_in (within n rules) (top ∷ rest)) more),
  )

  pub bound_stops : (o : Option Reason) → NotDone rules (λ r begin. bindings r name (chains r begin d) (field ∷ left)) s t o → EndsSo rules (top ∷ rest) old (due.Binding node fields) s old t o
  bound_stops (Some x) did = ended_alike _ _ x t (place_of old) (first rules) (ends_at rules (top ∷ rest) old _ x t (did (begin_in rules (top ∷ rest))))
  bound_stops None did = (ap (λ (x : State). x.steps) did, halted rules (top ∷ rest) old (due.Binding node fields) s ready.is_due tt ∙ sym did)

-- a start
levels_are : (rules : Rules) (calls : List Parsed) → 1 ≤ length calls → rules.limits.depth + 1 - length calls ≡ levels rules calls
levels_are rules [] some = absurd (omega (arith, some))
levels_are rules (p ∷ ps) some = omega arith

module _ (rules : Rules) (calls : List Parsed) (old : List Frame) (capacity : ℕ) (name : List ℕ) (names left : List (List ℕ)) (s t : State) (is : names ≡ name ∷ left) (ready : IsReady rules calls old capacity (due.Start names)) where
  first_start : (n : ℕ) → due_left (within n rules) calls old (due.Start names) s ≡ resume (within n rules) calls old (start (within n rules) (rules.limits.depth + 1 - length calls) (Variable name) s >>= if_ok (in_turn (begin_in (within n rules) calls) left) Goes)
  first_start n =
      ap (λ (ns : List (List ℕ)). resume (within n rules) calls old (in_turn (begin_in (within n rules) calls) ns s)) is
      ∙ ap (λ (k : ℕ). resume (within n rules) calls old (start (within n rules) k (Variable name) s >>= if_ok (in_turn (begin_in (within n rules) calls) left) Goes)) (sym (levels_are rules calls ready.some))

  pub not_started : Started rules (rules.limits.depth + 1 - length calls) name s t (Ok None) → Advances rules calls old (due.Start names) s calls old capacity t (Ok due.Over)
  not_started b = (
    b.0,
    record { stack = ready.stack; is_due = tt; some = ready.some; calls_fit = ready.calls_fit; frames_fit = omega (arith, ready.frames_fit); capacity_fits = ready.capacity_fits },
    λ n le.
        first_start n
        ∙ ap (λ (o : Out). resume (within n rules) calls old (o >>= if_ok (in_turn (begin_in (within n rules) calls) left) Goes)) (b.2 n le)
        ∙ ap (λ (c : Bool). resume (within n rules) calls old (if c then in_turn (begin_in (within n rules) calls) left t else Goes t)) b.1,
  )

  ready_on : (p : Parsed) (below : ℕ) (next : Due) → rules.limits.depth + 1 - length calls ≡ suc below → IsDue (subtree_at p) next → due_room (subtree_at p) next ≤ script_frames → IsReady rules (p ∷ calls) (frame.Started names ∷ old) capacity next
  ready_on p below next opens isdue fits = record { stack = (ready.some, tt, ready.frames_fit, ready.stack); is_due = isdue; some = omega arith; calls_fit = omega (arith, opens); frames_fit = omega (arith, ready.frames_fit, fits); capacity_fits = ready.capacity_fits }

  below_is : (n below : ℕ) (p : Parsed) → rules.limits.depth + 1 - length calls ≡ suc below → levels (within n rules) (p ∷ calls) ≡ below
  below_is n below p opens = omega (arith, opens, ready.some)

  started_left : (n : ℕ) (p : Parsed) → suc s.steps ≤ n → (b : Started rules (rules.limits.depth + 1 - length calls) name s t (Ok (Some p))) → due_left (within n rules) calls old (due.Start names) s ≡ resume (within n rules) (p ∷ calls) (frame.Started names ∷ old) (script (within n rules) (begin_in (within n rules) (p ∷ calls)) (tree_of p) t)
  started_left n p le b =
      first_start n
      ∙ ap (λ (o : Out). resume (within n rules) calls old (o >>= if_ok (in_turn (begin_in (within n rules) calls) left) Goes)) (b.3 n le)
      ∙ ap (λ (k : ℕ). resume (within n rules) calls old (in_text rules.shell name (script (within n rules) (start (within n rules) k) (tree_of p) t) >>= if_ok (in_turn (begin_in (within n rules) calls) left) Goes)) (sym (below_is n b.1 p b.2))
      ∙ ap (λ (ns : List (List ℕ)). resume (within n rules) calls old (in_started rules.shell ns (script (within n rules) (begin_in (within n rules) (p ∷ calls)) (tree_of p) t) >>= if_ok (in_turn (begin_in (within n rules) calls) (drop 1 ns)) Goes)) (sym is)

  pub started_empty : (p : Parsed) → Started rules (rules.limits.depth + 1 - length calls) name s t (Ok (Some p)) → RootIs p None → Advances rules calls old (due.Start names) s (p ∷ calls) (frame.Started names ∷ old) capacity t (Ok due.Over)
  started_empty p b none = (
    b.0,
    ready_on p b.1 due.Over b.2 tt (omega arith),
    λ n le. started_left n p le b ∙ ap (λ (o : Option Chains). resume (within n rules) (p ∷ calls) (frame.Started names ∷ old) (script (within n rules) (begin_in (within n rules) (p ∷ calls)) o t)) none,
  )

  pub started_root : (p : Parsed) (root : NodeId) → Started rules (rules.limits.depth + 1 - length calls) name s t (Ok (Some p)) → RootIs p (Some root) → Advances rules calls old (due.Start names) s (p ∷ calls) (frame.Started names ∷ old) capacity t (Ok (due.Node root))
  started_root p root b r = (
    b.0,
    ready_on p b.1 (due.Node root) b.2 (ap (λ (o : Option Subtree). is_some o) r.1) (omega (arith, ap room r.1, r.3)),
    λ n le.
        started_left n p le b
        ∙ ap (λ (o : Option Chains). resume (within n rules) (p ∷ calls) (frame.Started names ∷ old) (script (within n rules) (begin_in (within n rules) (p ∷ calls)) o t)) r.2
        ∙ ap (λ (o : Option Subtree). resume (within n rules) (p ∷ calls) (frame.Started names ∷ old) (subtree_does (within n rules) (begin_in (within n rules) (p ∷ calls)) o t)) (sym r.1),
  )

  pub start_stops : (o : Option Reason) → NotStarted rules (rules.limits.depth + 1 - length calls) name s t o → EndsSo rules calls old (due.Start names) s old t o
  start_stops (Some x) b = ended_alike _ _ x t (place_of old) (first_start rules.limits.steps) (ends_at rules calls old _ x t (ap (λ (o : Out). o >>= if_ok (in_turn (begin_in rules calls) left) Goes) b))
  start_stops None b = (ap (λ (x : State). x.steps) b.0, halted rules calls old (due.Start names) s ready.is_due tt ∙ sym b.0)

-- a start of a text that answers a call: nothing comes after it
nothing_after : (o : Out) → (o >>= if_ok Goes Goes) ≡ o
nothing_after (Goes s) = either (s.status == 0)
  where
    either : (b : Bool) → (if b then Goes s else Goes s) ≡ Goes s
    either true = refl
    either false = refl
nothing_after (Leaves own s) = refl
nothing_after (Ends e p s) = refl

module _ (rules : Rules) (calls : List Parsed) (old : List Frame) (capacity : ℕ) (words : List (List ℕ)) (text : List ℕ) (s t : State) (ready : IsReady rules calls old capacity (due.Answer words text)) where
  answer_first : (n : ℕ) → due_left (within n rules) calls old (due.Answer words text) s ≡ resume (within n rules) calls old (start (within n rules) (rules.limits.depth + 1 - length calls) (Answer words text) s)
  answer_first n = ap (λ (k : ℕ). resume (within n rules) calls old (start (within n rules) k (Answer words text) s)) (sym (levels_are rules calls ready.some))

  pub not_answered : Answered rules (rules.limits.depth + 1 - length calls) words text s t (Ok None) → Advances rules calls old (due.Answer words text) s calls old capacity t (Ok due.Over)
  not_answered b = (
    b.0,
    record { stack = ready.stack; is_due = tt; some = ready.some; calls_fit = ready.calls_fit; frames_fit = omega (arith, ready.frames_fit); capacity_fits = ready.capacity_fits },
    λ n le. answer_first n ∙ ap (λ (o : Out). resume (within n rules) calls old o) (b.1 n le),
  )

  answer_ready : (p : Parsed) (below : ℕ) (next : Due) → rules.limits.depth + 1 - length calls ≡ suc below → IsDue (subtree_at p) next → due_room (subtree_at p) next ≤ script_frames → IsReady rules (p ∷ calls) (frame.Started [] ∷ old) capacity next
  answer_ready p below next opens isdue fits = record { stack = (ready.some, tt, ready.frames_fit, ready.stack); is_due = isdue; some = omega arith; calls_fit = omega (arith, opens); frames_fit = omega (arith, ready.frames_fit, fits); capacity_fits = ready.capacity_fits }

  answer_below : (n below : ℕ) (p : Parsed) → rules.limits.depth + 1 - length calls ≡ suc below → levels (within n rules) (p ∷ calls) ≡ below
  answer_below n below p opens = omega (arith, opens, ready.some)

  answer_left : (n : ℕ) (p : Parsed) → suc s.steps ≤ n → (b : Answered rules (rules.limits.depth + 1 - length calls) words text s t (Ok (Some p))) → due_left (within n rules) calls old (due.Answer words text) s ≡ resume (within n rules) (p ∷ calls) (frame.Started [] ∷ old) (script (within n rules) (begin_in (within n rules) (p ∷ calls)) (tree_of p) t)
  answer_left n p le b =
      answer_first n
      ∙ ap (λ (o : Out). resume (within n rules) calls old o) (b.3 n le)
      ∙ ap (λ (k : ℕ). resume (within n rules) calls old (in_answer (script (within n rules) (start (within n rules) k) (tree_of p) t))) (sym (answer_below n b.1 p b.2))
      ∙ ap (λ (o : Out). resume (within n rules) calls old o) (sym (nothing_after (in_answer (script (within n rules) (begin_in (within n rules) (p ∷ calls)) (tree_of p) t))))

  pub answered_empty : (p : Parsed) → Answered rules (rules.limits.depth + 1 - length calls) words text s t (Ok (Some p)) → RootIs p None → Advances rules calls old (due.Answer words text) s (p ∷ calls) (frame.Started [] ∷ old) capacity t (Ok due.Over)
  answered_empty p b none = (
    b.0,
    answer_ready p b.1 due.Over b.2 tt (omega arith),
    λ n le. answer_left n p le b ∙ ap (λ (o : Option Chains). resume (within n rules) (p ∷ calls) (frame.Started [] ∷ old) (script (within n rules) (begin_in (within n rules) (p ∷ calls)) o t)) none,
  )

  pub answered_root : (p : Parsed) (root : NodeId) → Answered rules (rules.limits.depth + 1 - length calls) words text s t (Ok (Some p)) → RootIs p (Some root) → Advances rules calls old (due.Answer words text) s (p ∷ calls) (frame.Started [] ∷ old) capacity t (Ok (due.Node root))
  answered_root p root b r = (
    b.0,
    answer_ready p b.1 (due.Node root) b.2 (ap (λ (o : Option Subtree). is_some o) r.1) (omega (arith, ap room r.1, r.3)),
    λ n le.
        answer_left n p le b
        ∙ ap (λ (o : Option Chains). resume (within n rules) (p ∷ calls) (frame.Started [] ∷ old) (script (within n rules) (begin_in (within n rules) (p ∷ calls)) o t)) r.2
        ∙ ap (λ (o : Option Subtree). resume (within n rules) (p ∷ calls) (frame.Started [] ∷ old) (subtree_does (within n rules) (begin_in (within n rules) (p ∷ calls)) o t)) (sym r.1),
  )

  pub answer_stops : (o : Option Reason) → NotAnswered rules (rules.limits.depth + 1 - length calls) words text s t o → EndsSo rules calls old (due.Answer words text) s old t o
  answer_stops (Some x) b = ended_alike _ _ x t (place_of old) (answer_first rules.limits.steps) (ends_at rules calls old _ x t b)
  answer_stops None b = (ap (λ (x : State). x.steps) b, halted rules calls old (due.Answer words text) s ready.is_due tt ∙ sym b)

-- what is due when something is over, and its step
pub rise_then : (rules : Rules) (calls calls1 calls2 : List Parsed) (old frames1 new : List Frame) (status1 capacity : ℕ) (due1 : Due) (s t : State) (r : Result Due Ending) → s.steps ≤ rules.limits.steps → IsLeft rules.shell calls old s.status calls1 frames1 status1 due1 → Advances rules calls1 frames1 due1 (with_status status1 s) calls2 new capacity t r → Advances rules calls old due.Over s calls2 new capacity t r
rise_then rules calls calls1 calls2 old frames1 new status1 capacity due1 s t (Ok d) le l a = (a.0, a.1, λ n h. l.5 (within n rules) refl s (omega (arith, h)) ∙ a.2 n h)
rise_then rules calls calls1 calls2 old frames1 new status1 capacity due1 s t (Err x) le l a = so (reason_of x) a
  where
    so : (o : Option Reason) → EndsSo rules calls1 frames1 due1 (with_status status1 s) new t o → EndsSo rules calls old due.Over s new t o
    so (Some e) h = ended_alike _ _ e t (place_of new) (l.5 rules refl s le) h
    so None h = (h.0, ap (λ (o : Out). (ended o).1) (l.5 (within s.steps rules) refl s (omega arith)) ∙ h.1)

-- the run from a state is what is due, and the frames after it
abbrev pub Same : Rules → Option Chains → State → List Parsed → List Frame → Due → State → Type 0
Same rules tree s calls frames d now = (n : ℕ) → now.steps ≤ n → script (within n rules) (start (within n rules) rules.limits.depth) tree s ≡ due_left (within n rules) calls frames d now

pub same_ends : (rules : Rules) (tree : Option Chains) (s now t : State) (calls after : List Parsed) (frames new : List Frame) (capacity : ℕ) (d : Due) (e : Ending) → now.steps ≤ rules.limits.steps → Same rules tree s calls frames d now → Advances rules calls frames d now after new capacity t (Err e) → Ran rules tree s t (place_of new) (reason_of e)
same_ends rules tree s now t calls after frames new capacity d e le same a = so (reason_of e) a
  where
    so : (o : Option Reason) → EndsSo rules calls frames d now new t o → Ran rules tree s t (place_of new) o
    so (Some r) h = ended_alike _ _ r t (place_of new) (same rules.limits.steps le) h
    so None h = (omega (arith, h.0, le), ap (λ (n : ℕ). (run_from (within n rules) tree s).1) h.0 ∙ ap (λ (o : Out). (ended o).1) (same now.steps (omega arith)) ∙ h.1)

pub same_on : (rules : Rules) (tree : Option Chains) (s now t : State) (calls after : List Parsed) (frames new : List Frame) (capacity : ℕ) (d next : Due) → Same rules tree s calls frames d now → Advances rules calls frames d now after new capacity t (Ok next) → Same rules tree s after new next t
same_on rules tree s now t calls after frames new capacity d next same a n le = same n (omega (arith, a.0.0, le)) ∙ a.2 n (omega (arith, a.0.0, le))

pub same_root : (rules : Rules) (p : Parsed) (root : NodeId) (s : State) → RootIs p (Some root) → Same rules (tree_of p) s (p ∷ []) [] (due.Node root) s
same_root rules p root s r n le =
    ap (λ (o : Option Chains). script (within n rules) (start (within n rules) rules.limits.depth) o s) r.2
    ∙ ap (λ (k : ℕ). chains (within n rules) (start (within n rules) k) r.0 s) (let e : rules.limits.depth ≡ rules.limits.depth - 0 = omega arith in e)
    ∙ ap (λ (o : Option Subtree). subtree_does (within n rules) (begin_in (within n rules) (p ∷ [])) o s) (sym r.1)

pub same_empty : (rules : Rules) (p : Parsed) (s : State) → RootIs p None → Same rules (tree_of p) s (p ∷ []) [] due.Over s
same_empty rules p s r n le = ap (λ (o : Option Chains). script (within n rules) (start (within n rules) rules.limits.depth) o s) r

pub ready_root : (rules : Rules) (p : Parsed) (root : NodeId) → RootIs p (Some root) → IsReady rules (p ∷ []) [] (frame_limit rules.limits.depth) (due.Node root)
ready_root rules p root r = record { stack = tt; is_due = ap (λ (o : Option Subtree). is_some o) r.1; some = omega arith; calls_fit = omega arith; frames_fit = omega (arith, ap room r.1, r.3); capacity_fits = refl }

pub ready_empty : (rules : Rules) (p : Parsed) → IsReady rules (p ∷ []) [] (frame_limit rules.limits.depth) due.Over
ready_empty rules p = record { stack = tt; is_due = tt; some = omega arith; calls_fit = omega arith; frames_fit = omega arith; capacity_fits = refl }

-- before the first step
pub none_counted : (rules : Rules) (tree : Option Chains) (s : State) (place : Option (List ℕ)) → s.steps ≤ rules.limits.steps → Ran rules tree s s place None
none_counted rules None s place le = (le, refl)
none_counted rules (Some cs) s place le = (le, ap (λ (o : Out). (ended o).1) (chains-halt (within s.steps rules) (start (within s.steps rules) rules.limits.depth) cs s (omega arith)))
