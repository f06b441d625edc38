-- What the body of a step shows of itself.
use Rattle.std.proofs.Common.{◌≡◌, ℕ, zero, suc, ◌<◌, ◌≤◌, ◌==◌, Bool, true, false, not, if◌then◌else◌, List, [], ◌∷◌, ◌++◌, length, Option, Some, None, Result, Ok, Err, option_map, unwrap_or, refl, sym, ap, subst, ◌∙◌, arith, nat_lt, is_some, eqb-true, get_or, codes}
use Rattle.std.proofs.lemmas.Bool.{lt-ltb, le-ltb}
use Rattle.env_session.specs.Session.{Held}
use Rattle.hush_words.specs.Words.{Atom}
use Rattle.hush_commands.specs.declared.departure.Departure.{Departure}
use Rattle.hush_commands.specs.declared.departure.Leaving.TheVariants.{Asks}
use Rattle.hush_commands.specs.declared.follow.Follow.{Follow}
use Rattle.hush_commands.specs.declared.follow.Follow.TheVariants as follow
use Rattle.hush_commands.specs.declared.output.PrintFault.{PrintFault}
use Rattle.hush_commands.specs.declared.output.PrintFault.TheVariants as print
use Rattle.hush_commands.specs.Buffers.{Made, whole}
use Rattle.hush_commands.specs.Shells.{list_by}
use Rattle.std.specs.FinMap as map
use Rattle.hush_commands.specs.Expansion.{fits as within_limit, expanded_value}
use Rattle.hush_commands.specs.declared.messages.Message.{Message}
use Rattle.hush_commands.specs.declared.messages.Message.TheVariants.{IsVariable, NotDefined, UnknownCommand, NoScript}
use Rattle.hush_commands.specs.Messages.{text_of}
use Rattle.hush_commands.specs.Output.{Printed, printed, answer, PrintsWhole}
use Rattle.hush_syntax.specs.Scripts.{Parsed, tree_of}
use Rattle.hush_syntax.specs.Grammar.{Chains}
use Rattle.hush_syntax.specs.Reading.{read_in}
use Rattle.hush_commands.specs.Carrying.{Done, done_of, deletion_of, Carries}
use Rattle.hush_commands.specs.Following.{follow_of}
use Rattle.hush_commands.specs.declared.shell.Shell.{Shell}
use Rattle.hush_run.specs.Meaning.Reason.{Exited, Steps, Depth, Word, Output}
use Rattle.hush_run.specs.declared.ending.Ending.{Ending}
use Rattle.hush_run.specs.declared.ending.Ending.TheVariants as ending
use Rattle.hush_run.specs.Runs.{reason_of}
use Rattle.hush_run.specs.Steps.{ending_of_print}
use Rattle.hush_commands.specs.Hardware.{with_words}
use Rattle.hush_run.specs.Meaning.{answered, Variable, Answer, Reason, Rules, Begin, State, Out, Goes, Ends, ◌>>=◌, ◌then◌, Effect, Does, Exits, Stops, done, step, with_status, carries, fails, exiting, effect, effect_in, asked, asks_save, have_value, followed, simple, follows, fields_of, fields_after, for, bindings, bound_to, assigned, assigned_to, called, is_call, has_variable, refuses, bound_status, started_status, list_words_of, list_of, known_in, deletions, start, script, in_text, in_answer, entered, within, bodies_of}
use Rattle.hush_run.specs.Steps.{asked_at, Meant, Did, NotDone, Counted, MayStep, FieldsAre, Started, NotStarted, Answered, NotAnswered, value_of}

-- a state with another count
counting : ℕ → State → State
counting k u = record u { steps = k }

pub step_done : (rules : Rules) (effect : State → Effect) (s u : State) (k : ℕ) → s.steps < rules.limits.steps → effect s ≡ Does u → k ≡ suc s.steps → Counted rules s (record u { steps = k }) × ((n : ℕ) → suc s.steps ≤ n → step (within n rules) effect s ≡ Goes (record u { steps = k }))
unfolding step counting
step_done rules effect s u k lt does is = (
  (is, omega (arith, lt)),
  λ n le.
      ap (λ (b : Bool). if b then done s (effect s) else Ends Steps None s) (lt-ltb s.steps n (omega (arith, le)))
      ∙ ap (done s) does
      ∙ ap (λ (j : ℕ). Goes (counting j u)) (sym is),
)

pub step_halts : (rules : Rules) (effect : State → Effect) (s : State) → rules.limits.steps ≤ s.steps → step rules effect s ≡ Ends Steps None s
unfolding step
step_halts rules effect s le = ap (λ (b : Bool). if b then done s (effect s) else Ends Steps None s) (le-ltb s.steps rules.limits.steps le)

pub step_stopped : (rules : Rules) (effect : State → Effect) (s : State) (e : Reason) → s.steps < rules.limits.steps → effect s ≡ Stops e → step rules effect s ≡ Ends e None s
unfolding step
step_stopped rules effect s e lt stops =
    ap (λ (b : Bool). if b then done s (effect s) else Ends Steps None s) (lt-ltb s.steps rules.limits.steps lt) ∙ ap (done s) stops

pub step_left : (rules : Rules) (effect : State → Effect) (s u : State) (k : ℕ) → s.steps < rules.limits.steps → effect s ≡ Exits u → k ≡ suc s.steps → step rules effect s ≡ Ends Exited None (record u { steps = k })
unfolding step counting
step_left rules effect s u k lt leaves is =
    ap (λ (b : Bool). if b then done s (effect s) else Ends Steps None s) (lt-ltb s.steps rules.limits.steps lt)
    ∙ ap (done s) leaves
    ∙ ap (λ (j : ℕ). Ends Exited None (counting j u)) (sym is)

-- a step with another effect that evaluates to the same
step-same : (r : Rules) (effect other : State → Effect) (s : State) → effect s ≡ other s → step r effect s ≡ step r other s
unfolding step
step-same r effect other s e = ap (λ (x : Effect). if nat_lt s.steps r.limits.steps then done s x else Ends Steps None s) e

-- when a command was carried out
abbrev pub carried : Done → State → State
carried d s = record s { held = d.1; status = d.0.status; printed = printed (s.printed.text ++ d.0.text) s.printed.limit }

pub fits : (d : Done) (s : State) → length (s.printed.text ++ d.0.text) ≤ s.printed.limit → carries d s ≡ Does (carried d s)
fits d s le = ap (λ (b : Bool). if b then Stops Output else Does (carried d s)) (le-ltb s.printed.limit (length (s.printed.text ++ d.0.text)) le)

pub too_long : (d : Done) (s : State) → s.printed.limit < length (s.printed.text ++ d.0.text) → carries d s ≡ Stops Output
too_long d s lt = ap (λ (b : Bool). if b then Stops Output else Does (carried d s)) (lt-ltb s.printed.limit (length (s.printed.text ++ d.0.text)) lt)

-- the fields that were made
pub made_fields : (wanted : Option (List (List ℕ))) (m : Made) → option_map whole wanted ≡ Some m → wanted ≡ Some m.done
made_fields None m e = absurd (let f : false ≡ true = ap (λ (o : Option Made). is_some o) e in cc)
made_fields (Some fs) m e = ap (λ (o : Option Made). option_map (λ x. x.done) o) e

-- what stops before the step is begun
pub no_step : {X : Type 0} (rules : Rules) (meant : Meant) (left : X → Meant) (s : State) (e : Ending) → MayStep rules s.steps (Err e) → ((begin : Begin) → rules.limits.steps ≤ s.steps → meant rules begin s ≡ Ends Steps None s) → Did rules meant left s s (Err e)
no_step rules meant left s e may halts = subst (λ (x : Ending). NotDone rules meant s s (reason_of x)) (sym may.0) (λ begin. halts begin may.1)

pub no_fields : {X : Type 0} (rules : Rules) (meant : Meant) (left : X → Meant) (wanted : Option (List (List ℕ))) (s : State) (made : Made) (e : Ending) → FieldsAre rules wanted s made (Err e) → ((begin : Begin) → rules.limits.steps ≤ s.steps → meant rules begin s ≡ Ends Steps None s) → ((begin : Begin) → s.steps < rules.limits.steps → wanted ≡ None → meant rules begin s ≡ Ends Word None s) → Did rules meant left s s (Err e)
no_fields rules meant left wanted s made ending.Steps are halts large = λ begin. halts begin are
no_fields rules meant left wanted s made ending.Word are halts large = λ begin. large begin are.0 are.1
no_fields rules meant left wanted s made ending.Memory are halts large = refl
no_fields rules meant left wanted s made ending.Finished are halts large = absurd are
no_fields rules meant left wanted s made ending.Exited are halts large = absurd are
no_fields rules meant left wanted s made ending.Depth are halts large = absurd are
no_fields rules meant left wanted s made ending.Output are halts large = absurd are

-- simple commands
pub simple_halts : (rules : Rules) (begin : Begin) (has_value : Bool) (fields : Option (List (List ℕ))) (s : State) → rules.limits.steps ≤ s.steps → simple rules begin has_value fields s ≡ Ends Steps None s
simple_halts rules begin has_value None s le = step_halts rules _ s le
simple_halts rules begin has_value (Some fields) s le = ap (λ (o : Out). o >>= follows rules begin (followed has_value (follow_of rules.shell rules.stand_ins fields))) (step_halts rules (effect_in rules fields) s le)

pub simple_large : (rules : Rules) (begin : Begin) (has_value : Bool) (fields : Option (List (List ℕ))) (s : State) → s.steps < rules.limits.steps → fields ≡ None → simple rules begin has_value fields s ≡ Ends Word None s
simple_large rules begin has_value None s lt e = step_stopped rules _ s Word lt refl
simple_large rules begin has_value (Some fields) s lt e = absurd (let f : true ≡ false = ap (λ (o : Option (List (List ℕ))). is_some o) e in cc)

exiting-stops : (f : Follow) (e : Reason) → exiting f (Stops e) ≡ Stops e
exiting-stops follow.Next e = refl
exiting-stops (follow.End departure) e = refl
exiting-stops follow.Leaves e = refl
exiting-stops (follow.Starts names) e = refl
exiting-stops (follow.Deletes force names) e = refl
exiting-stops (follow.Answers words text) e = refl

-- what doesn't end the run
abbrev pub NoEnd : Follow → Type 0
NoEnd f = (departure : Option Departure) → f ≡ follow.End departure → ⊥

exiting-does : (f : Follow) (t : State) → NoEnd f → exiting f (Does t) ≡ Does t
exiting-does follow.Next t h = refl
exiting-does (follow.End departure) t h = absurd (h departure refl)
exiting-does follow.Leaves t h = refl
exiting-does (follow.Starts names) t h = refl
exiting-does (follow.Deletes force names) t h = refl
exiting-does (follow.Answers words text) t h = refl

-- what isn't an `exit` of a board is followed by what follows it
pub followed-other : (has_value : Bool) (f : Follow) → (f ≡ follow.Leaves → ⊥) → f ≡ followed has_value f
followed-other has_value follow.Next h = refl
followed-other has_value (follow.End departure) h = refl
followed-other has_value follow.Leaves h = absurd (h refl)
followed-other has_value (follow.Starts names) h = refl
followed-other has_value (follow.Deletes force names) h = refl
followed-other has_value (follow.Answers words text) h = refl

-- a save that is asked for
pub simple_asked : (rules : Rules) (words : List (List Atom)) (s : State) (fields : List (List ℕ)) → s.steps < rules.limits.steps → fields_of rules words s ≡ Some fields → asks_save rules fields s ≡ true → (begin : Begin) → simple rules begin (have_value words) (fields_of rules words s) s ≡ Ends Exited None (asked_at fields s)
simple_asked rules words s fields lt are asks begin =
    let left : effect_in rules fields s ≡ asked fields s = ap (λ (b : Bool). if b then asked fields s else effect rules.shell rules.stand_ins fields s) asks in
    ap (λ (o : Option (List (List ℕ))). simple rules begin (have_value words) o s) are
    ∙ ap (λ (o : Out). o >>= follows rules begin (followed (have_value words) (follow_of rules.shell rules.stand_ins fields))) (step_left rules (effect_in rules fields) s (record s { departure = Some (record { leaving = Asks; words = fields }) }) (suc s.steps) lt left refl)

-- any other command
module _ (rules : Rules) (words : List (List Atom)) (s : State) (fields : List (List ℕ)) (lt : s.steps < rules.limits.steps) (are : fields_of rules words s ≡ Some fields) (asks : asks_save rules fields s ≡ false) (after : Held) (new : Printed) where
  abbrev pub d : Done
  d = done_of rules.shell rules.stand_ins fields s.status s.held

  done_at_once : effect_in rules fields s ≡ effect rules.shell rules.stand_ins fields s
  done_at_once = ap (λ (b : Bool). if b then asked fields s else effect rules.shell rules.stand_ins fields s) asks

  pub simple_done : (status k : ℕ) (g f : Follow) → Carries d s.held after s.printed new (Ok status) → k ≡ suc s.steps → g ≡ follow_of rules.shell rules.stand_ins fields → NoEnd g → f ≡ followed (have_value words) g → Did rules (λ r begin t. simple r begin (have_value words) (fields_of r words t) t) (λ g r begin. follows r begin g) s (record { held = after; locals = s.locals; status = status; printed = new; steps = k; departure = s.departure }) (Ok f)
  unfolding effect
  simple_done status k g f c is isg other isf =
      rw (c.1, c.2, c.3) (
      let does : effect_in rules fields s ≡ Does (carried d s) = done_at_once ∙ ap (exiting (follow_of rules.shell rules.stand_ins fields)) (fits d s c.0) ∙ exiting-does (follow_of rules.shell rules.stand_ins fields) (carried d s) (λ departure e. other departure (isg ∙ e)) in
      let did = step_done rules (effect_in rules fields) s (carried d s) k lt does is in (
        did.0,
        λ n begin le.
            ap (λ (o : Option (List (List ℕ))). simple (within n rules) begin (have_value words) o s) are
            ∙ ap (λ (o : Out). o >>= follows (within n rules) begin (followed (have_value words) (follow_of rules.shell rules.stand_ins fields))) (did.1 n le)
            ∙ ap (λ (x : Follow). follows (within n rules) begin x (record (carried d s) { steps = k })) (sym (isf ∙ ap (followed (have_value words)) isg)),
      )
      )

  pub simple_left : (status k : ℕ) (departure : Option Departure) → Carries d s.held after s.printed new (Ok status) → k ≡ suc s.steps → follow_of rules.shell rules.stand_ins fields ≡ follow.End departure → (begin : Begin) → simple rules begin (have_value words) (fields_of rules words s) s ≡ Ends Exited None (record { held = after; locals = s.locals; status = status; printed = new; steps = k; departure = departure })
  unfolding effect
  simple_left status k departure c is end begin =
      rw (c.1, c.2, c.3) (
      let leaves : effect_in rules fields s ≡ Exits (record (carried d s) { departure = departure }) = done_at_once ∙ ap (exiting (follow_of rules.shell rules.stand_ins fields)) (fits d s c.0) ∙ ap (λ (g : Follow). exiting g (Does (carried d s))) end in
      ap (λ (o : Option (List (List ℕ))). simple rules begin (have_value words) o s) are
      ∙ ap (λ (o : Out). o >>= follows rules begin (followed (have_value words) (follow_of rules.shell rules.stand_ins fields))) (step_left rules (effect_in rules fields) s (record (carried d s) { departure = departure }) k lt leaves is)
      )

  pub simple_unprinted : (fault : PrintFault) → Carries d s.held after s.printed new (Err fault) → Did rules (λ r begin t. simple r begin (have_value words) (fields_of r words t) t) (λ g r begin. follows r begin g) s (record { held = after; locals = s.locals; status = s.status; printed = new; steps = s.steps; departure = s.departure }) (Err (ending_of_print fault))
  unfolding effect
  simple_unprinted print.Output c =
      rw (c.1, c.2) (
      let stops : effect_in rules fields s ≡ Stops Output = done_at_once ∙ ap (exiting (follow_of rules.shell rules.stand_ins fields)) (too_long d s c.0) ∙ exiting-stops (follow_of rules.shell rules.stand_ins fields) Output in λ begin.
      ap (λ (o : Option (List (List ℕ))). simple rules begin (have_value words) o s) are
      ∙ ap (λ (o : Out). o >>= follows rules begin (followed (have_value words) (follow_of rules.shell rules.stand_ins fields))) (step_stopped rules (effect_in rules fields) s Output lt stops)
      )
  simple_unprinted print.Memory c = rw (c.0, c.1) refl

-- a step that does nothing but tell a message
pub told : (rules : Rules) (message : Message) (name : List ℕ) (s : State) (new : Printed) (k : ℕ) → s.steps < rules.limits.steps → PrintsWhole (text_of message name) s.printed new (Ok tt) → k ≡ suc s.steps → Did rules (λ r begin. step r (fails message name)) (λ (u : Unit {0}) r begin. Goes) s (record { held = s.held; locals = s.locals; status = 1; printed = new; steps = k; departure = s.departure }) (Ok tt)
told rules message name s new k lt p is =
    let d : Done = (answer 1 (text_of message name), s.held) in
    rw p.1 (let did = step_done rules (fails message name) s (carried d s) k lt (fits d s p.0) is in (did.0, λ n begin le. did.1 n le))

pub untold : {X : Type 0} (rules : Rules) (meant : Meant) (left : X → Meant) (message : Message) (name : List ℕ) (s : State) (new : Printed) (fault : PrintFault) → PrintsWhole (text_of message name) s.printed new (Err fault) → ((begin : Begin) → fails message name s ≡ Stops Output → meant rules begin s ≡ Ends Output None s) → Did rules meant left s (record { held = s.held; locals = s.locals; status = s.status; printed = new; steps = s.steps; departure = s.departure }) (Err (ending_of_print fault))
untold rules meant left message name s new print.Output p stops = rw p.1 (λ begin. stops begin (too_long (answer 1 (text_of message name), s.held) s p.0))
untold rules meant left message name s new print.Memory p stops = rw p.1 refl

-- the list of a for
pub listed : (rules : Rules) (words : List (List Atom)) (s : State) (fields : List (List ℕ)) → list_words_of rules words s ≡ Some fields → list_of rules words s ≡ Some (list_by rules.shell fields)
listed rules words s fields e = ap (λ (o : Option (List (List ℕ))). option_map (list_by rules.shell) o) e

pub unlisted : (rules : Rules) (words : List (List Atom)) (s : State) → list_words_of rules words s ≡ None → list_of rules words s ≡ None
unlisted rules words s e = ap (λ (o : Option (List (List ℕ))). option_map (list_by rules.shell) o) e

-- the head of a for
pub for_halts : (rules : Rules) (name : List ℕ) (fields : Option (List (List ℕ))) (body : State → Out) (s : State) → rules.limits.steps ≤ s.steps → for rules name fields body s ≡ Ends Steps None s
for_halts rules name None body s le = step_halts rules _ s le
for_halts rules name (Some []) body s le = ap (λ (o : Out). o >>= (λ t. Goes (with_status 0 t))) (step_halts rules Does s le)
for_halts rules name (Some (f ∷ fs)) body s le = ap (λ (o : Out). o >>= bindings rules name body (f ∷ fs)) (step_halts rules Does s le)

pub for_large : (rules : Rules) (name : List ℕ) (fields : Option (List (List ℕ))) (body : State → Out) (s : State) → s.steps < rules.limits.steps → fields ≡ None → for rules name fields body s ≡ Ends Word None s
for_large rules name None body s lt e = step_stopped rules _ s Word lt refl
for_large rules name (Some fs) body s lt e = absurd (let f : true ≡ false = ap (λ (o : Option (List (List ℕ))). is_some o) e in cc)

module _ (rules : Rules) (words : List (List Atom)) (name : List ℕ) (body : Meant) (s : State) (fields : List (List ℕ)) (k : ℕ) (lt : s.steps < rules.limits.steps) (are : list_of rules words s ≡ Some fields) (is : k ≡ suc s.steps) where
  pub head_empty : (length fields == 0) ≡ true → Did rules (λ r begin t. for r name (list_of r words t) (body r begin) t) (λ fs r begin. bindings r name (body r begin) fs) s (record s { status = 0; steps = k }) (Ok fields)
  head_empty none =
      let did = step_done rules Does s s k lt refl is in
      let empty = nothing fields none in (
        did.0,
        λ n begin le.
            ap (λ (o : Option (List (List ℕ))). for (within n rules) name o (body (within n rules) begin) s) (are ∙ ap (λ (fs : List (List ℕ)). let o : Option (List (List ℕ)) = Some fs in o) empty)
            ∙ ap (λ (o : Out). o >>= (λ t. Goes (with_status 0 t))) (did.1 n le)
            ∙ ap (λ (fs : List (List ℕ)). bindings (within n rules) name (body (within n rules) begin) fs (record s { status = 0; steps = k })) (sym empty),
      )
    where
      nothing : (fs : List (List ℕ)) → (length fs == 0) ≡ true → fs ≡ []
      nothing [] h = refl
      nothing (f ∷ fs) h = let e : length (f ∷ fs) ≡ 0 = eqb-true _ _ h in absurd (omega (arith, e))

  pub head_some : (length fields == 0) ≡ false → Did rules (λ r begin t. for r name (list_of r words t) (body r begin) t) (λ fs r begin. bindings r name (body r begin) fs) s (record s { steps = k }) (Ok fields)
  head_some some =
      let did = step_done rules Does s s k lt refl is in (
        did.0,
        λ n begin le.
            ap (λ (o : Option (List (List ℕ))). for (within n rules) name o (body (within n rules) begin) s) are
            ∙ heads fields some (within n rules) begin
            ∙ ap (λ (o : Out). o >>= bindings (within n rules) name (body (within n rules) begin) fields) (did.1 n le),
      )
    where
      heads : (fs : List (List ℕ)) → (length fs == 0) ≡ false → (r : Rules) (begin : Begin) → for r name (Some fs) (body r begin) s ≡ (step r Does s >>= bindings r name (body r begin) fs)
      heads [] h r begin = absurd (let g : true ≡ false = h in cc)
      heads (f ∷ fs) h r begin = refl

-- an assignment
no_value : (o : Option (List ℕ)) → option_map (λ (v : List ℕ). v ∷ []) o ≡ None → o ≡ None
no_value None h = refl
no_value (Some v) h = absurd (let f : true ≡ false = ap (λ (p : Option (List (List ℕ))). is_some p) h in cc)

-- a word that is larger than the limit has no value and no fields
none_after : (rules : Rules) (front : List ℕ) (word : List Atom) (s : State) → expanded_value (known_in s) rules.limits.word word ≡ None → fields_after rules front word s ≡ None
none_after rules front word s e = either (within_limit (known_in s) rules.limits.word word) _ _ e
  where
    either : (b : Bool) (x : List ℕ) (y : List (List ℕ)) → (if b then Some x else None) ≡ None → (if b then Some y else None) ≡ None
    either true x y h = absurd (let f : true ≡ false = ap (λ (p : Option (List ℕ)). is_some p) h in cc)
    either false x y h = refl

-- an assignment that calls a command
called_none : (rules : Rules) (name : List ℕ) (word : List Atom) (s : State) → fields_after rules (name ++ codes "=") word s ≡ None → called rules name word s ≡ Stops Word
called_none rules name word s e = ap (λ (o : Option (List (List ℕ))). elim o [ None ↦ Stops Word | Some fields ↦ fails UnknownCommand (get_or fields 0 []) s ]) e

pub call_large : (rules : Rules) (name : List ℕ) (word : List Atom) (s : State) → s.steps < rules.limits.steps → fields_after rules (name ++ codes "=") word s ≡ None → step rules (called rules name word) s ≡ Ends Word None s
call_large rules name word s lt e = step_stopped rules (called rules name word) s Word lt (called_none rules name word s e)

pub called_some : (rules : Rules) (name : List ℕ) (word : List Atom) (s : State) (fields : List (List ℕ)) (first : List ℕ) → fields_after rules (name ++ codes "=") word s ≡ Some fields → first ≡ get_or fields 0 [] → called rules name word s ≡ fails UnknownCommand first s
called_some rules name word s fields first e f = ap (λ (o : Option (List (List ℕ))). elim o [ None ↦ Stops Word | Some fs ↦ fails UnknownCommand (get_or fs 0 []) s ]) e ∙ ap (λ (x : List ℕ). fails UnknownCommand x s) (sym f)

pub value_large : (rules : Rules) (name : List ℕ) (word : List Atom) (s : State) → s.steps < rules.limits.steps → value_of rules word s ≡ None → step rules (assigned rules name word) s ≡ Ends Word None s
value_large rules name word s lt e =
    let none = no_value (expanded_value (known_in s) rules.limits.word word) e in
    step_stopped rules (assigned rules name word) s Word lt (either (is_call rules.shell name) none)
  where
    either : (b : Bool) → expanded_value (known_in s) rules.limits.word word ≡ None → (if b then called rules name word s else assigned_to rules.shell name (expanded_value (known_in s) rules.limits.word word) s) ≡ Stops Word
    either true none = called_none rules name word s (none_after rules (name ++ codes "=") word s none)
    either false none = ap (λ (o : Option (List ℕ)). assigned_to rules.shell name o s) none

-- it is as what it calls, or as what it assigns
pub assign_called : (rules : Rules) (name : List ℕ) (word : List Atom) (s : State) → is_call rules.shell name ≡ true → assigned rules name word s ≡ called rules name word s
assign_called rules name word s is = ap (λ (b : Bool). if b then called rules name word s else assigned_to rules.shell name (expanded_value (known_in s) rules.limits.word word) s) is

assign_uncalled : (rules : Rules) (name : List ℕ) (word : List Atom) (s : State) → is_call rules.shell name ≡ false → assigned rules name word s ≡ assigned_to rules.shell name (expanded_value (known_in s) rules.limits.word word) s
assign_uncalled rules name word s is = ap (λ (b : Bool). if b then called rules name word s else assigned_to rules.shell name (expanded_value (known_in s) rules.limits.word word) s) is

-- the one field that is its value
pub value_made : (o : Option (List ℕ)) (m : Made) → option_map whole (option_map (λ (v : List ℕ). v ∷ []) o) ≡ Some m → (v : List ℕ) × (o ≡ Some v) × (m.done ≡ v ∷ [])
value_made None m e = absurd (let f : false ≡ true = ap (λ (p : Option Made). is_some p) e in cc)
value_made (Some v) m e = (v, refl, sym (ap (λ (p : Option Made). unwrap_or (option_map (λ x. x.done) p) (v ∷ [])) e))

pub assign_refused : (rules : Rules) (name : List ℕ) (word : List Atom) (s : State) (v : List ℕ) → expanded_value (known_in s) rules.limits.word word ≡ Some v → is_call rules.shell name ≡ false → refuses rules.shell s name ≡ true → assigned rules name word s ≡ fails IsVariable name s
assign_refused rules name word s v e uncalled is =
    assign_uncalled rules name word s uncalled
    ∙ ap (λ (o : Option (List ℕ)). assigned_to rules.shell name o s) e
    ∙ ap (λ (b : Bool). if b then fails IsVariable name s else Does (record s { locals = map.insert s.locals name v; status = 0 })) is

pub assign_done : (rules : Rules) (name : List ℕ) (word : List Atom) (s : State) (v : List ℕ) → expanded_value (known_in s) rules.limits.word word ≡ Some v → is_call rules.shell name ≡ false → refuses rules.shell s name ≡ false → assigned rules name word s ≡ Does (record s { locals = map.insert s.locals name v; status = 0 })
assign_done rules name word s v e uncalled is =
    assign_uncalled rules name word s uncalled
    ∙ ap (λ (o : Option (List ℕ)). assigned_to rules.shell name o s) e
    ∙ ap (λ (b : Bool). if b then fails IsVariable name s else Does (record s { locals = map.insert s.locals name v; status = 0 })) is

pub unprinted : {X : Type 0} (rules : Rules) (meant : Meant) (left : X → Meant) (d : Done) (s : State) (after : Held) (new : Printed) (fault : PrintFault) → Carries d s.held after s.printed new (Err fault) → ((begin : Begin) → carries d s ≡ Stops Output → meant rules begin s ≡ Ends Output None s) → Did rules meant left s (record { held = after; locals = s.locals; status = s.status; printed = new; steps = s.steps; departure = s.departure }) (Err (ending_of_print fault))
unprinted rules meant left d s after new print.Output c stops = rw (c.1, c.2) (λ begin. stops begin (too_long d s c.0))
unprinted rules meant left d s after new print.Memory c stops = rw (c.0, c.1) refl

-- a name of `env delete`
module _ (rules : Rules) (name : List ℕ) (rest : List (List ℕ)) (force failed : Bool) (s : State) where
  pub delete_halts : (begin : Begin) → rules.limits.steps ≤ s.steps → deletions rules force failed (name ∷ rest) s ≡ Ends Steps None s
  delete_halts begin le = ap (λ (o : Out). o >>= (λ t. deletions rules force (not (t.status == 0)) rest t)) (step_halts rules (λ t. carries (deletion_of t.held name force failed) t) s le)

  pub delete_stops : (begin : Begin) → s.steps < rules.limits.steps → carries (deletion_of s.held name force failed) s ≡ Stops Output → deletions rules force failed (name ∷ rest) s ≡ Ends Output None s
  delete_stops begin lt e = ap (λ (o : Out). o >>= (λ t. deletions rules force (not (t.status == 0)) rest t)) (step_stopped rules (λ t. carries (deletion_of t.held name force failed) t) s Output lt e)

  pub delete_done : (after : Held) (new : Printed) (status k : ℕ) → s.steps < rules.limits.steps → Carries (deletion_of s.held name force failed) s.held after s.printed new (Ok status) → k ≡ suc s.steps → Did rules (λ r begin. deletions r force failed (name ∷ rest)) (λ flag r begin. deletions r force flag rest) s (record { held = after; locals = s.locals; status = status; printed = new; steps = k; departure = s.departure }) (Ok (not (status == 0)))
  delete_done after new status k lt c is =
      let d = deletion_of s.held name force failed in
      rw (c.1, c.2, c.3) (
      let did = step_done rules (λ t. carries (deletion_of t.held name force failed) t) s (carried d s) k lt (fits d s c.0) is in
      (did.0, λ n begin le. ap (λ (o : Out). o >>= (λ t. deletions (within n rules) force (not (t.status == 0)) rest t)) (did.1 n le))
      )

-- a binding
module _ (rules : Rules) (name field : List ℕ) (rest : List (List ℕ)) (body : Meant) (s : State) where
  pub bind_halts : (begin : Begin) → rules.limits.steps ≤ s.steps → bindings rules name (body rules begin) (field ∷ rest) s ≡ Ends Steps None s
  bind_halts begin le = either (refuses rules.shell s name)
    where
      either : (b : Bool) → (if b then step rules (fails IsVariable name) s else (step rules (bound_to rules.shell name field) s >>= body rules begin >>= bindings rules name (body rules begin) rest)) ≡ Ends Steps None s
      either true = step_halts rules _ s le
      either false = ap (λ (o : Out). o >>= body rules begin >>= bindings rules name (body rules begin) rest) (step_halts rules (bound_to rules.shell name field) s le)

  bound_called : (t : State) → is_call rules.shell name ≡ true → bound_to rules.shell name field t ≡ fails UnknownCommand (name ++ codes "=" ++ field) t
  bound_called t calls = ap (λ (b : Bool). if b then fails UnknownCommand (name ++ codes "=" ++ field) t else Does (record t { locals = map.insert t.locals name field; status = bound_status rules.shell t.status })) calls

  -- if the name is a variable's, it is as the step that fails
  pub bind_refused : (t : State) → refuses rules.shell s name ≡ true → Did rules (λ r begin. step r (fails IsVariable name)) (λ (u : Unit {0}) r begin. Goes) s t (Ok tt) → Did rules (λ r begin. bindings r name (body r begin) (field ∷ rest)) (λ bound r begin. if bound then (body r begin then bindings r name (body r begin) rest) else Goes) s t (Ok false)
  bind_refused t taken did = (did.0, λ n begin le. ap (λ (b : Bool). if b then step (within n rules) (fails IsVariable name) s else (step (within n rules) (bound_to rules.shell name field) s >>= body (within n rules) begin >>= bindings (within n rules) name (body (within n rules) begin) rest)) taken ∙ did.1 n begin le)

  pub bind_stopped : (t : State) (o : Option Reason) → refuses rules.shell s name ≡ true → NotDone rules (λ r begin. step r (fails IsVariable name)) s t o → NotDone rules (λ r begin. bindings r name (body r begin) (field ∷ rest)) s t o
  bind_stopped t (Some e) taken did = λ begin. ap (λ (b : Bool). if b then step rules (fails IsVariable name) s else (step rules (bound_to rules.shell name field) s >>= body rules begin >>= bindings rules name (body rules begin) rest)) taken ∙ did begin
  bind_stopped t None taken did = did

  -- if it calls a command, it is as the step that fails, and then the body
  pub bind_called : (t : State) → refuses rules.shell s name ≡ false → is_call rules.shell name ≡ true → Did rules (λ r begin. step r (fails UnknownCommand (name ++ codes "=" ++ field))) (λ (u : Unit {0}) r begin. Goes) s t (Ok tt) → Did rules (λ r begin. bindings r name (body r begin) (field ∷ rest)) (λ bound r begin. if bound then (body r begin then bindings r name (body r begin) rest) else Goes) s t (Ok true)
  bind_called t free calls did = (
    did.0,
    λ n begin le.
        ap (λ (b : Bool). if b then step (within n rules) (fails IsVariable name) s else (step (within n rules) (bound_to rules.shell name field) s >>= body (within n rules) begin >>= bindings (within n rules) name (body (within n rules) begin) rest)) free
        ∙ ap (λ (o : Out). o >>= body (within n rules) begin >>= bindings (within n rules) name (body (within n rules) begin) rest) (step-same (within n rules) (bound_to rules.shell name field) (fails UnknownCommand (name ++ codes "=" ++ field)) s (bound_called s calls) ∙ did.1 n begin le),
  )

  pub bind_call_stopped : (t : State) (o : Option Reason) → refuses rules.shell s name ≡ false → is_call rules.shell name ≡ true → NotDone rules (λ r begin. step r (fails UnknownCommand (name ++ codes "=" ++ field))) s t o → NotDone rules (λ r begin. bindings r name (body r begin) (field ∷ rest)) s t o
  bind_call_stopped t (Some e) free calls did = λ begin.
      ap (λ (b : Bool). if b then step rules (fails IsVariable name) s else (step rules (bound_to rules.shell name field) s >>= body rules begin >>= bindings rules name (body rules begin) rest)) free
      ∙ ap (λ (o : Out). o >>= body rules begin >>= bindings rules name (body rules begin) rest) (step-same rules (bound_to rules.shell name field) (fails UnknownCommand (name ++ codes "=" ++ field)) s (bound_called s calls) ∙ did begin)
  bind_call_stopped t None free calls did = did

  pub bind_done : (k : ℕ) → s.steps < rules.limits.steps → refuses rules.shell s name ≡ false → is_call rules.shell name ≡ false → k ≡ suc s.steps → Did rules (λ r begin. bindings r name (body r begin) (field ∷ rest)) (λ bound r begin. if bound then (body r begin then bindings r name (body r begin) rest) else Goes) s (record s { locals = map.insert s.locals name field; status = bound_status rules.shell s.status; steps = k }) (Ok true)
  bind_done k lt free uncalled is =
      let does : bound_to rules.shell name field s ≡ Does (record s { locals = map.insert s.locals name field; status = bound_status rules.shell s.status }) =
      ap (λ (b : Bool). if b then fails UnknownCommand (name ++ codes "=" ++ field) s else Does (record s { locals = map.insert s.locals name field; status = bound_status rules.shell s.status })) uncalled in
      let did = step_done rules (bound_to rules.shell name field) s (record s { locals = map.insert s.locals name field; status = bound_status rules.shell s.status }) k lt does is in (
        did.0,
        λ n begin le.
            ap (λ (b : Bool). if b then step (within n rules) (fails IsVariable name) s else (step (within n rules) (bound_to rules.shell name field) s >>= body (within n rules) begin >>= bindings (within n rules) name (body (within n rules) begin) rest)) free
            ∙ ap (λ (o : Out). o >>= body (within n rules) begin >>= bindings (within n rules) name (body (within n rules) begin) rest) (did.1 n le),
      )

-- a start
start-absent : (r : Rules) (levels : ℕ) (name : List ℕ) (s : State) → map.get s.held.now.env name ≡ None → start r levels (Variable name) s ≡ step r (fails NotDefined name) s
unfolding start
start-absent r zero name s e = ap (λ (o : Option (List ℕ)). elim o [ None ↦ step r (fails NotDefined name) s | Some text ↦ step r (λ t. Stops Depth) s ]) e
start-absent r (suc levels) name s e = ap (λ (o : Option (List ℕ)). elim o [ None ↦ step r (fails NotDefined name) s | Some text ↦ entered r (script r (start r levels)) name (read_in (bodies_of r.shell) text) s ]) e

start-deep : (r : Rules) (name text : List ℕ) (s : State) → map.get s.held.now.env name ≡ Some text → start r 0 (Variable name) s ≡ step r (λ t. Stops Depth) s
unfolding start
start-deep r name text s e = ap (λ (o : Option (List ℕ)). elim o [ None ↦ step r (fails NotDefined name) s | Some text ↦ step r (λ t. Stops Depth) s ]) e

start-entered : (r : Rules) (levels : ℕ) (name text : List ℕ) (s : State) → map.get s.held.now.env name ≡ Some text → start r (suc levels) (Variable name) s ≡ entered r (script r (start r levels)) name (read_in (bodies_of r.shell) text) s
unfolding start
start-entered r levels name text s e = ap (λ (o : Option (List ℕ)). elim o [ None ↦ step r (fails NotDefined name) s | Some text ↦ entered r (script r (start r levels)) name (read_in (bodies_of r.shell) text) s ]) e

pub start_halts : (rules : Rules) (levels : ℕ) (name : List ℕ) (s : State) → rules.limits.steps ≤ s.steps → start rules levels (Variable name) s ≡ Ends Steps None s
start_halts rules levels name s le = by (map.get s.held.now.env name) levels refl
  where
    entered-halts : (run : Option Chains → State → Out) (o : Option (Option Chains)) → entered rules run name o s ≡ Ends Steps None s
    entered-halts run None = step_halts rules _ s le
    entered-halts run (Some tree) = ap (λ (o : Out). o >>= (λ t. in_text rules.shell name (run tree t))) (step_halts rules (λ t. Does (with_status (started_status rules.shell tree t.status) t)) s le)

    by : (o : Option (List ℕ)) (l : ℕ) → map.get s.held.now.env name ≡ o → start rules l (Variable name) s ≡ Ends Steps None s
    by None l e = start-absent rules l name s e ∙ step_halts rules _ s le
    by (Some text) zero e = start-deep rules name text s e ∙ step_halts rules _ s le
    by (Some text) (suc l) e = start-entered rules l name text s e ∙ entered-halts (script rules (start rules l)) (read_in (bodies_of rules.shell) text)

pub start_deep : (rules : Rules) (levels : ℕ) (name text : List ℕ) (s : State) → s.steps < rules.limits.steps → levels ≡ 0 → map.get s.held.now.env name ≡ Some text → start rules levels (Variable name) s ≡ Ends Depth None s
start_deep rules levels name text s lt none e = ap (λ (l : ℕ). start rules l (Variable name) s) none ∙ start-deep rules name text s e ∙ step_stopped rules (λ t. Stops Depth) s Depth lt refl

-- a start that fails with a message
pub start_failed : (rules : Rules) (message : Message) (levels : ℕ) (name : List ℕ) (s t : State) → ((r : Rules) → r.shell ≡ rules.shell → start r levels (Variable name) s ≡ step r (fails message name) s) → t.status ≡ 1 → Did rules (λ r begin. step r (fails message name)) (λ (u : Unit {0}) r begin. Goes) s t (Ok tt) → Started rules levels name s t (Ok None)
start_failed rules message levels name s t is one did = (did.0, ap (λ (n : ℕ). n == 0) one, λ n le. is (within n rules) refl ∙ did.1 n (start rules levels) le)

pub start_stopped : (rules : Rules) (message : Message) (levels : ℕ) (name : List ℕ) (s t : State) (o : Option Reason) → (has_variable s name ≡ true → 0 < levels) → ((r : Rules) → r.shell ≡ rules.shell → start r levels (Variable name) s ≡ step r (fails message name) s) → NotDone rules (λ r begin. step r (fails message name)) s t o → NotStarted rules levels name s t o
start_stopped rules message levels name s t (Some e) some is did = is rules refl ∙ did (start rules levels)
start_stopped rules message levels name s t None some is did = (did, some)

pub start_unstarted : (rules : Rules) (levels : ℕ) (name : List ℕ) (s : State) (e : Ending) → MayStep rules s.steps (Err e) → Started rules levels name s s (Err e)
start_unstarted rules levels name s e may = subst (λ (x : Ending). NotStarted rules levels name s s (reason_of x)) (sym may.0) (start_halts rules levels name s may.1)

pub is_absent : (shell : Shell) (levels : ℕ) (name : List ℕ) (s : State) → map.get s.held.now.env name ≡ None → (r : Rules) → r.shell ≡ shell → start r levels (Variable name) s ≡ step r (fails NotDefined name) s
is_absent shell levels name s e r same = start-absent r levels name s e

pub is_no_script : (shell : Shell) (levels : ℕ) (name text : List ℕ) (s : State) → (levels ≡ 0 → ⊥) → map.get s.held.now.env name ≡ Some text → read_in (bodies_of shell) text ≡ None → (r : Rules) → r.shell ≡ shell → start r levels (Variable name) s ≡ step r (fails NoScript name) s
is_no_script shell zero name text s some e none r same = absurd (some refl)
is_no_script shell (suc below) name text s some e none r same = start-entered r below name text s e ∙ ap (λ (o : Option (Option Chains)). entered r (script r (start r below)) name o s) (ap (λ (b : Shell). read_in (bodies_of b) text) same ∙ none)

pub start_done : (rules : Rules) (levels : ℕ) (name text : List ℕ) (s : State) (p : Parsed) (k : ℕ) → s.steps < rules.limits.steps → (levels ≡ 0 → ⊥) → map.get s.held.now.env name ≡ Some text → read_in (bodies_of rules.shell) text ≡ Some (tree_of p) → k ≡ suc s.steps → Started rules levels name s (record s { status = started_status rules.shell (tree_of p) s.status; steps = k }) (Ok (Some p))
start_done rules zero name text s p k lt some e reads is = absurd (some refl)
start_done rules (suc below) name text s p k lt some e reads is =
    let did = step_done rules (λ t. Does (with_status (started_status rules.shell (tree_of p) t.status) t)) s (with_status (started_status rules.shell (tree_of p) s.status) s) k lt refl is in (
      did.0,
      below,
      refl,
      λ n le.
          start-entered (within n rules) below name text s e
          ∙ ap (λ (o : Option (Option Chains)). entered (within n rules) (script (within n rules) (start (within n rules) below)) name o s) reads
          ∙ ap (λ (o : Out). o >>= (λ t. in_text rules.shell name (script (within n rules) (start (within n rules) below) (tree_of p) t))) (did.1 n le),
    )

-- a start of a text that answers a call
answer-deep : (r : Rules) (words : List (List ℕ)) (text : List ℕ) (s : State) → start r 0 (Answer words text) s ≡ step r (λ t. Stops Depth) s
unfolding start
answer-deep r words text s = refl

answer-started : (r : Rules) (levels : ℕ) (words : List (List ℕ)) (text : List ℕ) (s : State) → start r (suc levels) (Answer words text) s ≡ answered r (script r (start r levels)) words (read_in (bodies_of r.shell) text) s
unfolding start
answer-started r levels words text s = refl

pub answer_halts : (rules : Rules) (levels : ℕ) (words : List (List ℕ)) (text : List ℕ) (s : State) → rules.limits.steps ≤ s.steps → start rules levels (Answer words text) s ≡ Ends Steps None s
answer_halts rules levels words text s le = by levels
  where
    answered-halts : (run : Option Chains → State → Out) (o : Option (Option Chains)) → answered rules run words o s ≡ Ends Steps None s
    answered-halts run None = step_halts rules _ s le
    answered-halts run (Some tree) = ap (λ (o : Out). o >>= (λ t. in_answer (run tree t))) (step_halts rules (λ t. Does (record t { locals = with_words t.locals words; status = started_status rules.shell tree t.status })) s le)

    by : (l : ℕ) → start rules l (Answer words text) s ≡ Ends Steps None s
    by zero = answer-deep rules words text s ∙ step_halts rules _ s le
    by (suc l) = answer-started rules l words text s ∙ answered-halts (script rules (start rules l)) (read_in (bodies_of rules.shell) text)

pub answer_deep : (rules : Rules) (levels : ℕ) (words : List (List ℕ)) (text : List ℕ) (s : State) → s.steps < rules.limits.steps → levels ≡ 0 → start rules levels (Answer words text) s ≡ Ends Depth None s
answer_deep rules levels words text s lt none = ap (λ (l : ℕ). start rules l (Answer words text) s) none ∙ answer-deep rules words text s ∙ step_stopped rules (λ t. Stops Depth) s Depth lt refl

pub answer_unstarted : (rules : Rules) (levels : ℕ) (words : List (List ℕ)) (text : List ℕ) (s : State) (e : Ending) → MayStep rules s.steps (Err e) → Answered rules levels words text s s (Err e)
answer_unstarted rules levels words text s e may = subst (λ (x : Ending). NotAnswered rules levels words text s s (reason_of x)) (sym may.0) (answer_halts rules levels words text s may.1)

is_no_answer : (shell : Shell) (levels : ℕ) (words : List (List ℕ)) (text : List ℕ) (s : State) → (levels ≡ 0 → ⊥) → read_in (bodies_of shell) text ≡ None → (r : Rules) → r.shell ≡ shell → start r levels (Answer words text) s ≡ step r (fails NoScript (get_or words 0 [])) s
is_no_answer shell zero words text s some none r same = absurd (some refl)
is_no_answer shell (suc below) words text s some none r same = answer-started r below words text s ∙ ap (λ (o : Option (Option Chains)). answered r (script r (start r below)) words o s) (ap (λ (b : Shell). read_in (bodies_of b) text) same ∙ none)

-- a text that is no script
pub answer_failed : (rules : Rules) (levels : ℕ) (words : List (List ℕ)) (text name : List ℕ) (s t : State) → (levels ≡ 0 → ⊥) → read_in (bodies_of rules.shell) text ≡ None → name ≡ get_or words 0 [] → Did rules (λ r begin. step r (fails NoScript name)) (λ (u : Unit {0}) r begin. Goes) s t (Ok tt) → Answered rules levels words text s t (Ok None)
answer_failed rules levels words text name s t some none is did =
    (did.0, λ n le. is_no_answer rules.shell levels words text s some none (within n rules) refl ∙ ap (λ (m : List ℕ). step (within n rules) (fails NoScript m) s) (sym is) ∙ did.1 n (start rules levels) le)

pub answer_stopped : (rules : Rules) (levels : ℕ) (words : List (List ℕ)) (text name : List ℕ) (s t : State) (o : Option Reason) → (levels ≡ 0 → ⊥) → read_in (bodies_of rules.shell) text ≡ None → name ≡ get_or words 0 [] → NotDone rules (λ r begin. step r (fails NoScript name)) s t o → NotAnswered rules levels words text s t o
answer_stopped rules levels words text name s t (Some e) some none is did = is_no_answer rules.shell levels words text s some none rules refl ∙ ap (λ (m : List ℕ). step rules (fails NoScript m) s) (sym is) ∙ did (start rules levels)
answer_stopped rules levels words text name s t None some none is did = did

pub answer_done : (rules : Rules) (levels : ℕ) (words : List (List ℕ)) (text : List ℕ) (s : State) (p : Parsed) (k : ℕ) → s.steps < rules.limits.steps → (levels ≡ 0 → ⊥) → read_in (bodies_of rules.shell) text ≡ Some (tree_of p) → k ≡ suc s.steps → Answered rules levels words text s (record s { locals = with_words s.locals words; status = started_status rules.shell (tree_of p) s.status; steps = k }) (Ok (Some p))
answer_done rules zero words text s p k lt some reads is = absurd (some refl)
answer_done rules (suc below) words text s p k lt some reads is =
    let does : State → Effect = λ t. Does (record t { locals = with_words t.locals words; status = started_status rules.shell (tree_of p) t.status }) in
    let did = step_done rules does s (record s { locals = with_words s.locals words; status = started_status rules.shell (tree_of p) s.status }) k lt refl is in (
      did.0,
      below,
      refl,
      λ n le.
          answer-started (within n rules) below words text s
          ∙ ap (λ (o : Option (Option Chains)). answered (within n rules) (script (within n rules) (start (within n rules) below)) words o s) reads
          ∙ ap (λ (o : Out). o >>= (λ t. in_answer (script (within n rules) (start (within n rules) below) (tree_of p) t))) (did.1 n le),
    )

pub as_step : (rules : Rules) (effect other : State → Effect) (s t : State) (result : Result (Unit {0}) Ending) → effect s ≡ other s → Did rules (λ r begin. step r other) (λ (u : Unit {0}) r begin. Goes) s t result → Did rules (λ r begin. step r effect) (λ (u : Unit {0}) r begin. Goes) s t result
as_step rules effect other s t (Ok u) e did = (did.0, λ n begin le. step-same (within n rules) effect other s e ∙ did.1 n begin le)
as_step rules effect other s t (Err x) e did = stopped (reason_of x) did
  where
    stopped : (o : Option Reason) → NotDone rules (λ r begin. step r other) s t o → NotDone rules (λ r begin. step r effect) s t o
    stopped (Some r) h = λ begin. step-same rules effect other s e ∙ h begin
    stopped None h = h

pub first_same : (x y : List ℕ) (xs ys : List (List ℕ)) → x ∷ xs ≡ y ∷ ys → x ≡ y
first_same x y xs ys e = ap (λ (l : List (List ℕ)). first l) e
  where
    first : List (List ℕ) → List ℕ
    first [] = x
    first (z ∷ zs) = z
