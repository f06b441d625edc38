-- A run changes the session by writes and saves alone.
use Rattle.std.proofs.Common.{◌≡◌, not, ℕ, zero, suc, Bool, true, false, get_or, List, [], ◌∷◌, ◌++◌, length, fold, Option, Some, None, refl, sym, ap, subst, ◌∙◌, if◌then◌else◌, cond, is_some, codes, nat_lt, ◌==◌, inl, inr}
use Rattle.std.specs.Prelude.{◌&&◌}
use Rattle.std.specs.List.{list_all}
use Rattle.std.specs.FinMap as map
use Rattle.std.proofs.lemmas.List.Sums.{fold-append}
use Rattle.std.proofs.lemmas.List.Folds.{list_all-append}
use Rattle.envvars_core.specs.declared.refusals.Refusal.{Refusal}
use Rattle.env_session.specs.Session.{Held, Mark, on_last, written, saving, side_of}
use Rattle.env_session.specs.Requests.{Request, Write, Import, Save, MarkNow, UndoTo, Print, refusal_in, request, Runs}
use Rattle.env_session.specs.Laws.{spares}
use Rattle.env_session.proofs.LawLemmas.{marks_stand}
use Rattle.hush_words.specs.Words.{Atom}
use Rattle.hush_syntax.specs.Grammar.{Command, Simple, Assign, If, For, While, Until, Branches, Elif, Else, Fi, Chain, First, Links, End, Link, Chains, Last, More}
use Rattle.hush_syntax.specs.Reading.{read_in}
use Rattle.hush_commands.specs.declared.follow.Follow.{Follow}
use Rattle.hush_commands.specs.declared.follow.Follow.TheVariants as follow
use Rattle.hush_commands.specs.declared.messages.Message.{Message}
use Rattle.hush_commands.specs.declared.messages.Message.TheVariants.{NotDefined, UnknownCommand, IsVariable, NoScript}
use Rattle.hush_commands.specs.Hardware.{Hardware, with_words}
use Rattle.hush_commands.specs.declared.shell.Shell.{Shell}
use Rattle.hush_commands.specs.Carrying.{Done, done_of, deletion_of}
use Rattle.hush_commands.proofs.LeavingLemmas.{Leaves as IsLeft, done_leaves, deletion_leaves}
use Rattle.hush_commands.specs.Following.{follow_of}
use Rattle.hush_run.specs.Meaning.{Rules, Starting, Variable, Answer, answered, Begin, State, Out, Goes, Leaves, Ends, ◌>>=◌, ◌then◌, Effect, Does, Exits, Stops, done, step, with_status, carries, fails, goes_on, turns, if_ok, in_turn, deletions, follows, have_value, followed, simple, bindings, for, joins, leaves_chain, after_skip, refuses, started_status, fields_of, list_of, exiting, effect, effect_in, asked, asks_save, fields_after, called, is_call, bound_to, assigned_to, assigned, command, otherwise, chain, linked, chains, script, start, looked_up, in_list, in_text, in_answer, entered, ended, meaning, bodies_of}
use Rattle.hush_run.specs.Meaning.Reason.{Word}
use Rattle.env_requests.specs.Laws.{run_left, writes_or_saves, RunIsRequests, RunKeepsMarks}

-- writes and saves, each of which was done, lead from the one session to the other
pub record Leads (h after : Held) : Type 0 where
  pub requests : List Request
  pub only : list_all writes_or_saves requests ≡ true
  pub left : fold request h requests ≡ after

nothing : (h : Held) → Leads h h
nothing h = record { requests = []; only = refl; left = refl }

one : (h : Held) (r : Request) → writes_or_saves r ≡ true → Leads h (request h r)
one h r is = record { requests = r ∷ []; only = ap (λ b. b && true) is; left = refl }

both : (h mid after : Held) → Leads h mid → Leads mid after → Leads h after
both h mid after a b = record {
  requests = a.requests ++ b.requests;
  only = list_all-append writes_or_saves a.requests b.requests ∙ (λ i. a.only i && b.only i);
  left = fold-append request h a.requests b.requests ∙ ap (λ m. fold request m b.requests) a.left ∙ b.left;
}

-- to where it goes on, leaves its text or ends
abbrev Comes : Held → Out → Type 0
Comes h (Goes t) = Leads h t.held
Comes h (Leaves own t) = Leads h t.held
Comes h (Ends e place t) = Leads h t.held

abbrev Changes : (State → Out) → Type 0
Changes p = (s : State) → Comes s.held (p s)

comes_from : (h mid : Held) (o : Out) → Leads h mid → Comes mid o → Comes h o
comes_from h mid (Goes t) a b = both h mid t.held a b
comes_from h mid (Leaves own t) a b = both h mid t.held a b
comes_from h mid (Ends e place t) a b = both h mid t.held a b

bind_comes : (h : Held) (o : Out) (f : State → Out) → Comes h o → Changes f → Comes h (o >>= f)
bind_comes h (Goes t) f a c = comes_from h t.held (f t) a (c t)
bind_comes h (Leaves own t) f a c = a
bind_comes h (Ends e place t) f a c = a

then_changes : (p q : State → Out) → Changes p → Changes q → Changes (p then q)
then_changes p q a b s = bind_comes s.held (p s) q (a s) b

goes_changes : Changes Goes
goes_changes s = nothing s.held

by_bool : {X : Type 0} (b : Bool) (P : X → Type 0) (x y : X) → P x → P y → P (if b then x else y)
by_bool true P x y a b = a
by_bool false P x y a b = b

if_ok_changes : (p q : State → Out) → Changes p → Changes q → Changes (if_ok p q)
if_ok_changes p q a b s = by_bool (s.status == 0) (Comes s.held) (p s) (q s) (a s) (b s)

-- a step
abbrev Acts : Held → Effect → Type 0
Acts h (Does t) = Leads h t.held
Acts h (Exits t) = Leads h t.held
Acts h (Stops e) = Unit {0}

done_comes : (s : State) (e : Effect) → Acts s.held e → Comes s.held (done s e)
done_comes s (Does t) a = a
done_comes s (Exits t) a = a
done_comes s (Stops e) a = nothing s.held

step_changes : (rules : Rules) (effect : State → Effect) → ((s : State) → Acts s.held (effect s)) → Changes (step rules effect)
unfolding step
step_changes rules effect a s = by_bool (nat_lt s.steps rules.limits.steps) (Comes s.held) (done s (effect s)) _ (done_comes s (effect s) (a s)) (nothing s.held)

carries_acts : (d : Done) (s : State) → Leads s.held d.1 → Acts s.held (carries d s)
carries_acts d s a = by_bool (nat_lt s.printed.limit (length (s.printed.text ++ d.0.text))) (Acts s.held) _ _ tt a

fails_acts : (message : Message) (name : List ℕ) (s : State) → Acts s.held (fails message name s)
fails_acts message name s = carries_acts _ s (nothing s.held)

-- the commands
by_leaving : (h after : Held) → IsLeft h after → Leads h after
by_leaving h after (inl e) = subst (Leads h) (sym e) (nothing h)
by_leaving h after (inr (inl e)) = subst (Leads h) (sym e) (one h Save refl)
by_leaving h after (inr (inr (name, text, force, e))) = subst (Leads h) (sym e) (one h (Write name (Some text) force) refl)

done_leads : (shell : Shell) (stand_ins : Hardware) (fields : List (List ℕ)) (status : ℕ) (h : Held) → Leads h (done_of shell stand_ins fields status h).1
done_leads shell stand_ins fields status h = by_leaving h _ (done_leaves shell stand_ins fields status h)

deletion_leads : (h : Held) (name : List ℕ) (force failed : Bool) → Leads h (deletion_of h name force failed).1
deletion_leads h name force failed = by_leaving h _ (deletion_leaves h name force failed)

exiting_acts : (h : Held) (f : Follow) (e : Effect) → Acts h e → Acts h (exiting f e)
exiting_acts h follow.Next e a = a
exiting_acts h follow.Leaves e a = a
exiting_acts h (follow.End departure) (Does t) a = a
exiting_acts h (follow.End departure) (Exits t) a = a
exiting_acts h (follow.End departure) (Stops reason) a = a
exiting_acts h (follow.Starts names) e a = a
exiting_acts h (follow.Deletes force names) e a = a
exiting_acts h (follow.Answers words text) e a = a

effect_acts : (shell : Shell) (stand_ins : Hardware) (fields : List (List ℕ)) (s : State) → Acts s.held (effect shell stand_ins fields s)
unfolding effect
effect_acts shell stand_ins fields s = exiting_acts s.held (follow_of shell stand_ins fields) _ (carries_acts (done_of shell stand_ins fields s.status s.held) s (done_leads shell stand_ins fields s.status s.held))

-- nothing of a save that is asked for
effect_in_acts : (rules : Rules) (fields : List (List ℕ)) (s : State) → Acts s.held (effect_in rules fields s)
effect_in_acts rules fields s =
    by_bool (asks_save rules fields s) (Acts s.held) (asked fields s) (effect rules.shell rules.stand_ins fields s)
    (nothing s.held) (effect_acts rules.shell rules.stand_ins fields s)

assigned_acts : (shell : Shell) (name : List ℕ) (o : Option (List ℕ)) (s : State) → Acts s.held (assigned_to shell name o s)
assigned_acts shell name None s = tt
assigned_acts shell name (Some value) s = by_bool (refuses shell s name) (Acts s.held) (fails IsVariable name s) (Does (record s { locals = map.insert s.locals name value; status = 0 })) (fails_acts IsVariable name s) (nothing s.held)

call_acts : (o : Option (List (List ℕ))) (s : State) → Acts s.held (elim o [ None ↦ Stops Word | Some fields ↦ fails UnknownCommand (get_or fields 0 []) s ])
call_acts None s = tt
call_acts (Some fields) s = fails_acts UnknownCommand (get_or fields 0 []) s

assign_acts : (rules : Rules) (name : List ℕ) (value : List Atom) (s : State) → Acts s.held (assigned rules name value s)
assign_acts rules name value s =
    by_bool (is_call rules.shell name) (Acts s.held) (called rules name value s) _ (call_acts (fields_after rules (name ++ codes "=") value s) s) (assigned_acts rules.shell name _ s)

bound_acts : (shell : Shell) (name field : List ℕ) (s : State) → Acts s.held (bound_to shell name field s)
bound_acts shell name field s = by_bool (is_call shell name) (Acts s.held) (fails UnknownCommand (name ++ codes "=" ++ field) s) _ (fails_acts UnknownCommand (name ++ codes "=" ++ field) s) (nothing s.held)

-- the turns of a loop
turns_change : (shell : Shell) (n : ℕ) (wanted : Bool) (c d : State → Out) (last : ℕ) → Changes c → Changes d → Changes (turns shell n wanted c d last)
unfolding turns
turns_change shell zero wanted c d last a b s = nothing s.held
turns_change shell (suc n) wanted c d last a b s =
    bind_comes s.held (c s) _ (a s) (λ t.
    by_bool (goes_on wanted t) (Comes t.held) _ _ (bind_comes t.held (d t) _ (b t) (λ u. turns_change shell n wanted c d u.status a b u)) (nothing t.held))

deletions_change : (rules : Rules) (force failed : Bool) (names : List (List ℕ)) → Changes (deletions rules force failed names)
deletions_change rules force failed [] s = nothing s.held
deletions_change rules force failed (name ∷ names) s =
    bind_comes s.held _ (λ t. deletions rules force (not (t.status == 0)) names t)
    (step_changes rules (λ t. carries (deletion_of t.held name force failed) t) (λ t. carries_acts (deletion_of t.held name force failed) t (deletion_leads t.held name force failed)) s)
    (λ t. deletions_change rules force (not (t.status == 0)) names t)

bindings_change : (rules : Rules) (name : List ℕ) (body : State → Out) → Changes body → (fields : List (List ℕ)) → Changes (bindings rules name body fields)
bindings_change rules name body a [] s = nothing s.held
bindings_change rules name body a (f ∷ fs) s =
    by_bool (refuses rules.shell s name) (Comes s.held) _ _
    (step_changes rules (fails IsVariable name) (λ t. fails_acts IsVariable name t) s)
    (bind_comes s.held _ (bindings rules name body fs)
    (bind_comes s.held _ body (step_changes rules (bound_to rules.shell name f) (bound_acts rules.shell name f) s) a)
    (bindings_change rules name body a fs))

for_changes : (rules : Rules) (name : List ℕ) (fields : Option (List (List ℕ))) (body : State → Out) → Changes body → Changes (for rules name fields body)
for_changes rules name None body a = step_changes rules _ (λ s. tt)
for_changes rules name (Some []) body a = then_changes _ _ (step_changes rules Does (λ s. nothing s.held)) (λ s. nothing s.held)
for_changes rules name (Some (f ∷ fs)) body a = then_changes _ _ (step_changes rules Does (λ s. nothing s.held)) (bindings_change rules name body a (f ∷ fs))

in_list_comes : (h : Held) (o : Out) → Comes h o → Comes h (in_list o)
in_list_comes h (Goes t) a = a
in_list_comes h (Leaves own t) a = a
in_list_comes h (Ends e place t) a = a

-- the parts of a tree
module _ (rules : Rules) (begin : Begin) (starts : (x : Starting) → Changes (begin x)) where
  in_turn_changes : (names : List (List ℕ)) → Changes (in_turn begin names)
  in_turn_changes [] = goes_changes
  in_turn_changes (name ∷ names) = then_changes (begin (Variable name)) _ (starts (Variable name)) (if_ok_changes (in_turn begin names) Goes (in_turn_changes names) goes_changes)

  follows_change : (f : Follow) → Changes (follows rules begin f)
  follows_change follow.Next = goes_changes
  follows_change (follow.End departure) = goes_changes
  follows_change follow.Leaves = λ s. nothing s.held
  follows_change (follow.Starts names) = in_turn_changes names
  follows_change (follow.Deletes force names) = deletions_change rules force false names
  follows_change (follow.Answers words text) = starts (Answer words text)

  simple_changes : (has_value : Bool) (fields : Option (List (List ℕ))) → Changes (simple rules begin has_value fields)
  simple_changes has_value None s = step_changes rules _ (λ t. tt) s
  simple_changes has_value (Some fields) s =
      let f = followed has_value (follow_of rules.shell rules.stand_ins fields) in
      bind_comes s.held _ (follows rules begin f)
      (step_changes rules (effect_in rules fields) (effect_in_acts rules fields) s)
      (follows_change f)

  mutual
    command_changes : (c : Command) → Changes (command rules begin c)
    command_changes (Simple words) = λ s. simple_changes (have_value words) (fields_of rules words s) s
    command_changes (Assign name value) = step_changes rules (assigned rules name value) (assign_acts rules name value)
    command_changes (If c d branches) = then_changes _ _ (chains_change c) (if_ok_changes _ _ (chains_change d) (otherwise_changes branches))
    command_changes (For name words d) = λ s. for_changes rules name (list_of rules words s) _ (chains_change d) s
    command_changes (While c d) = turns_change rules.shell (suc rules.limits.steps) true _ _ 0 (chains_change c) (chains_change d)
    command_changes (Until c d) = turns_change rules.shell (suc rules.limits.steps) false _ _ 0 (chains_change c) (chains_change d)

    otherwise_changes : (b : Branches) → Changes (otherwise rules begin b)
    otherwise_changes (Elif c d branches) = then_changes _ _ (chains_change c) (if_ok_changes _ _ (chains_change d) (otherwise_changes branches))
    otherwise_changes (Else d) = chains_change d
    otherwise_changes Fi = λ s. nothing s.held

    chain_changes : (c : Chain) → Changes (chain rules begin c)
    chain_changes (First c links) = then_changes _ _ (command_changes c) (linked_changes links)

    linked_changes : (l : Links) → Changes (linked rules begin l)
    linked_changes End = goes_changes
    linked_changes (Link operator c links) = λ s.
        by_bool (joins operator (s.status == 0)) (Comes s.held) (command rules begin c s >>= linked rules begin links) (after_skip rules.shell (linked rules begin links) s)
        (then_changes _ _ (command_changes c) (linked_changes links) s)
        (by_bool (leaves_chain rules.shell) (Comes s.held) (Goes s) (linked rules begin links s) (goes_changes s) (linked_changes links s))

    chains_change : (cs : Chains) → Changes (chains rules begin cs)
    chains_change (Last c) = λ s. in_list_comes s.held (chain rules begin c s) (chain_changes c s)
    chains_change (More c cs) = then_changes (λ s. in_list (chain rules begin c s)) (chains rules begin cs) (λ s. in_list_comes s.held (chain rules begin c s) (chain_changes c s)) (chains_change cs)

  script_changes : (tree : Option Chains) → Changes (script rules begin tree)
  script_changes None = goes_changes
  script_changes (Some cs) = chains_change cs

-- a start
looked_up_changes : (rules : Rules) (enter : List ℕ → State → Out) (name : List ℕ) → ((text : List ℕ) → Changes (enter text)) → Changes (looked_up rules enter name)
looked_up_changes rules enter name a s =
    elim (map.get s.held.now.env name) as (λ o. Comes s.held (elim o [ None ↦ step rules (fails NotDefined name) s | Some text ↦ enter text s ])) [
      | None ↦ step_changes rules (fails NotDefined name) (λ t. fails_acts NotDefined name t) s
      | Some text ↦ a text s
    ]

in_text_comes : (shell : Shell) (h : Held) (name : List ℕ) (o : Out) → Comes h o → Comes h (in_text shell name o)
in_text_comes shell h name (Goes t) a = a
in_text_comes shell h name (Leaves own t) a = a
in_text_comes shell h name (Ends e place t) a = a

in_answer_comes : (h : Held) (o : Out) → Comes h o → Comes h (in_answer o)
in_answer_comes h (Goes t) a = a
in_answer_comes h (Leaves own t) a = a
in_answer_comes h (Ends e place t) a = a

entered_changes : (rules : Rules) (run : Option Chains → State → Out) (name : List ℕ) → ((tree : Option Chains) → Changes (run tree)) → (o : Option (Option Chains)) → Changes (entered rules run name o)
entered_changes rules run name a None = step_changes rules (fails NoScript name) (λ t. fails_acts NoScript name t)
entered_changes rules run name a (Some tree) = then_changes _ _ (step_changes rules (λ s. Does (with_status (started_status rules.shell tree s.status) s)) (λ s. nothing s.held)) (λ s. in_text_comes rules.shell s.held name (run tree s) (a tree s))

answered_changes : (rules : Rules) (run : Option Chains → State → Out) (words : List (List ℕ)) → ((tree : Option Chains) → Changes (run tree)) → (o : Option (Option Chains)) → Changes (answered rules run words o)
answered_changes rules run words a None = step_changes rules (fails NoScript (get_or words 0 [])) (λ t. fails_acts NoScript (get_or words 0 []) t)
answered_changes rules run words a (Some tree) = then_changes _ _ (step_changes rules (λ s. Does (record s { locals = with_words s.locals words; status = started_status rules.shell tree s.status })) (λ s. nothing s.held)) (λ s. in_answer_comes s.held (run tree s) (a tree s))

start_changes : (rules : Rules) (levels : ℕ) (x : Starting) → Changes (start rules levels x)
unfolding start
start_changes rules zero (Variable name) = looked_up_changes rules _ name (λ text. step_changes rules _ (λ s. tt))
start_changes rules zero (Answer words text) = step_changes rules _ (λ s. tt)
start_changes rules (suc levels) (Variable name) = looked_up_changes rules _ name (λ text. entered_changes rules _ name (λ tree. script_changes rules (start rules levels) (start_changes rules levels) tree) (read_in (bodies_of rules.shell) text))
start_changes rules (suc levels) (Answer words text) = answered_changes rules _ words (λ tree. script_changes rules (start rules levels) (start_changes rules levels) tree) (read_in (bodies_of rules.shell) text)

-- a run
ended_leads : (h : Held) (o : Out) → Comes h o → Leads h (ended o).1.held
ended_leads h (Goes s) a = a
ended_leads h (Leaves own s) a = a
ended_leads h (Ends e place s) a = a

pub run_leads : (rules : Rules) (tree : Option Chains) (h : Held) → Leads h (run_left rules tree h)
unfolding meaning
run_leads rules tree h = ended_leads h _ (script_changes rules (start rules rules.limits.depth) (start_changes rules rules.limits.depth) tree _)

pub done_runs : (h : Held) (rs : List Request) (after : Held) → fold request h rs ≡ after → Runs h rs after
done_runs h [] after e = sym e
done_runs h (r ∷ rs) after e = (request h r, inl refl, done_runs (request h r) rs after e)

pub run_is_requests : RunIsRequests
run_is_requests rules tree h = let a = run_leads rules tree h in (a.requests, a.only, sym a.left, done_runs h a.requests _ a.left)

-- writes and saves leave each mark
pub both_left : (a b : Bool) → (a && b) ≡ true → a ≡ true
both_left true b e = refl
both_left false b e = e

pub both_right : (a b : Bool) → (a && b) ≡ true → b ≡ true
both_right true b e = e
both_right false b e = absurd (let f : false ≡ true = e in cc)

spared : (n : ℕ) (r : Request) → writes_or_saves r ≡ true → spares n r ≡ true
spared n (Write name new force) e = refl
spared n (Import es) e = absurd (let f : false ≡ true = e in cc)
spared n Save e = refl
spared n MarkNow e = absurd (let f : false ≡ true = e in cc)
spared n (UndoTo m) e = absurd (let f : false ≡ true = e in cc)
spared n Print e = absurd (let f : false ≡ true = e in cc)

pub all_spared : (n : ℕ) (rs : List Request) → list_all writes_or_saves rs ≡ true → list_all (spares n) rs ≡ true
all_spared n [] e = refl
all_spared n (r ∷ rs) e =
    (λ i. spared n r (both_left (writes_or_saves r) (list_all writes_or_saves rs) e) i && list_all (spares n) rs)
    ∙ all_spared n rs (both_right (writes_or_saves r) (list_all writes_or_saves rs) e)

pub length-on_last : (f : Mark → Mark) (ms : List Mark) → length (on_last f ms) ≡ length ms
length-on_last f [] = refl
length-on_last f (m ∷ []) = refl
length-on_last f (m ∷ n ∷ ms) = ap suc (length-on_last f (n ∷ ms))

pub as_many : (h : Held) (name : List ℕ) (new : Option (List ℕ)) (r : Option Refusal) → length (cond (is_some r) h (written h name new)).marks ≡ length h.marks
as_many h name new (Some r) = refl
as_many h name new None = length-on_last _ h.marks

pub request_as_many : (h : Held) (r : Request) → writes_or_saves r ≡ true → length (request h r).marks ≡ length h.marks
request_as_many h (Write name new force) e = as_many h name new (refusal_in h name new force)
request_as_many h (Import es) e = absurd (let f : false ≡ true = e in cc)
request_as_many h Save e = length-on_last (saving (side_of h)) h.marks
request_as_many h MarkNow e = absurd (let f : false ≡ true = e in cc)
request_as_many h (UndoTo m) e = absurd (let f : false ≡ true = e in cc)
request_as_many h Print e = absurd (let f : false ≡ true = e in cc)

all_as_many : (h : Held) (rs : List Request) → list_all writes_or_saves rs ≡ true → length (fold request h rs).marks ≡ length h.marks
all_as_many h [] e = refl
all_as_many h (r ∷ rs) e =
    all_as_many (request h r) rs (both_right (writes_or_saves r) (list_all writes_or_saves rs) e)
    ∙ request_as_many h r (both_left (writes_or_saves r) (list_all writes_or_saves rs) e)

pub run_keeps_marks : RunKeepsMarks
run_keeps_marks rules tree h =
    let a = run_leads rules tree h in (
      ap (λ (x : Held). length x.marks) (sym a.left) ∙ all_as_many h a.requests a.only,
      λ n there. (marks_stand h (run_left rules tree h) a.requests n there (all_spared n a.requests a.only) (done_runs h a.requests _ a.left)).1,
    )
