-- Each command counts a step at least, so a loop makes no more turns than the limit.
use Rattle.std.proofs.Common.{◌≡◌, not, ℕ, zero, suc, ◌+◌, ◌<◌, ◌≤◌, Bool, true, false, List, [], ◌∷◌, Option, Some, None, refl, ap, arith, if◌then◌else◌, nat_lt, ◌==◌, ltb-true}
use Rattle.hush_syntax.specs.Grammar.{Command, Simple, Assign, If, For, While, Until, Branches, Elif, Else, Fi, Chain, First, Links, End, Link, Chains, Last, More}
use Rattle.hush_run.specs.Meaning.Reason.{Steps}
use Rattle.hush_run.specs.Counting.{Within, Counts, Keeps}
use Rattle.std.specs.FinMap as map
use Rattle.hush_commands.specs.declared.follow.Follow.{Follow}
use Rattle.hush_commands.specs.declared.shell.Shell.{Shell}
use Rattle.hush_commands.specs.declared.follow.Follow.TheVariants as follow
use Rattle.hush_commands.specs.Following.{follow_of}
use Rattle.hush_commands.specs.declared.messages.Message.TheVariants.{NotDefined}
use Rattle.hush_syntax.specs.Reading.{read_in}
use Rattle.hush_run.specs.Meaning.{Rules, Starting, Variable, Answer, Begin, State, Out, Goes, Leaves, Ends, ◌>>=◌, ◌then◌, Effect, Does, Exits, Stops, done, step, with_status, goes_on, turns, if_ok, in_turn, deletions, follows, have_value, followed, simple, bindings, for, joins, leaves_chain, after_skip, loop_status, refuses, fields_of, list_of, effect_in, fails, command, otherwise, chain, linked, chains, script, start, looked_up, in_list, in_text, in_answer, entered, answered, bodies_of}
use Rattle.hush_run.specs.Resume.{looks}

pub within_bind : (low next high : ℕ) (o : Out) (f : State → Out) → next ≤ low → Within low high o → ((t : State) → low ≤ t.steps → t.steps ≤ high → Within next high (f t)) → Within next high (o >>= f)
within_bind low next high (Goes t) f le w h = h t w.0 w.1
within_bind low next high (Leaves own t) f le w h = (omega (arith, le, w.0), w.1)
within_bind low next high (Ends e p t) f le w h = tt

pub within_less : (low low' high : ℕ) (o : Out) → low' ≤ low → Within low high o → Within low' high o
within_less low low' high (Goes t) le w = (omega (arith, w.0), w.1)
within_less low low' high (Leaves own t) le w = (omega (arith, w.0), w.1)
within_less low low' high (Ends e p t) le w = tt

-- two ways to go on that agree at each state to which it may come
bind_same : (low high : ℕ) (o : Out) (f g : State → Out) → Within low high o → ((t : State) → low ≤ t.steps → t.steps ≤ high → f t ≡ g t) → (o >>= f) ≡ (o >>= g)
bind_same low high (Goes t) f g w h = h t w.0 w.1
bind_same low high (Leaves own t) f g w h = refl
bind_same low high (Ends e p t) f g w h = refl

pub keeps : (rules : Rules) (p : State → Out) → Counts rules p → Keeps rules p
keeps rules p c s le = within_less _ _ _ (p s) (omega arith) (c s le)

-- a step
done-counts : (s : State) (high : ℕ) (e : Effect) → s.steps < high → Within (suc s.steps) high (done s e)
done-counts s high (Does t) lt = (omega arith, omega (arith, lt))
done-counts s high (Exits t) lt = tt
done-counts s high (Stops e) lt = tt

step_by : (b : Bool) (s : State) (high : ℕ) (e : Effect) → (b ≡ true → s.steps < high) → Within (suc s.steps) high (if b then done s e else Ends Steps None s)
step_by true s high e h = done-counts s high e (h refl)
step_by false s high e h = tt

pub step-counts : (rules : Rules) (effect : State → Effect) → Counts rules (step rules effect)
unfolding step
step-counts rules effect s le = step_by (nat_lt s.steps rules.limits.steps) s rules.limits.steps (effect s) (λ e. ltb-true _ _ e)

by_bool : (b : Bool) (P : Out → Type 0) (x y : Out) → P x → P y → P (if b then x else y)
by_bool true P x y a b = a
by_bool false P x y a b = b

-- one after the other
pub then-counts : (rules : Rules) (p q : State → Out) → Counts rules p → Keeps rules q → Counts rules (p then q)
then-counts rules p q cp kq s le = within_bind (suc s.steps) _ rules.limits.steps (p s) q (omega arith) (cp s le) (λ t lo hi. within_less t.steps _ _ (q t) lo (kq t hi))

pub then-keeps : (rules : Rules) (p q : State → Out) → Keeps rules p → Keeps rules q → Keeps rules (p then q)
then-keeps rules p q kp kq s le = within_bind s.steps _ rules.limits.steps (p s) q (omega arith) (kp s le) (λ t lo hi. within_less t.steps _ _ (q t) lo (kq t hi))

pub goes-keeps : (rules : Rules) → Keeps rules Goes
goes-keeps rules s le = (omega arith, le)

if_ok-keeps : (rules : Rules) (p q : State → Out) → Keeps rules p → Keeps rules q → Keeps rules (if_ok p q)
if_ok-keeps rules p q kp kq s le = by_bool (s.status == 0) (Within s.steps rules.limits.steps) (p s) (q s) (kp s le) (kq s le)

-- the turns of a loop
turns-keep : (rules : Rules) (n : ℕ) (wanted : Bool) (c d : State → Out) (last : ℕ) → Counts rules c → Counts rules d → Keeps rules (turns rules.shell n wanted c d last)
unfolding turns
turns-keep rules zero wanted c d last cc cd s le = tt
turns-keep rules (suc n) wanted c d last cc cd s le =
    within_bind (suc s.steps) _ rules.limits.steps (c s) _ (omega arith) (cc s le) (λ t lo hi.
    by_bool (goes_on wanted t) (Within s.steps rules.limits.steps) _ _
    (within_bind (suc t.steps) _ rules.limits.steps (d t) _ (omega (arith, lo)) (cd t hi) (λ u low high. within_less _ _ _ (turns rules.shell n wanted c d u.status u) (omega (arith, lo, low)) (turns-keep rules n wanted c d u.status cc cd u high)))
    (omega (arith, lo), hi))

turns-count : (rules : Rules) (n : ℕ) (wanted : Bool) (c d : State → Out) (last : ℕ) → Counts rules c → Counts rules d → Counts rules (turns rules.shell n wanted c d last)
unfolding turns
turns-count rules zero wanted c d last cc cd s le = tt
turns-count rules (suc n) wanted c d last cc cd s le =
    within_bind (suc s.steps) _ rules.limits.steps (c s) _ (omega arith) (cc s le) (λ t lo hi.
    by_bool (goes_on wanted t) (Within (suc s.steps) rules.limits.steps) _ _
    (within_bind (suc t.steps) _ rules.limits.steps (d t) _ (omega (arith, lo)) (cd t hi) (λ u low high. within_less _ _ _ (turns rules.shell n wanted c d u.status u) (omega (arith, lo, low)) (turns-keep rules n wanted c d u.status cc cd u high)))
    (lo, hi))

-- with more turns than steps are left the number doesn't matter
pub enough_turns : (rules : Rules) (m n : ℕ) (wanted : Bool) (c d : State → Out) (last : ℕ) → Counts rules c → Counts rules d → (s : State) → s.steps ≤ rules.limits.steps → rules.limits.steps < m + s.steps → rules.limits.steps < n + s.steps → turns rules.shell m wanted c d last s ≡ turns rules.shell n wanted c d last s
unfolding turns
enough_turns rules zero n wanted c d last cc cd s le hm hn = absurd (omega (arith, le, hm))
enough_turns rules (suc m) zero wanted c d last cc cd s le hm hn = absurd (omega (arith, le, hn))
enough_turns rules (suc m) (suc n) wanted c d last cc cd s le hm hn =
    bind_same (suc s.steps) rules.limits.steps (c s) _ _ (cc s le) (λ t lo hi.
    ap (λ (o : Out). if goes_on wanted t then o else Goes (with_status (loop_status rules.shell last t.status) t))
    (bind_same (suc t.steps) rules.limits.steps (d t) _ _ (cd t hi) (λ u low high.
    enough_turns rules m n wanted c d u.status cc cd u high (omega (arith, lo, low, hm)) (omega (arith, lo, low, hn)))))

-- a loop is its condition, and what it does after that
pub turns-again : (rules : Rules) (wanted : Bool) (c d : State → Out) (last : ℕ) → Counts rules c → Counts rules d → (s : State) → s.steps ≤ rules.limits.steps → turns rules.shell (suc rules.limits.steps) wanted c d last s ≡ c s >>= looks rules wanted c d last
unfolding turns
turns-again rules wanted c d last cc cd s le =
    bind_same (suc s.steps) rules.limits.steps (c s) _ _ (cc s le) (λ t lo hi.
    ap (λ (o : Out). if goes_on wanted t then o else Goes (with_status (loop_status rules.shell last t.status) t))
    (bind_same (suc t.steps) rules.limits.steps (d t) _ _ (cd t hi) (λ u low high.
    enough_turns rules rules.limits.steps (suc rules.limits.steps) wanted c d u.status cc cd u high (omega (arith, lo, low)) (omega (arith, lo, low)))))

in_list-within : (low high : ℕ) (o : Out) → Within low high o → Within low high (in_list o)
in_list-within low high (Goes t) w = w
in_list-within low high (Leaves own t) w = w
in_list-within low high (Ends e p t) w = tt

-- the parts of a tree
module _ (rules : Rules) (begin : Begin) (counts : (x : Starting) → Counts rules (begin x)) where
  pub in_turn-keeps : (names : List (List ℕ)) → Keeps rules (in_turn begin names)
  in_turn-keeps [] = goes-keeps rules
  in_turn-keeps (name ∷ names) = then-keeps rules (begin (Variable name)) _ (keeps rules (begin (Variable name)) (counts (Variable name))) (if_ok-keeps rules (in_turn begin names) Goes (in_turn-keeps names) (goes-keeps rules))

  bindings-keep : (name : List ℕ) (body : State → Out) → Keeps rules body → (fields : List (List ℕ)) → Keeps rules (bindings rules name body fields)
  bindings-keep name body k [] s le = (omega arith, le)
  bindings-keep name body k (f ∷ fs) s le =
      by_bool (refuses rules.shell s name) (Within s.steps rules.limits.steps) _ _
      (keeps rules _ (step-counts rules _) s le)
      (within_bind s.steps _ rules.limits.steps _ (bindings rules name body fs) (omega arith) (within_bind s.steps _ rules.limits.steps _ body (omega arith) (keeps rules _ (step-counts rules _) s le) (λ t lo hi. within_less _ _ _ (body t) lo (k t hi))) (λ t lo hi. within_less _ _ _ (bindings rules name body fs t) lo (bindings-keep name body k fs t hi)))

  for-counts : (name : List ℕ) (fields : Option (List (List ℕ))) (body : State → Out) → Keeps rules body → Counts rules (for rules name fields body)
  for-counts name None body k = step-counts rules _
  for-counts name (Some []) body k = then-counts rules _ _ (step-counts rules _) (λ s le. (omega arith, le))
  for-counts name (Some (f ∷ fs)) body k = then-counts rules _ _ (step-counts rules _) (bindings-keep name body k (f ∷ fs))

  pub deletions-keep : (force failed : Bool) (names : List (List ℕ)) → Keeps rules (deletions rules force failed names)
  deletions-keep force failed [] s le = goes-keeps rules s le
  deletions-keep force failed (name ∷ names) s le =
      within_bind s.steps _ rules.limits.steps _ (λ t. deletions rules force (not (t.status == 0)) names t) (omega arith) (keeps rules _ (step-counts rules _) s le)
      (λ t lo hi. within_less _ _ _ (deletions rules force (not (t.status == 0)) names t) lo (deletions-keep force (not (t.status == 0)) names t hi))

  follows-keep : (f : Follow) → Keeps rules (follows rules begin f)
  follows-keep follow.Next = goes-keeps rules
  follows-keep (follow.End departure) = goes-keeps rules
  follows-keep follow.Leaves = λ s le. (omega arith, le)
  follows-keep (follow.Starts names) = in_turn-keeps names
  follows-keep (follow.Deletes force names) = deletions-keep force false names
  follows-keep (follow.Answers words text) = keeps rules (begin (Answer words text)) (counts (Answer words text))

  simple-counts : (has_value : Bool) (fields : Option (List (List ℕ))) → Counts rules (simple rules begin has_value fields)
  simple-counts has_value None s le = step-counts rules _ s le
  simple-counts has_value (Some fields) s le =
      let f = followed has_value (follow_of rules.shell rules.stand_ins fields) in
      within_bind (suc s.steps) _ rules.limits.steps _ (follows rules begin f) (omega arith) (step-counts rules (effect_in rules fields) s le)
      (λ t lo hi. within_less t.steps _ _ (follows rules begin f t) lo (follows-keep f t hi))

  mutual
    pub command-counts : (c : Command) → Counts rules (command rules begin c)
    command-counts (Simple words) = λ s le. simple-counts (have_value words) (fields_of rules words s) s le
    command-counts (Assign name value) = step-counts rules _
    command-counts (If c d branches) = then-counts rules _ _ (chains-count c) (if_ok-keeps rules _ _ (keeps rules _ (chains-count d)) (otherwise-keeps branches))
    command-counts (For name words d) = λ s le. for-counts name (list_of rules words s) _ (keeps rules _ (chains-count d)) s le
    command-counts (While c d) = turns-count rules (suc rules.limits.steps) true _ _ 0 (chains-count c) (chains-count d)
    command-counts (Until c d) = turns-count rules (suc rules.limits.steps) false _ _ 0 (chains-count c) (chains-count d)

    pub otherwise-keeps : (b : Branches) → Keeps rules (otherwise rules begin b)
    otherwise-keeps (Elif c d branches) = then-keeps rules _ _ (keeps rules _ (chains-count c)) (if_ok-keeps rules _ _ (keeps rules _ (chains-count d)) (otherwise-keeps branches))
    otherwise-keeps (Else d) = keeps rules _ (chains-count d)
    otherwise-keeps Fi = λ s le. (omega arith, le)

    pub chain-counts : (c : Chain) → Counts rules (chain rules begin c)
    chain-counts (First c links) = then-counts rules _ _ (command-counts c) (linked-keeps links)

    pub linked-keeps : (l : Links) → Keeps rules (linked rules begin l)
    linked-keeps End = goes-keeps rules
    linked-keeps (Link operator c links) = λ s le.
        by_bool (joins operator (s.status == 0)) (Within s.steps rules.limits.steps) (command rules begin c s >>= linked rules begin links) (after_skip rules.shell (linked rules begin links) s)
        (then-keeps rules _ _ (keeps rules _ (command-counts c)) (linked-keeps links) s le)
        (by_bool (leaves_chain rules.shell) (Within s.steps rules.limits.steps) (Goes s) (linked rules begin links s) (goes-keeps rules s le) (linked-keeps links s le))

    pub chains-count : (cs : Chains) → Counts rules (chains rules begin cs)
    chains-count (Last c) = λ s le. in_list-within (suc s.steps) rules.limits.steps (chain rules begin c s) (chain-counts c s le)
    chains-count (More c cs) =
        then-counts rules (λ s. in_list (chain rules begin c s)) (chains rules begin cs)
        (λ s le. in_list-within (suc s.steps) rules.limits.steps (chain rules begin c s) (chain-counts c s le))
        (keeps rules _ (chains-count cs))

  pub script-keeps : (tree : Option Chains) → Keeps rules (script rules begin tree)
  script-keeps None = goes-keeps rules
  script-keeps (Some cs) = keeps rules _ (chains-count cs)

-- a start
looked_up-counts : (rules : Rules) (enter : List ℕ → State → Out) (name : List ℕ) → ((text : List ℕ) → Counts rules (enter text)) → Counts rules (looked_up rules enter name)
looked_up-counts rules enter name c s le =
    elim (map.get s.held.now.env name) as (λ o. Within (suc s.steps) rules.limits.steps (elim o [ None ↦ step rules (fails NotDefined name) s | Some text ↦ enter text s ])) [
      | None ↦ step-counts rules _ s le
      | Some text ↦ c text s le
    ]

in_text-within : (shell : Shell) (low high : ℕ) (name : List ℕ) (o : Out) → Within low high o → Within low high (in_text shell name o)
in_text-within shell low high name (Goes t) w = w
in_text-within shell low high name (Leaves own t) w = w
in_text-within shell low high name (Ends e p t) w = tt

in_answer-within : (low high : ℕ) (o : Out) → Within low high o → Within low high (in_answer o)
in_answer-within low high (Goes t) w = w
in_answer-within low high (Leaves own t) w = w
in_answer-within low high (Ends e p t) w = tt

entered-counts : (rules : Rules) (run : Option Chains → State → Out) (name : List ℕ) → ((tree : Option Chains) → Keeps rules (run tree)) → (o : Option (Option Chains)) → Counts rules (entered rules run name o)
entered-counts rules run name k None = step-counts rules _
entered-counts rules run name k (Some tree) = then-counts rules _ _ (step-counts rules _) (λ s le. in_text-within rules.shell s.steps rules.limits.steps name (run tree s) (k tree s le))

answered-counts : (rules : Rules) (run : Option Chains → State → Out) (words : List (List ℕ)) → ((tree : Option Chains) → Keeps rules (run tree)) → (o : Option (Option Chains)) → Counts rules (answered rules run words o)
answered-counts rules run words k None = step-counts rules _
answered-counts rules run words k (Some tree) = then-counts rules _ _ (step-counts rules _) (λ s le. in_answer-within s.steps rules.limits.steps (run tree s) (k tree s le))

pub start-counts : (rules : Rules) (levels : ℕ) (x : Starting) → Counts rules (start rules levels x)
unfolding start
start-counts rules zero (Variable name) = looked_up-counts rules _ name (λ text. step-counts rules _)
start-counts rules zero (Answer words text) = step-counts rules _
start-counts rules (suc levels) (Variable name) = looked_up-counts rules _ name (λ text. entered-counts rules _ name (λ tree. script-keeps rules (start rules levels) (start-counts rules levels) tree) (read_in (bodies_of rules.shell) text))
start-counts rules (suc levels) (Answer words text) = answered-counts rules _ words (λ tree. script-keeps rules (start rules levels) (start-counts rules levels) tree) (read_in (bodies_of rules.shell) text)
