-- If no step is left, what is due stops at once.
use Rattle.std.proofs.Common.{◌≡◌, ℕ, suc, ◌<◌, ◌≤◌, Bool, true, false, if◌then◌else◌, List, [], ◌∷◌, length, Option, Some, None, ap, arith, is_some}
use Rattle.hush_syntax.specs.Nodes.{At, Subtree, OfChains, OfChain, OfCommand}
use Rattle.hush_syntax.specs.Grammar.{Command, Simple, Assign, If, For, While, Until, Chain, First, Chains, Last, More}
use Rattle.hush_run.specs.Meaning.Reason.{Steps}
use Rattle.hush_run.specs.declared.due.Due.{Due}
use Rattle.hush_run.specs.declared.due.Due.TheVariants as due
use Rattle.hush_run.specs.Meaning.{Rules, Variable, Begin, State, Out, Goes, Ends, ◌>>=◌, ◌then◌, goes_on, with_status, loop_status, turns, in_turn, deletions, bindings, have_value, fields_of, list_of, in_list, command, chain, chains, start}
use Rattle.hush_run.specs.Resume.{subtree_does, at_command, of_for}
use Rattle.hush_run.specs.Turns.{due_does, IsDue, IsPart, IsForNode}
use Rattle.hush_run.proofs.StepLemmas.{step_halts, simple_halts, for_halts, bind_halts, delete_halts, start_halts, answer_halts}

abbrev Halts : Rules → (State → Out) → Type 0
Halts rules p = (s : State) → rules.limits.steps ≤ s.steps → p s ≡ Ends Steps None s

then-halts : (rules : Rules) (p q : State → Out) → Halts rules p → Halts rules (p then q)
then-halts rules p q h s le = ap (λ (o : Out). o >>= q) (h s le)

turns-halt : (rules : Rules) (n : ℕ) (wanted : Bool) (c d : State → Out) (last : ℕ) → Halts rules c → Halts rules (turns rules.shell (suc n) wanted c d last)
unfolding turns
turns-halt rules n wanted c d last h s le = ap (λ (o : Out). o >>= (λ t. if goes_on wanted t then (d t >>= λ u. turns rules.shell n wanted c d u.status u) else Goes (with_status (loop_status rules.shell last t.status) t))) (h s le)

module _ (rules : Rules) (begin : Begin) where
  mutual
    command-halts : (c : Command) → Halts rules (command rules begin c)
    command-halts (Simple words) = λ s le. simple_halts rules begin (have_value words) (fields_of rules words s) s le
    command-halts (Assign name value) = step_halts rules _
    command-halts (If c d branches) = then-halts rules _ _ (chains-halt c)
    command-halts (For name words d) = λ s le. for_halts rules name (list_of rules words s) _ s le
    command-halts (While c d) = turns-halt rules rules.limits.steps true _ _ 0 (chains-halt c)
    command-halts (Until c d) = turns-halt rules rules.limits.steps false _ _ 0 (chains-halt c)

    chain-halts : (c : Chain) → Halts rules (chain rules begin c)
    chain-halts (First c links) = then-halts rules _ _ (command-halts c)

    pub chains-halt : (cs : Chains) → Halts rules (chains rules begin cs)
    chains-halt (Last c) = λ s le. ap in_list (chain-halts c s le)
    chains-halt (More c cs) = λ s le. ap (λ (o : Out). in_list o >>= chains rules begin cs) (chain-halts c s le)

bindings-halt : (rules : Rules) (begin : Begin) (name : List ℕ) (body : State → Out) (fields : List (List ℕ)) → 0 < length fields → Halts rules (bindings rules name body fields)
bindings-halt rules begin name body [] lt s le = absurd (omega (arith, lt))
bindings-halt rules begin name body (f ∷ fs) lt s le = bind_halts rules name f fs (λ q b. body) s begin le

deletions-halt : (rules : Rules) (begin : Begin) (force failed : Bool) (names : List (List ℕ)) → 0 < length names → Halts rules (deletions rules force failed names)
deletions-halt rules begin force failed [] lt s le = absurd (omega (arith, lt))
deletions-halt rules begin force failed (n ∷ ns) lt s le = delete_halts rules n ns force failed s begin le

in_turn-halts : (rules : Rules) (begin : Begin) (names : List (List ℕ)) → 0 < length names → ((name : List ℕ) → Halts rules (begin (Variable name))) → Halts rules (in_turn begin names)
in_turn-halts rules begin [] lt h s le = absurd (omega (arith, lt))
in_turn-halts rules begin (n ∷ ns) lt h s le = then-halts rules (begin (Variable n)) _ (h n) s le

subtree-halts : (rules : Rules) (begin : Begin) (o : Option Subtree) → is_some o ≡ true → Halts rules (subtree_does rules begin o)
subtree-halts rules begin None h = absurd (let f : false ≡ true = h in cc)
subtree-halts rules begin (Some (OfChains cs)) h = chains-halt rules begin cs
subtree-halts rules begin (Some (OfChain c)) h = chain-halts rules begin c
subtree-halts rules begin (Some (OfCommand c)) h = command-halts rules begin c

for-node-halts : (rules : Rules) (begin : Begin) (fields : List (List ℕ)) (o : Option Subtree) → IsForNode o → 0 < length fields → Halts rules (at_command (λ x. Goes x) (of_for rules begin fields) o)
for-node-halts rules begin fields None f lt = absurd f
for-node-halts rules begin fields (Some (OfChains cs)) f lt = absurd f
for-node-halts rules begin fields (Some (OfChain c)) f lt = absurd f
for-node-halts rules begin fields (Some (OfCommand (Simple words))) f lt = absurd f
for-node-halts rules begin fields (Some (OfCommand (Assign name value))) f lt = absurd f
for-node-halts rules begin fields (Some (OfCommand (If c d b))) f lt = absurd f
for-node-halts rules begin fields (Some (OfCommand (For name words d))) f lt = bindings-halt rules begin name _ fields lt
for-node-halts rules begin fields (Some (OfCommand (While c d))) f lt = absurd f
for-node-halts rules begin fields (Some (OfCommand (Until c d))) f lt = absurd f

pub due-halts : (rules : Rules) (levels : ℕ) (at : At) (d : Due) → IsDue at d → IsPart d → Halts rules (due_does rules (start rules levels) at d)
due-halts rules levels at due.Over is part = absurd part
due-halts rules levels at (due.Node node) is part = subtree-halts rules (start rules levels) (at node) is
due-halts rules levels at (due.Binding node fields) is part = for-node-halts rules (start rules levels) fields (at node) is.1 is.0
due-halts rules levels at (due.Start names) is part = in_turn-halts rules (start rules levels) names is (λ name s le. start_halts rules levels name s le)
due-halts rules levels at (due.Delete force failed names) is part = deletions-halt rules (start rules levels) force failed names is
due-halts rules levels at (due.Answer words text) is part = λ s le. answer_halts rules levels words text s le
