-- A node is its first part and what its frame does after that.
use Rattle.std.proofs.Common.{◌≡◌, ◌==◌, ◌<◌, ◌≤◌, ◌+◌, ◌*◌, Bool, true, false, List, [], ◌∷◌, length, get_or, Option, Some, None, refl, sym, ap, ◌∙◌, arith, if◌then◌else◌, IsSome}
use Rattle.hush_syntax.specs.declared.nodes.NodeId.{NodeId}
use Rattle.hush_syntax.specs.declared.nodes.Link as link
use Rattle.hush_syntax.specs.declared.nodes.Branch as branch
use Rattle.hush_run.specs.declared.frames.Frame.TheVariants as frame
use Rattle.hush_syntax.specs.Nodes.{At, Subtree, chain_of, OfChains, OfChain, OfCommand, AreChains, IsChain, AreBranches}
use Rattle.hush_syntax.specs.Grammar.{If, While, Until, Branches, Elif, Chain, First, Links, End, Link, Chains, Last, More, depth_in_chain}
use Rattle.hush_syntax.specs.Reading.{bind}
use Rattle.hush_run.specs.Meaning.{Rules, Begin, State, Out, Goes, Leaves, Ends, ◌>>=◌, ◌then◌, in_list, joins, leaves_chain, command, chain, linked, chains}
use Rattle.hush_run.specs.Resume.{chain_list, link_list, run_chains, run_links, tagged, subtree_does, room, FirstPart}
use Rattle.hush_run.proofs.Counts.{turns-again, chains-count}

pub bind_goes : (o : Out) → (o >>= Goes) ≡ o
bind_goes (Goes s) = refl
bind_goes (Leaves own s) = refl
bind_goes (Ends e p s) = refl

pub bind_assoc : (o : Out) (f g : State → Out) → ((o >>= f) >>= g) ≡ (o >>= (f then g))
bind_assoc (Goes s) f g = refl
bind_assoc (Leaves own s) f g = refl
bind_assoc (Ends e p s) f g = refl

pub bind_alike : (o : Out) (f g : State → Out) → ((s : State) → f s ≡ g s) → (o >>= f) ≡ (o >>= g)
bind_alike (Goes s) f g h = h s
bind_alike (Leaves own s) f g h = refl
bind_alike (Ends e p s) f g h = refl

-- lists of chains and of links
pub run_chains-all : (rules : Rules) (begin : Begin) (cs : Chains) (s : State) → chains rules begin cs s ≡ run_chains rules begin (chain_list cs) s
run_chains-all rules begin (Last c) s = sym (bind_goes (in_list (chain rules begin c s)))
run_chains-all rules begin (More c cs) s = bind_alike (in_list (chain rules begin c s)) _ _ (run_chains-all rules begin cs)

pub run_links-all : (rules : Rules) (begin : Begin) (ls : Links) (s : State) → linked rules begin ls s ≡ run_links rules begin (tagged (link_list ls)) s
run_links-all rules begin End s = refl
run_links-all rules begin (Link o c ls) s =
    either (joins o (s.status == 0)) (bind_alike (command rules begin c s) _ _ (run_links-all rules begin ls)) (either (leaves_chain rules.shell) refl (run_links-all rules begin ls s))
  where
    either : (b : Bool) {x x' y y' : Out} → x ≡ x' → y ≡ y' → (if b then x else y) ≡ (if b then x' else y')
    either true e f = e
    either false e f = f

-- a member of a list does what its chain does, and needs no more frames
pub member_does : (o : Option Subtree) (c : Chain) → bind o chain_of ≡ Some c → IsSome o × (room o ≤ 3 * depth_in_chain c + 2) × ((rules : Rules) (begin : Begin) (s : State) → subtree_does rules begin o s ≡ chain rules begin c s)
member_does None c e = absurd (cc)
member_does (Some (OfChains cs)) c e = absurd (cc)
member_does (Some (OfChain d)) c e =
    let same : d ≡ c = cc in
    rw same (refl, omega arith, λ rules begin s. refl)
member_does (Some (OfCommand x)) c e =
    let same : c ≡ First x End = cc in
    rw same (refl, omega arith, λ rules begin s. sym (bind_goes (command rules begin x s)))

-- the first parts
pub list_first : (at : At) (id child : NodeId) (ids : List NodeId) (cs : Chains) → at id ≡ Some (OfChains cs) → AreChains at ids cs → child ≡ get_or ids 0 child → FirstPart at id (Some (frame.List id 1, child))
list_first at id child [] (Last c) e a is = absurd a
list_first at id child [] (More c cs) e a is = absurd a
list_first at id child (i ∷ ids) (Last c) e a is =
    let m = member_does (at i) c a.0 in
    rw (is, e) (m.0, λ scripts. refl, refl, omega (arith, m.1), omega arith, λ rules begin counting s le. sym (bind_goes (in_list (chain rules begin c s))) ∙ ap (λ (o : Out). in_list o >>= Goes) (sym (m.2 rules begin s)))
list_first at id child (i ∷ ids) (More c cs) e a is =
    let m = member_does (at i) c a.0 in
    rw (is, e) (
      m.0,
      λ scripts. refl,
      refl,
      omega (arith, m.1),
      omega arith,
      λ rules begin counting s le.
          bind_alike (in_list (chain rules begin c s)) _ _ (run_chains-all rules begin cs)
          ∙ ap (λ (o : Out). in_list o >>= run_chains rules begin (chain_list cs)) (sym (m.2 rules begin s)),
    )

pub chain_first : (at : At) (id : NodeId) (l : link.Link) (ls : List link.Link) (c : Chain) → at id ≡ Some (OfChain c) → IsChain at ls c → l ≡ get_or ls 0 l → FirstPart at id (Some (frame.Chain id 1, l.command))
chain_first at id l [] (First c links) e a is = absurd a
chain_first at id l (m ∷ ls) (First c links) e a is =
    rw (is, e, a.1) (refl, λ scripts. refl, refl, omega arith, omega arith, λ rules begin counting s le. bind_alike (command rules begin c s) _ _ (run_links-all rules begin links))

pub if_first : (at : At) (id : NodeId) (b : branch.Branch) (bs : List branch.Branch) (last : Option NodeId) (c d : Chains) (branches : Branches) → at id ≡ Some (OfCommand (If c d branches)) → AreBranches at bs last (Elif c d branches) → b ≡ get_or bs 0 b → FirstPart at id (Some (frame.Branch id 0, b.condition))
if_first at id b [] None c d branches e a is = absurd a
if_first at id b [] (Some o) c d branches e a is = absurd a
if_first at id b (m ∷ bs) last c d branches e a is =
    rw (is, e, a.0) (refl, λ scripts. refl, refl, omega arith, omega arith, λ rules begin counting s le. refl)

pub while_first : (at : At) (id condition : NodeId) (c d : Chains) → at id ≡ Some (OfCommand (While c d)) → at condition ≡ Some (OfChains c) → FirstPart at id (Some (frame.Condition id 0, condition))
while_first at id condition c d e ec =
    rw (e, ec) (refl, λ scripts. refl, refl, omega arith, omega arith, λ rules begin counting s le. turns-again rules true (chains rules begin c) (chains rules begin d) 0 (chains-count rules begin counting c) (chains-count rules begin counting d) s le)

pub until_first : (at : At) (id condition : NodeId) (c d : Chains) → at id ≡ Some (OfCommand (Until c d)) → at condition ≡ Some (OfChains c) → FirstPart at id (Some (frame.Condition id 0, condition))
until_first at id condition c d e ec =
    rw (e, ec) (refl, λ scripts. refl, refl, omega arith, omega arith, λ rules begin counting s le. turns-again rules false (chains rules begin c) (chains rules begin d) 0 (chains-count rules begin counting c) (chains-count rules begin counting d) s le)

pub some_chain : (at : At) (ids : List NodeId) (cs : Chains) → AreChains at ids cs → 0 < length ids
some_chain at [] (Last c) a = absurd a
some_chain at [] (More c cs) a = absurd a
some_chain at (id ∷ ids) cs a = omega arith
