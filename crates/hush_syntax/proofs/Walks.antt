-- The children of a node are nodes of the same table.
use Rattle.std.proofs.Common.{◌≡◌, List, [], ◌∷◌, Option, Some, None, refl}
use Rattle.std.specs.Prelude.{All, IsSome}
use Rattle.std.proofs.lemmas.List.Elements.{All-nil, All-cons}
use Rattle.hush_syntax.specs.declared.nodes.NodeId.{NodeId}
use Rattle.hush_syntax.specs.declared.nodes.Link as link
use Rattle.hush_syntax.specs.declared.nodes.Branch as branch
use Rattle.hush_syntax.specs.Grammar.{Chain, Chains, Last, More, First, Links, End, Link, Branches, Elif, Else, Fi}
use Rattle.hush_syntax.specs.Reading.{bind}
use Rattle.hush_syntax.specs.Nodes.{At, Subtree, chain_of, OfChains, OfCommand, AreChains, AreLinks, IsChain, AreBranches}

pub known : (o : Option Subtree) (s : Subtree) → o ≡ Some s → IsSome o
known o s e = rw e refl

known-member : (o : Option Subtree) (c : Chain) → bind o chain_of ≡ Some c → IsSome o
known-member None c e = absurd (cc)
known-member (Some s) c e = refl

module _ (at : At) where
  pub chains-known : (ids : List NodeId) (cs : Chains) → AreChains at ids cs → All (λ id. IsSome (at id)) ids
  chains-known [] (Last c) h = absurd h
  chains-known [] (More c cs) h = absurd h
  chains-known (id ∷ ids) (Last c) h =
      All-cons (λ id. IsSome (at id)) id ids (known-member (at id) c h.0) (rw h.1 (All-nil (λ id. IsSome (at id))))
  chains-known (id ∷ ids) (More c cs) h =
      All-cons (λ id. IsSome (at id)) id ids (known-member (at id) c h.0) (chains-known ids cs h.1)

  links-known : (ls : List link.Link) (links : Links) → AreLinks at ls links → All (λ (l : link.Link). IsSome (at l.command)) ls
  links-known [] End h = All-nil (λ (l : link.Link). IsSome (at l.command))
  links-known [] (Link o c links) h = absurd h
  links-known (l ∷ ls) End h = absurd h
  links-known (l ∷ ls) (Link o c links) h =
      All-cons (λ (l : link.Link). IsSome (at l.command)) l ls (known (at l.command) (OfCommand c) h.1) (links-known ls links h.2)

  pub chain-known : (ls : List link.Link) (c : Chain) → IsChain at ls c → All (λ (l : link.Link). IsSome (at l.command)) ls
  chain-known [] (First c links) h = absurd h
  chain-known (l ∷ ls) (First c links) h =
      All-cons (λ (l : link.Link). IsSome (at l.command)) l ls (known (at l.command) (OfCommand c) h.1) (links-known ls links h.2)

  pub conditions-known : (bs : List branch.Branch) (o : Option NodeId) (b : Branches) → AreBranches at bs o b → All (λ (b : branch.Branch). IsSome (at b.condition)) bs
  conditions-known [] o b h = All-nil (λ (b : branch.Branch). IsSome (at b.condition))
  conditions-known (b ∷ bs) o (Elif c d branches) h =
      All-cons (λ (b : branch.Branch). IsSome (at b.condition)) b bs (known (at b.condition) (OfChains c) h.0) (conditions-known bs o branches h.2)
  conditions-known (b ∷ bs) o (Else d) h = absurd h
  conditions-known (b ∷ bs) o Fi h = absurd h

  pub bodies-known : (bs : List branch.Branch) (o : Option NodeId) (b : Branches) → AreBranches at bs o b → All (λ (b : branch.Branch). IsSome (at b.body)) bs
  bodies-known [] o b h = All-nil (λ (b : branch.Branch). IsSome (at b.body))
  bodies-known (b ∷ bs) o (Elif c d branches) h =
      All-cons (λ (b : branch.Branch). IsSome (at b.body)) b bs (known (at b.body) (OfChains d) h.1) (bodies-known bs o branches h.2)
  bodies-known (b ∷ bs) o (Else d) h = absurd h
  bodies-known (b ∷ bs) o Fi h = absurd h

  pub otherwise-known : (bs : List branch.Branch) (id : NodeId) (b : Branches) → AreBranches at bs (Some id) b → IsSome (at id)
  otherwise-known [] id (Elif c d branches) h = absurd h
  otherwise-known [] id (Else d) h = known (at id) (OfChains d) h
  otherwise-known [] id Fi h = absurd h
  otherwise-known (b ∷ bs) id (Elif c d branches) h = otherwise-known bs id branches h.2
  otherwise-known (b ∷ bs) id (Else d) h = absurd h
  otherwise-known (b ∷ bs) id Fi h = absurd h
