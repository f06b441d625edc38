-- The step of a node is that of its command.
use Rattle.std.proofs.Common.{◌≡◌, ◌≤◌, ℕ, Option, Some, None, Ok, ap, ◌∙◌, arith}
use Rattle.hush_syntax.specs.declared.nodes.NodeId.{NodeId}
use Rattle.hush_syntax.specs.Nodes.{At, Subtree, OfCommand}
use Rattle.hush_syntax.specs.Grammar.{Command}
use Rattle.hush_run.specs.declared.node_step.After.{After}
use Rattle.hush_run.specs.declared.node_step.After.TheVariants as after
use Rattle.hush_run.specs.Meaning.{Rules, Reason, Begin, State, command, within}
use Rattle.hush_run.specs.Resume.{subtree_does}
use Rattle.hush_run.specs.Turns.{after_does, FitsAfter}
use Rattle.hush_run.specs.Steps.{Meant, Did, NotDone}

-- what fits in this room fits in more
pub fits_more : (at : At) (low high : ℕ) (a : After) → low ≤ high → FitsAfter at low a → FitsAfter at high a
fits_more at low high (after.Goes d) le fits = (fits.0, omega (arith, fits.1, le))
fits_more at low high (after.Leaves own) le fits = tt

module _ (r : Rules) (at : At) (node : NodeId) (c : Command) (s t : State) (is : at node ≡ Some (OfCommand c)) where
  pub node_did : {X : Type 0} (left : X → Meant) (x : X) (a : After) → Did r (λ q begin. command q begin c) left s t (Ok x) → ((q : Rules) (begin : Begin) → left x q begin t ≡ after_does q begin at a t) → Did r (λ q begin. subtree_does q begin (at node)) (λ b q begin. after_does q begin at b) s t (Ok a)
  node_did left x a did same = (did.0, λ n begin le. ap (λ (o : Option Subtree). subtree_does (within n r) begin o s) is ∙ did.1 n begin le ∙ same (within n r) begin)

  pub node_stopped : (o : Option Reason) → NotDone r (λ q begin. command q begin c) s t o → NotDone r (λ q begin. subtree_does q begin (at node)) s t o
  node_stopped (Some e) did = λ begin. ap (λ (o : Option Subtree). subtree_does r begin o s) is ∙ did begin
  node_stopped None did = did
