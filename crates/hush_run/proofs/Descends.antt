-- Going down from a node.
use Rattle.std.proofs.Common.{◌≡◌, ◌+◌, ◌*◌, ◌≤◌, List, ◌∷◌, length, Some, refl, sym, ap, ◌∙◌, arith, IsSome}
use Rattle.hush_syntax.specs.declared.nodes.NodeId.{NodeId}
use Rattle.hush_run.specs.declared.frames.Frame.{Frame}
use Rattle.hush_syntax.specs.Scripts.{Parsed, subtree_at}
use Rattle.hush_run.specs.Meaning.{Rules, Out, ◌>>=◌}
use Rattle.hush_run.specs.Resume.{begin_in, subtree_does, frame_does, at_in, frame_room, owners, resume, enclosed, IsFrame, IsStack, FirstPart, Leads, levels}
use Rattle.hush_run.specs.Stacks.{script_frames}
use Rattle.hush_run.proofs.Counts.{start-counts}

pub leads_here : (script : Parsed) (frames : List Frame) (id : NodeId) → IsSome (subtree_at script id) → Leads script frames frames id id
leads_here script frames id known = (known, (λ scripts stack fits. (stack, fits)), λ rules scripts s le. refl)

-- a frame on top, whose scripts are those that run
pub resume-frame : (rules : Rules) (scripts : List Parsed) (f : Frame) (fs : List Frame) (o : Out) → owners f scripts ≡ scripts → resume rules scripts (f ∷ fs) o ≡ resume rules scripts fs (enclosed rules.shell f o >>= frame_does rules (begin_in rules scripts) (at_in scripts) f)
resume-frame rules scripts f fs o same = ap (λ (ps : List Parsed). resume rules ps fs (enclosed rules.shell f o >>= frame_does rules (begin_in rules ps) (at_in ps) f)) same

pub stack-frame : (scripts : List Parsed) (f : Frame) (fs : List Frame) → owners f scripts ≡ scripts → 1 ≤ length scripts → IsFrame (at_in scripts) f → length fs + frame_room (at_in scripts) f ≤ script_frames * length scripts → IsStack scripts fs → IsStack scripts (f ∷ fs)
stack-frame scripts f fs same some is fits stack = rw same (some, is, fits, stack)

pub leads_on : (script : Parsed) (old new : List Frame) (id node part : NodeId) (f : Frame) → Leads script old new id node → FirstPart (subtree_at script) node (Some (f, part)) → Leads script old (f ∷ new) id part
leads_on script old new id node part f l p = (
  p.0,
  (λ scripts stack fits. let m = l.1 scripts stack fits in (stack-frame (script ∷ scripts) f new (p.1 (script ∷ scripts)) (omega arith) p.2 (omega (arith, m.1, p.4)) m.0, omega (arith, m.1, p.3))),
  λ rules scripts s le.
      l.2 rules scripts s le
      ∙ ap (λ (o : Out). resume rules (script ∷ scripts) new o) (p.5 rules (begin_in rules (script ∷ scripts)) (start-counts rules (levels rules (script ∷ scripts))) s le)
      ∙ sym (resume-frame rules (script ∷ scripts) f new (subtree_does rules (begin_in rules (script ∷ scripts)) (subtree_at script part) s) (p.1 (script ∷ scripts))),
)
