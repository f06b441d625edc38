-- Taking frames.
use Rattle.std.proofs.Common.{◌≡◌, ℕ, ◌+◌, ◌*◌, ◌≤◌, List, [], ◌∷◌, length, Option, Some, None, refl, sym, ap, subst, ◌∙◌, arith}
use Rattle.hush_run.specs.declared.frames.Frame.{Frame}
use Rattle.hush_run.specs.declared.due.Due.{Due}
use Rattle.hush_run.specs.declared.due.Due.TheVariants as due
use Rattle.hush_run.specs.declared.turns.Turn.{Turn}
use Rattle.hush_commands.specs.declared.shell.Shell.{Shell}
use Rattle.hush_run.specs.Meaning.{Rules, Out, ◌>>=◌, with_status}
use Rattle.hush_run.specs.Resume.{begin_in, at_in, resume, levels, frame_does, frame_room, owners, behind, passed_status, IsStack, IsFrame}
use Rattle.hush_run.specs.declared.frames.Frame.TheVariants as frame
use Rattle.hush_syntax.specs.Scripts.{Parsed, subtree_at}
use Rattle.hush_syntax.specs.Nodes.{At}
use Rattle.hush_run.specs.Turns.{Turns, Behind, due_does, behind_does, enclosed_behind, due_room, IsPart}
use Rattle.hush_run.specs.Rises.{IsLeft, IsEnd, with_behind}
use Rattle.hush_run.specs.Stacks.{script_frames}
use Rattle.hush_run.proofs.Counts.{start-counts}
use Rattle.hush_run.proofs.Parts.{bind_goes}
use Rattle.hush_run.proofs.PlaceLemmas.{enclosed-goes}
use Rattle.hush_run.proofs.Descends.{resume-frame, stack-frame}

pub left_here : (shell : Shell) (scripts : List Parsed) (frames : List Frame) (status : ℕ) → IsStack scripts frames → 1 ≤ length scripts → length frames ≤ script_frames * length scripts → IsLeft shell scripts frames status scripts frames status due.Over
left_here shell scripts frames status stack some fits = (stack, tt, some, omega arith, omega (arith, fits), λ rules same s le. refl)

-- after what is due
resume-behind : (rules : Rules) (scripts : List Parsed) (behind : Option Frame) (due : Due) (most : ℕ) (frames : List Frame) (o : Out) → 1 ≤ length scripts → Behind (at_in scripts) most due behind → resume rules scripts frames (enclosed_behind rules.shell behind o >>= behind_does rules (begin_in rules scripts) (at_in scripts) behind) ≡ resume rules scripts (with_behind behind frames) o
resume-behind rules scripts None due most frames o some b = ap (λ (x : Out). resume rules scripts frames x) (bind_goes o)
resume-behind rules scripts (Some f) due most frames o some b = sym (resume-frame rules scripts f frames o (b.2 scripts))

stack-behind : (scripts : List Parsed) (behind : Option Frame) (due : Due) (most : ℕ) (frames : List Frame) → Behind (at_in scripts) most due behind → 1 ≤ length scripts → length frames + most ≤ script_frames * length scripts → IsStack scripts frames → IsStack scripts (with_behind behind frames) × (length (with_behind behind frames) + due_room (at_in scripts) due ≤ script_frames * length scripts)
stack-behind scripts None due most frames b some fits stack = (stack, omega (arith, b, fits))
stack-behind scripts (Some f) due most frames b some fits stack = (stack-frame scripts f frames (b.2 scripts) some b.1 (omega (arith, b.3, fits)) stack, omega (arith, b.4, fits))

pub left_on : (shell : Shell) (scripts scripts1 scripts2 : List Parsed) (frames frames2 : List Frame) (status status1 : ℕ) (f : Frame) (turn : Turn) → IsLeft shell scripts frames status scripts1 (f ∷ frames2) status1 due.Over → scripts2 ≡ owners f scripts1 → Turns shell (at_in scripts2) f (passed_status shell f status1) turn → length scripts2 ≤ length scripts1 → IsLeft shell scripts frames status scripts2 (with_behind turn.behind frames2) turn.status turn.due
left_on shell scripts scripts1 scripts2 frames frames2 status status1 f turn l own t fewer =
    let stack = subst (λ (ps : List Parsed). (1 ≤ length ps) × IsFrame (at_in ps) f × (length frames2 + frame_room (at_in ps) f ≤ script_frames * length ps) × IsStack ps frames2) (sym own) l.0 in
    let more = stack-behind scripts2 turn.behind turn.due (frame_room (at_in scripts2) f) frames2 t.1 stack.0 stack.2 stack.3 in (
      more.0,
      t.0,
      stack.0,
      omega (arith, fewer, l.3),
      more.1,
      λ rules same s le.
          l.5 rules same s le
          ∙ ap (λ (o : Out). resume rules (owners f scripts1) frames2 (o >>= frame_does rules (begin_in rules (owners f scripts1)) (at_in (owners f scripts1)) f)) (enclosed-goes rules.shell f status1 s)
          ∙ ap (λ (x : Shell). resume rules (owners f scripts1) frames2 (frame_does rules (begin_in rules (owners f scripts1)) (at_in (owners f scripts1)) f (with_status (passed_status x f status1) s))) same
          ∙ ap (λ (ps : List Parsed). resume rules ps frames2 (frame_does rules (begin_in rules ps) (at_in ps) f (with_status (passed_status shell f status1) s))) (sym own)
          ∙ ap (λ (o : Out). resume rules scripts2 frames2 o) (t.2 rules same (begin_in rules scripts2) (start-counts rules (levels rules scripts2)) s le)
          ∙ resume-behind rules scripts2 turn.behind turn.due (frame_room (at_in scripts2) f) frames2 (due_does rules (begin_in rules scripts2) (at_in scripts2) turn.due (with_status turn.status s)) stack.0 t.1,
    )

pub owners-fewer : (f : Frame) (scripts : List Parsed) → length (owners f scripts) ≤ length scripts
owners-fewer (frame.List node next) scripts = omega arith
owners-fewer (frame.Chain node next) scripts = omega arith
owners-fewer (frame.Branch node branch) scripts = omega arith
owners-fewer (frame.Condition node last) scripts = omega arith
owners-fewer (frame.Body node) scripts = omega arith
owners-fewer (frame.Bindings node fields) scripts = omega arith
owners-fewer (frame.Started names) [] = omega arith
owners-fewer (frame.Started names) (p ∷ ps) = omega arith

pub step_up : (shell : Shell) (scripts scripts1 scripts2 : List Parsed) (frames frames1 frames2 frames3 : List Frame) (status status1 : ℕ) (f : Frame) (turn : Turn) (top : Parsed) → IsLeft shell scripts frames status scripts1 frames1 status1 due.Over → frames1 ≡ f ∷ frames2 → scripts2 ≡ owners f scripts1 → scripts2 ≡ top ∷ behind scripts2 → Turns shell (subtree_at top) f (passed_status shell f status1) turn → frames3 ≡ with_behind turn.behind frames2 → IsLeft shell scripts frames status scripts2 frames3 turn.status turn.due
step_up shell scripts scripts1 scripts2 frames frames1 frames2 frames3 status status1 f turn top l popped own is t kept =
    subst (λ (fs : List Frame). IsLeft shell scripts frames status scripts2 fs turn.status turn.due) (sym kept)
    (left_on shell scripts scripts1 scripts2 frames frames2 status status1 f turn
    (subst (λ (fs : List Frame). IsLeft shell scripts frames status scripts1 fs status1 due.Over) popped l)
    own
    (subst (λ (ps : List Parsed). Turns shell (at_in ps) f (passed_status shell f status1) turn) (sym is) t)
    (subst (λ (ps : List Parsed). length ps ≤ length scripts1) (sym own) (owners-fewer f scripts1)))

pub nothing_behind : (at : At) (most : ℕ) (d : Due) (behind : Option Frame) → Behind at most d behind → d ≡ due.Over → behind ≡ None
nothing_behind at most d None b e = refl
nothing_behind at most d (Some f) b e = absurd (subst IsPart e b.0)

pub is_part : (d : Due) (frames : List Frame) → (d ≡ due.Over → ⊥) → IsEnd d frames
is_part due.Over frames h = absurd (h refl)
is_part (due.Node node) frames h = tt
is_part (due.Binding node fields) frames h = tt
is_part (due.Start names) frames h = tt
is_part (due.Delete force failed names) frames h = tt
is_part (due.Answer words text) frames h = tt
