-- An end passes the frames, which say where it was.
use Rattle.std.proofs.Common.{◌≡◌, ℕ, List, [], ◌∷◌, Option, Some, None, refl, sym, ap, ◌∙◌}
use Rattle.std.specs.Option.{option_or}
use Rattle.hush_syntax.specs.Scripts.{Parsed}
use Rattle.hush_commands.specs.declared.shell.Shell.{Shell}
use Rattle.hush_run.specs.declared.frames.Frame.{Frame}
use Rattle.hush_run.specs.declared.frames.Frame.TheVariants as frame
use Rattle.hush_run.specs.Meaning.{Rules, Reason, State, Out, Goes, Ends, ◌>>=◌, with_status, ended, place_in}
use Rattle.hush_run.specs.Resume.{at_in, begin_in, frame_does, owners, place_of, resume, variable_above, enclosed, passed_status}
use Rattle.hush_run.specs.Advances.{EndsAt}

or_none : (p : Option (List ℕ)) → option_or p None ≡ p
or_none None = refl
or_none (Some n) = refl

or_or : (p q r : Option (List ℕ)) → option_or (option_or p q) r ≡ option_or p (option_or q r)
or_or None q r = refl
or_or (Some n) q r = refl

enclosed-ends : (shell : Shell) (f : Frame) (e : Reason) (p : Option (List ℕ)) (t : State) → enclosed shell f (Ends e p t) ≡ Ends e (option_or p (variable_above f)) t
enclosed-ends shell (frame.List node next) e p t = ap (λ (q : Option (List ℕ)). Ends e q t) (sym (or_none p))
enclosed-ends shell (frame.Chain node next) e p t = ap (λ (q : Option (List ℕ)). Ends e q t) (sym (or_none p))
enclosed-ends shell (frame.Branch node branch) e p t = ap (λ (q : Option (List ℕ)). Ends e q t) (sym (or_none p))
enclosed-ends shell (frame.Condition node last) e p t = ap (λ (q : Option (List ℕ)). Ends e q t) (sym (or_none p))
enclosed-ends shell (frame.Body node) e p t = ap (λ (q : Option (List ℕ)). Ends e q t) (sym (or_none p))
enclosed-ends shell (frame.Bindings node fields) e p t = ap (λ (q : Option (List ℕ)). Ends e q t) (sym (or_none p))
enclosed-ends shell (frame.Started []) e p t = ap (λ (q : Option (List ℕ)). Ends e q t) (sym (or_none p))
enclosed-ends shell (frame.Started (name ∷ names)) e None t = refl
enclosed-ends shell (frame.Started (name ∷ names)) e (Some q) t = refl

pub enclosed-goes : (shell : Shell) (f : Frame) (status : ℕ) (s : State) → enclosed shell f (Goes (with_status status s)) ≡ Goes (with_status (passed_status shell f status) s)
enclosed-goes shell (frame.List node next) status s = refl
enclosed-goes shell (frame.Chain node next) status s = refl
enclosed-goes shell (frame.Branch node branch) status s = refl
enclosed-goes shell (frame.Condition node last) status s = refl
enclosed-goes shell (frame.Body node) status s = refl
enclosed-goes shell (frame.Bindings node fields) status s = refl
enclosed-goes shell (frame.Started []) status s = refl
enclosed-goes shell (frame.Started (name ∷ names)) status s = refl

ends-through : (rules : Rules) (calls : List Parsed) (frames : List Frame) (e : Reason) (p : Option (List ℕ)) (t : State) → resume rules calls frames (Ends e p t) ≡ Ends e (option_or p (place_of frames)) t
ends-through rules calls [] e p t = ap (λ (q : Option (List ℕ)). Ends e q t) (sym (or_none p))
ends-through rules calls (f ∷ fs) e p t =
    ap (λ (o : Out). resume rules (owners f calls) fs (o >>= frame_does rules (begin_in rules (owners f calls)) (at_in (owners f calls)) f)) (enclosed-ends rules.shell f e p t)
    ∙ ends-through rules (owners f calls) fs e (option_or p (variable_above f)) t
    ∙ ap (λ (q : Option (List ℕ)). Ends e q t) (or_or p (variable_above f) (place_of fs))

-- what ends above frames has ended in the text that runs above them
pub ends_at : (rules : Rules) (calls : List Parsed) (frames : List Frame) (o : Out) (e : Reason) (t : State) → o ≡ Ends e None t → EndsAt (resume rules calls frames o) e t (place_of frames)
ends_at rules calls frames o e t is =
    let passed : resume rules calls frames o ≡ Ends e (place_of frames) t = ap (λ (x : Out). resume rules calls frames x) is ∙ ends-through rules calls frames e None t in
    (ap ended passed, ap place_in passed)
