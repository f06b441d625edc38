use Rattle.std.proofs.Common.{rules, ◌≡◌, ℕ, List, ◌∷◌, Option, None, sym, ap, ◌∙◌}
use Rattle.std.specs.Option.{option_or}
use Rattle.hush_run.specs.Resume.{place_of, variable_above}
use Rattle.hush_run.specs.Stacks.{Stack}
use Rattle.hush_run.specs.declared.frames.Frame.{Frame}
use Rattle.hush_run.proofs.started_name.running_name.Goals as goal

pub loop-frame-preserved : goal.loop-frame-preserved
loop-frame-preserved c =
    let popped : c.loop-frame.frames.frames ≡ c.in-Some.frame ∷ c.pop.new.self.frames = ap (λ (s : Stack). s.frames) c.in-Some.ensures.some in
    let none : variable_above c.in-Some.frame ≡ None = search rules in
    sym (ap (λ (o : Option (List ℕ)). option_or o (place_of c.pop.new.self.frames)) none) ∙ ap (λ (fs : List Frame). place_of fs) (sym popped) ∙ c.loop-frame.invariant
