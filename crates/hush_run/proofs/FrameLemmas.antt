-- A frame on top of others.
use Rattle.std.proofs.Common.{◌≡◌, ℕ, List, [], ◌∷◌, ◌++◌, reverse, ap, ◌∙◌}
use Rattle.std.proofs.lemmas.List.{reverse-append}
use Rattle.hush_run.specs.declared.frames.Frame.{Frame}
use Rattle.hush_run.specs.Stacks.{Stack, stack_of}

pub on_top : (xs new : List Frame) (capacity after : ℕ) (frame : Frame) → new ≡ xs ++ frame ∷ [] → after ≡ capacity → stack_of new after ≡ record { frames = frame ∷ reverse xs; capacity = capacity }
on_top xs new capacity after frame put same =
    ap (λ (ys : List Frame). stack_of ys after) put
    ∙ ap (λ (fs : List Frame). let s : Stack = record { frames = fs; capacity = after } in s) (reverse-append xs (frame ∷ []))
    ∙ ap (λ (n : ℕ). let s : Stack = record { frames = frame ∷ reverse xs; capacity = n } in s) same
