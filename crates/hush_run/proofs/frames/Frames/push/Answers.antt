use Rattle.std.proofs.Common.{rules, ◌≡◌, ◌∷◌, length, vec_len, vec_capacity, ap, ◌∙◌, arith}
use Rattle.std.proofs.lemmas.List.{length-reverse}
use Rattle.hush_run.specs.Stacks.{Stack}
use Rattle.hush_run.proofs.FrameLemmas.{on_top}
use Rattle.hush_run.proofs.frames.Frames.push.Goals as goal

pub push_reserved-requires : goal.push_reserved-requires
push_reserved-requires c =
    let old = c.self.inside.items in
    let v : vec_len old ≡ length old.items = search rules in
    let frames = ap (λ (s : Stack). length s.frames) c.self.view_is in
    let capacity = ap (λ (s : Stack). s.capacity) c.self.view_is in
    omega (arith, c.requires, v, frames, capacity, length-reverse old.items)

pub returns : goal.returns
returns c =
    let old = c.self.inside.items in
    on_top old.items c.push_reserved.new.self.items (vec_capacity old) (vec_capacity c.push_reserved.new.self) c.args.frame c.push_reserved.ensures.items c.push_reserved.ensures.capacity
    ∙ ap (λ (s : Stack). record { frames = c.args.frame ∷ s.frames; capacity = s.capacity }) c.self.view_is
