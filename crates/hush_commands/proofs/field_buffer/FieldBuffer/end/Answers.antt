use Rattle.std.proofs.Common.{rules, ◌≡◌, ◌∷◌, [], ◌++◌, ◌-◌, ℕ, List, ap, subst, sym, ◌∙◌, true, false, Bool, length, vec_len}
use Rattle.hush_commands.specs.Buffers.{made, ended, IsBuffer}
use Rattle.hush_commands.proofs.BufferLemmas.{made-end}
use Rattle.hush_commands.proofs.field_buffer.FieldBuffer.end.Goals as goal

pub returns-in-Ok-clause-ok : goal.returns-in-Ok-clause-ok
returns-in-Ok-clause-ok c =
    let v : vec_len c.self.inside.bytes ≡ length c.self.inside.bytes.items = search rules in
    let is : c.self.inside.begun ≡ true = c.if-not-self.false in
    ap (λ (x : List ℕ). made c.self.inside.bytes.items x c.len-end.result false) c.in-Ok.ensures.items
    ∙ ap (λ (k : ℕ). made c.self.inside.bytes.items (c.self.inside.lengths.items ++ (k - c.self.inside.start) ∷ []) k false) (c.len-end.ensures ∙ v)
    ∙ made-end c.self.inside.bytes.items c.self.inside.lengths.items c.self.inside.start (subst (λ (b : Bool). IsBuffer c.self.inside.bytes.items c.self.inside.lengths.items c.self.inside.start b) is c.self.invariant)
    ∙ ap (λ (b : Bool). ended (made c.self.inside.bytes.items c.self.inside.lengths.items c.self.inside.start b)) (sym is)
    ∙ ap ended c.self.view_is
