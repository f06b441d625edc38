use Rattle.std.proofs.Common.{map, ap, sym, ◌∙◌, ◌++◌, ◌∷◌, []}
use Rattle.fw_check.specs.Following.{is_among}
use Rattle.fw_check.specs.NameSets.{set_of}
use Rattle.fw_check.proofs.NameLemmas.{items-more, same-more}
use Rattle.fw_check.proofs.followed.Names.add.Goals as goal

pub invariant_of-self-2 : goal.invariant_of-self-2
invariant_of-self-2 c =
    let old = c.self.inside.order.items in
    same-more (map (λ n. n.items) old) _ (set_of c.self.inside.met) (set_of c.add.new.self) c.args.name.now c.self.invariant c.in_ok-add.ensures.added
    (items-more old c.push_reserved.new.self.items c.in_ok-last.last c.args.name.now
    (c.push_reserved.ensures.items ∙ ap (λ xs. xs ++ c.in_ok-last.last ∷ []) c.reserve.ensures.items) c.in_ok-last.ensures.items)

pub invariant_of-self-in_err-add : goal.invariant_of-self-in_err-add
invariant_of-self-in_err-add c name =
    (λ i. c.in_err-add.ensures.kept i name) ∙ c.self.invariant name
    ∙ ap (λ vs. is_among (map (λ n. n.items) vs) name) (sym c.reserve.ensures.items)
