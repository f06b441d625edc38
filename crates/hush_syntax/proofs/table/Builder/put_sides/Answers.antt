use Rattle.std.proofs.Common.{sym, ap, append-nil, append_assoc, ◌∙◌, ◌-◌, ◌++◌, ◌∷◌, length, []}
use Rattle.hush_syntax.proofs.Building.{same-members, only_words}
use Rattle.hush_syntax.proofs.CommandExits.{sides-are}
use Rattle.hush_syntax.proofs.table.Builder.put_sides.Goals as goal

pub returns-clause-words : goal.returns-clause-words
returns-clause-words c = λ more.
    sides-are c.args.self.now.table.words.items c.push.new.self.items c.push-2.new.self.items more.words c.args.name c.args.value c.in_ok-block.block
    c.in_ok-push.ensures.items c.in_ok-push-2.ensures.items
    (c.in_ok-block.ensures.first ∙ c.count-first.ensures) (c.in_ok-block.ensures.len ∙ ap (λ n. length c.push-2.new.self.items - n) (sym c.in_ok-block.ensures.first))

pub returns-clause-grows : goal.returns-clause-grows
returns-clause-grows c =
    let t = c.args.self.now.table in (
      [],
      only_words (c.args.name ∷ c.args.value ∷ []),
      sym (append-nil t.nodes.items),
      same-members _ _ _ _ _ _ _ _
          (c.in_ok-push-2.ensures.items ∙ ap (λ l. l ++ c.args.value ∷ []) c.in_ok-push.ensures.items ∙ append_assoc t.words.items (c.args.name ∷ []) (c.args.value ∷ []))
          (sym (append-nil t.chains.items)) (sym (append-nil t.links.items)) (sym (append-nil t.branches.items)),
    )
