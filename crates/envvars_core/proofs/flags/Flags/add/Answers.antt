use Rattle.std.proofs.Common.{eqb, length, map, ap, sym, ◌∙◌}
use Rattle.envvars_core.specs.Attributes.{item_of, found_among}
use Rattle.envvars_core.proofs.FlagLemmas.{entry_view, found_added}
use Rattle.envvars_core.proofs.flags.Flags.add.Goals as goal

pub returns-in_ok-insert : goal.returns-in_ok-insert
returns-in_ok-insert c = λ n.
    ap (λ es. found_among (map (entry_view (λ k. k.items)) es) n) c.in_ok-insert.ensures.entries
    ∙ found_added (λ k. k.items) c.self.inside.items.entries c.in_ok-to_vec.field-0 c.read_item.result.1 (item_of c.args.piece.now) c.args.self.now n c.self.view_is (c.in_ok-to_vec.ensures.items_if_clones_equal (λ _ _ e. e) ∙ c.read_item.ensures.name) c.read_item.ensures.attr (ap (λ m. eqb (length m) 0) (sym c.read_item.ensures.name) ∙ sym c.is_empty.ensures ∙ c.if-not-is_empty.true)
