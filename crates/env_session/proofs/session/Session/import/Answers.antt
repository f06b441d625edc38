use Rattle.std.proofs.Common.{◌≡◌, ℕ, ◌+◌, ◌<◌, ◌≤◌, length, take, map, cond, refl, sym, ap, subst, ◌∙◌, arith}
use Rattle.env_session.specs.Session.{Held}
use Rattle.env_session.proofs.LawLemmas.{imported_none, imported_more, one_or_none, at_most_one}
use Rattle.env_session.proofs.session.Session.import.Goals as goal

pub entries-init : goal.entries-init
entries-init c = record { count = refl; fewer = omega arith; session = imported_none c.args.self.now }

pub entries-preserved : goal.entries-preserved
entries-preserved c =
    let now : Held × ℕ = (c.entries.self, c.entries.refused) in
    let counted = c.from-refused.ensures ∙ one_or_none c.in-Ok.no ∙ ap (λ b. cond b 1 0) c.in-Ok.ensures.refused in
    let few : c.from-refused.result ≤ 1 = subst (λ n. n ≤ 1) (sym c.from-refused.ensures) (at_most_one c.in-Ok.no) in
    record {
      count = omega (arith, c.entries.invariant.count);
      fewer = omega (arith, c.entries.invariant.fewer, few);
      session =
          (λ i. (c.in-Ok.ensures.done i, c.entries.refused + counted i))
          ∙ imported_more now c.args.self.now c.args.entries.now c.entries.done c.entry-item.result (omega (arith, c.entries.invariant.count, c.entries-test.true)) (subst (λ (k : ℕ). c.entry-item.result ≡ Rattle.std.proofs.Common.get_or c.args.entries.now k c.entry-item.result) (sym c.entries.invariant.count) c.entry-item.is) c.entries.invariant.session;
    }
