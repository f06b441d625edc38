use Rattle.std.proofs.Common.{◌-◌, drop, length-take, ap, sym, ◌∙◌, arith}
use Rattle.fw_engines.specs.TextPlaces.{place_of}
use Rattle.fw_engines.proofs.PlaceLemmas.{place-moved, place-within}
use Rattle.fw_engines.proofs.text_places.Pointer.place.Goals as goal

pub invariant_of-self : goal.invariant_of-self
invariant_of-self c =
    let text = c.self.inside.text.now in
    let known = c.known-start.ensures in
    let start = c.known-start.result.0 in
    let count = c.min-count.result in
    let moved = c.place_after-self-inside.ensures in (
      place-moved text c.known-start.result.1 c.place_after-self-inside.result start count known.before
          (known.place ∙ ap (λ t. place_of t start) (sym c.self.view_is)) moved.place,
      omega (arith, c.min-count.ensures),
      omega (arith, moved.bound, known.before, length-take (count - start) (drop start text)),
      moved.least,
    )

pub returns-clause-place : goal.returns-clause-place
returns-clause-place c =
    let text = c.self.inside.text.now in
    let known = c.known-start.ensures in
    let start = c.known-start.result.0 in
    let count = c.min-count.result in
    place-moved text c.known-start.result.1 c.place_after-self-inside.result start count known.before
    (known.place ∙ ap (λ t. place_of t start) (sym c.self.view_is)) c.place_after-self-inside.ensures.place
    ∙ ap (place_of text) c.min-count.ensures ∙ place-within text c.args.count ∙ ap (λ t. place_of t c.args.count) c.self.view_is
