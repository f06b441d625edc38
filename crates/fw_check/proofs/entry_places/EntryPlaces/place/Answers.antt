use Rattle.std.proofs.Common.{◌≡◌, ◌+◌, ◌-◌, ℕ, arith, ap, drop, false, length, length-drop, sym, ◌∙◌}
use Rattle.std.proofs.lemmas.List.{take_rest}
use Rattle.fw_engines.specs.TextPlaces.{place_of}
use Rattle.fw_check.specs.EntryPlaces.{EntryText, below, place_in_entry, spelled_length}
use Rattle.fw_check.proofs.EntryPlaceLemmas.{never, spelled-sum}
use Rattle.fw_check.proofs.entry_places.EntryPlaces.place.Goals as goal

-- so many bytes spell the first `count`
spelled-all : (c : goal.After-below) → c.known-known.result.1 + c.spelled_length.result ≡ spelled_length false c.args.count c.self.inside.value.now
spelled-all c =
    let value = c.self.inside.value.now in
    let known = c.known-known.result.0 in
    let at = c.known-known.result.1 in
    let more = c.args.count - known in
    let first : at ≡ spelled_length false known value = c.known-known.ensures.spelled ∙ ap (λ (e : EntryText). spelled_length false known e.value) (sym c.self.view_is) in
    let second : c.spelled_length.result ≡ spelled_length false more (drop at value) = c.spelled_length.ensures.value ∙ ap (spelled_length false more) (take_rest value at) in
    let all : known + more ≡ c.args.count = omega (arith, c.known-known.ensures.before) in
    ap (λ (n : ℕ). at + n) second ∙ ap (λ (n : ℕ). n + spelled_length false more (drop n value)) first
    ∙ sym (spelled-sum value false known more (λ h. never h)) ∙ ap (λ (n : ℕ). spelled_length false n value) all

pub invariant_of-self : goal.invariant_of-self
invariant_of-self c =
    let i = c.self.invariant in
    let value = c.self.inside.value.now in
    let at = c.known-known.result.1 in
    let same : length c.self.inside.pointer ≡ length c.place.new.self = sym (ap length c.place.ensures.text) in
    let shown = ap (λ (e : EntryText). length e.value) c.self.view_is in
    let rest = ap length (take_rest value at) ∙ length-drop at value in (
      i.0 ∙ ap (λ (n : ℕ). n - length value) same,
      omega (arith, i.1, same),
      spelled-all c,
      omega (arith, c.spelled_length.ensures.few, rest, c.known-known.ensures.few, shown),
      omega (arith, i.4, same),
    )

pub returns-clause-place : goal.returns-clause-place
returns-clause-place c =
    let e = c.self.inside in
    let start = length e.pointer - length e.value.now in
    let far = ap (λ (n : ℕ). n + (c.known-known.result.1 + c.spelled_length.result)) c.self.invariant.0 ∙ ap (λ (n : ℕ). start + n) (spelled-all c) in
    c.below.ensures ∙ ap (below e.before) (c.place.ensures.place ∙ ap (place_of e.pointer) far) ∙ ap (λ (v : EntryText). place_in_entry v c.args.count) c.self.view_is
