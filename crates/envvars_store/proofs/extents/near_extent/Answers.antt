use Rattle.std.proofs.Common.{◌≡◌, ◌+◌, ◌-◌, ◌<◌, Some, Greater, arith, length, take, drop, sym, ap, subst, refl, ◌∙◌, take-take, slice_range}
use Rattle.memchr.specs.Find.{IsFirstByte, is_byte}
use Rattle.envimg_core.specs.Environment.{bytes_cmp}
use Rattle.envvars_store.proofs.EntryLemmas.{rest_first, piece_found}
use Rattle.envvars_store.proofs.RisingLemmas.{next_place_is}
use Rattle.envvars_store.proofs.SeekLemmas.{first_in_front}
use Rattle.std.proofs.lemmas.List.{take_rest}
use Rattle.envvars_store.proofs.extents.near_extent.Goals as goal

pub returns : goal.returns
returns c =
    let area = c.args.area.now in
    let at = c.args.at in
    let end = c.in_ok-end.end in
    let middle = c.in_ok-middle.middle in
    let rest = drop at area in
    let e = rest_first 0 area at (Some end) c.in_ok-end.ensures in
    let m = rest_first 61 area at (Some middle) c.in_ok-middle.ensures in
    let high : end < length rest = e.0.high in
    let piece = piece_found area at end c.requires.within e (omega arith) in
    let same : at + end - at ≡ end = omega arith in
    let cut : slice_range area at (at + end) ≡ take end rest = ap (λ n. take n rest) same in
    let found = subst (λ xs. IsFirstByte (is_byte 61) xs (Some middle)) (sym cut) (first_in_front 61 end rest middle m (omega arith) (omega arith)) in
    let rises = c.if-not-rises.ensures refl in
    let name : take middle (slice_range area at (at + end)) ≡ take middle rest = ap (take middle) cut ∙ take-take middle end rest (omega arith) in
    let rising : bytes_cmp (take middle (slice_range area at (at + end))) c.args.last.now ≡ Greater =
    ap (λ xs. bytes_cmp xs c.args.last.now) (name ∙ ap (take middle) (sym (take_rest area at))) ∙ ap (bytes_cmp _) (c.requires.front ∙ ap (take (length c.args.last.now)) (sym (take_rest area c.args.from))) ∙ rises in
    next_place_is area at middle (at + end) c.args.last.now _ refl refl refl piece found (λ w. absurd (omega arith)) rising
