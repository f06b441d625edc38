-- A text cut at its first newline.
use Rattle.std.proofs.Common.{ℕ, ◌+◌, ◌-◌, ◌<◌, List, ◌∷◌, length, take, drop, Some, sym, ap, ◌∙◌, subst, arith}
use Rattle.std.specs.List.{slice_split, position_or_len, after_first}
use Rattle.std.proofs.lemmas.List.{length-drop}
use Rattle.std.proofs.lemmas.List.Splits.{slice_split_first}
use Rattle.memchr.specs.Find.{IsFirstByte}
use Rattle.text_parts.specs.Bytes.{is_newline}
use Rattle.text_parts.specs.LineSteps.{CutsLine}
use Rattle.text_parts.proofs.CutLemmas.{position_or_len-found, before_first-found, after_first-found}

pub cuts_line : (text : List ℕ) (at : ℕ) → IsFirstByte is_newline text (Some at) →
    CutsLine text (take at text) (take (length text - (at + 1)) (drop (at + 1) text))
cuts_line text at found =
    let rest = after_first-found is_newline text at found in
    let k = position_or_len-found is_newline text at found in
    let within : position_or_len is_newline text < length text = omega (arith, found.0.high) in
    let P : List ℕ → Type 0 = λ xs. CutsLine text (take at text) xs in
    subst P (sym rest) (record {
      first = slice_split_first is_newline text 0 within ∙ ap (λ xs. xs ∷ slice_split is_newline (after_first is_newline text)) (sym (before_first-found is_newline text at found));
      shorter = omega (arith, length-drop (position_or_len is_newline text + 1) text);
    })
