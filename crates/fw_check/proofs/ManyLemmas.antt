-- The first word of a command that is too many.
use Rattle.std.proofs.Common.{◌≡◌, ℕ, zero, suc, Bool, true, false, List, [], ◌∷◌, drop, length, nat_lt, slice_index_or, refl, sym, arith}
use Rattle.std.proofs.lemmas.Bool.{lt-ltb, ltb-true}
use Rattle.hush_words.specs.declared.parts.Word.{Word}
use Rattle.finding_kinds.specs.declared.kinds.FindingKind.TheVariants as kind
use Rattle.fw_check.specs.ReportLines.{found_at}
use Rattle.fw_check.specs.CommandFindings.{many_from, many_sentence}

pub many-at : (words : List Word) (n : ℕ) (d : Word) → true ≡ nat_lt n (length words) → many_from (drop n words) ≡ found_at (slice_index_or words n d).start kind.ManyWords many_sentence ∷ []
many-at [] zero d h = absurd (let no : ◌≡◌ {A = Bool} true false = h in cc)
many-at [] (suc n) d h = absurd (omega (arith, ltb-true (suc n) 0 (sym h)))
many-at (w ∷ words) zero d h = refl
many-at (w ∷ words) (suc n) d h =
    let less = ltb-true (suc n) (suc (length words)) (sym h) in
    many-at words n d (sym (lt-ltb n (length words) (omega (arith, less))))
