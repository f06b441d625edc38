-- Findings after findings.
use Rattle.std.proofs.Common.{◌≡◌, ℕ, Bool, true, List, [], ◌∷◌, ◌++◌, refl, sym, ap, ◌∙◌, Some, None, if◌then◌else◌}
use Rattle.std.specs.Prelude.{OnOk, Result, Ok, Err}
use Rattle.std.specs.List.{list_any, position_or_len}
use Rattle.std.proofs.lemmas.Grind.{fold-append}
use Rattle.memchr.specs.Find.{IsFirstByte, is_byte}
use Rattle.text_parts.proofs.CutLemmas.{list_any-answer, position_or_len-found}
use Rattle.finding_kinds.specs.declared.kinds.FindingKind.{FindingKind}
use Rattle.fw_check.specs.ReportLines.{Finding, Report, found_at, with_finding, with_findings}
use Rattle.fw_check.specs.Findings.{first_findings}
use Rattle.fw_check.specs.Found.{Found, found_more}
use Rattle.fw_check.specs.Origins.{Origin}

pub report-none : (origin : Origin) (text : List ℕ) (r : Report) → with_findings origin text r [] ≡ r
report-none origin text r = refl

pub report-append : (origin : Origin) (text : List ℕ) (r : Report) (xs ys : List Finding) → with_findings origin text (with_findings origin text r xs) ys ≡ with_findings origin text r (xs ++ ys)
report-append origin text r xs ys = sym (fold-append (with_finding origin text) r xs ys)

pub found-none : (f : Found) → found_more f [] ≡ f
found-none f = ap (λ (r : Report). let g : Found = record f { report = r } in g) (report-none f.origin f.text f.report)

pub found-append : (f : Found) (xs ys : List Finding) → found_more (found_more f xs) ys ≡ found_more f (xs ++ ys)
found-append f xs ys = ap (λ (r : Report). let g : Found = record f { report = r } in g) (report-append f.origin f.text f.report xs ys)

-- ---- the first of a byte

module _ (byte : ℕ) (k : FindingKind) (sentence : List ℕ) where
  first-so : (b : Bool) (count n : ℕ) → true ≡ b → n ≡ count → (if b then found_at n k sentence ∷ [] else []) ≡ found_at count k sentence ∷ []
  first-so b count n h e = λ i. if sym h i then found_at (e i) k sentence ∷ [] else []

  pub first-found : (text : List ℕ) (count : ℕ) → IsFirstByte (is_byte byte) text (Some count) → first_findings byte k sentence text ≡ found_at count k sentence ∷ []
  first-found text count h =
      first-so (list_any (is_byte byte) text) count (position_or_len (is_byte byte) text) (list_any-answer (is_byte byte) text (Some count) h) (position_or_len-found (is_byte byte) text count h)

  pub first-none : (text : List ℕ) → IsFirstByte (is_byte byte) text None → first_findings byte k sentence text ≡ []
  first-none text h =
      ap (λ (b : Bool). if b then found_at (position_or_len (is_byte byte) text) k sentence ∷ [] else []) (sym (list_any-answer (is_byte byte) text None h))

-- ---- what an `Ok` tells

pub ok-then : {T E : Type 0} (r : Result T E) (P Q : Type 0) → (P → Q) → OnOk r P → OnOk r Q
ok-then (Ok x) P Q f p = f p
ok-then (Err e) P Q f p = tt

-- ---- findings of four kinds, one after the other

pub found-four : (old one two three four : Found) (a b c d : List Finding) → one ≡ found_more old a → two ≡ found_more one b → three ≡ found_more two c → four ≡ found_more three d →
    four ≡ found_more old (a ++ b ++ c ++ d)
found-four old one two three four a b c d p q r s =
    s
    ∙ ap (λ f. found_more f d) (r ∙ ap (λ f. found_more f c) (q ∙ ap (λ f. found_more f b) p ∙ found-append old a b) ∙ found-append old (a ++ b) c)
    ∙ found-append old (a ++ b ++ c) d
