use Rattle.std.proofs.Common.{◌≡◌, ◌⊎◌, ℕ, true, ap, ◌∙◌, ⊎_elim, arith}
use Rattle.text_parts.specs.Bytes.{is_blank}
use Rattle.envcfg_core.proofs.ImportLemmas.{entries_from-blank, entries_from-newline, entries_from-comment}
use Rattle.envcfg_core.proofs.import.skip_to_entry.Goals as goal

is_blank-from : {b : ℕ} → (b ≡ 9) ⊎ (b ≡ 32) → is_blank b ≡ true
is_blank-from h = ⊎_elim (λ e. ap is_blank e) (λ e. ap is_blank e) h

pub loop-first-preserved-in-32 : goal.loop-first-preserved-in-32
loop-first-preserved-in-32 c =
    let text = c.in-Some.ensures.cases in record {
      same = c.loop-first.invariant.same
          ∙ entries_from-blank c.loop-first.rest.line c.in-Some.first.now c.loop-first.rest.text.now c.in-Some.others.now text.0 (is_blank-from c.in-32.is);
      within = omega (arith, text.1);
      no_longer = omega (arith, text.1);
    }

pub loop-first-preserved-in-10 : goal.loop-first-preserved-in-10
loop-first-preserved-in-10 c =
    let text = c.in-Some.ensures.cases in record {
      same = c.loop-first.invariant.same
          ∙ entries_from-newline c.loop-first.rest.line c.in-Some.first.now c.loop-first.rest.text.now c.in-Some.others.now text.0 c.in-10.is;
      within = omega (arith, text.1);
      no_longer = omega (arith, text.1);
    }

pub loop-first-preserved : goal.loop-first-preserved
loop-first-preserved c =
    let text = c.in-Some.ensures.cases in record {
      same = c.loop-first.invariant.same
          ∙ entries_from-comment c.loop-first.rest.line c.in-Some.first.now c.loop-first.rest.text.now c.in-Some.others.now c.after_line.result.now text.0 c.in-35.is c.after_line.ensures.rest;
      within = omega (arith, text.1);
      no_longer = omega (arith, text.1);
    }
