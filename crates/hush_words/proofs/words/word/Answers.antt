use Rattle.std.proofs.Common.{rules, arith, sym, ◌∙◌, ap, ◌≡◌, Err, drop}
use Rattle.hush_words.specs.Words.{ends_word, next}
use Rattle.hush_words.specs.Reading.{piece_atoms_left}
use Rattle.hush_words.specs.Parts.{range_bytes}
use Rattle.hush_words.proofs.PieceLemmas.{piece-none}
use Rattle.hush_words.proofs.WordLemmas.{word-read, plain-read}
use Rattle.hush_words.proofs.WordOpens.{word-token, no-word-token}
use Rattle.hush_words.proofs.FaultLemmas.{word-fault}
use Rattle.hush_words.proofs.words.word.Goals as goal

pub loop-end-init : goal.loop-end-init
loop-end-init c =
    let run = c.run_end-at.ensures in
    let plain = plain-read c.args.source.now c.args.start c.run_end-at.result run in
    record {
      begun = omega (arith, run.0);
      within = run.1;
      ends = plain.0;
      behind = plain.1;
    }

pub loop-end-preserved : goal.loop-end-preserved
loop-end-preserved c =
    let i = c.loop-end.invariant in
    let r = rw c.in-Some.is at c.in_ok-end.ensures.reads in
    record {
      begun = omega (arith, i.begun, r.0);
      within = r.1;
      ends = r.3 ∙ i.ends;
      behind = rw c.in-Some.is at c.in_ok-end.ensures.plain;
    }

pub returns-in_err-end-clause-reads : goal.returns-in_err-end-clause-reads
returns-in_err-end-clause-reads c =
    let source = c.args.source.now in
    let same : c.from_residual.result ≡ Err c.in_err-end.field-0.0 = search rules in
    let r = c.in_err-end.ensures.reads in
    rw same (
      no-word-token source c.args.start c.args.first c.requires.here c.requires.inside c.requires.no_comment c.requires.no_line
          (ap (next ends_word) (sym c.loop-end.invariant.ends ∙ (piece-none (drop c.loop-end.at source) r.0).1) ∙ r.1),
      word-fault source c.args.start c.loop-end.at c.in_err-end.field-0.0 r.0 c.loop-end.invariant.ends r.2,
    )

pub returns-clause-reads : goal.returns-clause-reads
returns-clause-reads c =
    let source = c.args.source.now in
    let i = c.loop-end.invariant in
    let h = rw c.in_default.is at c.in_ok-end.ensures.reads in
    let w = word-read source c.args.start c.loop-end.at i.begun h.0 i.ends in
    rw c.new.ensures (word-token source c.args.start c.args.first c.requires.here c.requires.inside c.requires.no_comment c.requires.no_line
    c.loop-end.at (piece_atoms_left (range_bytes source c.args.start c.loop-end.at)) i.within w.0 w.1 h.1)

pub returns-clause-starts : goal.returns-clause-starts
returns-clause-starts c = ap (λ w. w.start) c.new.ensures
