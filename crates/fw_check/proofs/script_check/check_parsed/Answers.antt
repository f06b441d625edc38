use Rattle.std.proofs.Common.{map, ap, ◌∙◌}
use Rattle.std.specs.List.{flat_map}
use Rattle.hush_syntax.specs.CommandWords.{word_placed}
use Rattle.hush_syntax.specs.Scripts.{source_of, tree_of}
use Rattle.hush_words.specs.Parts.{written}
use Rattle.fw_check.specs.Quoting.{quoting_findings}
use Rattle.fw_check.specs.Findings.{item_findings}
use Rattle.fw_check.specs.Found.{found_more}
use Rattle.fw_check.specs.Looking.{known_in, rules_in}
use Rattle.fw_check.specs.Statements.{item_words, statement_of}
use Rattle.fw_check.proofs.FoundLemmas.{found-append, ok-then}
use Rattle.fw_check.proofs.script_check.check_parsed.Goals as goal

pub returns : goal.returns
returns c =
    let s = c.args.script.now in
    let known = known_in c.args.lookups.now in
    let given = rules_in c.args.lookups.now in
    let items = c.deref.result.now in
    let quotes = quoting_findings (source_of s) in
    let quoted = c.in_ok-check_quoting.ensures ∙ ap (λ t. found_more c.args.found.now (quoting_findings t)) c.source.ensures in
    ok-then c.check_items.result _ _
    (λ e. (
      items,
      (
        tree_of s,
        c.requires,
        ap (map (statement_of s.text)) c.deref.ensures.value ∙ c.in_ok-items.ensures.statements,
        ap (λ xs. map (word_placed s.text) (flat_map item_words xs)) c.deref.ensures.value ∙ c.in_ok-items.ensures.words,
      ),
      e ∙ (λ i. found_more (quoted i) (flat_map (item_findings known given (c.text.ensures i)) items))
          ∙ found-append c.args.found.now quotes (flat_map (item_findings known given (written (source_of s))) items),
    ))
    c.check_items.ensures
