use Rattle.std.proofs.Common.{ap, ◌∙◌, length, eqb}
use Rattle.envcfg_core.proofs.SkippedLineLemmas.{is_skipped_line-is}
use Rattle.envcfg_core.proofs.set_script.is_skipped_line.Goals as goal

pub returns-else-begins_with_byte : goal.returns-else-begins_with_byte
returns-else-begins_with_byte c =
    is_skipped_line-is c.args.line.now c.begins_with_byte.result c.is_empty.result c.begins_with_byte.ensures c.if-begins_with_byte.false
    (c.is_empty.ensures ∙ ap (λ xs. eqb (length xs) 0) c.without_blanks.ensures)
