use Rattle.std.proofs.lemmas.List.Splits.{slice_split_none}
use Rattle.text_parts.specs.Bytes.{is_newline}
use Rattle.text_parts.proofs.CutLemmas.{none_pass}
use Rattle.text_parts.proofs.LineLemmas.{cuts_line}
use Rattle.text_parts.proofs.lines.cut_line.Goals as goal

pub returns-in-Some : goal.returns-in-Some
returns-in-Some c = cuts_line c.args.text.now c.in-Some.at c.in-Some.ensures

pub returns-in-None : goal.returns-in-None
returns-in-None c = slice_split_none is_newline c.args.text.now (none_pass is_newline c.args.text.now c.in-None.ensures)
