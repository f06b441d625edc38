use Rattle.text_parts.specs.Bytes.{is_newline}
use Rattle.text_parts.proofs.CutLemmas.{after_first-found, after_first-none}
use Rattle.fw_check.proofs.entry_places.after_newline.Goals as goal

pub returns-in-Some : goal.returns-in-Some
returns-in-Some c = after_first-found is_newline c.args.text.now c.in-Some.at c.in-Some.ensures

pub returns-in-None : goal.returns-in-None
returns-in-None c = after_first-none is_newline c.args.text.now c.in-None.ensures
