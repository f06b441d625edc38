use Rattle.fw_files.proofs.SaidLemmas.{front_written}
use Rattle.fw_tools.specs.HaltLines.{no_good_copies_line}
use Rattle.fw_tools.proofs.halt_lines.say_both.Goals as goal

pub returns : goal.returns
returns g c = front_written c.write_parts.result _ _ (no_good_copies_line c.args.first.now c.args.second.now c.args.end.now) c.write_parts.ensures
