use Rattle.std.proofs.Common.{subst}
use Rattle.hush_words.specs.Ranges.{Fits}
use Rattle.hush_run.proofs.NameLemmas.{plain_of, none_of}
use Rattle.hush_run.proofs.name_words.plain_in.Goals as goal

pub returns-in-Plain : goal.returns-in-Plain
returns-in-Plain c = plain_of c.args.text.now.source c.args.part c.in-Plain.span c.bytes.result.now c.in-Plain.is c.bytes.ensures

pub returns-in_default : goal.returns-in_default
returns-in_default c = none_of c.args.text.now.source c.args.part c.in_default.not-Plain

pub bytes-requires : goal.bytes-requires
bytes-requires c = subst (Fits c.args.text.now.source) c.in-Plain.is c.requires
