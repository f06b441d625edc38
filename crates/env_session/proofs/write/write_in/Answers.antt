use Rattle.std.proofs.Common.{option_copied}
use Rattle.env_session.proofs.MarkLemmas.{kept_ok}
use Rattle.env_session.proofs.write.write_in.Goals as goal

pub returns-clause-kept : goal.returns-clause-kept
returns-clause-kept c = kept_ok c.write_kept-answer.result c.args.spans.now c.args.last c.index-spans-last.result c.write_kept-answer.new.olds c.args.vars.now.env c.args.name.now (option_copied c.args.new) c.requires c.write_kept-answer.ensures.kept
