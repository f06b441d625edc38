use Rattle.std.proofs.Common.{ap, ◌∙◌}
use Rattle.std.specs.Prelude.{unwrap_or}
use Rattle.clap.proofs.WalkLemmas.{first_value-rows}
use Rattle.clap.specs.Words.{found_of}
use Rattle.fw_arguments.proofs.CallLemmas.{text_or}
use Rattle.fw_arguments.proofs.arguments.first_or.Goals as goal

pub returns : goal.returns
returns c = ap (λ t. t.now) c.unwrap_or.ensures ∙ text_or c.get_str.result c.args.other ∙ ap (λ o. unwrap_or o c.args.other.now) (c.get_str.ensures ∙ first_value-rows (found_of c.args.found.now) c.args.id.now)
