use Rattle.std.proofs.Common.{ap, ◌∙◌}
use Rattle.clap.specs.Words.{found_of}
use Rattle.fw_arguments.specs.Values.{given_by}
use Rattle.fw_arguments.proofs.WordLemmas.{source_found}
use Rattle.fw_arguments.proofs.arguments.is_given.Goals as goal

pub returns : goal.returns
returns c = c.is_from_words.ensures ∙ ap given_by (c.value_source.ensures ∙ source_found (found_of c.args.matches.now) c.args.id.now)
