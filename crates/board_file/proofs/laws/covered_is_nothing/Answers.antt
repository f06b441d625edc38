use Rattle.board_file.proofs.CoverLemmas.{covered-nothing}
use Rattle.board_file.proofs.laws.covered_is_nothing.Goals as goal

pub returns : goal.returns
returns c = covered-nothing
