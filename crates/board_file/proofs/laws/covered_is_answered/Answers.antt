use Rattle.board_file.proofs.CoverLemmas.{covered-answered}
use Rattle.board_file.proofs.laws.covered_is_answered.Goals as goal

pub returns : goal.returns
returns c = covered-answered
