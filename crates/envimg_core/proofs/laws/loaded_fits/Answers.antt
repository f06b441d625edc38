use Rattle.envimg_core.proofs.FitLemmas as fit
use Rattle.envimg_core.proofs.laws.loaded_fits.Goals as goal

pub returns : goal.returns
returns c area ended = fit.loaded_fits area ended
