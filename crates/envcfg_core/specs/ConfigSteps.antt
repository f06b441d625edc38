-- An accepted line as a step of the reader hands it on, in the words of the definitions: no part of what the crate promises.
use Rattle.envcfg_core.specs.declared.accept.Candidate.{Candidate}
use Rattle.envcfg_core.specs.Config.{Accepted}

abbrev pub candidate_view : Candidate → Accepted
candidate_view c = record { line = c.line; device = c.device.now; offset = c.offset; size = c.size }
