use Rattle.fw_files.proofs.surveyed_copies.read_surveyed.Goals as goal

pub returns-clause-read : goal.returns-clause-read
returns-clause-read g c = (c.in-Ok.ensures.0, (_, c.in-Ok.ensures.1, c.in_ok-source.ensures.read))
