use Rattle.fw_check.proofs.NameLemmas.{key-more}
use Rattle.fw_check.proofs.name_set.NameSet.add.Goals as goal

pub returns-clause-added : goal.returns-clause-added
returns-clause-added c =
    key-more c.args.self.now.names.keys c.insert.new.self.keys c.in_ok-key.key c.args.name.now c.in_ok-insert.ensures.keys c.in_ok-key.ensures.items
