use Rattle.std.proofs.Common.{◌<◌, ◌/◌, length, arith, subst, sym}
use Rattle.envvars_store.specs.Runs.{variables_at}
use Rattle.envvars_store.proofs.RunLemmas.{variables_long, cut_flat, cut_filled}
use Rattle.envvars_store.proofs.runs.divide.Goals as goal

pub returns-clause-variables : goal.returns-clause-variables
returns-clause-variables c =
    cut_flat c.args.runs.now.items c.reserve.new.self.items c.insert.new.self.items c.args.index (c.len-half.result / 2) c.index_mut.result.now c.split_off.new.self c.in_ok-upper.upper
    c.in_ok-reserve.ensures.items c.requires.run c.index_mut.ensures.value c.in_ok-upper.ensures.items c.in_ok-upper.ensures.tail c.in-Ok.ensures.items

pub returns-clause-filled : goal.returns-clause-filled
returns-clause-filled c =
    let there : c.args.index < length c.reserve.new.self.items = subst (λ m. c.args.index < length m) (sym c.in_ok-reserve.ensures.items) c.requires.run in
    let lower = c.in_ok-upper.ensures.len in
    let upper = c.in_ok-upper.ensures.tail_len in
    let read = variables_long c.reserve.new.self.items c.args.index c.index.result.now there c.index.ensures in
    let written = variables_long c.reserve.new.self.items c.args.index c.index_mut.result.now there c.index_mut.ensures.value in
    let long : 1 < length (variables_at c.reserve.new.self.items c.args.index) = subst (λ m. 1 < length (variables_at m c.args.index)) (sym c.in_ok-reserve.ensures.items) c.requires.long in
    cut_filled c.args.runs.now.items c.reserve.new.self.items c.insert.new.self.items c.args.index c.split_off.new.self c.in_ok-upper.upper c.in_ok-reserve.ensures.items c.requires.filled (omega arith) (omega arith) c.in-Ok.ensures.items
