use Rattle.std.proofs.Common.{ℕ, ◌∙◌, map, take, drop, suc, sym, ap, subst, List, [], Bor}
use Rattle.std.specs.Prelude.{is_none}
use Rattle.std.specs.FinMap.{get}
use Rattle.std.specs.List.{list_any}
use Rattle.fw_engines.specs.Streams.{Writers}
use Rattle.fw_engines.specs.Tool.{Writes, WritesPart}
use Rattle.fw_engines.specs.VariableLines.{named}
use Rattle.fw_engines.proofs.LineLemmas.{stopped_at_name, one_more, absent_more, taken_more, cut_at}
use Rattle.fw_engines.proofs.WriteLemmas.{stopped_prints}
use Rattle.fw_engines.proofs.variable_lines.print_named.Goals as goal

pub returns-in-None : goal.returns-in-None
returns-in-None g c =
    let bytes : Bor (List ℕ) → List ℕ = λ n. n.now in
    let d : Bor (List ℕ) = record { ref_ptr = (0, 0); now = [] } in
    let a : Writers = record { output = g.W.Write.contents c.args.output.now; errors = g.E.Write.contents c.args.errors.now } in
    let z : Writers = record { output = g.W.Write.contents c.print_name.new.output; errors = g.E.Write.contents c.print_name.new.errors } in
    stopped_prints c.stopped.result a z _ c.stopped.ensures
    (subst (λ ns. WritesPart a z (named c.args.value_only c.args.vars.now.env ns)) (sym (cut_at bytes c.args.names.now c.loop-name.name-index d c.loop-name-test.true))
    (stopped_at_name a (record { output = g.W.Write.contents c.loop-name.output; errors = g.E.Write.contents c.loop-name.errors }) z c.args.value_only c.args.vars.now.env
    (take c.loop-name.name-index (map bytes c.args.names.now)) (drop (suc c.loop-name.name-index) (map bytes c.args.names.now)) _ c.loop-name.invariant.wrote c.in-None.ensures))

pub loop-name-preserved : goal.loop-name-preserved
loop-name-preserved g c =
    let bytes : Bor (List ℕ) → List ℕ = λ n. n.now in
    let d : Bor (List ℕ) = record { ref_ptr = (0, 0); now = [] } in
    let a : Writers = record { output = g.W.Write.contents c.args.output.now; errors = g.E.Write.contents c.args.errors.now } in
    let b : Writers = record { output = g.W.Write.contents c.loop-name.output; errors = g.E.Write.contents c.loop-name.errors } in
    let z : Writers = record { output = g.W.Write.contents c.print_name.new.output; errors = g.E.Write.contents c.print_name.new.errors } in
    let env = c.args.vars.now.env in
    let so_far = take c.loop-name.name-index (map bytes c.args.names.now) in
    let more = taken_more bytes c.args.names.now c.loop-name.name-index d c.loop-name-test.true in
    record {
      wrote = subst (λ ns. Writes a z (named c.args.value_only env ns)) (sym more) (one_more a b z c.args.value_only env so_far _ c.loop-name.invariant.wrote c.in-Some.ensures.0);
      absent = absent_more env so_far _ c.loop-name.absent c.either-absent.result c.in-Some.missing c.loop-name.invariant.absent c.in-Some.ensures.1 c.either-absent.ensures
          ∙ sym (ap (list_any (λ n. is_none (get env n))) more);
    }
