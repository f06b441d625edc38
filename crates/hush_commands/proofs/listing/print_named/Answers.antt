use Rattle.std.proofs.Common.{◌≡◌, ℕ, ◌&&◌, List, Ok, Err, subst, sym, ap, ◌∙◌, rules}
use Rattle.std.specs.List.{flat_map, list_all}
use Rattle.std.proofs.Math.Bool.{and-true}
use Rattle.hush_commands.specs.Output.{status_if}
use Rattle.hush_commands.specs.Output.{Prints}
use Rattle.hush_commands.specs.Listing.{line_in, is_defined}
use Rattle.hush_commands.proofs.OutputLemmas.{prints-nothing, prints-front}
use Rattle.hush_commands.proofs.listing.print_named.Goals as goal

pub returns-in_err-defined : goal.returns-in_err-defined
returns-in_err-defined c =
    let env = c.args.vars.now.env in
    let f = c.in_err-defined.field-0.0 in
    let new = c.print_one-in-Some.new.output in
    let same : c.from_residual-in_err-defined.result ≡ Err c.in_err-defined.field-0.0 = search rules in
    rw same (c.loop-name.invariant.printed new (Err f)
    (subst (λ (ns : List (List ℕ)). Prints (flat_map (line_in env) ns) c.loop-name.output new (Err f)) (sym c.in-Some.ensures.steps)
    (prints-front (line_in env c.in-Some.name.now) (flat_map (line_in env) c.next.new.self) c.loop-name.output new f c.in_err-defined.ensures)))

pub returns : goal.returns
returns c =
    let env = c.args.vars.now.env in
    let o = c.loop-name.output in
    let none = c.in_default.ensures.steps.0 in (
      c.status_if.ensures
          ∙ ap status_if (sym (and-true c.loop-name.all_defined)
          ∙ ap (λ (ns : List (List ℕ)). c.loop-name.all_defined && list_all (is_defined env) ns) (sym none)
          ∙ c.loop-name.invariant.defined),
      c.loop-name.invariant.printed o (Ok tt) (subst (λ (ns : List (List ℕ)). Prints (flat_map (line_in env) ns) o o (Ok tt)) (sym none) (prints-nothing o)),
    )
