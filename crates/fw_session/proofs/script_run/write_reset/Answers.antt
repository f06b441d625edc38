use Rattle.std.proofs.Common.{ℕ, List, [], ◌∷◌, MatchBool, codes, ap, subst, sym, ◌∙◌}
use Rattle.std.specs.Fmt.{decimal}
use Rattle.std.specs.Io.KnownBytes.{Appends}
use Rattle.std.specs.List.{concat}
use Rattle.fw_engines.specs.Streams.{AppendsPart}
use Rattle.fw_session.specs.ScriptRun.{reset_line}
use Rattle.fw_session.proofs.script_run.write_reset.Goals as goal

pub returns-in-None : goal.returns-in-None
returns-in-None g c =
    let a = g.E.Write.contents c.args.errors.now in
    let b = g.E.Write.contents c.write_parts.new.writer in
    let text : List ℕ → List ℕ = λ n. concat (codes "fwenv: no boot: reset by \"" ∷ c.args.called.now ∷ codes "\" after " ∷ n ∷ codes " steps\n" ∷ []) in
    subst (λ t. MatchBool c.write_parts.result (Appends a b t) (AppendsPart a b t))
    (ap text (c.as_bytes-steps.ensures.value ∙ c.format.ensures.text) ∙ ap (λ p. reset_line c.args.called.now p c.args.steps) (sym c.in-None.is))
    c.write_parts.ensures

pub returns-in-Some : goal.returns-in-Some
returns-in-Some g c =
    let a = g.E.Write.contents c.args.errors.now in
    let b = g.E.Write.contents c.write_parts-in-Some.new.writer in
    let text : List ℕ → List ℕ → List ℕ = λ v n.
    concat (codes "fwenv: no boot: reset by \"" ∷ c.args.called.now ∷ codes "\" in \"" ∷ v ∷ codes "\" after " ∷ n ∷ codes " steps\n" ∷ []) in
    subst (λ t. MatchBool c.write_parts-in-Some.result (Appends a b t) (AppendsPart a b t))
    (ap (λ v. text v c.as_bytes-steps.result.now) c.as_bytes.ensures
    ∙ ap (text _) (c.as_bytes-steps.ensures.value ∙ c.format.ensures.text)
    ∙ ap (λ p. reset_line c.args.called.now p c.args.steps) (sym c.in-Some.is))
    c.write_parts-in-Some.ensures
