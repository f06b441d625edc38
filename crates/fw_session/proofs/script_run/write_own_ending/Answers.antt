use Rattle.std.proofs.Common.{ℕ, List, [], ◌∷◌, MatchBool, codes, ap, subst, ◌∙◌}
use Rattle.std.specs.Fmt.{decimal}
use Rattle.std.specs.Io.KnownBytes.{Appends}
use Rattle.std.specs.List.{concat}
use Rattle.fw_engines.specs.Streams.{AppendsPart}
use Rattle.fw_session.proofs.script_run.write_own_ending.Goals as goal

pub returns : goal.returns
returns g c =
    let a = g.E.Write.contents c.args.errors.now in
    let b = g.E.Write.contents c.write_parts.new.writer in
    let text : List ℕ → List ℕ → List ℕ = λ s n.
    concat (c.args.front.now ∷ codes "run ended as " ∷ c.args.name.now ∷ codes " with status " ∷ s ∷ codes " after " ∷ n ∷ codes " steps\n" ∷ []) in
    subst (λ t. MatchBool c.write_parts.result (Appends a b t) (AppendsPart a b t))
    (ap (λ s. text s c.as_bytes-2.result.now) (c.as_bytes.ensures.value ∙ c.format.ensures.text)
    ∙ ap (text (decimal c.args.status)) (c.as_bytes-2.ensures.value ∙ c.format-2.ensures.text))
    c.write_parts.ensures
