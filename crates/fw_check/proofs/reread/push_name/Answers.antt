use Rattle.std.proofs.Common.{◌++◌, ◌∙◌, ap, append-nil, map, sym}
use Rattle.hush_words.specs.Parts.{part_atoms, span_bytes}
use Rattle.fw_check.specs.Knowing.{reread_names}
use Rattle.fw_check.specs.Looking.{known_in}
use Rattle.fw_check.proofs.RereadLemmas.{plain-reread, quoted-reread}
use Rattle.fw_check.proofs.reread.push_name.Goals as goal

pub returns-in-Plain : goal.returns-in-Plain
returns-in-Plain c =
    let source = c.args.text.now.source in
    let known = known_in c.args.lookups.now in
    let names = map (λ n. n.now) c.args.names.now.items in
    sym (append-nil names)
    ∙ ap (λ ns. names ++ ns) (sym (plain-reread known c.args.cut (span_bytes source c.in-Plain.field-0)) ∙ ap (λ p. reread_names known c.args.cut (part_atoms source p)) (sym c.in-Plain.is))

pub returns-in-Quoted : goal.returns-in-Quoted
returns-in-Quoted c =
    let source = c.args.text.now.source in
    let known = known_in c.args.lookups.now in
    let names = map (λ n. n.now) c.args.names.now.items in
    sym (append-nil names)
    ∙ ap (λ ns. names ++ ns) (sym (quoted-reread known c.args.cut (span_bytes source c.in-Quoted.field-0)) ∙ ap (λ p. reread_names known c.args.cut (part_atoms source p)) (sym c.in-Quoted.is))
