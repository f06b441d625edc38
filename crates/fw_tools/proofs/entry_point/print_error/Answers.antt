use Rattle.std.proofs.Common.{◌≡◌, true, inr, refl, subst}
use Rattle.fw_engines.specs.Streams.{AppendsFront}
use Rattle.fw_tools.proofs.HelpLemmas.{helped}
use Rattle.fw_tools.proofs.entry_point.print_error.Goals as goal

pub returns-then-not-write_text-clause-answers : goal.returns-then-not-write_text-clause-answers
returns-then-not-write_text-clause-answers g c =
    let said = subst (AppendsFront _ _) c.message_of.ensures c.say-then-not-write_text.ensures in
    inr (helped _ _ _ _ _ (λ others. let yes : c.use_stderr.result ≡ true = c.use_stderr.ensures.1 others in let no = c.if-use_stderr.false in cc)
    (c.as_bytes-2.result.now, inr (c.if-not-write_text.ensures, said, refl)))
