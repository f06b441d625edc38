use Rattle.fw_engines.specs.declared.tool_texts.TheConstants.{CANNOT_EXPORT, QUOTE}
use Rattle.fw_engines.proofs.WriteLemmas.{three_more}
use Rattle.fw_engines.proofs.text_form.add_message.Goals as goal

pub returns : goal.returns
returns c = three_more c.args.messages.now.items _ _ _ CANNOT_EXPORT.now c.args.name.now QUOTE.now c.in_ok-extend_from_slice.ensures.items c.in_ok-extend_from_slice-2.ensures.items c.in_ok-extend_from_slice-3.ensures.items
