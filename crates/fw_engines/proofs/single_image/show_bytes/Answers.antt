use Rattle.std.proofs.Common.{refl, sym, ◌∙◌}
use Rattle.envimg_core.specs.declared.state.CopyState.TheVariants.{BadLength, BadCrc, Unterminated}
use Rattle.fw_engines.specs.declared.tool_texts.TheConstants.{BAD_LENGTH, BAD_CHECKSUM, UNTERMINATED}
use Rattle.fw_engines.proofs.ShowLemmas.{shown_good_slice, shown_bad}
use Rattle.fw_engines.proofs.single_image.show_bytes.Goals as goal

pub returns-in-Good-clause-printed : goal.returns-in-Good-clause-printed
returns-in-Good-clause-printed g c =
    shown_good_slice c.args.order c.args.bytes.now c.in-Good.field-0 _ _ _ c.list.result (sym c.image_state.ensures ∙ c.in-Good.is) c.list.ensures

pub returns-in-BadLength-clause-printed : goal.returns-in-BadLength-clause-printed
returns-in-BadLength-clause-printed g c =
    shown_bad c.args.order c.args.bytes.now BAD_LENGTH.now BadLength _ _ _ c.print_text.result (sym c.image_state.ensures ∙ c.in-BadLength.is) refl c.print_text.ensures

pub returns-in-BadCrc-clause-printed : goal.returns-in-BadCrc-clause-printed
returns-in-BadCrc-clause-printed g c =
    shown_bad c.args.order c.args.bytes.now BAD_CHECKSUM.now BadCrc _ _ _ c.print_text-in-BadCrc.result (sym c.image_state.ensures ∙ c.in-BadCrc.is) refl c.print_text-in-BadCrc.ensures

pub returns-in-Unterminated-clause-printed : goal.returns-in-Unterminated-clause-printed
returns-in-Unterminated-clause-printed g c =
    shown_bad c.args.order c.args.bytes.now UNTERMINATED.now Unterminated _ _ _ c.print_text-in-Unterminated.result (sym c.image_state.ensures ∙ c.in-Unterminated.is) refl c.print_text-in-Unterminated.ensures
