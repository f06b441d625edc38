use Rattle.fw_session.proofs.HandlingLemmas.{handled_none, byte_waits, byte_ends, line_handled, line_cut_short}
use Rattle.fw_session.proofs.input.handle_byte.Goals as goal

pub returns-in-Err-clause-handles : goal.returns-in-Err-clause-handles
returns-in-Err-clause-handles g c = (c.args.talk.now.bytes.items, c.args.talk.now.start, c.requires, handled_none _ _ _ _ _)

pub returns-then-byte-ne10-clause-handles : goal.returns-then-byte-ne10-clause-handles
returns-then-byte-ne10-clause-handles g c = byte_waits _ _ _ c.args.talk.now.start c.args.byte _ _ _ c.requires c.if-byte-ne10.true c.in-Ok.ensures.items

pub handle_line-requires : goal.handle_line-requires
handle_line-requires g c = byte_ends _ _ _ c.args.byte c.requires c.if-byte-ne10.false c.in-Ok.ensures.items

pub returns-then-handle_line-clause-handles : goal.returns-then-handle_line-clause-handles
returns-then-handle_line-clause-handles g c = let h = c.if-handle_line.ensures.handles in (h.0, line_handled _ _ _ _ c.args.byte _ _ _ _ _ _ c.in-Ok.ensures.items h.1)

pub returns-else-handle_line-clause-handles : goal.returns-else-handle_line-clause-handles
returns-else-handle_line-clause-handles g c = line_cut_short _ _ _ c.args.byte _ _ _ _ _ _ c.in-Ok.ensures.items c.if-handle_line.ensures.handles
