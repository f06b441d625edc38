use Rattle.std.proofs.Common.{ℕ, List, [], refl, subst}
use Rattle.std.proofs.KnownBytes.{Appends-nil}
use Rattle.fw_engines.specs.Streams.{AppendsFront}
use Rattle.fw_files.specs.Locks.{waiting_line}
use Rattle.fw_files.proofs.SaidLemmas.{front_written, waiting_text}
use Rattle.fw_files.proofs.waiting.wait_for_lock.Goals as goal

pub returns-in-Locked : goal.returns-in-Locked
returns-in-Locked g c = ([], waiting_line c.args.path.now, refl, Appends-nil _)

pub returns-in-Failed : goal.returns-in-Failed
returns-in-Failed g c = ([], waiting_line c.args.path.now, refl, Appends-nil _)

pub returns-in-Held : goal.returns-in-Held
returns-in-Held g c =
    subst (λ (p : List ℕ). AppendsFront (g.E.Write.contents c.args.errors.now) (g.E.Write.contents c.write_three.new.writer) (waiting_line p)) c.as_bytes.ensures.value
    (subst (λ (t : List ℕ). AppendsFront (g.E.Write.contents c.args.errors.now) (g.E.Write.contents c.write_three.new.writer) t) (waiting_text c.as_bytes.result.now)
    (front_written _ _ _ _ c.write_three.ensures))
