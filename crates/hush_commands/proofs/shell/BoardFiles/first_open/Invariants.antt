use Rattle.std.proofs.Common.{◌≡◌, length}
use Rattle.hush_commands.specs.Hardware.{hardware, open_file}
use Rattle.hush_commands.proofs.shell.BoardFiles.first_open.Given as goal

abbrev pub invariant-loop-word : goal.invariant-loop-word
invariant-loop-word l =
    (l.here ≡ l.rest) × (open_file (hardware l.self.board.now l.self.stand_ins.now) l.rest ≡ open_file (hardware l.self.board.now l.self.stand_ins.now) l.words)

abbrev pub decreases-loop-word : goal.decreases-loop-word
decreases-loop-word l = length l.rest
