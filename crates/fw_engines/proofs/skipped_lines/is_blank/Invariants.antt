use Rattle.std.proofs.Common.{◌≡◌, drop}
use Rattle.std.specs.List.{list_all}
use Rattle.envcfg_core.specs.Config.{is_space}
use Rattle.fw_engines.proofs.skipped_lines.is_blank.Given as goal

abbrev pub invariant-loop-byte : goal.invariant-loop-byte
invariant-loop-byte l = list_all is_space (drop l.byte-index l.line) ≡ list_all is_space l.line
