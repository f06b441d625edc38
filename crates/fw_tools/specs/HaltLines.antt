-- What is printed of a subcommand that ended before its work (docs/tools.md, "Subcommands over files").
use Rattle.std.specs.Prelude.{◌≡◌, ℕ, Bool, true, false, List, [], ◌∷◌, ◌++◌, Option, Some, None, codes}
use Rattle.std.specs.List.{concat}
use Rattle.envimg_core.specs.declared.state.CopyState.{CopyState}
use Rattle.envimg_core.specs.declared.state.CopyState.TheVariants.{Unterminated}
use Rattle.fw_engines.specs.ScriptFaults as scripts
use Rattle.fw_engines.specs.Streams.{AppendsFront}
use Rattle.fw_engines.specs.declared.tool_end.StreamFault.TheVariants as stream
use Rattle.fw_files.specs.Copies.{device_of}
use Rattle.fw_files.specs.declared.file_fault.FileFault.{FileFault}
use Rattle.fw_files.specs.declared.reasons.Reason.{Reason}
use Rattle.fw_files.specs.declared.stop.Stop.{Stop}
use Rattle.fw_files.specs.declared.stop.Stop.TheVariants as stop
use Rattle.fw_tools.specs.FaultLines.{ending, fault_line}
use Rattle.fw_tools.specs.Said.{message_of}
use Rattle.fw_tools.specs.declared.explains.Explains.{Explains}
use Rattle.fw_tools.specs.declared.explains.Explains.TheVariants as line
use Rattle.fw_tools.specs.declared.halt.Halt.{Halt}
use Rattle.fw_tools.specs.declared.halt.Halt.TheVariants as halt

-- the file at this path has this fault
abbrev pub IsAt : (path : List ℕ) → FileFault → Halt → Type 0
IsAt path fault (halt.Files (stop.File other given)) = (other.now ≡ path) × (given ≡ fault)
IsAt path fault halt = ⊥

-- what is wrong with a copy, in words
abbrev pub fault_of_copy : CopyState → List ℕ
fault_of_copy Unterminated = codes "list of entries isn't ended"
fault_of_copy state = codes "checksum is wrong"

-- the line about a copy that is asked for
abbrev pub bad_copy_line : (is_second : Bool) → CopyState → List ℕ
bad_copy_line true state = codes "fwenv: the second copy isn't good: " ++ fault_of_copy state ++ 10 ∷ []
bad_copy_line false state = codes "fwenv: the first copy isn't good: " ++ fault_of_copy state ++ 10 ∷ []

-- and about all copies, if one has to be good
abbrev pub look_at : List ℕ
look_at = codes "; look at the size and the number of lines in the configuration, and at the byte order (--big-endian)\n"

abbrev pub no_good_copies_line : (first second end : List ℕ) → List ℕ
no_good_copies_line first second end =
    concat (codes "fwenv: no good copy: " ∷ first ∷ codes " in the first copy, " ∷ second ∷ codes " in the second" ∷ end ∷ [])

abbrev pub no_good_copy_line : CopyState → Option CopyState → List ℕ
no_good_copy_line first None = concat (codes "fwenv: no good copy: " ∷ fault_of_copy first ∷ look_at ∷ [])
no_good_copy_line first (Some second) = no_good_copies_line (fault_of_copy first) (fault_of_copy second) look_at

-- and about the lock file in a folder
abbrev pub lock_file_line : (folder end : List ℕ) → List ℕ
lock_file_line folder end = concat (codes "fwenv: cannot lock " ∷ folder ∷ codes "/fw_printenv.lock" ∷ end ∷ [])

abbrev pub lock_line : (folder : List ℕ) → Reason → List ℕ
lock_line folder reason = lock_file_line folder (ending line.Reason reason)

-- what is printed, as far as standard error takes it
abbrev pub SaysStop : Explains → Stop → Option (List ℕ) → Option (List ℕ) → Type 0
SaysStop explains stop.Memory old new = AppendsFront old new (message_of stream.Memory)
SaysStop explains (stop.File path fault) old new = AppendsFront old new (fault_line explains path.now fault)
SaysStop explains (stop.Copy config fault) old new =
    AppendsFront old new (fault_line explains (device_of config fault.is_second) fault.fault)
SaysStop explains stop.Overlap old new = AppendsFront old new (codes "fwenv: copies overlap\n")
SaysStop explains (stop.BadCopy is_second state) old new = AppendsFront old new (bad_copy_line is_second state)
SaysStop explains stop.NoSecondCopy old new = AppendsFront old new (codes "fwenv: there is no second copy\n")
SaysStop explains (stop.NoGoodCopy first second) old new = AppendsFront old new (no_good_copy_line first second)
SaysStop explains (stop.Defaults path fault warning) old new =
    (warned : Option (List ℕ)) × AppendsFront old warned warning.now
    × AppendsFront warned new (fault_line explains path.now fault)
SaysStop explains (stop.Misread line) old new = AppendsFront old new line.items
SaysStop explains (stop.NotLocked folder reason) old new = AppendsFront old new (lock_line folder.now reason)

abbrev pub SaysHalt : Explains → Halt → Option (List ℕ) → Option (List ℕ) → Type 0
SaysHalt explains (halt.Files stop) old new = SaysStop explains stop old new
SaysHalt explains (halt.Script name text fault) old new = AppendsFront old new (scripts.fault_line name.now text.items fault.place fault.kind)
SaysHalt explains (halt.NoStandIn name back) old new = AppendsFront old new (codes "error: invalid value '" ++ name.now ++ back.now)
