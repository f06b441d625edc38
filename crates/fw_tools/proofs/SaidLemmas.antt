-- Texts that are printed one after the other.
use Rattle.std.proofs.Common.{◌≡◌, [], ◌∷◌, ◌++◌, ℕ, List, Option, subst, sym}
use Rattle.std.proofs.KnownBytes.{Appends-nil, Appends-trans}
use Rattle.std.specs.Io.KnownBytes.{Appends}
use Rattle.fw_files.specs.Locks.{HasWaited, Waits, waiting_line}
use Rattle.fw_tools.specs.Said.{SaysSome}
use Rattle.fw_engines.specs.Streams.{AppendsFront}
use Rattle.fw_files.specs.Copies.{device_of}
use Rattle.fw_files.specs.declared.file_fault.FileFault.{FileFault}
use Rattle.fw_files.specs.declared.stop.Stop.{Stop}
use Rattle.fw_files.specs.declared.stop.Stop.TheVariants as stop
use Rattle.fw_tools.specs.FaultLines.{fault_line}
use Rattle.fw_tools.specs.HaltLines.{SaysHalt, SaysStop, bad_copy_line, lock_line, no_good_copy_line}
use Rattle.fw_tools.specs.declared.explains.Explains.{Explains}
use Rattle.fw_tools.specs.declared.halt.Halt.{Halt}
use Rattle.fw_tools.specs.declared.halt.Halt.TheVariants as halt

pub said_then : (a b c : Option (List ℕ)) → SaysSome a b → SaysSome b c → SaysSome a c
said_then a b c p q = (p.0 ++ q.0, Appends-trans a b c p.0 q.0 p.1 q.1)

pub front_said : (a b : Option (List ℕ)) (text : List ℕ) → AppendsFront a b text → SaysSome a b
front_said a b text p = (p.0, p.3)

pub nothing_said : (a b : Option (List ℕ)) → b ≡ a → SaysSome a b
nothing_said a b same = ([], subst (λ n. Appends a n []) (sym same) (Appends-nil a))

pub waited_said : (a b : Option (List ℕ)) → HasWaited a b → SaysSome a b
waited_said a b p = all p.0 a p.1
  where
    all : (paths : List (List ℕ)) (x : Option (List ℕ)) → Waits paths x b → SaysSome x b
    all [] x w = nothing_said x b w
    all (path ∷ paths) x w = said_then x w.0 b (front_said x w.0 (waiting_line path) w.1) (all paths w.0 w.2)

-- the line of a fault is that of an equal one
pub line_of_same : (explains : Explains) (path : List ℕ) (f g : FileFault) (a b : Option (List ℕ)) → f ≡ g →
    AppendsFront a b (fault_line explains path g) → AppendsFront a b (fault_line explains path f)
line_of_same explains path f g a b e p = subst (λ h. AppendsFront a b (fault_line explains path h)) (sym e) p

-- ---- what ended before its work

pub stop_said : (explains : Explains) (s : Stop) (a b : Option (List ℕ)) → SaysStop explains s a b → SaysSome a b
stop_said explains stop.Memory a b p = front_said a b _ p
stop_said explains (stop.File path fault) a b p = front_said a b (fault_line explains path.now fault) p
stop_said explains (stop.Copy config fault) a b p = front_said a b (fault_line explains (device_of config fault.is_second) fault.fault) p
stop_said explains stop.Overlap a b p = front_said a b _ p
stop_said explains (stop.BadCopy is_second state) a b p = front_said a b (bad_copy_line is_second state) p
stop_said explains stop.NoSecondCopy a b p = front_said a b _ p
stop_said explains (stop.NoGoodCopy first second) a b p = front_said a b (no_good_copy_line first second) p
stop_said explains (stop.Defaults path fault warning) a b (warned, front, line) =
    said_then a warned b (front_said a warned warning.now front) (front_said warned b (fault_line explains path.now fault) line)
stop_said explains (stop.Misread line) a b p = front_said a b line.items p
stop_said explains (stop.NotLocked folder reason) a b p = front_said a b (lock_line folder.now reason) p

pub halt_said : (explains : Explains) (h : Halt) (a b : Option (List ℕ)) → SaysHalt explains h a b → SaysSome a b
halt_said explains (halt.Files s) a b p = stop_said explains s a b p
halt_said explains (halt.Script name text fault) a b p = front_said a b _ p
halt_said explains (halt.NoStandIn name back) a b p = front_said a b _ p
