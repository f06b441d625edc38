-- What is told of blocks that aren't scripts (docs/dry-runs.md, "What is printed").
use Rattle.std.specs.Prelude.{◌≡◌, ℕ, List, ◌++◌, codes, Option, Some, None}
use Rattle.std.specs.Io.KnownBytes.{Appends}
use Rattle.std.specs.List.{AllByRecursion, concat}
use Rattle.hush_syntax.specs.Halts.{fault_in}
use Rattle.hush_syntax.specs.Reading.{read_in}
use Rattle.hush_syntax.specs.declared.nodes.Bodies.{Bodies}
use Rattle.hush_syntax.specs.declared.syntax_fault.SyntaxFault.{SyntaxFault}
use Rattle.fw_engines.specs.ScriptFaults.{fault_line}

-- a front of the line that tells where and why a text isn't a script
pub record IsFaultFront (bodies : Bodies) (front : List ℕ) : Type 0 where
  pub text : List ℕ
  pub fault : SyntaxFault
  pub rest : List ℕ
  pub unread : read_in bodies text ≡ None
  pub exact : fault_in bodies text ≡ Some fault
  pub line : fault_line (codes "block") text fault.place fault.kind ≡ front ++ rest

-- such lines were written, each as far as the writer took it, and nothing else
abbrev pub Tells : Bodies → Option (List ℕ) → Option (List ℕ) → Type 0
Tells bodies old new = (fronts : List (List ℕ)) × AllByRecursion (IsFaultFront bodies) fronts × Appends old new (concat fronts)

-- what the writer holds, if there is one and that is known
abbrev pub held_by : {F : Type 0} → (F → Option (List ℕ)) → Option F → Option (List ℕ)
held_by contents None = None
held_by contents (Some writer) = contents writer

abbrev pub TellsFaults : {F : Type 0} → Bodies → (F → Option (List ℕ)) → Option F → Option F → Type 0
TellsFaults bodies contents old new = Tells bodies (held_by contents old) (held_by contents new)
