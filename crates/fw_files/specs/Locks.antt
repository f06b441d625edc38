-- What is printed while locks are waited for (docs/tools.md, "Other programs").
use Rattle.std.specs.Prelude.{◌≡◌, ◌⊎◌, ℕ, List, [], ◌∷◌, ◌++◌, Option, codes, ⊤}
use Rattle.fw_arguments.specs.Calls.{In, LockFiles, Nothing}
use Rattle.fw_engines.specs.Streams.{AppendsFront}
use Rattle.fw_files.specs.declared.stop.Stop.{Stop}
use Rattle.fw_files.specs.declared.stop.Stop.TheVariants.{Memory, NotLocked}

-- the line about a file whose lock another program has
abbrev pub waiting_line : List ℕ → List ℕ
waiting_line path = codes "fwenv: waiting for " ++ path ++ codes ", which another program has locked" ++ 10 ∷ []

-- the lines about these files, each as far as standard error takes it, or not at all
abbrev pub Waits : (paths : List (List ℕ)) → Option (List ℕ) → Option (List ℕ) → Type 0
Waits [] old new = new ≡ old
Waits (path ∷ paths) old new = (between : Option (List ℕ)) × AppendsFront old between (waiting_line path) × Waits paths between new

-- nothing else was printed
abbrev pub HasWaited : Option (List ℕ) → Option (List ℕ) → Type 0
HasWaited old new = (paths : List (List ℕ)) × Waits paths old new

-- a call locks a lock file in this folder
abbrev pub IsLockFolder : LockFiles → (folder : List ℕ) → Type 0
IsLockFolder Nothing folder = ⊥
IsLockFolder (In given) folder = folder ≡ given
IsLockFolder other folder = (folder ≡ codes "/run") ⊎ (folder ≡ codes "/var/lock")

-- why the lock files of a call can't be locked
abbrev pub IsLockStop : LockFiles → Stop → Type 0
IsLockStop files Memory = ⊤
IsLockStop files (NotLocked folder reason) = IsLockFolder files folder.now
IsLockStop files stop = ⊥
