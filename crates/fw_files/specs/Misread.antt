-- What writes copies spares those that are good in another way (docs/tools.md, "A good copy is not written over").
use Rattle.std.specs.Prelude.{◌≡◌, ℕ, Bool, true, false, List, ◌++◌, Option, Some, None, ⊤}
use Rattle.envimg_core.specs.Geometry.{Shape}
use Rattle.envimg_core.specs.declared.choice.Choice.{Choice}
use Rattle.envimg_core.specs.declared.choice.Choice.TheVariants.{First, Second, Neither}
use Rattle.fw_engines.specs.Misread.{misread}
use Rattle.fw_files.specs.declared.stop.Stop.{Stop}
use Rattle.fw_files.specs.declared.stop.Stop.TheVariants.{Memory, Misread}

-- what a device holds from a copy's place on: the copy, and what follows it
abbrev pub IsContinued : (copy : List ℕ) → (found : List ℕ) → Type 0
IsContinued copy found = (rest : List ℕ) × (found ≡ copy ++ rest)

abbrev pub IsSecondContinued : (copy : Option (List ℕ)) → (found : Option (List ℕ)) → Type 0
IsSecondContinued None found = found ≡ None
IsSecondContinued (Some copy) found = (rest : List ℕ) × (found ≡ Some (copy ++ rest))

-- the line, if there is one, that refuses to write over these copies, with what follows them in their devices
abbrev pub IsMisread : Shape → (first : List ℕ) → (second : Option (List ℕ)) → (line : Option (List ℕ)) → Type 0
IsMisread shape first second line =
    (found : List ℕ) × (found_second : Option (List ℕ)) × IsContinued first found × IsSecondContinued second found_second
    × (misread shape found found_second ≡ line)

-- why these copies are not written over: by that line, or memory ran out
abbrev pub IsMisreadStop : Shape → (first : List ℕ) → (second : Option (List ℕ)) → Stop → Type 0
IsMisreadStop shape first second (Misread line) = IsMisread shape first second (Some line.items)
IsMisreadStop shape first second Memory = ⊤
IsMisreadStop shape first second stop = ⊥

-- if copies are to be spared and none is good, none is good in another way
abbrev pub Spares : Choice → Bool → Shape → (first : List ℕ) → (second : Option (List ℕ)) → Type 0
Spares First spares shape first second = Unit {0}
Spares Second spares shape first second = Unit {0}
Spares Neither false shape first second = Unit {0}
Spares Neither true shape first second = IsMisread shape first second None
