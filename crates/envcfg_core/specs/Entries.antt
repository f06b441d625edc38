-- What the texts for import and the set scripts are read as: entries in the order of the text, or one fault.
use Rattle.std.specs.Prelude.{◌≡◌, ℕ, List, ◌∷◌, Option, option_map, Result, Ok, Err}
use Rattle.envcfg_core.specs.declared.entry.TextEntry.{TextEntry}
use Rattle.envcfg_core.specs.declared.entry.TextFault.{TextFault}
use Rattle.envcfg_core.specs.declared.entry.TextFault.TheVariants.{EmptyName, Nul, Memory}

-- a name with its value or no value, and the line in which the entry begins
pub record Entry : Type 0 where
  pub name : List ℕ
  pub value : Option (List ℕ)
  pub line : ℕ

-- the bytes of an entry
abbrev pub entry_view : TextEntry → Entry
entry_view e = record { name = e.name.items; value = option_map (λ v. v.items) e.value; line = e.line }

-- what a whole text is read as
abbrev pub Outcome : Type 0
Outcome = Result (List Entry) TextFault

-- an outcome with an entry before those that it has
abbrev pub with_first : Entry → Outcome → Outcome
with_first e (Ok entries) = Ok (e ∷ entries)
with_first e (Err fault) = Err fault

-- the fault is the definition's, or memory was refused
abbrev pub IsFaultOf : {A : Type 0} → Result A TextFault → TextFault → Type 0
IsFaultOf outcome (EmptyName line) = outcome ≡ Err (EmptyName line)
IsFaultOf outcome Nul = outcome ≡ Err Nul
IsFaultOf outcome Memory = Unit {0}
