-- Fields as they are made, item by item, in one buffer.
use Rattle.std.specs.Prelude.{◌≡◌, ℕ, ◌+◌, ◌<◌, ◌≤◌, Bool, true, false, List, [], ◌∷◌, ◌++◌, drop, length, map, option_map, fold, sum, Option, Some, None, Result, Ok, Err}
use Rattle.hush_calc.specs.Fields.{pieces}
use Rattle.hush_commands.specs.Expansion.{Item, Byte, Split, Mark, size, cut_items}
use Rattle.hush_commands.specs.declared.expansion.ExpansionFault.{ExpansionFault}
use Rattle.hush_commands.specs.declared.expansion.ExpansionFault.TheVariants.{Word, Memory}

-- the fields that are done, and the one that is begun
pub record Made : Type 0 where
  pub done : List (List ℕ)
  pub begun : Option (List ℕ)

-- fields that are all done
abbrev pub whole : List (List ℕ) → Made
whole done = record { done = done; begun = None }

abbrev pub opened : Option (List ℕ) → List ℕ
opened None = []
opened (Some f) = f

abbrev pub closed : Option (List ℕ) → List (List ℕ)
closed None = []
closed (Some f) = f ∷ []

-- the field that is begun has these bytes too; one begins if none is begun
abbrev pub with_bytes : Made → List ℕ → Made
with_bytes m bs = record { done = m.done; begun = Some (opened m.begun ++ bs) }

-- the field that is begun is done
abbrev pub ended : Made → Made
ended m = whole (m.done ++ closed m.begun)

abbrev pub with_item : Made → Item → Made
with_item m (Byte b) = with_bytes m (b ∷ [])
with_item m (Split b) = ended m
with_item m Mark = with_bytes m []

abbrev pub with_items : Made → List Item → Made
with_items m is = fold with_item m is

-- how it lies in memory
abbrev pub begun_at : Bool → List ℕ → Option (List ℕ)
begun_at true bytes = Some bytes
begun_at false bytes = None

abbrev pub made : List ℕ → List ℕ → ℕ → Bool → Made
made bytes lengths start begun = record { done = pieces bytes lengths; begun = begun_at begun (drop start bytes) }

abbrev pub Rests : Bool → ℕ → List ℕ → Type 0
Rests true start bytes = start ≤ length bytes
Rests false start bytes = start ≡ length bytes

abbrev pub IsBuffer : List ℕ → List ℕ → ℕ → Bool → Type 0
IsBuffer bytes lengths start begun = (sum lengths ≡ start) × Rests begun start bytes

-- the items of a word that isn't cut: a splitting blank is the byte that it was
abbrev pub joined : Item → Item
joined (Byte b) = Byte b
joined (Split b) = Byte b
joined Mark = Mark

abbrev pub kept : (uncut : Bool) → List Item → List Item
kept true is = map joined is
kept false is = is

-- the text is what is before the first byte that it is cut at, that byte, and what is after it
pub record CutsAt (cuts : ℕ → Bool) (text front back : List ℕ) : Type 0 where
  pub blank : ℕ
  pub items : cut_items cuts text ≡ map Byte front ++ Split blank ∷ cut_items cuts back
  pub shorter : length back < length text

-- items are appended to a buffer, when a word may have this many more: how many it may have then
abbrev pub AddsItems : List Item → ℕ → Made → Made → Result ℕ ExpansionFault → Type 0
AddsItems is left old new (Ok rest) = (left ≡ size is + rest) × (new ≡ with_items old is)
AddsItems is left old new (Err Word) = left < size is
AddsItems is left old new (Err Memory) = Unit {0}

-- the same of a part, which takes memory only if it is within the limit
abbrev pub AddsPart : List Item → ℕ → Made → Made → Result ℕ ExpansionFault → Type 0
AddsPart is left old new (Ok rest) = (left ≡ size is + rest) × (new ≡ with_items old is)
AddsPart is left old new (Err Word) = left < size is
AddsPart is left old new (Err Memory) = size is ≤ left

-- what an expansion leaves: the fields that are wanted, or why there are none
abbrev pub Expands : Option (List (List ℕ)) → Made → Result (Unit {0}) ExpansionFault → Type 0
Expands wanted new (Ok u) = option_map whole wanted ≡ Some new
Expands wanted new (Err Word) = wanted ≡ None
Expands wanted new (Err Memory) = Unit {0}

-- the fields that are left after the first `done`, whose bytes end at `start`
abbrev pub left_of : (bytes lengths : List ℕ) → (start done : ℕ) → List (List ℕ)
left_of bytes lengths start done = pieces (drop start bytes) (drop done lengths)
