-- What a script is told as, and where its bytes are (docs/check.md, "Formats").
use Rattle.std.specs.Prelude.{◌≡◌, ℕ, Bool, true, false, List, Option, Some, None}
use Rattle.finding_kinds.specs.declared.choice.Format.{Format}
use Rattle.finding_kinds.specs.declared.choice.Format.TheVariants as format
use Rattle.fw_engines.specs.TextPlaces.{place_of}
use Rattle.fw_engines.specs.declared.text_places.Place.{Place}
use Rattle.fw_check.specs.EntryPlaces.{EntryText, EnvironmentText, entry_of, place_in_entry, text_view}
use Rattle.fw_check.specs.Lines.{Entry, File, Subject, Variable, Whole, subject_view}
use Rattle.fw_check.specs.declared.origins.Origin as origins
use Rattle.fw_check.specs.declared.origins.Origin.TheVariants as code

-- a text of its own, or the entry of this name in an environment's text
pub data Origin : Type 0 where
  Own : Subject → Origin
  Within : EnvironmentText → (name : List ℕ) → Origin

abbrev pub subject_of : Origin → Subject
subject_of (Own subject) = subject
subject_of (Within t name) = Entry t.path name

-- the script of a variable, which a board loads with its environment
abbrev pub is_stored : Origin → Bool
is_stored (Own (File path)) = false
is_stored (Own (Variable name)) = true
is_stored (Own (Entry path name)) = true
is_stored (Own Whole) = false
is_stored (Within t name) = true

-- the place after `count` bytes of a script with this text
abbrev pub place_in : Origin → (text : List ℕ) → (count : ℕ) → Place
place_in (Own subject) text count = place_of text count
place_in (Within t name) text count = place_in_entry (entry_of t name) count

-- the place of a whole value, if it is one in a file
abbrev pub value_place : Origin → Option Place
value_place (Own subject) = None
value_place (Within t name) = Some (place_in_entry (entry_of t name) 0)

-- a variable is told by its name in a text, and else by its place in the environment's text, if there is one
abbrev pub origin_of : Format → Option EnvironmentText → (name : List ℕ) → Origin
origin_of f None name = Own (Variable name)
origin_of format.Text (Some t) name = Own (Variable name)
origin_of f (Some t) name = Within t name

-- the code's origin, in this form
abbrev pub origin_view : origins.Origin → Origin
origin_view (code.Own subject) = Own (subject_view subject)
origin_view (code.Within t name) = Within (text_view t) name.now

-- the places are those in the value of its entry
abbrev pub IsEntryOf : Origin → EntryText → Type 0
IsEntryOf (Own subject) entry = ⊥
IsEntryOf (Within t name) entry = entry ≡ entry_of t name
