-- The variables of a source as they are read line by line (docs/texts.md, "A source of U-Boot").
use Rattle.std.specs.Prelude.{◌≡◌, ℕ, ◌&&◌, not, Bool, true, false, if◌then◌else◌, List, [], ◌∷◌, ◌++◌, map, Option, Some, None, Vec, Result, Ok, Err, length, ◌==◌}
use Rattle.std.specs.declared.alloc.Global.{Global}
use Rattle.std.specs.declared.cmp.Ordering.{Ordering}
use Rattle.std.specs.Ordering.{is_eq, nat_cmp}
use Rattle.std.specs.Cmp.Lexicographic.{slice_cmp}
use Rattle.std.specs.Map.{lookup, remove_entry}
use Rattle.std.specs.BTreeMap.{insert_entry}
use Rattle.envcfg_core.specs.Entries.{Entry}
use Rattle.text_parts.specs.Bytes.{space}
use Rattle.env_source.specs.declared.source_fault.Flaw.{Flaw}
use Rattle.env_source.specs.declared.source_fault.Flaw.TheVariants as flaw
use Rattle.env_source.specs.declared.reading.Definition as definitions
use Rattle.env_source.specs.declared.reading.Reading as readings
use Rattle.env_source.specs.SourceLines.{LineOrFlaw, SourceLine, Skipped, GoesOn, Sets, Appends, is_empty}

-- a value, and the line in which its last definition begins
pub record Definition : Type 0 where
  pub line : ℕ
  pub value : List ℕ

-- names with their values, in the order of the names' bytes
abbrev pub Variables : Type 0
Variables = List (List ℕ × Definition)

abbrev pub name_order : List ℕ → List ℕ → Ordering
name_order = slice_cmp nat_cmp

abbrev pub is_called : List ℕ → List ℕ → Bool
is_called name other = is_eq (name_order name other)

-- the variables whose values have ended; the name of the one that is being read, empty before the first, and its value so
-- far; and whether the one before that had no value
pub record Reading : Type 0 where
  pub ended : Variables
  pub name : List ℕ
  pub current : Definition
  pub after_empty : Bool

abbrev pub nothing_read : Reading
nothing_read = record { ended = []; name = []; current = record { line = 0; value = [] }; after_empty = false }

-- a definition without a value changes nothing
abbrev pub with_definition : Variables → List ℕ → Definition → Variables
with_definition variables name definition =
    if is_empty definition.value then variables else insert_entry name_order variables name definition

-- with the one that is being read
abbrev pub with_current : Reading → Variables
with_current r = with_definition r.ended r.name r.current

-- a variable begins in this line
abbrev pub begun : Reading → Variables → ℕ → (name value : List ℕ) → Reading
begun r ended line name value =
    record { ended = ended; name = name; current = record { line = line; value = value }; after_empty = is_empty r.current.value }

abbrev pub set_in : Reading → ℕ → (name value : List ℕ) → Reading
set_in r line name value = begun r (with_current r) line name value

-- the value so far
abbrev pub so_far : Option Definition → List ℕ
so_far None = []
so_far (Some definition) = definition.value

-- what the variable has so far is taken up again
abbrev pub taken_up : Reading → Variables → ℕ → (name value : List ℕ) → Reading
taken_up r ended line name value =
    begun r (remove_entry (is_called name) ended) line name (so_far (lookup (is_called name) ended) ++ value)

abbrev pub appended_in : Reading → ℕ → (name value : List ℕ) → Reading
appended_in r line name value = taken_up r (with_current r) line name value

-- a value goes on with a space, unless nothing is before that
abbrev pub gone_on : (value text : List ℕ) → List ℕ
gone_on value text = if is_empty value then text else value ++ space ∷ text

abbrev pub ReadingOrFlaw : Type 0
ReadingOrFlaw = Result Reading Flaw

abbrev pub going_on : Reading → List ℕ → ReadingOrFlaw
going_on r text =
    if is_empty r.name then Err flaw.NoVariable
    else Ok (record r { current = record { line = r.current.line; value = gone_on r.current.value text } })

-- what was read, and what this line says
abbrev pub told : Reading → ℕ → SourceLine → ReadingOrFlaw
told r number Skipped = Ok r
told r number (GoesOn text) = going_on r text
told r number (Sets name value) = Ok (set_in r number name value)
told r number (Appends name value) = Ok (appended_in r number name value)

abbrev pub with_said : Reading → ℕ → LineOrFlaw → ReadingOrFlaw
with_said r number (Err flaw) = Err flaw
with_said r number (Ok line) = told r number line

-- U-Boot's build makes nothing at all of a text at whose end two variables have no value
abbrev pub is_lost : Reading → Bool
is_lost r = is_empty r.current.value && (r.after_empty && not (length r.ended == 0))

-- the entries of variables
abbrev pub entry_of : List ℕ × Definition → Entry
entry_of v = record { name = v.0; value = Some v.1.value; line = v.1.line }

abbrev pub entries_of : Variables → List Entry
entries_of variables = map entry_of variables

-- the code's variables, in this form
abbrev pub definition_view : definitions.Definition → Definition
definition_view d = record { line = d.line; value = d.value.items }

abbrev pub variable_view : Vec ℕ Global × definitions.Definition → List ℕ × Definition
variable_view e = (e.0.items, definition_view e.1)

abbrev pub variables_view : List (Vec ℕ Global × definitions.Definition) → Variables
variables_view es = map variable_view es

-- the code's table with one more definition
abbrev pub Defines : (old new : List (Vec ℕ Global × definitions.Definition)) → Vec ℕ Global → definitions.Definition → Type 0
Defines old new name definition = variables_view new ≡ with_definition (variables_view old) name.items (definition_view definition)

-- and without a name
abbrev pub LeavesOut : (old new : List (Vec ℕ Global × definitions.Definition)) → List ℕ → Type 0
LeavesOut old new name = variables_view new ≡ remove_entry (is_called name) (variables_view old)

abbrev pub reading_view : readings.Reading → Reading
reading_view r = record {
  ended = variables_view r.ended.entries;
  name = r.name.items;
  current = definition_view r.current;
  after_empty = r.after_empty;
}
