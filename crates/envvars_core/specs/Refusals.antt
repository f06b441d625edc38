-- Which writes are refused, and what an accepted one leaves (docs/variables.md, "The checks of a write").
use Rattle.std.specs.Prelude.{ℕ, ◌≤◌, ◌++◌, IfSome, IsTrue, ◌&&◌, Bool, true, false, not, List, codes, Option, Some, None, Result, Ok, Err, is_none, nat_lt, if◌then◌else◌}
use Rattle.std.specs.List.{list_any}
use Rattle.std.specs.Option.{option_and_then, option_or}
use Rattle.std.specs.Str.{bytes_eq}
use Rattle.std.specs.FinMap.{get}
use Rattle.envimg_core.specs.Environment.{Environment, used, is_name, is_value, is_zero}
use Rattle.envimg_core.specs.Pieces.{value_of, with_value}
use Rattle.envvars_core.specs.Types.{has_type}
use Rattle.envvars_core.specs.Attributes.{attributes}
use Rattle.envvars_core.specs.declared.types.Kind.{Kind}
use Rattle.envvars_core.specs.declared.attributes.Access.{Access}
use Rattle.envvars_core.specs.declared.attributes.Access.TheVariants.{Any, ReadOnly, WriteOnce, ChangeDefault}
use Rattle.envvars_core.specs.declared.refusals.Refusal.{Refusal}
use Rattle.envvars_core.specs.declared.refusals.Refusal.TheVariants.{BadForm, BadType, NoCreate, NoDelete, NoOverwrite, Full, Memory}

-- a value as it is written: an empty one is no value
abbrev pub given : Option (List ℕ) → Option (List ℕ)
given new = option_and_then value_of new

abbrev pub holds_no_zero : Option (List ℕ) → Bool
holds_no_zero None = true
holds_no_zero (Some v) = not (list_any is_zero v)

-- an absent value has every type
abbrev pub has_type_if_some : Kind → Option (List ℕ) → Bool
has_type_if_some kind None = true
has_type_if_some kind (Some v) = has_type kind v

-- whether a default is there and is this value
abbrev pub is_value_of : List ℕ → Option (List ℕ) → Bool
is_value_of v None = false
is_value_of v (Some d) = bytes_eq v d

-- what an access refuses: to create, to delete, to overwrite. The values are the old one, that of the default
-- environment and the new one
abbrev pub access_refusal : Access → Option (List ℕ) → Option (List ℕ) → Option (List ℕ) → Option Refusal
access_refusal Any old default new = None
access_refusal ReadOnly None default None = None
access_refusal ReadOnly None default (Some v) = Some NoCreate
access_refusal ReadOnly (Some o) default None = Some NoDelete
access_refusal ReadOnly (Some o) default (Some v) = Some NoOverwrite
access_refusal WriteOnce None default new = None
access_refusal WriteOnce (Some o) default None = Some NoDelete
access_refusal WriteOnce (Some o) default (Some v) = Some NoOverwrite
access_refusal ChangeDefault None default new = None
access_refusal ChangeDefault (Some o) default None = Some NoDelete
access_refusal ChangeDefault (Some o) default (Some v) = if is_value_of o default then None else Some NoOverwrite

-- the environment after a write
abbrev pub after : Environment → List ℕ → Option (List ℕ) → Environment
after env n new = with_value env n (given new)

-- what the checks found, in their order: the first that applies refuses the write
-- (`formed`: name and value have their forms; `nothing`: there is no variable, and none is made;
-- `typed`: the value has the type)
abbrev pub first_refusal : Bool → Bool → Bool → Option Refusal → Option Refusal → Option Refusal
first_refusal formed nothing typed forbidden full =
    if not formed then Some BadForm
    else if nothing then None
    else if not typed then Some BadType
    else option_or forbidden full

-- what the access refuses, unless the write is forced
abbrev pub forbidden : Bool → Access → Option (List ℕ) → Option (List ℕ) → Option (List ℕ) → Option Refusal
forbidden force access old default new = if force then None else access_refusal access old default new

-- what the size refuses
abbrev pub full : ℕ → Environment → Option Refusal
full room env = if nat_lt room (used env) then Some Full else None

-- the refusal of a write into an environment whose data area has this room. An empty new value is no value.
unfoldable pub refusal : Environment → Environment → ℕ → List ℕ → Option (List ℕ) → Bool → Option Refusal
refusal env defaults room n new force =
    first_refusal
    (is_name n && holds_no_zero new)
    (is_none (get env n) && is_none (given new))
    (has_type_if_some (attributes env n).kind (given new))
    (forbidden force (attributes env n).access (get env n) (get defaults n) (given new))
    (full room (after env n new))

-- a check's answer: the refusal, if there is one
abbrev pub answer_of : Option Refusal → Result (Unit {0}) Refusal
answer_of None = Ok tt
answer_of (Some r) = Err r

-- what a write without a refusal has: name and value have their forms, and the room holds what it leaves
pub record IsAccepted (env : Environment) (room : ℕ) (n : List ℕ) (new : Option (List ℕ)) : Type 0 where
  pub named : IsTrue (is_name n)
  pub valued : IfSome (given new) (λ v. IsTrue (is_value v))
  pub fits : used (after env n new) ≤ room

-- what a refusal's text has before the name that was to be written
abbrev pub before_name : Refusal → List ℕ
before_name BadForm = codes "## Error: bad name or value for \""
before_name BadType = codes "## Error: type check failure for \""
before_name NoCreate = codes "## Error: Can't create \""
before_name NoDelete = codes "## Error: Can't delete \""
before_name NoOverwrite = codes "## Error: Can't overwrite \""
before_name Full = codes "## Error: no room for \""
before_name Memory = codes "## Error: out of memory for \""

-- what it has after the name
abbrev pub after_name : Refusal → List ℕ
after_name r = codes "\"\n"

-- the text about a refused write of a name
abbrev pub refusal_text : Refusal → List ℕ → List ℕ
refusal_text r name = before_name r ++ (name ++ after_name r)
