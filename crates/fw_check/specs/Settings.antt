-- What is around a command of a script, and whether its status is asked for (docs/check.md, "Statuses").
use Rattle.std.specs.Prelude.{ℕ, ◌==◌, ◌&&◌, ◌||◌, Bool, true, false, List, [], ◌∷◌, Option, Some, None, if◌then◌else◌}
use Rattle.hush_syntax.specs.declared.nodes.Operator.{Operator}
use Rattle.hush_syntax.specs.declared.nodes.Operator.TheVariants.{And, Or}
use Rattle.fw_check.specs.declared.settings.Setting.{Setting}

-- nothing but whether the status is asked for
abbrev pub plain : (asked : Bool) → Setting
plain asked = record { mixes = false; branchless = false; loops = false; begins = false; asked = asked }

-- of the first command of a text, or of the body of a `for`
abbrev pub beginning : (asked : Bool) → Setting
beginning asked = record { mixes = false; branchless = false; loops = false; begins = true; asked = asked }

abbrev pub ending : Setting → (asked : Bool) → Setting
ending s asked = record s { asked = asked }

-- what is told of the whole is told of its first part
abbrev pub own_of : Setting → (first : Bool) → Setting
own_of s first = if first then s else plain s.asked

-- in a list the status of a chain before another is asked for if the text shows one
abbrev pub in_list : (shows : Bool) → Setting → (first last : Bool) → Setting
in_list shows s first last = if last then own_of s first else ending (own_of s first) shows

abbrev pub is_and : Option Operator → Bool
is_and None = false
is_and (Some And) = true
is_and (Some Or) = false

abbrev pub is_or : Option Operator → Bool
is_or None = false
is_or (Some And) = false
is_or (Some Or) = true

abbrev pub differ : Option Operator → Option Operator → Bool
differ None o = false
differ (Some And) o = is_or o
differ (Some Or) o = is_and o

abbrev pub mixed : Setting → (differs : Bool) → Setting
mixed s differs = if differs then record s { mixes = true } else s

-- in a chain the status of each command before another is asked for; one mixes if its operator isn't the first one
abbrev pub in_chain : Setting → (first_operator operator : Option Operator) → (first last : Bool) → Setting
in_chain s first_operator operator first last =
    mixed (if last then own_of s first else ending (own_of s first) true) (differ first_operator operator)

-- of the condition of an `if`, or of an `elif`; bare: there is no `else`
abbrev pub of_if : Setting → (bare : Bool) → Setting
of_if s bare = if s.asked && bare then record s { branchless = true; asked = true } else ending s true

abbrev pub in_if : Setting → (bare first : Bool) → Setting
in_if s bare first = if first then of_if s bare else plain true

-- of the condition of a `while` or `until`
abbrev pub in_loop : Setting → Setting
in_loop s = if s.asked then record s { loops = true } else ending s true

-- of the body of a `for`
abbrev pub in_turn : (shows : Bool) → Setting → Setting
in_turn shows s = beginning (s.asked || shows)

-- whether a text has `$?`, of which the `$` may be before it
abbrev pub shows_after : ℕ → List ℕ → Bool
shows_after before [] = false
shows_after before (b ∷ bs) = (before == 36 && b == 63) || shows_after b bs

abbrev pub shows_status : List ℕ → Bool
shows_status text = shows_after 0 text
