-- What follows from the definitions of the grammar.
use Rattle.std.specs.Prelude.{◌≡◌, ℕ, ◌≤◌, true, List, map, Option, Some, None, is_some, ◌↔◌}
use Rattle.hush_words.specs.Tokens.{Token}
use Rattle.hush_syntax.specs.declared.nodes.Bodies.{Bodies}
use Rattle.hush_syntax.specs.declared.nodes.Bodies.TheVariants.{Full}
use Rattle.hush_syntax.specs.Grammar.{Chains, SpellsScript, script_depth, nest_limit, SpellsIn, SpellsText}
use Rattle.hush_syntax.specs.CommandWords.{PlacedWord, leaf, script_leaves, words_of}
use Rattle.hush_syntax.specs.Halts.{halt_in}
use Rattle.hush_syntax.specs.Reading.{script_in, script_of, read_in, read}

-- a text spells at most one tree
abbrev pub OneTree : Type 0
OneTree = (text : List ℕ) (script other : Option Chains) → SpellsText script text → SpellsText other text → script ≡ other

-- the script that is read from tokens is exactly the one that they spell
abbrev pub TreesAreRead : Type 0
TreesAreRead =
    (tokens : List Token) (script : Option Chains) →
    (script_of tokens ≡ Some script) ↔ (SpellsScript Full script tokens × (script_depth script ≤ nest_limit))

-- the script that is read from a text is exactly the one that it spells
abbrev pub ScriptsAreRead : Type 0
ScriptsAreRead = (text : List ℕ) (script : Option Chains) → (read text ≡ Some script) ↔ SpellsText script text

-- the same for either kind of bodies
abbrev pub OneTreeIn : Bodies → Type 0
OneTreeIn bodies = (text : List ℕ) (script other : Option Chains) → SpellsIn bodies script text → SpellsIn bodies other text → script ≡ other

abbrev pub TreesAreReadIn : Bodies → Type 0
TreesAreReadIn bodies =
    (tokens : List Token) (script : Option Chains) →
    (script_in bodies tokens ≡ Some script) ↔ (SpellsScript bodies script tokens × (script_depth script ≤ nest_limit))

abbrev pub ScriptsAreReadIn : Bodies → Type 0
ScriptsAreReadIn bodies = (text : List ℕ) (script : Option Chains) → (read_in bodies text ≡ Some script) ↔ SpellsIn bodies script text

-- the words of a text's commands are those of the tree that it spells
abbrev pub WordsAreTold : Type 0
WordsAreTold =
    (bodies : Bodies) (text : List ℕ) (script : Option Chains) →
    SpellsIn bodies script text → map (λ (w : PlacedWord). leaf w.1) (words_of text) ≡ script_leaves script

-- a text stops being a script somewhere exactly if it spells none
abbrev pub HaltsAreTold : Type 0
HaltsAreTold = (bodies : Bodies) (text : List ℕ) → (read_in bodies text ≡ None) ↔ (is_some (halt_in bodies text) ≡ true)
