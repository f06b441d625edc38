-- Which rules can't be reached (docs/runs.md, "Board files").
use Rattle.std.specs.Prelude.{◌≡◌, ◌&&◌, not, Bool, true, false, if◌then◌else◌, ℕ, List, [], ◌∷◌, ◌++◌, is_some}
use Rattle.std.specs.List.{list_any}
use Rattle.std.specs.Str.{bytes_eq}
use Rattle.hush_commands.specs.declared.pattern.PatternWord.{PatternWord}
use Rattle.hush_commands.specs.declared.board_rules.Rule.{Rule}
use Rattle.hush_commands.specs.CommandNames.{begins_with as is_beginning}
use Rattle.hush_commands.specs.Hardware.{pattern_fits, ruled}

-- whether a word of a pattern fits all that another fits
abbrev pub word_covers : PatternWord → PatternWord → Bool
word_covers w v = if w.begins then is_beginning w.text v.text else not v.begins && bytes_eq w.text v.text

-- whether a pattern fits all calls that another fits, as their words show
abbrev pub covers : List PatternWord → List PatternWord → Bool
covers [] vs = true
covers (w ∷ ws) [] = false
covers (w ∷ ws) (v ∷ vs) = word_covers w v && covers ws vs

-- whether a rule answers all calls that a pattern fits
abbrev pub rule_covers : Rule → List PatternWord → Bool
rule_covers rule pattern = not rule.whole && covers rule.pattern pattern

-- whether one of these rules does
abbrev pub is_covered : List Rule → List PatternWord → Bool
is_covered rules pattern = list_any (λ rule. rule_covers rule pattern) rules

-- what a rule fits, an earlier one answers
abbrev pub CoveredIsAnswered : Type 0
CoveredIsAnswered = (rules : List Rule) (pattern : List PatternWord) (fields : List (List ℕ)) → is_covered rules pattern ≡ true →
    pattern_fits pattern fields ≡ true → is_some (ruled rules fields) ≡ true

-- without the rule all calls are answered alike
abbrev pub CoveredIsNothing : Type 0
CoveredIsNothing = (rules more : List Rule) (rule : Rule) (fields : List (List ℕ)) → is_covered rules rule.pattern ≡ true →
    ruled (rules ++ rule ∷ more) fields ≡ ruled (rules ++ more) fields
