-- What a check is asked (docs/check.md).
use Rattle.std.specs.Prelude.{ℕ, Bool, List, [], map, option_map, unwrap_or}
use Rattle.std.specs.List.{list_any}
use Rattle.finding_kinds.specs.Kinds.{is_called}
use Rattle.finding_kinds.specs.declared.choice.Choice as choice
use Rattle.finding_kinds.specs.declared.choice.Format.{Format}
use Rattle.finding_kinds.specs.declared.kinds.FindingKind.{FindingKind}

-- the codes of the kinds that are left out, whether a warning counts as an error, whether each variable whose value looks like a script
-- is looked at, and how findings are printed
pub record Choice : Type 0 where
  pub ignored : List (List ℕ)
  pub strict : Bool
  pub all : Bool
  pub format : Format

abbrev pub is_ignored : Choice → FindingKind → Bool
is_ignored choice k = list_any (λ code. is_called code k) choice.ignored

-- the code's choice, in this form
abbrev pub choice_view : choice.Choice → Choice
choice_view c = record { ignored = unwrap_or (option_map (λ codes. map (λ code. code.now) codes.now) c.ignored) []; strict = c.strict; all = c.all; format = c.format }
