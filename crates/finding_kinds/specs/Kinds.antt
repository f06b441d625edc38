-- The kinds of findings (docs/check.md, "What is found").
use Rattle.std.specs.Prelude.{ℕ, Bool, List, [], ◌∷◌, codes}
use Rattle.std.specs.List.{list_any}
use Rattle.std.specs.Str.{bytes_eq}
use Rattle.finding_kinds.specs.declared.kinds.FindingKind.{FindingKind}
use Rattle.finding_kinds.specs.declared.kinds.FindingKind.TheVariants as kind
use Rattle.finding_kinds.specs.declared.kinds.Severity.{Severity}
use Rattle.finding_kinds.specs.declared.kinds.Severity.TheVariants as severity

abbrev pub code_of : FindingKind → List ℕ
code_of kind.CarriageReturn = codes "carriage-return"
code_of kind.Backslashes = codes "backslashes"
code_of kind.Syntax = codes "syntax"
code_of kind.JoinedLines = codes "joined-lines"
code_of kind.LooseOperators = codes "loose-operators"
code_of kind.Apostrophes = codes "apostrophes"
code_of kind.BackslashesInQuotes = codes "backslashes-in-quotes"
code_of kind.UnderscoredNames = codes "underscored-names"
code_of kind.OtherShell = codes "other-shell"
code_of kind.UnknownCommand = codes "unknown-command"
code_of kind.Exit = codes "exit"
code_of kind.ManyWords = codes "many-words"
code_of kind.AndOr = codes "and-or"
code_of kind.IfStatus = codes "if-status"
code_of kind.LoopStatus = codes "loop-status"
code_of kind.StaleStatus = codes "stale-status"
code_of kind.WrongUse = codes "wrong-use"
code_of kind.TestOperator = codes "test-operator"
code_of kind.RunUndefined = codes "run-undefined"
code_of kind.RunUnknown = codes "run-unknown"
code_of kind.EmptyValue = codes "empty-value"
code_of kind.HiddenAssignment = codes "hidden-assignment"
code_of kind.EmptyAssignment = codes "empty-assignment"
code_of kind.QuotedFor = codes "quoted-for"
code_of kind.ReservedWordsOfFor = codes "reserved-words-of-for"
code_of kind.UndefinedName = codes "undefined-name"
code_of kind.RereadValue = codes "reread-value"
code_of kind.NoVariable = codes "no-variable"
code_of kind.NoScript = codes "no-script"
code_of kind.ValueType = codes "value-type"

abbrev pub severity_of : FindingKind → Severity
severity_of kind.CarriageReturn = severity.Warning
severity_of kind.Backslashes = severity.Warning
severity_of kind.Syntax = severity.Error
severity_of kind.JoinedLines = severity.Warning
severity_of kind.LooseOperators = severity.Warning
severity_of kind.Apostrophes = severity.Warning
severity_of kind.BackslashesInQuotes = severity.Warning
severity_of kind.UnderscoredNames = severity.Warning
severity_of kind.OtherShell = severity.Error
severity_of kind.UnknownCommand = severity.Error
severity_of kind.Exit = severity.Warning
severity_of kind.ManyWords = severity.Warning
severity_of kind.AndOr = severity.Warning
severity_of kind.IfStatus = severity.Warning
severity_of kind.LoopStatus = severity.Warning
severity_of kind.StaleStatus = severity.Warning
severity_of kind.WrongUse = severity.Error
severity_of kind.TestOperator = severity.Error
severity_of kind.RunUndefined = severity.Error
severity_of kind.RunUnknown = severity.Note
severity_of kind.EmptyValue = severity.Warning
severity_of kind.HiddenAssignment = severity.Warning
severity_of kind.EmptyAssignment = severity.Note
severity_of kind.QuotedFor = severity.Warning
severity_of kind.ReservedWordsOfFor = severity.Warning
severity_of kind.UndefinedName = severity.Warning
severity_of kind.RereadValue = severity.Warning
severity_of kind.NoVariable = severity.Error
severity_of kind.NoScript = severity.Error
severity_of kind.ValueType = severity.Error

-- all of them
abbrev pub all_kinds : List FindingKind
all_kinds =
    kind.CarriageReturn ∷ kind.Backslashes ∷ kind.Syntax ∷ kind.JoinedLines ∷ kind.LooseOperators ∷ kind.Apostrophes
    ∷ kind.BackslashesInQuotes ∷ kind.UnderscoredNames ∷ kind.OtherShell ∷ kind.UnknownCommand ∷ kind.Exit ∷ kind.ManyWords
    ∷ kind.AndOr ∷ kind.IfStatus ∷ kind.LoopStatus ∷ kind.StaleStatus ∷ kind.WrongUse ∷ kind.TestOperator
    ∷ kind.RunUndefined ∷ kind.RunUnknown ∷ kind.EmptyValue ∷ kind.HiddenAssignment ∷ kind.EmptyAssignment ∷ kind.QuotedFor
    ∷ kind.ReservedWordsOfFor ∷ kind.UndefinedName ∷ kind.RereadValue ∷ kind.NoVariable ∷ kind.NoScript ∷ kind.ValueType ∷ []

abbrev pub is_called : List ℕ → FindingKind → Bool
is_called text k = bytes_eq (code_of k) text

abbrev pub is_code : List ℕ → Bool
is_code text = list_any (is_called text) all_kinds
