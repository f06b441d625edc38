-- What is told of texts that are no scripts, by hand.
use Rattle.std.specs.Fmt.{decimal}
use Rattle.std.proofs.Common.{◌≡◌, ℕ, List, ◌++◌, codes, refl, Option, Some, None}
use Rattle.hush_syntax.specs.Halts.{form_at}
use Rattle.hush_syntax.specs.declared.keywords.Keyword.TheVariants as keyword
use Rattle.hush_syntax.specs.declared.positions.Ahead.{Ahead}
use Rattle.hush_syntax.specs.declared.positions.Ahead.TheVariants as ahead
use Rattle.hush_syntax.specs.declared.positions.Form.{Form}
use Rattle.hush_syntax.specs.declared.positions.Halt.{Halt}
use Rattle.hush_syntax.specs.declared.positions.Met.{Met}
use Rattle.hush_syntax.specs.declared.positions.Met.TheVariants as met
use Rattle.hush_syntax.specs.declared.positions.Stage.TheVariants as stage
use Rattle.hush_syntax.specs.declared.syntax_fault.FaultKind.TheVariants as fault
use Rattle.fw_check.specs.FaultSentences.{halt_sentence}

abbrev refused : ℕ → Option Form → Ahead → Met → Halt
refused place form next m = record { fault = record { place = place; kind = fault.Unexpected }; form = form; ahead = next; met = m }

abbrev ended : ℕ → Option Form → Ahead → Halt
ended place form next = record { fault = record { place = place; kind = fault.Missing }; form = form; ahead = next; met = met.End }

name_row : halt_sentence (codes "for 1 in a") (refused 4 (Some (form_at keyword.For 0 stage.Head)) ahead.Name met.Word) ≡ (codes "no name for the `for` in line " ++ decimal 1 ++ codes " of the script") ++ codes " (Unexpected)"
name_row = refl

in_row : halt_sentence (codes "for i a") (refused 6 (Some (form_at keyword.For 0 stage.Head)) ahead.In met.Word) ≡ (codes "no `in` for the `for` in line " ++ decimal 1 ++ codes " of the script") ++ codes " (Unexpected)"
in_row = refl

do_row : halt_sentence (codes "for i in a; done") (refused 12 (Some (form_at keyword.For 0 stage.Head)) ahead.Do (met.Reserved keyword.Done))
    ≡ (codes "no `do` for the `for` in line " ++ decimal 1 ++ codes " of the script") ++ codes " (Unexpected)"
do_row = refl

fi_row : halt_sentence (codes "fi") (refused 0 None ahead.Start (met.Reserved keyword.Fi)) ≡ codes "`fi` without `if` (Unexpected)"
fi_row = refl

outside_row : halt_sentence (codes "if a; then b; fi do") (refused 17 None ahead.Closed (met.Reserved keyword.Do)) ≡ codes "`do` without `for`, `while` or `until` (Unexpected)"
outside_row = refl

done_row : halt_sentence (codes "a && done") (refused 5 None ahead.Operand (met.Reserved keyword.Done)) ≡ codes "`done` without `do` (Unexpected)"
done_row = refl

closed_row : halt_sentence (codes "if a; then if b; then c; fi fi") (refused 28 (Some (form_at keyword.If 0 stage.Branch)) ahead.Closed (met.Reserved keyword.Fi)) ≡ codes "no `;` before `fi` (Unexpected)"
closed_row = refl

word_row : halt_sentence (codes "if a; then b; fi c") (refused 17 None ahead.Closed met.Word) ≡ codes "no `;` before this word (Unexpected)"
word_row = refl

operator_row : halt_sentence (codes "a; && b") (refused 3 None ahead.More met.AndIf) ≡ codes "no command before `&&` (Unexpected)"
operator_row = refl

operand_row : halt_sentence (codes "a &&") (ended 4 None ahead.Operand) ≡ codes "no command before the end of the text (Missing)"
operand_row = refl

empty_row : halt_sentence (codes "if then") (refused 3 (Some (form_at keyword.If 0 stage.Condition)) ahead.Start (met.Reserved keyword.Then)) ≡ codes "no command before `then` (Unexpected)"
empty_row = refl

-- where a `fi` can't end the list
other_row : halt_sentence (codes "if fi") (refused 3 (Some (form_at keyword.If 0 stage.Condition)) ahead.Start (met.Reserved keyword.Fi)) ≡ (codes "no `then` for the `if` in line " ++ decimal 1 ++ codes " of the script") ++ codes " (Unexpected)"
other_row = refl

-- `a`, newline, `while b`, newline, `done`
line_row : halt_sentence (codes "a\nwhile b\ndone") (refused 10 (Some (form_at keyword.While 2 stage.Head)) ahead.More (met.Reserved keyword.Done)) ≡ (codes "no `do` for the `while` in line " ++ decimal 2 ++ codes " of the script") ++ codes " (Unexpected)"
line_row = refl

end_row : halt_sentence (codes "if true; then a") (ended 15 (Some (form_at keyword.If 0 stage.Branch)) ahead.Words) ≡ (codes "no `fi` for the `if` in line " ++ decimal 1 ++ codes " of the script") ++ codes " (Missing)"
end_row = refl

body_row : halt_sentence (codes "until a; do b; fi") (refused 15 (Some (form_at keyword.Until 0 stage.Body)) ahead.More (met.Reserved keyword.Fi)) ≡ (codes "no `done` for the `until` in line " ++ decimal 1 ++ codes " of the script") ++ codes " (Unexpected)"
body_row = refl
