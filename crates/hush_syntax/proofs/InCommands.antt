-- Where tokens lead in a command, and the words that end lists.
use Rattle.std.proofs.Common.{◌≡◌, ℕ, Bool, true, false, List, [], ◌∷◌, refl, ◌∙◌, ap, Some, None, Ok, if◌then◌else◌}
use Rattle.hush_words.specs.Words.{Atom}
use Rattle.hush_words.specs.Forms.{assignment_of}
use Rattle.hush_words.specs.Tokens.Token.{Word, Newline, Semicolon, AndIf, OrIf}
use Rattle.hush_words.specs.Faults.{Placed}
use Rattle.hush_syntax.specs.declared.nodes.Bodies.{Bodies}
use Rattle.hush_syntax.specs.declared.positions.Ahead.TheVariants as ahead
use Rattle.hush_syntax.specs.declared.positions.Form.{Form}
use Rattle.hush_syntax.specs.Grammar.{Assign, Simple, begins, is_newline, is_separator}
use Rattle.hush_syntax.specs.Halts.{position, step_on}
use Rattle.hush_syntax.specs.Keywords.{keyword_of}
use Rattle.hush_syntax.specs.Reading.{is_word, keyword_at, operator_at, plain, separators, skip, words_at}
use Rattle.hush_syntax.proofs.Fronts.{by_test, plain-assignment, plain-simple, skip-stops}
use Rattle.hush_syntax.proofs.Readers.{by_option}
use Rattle.hush_syntax.proofs.InLists.{Skips, begun-plain, over-separators, skipped, stopped}
use Rattle.hush_syntax.proofs.Stuck.{Follows, follows-is, stuck, stuck-on, tokens}

module _ (bodies : Bodies) (whole : Bool) where
  -- a command has to come
  pub operand-ends : (forms : List Form) → stuck bodies whole (position forms ahead.Operand) [] ≡ true
  operand-ends [] = refl
  operand-ends (f ∷ forms) = refl

  -- newlines behind an operator
  pub over-newlines : (forms : List Form) (ps : List Placed) → Skips bodies whole (position forms ahead.Operand) is_newline ps
  over-newlines forms [] = ([], refl, refl)
  over-newlines forms ((place, Word w) ∷ ps) = stopped bodies whole (position forms ahead.Operand) is_newline place (Word w) ps refl
  over-newlines forms ((place, Newline) ∷ ps) =
      skipped bodies whole (position forms ahead.Operand) is_newline place Newline ps refl refl (over-newlines forms ps)
  over-newlines forms ((place, Semicolon) ∷ ps) = stopped bodies whole (position forms ahead.Operand) is_newline place Semicolon ps refl
  over-newlines forms ((place, AndIf) ∷ ps) = stopped bodies whole (position forms ahead.Operand) is_newline place AndIf ps refl
  over-newlines forms ((place, OrIf) ∷ ps) = stopped bodies whole (position forms ahead.Operand) is_newline place OrIf ps refl

  -- words of a command, and of a `for`
  pub over-words : (forms : List Form) (ps : List Placed) → Skips bodies whole (position forms ahead.Words) is_word ps
  over-words forms [] = ([], refl, refl)
  over-words forms ((place, Word w) ∷ ps) = skipped bodies whole (position forms ahead.Words) is_word place (Word w) ps refl refl (over-words forms ps)
  over-words forms ((place, Newline) ∷ ps) = stopped bodies whole (position forms ahead.Words) is_word place Newline ps refl
  over-words forms ((place, Semicolon) ∷ ps) = stopped bodies whole (position forms ahead.Words) is_word place Semicolon ps refl
  over-words forms ((place, AndIf) ∷ ps) = stopped bodies whole (position forms ahead.Words) is_word place AndIf ps refl
  over-words forms ((place, OrIf) ∷ ps) = stopped bodies whole (position forms ahead.Words) is_word place OrIf ps refl

  pub over-listed-words : (forms : List Form) (ps : List Placed) → Skips bodies whole (position forms ahead.List) is_word ps
  over-listed-words forms [] = ([], refl, refl)
  over-listed-words forms ((place, Word w) ∷ ps) = skipped bodies whole (position forms ahead.List) is_word place (Word w) ps refl refl (over-listed-words forms ps)
  over-listed-words forms ((place, Newline) ∷ ps) = stopped bodies whole (position forms ahead.List) is_word place Newline ps refl
  over-listed-words forms ((place, Semicolon) ∷ ps) = stopped bodies whole (position forms ahead.List) is_word place Semicolon ps refl
  over-listed-words forms ((place, AndIf) ∷ ps) = stopped bodies whole (position forms ahead.List) is_word place AndIf ps refl
  over-listed-words forms ((place, OrIf) ∷ ps) = stopped bodies whole (position forms ahead.List) is_word place OrIf ps refl

  -- separators before `do`
  pub over-heads : (forms : List Form) (ps : List Placed) → Skips bodies whole (position forms ahead.Do) is_separator ps
  over-heads forms [] = ([], refl, refl)
  over-heads forms ((place, Word w) ∷ ps) = stopped bodies whole (position forms ahead.Do) is_separator place (Word w) ps refl
  over-heads forms ((place, Newline) ∷ ps) = skipped bodies whole (position forms ahead.Do) is_separator place Newline ps refl refl (over-heads forms ps)
  over-heads forms ((place, Semicolon) ∷ ps) = skipped bodies whole (position forms ahead.Do) is_separator place Semicolon ps refl refl (over-heads forms ps)
  over-heads forms ((place, AndIf) ∷ ps) = stopped bodies whole (position forms ahead.Do) is_separator place AndIf ps refl
  over-heads forms ((place, OrIf) ∷ ps) = stopped bodies whole (position forms ahead.Do) is_separator place OrIf ps refl

  -- behind a command no word comes
  pub words-closed : (forms : List Form) (ps : List Placed) → begins is_word (tokens ps) ≡ false →
      stuck bodies whole (position forms ahead.Words) ps ≡ stuck bodies whole (position forms ahead.Closed) ps
  words-closed forms [] e = refl
  words-closed forms ((place, Word w) ∷ ps) e = absurd (let no : true ≡ false = e in cc)
  words-closed forms ((place, Newline) ∷ ps) e = refl
  words-closed forms ((place, Semicolon) ∷ ps) e = refl
  words-closed forms ((place, AndIf) ∷ ps) e = refl
  words-closed forms ((place, OrIf) ∷ ps) e = refl

  pub assigned-closed : (forms : List Form) (ps : List Placed) → begins is_word (tokens ps) ≡ false →
      stuck bodies whole (position forms ahead.Assigned) ps ≡ stuck bodies whole (position forms ahead.Closed) ps
  assigned-closed forms [] e = refl
  assigned-closed forms ((place, Word w) ∷ ps) e = absurd (let no : true ≡ false = e in cc)
  assigned-closed forms ((place, Newline) ∷ ps) e = refl
  assigned-closed forms ((place, Semicolon) ∷ ps) e = refl
  assigned-closed forms ((place, AndIf) ∷ ps) e = refl
  assigned-closed forms ((place, OrIf) ∷ ps) e = refl

  assigned-word : (forms : List Form) (ps : List Placed) → begins is_word (tokens ps) ≡ true → stuck bodies whole (position forms ahead.Assigned) ps ≡ true
  assigned-word forms [] e = absurd (let no : false ≡ true = e in cc)
  assigned-word forms ((place, Word w) ∷ ps) e = refl
  assigned-word forms ((place, Newline) ∷ ps) e = absurd (let no : false ≡ true = e in cc)
  assigned-word forms ((place, Semicolon) ∷ ps) e = absurd (let no : false ≡ true = e in cc)
  assigned-word forms ((place, AndIf) ∷ ps) e = absurd (let no : false ≡ true = e in cc)
  assigned-word forms ((place, OrIf) ∷ ps) e = absurd (let no : false ≡ true = e in cc)

  -- an assignment or a simple command
  begun-simple : (forms : List Form) (place : ℕ) (w : List Atom) → keyword_of w ≡ None → assignment_of w ≡ None →
      step_on bodies (position forms ahead.Operand) place (Word w) ≡ Ok (position forms ahead.Words)
  begun-simple forms place w k e = begun-plain bodies (position forms ahead.Operand) place w k ∙ (rw e refl)

  begun-assignment : (forms : List Form) (place : ℕ) (w : List Atom) (a : List ℕ × List Atom) → keyword_of w ≡ None → assignment_of w ≡ Some a →
      step_on bodies (position forms ahead.Operand) place (Word w) ≡ Ok (position forms ahead.Assigned)
  begun-assignment forms place w a k e = begun-plain bodies (position forms ahead.Operand) place w k ∙ (rw e refl)

  pub plain-follows : (forms : List Form) (ps : List Placed) → begins is_newline (tokens ps) ≡ false → keyword_at (tokens ps) ≡ None →
      Follows bodies whole (position forms ahead.Operand) (position forms ahead.Closed) ps (plain (tokens ps))
  plain-follows forms [] none k = operand-ends forms
  plain-follows forms ((place, Word w) ∷ ps) none k =
      by_option (assignment_of w)
      (λ e.
      let rest = over-words forms ps in
      follows-is bodies whole (position forms ahead.Operand) (position forms ahead.Closed) ((place, Word w) ∷ ps) (plain (Word w ∷ tokens ps)) (Some (Simple (w ∷ words_at (tokens ps)), skip is_word (tokens ps)))
      (plain-simple w (tokens ps) e) (
        rest.0,
        rest.1,
        stuck-on bodies whole (position forms ahead.Operand) (position forms ahead.Words) place (Word w) ps (begun-simple forms place w k e) ∙ rest.2
            ∙ words-closed forms rest.0 (ap (begins is_word) rest.1 ∙ skip-stops is_word (tokens ps)),
      ))
      (λ a e.
      let led = stuck-on bodies whole (position forms ahead.Operand) (position forms ahead.Assigned) place (Word w) ps (begun-assignment forms place w a k e) in
      follows-is bodies whole (position forms ahead.Operand) (position forms ahead.Closed) ((place, Word w) ∷ ps) (plain (Word w ∷ tokens ps)) (if begins is_word (tokens ps) then None else Some (Assign a.0 a.1, tokens ps))
      (plain-assignment w (tokens ps) a e)
      (by_test (begins is_word (tokens ps))
      (λ h. rw h (led ∙ assigned-word forms ps h))
      (λ h. rw h (ps, refl, led ∙ assigned-closed forms ps h))))
  plain-follows forms ((place, Newline) ∷ ps) none k = absurd (let no : true ≡ false = none in cc)
  plain-follows forms ((place, Semicolon) ∷ ps) none k = refl
  plain-follows forms ((place, AndIf) ∷ ps) none k = refl
  plain-follows forms ((place, OrIf) ∷ ps) none k = refl

  -- what separates commands, and what is before `do`
  pub separators-follow : (f : Form) (forms : List Form) (ps : List Placed) → operator_at (tokens ps) ≡ None →
      Follows bodies whole (position (f ∷ forms) ahead.Closed) (position (f ∷ forms) ahead.More) ps (separators (tokens ps))
  separators-follow f forms [] none = refl
  separators-follow f forms ((place, Word w) ∷ ps) none = refl
  separators-follow f forms ((place, Newline) ∷ ps) none = over-separators bodies whole (f ∷ forms) ahead.More refl ps
  separators-follow f forms ((place, Semicolon) ∷ ps) none = over-separators bodies whole (f ∷ forms) ahead.More refl ps
  separators-follow f forms ((place, AndIf) ∷ ps) none = absurd (let no = none in cc)
  separators-follow f forms ((place, OrIf) ∷ ps) none = absurd (let no = none in cc)

  pub heads-follow : (f : Form) (forms : List Form) (ps : List Placed) → begins is_word (tokens ps) ≡ false →
      Follows bodies whole (position (f ∷ forms) ahead.List) (position (f ∷ forms) ahead.Do) ps (separators (tokens ps))
  heads-follow f forms [] none = refl
  heads-follow f forms ((place, Word w) ∷ ps) none = absurd (let no : true ≡ false = none in cc)
  heads-follow f forms ((place, Newline) ∷ ps) none = over-heads (f ∷ forms) ps
  heads-follow f forms ((place, Semicolon) ∷ ps) none = over-heads (f ∷ forms) ps
  heads-follow f forms ((place, AndIf) ∷ ps) none = refl
  heads-follow f forms ((place, OrIf) ∷ ps) none = refl
