-- Lists and bodies, by readers and by positions: what is found leads from one position to another.
use Rattle.std.proofs.Common.{◌≡◌, ℕ, ◌+◌, ◌≤◌, ◌&&◌, Bool, true, false, List, [], ◌∷◌, map, length, refl, sym, ◌∙◌, ap, subst, arith, le_refl, Option, Some, None, suc, zero, if◌then◌else◌}
use Rattle.std.proofs.lemmas.Bool.{and_parts}
use Rattle.hush_words.specs.Words.Atom.{Plain}
use Rattle.hush_words.specs.Tokens.{Token}
use Rattle.hush_words.specs.Tokens.Token.{Word, Newline, Semicolon, AndIf, OrIf}
use Rattle.hush_words.specs.Faults.{Placed}
use Rattle.hush_syntax.specs.declared.keywords.Keyword.{Keyword}
use Rattle.hush_syntax.specs.declared.nodes.Bodies.{Bodies}
use Rattle.hush_syntax.specs.declared.nodes.Operator.{Operator}
use Rattle.hush_syntax.specs.declared.positions.Ahead.{Ahead}
use Rattle.hush_syntax.specs.declared.positions.Ahead.TheVariants as ahead
use Rattle.hush_syntax.specs.declared.positions.Form.{Form}
use Rattle.hush_syntax.specs.Grammar.{First, Last, Link, More, begins, is_newline, is_separator, nest_limit}
use Rattle.hush_syntax.specs.Halts.{may_end, position, step_on}
use Rattle.hush_syntax.specs.Keywords.{spelling}
use Rattle.hush_syntax.specs.Reading.{is_closing, ◌into◌, any_newlines, any_separators, mapped, behind, chain, closes, command, inner, links, list, list_within, may_be_empty, operator_at, separators, skip}
use Rattle.hush_syntax.proofs.Fronts.{by_test, keyword_of-spelling, links-go, links-stop, skip-stops}
use Rattle.hush_syntax.proofs.Forms.{FormsAreTold}
use Rattle.hush_syntax.proofs.Readers.{by_option, same_pair}
use Rattle.hush_syntax.proofs.Shorter.{chain-shorter, command-shorter, operator-shorter, separators-shorter, skip-shorter}
use Rattle.hush_syntax.proofs.InLists.{alike, begun-reserved, due, is_listed, over-separators, reserved-ends}
use Rattle.hush_syntax.proofs.InCommands.{over-newlines, separators-follow}
use Rattle.hush_syntax.proofs.ClosingWords.{word_of}
use Rattle.hush_syntax.proofs.ListEnds.{chain-ends, no-newline}
use Rattle.hush_syntax.proofs.Stuck.{Follows, Reaches, closer, follows-from, follows-into, follows-is, follows-mapped, stuck, tokens}

module _ (bodies : Bodies) (whole : Bool) where
  operator-on : (forms : List Form) (ps : List Placed) (o : Operator) → operator_at (tokens ps) ≡ Some o →
      (more : List Placed) × (tokens more ≡ behind (tokens ps)) × (stuck bodies whole (position forms ahead.Closed) ps ≡ stuck bodies whole (position forms ahead.Operand) more)
  operator-on forms [] o e = absurd (let no : ◌≡◌ {A = Option Operator} None (Some o) = e in cc)
  operator-on forms ((place, Word w) ∷ ps) o e = absurd (let no : ◌≡◌ {A = Option Operator} None (Some o) = e in cc)
  operator-on forms ((place, Newline) ∷ ps) o e = absurd (let no : ◌≡◌ {A = Option Operator} None (Some o) = e in cc)
  operator-on forms ((place, Semicolon) ∷ ps) o e = absurd (let no : ◌≡◌ {A = Option Operator} None (Some o) = e in cc)
  operator-on forms ((place, AndIf) ∷ ps) o e = (ps, refl, refl)
  operator-on forms ((place, OrIf) ∷ ps) o e = (ps, refl, refl)

  -- behind tokens that are skipped none of them comes
  pub left-stops : {X : Type 0} (test : Token → Bool) (ts r : List Token) (u x : X) → ◌≡◌ {A = Option (X × List Token)} (Some (u, skip test ts)) (Some (x, r)) → begins test r ≡ false
  left-stops test ts r u x e = sym (ap (begins test) (same_pair u x (skip test ts) r e).1) ∙ skip-stops test ts

  -- what commands with this much room are
  abbrev pub Commands : ℕ → Type 0
  Commands n =
      (forms : List Form) → length forms + n ≡ nest_limit → (ps : List Placed) → begins is_newline (tokens ps) ≡ false →
      Follows bodies whole (position forms ahead.Operand) (position forms ahead.Closed) ps (command bodies n (tokens ps))

  module _ (n : ℕ) (commands : Commands n) where
    links-follow : (forms : List Form) → length forms + n ≡ nest_limit → (m : ℕ) (ps : List Placed) → length (tokens ps) ≤ m →
        Follows bodies whole (position forms ahead.Closed) (position forms ahead.Closed) ps (links (command bodies n) m (tokens ps))
    links-follow forms deep zero ps short = (ps, refl, refl)
    links-follow forms deep (suc m) ps short =
        let closed = position forms ahead.Closed in
        let operand = position forms ahead.Operand in
        by_option (operator_at (tokens ps))
        (λ h. follows-is bodies whole closed closed ps (links (command bodies n) (suc m) (tokens ps)) _ (links-stop (command bodies n) m (tokens ps) h) (ps, refl, refl))
        (λ o h.
        let on = operator-on forms ps o h in
        let rest = any_newlines into λ _. command bodies n into λ c. mapped (Link o c) (links (command bodies n) m) in
        follows-is bodies whole closed closed ps (links (command bodies n) (suc m) (tokens ps)) (rest (behind (tokens ps))) (links-go (command bodies n) m (tokens ps) o h)
        (subst (λ ts. Reaches bodies whole (stuck bodies whole closed ps) closed (rest ts)) on.1
        (follows-from bodies whole closed operand closed ps on.0 (rest (tokens on.0)) on.2
        (follows-into bodies whole operand operand closed on.0 any_newlines (λ _. command bodies n into λ c. mapped (Link o c) (links (command bodies n) m))
        (over-newlines bodies whole forms on.0)
        (λ u left e.
        follows-into bodies whole operand closed closed left (command bodies n) (λ c. mapped (Link o c) (links (command bodies n) m))
        (commands forms deep left (left-stops is_newline (tokens on.0) (tokens left) tt u e))
        (λ c more d.
        let few : length (tokens more) ≤ m =
        omega (arith, operator-shorter (tokens ps) o h, ap length on.1, skip-shorter is_newline (tokens on.0), ap length (same_pair tt u (skip is_newline (tokens on.0)) (tokens left) e).1, command-shorter bodies n (tokens left) (tokens more) c d) in
        follows-mapped bodies whole closed closed more (Link o c) (links (command bodies n) m (tokens more)) (links-follow forms deep m more few)))))))

    pub chain-follows : (forms : List Form) → length forms + n ≡ nest_limit → (ps : List Placed) → begins is_newline (tokens ps) ≡ false →
        Follows bodies whole (position forms ahead.Operand) (position forms ahead.Closed) ps (chain (command bodies n) (tokens ps))
    chain-follows forms deep ps none =
        let closed = position forms ahead.Closed in
        follows-into bodies whole (position forms ahead.Operand) closed closed ps (command bodies n) (λ c ts. mapped (First c) (links (command bodies n) (length ts)) ts)
        (commands forms deep ps none)
        (λ c left e.
        follows-mapped bodies whole closed closed left (First c) (links (command bodies n) (length (tokens left)) (tokens left))
        (links-follow forms deep (length (tokens left)) left (le_refl (length (tokens left)))))

    list_within-follows : (f : Form) (forms : List Form) → length (f ∷ forms) + n ≡ nest_limit → (m : ℕ) (ps : List Placed) → length (tokens ps) ≤ m →
        begins is_separator (tokens ps) ≡ false →
        Follows bodies whole (position (f ∷ forms) ahead.Operand) (position (f ∷ forms) ahead.More) ps (list_within (command bodies n) m (tokens ps))
    list_within-follows f forms deep zero [] short none = refl
    list_within-follows f forms deep zero (p ∷ ps) short none = absurd (omega (arith, short))
    list_within-follows f forms deep (suc m) ps short none =
        let operand = position (f ∷ forms) ahead.Operand in
        let closed = position (f ∷ forms) ahead.Closed in
        let more = position (f ∷ forms) ahead.More in
        follows-into bodies whole operand closed more ps (chain (command bodies n))
        (λ c. separators into λ _. λ r. if closes r then Some (Last c, r) else mapped (More c) (list_within (command bodies n) m) r)
        (chain-follows (f ∷ forms) deep ps (no-newline (tokens ps) none))
        (λ c left e.
        follows-into bodies whole closed more more left separators (λ _. λ r. if closes r then Some (Last c, r) else mapped (More c) (list_within (command bodies n) m) r)
        (separators-follow bodies whole f forms left (chain-ends bodies (command bodies n) (command-shorter bodies n) (tokens ps) (tokens left) c e))
        (λ u last d.
        let few : length (tokens last) ≤ m = omega (arith, chain-shorter bodies n (tokens ps) (tokens left) c e, separators-shorter (tokens left) (tokens last) u d) in
        let over = separators-stop (tokens left) (tokens last) u d in
        by_test (closes (tokens last))
        (λ h. rw h (last, refl, refl))
        (λ h.
        rw h
        (follows-from bodies whole more operand more last last (mapped (More c) (list_within (command bodies n) m) (tokens last))
        (due bodies whole f forms ahead.More last refl over (λ k c. absurd (let no : true ≡ false = sym c ∙ h in cc)))
        (follows-mapped bodies whole operand more last (More c) (list_within (command bodies n) m (tokens last))
        (list_within-follows f forms deep m last few over))))))
      where
        separators-stop : (ts r : List Token) (u : Unit {0}) → separators ts ≡ Some (u, r) → begins is_separator r ≡ false
        separators-stop ts r u e =
            by_test (begins is_separator ts)
            (λ h. left-stops is_separator ts r tt u (rw h at e))
            (λ h. absurd (let no : ◌≡◌ {A = Option (Unit {0} × List Token)} None (Some (u, r)) = rw h at e in cc))

    -- a list where none may end yet
    pub list-follows : (f : Form) (forms : List Form) (a : Ahead) → length (f ∷ forms) + n ≡ nest_limit → is_listed a ≡ true → (ps : List Placed) →
        ((k : Keyword) → closes (skip is_separator (tokens ps)) ≡ true → may_end bodies a k ≡ false) →
        Follows bodies whole (position (f ∷ forms) a) (position (f ∷ forms) ahead.More) ps (list (command bodies n) (tokens ps))
    list-follows f forms a deep listed ps early =
        let from = position (f ∷ forms) a in
        let operand = position (f ∷ forms) ahead.Operand in
        let more = position (f ∷ forms) ahead.More in
        follows-into bodies whole from from more ps any_separators (λ _ ts. list_within (command bodies n) (length ts) ts)
        (over-separators bodies whole (f ∷ forms) a listed ps)
        (λ u left e.
        let over = left-stops is_separator (tokens ps) (tokens left) tt u e in
        let same = (same_pair tt u (skip is_separator (tokens ps)) (tokens left) e).1 in
        follows-from bodies whole from operand more left left (list_within (command bodies n) (length (tokens left)) (tokens left))
        (due bodies whole f forms a left listed over (λ k c. early k (ap closes same ∙ c)))
        (list_within-follows f forms deep (length (tokens left)) left (le_refl (length (tokens left))) over))

    -- a body
    body-more : FormsAreTold → (f : Form) (forms : List Form) (ps : List Placed) → may_be_empty bodies ≡ true → closes (tokens ps) ≡ true →
        stuck bodies whole (position (f ∷ forms) ahead.Body) ps ≡ stuck bodies whole (position (f ∷ forms) ahead.More) ps
    body-more told f forms ps may c =
        let s = closer told ps c in
        let body = position (f ∷ forms) ahead.Body in
        let more = position (f ∷ forms) ahead.More in
        let led : stuck bodies whole body ((s.1, word_of s.0) ∷ s.2) ≡ stuck bodies whole more ((s.1, word_of s.0) ∷ s.2) =
        alike bodies whole body more s.1 (word_of s.0) s.2 (steps f forms s.1 s.0 s.3 may) in
        ap (stuck bodies whole body) s.4 ∙ led ∙ sym (ap (stuck bodies whole more) s.4)
      where
        steps : (f : Form) (forms : List Form) (place : ℕ) (k : Keyword) → is_closing k ≡ true → may_be_empty bodies ≡ true →
            step_on bodies (position (f ∷ forms) ahead.Body) place (word_of k) ≡ step_on bodies (position (f ∷ forms) ahead.More) place (word_of k)
        steps f forms place k c may =
            begun-reserved bodies (position (f ∷ forms) ahead.Body) place (map Plain (spelling k)) k (keyword_of-spelling k)
            ∙ reserved-ends bodies (position (f ∷ forms) ahead.Body) place k c may
            ∙ sym (reserved-ends bodies (position (f ∷ forms) ahead.More) place k c refl)
            ∙ sym (begun-reserved bodies (position (f ∷ forms) ahead.More) place (map Plain (spelling k)) k (keyword_of-spelling k))

    pub inner-follows : FormsAreTold → (f : Form) (forms : List Form) → length (f ∷ forms) + n ≡ nest_limit → (ps : List Placed) →
        Follows bodies whole (position (f ∷ forms) ahead.Body) (position (f ∷ forms) ahead.More) ps (inner bodies (command bodies n) (tokens ps))
    inner-follows told f forms deep ps =
        by_test (may_be_empty bodies && closes (skip is_separator (tokens ps)))
        (λ h.
        let s = over-separators bodies whole (f ∷ forms) ahead.Body refl ps in
        let both = and_parts (may_be_empty bodies) (closes (skip is_separator (tokens ps))) h in
        rw h (s.0, s.1, s.2 ∙ body-more told f forms s.0 both.0 (ap closes s.1 ∙ both.1)))
        (λ h. rw h (list-follows f forms ahead.Body deep refl ps (λ k c. by_test (may_be_empty bodies) (λ m. absurd (let no : true ≡ false = sym (rw (m, c) refl) ∙ h in cc)) (λ m. m))))
