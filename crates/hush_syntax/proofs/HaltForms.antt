-- Forms and commands, by readers and by positions.
use Rattle.std.proofs.Common.{◌≡◌, ℕ, ◌+◌, ◌≤◌, ◌==◌, Bool, true, false, List, [], ◌∷◌, map, codes, length, refl, ◌∙◌, ap, subst, arith, le_refl, Option, Some, None, Ok, Err, suc, zero}
use Rattle.std.proofs.lemmas.Bool.{ne_eqb, eq-eqb}
use Rattle.hush_words.specs.Words.Atom.{Plain}
use Rattle.hush_words.specs.Forms.{is_plain, name_of}
use Rattle.hush_words.specs.Tokens.{Token}
use Rattle.hush_words.specs.Tokens.Token.{Word, Newline, Semicolon, AndIf, OrIf}
use Rattle.hush_words.specs.Faults.{Placed}
use Rattle.hush_syntax.specs.declared.keywords.Keyword.{Keyword}
use Rattle.hush_syntax.specs.declared.keywords.Keyword.TheVariants as keyword
use Rattle.hush_syntax.specs.declared.nodes.Bodies.{Bodies}
use Rattle.hush_syntax.specs.declared.positions.Ahead.TheVariants as ahead
use Rattle.hush_syntax.specs.declared.positions.Form.{Form}
use Rattle.hush_syntax.specs.declared.positions.Stage.TheVariants as stage
use Rattle.hush_syntax.specs.declared.syntax_fault.FaultKind.TheVariants as fault
use Rattle.hush_syntax.specs.Grammar.{Branches, Chains, Command, Elif, Else, Fi, For, If, While, Until, begins, is_separator, nest_limit}
use Rattle.hush_syntax.specs.Halts.{form_at, opened, position, reserved, step_on}
use Rattle.hush_syntax.specs.Keywords.{spelling}
use Rattle.hush_syntax.specs.Reading.{Reader, ◌into◌, any_words, mapped, behind, branches, branches_within, closes, command, compound, inner, is, is_closing, is_word, keyword_at, list, loop_parts, name, one, plain, separators, then_word, words_at}
use Rattle.hush_syntax.proofs.Fronts.{by_test, command-compound, command-none, command-plain, keyword_of-spelling}
use Rattle.hush_syntax.proofs.Forms.{FormsAreTold, keyword_at-some}
use Rattle.hush_syntax.proofs.Readers.{by_option}
use Rattle.hush_syntax.proofs.Shorter.{behind-begun, command-shorter, inner-shorter, list-shorter, then-shortens}
use Rattle.hush_syntax.proofs.InLists.{begun-reserved, reserved-early}
use Rattle.hush_syntax.proofs.InCommands.{heads-follow, over-listed-words, plain-follows}
use Rattle.hush_syntax.proofs.ClosingWords.{do-ends, done-ends, ends-with, fi-ends, otherwise-ends, then-ends, word_of}
use Rattle.hush_syntax.proofs.ListEnds.{inner-ends, list-ends}
use Rattle.hush_syntax.proofs.HaltLists.{Commands, inner-follows, left-stops, list-follows}
use Rattle.hush_syntax.proofs.Stuck.{Follows, Reaches, follows-from, follows-into, follows-is, follows-mapped, front, stuck, stuck-off, stuck-on, tokens}

module _ (told : FormsAreTold) (bodies : Bodies) (whole : Bool) where
  -- ---- what is behind `for`

  name-follows : (f : Form) (forms : List Form) (ps : List Placed) →
      Follows bodies whole (position (f ∷ forms) ahead.Name) (position (f ∷ forms) ahead.In) ps (name (tokens ps))
  name-follows f forms [] = refl
  name-follows f forms ((place, Word w) ∷ ps) =
      let p = position (f ∷ forms) ahead.Name in
      let q = position (f ∷ forms) ahead.In in
      by_option (name_of w)
      (λ h. follows-is bodies whole p q ((place, Word w) ∷ ps) (name (Word w ∷ tokens ps)) None (rw h refl) (stuck-off bodies whole p place (Word w) ps fault.Unexpected (rw h refl)))
      (λ n h. follows-is bodies whole p q ((place, Word w) ∷ ps) (name (Word w ∷ tokens ps)) (Some (n, tokens ps)) (rw h refl) (ps, refl, stuck-on bodies whole p q place (Word w) ps (rw h refl)))
  name-follows f forms ((place, Newline) ∷ ps) = refl
  name-follows f forms ((place, Semicolon) ∷ ps) = refl
  name-follows f forms ((place, AndIf) ∷ ps) = refl
  name-follows f forms ((place, OrIf) ∷ ps) = refl

  in-follows : (f : Form) (forms : List Form) (ps : List Placed) →
      Follows bodies whole (position (f ∷ forms) ahead.In) (position (f ∷ forms) ahead.List) ps (one (is (codes "in")) (tokens ps))
  unfolding is_plain
  in-follows f forms [] = refl
  in-follows f forms ((place, Word w) ∷ ps) =
      by_test (is_plain (codes "in") w) (λ h. rw h (ps, refl, refl)) (λ h. rw h refl)
  in-follows f forms ((place, Newline) ∷ ps) = refl
  in-follows f forms ((place, Semicolon) ∷ ps) = refl
  in-follows f forms ((place, AndIf) ∷ ps) = refl
  in-follows f forms ((place, OrIf) ∷ ps) = refl

  do-follows : (place : ℕ) (forms : List Form) (ps : List Placed) → begins is_separator (tokens ps) ≡ false →
      Follows bodies whole (position (form_at keyword.For place stage.Head ∷ forms) ahead.Do) (position (form_at keyword.For place stage.Body ∷ forms) ahead.Body) ps (one (is (codes "do")) (tokens ps))
  unfolding is_plain
  do-follows place forms [] none = refl
  do-follows place forms ((p, Word w) ∷ ps) none =
      by_test (is_plain (codes "do") w) (λ h. rw h (ps, refl, refl)) (λ h. rw h refl)
  do-follows place forms ((p, Newline) ∷ ps) none = absurd (let no : true ≡ false = none in cc)
  do-follows place forms ((p, Semicolon) ∷ ps) none = absurd (let no : true ≡ false = none in cc)
  do-follows place forms ((p, AndIf) ∷ ps) none = refl
  do-follows place forms ((p, OrIf) ∷ ps) none = refl

  separators-over : (ts r : List Token) (u : Unit {0}) → separators ts ≡ Some (u, r) → begins is_separator r ≡ false
  separators-over ts r u e =
      by_test (begins is_separator ts)
      (λ h. left-stops bodies whole is_separator ts r tt u (rw h at e))
      (λ h. absurd (let no : ◌≡◌ {A = Option (Unit {0} × List Token)} None (Some (u, r)) = rw h at e in cc))

  module _ (n : ℕ) (commands : Commands bodies whole n) where
    -- a body and `done`
    turns-follow : {Y : Type 0} (kw : Keyword) (place : ℕ) (forms : List Form) → suc (length forms) + n ≡ nest_limit → (f : Chains → Y) (ps : List Placed) →
        Follows bodies whole (position (form_at kw place stage.Body ∷ forms) ahead.Body) (position forms ahead.Closed) ps
        ((inner bodies (command bodies n) into λ d. mapped (λ _. f d) (one (is (codes "done")))) (tokens ps))
    turns-follow kw place forms deep f ps =
        let body = form_at kw place stage.Body in
        let closed = position forms ahead.Closed in
        follows-into bodies whole (position (body ∷ forms) ahead.Body) (position (body ∷ forms) ahead.More) closed ps
        (inner bodies (command bodies n)) (λ d. mapped (λ _. f d) (one (is (codes "done"))))
        (inner-follows bodies whole n commands told body forms deep ps)
        (λ d left e.
        follows-mapped bodies whole (position (body ∷ forms) ahead.More) closed left (λ _. f d) (one (is (codes "done")) (tokens left))
        (done-ends told bodies whole kw place forms left (inner-ends bodies (command bodies n) (command-shorter bodies n) (tokens ps) (tokens left) d e)))

    loop-follows : (kw : Keyword) (form : Chains → Chains → Command) (place : ℕ) (forms : List Form) → suc (length forms) + n ≡ nest_limit → (ps : List Placed) →
        Follows bodies whole (position (form_at kw place stage.Head ∷ forms) ahead.Start) (position forms ahead.Closed) ps (loop_parts bodies (command bodies n) form (tokens ps))
    loop-follows kw form place forms deep ps =
        let head = form_at kw place stage.Head in
        let body = position (form_at kw place stage.Body ∷ forms) ahead.Body in
        let closed = position forms ahead.Closed in
        follows-into bodies whole (position (head ∷ forms) ahead.Start) (position (head ∷ forms) ahead.More) closed ps (list (command bodies n))
        (λ c. one (is (codes "do")) into λ _. inner bodies (command bodies n) into λ d. mapped (λ _. form c d) (one (is (codes "done"))))
        (list-follows bodies whole n commands head forms ahead.Start deep refl ps (λ k c. refl))
        (λ c left e.
        follows-into bodies whole (position (head ∷ forms) ahead.More) body closed left (one (is (codes "do")))
        (λ _. inner bodies (command bodies n) into λ d. mapped (λ _. form c d) (one (is (codes "done"))))
        (do-ends told bodies whole kw place forms left (list-ends bodies (command bodies n) (command-shorter bodies n) (tokens ps) (tokens left) c e))
        (λ u more d. turns-follow kw place forms deep (form c) more))

    for-follows : (place : ℕ) (forms : List Form) → suc (length forms) + n ≡ nest_limit → (ps : List Placed) →
        Follows bodies whole (position (form_at keyword.For place stage.Head ∷ forms) ahead.Name) (position forms ahead.Closed) ps (compound bodies (command bodies n) keyword.For (tokens ps))
    for-follows place forms deep ps =
        let head = form_at keyword.For place stage.Head in
        let in_name = position (head ∷ forms) ahead.Name in
        let in_in = position (head ∷ forms) ahead.In in
        let in_list = position (head ∷ forms) ahead.List in
        let in_do = position (head ∷ forms) ahead.Do in
        let body = position (form_at keyword.For place stage.Body ∷ forms) ahead.Body in
        let closed = position forms ahead.Closed in
        follows-into bodies whole in_name in_in closed ps name
        (λ v. one (is (codes "in")) into λ _. any_words into λ words. separators into λ _. one (is (codes "do")) into λ _. inner bodies (command bodies n) into λ d. mapped (λ _. For v words d) (one (is (codes "done"))))
        (name-follows head forms ps)
        (λ v left e.
        follows-into bodies whole in_in in_list closed left (one (is (codes "in")))
        (λ _. any_words into λ words. separators into λ _. one (is (codes "do")) into λ _. inner bodies (command bodies n) into λ d. mapped (λ _. For v words d) (one (is (codes "done"))))
        (in-follows head forms left)
        (λ u listed e2.
        follows-into bodies whole in_list in_list closed listed any_words
        (λ words. separators into λ _. one (is (codes "do")) into λ _. inner bodies (command bodies n) into λ d. mapped (λ _. For v words d) (one (is (codes "done"))))
        (over-listed-words bodies whole (head ∷ forms) listed)
        (λ words after e3.
        follows-into bodies whole in_list in_do closed after separators
        (λ _. one (is (codes "do")) into λ _. inner bodies (command bodies n) into λ d. mapped (λ _. For v words d) (one (is (codes "done"))))
        (heads-follow bodies whole head forms after (left-stops bodies whole is_word (tokens listed) (tokens after) (words_at (tokens listed)) words e3))
        (λ w before e4.
        follows-into bodies whole in_do body closed before (one (is (codes "do")))
        (λ _. inner bodies (command bodies n) into λ d. mapped (λ _. For v words d) (one (is (codes "done"))))
        (do-follows place forms before (separators-over (tokens after) (tokens before) w e4))
        (λ z more e5. turns-follow keyword.For place forms deep (For v words) more)))))

    -- ---- `if`

    -- a condition, `then`, a body, and what follows it
    branch-follows : {Y : Type 0} (place : ℕ) (forms : List Form) → suc (length forms) + n ≡ nest_limit → (f : Chains → Chains → Branches → Y) (rest : Reader Branches) (ps : List Placed) →
        ((left : List Placed) → length (tokens left) ≤ length (tokens ps) → closes (tokens left) ≡ true →
        Follows bodies whole (position (form_at keyword.If place stage.Branch ∷ forms) ahead.More) (position forms ahead.Closed) left (rest (tokens left))) →
        Follows bodies whole (position (form_at keyword.If place stage.Condition ∷ forms) ahead.Start) (position forms ahead.Closed) ps
        ((list (command bodies n) into λ c. then_word bodies into λ _. inner bodies (command bodies n) into λ d. mapped (f c d) rest) (tokens ps))
    branch-follows place forms deep f rest ps more =
        let condition = form_at keyword.If place stage.Condition in
        let branch = form_at keyword.If place stage.Branch in
        let closed = position forms ahead.Closed in
        follows-into bodies whole (position (condition ∷ forms) ahead.Start) (position (condition ∷ forms) ahead.More) closed ps (list (command bodies n))
        (λ c. then_word bodies into λ _. inner bodies (command bodies n) into λ d. mapped (f c d) rest)
        (list-follows bodies whole n commands condition forms ahead.Start deep refl ps (λ k c. refl))
        (λ c left e.
        follows-into bodies whole (position (condition ∷ forms) ahead.More) (position (branch ∷ forms) ahead.Body) closed left (then_word bodies)
        (λ _. inner bodies (command bodies n) into λ d. mapped (f c d) rest)
        (then-ends told bodies whole keyword.If place forms left (list-ends bodies (command bodies n) (command-shorter bodies n) (tokens ps) (tokens left) c e))
        (λ u inside e2.
        follows-into bodies whole (position (branch ∷ forms) ahead.Body) (position (branch ∷ forms) ahead.More) closed inside (inner bodies (command bodies n))
        (λ d. mapped (f c d) rest)
        (inner-follows bodies whole n commands told branch forms deep inside)
        (λ d behind_it e3.
        let few : length (tokens behind_it) ≤ length (tokens ps) =
        omega (arith, list-shorter bodies n (tokens ps) (tokens left) c e, then-shortens bodies (tokens left) (tokens inside) u e2, inner-shorter bodies n (tokens inside) (tokens behind_it) d e3) in
        follows-mapped bodies whole (position (branch ∷ forms) ahead.More) closed behind_it (f c d) (rest (tokens behind_it))
        (more behind_it few (inner-ends bodies (command bodies n) (command-shorter bodies n) (tokens inside) (tokens behind_it) d e3)))))

    branches-follow : (place : ℕ) (forms : List Form) → suc (length forms) + n ≡ nest_limit → (m : ℕ) (ps : List Placed) → length (tokens ps) ≤ m → closes (tokens ps) ≡ true →
        Follows bodies whole (position (form_at keyword.If place stage.Branch ∷ forms) ahead.More) (position forms ahead.Closed) ps (branches_within bodies (command bodies n) m (tokens ps))
    branches-follow place forms deep zero [] short c = absurd (let no : false ≡ true = c in cc)
    branches-follow place forms deep zero (p ∷ ps) short c = absurd (omega (arith, short))
    branches-follow place forms deep (suc m) ps short c =
        let branch = form_at keyword.If place stage.Branch in
        let otherwise = form_at keyword.If place stage.Otherwise in
        let more = position (branch ∷ forms) ahead.More in
        let closed = position forms ahead.Closed in
        by_test (begins (is (codes "elif")) (tokens ps))
        (λ h.
        let s = ends-with told bodies whole keyword.Elif branch forms ps refl h in
        let start = position (form_at keyword.If place stage.Condition ∷ forms) ahead.Start in
        let rest = list (command bodies n) into λ c. then_word bodies into λ _. inner bodies (command bodies n) into λ d. mapped (Elif c d) (branches_within bodies (command bodies n) m) in
        rw h
        (subst (λ ts. Reaches bodies whole (stuck bodies whole more ps) closed (rest ts)) s.1
        (follows-from bodies whole more start closed ps s.0 (rest (tokens s.0)) s.2
        (branch-follows place forms deep Elif (branches_within bodies (command bodies n) m) s.0
        (λ left few c. branches-follow place forms deep m left (omega (arith, behind-begun (is (codes "elif")) (tokens ps) h, ap length s.1)) c)))))
        (λ h.
        by_test (begins (is (codes "else")) (tokens ps))
        (λ g.
        let s = ends-with told bodies whole keyword.Else branch forms ps refl g in
        let body = position (otherwise ∷ forms) ahead.Body in
        let rest = inner bodies (command bodies n) into λ d. mapped (λ _. Else d) (one (is (codes "fi"))) in
        rw (h, g)
        (subst (λ ts. Reaches bodies whole (stuck bodies whole more ps) closed (rest ts)) s.1
        (follows-from bodies whole more body closed ps s.0 (rest (tokens s.0)) s.2
        (follows-into bodies whole body (position (otherwise ∷ forms) ahead.More) closed s.0 (inner bodies (command bodies n)) (λ d. mapped (λ _. Else d) (one (is (codes "fi"))))
        (inner-follows bodies whole n commands told otherwise forms deep s.0)
        (λ d left e.
        follows-mapped bodies whole (position (otherwise ∷ forms) ahead.More) closed left (λ _. Else d) (one (is (codes "fi")) (tokens left))
        (otherwise-ends told bodies whole keyword.If place forms left (inner-ends bodies (command bodies n) (command-shorter bodies n) (tokens s.0) (tokens left) d e)))))))
        (λ g.
        rw (h, g)
        (follows-mapped bodies whole more closed ps (λ _. Fi) (one (is (codes "fi")) (tokens ps)) (fi-ends told bodies whole keyword.If place forms ps c h g))))

    -- what an opening word leads to
    compound-follows : (k : Keyword) (place : ℕ) (forms : List Form) → suc (length forms) + n ≡ nest_limit → is_closing k ≡ false → (ps : List Placed) →
        Follows bodies whole (opened k place forms) (position forms ahead.Closed) ps (compound bodies (command bodies n) k (tokens ps))
    compound-follows keyword.If place forms deep opens ps =
        branch-follows place forms deep If (branches bodies (command bodies n)) ps
        (λ left few c. branches-follow place forms deep (length (tokens left)) left (le_refl (length (tokens left))) c)
    compound-follows keyword.For place forms deep opens ps = for-follows place forms deep ps
    compound-follows keyword.While place forms deep opens ps = loop-follows keyword.While While place forms deep ps
    compound-follows keyword.Until place forms deep opens ps = loop-follows keyword.Until Until place forms deep ps
    compound-follows keyword.Then place forms deep opens ps = absurd (let no : true ≡ false = opens in cc)
    compound-follows keyword.Elif place forms deep opens ps = absurd (let no : true ≡ false = opens in cc)
    compound-follows keyword.Else place forms deep opens ps = absurd (let no : true ≡ false = opens in cc)
    compound-follows keyword.Fi place forms deep opens ps = absurd (let no : true ≡ false = opens in cc)
    compound-follows keyword.Do place forms deep opens ps = absurd (let no : true ≡ false = opens in cc)
    compound-follows keyword.Done place forms deep opens ps = absurd (let no : true ≡ false = opens in cc)

  -- ---- commands

  closing-none : (k : Keyword) (p : Reader Command) (ts : List Token) → is_closing k ≡ true → compound bodies p k ts ≡ None
  closing-none keyword.If p ts c = absurd (let no : false ≡ true = c in cc)
  closing-none keyword.For p ts c = absurd (let no : false ≡ true = c in cc)
  closing-none keyword.While p ts c = absurd (let no : false ≡ true = c in cc)
  closing-none keyword.Until p ts c = absurd (let no : false ≡ true = c in cc)
  closing-none k p ts c = refl

  -- a reserved word
  reserved-step : (forms : List Form) (place : ℕ) (k : Keyword) → step_on bodies (position forms ahead.Operand) place (word_of k) ≡ reserved bodies (position forms ahead.Operand) place k
  reserved-step forms place k = begun-reserved bodies (position forms ahead.Operand) place (map Plain (spelling k)) k (keyword_of-spelling k)

  opening : (forms : List Form) (place : ℕ) (k : Keyword) → is_closing k ≡ false → (length forms == nest_limit) ≡ false → reserved bodies (position forms ahead.Operand) place k ≡ Ok (opened k place forms)
  opening forms place k c room = rw (c, room) refl

  no-room : (forms : List Form) (place : ℕ) (k : Keyword) → is_closing k ≡ false → (length forms == nest_limit) ≡ true → reserved bodies (position forms ahead.Operand) place k ≡ Err fault.Nest
  no-room forms place k c full = rw (c, full) refl

  closing-stuck : (forms : List Form) (ps more : List Placed) (place : ℕ) (k : Keyword) → ps ≡ (place, word_of k) ∷ more → is_closing k ≡ true → stuck bodies whole (position forms ahead.Operand) ps ≡ true
  closing-stuck forms ps more place k e c =
      let operand = position forms ahead.Operand in
      ap (stuck bodies whole operand) e
      ∙ stuck-off bodies whole operand place (word_of k) more fault.Unexpected (reserved-step forms place k ∙ reserved-early bodies operand place k c refl)

  pub commands-follow : (n : ℕ) → Commands bodies whole n
  commands-follow zero forms deep ps none =
      let operand = position forms ahead.Operand in
      let closed = position forms ahead.Closed in
      by_option (keyword_at (tokens ps))
      (λ h. follows-is bodies whole operand closed ps (command bodies zero (tokens ps)) (plain (tokens ps)) (command-plain bodies zero (tokens ps) h) (plain-follows bodies whole forms ps none h))
      (λ k h.
      let s = front ps (word_of k) (behind (tokens ps)) (keyword_at-some told (tokens ps) k h) in
      follows-is bodies whole operand closed ps (command bodies zero (tokens ps)) None (command-none bodies k (tokens ps) h)
      (by_test (is_closing k)
      (λ c. closing-stuck forms ps s.1 s.0 k s.2 c)
      (λ c.
      let full : (length forms == nest_limit) ≡ true = eq-eqb (length forms) nest_limit (omega (arith, deep)) in
      ap (stuck bodies whole operand) s.2
      ∙ stuck-off bodies whole operand s.0 (word_of k) s.1 fault.Nest (reserved-step forms s.0 k ∙ no-room forms s.0 k c full))))
  commands-follow (suc n) forms deep ps none =
      let operand = position forms ahead.Operand in
      let closed = position forms ahead.Closed in
      by_option (keyword_at (tokens ps))
      (λ h. follows-is bodies whole operand closed ps (command bodies (suc n) (tokens ps)) (plain (tokens ps)) (command-plain bodies (suc n) (tokens ps) h) (plain-follows bodies whole forms ps none h))
      (λ k h.
      let s = front ps (word_of k) (behind (tokens ps)) (keyword_at-some told (tokens ps) k h) in
      follows-is bodies whole operand closed ps (command bodies (suc n) (tokens ps)) (compound bodies (command bodies n) k (behind (tokens ps))) (command-compound bodies n k (tokens ps) h)
      (by_test (is_closing k)
      (λ c.
      follows-is bodies whole operand closed ps (compound bodies (command bodies n) k (behind (tokens ps))) None (closing-none k (command bodies n) (behind (tokens ps)) c)
      (closing-stuck forms ps s.1 s.0 k s.2 c))
      (λ c.
      let room : (length forms == nest_limit) ≡ false = ne_eqb (length forms) nest_limit (λ e. omega (arith, deep, e)) in
      let inside : suc (length forms) + n ≡ nest_limit = omega (arith, deep) in
      subst (λ ts. Reaches bodies whole (stuck bodies whole operand ps) closed (compound bodies (command bodies n) k ts)) s.3
      (follows-from bodies whole operand (opened k s.0 forms) closed ps s.1 (compound bodies (command bodies n) k (tokens s.1))
      (ap (stuck bodies whole operand) s.2
      ∙ stuck-on bodies whole operand (opened k s.0 forms) s.0 (word_of k) s.1 (reserved-step forms s.0 k ∙ opening forms s.0 k c room))
      (compound-follows n (commands-follow n) k s.0 forms inside c s.1)))))
