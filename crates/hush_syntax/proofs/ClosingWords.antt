-- Where the words lead that end lists.
use Rattle.std.proofs.Common.{◌≡◌, ℕ, Bool, true, false, List, [], ◌∷◌, map, codes, refl, sym, ◌∙◌, ap, subst, Some, None, Ok, Err, if◌then◌else◌}
use Rattle.std.proofs.lemmas.Bool.{and_parts}
use Rattle.hush_words.specs.Words.{Atom}
use Rattle.hush_words.specs.Words.Atom.{Plain}
use Rattle.hush_words.specs.Forms.{is_plain}
use Rattle.hush_words.specs.Tokens.{Token}
use Rattle.hush_words.specs.Tokens.Token.{Word, Newline, Semicolon, AndIf, OrIf}
use Rattle.hush_words.specs.Faults.{Placed}
use Rattle.hush_syntax.specs.declared.keywords.Keyword.{Keyword}
use Rattle.hush_syntax.specs.declared.keywords.Keyword.TheVariants as keyword
use Rattle.hush_syntax.specs.declared.nodes.Bodies.{Bodies}
use Rattle.hush_syntax.specs.declared.positions.Ahead.TheVariants as ahead
use Rattle.hush_syntax.specs.declared.positions.Form.{Form}
use Rattle.hush_syntax.specs.declared.positions.Stage.TheVariants as stage
use Rattle.hush_syntax.specs.declared.syntax_fault.FaultKind.TheVariants as fault
use Rattle.hush_syntax.specs.Grammar.{begins}
use Rattle.hush_syntax.specs.Halts.{Position, Step, ended, form_at, may_end, position, reserved, step_on}
use Rattle.hush_syntax.specs.Keywords.{keyword_of, spelling}
use Rattle.hush_syntax.specs.Reading.{behind, closes, elif_at_once, is, is_closing, may_be_empty, one, then_word}
use Rattle.hush_syntax.proofs.Fronts.{by_test, keyword_of-spelling}
use Rattle.hush_syntax.proofs.Forms.{FormsAreTold, begins_is, is_plain-plain, keyword_of-some}
use Rattle.hush_syntax.proofs.Readers.{by_option}
use Rattle.hush_syntax.proofs.InLists.{alike, begun-plain, begun-reserved, reserved-early, reserved-ends}
use Rattle.hush_syntax.proofs.Stuck.{Follows, Reaches, closer, follows-into, front, reaches-is, stuck, stuck-off, tokens}

abbrev pub word_of : Keyword → Token
word_of k = Word (map Plain (spelling k))

module _ (told : FormsAreTold) (bodies : Bodies) (whole : Bool) where
  -- whether tokens are stuck behind a step
  abbrev pub after : Step → List Placed → Bool
  after s ps =
      elim s [
        | Ok q ↦ stuck bodies whole q ps
        | Err kind ↦ true
      ]

  pub ends-list : (f : Form) (forms : List Form) (place : ℕ) (k : Keyword) → is_closing k ≡ true →
      step_on bodies (position (f ∷ forms) ahead.More) place (word_of k) ≡ ended f forms f.stage k
  ends-list f forms place k c =
      begun-reserved bodies (position (f ∷ forms) ahead.More) place (map Plain (spelling k)) k (keyword_of-spelling k)
      ∙ reserved-ends bodies (position (f ∷ forms) ahead.More) place k c refl

  -- one of these words
  pub one-ends : (j : Keyword) (f : Form) (forms : List Form) (to : Position) (ps : List Placed) → closes (tokens ps) ≡ true →
      ((k : Keyword) (place : ℕ) (more : List Placed) → ps ≡ (place, word_of k) ∷ more →
      Reaches bodies whole (after (ended f forms f.stage k) more) to (one (is (spelling j)) (word_of k ∷ tokens more))) →
      Follows bodies whole (position (f ∷ forms) ahead.More) to ps (one (is (spelling j)) (tokens ps))
  one-ends j f forms to ps c cases =
      let s = closer told ps c in
      let from = position (f ∷ forms) ahead.More in
      subst (λ qs. Follows bodies whole from to qs (one (is (spelling j)) (tokens qs))) (sym s.4)
      (reaches-is bodies whole (stuck bodies whole from ((s.1, word_of s.0) ∷ s.2)) (after (ended f forms f.stage s.0) s.2) to (one (is (spelling j)) (word_of s.0 ∷ tokens s.2))
      (ap (λ (x : Step). after x s.2) (ends-list f forms s.1 s.0 s.3)) (cases s.0 s.1 s.2 s.4))

  then-case : (k : Keyword) (kw : Keyword) (place : ℕ) (forms : List Form) (more : List Placed) →
      Reaches bodies whole (after (ended (form_at kw place stage.Condition) forms stage.Condition k) more) (position (form_at kw place stage.Branch ∷ forms) ahead.Then)
      (one (is (codes "then")) (word_of k ∷ tokens more))
  unfolding is_plain
  then-case keyword.Then kw place forms more = (more, refl, refl)
  then-case k kw place forms more = refl

  do-case : (k : Keyword) (kw : Keyword) (place : ℕ) (forms : List Form) (more : List Placed) →
      Reaches bodies whole (after (ended (form_at kw place stage.Head) forms stage.Head k) more) (position (form_at kw place stage.Body ∷ forms) ahead.Body)
      (one (is (codes "do")) (word_of k ∷ tokens more))
  unfolding is_plain
  do-case keyword.Do kw place forms more = (more, refl, refl)
  do-case k kw place forms more = refl

  done-case : (k : Keyword) (kw : Keyword) (place : ℕ) (forms : List Form) (more : List Placed) →
      Reaches bodies whole (after (ended (form_at kw place stage.Body) forms stage.Body k) more) (position forms ahead.Closed)
      (one (is (codes "done")) (word_of k ∷ tokens more))
  unfolding is_plain
  done-case keyword.Done kw place forms more = (more, refl, refl)
  done-case k kw place forms more = refl

  otherwise-case : (k : Keyword) (kw : Keyword) (place : ℕ) (forms : List Form) (more : List Placed) →
      Reaches bodies whole (after (ended (form_at kw place stage.Otherwise) forms stage.Otherwise k) more) (position forms ahead.Closed)
      (one (is (codes "fi")) (word_of k ∷ tokens more))
  unfolding is_plain
  otherwise-case keyword.Fi kw place forms more = (more, refl, refl)
  otherwise-case k kw place forms more = refl

  fi-case : (k : Keyword) (kw : Keyword) (place : ℕ) (forms : List Form) (more : List Placed) →
      is_plain (codes "elif") (map Plain (spelling k)) ≡ false → is_plain (codes "else") (map Plain (spelling k)) ≡ false →
      Reaches bodies whole (after (ended (form_at kw place stage.Branch) forms stage.Branch k) more) (position forms ahead.Closed)
      (one (is (codes "fi")) (word_of k ∷ tokens more))
  unfolding is_plain
  fi-case keyword.Fi kw place forms more a b = (more, refl, refl)
  fi-case keyword.Elif kw place forms more a b = absurd (let no : true ≡ false = a in cc)
  fi-case keyword.Else kw place forms more a b = absurd (let no : true ≡ false = b in cc)
  fi-case k kw place forms more a b = refl

  pub do-ends : (kw : Keyword) (place : ℕ) (forms : List Form) (ps : List Placed) → closes (tokens ps) ≡ true →
      Follows bodies whole (position (form_at kw place stage.Head ∷ forms) ahead.More) (position (form_at kw place stage.Body ∷ forms) ahead.Body) ps (one (is (codes "do")) (tokens ps))
  do-ends kw place forms ps c =
      one-ends keyword.Do (form_at kw place stage.Head) forms (position (form_at kw place stage.Body ∷ forms) ahead.Body) ps c (λ k p more e. do-case k kw place forms more)

  pub done-ends : (kw : Keyword) (place : ℕ) (forms : List Form) (ps : List Placed) → closes (tokens ps) ≡ true →
      Follows bodies whole (position (form_at kw place stage.Body ∷ forms) ahead.More) (position forms ahead.Closed) ps (one (is (codes "done")) (tokens ps))
  done-ends kw place forms ps c =
      one-ends keyword.Done (form_at kw place stage.Body) forms (position forms ahead.Closed) ps c (λ k p more e. done-case k kw place forms more)

  pub otherwise-ends : (kw : Keyword) (place : ℕ) (forms : List Form) (ps : List Placed) → closes (tokens ps) ≡ true →
      Follows bodies whole (position (form_at kw place stage.Otherwise ∷ forms) ahead.More) (position forms ahead.Closed) ps (one (is (codes "fi")) (tokens ps))
  otherwise-ends kw place forms ps c =
      one-ends keyword.Fi (form_at kw place stage.Otherwise) forms (position forms ahead.Closed) ps c (λ k p more e. otherwise-case k kw place forms more)

  pub fi-ends : (kw : Keyword) (place : ℕ) (forms : List Form) (ps : List Placed) → closes (tokens ps) ≡ true →
      begins (is (codes "elif")) (tokens ps) ≡ false → begins (is (codes "else")) (tokens ps) ≡ false →
      Follows bodies whole (position (form_at kw place stage.Branch ∷ forms) ahead.More) (position forms ahead.Closed) ps (one (is (codes "fi")) (tokens ps))
  fi-ends kw place forms ps c a b =
      one-ends keyword.Fi (form_at kw place stage.Branch) forms (position forms ahead.Closed) ps c
      (λ k p more e.
      fi-case k kw place forms more
      (sym (ap (λ qs. begins (is (codes "elif")) (tokens qs)) e) ∙ a)
      (sym (ap (λ qs. begins (is (codes "else")) (tokens qs)) e) ∙ b))

  -- one that is there
  pub ends-with : (j : Keyword) (f : Form) (forms : List Form) (ps : List Placed) → is_closing j ≡ true → begins (is (spelling j)) (tokens ps) ≡ true →
      (more : List Placed) × (tokens more ≡ behind (tokens ps)) × (stuck bodies whole (position (f ∷ forms) ahead.More) ps ≡ after (ended f forms f.stage j) more)
  ends-with j f forms ps c there =
      let s = front ps (word_of j) (behind (tokens ps)) (begins_is told (spelling j) (tokens ps) there) in (
        s.1,
        s.3,
        ap (λ qs. stuck bodies whole (position (f ∷ forms) ahead.More) qs) s.2 ∙ ap (λ (x : Step). after x s.1) (ends-list f forms s.0 j c),
      )

  -- ---- `then`

  elif-stuck : (f : Form) (forms : List Form) (ps : List Placed) → elif_at_once bodies (tokens ps) ≡ true → stuck bodies whole (position (f ∷ forms) ahead.Then) ps ≡ true
  elif-stuck f forms ps at_once =
      let there = (and_parts (may_be_empty bodies) (begins (is (codes "elif")) (tokens ps)) at_once).1 in
      let s = front ps (word_of keyword.Elif) (behind (tokens ps)) (begins_is told (codes "elif") (tokens ps) there) in
      let p = position (f ∷ forms) ahead.Then in
      ap (stuck bodies whole p) s.2
      ∙ stuck-off bodies whole p s.0 (word_of keyword.Elif) s.1 fault.Unexpected
      (begun-reserved bodies p s.0 (map Plain (spelling keyword.Elif)) keyword.Elif (keyword_of-spelling keyword.Elif) ∙ reserved-early bodies p s.0 keyword.Elif refl refl)

  may-alike : (k : Keyword) (w : List Atom) (ts : List Token) → keyword_of w ≡ Some k → elif_at_once bodies (Word w ∷ ts) ≡ false →
      may_end bodies ahead.Then k ≡ may_end bodies ahead.Body k
  may-alike keyword.Elif w ts e not_once =
      by_test (may_be_empty bodies)
      (λ h.
      let plain : is_plain (codes "elif") w ≡ true = ap (is_plain (codes "elif")) (keyword_of-some told w keyword.Elif e) ∙ is_plain-plain told (codes "elif") in
      absurd (let no : true ≡ false = sym (rw (h, plain) refl) ∙ not_once in cc))
      (λ h. sym h)
  may-alike k w ts e not_once = refl

  reserved-alike : (f : Form) (forms : List Form) (place : ℕ) (k : Keyword) → may_end bodies ahead.Then k ≡ may_end bodies ahead.Body k →
      reserved bodies (position (f ∷ forms) ahead.Then) place k ≡ reserved bodies (position (f ∷ forms) ahead.Body) place k
  reserved-alike f forms place k e = rw e refl

  then-body : (f : Form) (forms : List Form) (ps : List Placed) → elif_at_once bodies (tokens ps) ≡ false →
      stuck bodies whole (position (f ∷ forms) ahead.Then) ps ≡ stuck bodies whole (position (f ∷ forms) ahead.Body) ps
  then-body f forms [] e = refl
  then-body f forms ((place, Word w) ∷ ps) e =
      let p = position (f ∷ forms) ahead.Then in
      let q = position (f ∷ forms) ahead.Body in
      alike bodies whole p q place (Word w) ps
      (by_option (keyword_of w)
      (λ h. begun-plain bodies p place w h ∙ sym (begun-plain bodies q place w h))
      (λ k h. begun-reserved bodies p place w k h ∙ reserved-alike f forms place k (may-alike k w (tokens ps) h e) ∙ sym (begun-reserved bodies q place w k h)))
  then-body f forms ((place, Newline) ∷ ps) e = refl
  then-body f forms ((place, Semicolon) ∷ ps) e = refl
  then-body f forms ((place, AndIf) ∷ ps) e = refl
  then-body f forms ((place, OrIf) ∷ ps) e = refl

  after-then : (f : Form) (forms : List Form) (u : Unit {0}) (ps : List Placed) →
      Follows bodies whole (position (f ∷ forms) ahead.Then) (position (f ∷ forms) ahead.Body) ps (if elif_at_once bodies (tokens ps) then None else Some (u, tokens ps))
  after-then f forms u ps =
      by_test (elif_at_once bodies (tokens ps)) (λ h. rw h (elif-stuck f forms ps h)) (λ h. rw h (ps, refl, then-body f forms ps h))

  pub then-ends : (kw : Keyword) (place : ℕ) (forms : List Form) (ps : List Placed) → closes (tokens ps) ≡ true →
      Follows bodies whole (position (form_at kw place stage.Condition ∷ forms) ahead.More) (position (form_at kw place stage.Branch ∷ forms) ahead.Body) ps (then_word bodies (tokens ps))
  then-ends kw place forms ps c =
      let mid = position (form_at kw place stage.Branch ∷ forms) ahead.Then in
      follows-into bodies whole (position (form_at kw place stage.Condition ∷ forms) ahead.More) mid (position (form_at kw place stage.Branch ∷ forms) ahead.Body) ps
      (one (is (codes "then"))) (λ u r. if elif_at_once bodies r then None else Some (u, r))
      (one-ends keyword.Then (form_at kw place stage.Condition) forms mid ps c (λ k p more e. then-case k kw place forms more))
      (λ u left e. after-then (form_at kw place stage.Branch) forms u left)
