-- What the steps of the parser leave of the words in the table and those still to come.
use Rattle.std.specs.Prelude.{◌≡◌, ℕ, Bool, true, false, List, [], ◌∷◌, ◌++◌, map, drop, Option, Some, None, is_some, not, Result, Ok, Err, OnOk, if◌then◌else◌}
use Rattle.std.proofs.Common.{refl, sym, ◌∙◌, ap, append-nil, append_assoc}
use Rattle.std.proofs.lemmas.List.{map-append}
use Rattle.hush_words.specs.Words.{Atom}
use Rattle.hush_words.specs.Forms.{assignment_of}
use Rattle.hush_words.specs.Tokens.{Token}
use Rattle.hush_words.specs.Tokens.Token.{Word as a_word}
use Rattle.hush_words.specs.declared.forms.Assignment.{Assignment}
use Rattle.hush_words.specs.Parts.{Written, word_atoms}
use Rattle.hush_words.specs.declared.parts.Word.{Word}
use Rattle.hush_syntax.specs.declared.cursor.Tokens.{Tokens}
use Rattle.hush_syntax.specs.declared.keywords.Keyword.{Keyword}
use Rattle.hush_syntax.specs.declared.nodes.NodeId.{NodeId}
use Rattle.hush_syntax.specs.declared.nodes.Operator.{Operator}
use Rattle.hush_syntax.specs.declared.stored.Block.{Block}
use Rattle.hush_syntax.specs.declared.stored.Stored.{Stored}
use Rattle.hush_syntax.specs.declared.table.Builder.{Builder}
use Rattle.hush_syntax.specs.declared.table.Table.{Table}
use Rattle.hush_syntax.specs.Answers.{IsAt, PlacesWord, assigned_of, left_in, placed_in, words_left}
use Rattle.hush_syntax.specs.Builders.{Put, SettlesBranches, SettlesChains, SettlesLinks, SameWords, words_due}
use Rattle.hush_syntax.specs.CommandWords.{Spot, Beginning, Within, Naming, Listing, PlacedWord, begun_words, spot_behind, word_placed, words_from}
use Rattle.hush_syntax.specs.Grammar.{begins, is_separator}
use Rattle.hush_syntax.specs.Keywords.{keyword_of, spelling}
use Rattle.hush_syntax.specs.Reading.{behind, is, is_end, keyword_at, one, operator_at, skip}
use Rattle.hush_syntax.specs.Stored.{Members}
use Rattle.hush_syntax.proofs.Fronts.{by_test}
use Rattle.hush_syntax.proofs.PassedWords.{begins-command, spot_after, ends-words, passes-nothing, passes-operator, passes-reserved, skips-some, takes-name}

-- ---- the table

abbrev pub Keeps : Builder → Builder → Type 0
Keeps old new = new.table.words.items ≡ old.table.words.items

pub adds : (old new : Builder) → new.table ≡ old.table → Keeps old new
adds old new e = ap (λ (t : Table). t.words.items) e

pub puts : (old new : Builder) (n : Stored) (id : NodeId) → Put old new n id → Keeps old new
puts old new n id p = ap (λ (m : Members). m.words) p.2

pub settles-chains : (old new : Builder) (mark : ℕ) (block : Block) → SettlesChains old new mark block → Keeps old new
settles-chains old new mark block s = ap (λ (m : Members). m.words) s.3 ∙ append-nil old.table.words.items

pub settles-links : (old new : Builder) (mark : ℕ) (block : Block) → SettlesLinks old new mark block → Keeps old new
settles-links old new mark block s = ap (λ (m : Members). m.words) s.3 ∙ append-nil old.table.words.items

pub settles-branches : (old new : Builder) (mark : ℕ) (block : Block) → SettlesBranches old new mark block → Keeps old new
settles-branches old new mark block s = ap (λ (m : Members). m.words) s.3 ∙ append-nil old.table.words.items

-- ---- the table and the cursor

-- tokens were passed
pub moves : (text : Written) (from to : Spot) (b : Builder) (before after : Tokens) → words_left text to after ≡ words_left text from before → SameWords text from b before to b after
moves text from to b before after e = ap (λ l. map (word_placed text) b.table.words.items ++ l) e

-- the table kept its words
pub stays : (text : Written) (spot : Spot) (old new : Builder) (c : Tokens) → Keeps old new → SameWords text spot old c spot new c
stays text spot old new c e = ap (λ ws. map (word_placed text) ws ++ words_left text spot c) e

-- what a call answers, after a step that went before it, and where its result is handed on
pub after : {T E : Type 0} {A : Type 0} (r : Result T E) (x y z : A) → OnOk r (x ≡ y) → y ≡ z → OnOk r (x ≡ z)
after (Ok t) x y z e f = e ∙ f
after (Err f) x y z e g = tt

pub under : {T E : Type 0} (P Q : Type 0) (r : Result T E) → OnOk r (P → Q) → P → OnOk r Q
under P Q (Ok t) f p = f p
under P Q (Err e) f p = tt

-- ---- operators and words that were looked at

pub takes-operator : (text : Written) (old new : Tokens) → IsAt text old → IsAt text new → (o : Option Operator) → o ≡ operator_at (left_in text old) →
    left_in text new ≡ (if is_some o then behind (left_in text old) else left_in text old) → words_left text (spot_after o) new ≡ words_left text Within old
takes-operator text old new at now None e rest = passes-nothing text old new at now Within rest
takes-operator text old new at now (Some o) e rest = passes-operator text old new at now o (sym e) rest

pub no-operator : (o : Option Operator) (b : Bool) → is_some o ≡ not b → b ≡ true → spot_after o ≡ Within
no-operator None b e t = refl
no-operator (Some o) b e t = absurd (let no : true ≡ false = e ∙ ap not t in cc)

pub takes-reserved : (text : Written) (old new : Tokens) → IsAt text old → IsAt text new → (k : Keyword) → begins (is (spelling k)) (left_in text old) ≡ true →
    left_in text new ≡ behind (left_in text old) → words_left text (spot_behind k) new ≡ words_left text Beginning old
takes-reserved text old new at now k there rest =
    let taken : one (is (spelling k)) (left_in text old) ≡ Some (tt, behind (left_in text old)) = rw there refl in
    passes-reserved text old new at now k tt (taken ∙ ap (λ l. Some (tt, l)) (sym rest))

-- separators, and the end
pub nothing : (ts : List Token) → is_end ts ≡ true → ts ≡ []
nothing [] e = refl
nothing (t ∷ ts) e = absurd (let no : false ≡ true = e in cc)

stops : (ts : List Token) → begins is_separator ts ≡ false → skip is_separator ts ≡ ts
stops [] e = refl
stops (t ∷ ts) e = rw e refl

pub ends : (text : Written) (old new : Tokens) → IsAt text old → IsAt text new → left_in text new ≡ skip is_separator (left_in text old) → is_end (left_in text new) ≡ true →
    words_left text Within old ≡ []
ends text old new at now e done =
    let none = nothing (left_in text new) done in
    by_test (begins is_separator (left_in text old))
    (λ h. sym (skips-some text old new at now h e) ∙ ends-words text Beginning new none)
    (λ h. ends-words text Within old (sym (stops (left_in text old) h) ∙ sym e ∙ none))

-- the name of a `for`, and its `in`
pub names : (text : Written) (b : Builder) (old mid new : Tokens) (name : Word) → PlacesWord text (placed_in text old) (placed_in text mid) name →
    words_left text Within new ≡ words_left text Listing mid →
    map (word_placed text) b.table.words.items ++ word_placed text name ∷ words_left text Within new ≡ words_due text Naming b old
names text b old mid new name e rest =
    ap (λ l. map (word_placed text) b.table.words.items ++ l) (ap (λ l. word_placed text name ∷ l) rest ∙ sym (takes-name text old mid name e))

-- no word is left
pub all-taken : (text : Written) (spot : Spot) (old new : Builder) (c : Tokens) → Keeps old new → words_left text spot c ≡ [] →
    map (word_placed text) new.table.words.items ≡ words_due text spot old c
all-taken text spot old new c kept none =
    ap (map (word_placed text)) kept ∙ sym (append-nil (map (word_placed text) old.table.words.items)) ∙ ap (λ l. map (word_placed text) old.table.words.items ++ l) (sym none)

-- an assignment was put
pub assigned : {T E : Type 0} (r : Result T E) (text : Written) (old new : Builder) (before mid after : Tokens) (w : Word) (a : Assignment) →
    OnOk r (new.table.words.items ≡ old.table.words.items ++ a.name ∷ a.value ∷ []) → after ≡ mid → placed_in text mid ≡ drop 1 (placed_in text before) →
    PlacesWord text (placed_in text before) (drop 1 (placed_in text before)) w → left_in text before ≡ a_word (word_atoms text w) ∷ behind (left_in text before) →
    ◌≡◌ {A = Option (List ℕ × List Atom)} (Some (assigned_of text a)) (assignment_of (word_atoms text w)) →
    map (word_placed text) (a.name ∷ a.value ∷ []) ≡ begun_words text w.start (word_atoms text w) (Some (assigned_of text a)) →
    OnOk r (keyword_at (left_in text before) ≡ None → SameWords text Beginning old before Within new after)
assigned (Err e) text old new before mid after w a put same next placed first told sides = tt
assigned (Ok t) text old new before mid after w a put same next placed first told sides = λ none.
    let f : Word → PlacedWord = word_placed text in
    let own = old.table.words.items in
    let both = a.name ∷ a.value ∷ [] in
    let rest = drop 1 (placed_in text before) in
    let kw : keyword_of (word_atoms text w) ≡ None = ap keyword_at (sym first) ∙ none in
    let at_end : words_left text Within after ≡ words_from text Within rest = ap (words_left text Within) same ∙ ap (words_from text Within) next in
    ap (λ ws. map f ws ++ words_left text Within after) put
    ∙ ap (λ l. l ++ words_left text Within after) (map-append f own both)
    ∙ append_assoc (map f own) (map f both) (words_left text Within after)
    ∙ ap (λ l. map f own ++ (map f both ++ l)) at_end
    ∙ ap (λ l. map f own ++ (l ++ words_from text Within rest)) (sides ∙ ap (begun_words text w.start (word_atoms text w)) told)
    ∙ ap (λ l. map f own ++ l) (sym (begins-command text before rest w placed kw))
