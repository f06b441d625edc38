-- The words of a text's commands are those of the tree that it spells.
use Rattle.std.proofs.Common.{◌≡◌, inl, inr, ℕ, ◌+◌, true, false, not, List, [], ◌∷◌, ◌++◌, map, codes, length, append_assoc, append-nil, refl, sym, ◌∙◌, ap, subst, Option, Some, None, is_some}
use Rattle.std.proofs.lemmas.Bool.{and_parts, not-true}
use Rattle.std.proofs.lemmas.List.{map-append}
use Rattle.std.specs.List.{list_all, flat_map}
use Rattle.hush_words.specs.Words.{Atom}
use Rattle.hush_words.specs.Words.Atom.{Plain}
use Rattle.hush_words.specs.Forms.{assignment_of}
use Rattle.hush_words.specs.Faults.{Placed, placed, placed_left, placed_tokens}
use Rattle.hush_words.specs.Laws.{TokensAreRead}
use Rattle.hush_words.specs.Parts.{Written, written}
use Rattle.hush_words.specs.Reading.{all, lexeme_at, tokens_if_whole, tokens_of}
use Rattle.hush_words.specs.Tokens.{Token, Lexeme, lexeme_text, lexeme_tokens, has_no_nul}
use Rattle.hush_words.specs.Tokens.Token.{Word, Newline, Semicolon, AndIf, OrIf}
use Rattle.hush_words.proofs.Fronts.{on_test}
use Rattle.hush_words.specs.declared.parts.Word as range
use Rattle.hush_syntax.specs.declared.nodes.Bodies.{Bodies}
use Rattle.hush_syntax.specs.declared.keywords.Keyword.{Keyword}
use Rattle.hush_syntax.specs.declared.keywords.Keyword.TheVariants as keyword
use Rattle.hush_syntax.specs.declared.nodes.Operator.{Operator}
use Rattle.hush_syntax.specs.declared.nodes.Operator.TheVariants.{And, Or}
use Rattle.hush_syntax.specs.Keywords.{keyword_of, spelling, is_reserved}
use Rattle.hush_syntax.specs.Grammar.{Command, Simple, Assign, If, For, While, Until, Branches, Elif, Else, Fi, Chain, First, Links, Link, End, Chains, Last, More, ◌then◌, AfterThen, Is, IsName, IsOperator, AreWords, is_newline, is_separator, AnyNewlines, AnySeparators, Separators, Spells, SpellsBranches, SpellsChain, SpellsLinks, SpellsList, SpellsChains, SpellsScript, SpellsIn, SpellsInner}
use Rattle.hush_syntax.specs.CommandWords.{Spot, Beginning, Within, Naming, Listing, spot_behind, PlacedWord, begun_words, words_from, words_of, word_placed, Leaf, leaf, leaf_in, name_leaf, leaves, branch_leaves, chain_leaves, link_leaves, list_leaves, script_leaves}
use Rattle.hush_syntax.specs.Laws.{WordsAreTold}
use Rattle.hush_syntax.proofs.Fronts.{keyword_of-spelling, inner-is}
use Rattle.hush_syntax.proofs.FindParts.{keyword_of-unreserved, unassigned, after-is}
use Rattle.hush_syntax.proofs.Forms.{FormsAreTold, keyword_of-assignment, assignment_of-spelled, name_of-spelled}

-- ---- the same words by the tokens alone

-- the first word of a command
abbrev begun_leaves : List Atom → Option (List ℕ × List Atom) → List Leaf
begun_leaves w None = leaf w ∷ []
begun_leaves w (Some a) = leaf (map Plain a.0) ∷ leaf a.1 ∷ []

-- the words of commands among these tokens, the first of which is at such a spot
abbrev leaves_from : Spot → List Token → List Leaf
leaves_from spot [] = []
leaves_from Beginning (Word w ∷ ts) =
    elim (keyword_of w) [
      | Some k ↦ leaves_from (spot_behind k) ts
      | None ↦ begun_leaves w (assignment_of w) ++ leaves_from Within ts
    ]
leaves_from Within (Word w ∷ ts) = leaf w ∷ leaves_from Within ts
leaves_from Naming (Word w ∷ ts) = leaf w ∷ leaves_from Listing ts
leaves_from Listing (Word w ∷ ts) = leaves_from Within ts
leaves_from spot (Newline ∷ ts) = leaves_from Beginning ts
leaves_from spot (Semicolon ∷ ts) = leaves_from Beginning ts
leaves_from spot (AndIf ∷ ts) = leaves_from Beginning ts
leaves_from spot (OrIf ∷ ts) = leaves_from Beginning ts

abbrev placed_leaf : PlacedWord → Leaf
placed_leaf w = leaf w.1

abbrev token : Placed → Token
token p = p.1

begun-leaves : (text : Written) (place : ℕ) (w : List Atom) (o : Option (List ℕ × List Atom)) → map placed_leaf (begun_words text place w o) ≡ begun_leaves w o
begun-leaves text place w None = refl
begun-leaves text place w (Some a) = refl

-- a first word, by the reserved word that it is
first-leaves : (text : Written) (place : ℕ) (w : List Atom) (ts : List Placed) (o : Option Keyword) →
    ((spot : Spot) → map placed_leaf (words_from text spot ts) ≡ leaves_from spot (map token ts)) →
    map placed_leaf (elim o as (λ _. List PlacedWord) [ Some k ↦ words_from text (spot_behind k) ts | None ↦ begun_words text place w (assignment_of w) ++ words_from text Within ts ]) ≡
    (elim o as (λ _. List Leaf) [ Some k ↦ leaves_from (spot_behind k) (map token ts) | None ↦ begun_leaves w (assignment_of w) ++ leaves_from Within (map token ts) ])
first-leaves text place w ts (Some k) more = more (spot_behind k)
first-leaves text place w ts None more =
    map-append placed_leaf (begun_words text place w (assignment_of w)) (words_from text Within ts)
    ∙ ap (λ (l : List Leaf). l ++ map placed_leaf (words_from text Within ts)) (begun-leaves text place w (assignment_of w))
    ∙ ap (λ (l : List Leaf). begun_leaves w (assignment_of w) ++ l) (more Within)

words-leaves : (text : Written) (ts : List Placed) (spot : Spot) → map placed_leaf (words_from text spot ts) ≡ leaves_from spot (map token ts)
unfolding words_from
words-leaves text [] spot = refl
words-leaves text ((place, Word w) ∷ ts) Beginning = first-leaves text place w ts (keyword_of w) (words-leaves text ts)
words-leaves text ((place, Word w) ∷ ts) Within = ap (λ (l : List Leaf). leaf w ∷ l) (words-leaves text ts Within)
words-leaves text ((place, Word w) ∷ ts) Naming = ap (λ (l : List Leaf). leaf w ∷ l) (words-leaves text ts Listing)
words-leaves text ((place, Word w) ∷ ts) Listing = words-leaves text ts Within
words-leaves text ((place, Newline) ∷ ts) Beginning = words-leaves text ts Beginning
words-leaves text ((place, Newline) ∷ ts) Within = words-leaves text ts Beginning
words-leaves text ((place, Newline) ∷ ts) Naming = words-leaves text ts Beginning
words-leaves text ((place, Newline) ∷ ts) Listing = words-leaves text ts Beginning
words-leaves text ((place, Semicolon) ∷ ts) Beginning = words-leaves text ts Beginning
words-leaves text ((place, Semicolon) ∷ ts) Within = words-leaves text ts Beginning
words-leaves text ((place, Semicolon) ∷ ts) Naming = words-leaves text ts Beginning
words-leaves text ((place, Semicolon) ∷ ts) Listing = words-leaves text ts Beginning
words-leaves text ((place, AndIf) ∷ ts) Beginning = words-leaves text ts Beginning
words-leaves text ((place, AndIf) ∷ ts) Within = words-leaves text ts Beginning
words-leaves text ((place, AndIf) ∷ ts) Naming = words-leaves text ts Beginning
words-leaves text ((place, AndIf) ∷ ts) Listing = words-leaves text ts Beginning
words-leaves text ((place, OrIf) ∷ ts) Beginning = words-leaves text ts Beginning
words-leaves text ((place, OrIf) ∷ ts) Within = words-leaves text ts Beginning
words-leaves text ((place, OrIf) ∷ ts) Naming = words-leaves text ts Beginning
words-leaves text ((place, OrIf) ∷ ts) Listing = words-leaves text ts Beginning

-- a first word, reserved or not
begun-reserved : (w : List Atom) (k : Keyword) (ts : List Token) → keyword_of w ≡ Some k → leaves_from Beginning (Word w ∷ ts) ≡ leaves_from (spot_behind k) ts
begun-reserved w k ts e =
    ap (λ (o : Option Keyword). elim o as (λ _. List Leaf) [ Some k ↦ leaves_from (spot_behind k) ts | None ↦ begun_leaves w (assignment_of w) ++ leaves_from Within ts ]) e

begun-unreserved : (w : List Atom) (ts : List Token) → keyword_of w ≡ None → leaves_from Beginning (Word w ∷ ts) ≡ begun_leaves w (assignment_of w) ++ leaves_from Within ts
begun-unreserved w ts e =
    ap (λ (o : Option Keyword). elim o as (λ _. List Leaf) [ Some k ↦ leaves_from (spot_behind k) ts | None ↦ begun_leaves w (assignment_of w) ++ leaves_from Within ts ]) e

-- ---- the parts of the grammar

-- what P says tells these words, and leads from one spot to another
record Tells (from : Spot) (P : List Token → Type 0) (words : List Leaf) (to : Spot) : Type 0 where
  pub tells : (a rest : List Token) → P a → leaves_from from (a ++ rest) ≡ words ++ leaves_from to rest

in_turn : {P Q : List Token → Type 0} {from mid to : Spot} {u v : List Leaf} → Tells from P u mid → Tells mid Q v to → Tells from (P then Q) (u ++ v) to
in_turn {P} {Q} {from} {mid} {to} {u} {v} first second = record {
  tells = λ ts rest s.
      rw (s.2, append_assoc s.0 s.1 rest)
      (first.tells s.0 (s.1 ++ rest) s.3 ∙ ap (λ (l : List Leaf). u ++ l) (second.tells s.1 rest s.4) ∙ sym (append_assoc u v (leaves_from to rest)));
}

-- the last part tells none
and_then : {P Q : List Token → Type 0} {from mid to : Spot} {u : List Leaf} → Tells from P u mid → Tells mid Q [] to → Tells from (P then Q) u to
and_then {P} {Q} {from} {mid} {to} {u} first second = record {
  tells = λ ts rest s.
      rw (s.2, append_assoc s.0 s.1 rest)
      (first.tells s.0 (s.1 ++ rest) s.3 ∙ ap (λ (l : List Leaf). u ++ l) (second.tells s.1 rest s.4));
}

grouped : {P : List Token → Type 0} {from to : Spot} (u v w : List Leaf) → Tells from P (u ++ (v ++ w)) to → Tells from P (u ++ v ++ w) to
grouped {P} {from} {to} u v w p = subst (λ l. Tells from P l to) (sym (append_assoc u v w)) p

reserved : (k : Keyword) → Tells Beginning (Is (spelling k)) [] (spot_behind k)
reserved k = record { tells = λ a rest s. rw s (begun-reserved (map Plain (spelling k)) k rest (keyword_of-spelling k)) }

separators-leaves : (a rest : List Token) → list_all is_separator a ≡ true → leaves_from Beginning (a ++ rest) ≡ leaves_from Beginning rest
separators-leaves [] rest s = refl
separators-leaves (Word w ∷ a) rest s = absurd (let no : false ≡ true = s in cc)
separators-leaves (Newline ∷ a) rest s = separators-leaves a rest s
separators-leaves (Semicolon ∷ a) rest s = separators-leaves a rest s
separators-leaves (AndIf ∷ a) rest s = absurd (let no : false ≡ true = s in cc)
separators-leaves (OrIf ∷ a) rest s = absurd (let no : false ≡ true = s in cc)

ended-leaves : (a rest : List Token) → Separators a → leaves_from Within (a ++ rest) ≡ leaves_from Beginning rest
ended-leaves [] rest s = absurd (let no : false ≡ true = s.0 in cc)
ended-leaves (Word w ∷ a) rest s = absurd (let no : false ≡ true = s.0 in cc)
ended-leaves (Newline ∷ a) rest s = separators-leaves a rest s.1
ended-leaves (Semicolon ∷ a) rest s = separators-leaves a rest s.1
ended-leaves (AndIf ∷ a) rest s = absurd (let no : false ≡ true = s.0 in cc)
ended-leaves (OrIf ∷ a) rest s = absurd (let no : false ≡ true = s.0 in cc)

newlines-leaves : (a rest : List Token) → list_all is_newline a ≡ true → leaves_from Beginning (a ++ rest) ≡ leaves_from Beginning rest
newlines-leaves [] rest s = refl
newlines-leaves (Word w ∷ a) rest s = absurd (let no : false ≡ true = s in cc)
newlines-leaves (Newline ∷ a) rest s = newlines-leaves a rest s
newlines-leaves (Semicolon ∷ a) rest s = absurd (let no : false ≡ true = s in cc)
newlines-leaves (AndIf ∷ a) rest s = absurd (let no : false ≡ true = s in cc)
newlines-leaves (OrIf ∷ a) rest s = absurd (let no : false ≡ true = s in cc)

words-within : (words : List (List Atom)) (rest : List Token) → leaves_from Within (map Word words ++ rest) ≡ map leaf words ++ leaves_from Within rest
words-within [] rest = refl
words-within (w ∷ words) rest = ap (λ (l : List Leaf). leaf w ∷ l) (words-within words rest)

operator-leaves : (o : Operator) (a rest : List Token) → IsOperator o a → leaves_from Within (a ++ rest) ≡ leaves_from Beginning rest
operator-leaves And a rest s = rw s refl
operator-leaves Or a rest s = rw s refl

any_separators : Tells Beginning AnySeparators [] Beginning
any_separators = record { tells = separators-leaves }

separators : Tells Within Separators [] Beginning
separators = record { tells = ended-leaves }

any_newlines : Tells Beginning AnyNewlines [] Beginning
any_newlines = record { tells = newlines-leaves }

operator : (o : Operator) → Tells Within (IsOperator o) [] Beginning
operator o = record { tells = operator-leaves o }

arguments : (words : List (List Atom)) → Tells Within (AreWords words) (map leaf words) Within
arguments words = record { tells = λ a rest s. rw s (words-within words rest) }

listing : Tells Listing (Is (codes "in")) [] Within
listing = record { tells = λ a rest s. rw s refl }

no_links : Tells Within (λ ts. ts ≡ []) [] Within
no_links = record { tells = λ a rest s. rw s refl }

-- separators up to the end of a script
last-leaves : (a : List Token) → AnySeparators a → leaves_from Within a ≡ []
last-leaves [] s = refl
last-leaves (Word w ∷ a) s = absurd (let no : false ≡ true = s in cc)
last-leaves (Newline ∷ a) s = ap (leaves_from Beginning) (sym (append-nil a)) ∙ separators-leaves a [] s
last-leaves (Semicolon ∷ a) s = ap (leaves_from Beginning) (sym (append-nil a)) ∙ separators-leaves a [] s
last-leaves (AndIf ∷ a) s = absurd (let no : false ≡ true = s in cc)
last-leaves (OrIf ∷ a) s = absurd (let no : false ≡ true = s in cc)

-- a body
module _ (bodies : Bodies) where
  after_then : {P : List Token → Type 0} {from to : Spot} {u : List Leaf} → Tells from P u to → Tells from (AfterThen bodies P) u to
  after_then {P} p = record { tells = λ a rest s. p.tells a rest (after-is bodies P a s) }

  inner-leaves : (d : Chains) → Tells Beginning (SpellsList bodies d) (list_leaves d) Beginning → (a rest : List Token) → SpellsInner bodies d a →
      leaves_from Beginning (a ++ rest) ≡ list_leaves d ++ leaves_from Beginning rest
  inner-leaves d p a rest s =
      elim (inner-is bodies d (SpellsList bodies d) a s) [
        | inl h ↦ (in_turn any_separators p).tells a rest h
        | inr h ↦ separators-leaves a rest h.2 ∙ ap (λ cs. list_leaves cs ++ leaves_from Beginning rest) (sym h.1)
      ]

  inner : (d : Chains) → Tells Beginning (SpellsList bodies d) (list_leaves d) Beginning → Tells Beginning (SpellsInner bodies d) (list_leaves d) Beginning
  inner d p = record { tells = inner-leaves d p }

-- ---- the tree

module _ (told : FormsAreTold) (bodies : Bodies) where
  simple-leaves : (words : List (List Atom)) (a rest : List Token) → Spells bodies (Simple words) a → leaves_from Beginning (a ++ rest) ≡ map leaf words ++ leaves_from Within rest
  simple-leaves [] a rest s = absurd (let no : false ≡ true = s.0 in cc)
  simple-leaves (w ∷ words) a rest s =
      let form = and_parts (not (is_reserved w)) (not (is_some (assignment_of w))) s.0 in
      rw s.1
      (begun-unreserved w (map Word words ++ rest) (keyword_of-unreserved w (not-true (is_reserved w) form.0))
      ∙ ap (λ o. begun_leaves w o ++ leaves_from Within (map Word words ++ rest)) (unassigned w (not-true (is_some (assignment_of w)) form.1))
      ∙ ap (λ (l : List Leaf). leaf w ∷ l) (words-within words rest))

  assignment-leaves : (name : List ℕ) (value : List Atom) (a rest : List Token) → Spells bodies (Assign name value) a →
      leaves_from Beginning (a ++ rest) ≡ name_leaf name ∷ leaf value ∷ leaves_from Within rest
  assignment-leaves name value a rest s =
      let word : List Atom = map Plain name ++ Plain 61 ∷ value in
      rw s.1
      (begun-unreserved word rest (keyword_of-assignment told name value)
      ∙ ap (λ o. begun_leaves word o ++ leaves_from Within rest) (assignment_of-spelled told name value s.0)
      ∙ ap (λ n. (n, map Plain name) ∷ leaf value ∷ leaves_from Within rest) (name_of-spelled told name s.0))

  naming : (name : List ℕ) → Tells Naming (IsName name) (name_leaf name ∷ []) Listing
  naming name = record { tells = λ a rest s. rw (s.1, name_of-spelled told name s.0) refl }

  mutual
    command-leaves : (c : Command) → Tells Beginning (Spells bodies c) (leaves c) Within
    command-leaves (Simple words) = record { tells = simple-leaves words }
    command-leaves (Assign name value) = record { tells = assignment-leaves name value }
    command-leaves (If c d branches) =
        grouped (list_leaves c) (list_leaves d) (branch_leaves branches)
        (in_turn (reserved keyword.If) (in_turn any_separators (in_turn (list-leaves c) (in_turn (reserved keyword.Then) (after_then bodies (in_turn (inner bodies d (list-leaves d)) (branches-leaves branches)))))))
    command-leaves (For name words d) =
        in_turn (reserved keyword.For) (in_turn (naming name) (in_turn listing (in_turn (arguments words) (in_turn separators (in_turn (reserved keyword.Do) (and_then (inner bodies d (list-leaves d)) (reserved keyword.Done)))))))
    command-leaves (While c d) =
        in_turn (reserved keyword.While) (in_turn any_separators (in_turn (list-leaves c) (in_turn (reserved keyword.Do) (and_then (inner bodies d (list-leaves d)) (reserved keyword.Done)))))
    command-leaves (Until c d) =
        in_turn (reserved keyword.Until) (in_turn any_separators (in_turn (list-leaves c) (in_turn (reserved keyword.Do) (and_then (inner bodies d (list-leaves d)) (reserved keyword.Done)))))

    branches-leaves : (branches : Branches) → Tells Beginning (SpellsBranches bodies branches) (branch_leaves branches) Within
    branches-leaves (Elif c d branches) =
        grouped (list_leaves c) (list_leaves d) (branch_leaves branches)
        (in_turn (reserved keyword.Elif) (in_turn any_separators (in_turn (list-leaves c) (in_turn (reserved keyword.Then) (after_then bodies (in_turn (inner bodies d (list-leaves d)) (branches-leaves branches)))))))
    branches-leaves (Else d) = in_turn (reserved keyword.Else) (and_then (inner bodies d (list-leaves d)) (reserved keyword.Fi))
    branches-leaves Fi = reserved keyword.Fi

    chain-leaves : (c : Chain) → Tells Beginning (SpellsChain bodies c) (chain_leaves c) Within
    chain-leaves (First c links) = in_turn (command-leaves c) (links-leaves links)

    links-leaves : (links : Links) → Tells Within (SpellsLinks bodies links) (link_leaves links) Within
    links-leaves (Link o c links) = in_turn (operator o) (in_turn any_newlines (in_turn (command-leaves c) (links-leaves links)))
    links-leaves End = no_links

    list-leaves : (cs : Chains) → Tells Beginning (SpellsList bodies cs) (list_leaves cs) Beginning
    list-leaves (Last c) = and_then (chain-leaves c) separators
    list-leaves (More c cs) = in_turn (chain-leaves c) (in_turn separators (list-leaves cs))

  chains-leaves : (cs : Chains) (a : List Token) → SpellsChains bodies cs a → leaves_from Beginning a ≡ list_leaves cs
  chains-leaves (Last c) a s =
      rw s.2 ((chain-leaves c).tells s.0 s.1 s.3 ∙ ap (λ (l : List Leaf). chain_leaves c ++ l) (last-leaves s.1 s.4) ∙ append-nil (chain_leaves c))
  chains-leaves (More c cs) a s =
      rw (s.2, s.4.2)
      ((chain-leaves c).tells s.0 (s.4.0 ++ s.4.1) s.3
      ∙ ap (λ (l : List Leaf). chain_leaves c ++ l) (separators.tells s.4.0 s.4.1 s.4.3 ∙ chains-leaves cs s.4.1 s.4.4))

  script-leaves : (script : Option Chains) (a : List Token) → SpellsScript bodies script a → leaves_from Beginning a ≡ script_leaves script
  script-leaves None a s = ap (leaves_from Beginning) (sym (append-nil a)) ∙ separators-leaves a [] s
  script-leaves (Some cs) a s = rw s.2 (separators-leaves s.0 s.1 s.3 ∙ chains-leaves cs s.1 s.4)

-- ---- the text

same-place : (place : ℕ) (ts : List Token) → map token (map (λ t. (place, t)) ts) ≡ ts
same-place place [] = refl
same-place place (t ∷ ts) = ap (λ (l : List Token). t ∷ l) (same-place place ts)

placed-tokens : (place : ℕ) (ls : List Lexeme) → map token (placed place ls) ≡ flat_map lexeme_tokens ls
placed-tokens place [] = refl
placed-tokens place (l ∷ ls) =
    map-append token (map (λ t. (place, t)) (lexeme_tokens l)) (placed (place + length (lexeme_text l)) ls)
    ∙ ap (λ (ts : List Token). ts ++ map token (placed (place + length (lexeme_text l)) ls)) (same-place place (lexeme_tokens l))
    ∙ ap (λ (ts : List Token). lexeme_tokens l ++ ts) (placed-tokens (place + length (lexeme_text l)) ls)

whole-tokens : (q : List Lexeme × List ℕ) (ts : List Token) → tokens_if_whole q ≡ Some ts → map token (placed 0 q.0) ≡ ts
whole-tokens (ls, []) ts e = placed-tokens 0 ls ∙ (let same : flat_map lexeme_tokens ls ≡ ts = cc in same)
whole-tokens (ls, b ∷ bs) ts e = absurd (let no : ◌≡◌ {A = Option (List Token)} None (Some ts) = e in cc)

text-tokens : (text : List ℕ) (ts : List Token) → tokens_of text ≡ Some ts → map token (placed_tokens text) ≡ ts
unfolding tokens_of placed_left
text-tokens text ts =
    on_test (has_no_nul text) (λ o. o ≡ Some ts → map token (placed 0 (all lexeme_at text).0) ≡ ts) (tokens_if_whole (all lexeme_at text)) None
    (λ clean e. whole-tokens (all lexeme_at text) ts e)
    (λ n e. absurd (let no : ◌≡◌ {A = Option (List Token)} None (Some ts) = e in cc))

pub words-told : FormsAreTold → TokensAreRead → WordsAreTold
words-told told tokens bodies text script s =
    words-leaves (written text) (placed_tokens text) Beginning
    ∙ ap (leaves_from Beginning) (text-tokens text s.tokens ((tokens text s.tokens).1 s.are_tokens))
    ∙ script-leaves told bodies script s.tokens s.are_spelling

-- ---- the same of words that are ranges of a text

unranged : (text : Written) (ws : List range.Word) → map (leaf_in text) ws ≡ map placed_leaf (map (word_placed text) ws)
unranged text [] = refl
unranged text (w ∷ ws) = ap (λ l. leaf_in text w ∷ l) (unranged text ws)

pub ranged-leaves : WordsAreTold → (bodies : Bodies) (text : Written) (tree : Option Chains) (ws : List range.Word) → SpellsIn bodies tree text.source →
    map (word_placed text) ws ≡ words_of text.source → map (leaf_in text) ws ≡ script_leaves tree
ranged-leaves told bodies text tree ws spells placed = unranged text ws ∙ ap (map placed_leaf) placed ∙ told bodies text.source tree spells
