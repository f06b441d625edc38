-- Simple commands and assignments, the words that they take, and what leads to a command.
use Rattle.std.proofs.Common.{◌≡◌, ℕ, true, false, List, [], ◌∷◌, ◌++◌, length, append_assoc, refl, sym, ◌∙◌, ap, subst, arith, Option, Some, None, suc, ◌-◌, Result, length-append}
use Rattle.std.specs.Prelude.{option_map}
use Rattle.std.proofs.lemmas.List.{map-append, append_cancel_left}
use Rattle.hush_words.specs.Words.{Atom}
use Rattle.hush_words.specs.Forms.{name_of, assignment_of, split_of}
use Rattle.hush_words.specs.Parts.{Written, word_atoms}
use Rattle.hush_words.specs.Views.{assignment_view}
use Rattle.hush_words.specs.declared.forms.Assignment.{Assignment}
use Rattle.hush_words.specs.declared.parts.Word as part
use Rattle.hush_words.specs.Tokens.{Token}
use Rattle.hush_words.specs.Tokens.Token.{Word}
use Rattle.hush_syntax.specs.declared.nodes.Bodies.{Bodies}
use Rattle.hush_syntax.specs.declared.refusal.Refusal.{Refusal}
use Rattle.hush_syntax.specs.declared.keywords.Keyword.{Keyword}
use Rattle.hush_syntax.specs.declared.stored.Block.{Block}
use Rattle.hush_syntax.specs.declared.table.Builder.{Builder}
use Rattle.hush_syntax.specs.declared.nodes.NodeId.{NodeId}
use Rattle.hush_syntax.specs.declared.stored.Stored.TheVariants as node
use Rattle.hush_syntax.specs.Answers.{assigned_of, assignment_before}
use Rattle.hush_syntax.specs.Grammar.{Command, Simple, Assign, begins}
use Rattle.hush_syntax.specs.Nodes.{Subtree, OfCommand}
use Rattle.hush_syntax.specs.Stored.{assign_of, Members, block_of}
use Rattle.hush_syntax.specs.Builders.{Builds, waiting, Put, Grows, CommandAt}
use Rattle.hush_syntax.specs.Reading.{behind, skip, is_word, words_at, keyword_at, compound, command, plain}
use Rattle.hush_syntax.specs.Trees.{words_in, name_in}
use Rattle.hush_syntax.proofs.Fronts.{plain-simple, command-plain, command-compound, command-none}
use Rattle.hush_syntax.proofs.Building.{block-is, puts}
use Rattle.hush_syntax.proofs.Calls.{Found}

-- words that were taken, as a block of the table
pub block-told : (text : Written) (old new ws : List part.Word) (told : List (List Atom)) (block : Block) (more : List part.Word) → new ≡ old ++ ws → words_in text new ≡ words_in text old ++ told →
    block.first ≡ length old → block.len ≡ length new - block.first → words_in text (block_of block (new ++ more)) ≡ told
block-told text old new ws told block more e taken at len =
    let n : block.len ≡ length ws = omega (arith, len, at, ap length e, length-append old ws) in
    ap (words_in text) (block-is block old new ws more e at n)
    ∙ append_cancel_left (words_in text old) (words_in text ws) told (sym (map-append (word_atoms text) old ws) ∙ sym (ap (words_in text) e) ∙ taken)

-- a name and words after it, and the two sides of an assignment
pub named-told : (text : Written) (old pushed new ws : List part.Word) (name : part.Word) (told : List (List Atom)) (block : Block) (more : List part.Word) → pushed ≡ old ++ name ∷ [] → new ≡ pushed ++ ws →
    words_in text new ≡ words_in text pushed ++ told → block.first ≡ length old → block.len ≡ length new - block.first → words_in text (block_of block (new ++ more)) ≡ word_atoms text name ∷ told
named-told text old pushed new ws name told block more first e taken at len =
    block-told text old new (name ∷ ws) (word_atoms text name ∷ told) block more
    (e ∙ ap (λ l. l ++ ws) first ∙ append_assoc old (name ∷ []) ws)
    (taken ∙ ap (λ l. words_in text l ++ told) first ∙ ap (λ l. l ++ told) (map-append (word_atoms text) old (name ∷ [])) ∙ append_assoc (words_in text old) (word_atoms text name ∷ []) told)
    at len

pub sides-are : (old first new more : List part.Word) (name value : part.Word) (block : Block) → first ≡ old ++ name ∷ [] → new ≡ first ++ value ∷ [] → block.first ≡ length old → block.len ≡ length new - block.first →
    block_of block (new ++ more) ≡ name ∷ value ∷ []
sides-are old first new more name value block e f at len =
    let whole : new ≡ old ++ name ∷ value ∷ [] = f ∙ ap (λ l. l ++ value ∷ []) e ∙ append_assoc old (name ∷ []) (value ∷ []) in
    block-is block old new (name ∷ value ∷ []) more whole at (omega (arith, len, at, ap length whole, length-append old (name ∷ value ∷ [])))

pub simple-built : (text : Written) (w : List Atom) (ts now left : List Token) (old mid new : Builder) (block : Block) (id : NodeId) → now ≡ Word w ∷ ts → assignment_of w ≡ None →
    ((more : Members) → words_in text (block_of block (mid.table.words.items ++ more.words)) ≡ words_at now) → Grows old.table mid.table → waiting mid ≡ waiting old → left ≡ skip is_word now →
    Put mid new (node.Simple block) id → Found CommandAt text (plain now) old new left id
simple-built text w ts now left old mid new block id first other taken grows waits kept_left p =
    puts OfCommand text old mid new (node.Simple block) id (Simple (w ∷ words_at ts)) (plain now) left
    (ap plain first ∙ plain-simple w ts other ∙ ap (λ (x : List Token). let f : Option (Command × List Token) = Some (Simple (w ∷ words_at ts), x) in f) (sym (kept_left ∙ ap (skip is_word) first)))
    grows waits
    (λ more. ap (λ (ws : List (List Atom)). let o : Option Subtree = Some (OfCommand (Simple ws)) in o) (taken more ∙ ap words_at first))
    p

pub word_follows : (a : List ℕ × List Atom) (ts : List Token) → begins is_word ts ≡ true → assignment_before a ts ≡ None
word_follows a ts e = rw e

pub assign-built : (text : Written) (ts : List Token) (old mid new : Builder) (a : Assignment) (sides : Block) (id : NodeId) → begins is_word ts ≡ false →
    ((more : Members) → block_of sides (mid.table.words.items ++ more.words) ≡ a.name ∷ a.value ∷ []) → Grows old.table mid.table → waiting mid ≡ waiting old → Put mid new (node.Assign sides) id →
    Found CommandAt text (assignment_before (assigned_of text a) ts) old new ts id
assign-built text ts old mid new a sides id e are grows waits p =
    puts OfCommand text old mid new (node.Assign sides) id (Assign (name_in text a.name) (word_atoms text a.value)) (assignment_before (assigned_of text a) ts) ts
    (rw e)
    grows
    waits
    (λ more. ap (assign_of text) (are more))
    p

-- a command
module _ (text : Written) (bodies : Bodies) (room : ℕ) (old new : Builder) (ts left : List Token) (r : Result NodeId Refusal) where
  pub by_plain : keyword_at ts ≡ None → Builds CommandAt text old new (plain ts) left r → Builds CommandAt text old new (command bodies room ts) left r
  by_plain e answers = subst (λ x. Builds CommandAt text old new x left r) (sym (command-plain bodies room ts e)) answers

  pub by_form : (k : Keyword) (after : List Token) → (room ≡ 0 → ⊥) → keyword_at ts ≡ Some k → after ≡ behind ts → Builds CommandAt text old new (compound bodies (command bodies (room - 1)) k after) left r → Builds CommandAt text old new (command bodies room ts) left r
  by_form k after some e step answers =
      let whole : suc (room - 1) ≡ room = omega (arith, some) in
      let found : command bodies (suc (room - 1)) ts ≡ compound bodies (command bodies (room - 1)) k after = command-compound bodies (room - 1) k ts e ∙ ap (compound bodies (command bodies (room - 1)) k) (sym step) in
      subst (λ n. Builds CommandAt text old new (command bodies n ts) left r) whole (subst (λ x. Builds CommandAt text old new x left r) (sym found) answers)

pub no_room : (bodies : Bodies) (room : ℕ) (k : Keyword) (ts : List Token) → room ≡ 0 → keyword_at ts ≡ Some k → command bodies room ts ≡ None
no_room bodies room k ts none e = ap (λ n. command bodies n ts) none ∙ command-none bodies k ts e

-- the sides of an assignment, by the name and not by whether it is one
sides-told : (text : Written) (o : Option Assignment) (f : Option (List ℕ × List Atom)) → option_map (assignment_view text) o ≡ option_map (λ f. (Some f.0, f.1)) f → option_map (assigned_of text) o ≡ f
sides-told text None None e = refl
sides-told text None (Some f) e = absurd (let no : ◌≡◌ {A = Option (Option (List ℕ) × List Atom)} None (Some (Some f.0, f.1)) = e in cc)
sides-told text (Some a) None e = absurd (let no : ◌≡◌ {A = Option (Option (List ℕ) × List Atom)} (Some (assignment_view text a)) None = e in cc)
sides-told text (Some a) (Some f) e =
    let same : ◌≡◌ {A = Option (List ℕ) × List Atom} (assignment_view text a) (Some f.0, f.1) = cc in
    let named : name_of (word_atoms text a.name) ≡ Some f.0 = ap (λ v. v.0) same in
    let valued : word_atoms text a.value ≡ f.1 = ap (λ v. v.1) same in
    rw (named, valued)

pub sides : (text : Written) (w : List Atom) (o : Option Assignment) → option_map (assignment_view text) o ≡ split_of w → option_map (assigned_of text) o ≡ assignment_of w
sides text w o h = sides-told text o (assignment_of w) h
