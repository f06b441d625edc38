-- Words one after the other, under the limit of a word.
use Rattle.std.proofs.Common.{◌≡◌, ℕ, ◌+◌, ◌<◌, Bool, true, false, ◌&&◌, List, [], ◌∷◌, ◌++◌, map, take, drop, length, get_or, Option, Some, None, refl, sym, ap, ◌∙◌, arith, add-one, append-nil}
use Rattle.std.specs.Prelude.{Ok, Err, option_map}
use Rattle.std.specs.List.{flat_map, list_all}
use Rattle.std.proofs.lemmas.Bool.{cond-true, cond-false, le-leb}
use Rattle.std.proofs.lemmas.Bool.Decides.{leb_tells}
use Rattle.std.proofs.Common.{inl, inr, suc}
use Rattle.std.proofs.lemmas.Grind.{flat_map-append, fold-append}
use Rattle.std.proofs.lemmas.List.{map-append, take-append-drop}
use Rattle.std.proofs.lemmas.List.Folds.{list_all-append}
use Rattle.std.proofs.Math.Seq.{take-suc, drop-cons}
use Rattle.hush_words.specs.Words.{Atom}
use Rattle.hush_words.specs.Parts.{Written, word_atoms}
use Rattle.hush_words.specs.declared.parts.Word.{Word as Range}
use Rattle.hush_commands.specs.declared.expansion.ExpansionFault.{ExpansionFault}
use Rattle.hush_commands.specs.declared.expansion.ExpansionFault.TheVariants.{Word, Memory}
use Rattle.hush_commands.specs.Expansion.{Known, items_of, size, fields, fits, word_fields, Byte, bytes_of, expanded, expanded_whole, expanded_after, expanded_value}
use Rattle.hush_commands.specs.Buffers.{Made, whole, ended, with_bytes, with_item, with_items, kept, AddsItems, Expands}
use Rattle.hush_commands.proofs.ItemLemmas.{fields_made, whole_made, value_made, size-kept}

abbrev whole_bytes : Known → List Atom → List ℕ
whole_bytes known word = bytes_of (items_of known word)

-- whether a word is within the limit
within : (uncut : Bool) (known : Known) (limit : ℕ) (word : List Atom) (rest : ℕ) (a b : Made) → AddsItems (kept uncut (items_of known word)) limit a b (Ok rest) → fits known limit word ≡ true
within uncut known limit word rest a b h = le-leb (size (items_of known word)) limit (omega (arith, h.0, size-kept uncut (items_of known word)))

pub too_large : (uncut : Bool) (known : Known) (limit : ℕ) (word : List Atom) (a b : Made) → AddsItems (kept uncut (items_of known word)) limit a b (Err Word) → fits known limit word ≡ false
too_large uncut known limit word a b h =
    elim (leb_tells (size (items_of known word)) limit) [
      | inl (e, le) ↦ absurd (omega (arith, h, le, size-kept uncut (items_of known word)))
      | inr (e, lt) ↦ e
    ]

-- one more word
pub next-word : (text : Written) (ws : List Range) (i : ℕ) (d : Range) → i < length ws → map (word_atoms text) (take (i + 1) ws) ≡ map (word_atoms text) (take i ws) ++ word_atoms text (get_or ws i d) ∷ []
next-word text ws i d h =
    ap (λ (k : ℕ). map (word_atoms text) (take k ws)) (add-one i)
    ∙ ap (map (word_atoms text)) (take-suc ws i d h)
    ∙ map-append (word_atoms text) (take i ws) (get_or ws i d ∷ [])

pub made-more : (known : Known) (limit : ℕ) (done : List (List Atom)) (word : List Atom) (rest : ℕ) (a b c : Made) → a ≡ whole (flat_map (word_fields known) done) → AddsItems (kept false (items_of known word)) limit a b (Ok rest) → c ≡ ended b → c ≡ whole (flat_map (word_fields known) (done ++ word ∷ []))
made-more known limit done word rest a b c e h f =
    let is = items_of known word in
    let before = flat_map (word_fields known) done in
    f ∙ ap ended (h.1 ∙ ap (λ (m : Made). with_items m is) e)
    ∙ fields_made before is
    ∙ ap (λ (xs : List (List ℕ)). whole (before ++ xs)) (sym (append-nil (fields is)))
    ∙ ap whole (sym (flat_map-append (word_fields known) done (word ∷ [])))

pub small-more : (uncut : Bool) (known : Known) (limit : ℕ) (done : List (List Atom)) (word : List Atom) (rest : ℕ) (a b : Made) → list_all (fits known limit) done ≡ true → AddsItems (kept uncut (items_of known word)) limit a b (Ok rest) → list_all (fits known limit) (done ++ word ∷ []) ≡ true
small-more uncut known limit done word rest a b e h =
    list_all-append (fits known limit) done (word ∷ []) ∙ ap (λ (x : Bool). x && list_all (fits known limit) (word ∷ [])) e ∙ ap (λ (x : Bool). x && true) (within uncut known limit word rest a b h)

-- a word that is too large
all-false : (known : Known) (limit : ℕ) (done : List (List Atom)) (word : List Atom) (more : List (List Atom)) → fits known limit word ≡ false → list_all (fits known limit) (done ++ word ∷ more) ≡ false
all-false known limit [] word more e = rw e refl
all-false known limit (w ∷ done) word more e =
    elim (fits known limit w) as (λ b. (b && list_all (fits known limit) (done ++ word ∷ more)) ≡ false) [ true ↦ all-false known limit done word more e | false ↦ refl ]

none-fit : (known : Known) (limit : ℕ) (text : Written) (ws : List Range) (i : ℕ) (d : Range) → i < length ws → fits known limit (word_atoms text (get_or ws i d)) ≡ false → list_all (fits known limit) (map (word_atoms text) ws) ≡ false
none-fit known limit text ws i d h e =
    let split = sym (take-append-drop i ws) ∙ ap (λ (xs : List Range). take i ws ++ xs) (drop-cons ws i d h) in
    ap (λ (xs : List Range). list_all (fits known limit) (map (word_atoms text) xs)) split
    ∙ ap (list_all (fits known limit)) (map-append (word_atoms text) (take i ws) (get_or ws i d ∷ drop (suc i) ws))
    ∙ all-false known limit (map (word_atoms text) (take i ws)) (word_atoms text (get_or ws i d)) (map (word_atoms text) (drop (suc i) ws)) e

pub none-fits : (known : Known) (limit : ℕ) (text : Written) (ws : List Range) (i : ℕ) (d : Range) → i < length ws → fits known limit (word_atoms text (get_or ws i d)) ≡ false → expanded known limit (map (word_atoms text) ws) ≡ None
none-fits known limit text ws i d h e = cond-false _ _ _ (none-fit known limit text ws i d h e)

pub all-fit : (known : Known) (limit : ℕ) (words : List (List Atom)) (a : Made) → a ≡ whole (flat_map (word_fields known) words) → list_all (fits known limit) words ≡ true → option_map whole (expanded known limit words) ≡ Some a
all-fit known limit words a e h = ap (option_map whole) (cond-true _ _ _ h) ∙ ap (λ (m : Made). let o : Option Made = Some m in o) (sym e)

-- the value of an assignment
abbrev alone : List ℕ → List (List ℕ)
alone v = v ∷ []

pub value-fits : (known : Known) (limit : ℕ) (word : List Atom) (rest : ℕ) (a b c : Made) → a ≡ with_bytes (whole []) [] → AddsItems (kept true (items_of known word)) limit a b (Ok rest) → c ≡ ended b → option_map whole (option_map (λ v. v ∷ []) (expanded_value known limit word)) ≡ Some c
value-fits known limit word rest a b c e h f =
    let is = items_of known word in
    ap (λ (o : Option (List ℕ)). option_map whole (option_map alone o)) (cond-true _ _ _ (within true known limit word rest a b h))
    ∙ ap (λ (m : Made). let o : Option Made = Some m in o) (sym (f ∙ ap ended (h.1 ∙ ap (λ (m : Made). with_items m (kept true is)) e) ∙ value_made is))

pub no-value : (known : Known) (limit : ℕ) (word : List Atom) → fits known limit word ≡ false → option_map (λ v. v ∷ []) (expanded_value known limit word) ≡ None
no-value known limit word e = ap (λ (o : Option (List ℕ)). option_map alone o) (cond-false _ _ _ e)

-- a word with bytes before it
pub after-fits : (known : Known) (limit : ℕ) (front : List ℕ) (word : List Atom) (rest : ℕ) (a b c : Made) → a ≡ with_items (whole []) (map Byte front) → AddsItems (kept false (items_of known word)) limit a b (Ok rest) → c ≡ ended b → option_map whole (expanded_after known limit front word) ≡ Some c
after-fits known limit front word rest a b c e h f =
    let is = items_of known word in
    ap (λ (o : Option (List (List ℕ))). option_map whole o) (cond-true _ _ _ (within false known limit word rest a b h))
    ∙ ap (λ (m : Made). let o : Option Made = Some m in o) (sym (f ∙ ap ended (h.1 ∙ ap (λ (m : Made). with_items m is) e ∙ sym (fold-append with_item (whole []) (map Byte front) is)) ∙ fields_made [] (map Byte front ++ is)))

pub after-refused : (known : Known) (limit : ℕ) (front : List ℕ) (word : List Atom) (a b : Made) (f : ExpansionFault) → AddsItems (kept false (items_of known word)) limit a b (Err f) → Expands (expanded_after known limit front word) b (Err f)
after-refused known limit front word a b Word refused = cond-false _ _ _ (too_large false known limit word a b refused)
after-refused known limit front word a b Memory refused = tt

-- what a refused word says of them all
pub word-refused : (known : Known) (limit : ℕ) (text : Written) (ws : List Range) (i : ℕ) (d : Range) (a b : Made) (f : ExpansionFault) → i < length ws → AddsItems (kept false (items_of known (word_atoms text (get_or ws i d)))) limit a b (Err f) → Expands (expanded known limit (map (word_atoms text) ws)) b (Err f)
word-refused known limit text ws i d a b Word h refused = none-fits known limit text ws i d h (too_large false known limit (word_atoms text (get_or ws i d)) a b refused)
word-refused known limit text ws i d a b Memory h refused = tt

-- the same of words that aren't cut
pub whole-more : (known : Known) (limit : ℕ) (done : List (List Atom)) (word : List Atom) (rest : ℕ) (a b c e : Made) → a ≡ whole (map (whole_bytes known) done) → b ≡ with_bytes a [] → AddsItems (kept true (items_of known word)) limit b c (Ok rest) → e ≡ ended c → e ≡ whole (map (whole_bytes known) (done ++ word ∷ []))
whole-more known limit done word rest a b c e is begun h f =
    let items = items_of known word in
    f ∙ ap ended (h.1 ∙ ap (λ (m : Made). with_items m (kept true items)) (begun ∙ ap (λ (m : Made). with_bytes m []) is))
    ∙ whole_made (map (whole_bytes known) done) items
    ∙ ap whole (sym (map-append (whole_bytes known) done (word ∷ [])))

pub whole-refused : (known : Known) (limit : ℕ) (text : Written) (ws : List Range) (i : ℕ) (d : Range) (a b : Made) (f : ExpansionFault) → i < length ws → AddsItems (kept true (items_of known (word_atoms text (get_or ws i d)))) limit a b (Err f) → Expands (expanded_whole known limit (map (word_atoms text) ws)) b (Err f)
whole-refused known limit text ws i d a b Word h refused =
    cond-false _ _ _ (none-fit known limit text ws i d h (too_large true known limit (word_atoms text (get_or ws i d)) a b refused))
whole-refused known limit text ws i d a b Memory h refused = tt

pub all-whole : (known : Known) (limit : ℕ) (words : List (List Atom)) (a : Made) → a ≡ whole (map (whole_bytes known) words) → list_all (fits known limit) words ≡ true → option_map whole (expanded_whole known limit words) ≡ Some a
all-whole known limit words a e h = ap (option_map whole) (cond-true _ _ _ h) ∙ ap (λ (m : Made). let o : Option Made = Some m in o) (sym e)

pub value-refused : (known : Known) (limit : ℕ) (word : List Atom) (a b : Made) (f : ExpansionFault) → AddsItems (kept true (items_of known word)) limit a b (Err f) → Expands (option_map (λ v. v ∷ []) (expanded_value known limit word)) b (Err f)
value-refused known limit word a b Word refused = no-value known limit word (too_large true known limit word a b refused)
value-refused known limit word a b Memory refused = tt
