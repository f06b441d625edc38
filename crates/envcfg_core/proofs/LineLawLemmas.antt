-- What the first line of a text for import reads.
use Rattle.std.proofs.Common.{◌≡◌, ℕ, ◌+◌, true, false, List, [], ◌∷◌, ◌++◌, length, drop, None, refl, sym, ap, ◌∙◌}
use Rattle.std.specs.List.{after_first, list_all, list_any}
use Rattle.std.proofs.lemmas.Bool.{and_parts}
use Rattle.std.proofs.lemmas.List.{length-append, drop_at, append_assoc}
use Rattle.envimg_core.specs.Environment.{is_name}
use Rattle.text_parts.specs.Bytes.{newline, is_newline, is_blank, hash}
use Rattle.envcfg_core.specs.Entries.{with_first}
use Rattle.envcfg_core.specs.Import.{entries_from, ended_by_newline}
use Rattle.envcfg_core.specs.Export.{is_unreadable}
use Rattle.text_parts.proofs.CutLemmas.{position_or_len-yes}
use Rattle.envcfg_core.proofs.ImportLemmas.{entries_from-blank, entries_from-newline, entries_from-comment}
use Rattle.envcfg_core.proofs.NamedLemmas.{named-read, position-front}

-- blanks at an entry's place
pub entries_from-blanks : (line : ℕ) (blanks text : List ℕ) → list_all is_blank blanks ≡ true → entries_from line (blanks ++ text) ≡ entries_from line text
entries_from-blanks line [] text h = refl
entries_from-blanks line (b ∷ bs) text h =
    let parts = and_parts (is_blank b) (list_all is_blank bs) h in
    entries_from-blank line b (b ∷ (bs ++ text)) (bs ++ text) refl parts.0 ∙ entries_from-blanks line bs text parts.1

pub reads_blank_line : (line : ℕ) (blanks rest : List ℕ) → list_all is_blank blanks ≡ true → entries_from line (blanks ++ newline ∷ rest) ≡ entries_from (line + 1) rest
reads_blank_line line blanks rest h = entries_from-blanks line blanks (newline ∷ rest) h ∙ entries_from-newline line newline (newline ∷ rest) rest refl refl

after-behind : (xs : List ℕ) (y : ℕ) (ys : List ℕ) → list_any is_newline xs ≡ false → is_newline y ≡ true → ys ≡ after_first is_newline (xs ++ y ∷ ys)
after-behind xs y ys h e =
    let k = position-front is_newline xs (y ∷ ys) h (position_or_len-yes is_newline y ys e) in
    let len : length (xs ++ y ∷ []) ≡ length xs + 1 = length-append xs (y ∷ []) in
    sym (ap (λ n. drop (n + 1) (xs ++ y ∷ ys)) k ∙ ap (drop (length xs + 1)) (sym (append_assoc xs (y ∷ []) ys)) ∙ drop_at (xs ++ y ∷ []) ys (length xs + 1) len)

pub reads_comment : (line : ℕ) (blanks text rest : List ℕ) → list_all is_blank blanks ≡ true → list_any is_newline text ≡ false →
    entries_from line (blanks ++ hash ∷ (text ++ newline ∷ rest)) ≡ entries_from (line + 1) rest
reads_comment line blanks text rest h n =
    let body = text ++ newline ∷ rest in
    entries_from-blanks line blanks (hash ∷ body) h ∙ entries_from-comment line hash (hash ∷ body) body rest refl refl (after-behind text newline rest n refl)

pub reads_deletion : (line : ℕ) (name rest : List ℕ) → is_name name ≡ true → is_unreadable name ≡ false →
    entries_from line (name ++ newline ∷ rest) ≡ with_first (record { name = name; value = None; line = line }) (entries_from (line + 1) rest)
reads_deletion line name rest h u = named-read line name (newline ∷ rest) (ended_by_newline rest) h u refl refl
