-- The lines of a print, and the end of a dot line.
use Rattle.std.proofs.Common.{◌≡◌, ℕ, suc, ◌+◌, ◌-◌, ◌<◌, ◌≤◌, length, take, get_or, ◌++◌, List, [], ◌∷◌, Option, Bool, true, false, refl, sym, ap, subst, ◌∙◌, arith}
use Rattle.std.specs.Prelude.{map, if◌then◌else◌, zero}
use Rattle.std.specs.List.{flat_map}
use Rattle.std.specs.FinMap as env
use Rattle.std.proofs.lemmas.List.{take_more}
use Rattle.std.proofs.Common.{append_assoc}
use Rattle.envimg_core.specs.Environment.{Environment, Pair}
use Rattle.hush_commands.specs.Listing.{line_of}
use Rattle.env_requests.specs.Requests.{listing}
use Rattle.fw_session.proofs.StreamLemmas.{writes_none, writes_then, writes_cut_short}
use Rattle.fw_session.specs.Views.{asked_view}
use Rattle.fw_session.specs.Streams.{Writes}
use Rattle.fw_session.specs.Asked.{trimmed, onto_trimmed, is_end_blank, asked_by_word, asked_by_line}
use Rattle.fw_session.specs.declared.dot_lines.Asked as code

lines_joined : (ps : List Pair) → flat_map (λ x. x ++ 10 ∷ []) (map (λ p. p.0 ++ 61 ∷ p.1) ps) ≡ flat_map line_of ps
lines_joined [] = refl
lines_joined (p ∷ ps) =
    ap (λ t. t ++ flat_map (λ x. x ++ 10 ∷ []) (map (λ p. p.0 ++ 61 ∷ p.1) ps)) (append_assoc p.0 (61 ∷ p.1) (10 ∷ []))
    ∙ ap (λ t. line_of p ++ t) (lines_joined ps)

pub lines_init : (vars vars' : Environment) (lines : List (List ℕ)) (out : Option (List ℕ)) (n : ℕ) → vars' ≡ vars → lines ≡ map (λ p. p.0 ++ 61 ∷ p.1) (env.entries vars') →
    (front : List ℕ) × (listing vars ≡ front ++ flat_map (λ x. x ++ 10 ∷ []) lines) × Writes out out n n front true
unfolding listing
lines_init vars vars' lines out n e is = (
  [],
  sym (ap (flat_map (λ x. x ++ 10 ∷ [])) is ∙ lines_joined (env.entries vars') ∙ ap (λ v. flat_map line_of (env.entries v)) e),
  writes_none out n,
)

pub lines_more : (all line : List ℕ) (lines lines' : List (List ℕ)) (out out' out'' : Option (List ℕ)) (n n' n'' : ℕ) →
    (front : List ℕ) × (all ≡ front ++ flat_map (λ x. x ++ 10 ∷ []) lines) × Writes out out' n n' front true → lines ≡ line ∷ lines' → Writes out' out'' n' n'' (line ++ 10 ∷ []) true →
    (front : List ℕ) × (all ≡ front ++ flat_map (λ x. x ++ 10 ∷ []) lines') × Writes out out'' n n'' front true
lines_more all line lines lines' out out' out'' n n' n'' was is w = (
  was.0 ++ (line ++ 10 ∷ []),
  was.1 ∙ ap (λ t. was.0 ++ flat_map (λ x. x ++ 10 ∷ []) t) is ∙ sym (append_assoc was.0 (line ++ 10 ∷ []) (flat_map (λ x. x ++ 10 ∷ []) lines')),
  writes_then out out' out'' n n' n'' was.0 (line ++ 10 ∷ []) true was.2 w,
)

pub lines_cut_short : (all line : List ℕ) (lines lines' : List (List ℕ)) (out out' out'' : Option (List ℕ)) (n n' n'' : ℕ) →
    (front : List ℕ) × (all ≡ front ++ flat_map (λ x. x ++ 10 ∷ []) lines) × Writes out out' n n' front true → lines ≡ line ∷ lines' → Writes out' out'' n' n'' (line ++ 10 ∷ []) false →
    Writes out out'' n n'' all false
lines_cut_short all line lines lines' out out' out'' n n' n'' was is w =
    subst (λ t. Writes out out'' n n'' t false)
    (append_assoc was.0 (line ++ 10 ∷ []) (flat_map (λ x. x ++ 10 ∷ []) lines') ∙ sym (was.1 ∙ ap (λ t. was.0 ++ flat_map (λ x. x ++ 10 ∷ []) t) is))
    (writes_cut_short out out'' n n'' (was.0 ++ (line ++ 10 ∷ [])) (flat_map (λ x. x ++ 10 ∷ []) lines') (writes_then out out' out'' n n' n'' was.0 (line ++ 10 ∷ []) false was.2 w))

-- the last byte of a line
trimmed_snoc : (xs : List ℕ) (b : ℕ) → is_end_blank b ≡ true → trimmed (xs ++ b ∷ []) ≡ trimmed xs
trimmed_snoc [] b e = ap (λ v. if v then [] else b ∷ []) e
trimmed_snoc (x ∷ xs) b e = ap (onto_trimmed x) (trimmed_snoc xs b e)

onto_more : (x : ℕ) (xs : List ℕ) (b : ℕ) → onto_trimmed x (xs ++ b ∷ []) ≡ x ∷ (xs ++ b ∷ [])
onto_more x [] b = refl
onto_more x (y ∷ ys) b = refl

trimmed_stays : (xs : List ℕ) (b : ℕ) → is_end_blank b ≡ false → trimmed (xs ++ b ∷ []) ≡ xs ++ b ∷ []
trimmed_stays [] b e = ap (λ v. if v then [] else b ∷ []) e
trimmed_stays (x ∷ xs) b e = ap (onto_trimmed x) (trimmed_stays xs b e) ∙ onto_more x xs b

take_last : (line : List ℕ) (n : ℕ) → 0 < n → n ≤ length line → take n line ≡ take (n - 1) line ++ get_or line (n - 1) 0 ∷ []
take_last line n pos le = let e : n - 1 + 1 ≡ n = omega arith in ap (λ (k : ℕ). take k line) (sym e) ∙ take_more line (n - 1) 0 (omega arith)

pub trim_more : (line : List ℕ) (n : ℕ) (b : Bool) → 0 < n → (n ≤ length line) × (trimmed line ≡ trimmed (take n line)) → b ≡ is_end_blank (get_or line (n - 1) 0) → b ≡ true →
    (n - 1 ≤ length line) × (trimmed line ≡ trimmed (take (n - 1) line))
trim_more line n b pos was is so =
    (omega (arith, was.0), was.1 ∙ ap trimmed (take_last line n pos was.0) ∙ trimmed_snoc (take (n - 1) line) (get_or line (n - 1) 0) (sym is ∙ so))

pub trim_end : (line : List ℕ) (n : ℕ) (b : Bool) → 0 < n → (n ≤ length line) × (trimmed line ≡ trimmed (take n line)) → b ≡ is_end_blank (get_or line (n - 1) 0) → b ≡ false → trimmed line ≡ take n line
trim_end line n b pos was is not_so =
    was.1 ∙ ap trimmed (take_last line n pos was.0) ∙ trimmed_stays (take (n - 1) line) (get_or line (n - 1) 0) (sym is ∙ not_so) ∙ sym (take_last line n pos was.0)

pub trim_none : (line : List ℕ) (n : ℕ) → n ≤ 0 → (n ≤ length line) × (trimmed line ≡ trimmed (take n line)) → trimmed line ≡ take n line
trim_none line zero z was = was.1
trim_none line (suc n) z was = absurd (omega arith)

pub line_known : (line word : List ℕ) (asked : code.Asked) → asked_view asked ≡ asked_by_word word → trimmed line ≡ word → asked_view asked ≡ asked_by_line line
unfolding asked_by_line
line_known line word asked e t = e ∙ ap asked_by_word (sym t)
