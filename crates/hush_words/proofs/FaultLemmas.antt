-- The fault at a place, by what is there, and the places of tokens.
use Rattle.std.specs.Prelude.{◌≡◌, ℕ, Option, ◌+◌, ◌-◌, ◌<◌, ◌≤◌, ◌==◌, ◌||◌, true, List, [], ◌∷◌, ◌++◌, map, length, take, drop, Some, None}
use Rattle.std.specs.Option.{option_map}
use Rattle.std.proofs.Common.{refl, sym, ◌∙◌, ap, subst, arith, length-append, inl, inr}
use Rattle.std.proofs.lemmas.List.{length-drop, drop_all}
use Rattle.std.proofs.Math.ListN.{length-take}
use Rattle.std.proofs.lemmas.Bool.{or_cases, eqb-true}
use Rattle.hush_words.specs.Words.{ends_word}
use Rattle.hush_words.specs.Tokens.{Token, Lexeme, lexeme_text, lexeme_tokens, FitsLexeme}
use Rattle.hush_words.specs.Reading.{Found, found, all, inner_at, piece_at, piece_end, lexeme_at}
use Rattle.hush_words.specs.Faults.{Stop, placed, placed_left, double_stop, stop_at, fault_in, left_fault, first_nul}
use Rattle.hush_words.specs.Steps.{StandsAt, StopsAt, inner_end, lexeme_read}
use Rattle.hush_words.specs.declared.faults.Fault.{Fault}
use Rattle.hush_words.specs.declared.faults.FaultKind.{FaultKind}
use Rattle.hush_words.specs.declared.faults.FaultKind.TheVariants as fault
use Rattle.hush_words.proofs.Fronts.{on_test}
use Rattle.hush_words.proofs.Many.{all-some, all-none, FoundFits}
use Rattle.memchr.specs.Find.{IsFirstByte, is_byte}
use Rattle.hush_words.proofs.Runs.{found-first}
use Rattle.hush_words.proofs.Lexemes.{end-no_piece, ends-38, ends-124, lexeme-finds, lexeme-shortens}
use Rattle.hush_words.proofs.Inners.{inner-none}
use Rattle.hush_words.proofs.PieceLemmas.{piece-none}

abbrev pub fault_of : FaultKind → ℕ → Fault
fault_of kind place = record { kind = kind; place = place }

place-is : (source : List ℕ) (at : ℕ) → at < length source → length source - length (drop at source) ≡ at
place-is source at lt = omega (arith, length-drop at source)

-- a fault of the byte at the place itself
stops : (source : List ℕ) (at : ℕ) (kind : FaultKind) → at < length source → stop_at (drop at source) ≡ Some (kind, drop at source) →
    StopsAt source at (fault_of kind at)
stops source at kind lt e = ap (λ o. option_map (fault_in source) o) e ∙ ap (λ n. Some (fault_of kind n)) (place-is source at lt)

stop-dollar : (bs : List ℕ) → stop_at (36 ∷ bs) ≡ Some (fault.Substitution, 36 ∷ bs)
unfolding stop_at
stop-dollar bs = refl

stop-backslash : (bs : List ℕ) → stop_at (92 ∷ bs) ≡ Some (fault.Backslash, 92 ∷ bs)
unfolding stop_at
stop-backslash bs = refl

stop-single : (bs : List ℕ) → stop_at (39 ∷ bs) ≡ Some (fault.Quote, 39 ∷ bs)
unfolding stop_at
stop-single bs = refl

stop-double : (bs : List ℕ) → stop_at (34 ∷ bs) ≡ Some (double_stop (34 ∷ bs) (inner_end bs))
unfolding stop_at inner_end
stop-double bs = refl

stop-and : (bs : List ℕ) → stop_at (38 ∷ bs) ≡ Some (fault.Operator, 38 ∷ bs)
unfolding stop_at
stop-and bs = refl

stop-or : (bs : List ℕ) → stop_at (124 ∷ bs) ≡ Some (fault.Operator, 124 ∷ bs)
unfolding stop_at
stop-or bs = refl

-- this byte is at fault
stops-by : (source : List ℕ) (at b : ℕ) (kind : FaultKind) → StandsAt source at b →
    ((bs : List ℕ) → stop_at (b ∷ bs) ≡ Some (kind, b ∷ bs)) → StopsAt source at (fault_of kind at)
stops-by source at b kind here e =
    stops source at kind here.0 (ap stop_at here.1 ∙ e (drop (at + 1) source) ∙ ap (λ l. Some (kind, l)) (sym here.1))

pub dollar-stops : (source : List ℕ) (at : ℕ) → StandsAt source at 36 → StopsAt source at (fault_of fault.Substitution at)
dollar-stops source at here = stops-by source at 36 fault.Substitution here stop-dollar

pub backslash-stops : (source : List ℕ) (at : ℕ) → StandsAt source at 92 → StopsAt source at (fault_of fault.Backslash at)
backslash-stops source at here = stops-by source at 92 fault.Backslash here stop-backslash

pub single-stops : (source : List ℕ) (at : ℕ) → StandsAt source at 39 → StopsAt source at (fault_of fault.Quote at)
single-stops source at here = stops-by source at 39 fault.Quote here stop-single

-- a pair of double quotes that isn't closed: the text ends, or another byte than the quote is where it can't go on
double-stop : (source : List ℕ) (place at : ℕ) → StandsAt source place 34 → inner_at (drop at source) ≡ None →
    inner_end (drop at source) ≡ inner_end (drop (place + 1) source) →
    stop_at (drop place source) ≡ Some (double_stop (drop place source) (drop at source))
double-stop source place at here none ends =
    ap stop_at here.1 ∙ stop-double (drop (place + 1) source)
    ∙ ap (λ l. Some (double_stop l (inner_end (drop (place + 1) source)))) (sym here.1)
    ∙ ap (λ l. Some (double_stop (drop place source) l)) (sym ends ∙ (inner-none (drop at source) none).1)

pub double-unclosed : (source : List ℕ) (place at : ℕ) → StandsAt source place 34 → inner_at (drop at source) ≡ None →
    inner_end (drop at source) ≡ inner_end (drop (place + 1) source) → length source ≤ at →
    StopsAt source place (fault_of fault.Quote place)
double-unclosed source place at here none ends past =
    stops source place fault.Quote here.0
    (double-stop source place at here none ends ∙ ap (λ l. Some (double_stop (drop place source) l)) (drop_all at source past))

some-left : (source : List ℕ) (at : ℕ) (quote left : List ℕ) → at < length source → drop at source ≡ left →
    double_stop quote left ≡ (fault.Substitution, left)
some-left source at quote [] lt e = absurd (omega (arith, ap length e, length-drop at source))
some-left source at quote (b ∷ bs) lt e = refl

pub double-dollar : (source : List ℕ) (place at : ℕ) → StandsAt source place 34 → inner_at (drop at source) ≡ None →
    inner_end (drop at source) ≡ inner_end (drop (place + 1) source) → at < length source →
    StopsAt source place (fault_of fault.Substitution at)
double-dollar source place at here none ends lt =
    ap (λ o. option_map (fault_in source) o)
    (double-stop source place at here none ends ∙ ap (λ s. Some s) (some-left source at (drop place source) (drop at source) lt refl))
    ∙ ap (λ n. Some (fault_of fault.Substitution n)) (place-is source at lt)

-- the fault of a word, which goes on up to a place where no piece begins
pub word-fault : (source : List ℕ) (start at : ℕ) (f : Fault) → piece_at (drop at source) ≡ None →
    piece_end (drop at source) ≡ piece_end (drop start source) → StopsAt source at f → left_fault source (drop start source) ≡ Some f
unfolding left_fault
word-fault source start at f none ends h =
    ap (λ l. option_map (fault_in source) (stop_at l)) (sym ends ∙ (piece-none (drop at source) none).1) ∙ h

operator-fault-of : (source : List ℕ) (at b : ℕ) → StandsAt source at b → ends_word b ≡ true →
    ((bs : List ℕ) → stop_at (b ∷ bs) ≡ Some (fault.Operator, b ∷ bs)) → left_fault source (drop at source) ≡ Some (fault_of fault.Operator at)
operator-fault-of source at b here ends e =
    word-fault source at at (fault_of fault.Operator at) (ap piece_at here.1 ∙ end-no_piece b (drop (at + 1) source) ends) refl
    (stops-by source at b fault.Operator here e)

pub operator-fault : (source : List ℕ) (at b : ℕ) → StandsAt source at b → (b == 38 || b == 124) ≡ true →
    left_fault source (drop at source) ≡ Some (fault_of fault.Operator at)
operator-fault source at b here e =
    elim (or_cases (b == 38) (b == 124) e) [
      | inl h ↦ operator-fault-of source at 38 (subst (StandsAt source at) (eqb-true b 38 h) here) ends-38 stop-and
      | inr h ↦ operator-fault-of source at 124 (subst (StandsAt source at) (eqb-true b 124 h) here) ends-124 stop-or
    ]

-- the places of tokens, one lexeme after the other
placed-one : (place : ℕ) (bs : List ℕ) (l : Lexeme) (r : List ℕ) → lexeme_at bs ≡ found l r →
    placed_left place bs ≡ map (λ t. (place, t)) (lexeme_tokens l) ++ placed_left (place + length (lexeme_text l)) r
unfolding placed_left
placed-one place bs l r e = ap (λ w. placed place w.0) (all-some lexeme_at lexeme-shortens bs l r e)

pub placed-none : (place : ℕ) (bs : List ℕ) → lexeme_at bs ≡ None → placed_left place bs ≡ []
unfolding placed_left
placed-none place bs e = ap (λ w. placed place w.0) (all-none lexeme_at bs e)

found-text : (bs : List ℕ) (l : Lexeme) (r : List ℕ) (o : Found Lexeme) → o ≡ found l r → FoundFits lexeme_text FitsLexeme bs o →
    bs ≡ lexeme_text l ++ r
found-text bs l r o e fits = (subst (FoundFits lexeme_text FitsLexeme bs) e fits).0

placed-found : (source : List ℕ) (at end : ℕ) (ts : List Token) (o : Found Lexeme) → lexeme_at (drop at source) ≡ o →
    at < end → end ≤ length source → option_map lexeme_read o ≡ Some (ts, drop end source) →
    placed_left at (drop at source) ≡ map (λ t. (at, t)) ts ++ placed_left end (drop end source)
placed-found source at end ts None e lt within h = absurd (cc)
placed-found source at end ts (Some f) e lt within h =
    let w : ◌≡◌ {A = List Token × List ℕ} (lexeme_tokens f.0, f.1) (ts, drop end source) = cc in
    let rest : f.1 ≡ drop end source = ap (λ v. v.1) w in
    let text = found-text (drop at source) f.0 f.1 (lexeme_at (drop at source)) e (lexeme-finds (drop at source)) in
    let len : at + length (lexeme_text f.0) ≡ end =
    omega (arith, lt, within, ap length text, length-append (lexeme_text f.0) f.1, ap length rest, length-drop at source, length-drop end source) in
    placed-one at (drop at source) f.0 f.1 e
    ∙ ap (λ l. map (λ t. (at, t)) l ++ placed_left (at + length (lexeme_text f.0)) f.1) (ap (λ v. v.0) w)
    ∙ ap (λ n. map (λ t. (at, t)) ts ++ placed_left n f.1) len
    ∙ ap (λ l. map (λ t. (at, t)) ts ++ placed_left end l) rest

-- a lexeme from a place to another
pub read-placed : (source : List ℕ) (at end : ℕ) (ts : List Token) → at < end → end ≤ length source →
    option_map lexeme_read (lexeme_at (drop at source)) ≡ Some (ts, drop end source) →
    placed_left at (drop at source) ≡ map (λ t. (at, t)) ts ++ placed_left end (drop end source)
read-placed source at end ts lt within h = placed-found source at end ts (lexeme_at (drop at source)) refl lt within h

-- the first byte 0
pub nul-first : (source : List ℕ) (place : ℕ) → IsFirstByte (is_byte 0) source (Some place) → fault_of fault.Nul place ≡ first_nul source
nul-first source place h =
    let first = found-first 0 source place h in
    let len : length (take place source) ≡ place = omega (arith, length-take place source, first.0) in
    ap (fault_of fault.Nul) (sym len ∙ ap length first.1)

-- a byte 0 is no fault of a word, nor of an operator
double-kind : (text left : List ℕ) → (double_stop text left).0 ≡ fault.Nul → ⊥
double-kind text [] e = cc
double-kind text (b ∷ bs) e = cc

same-kind : (s t : Stop) → ◌≡◌ {A = Option Stop} (Some s) (Some t) → (s.0 ≡ fault.Nul → ⊥) → t.0 ≡ fault.Nul → ⊥
same-kind s t e not h = let same : s ≡ t = cc in not (ap (λ (w : Stop). w.0) same ∙ h)

stop-kind : (left : List ℕ) (s : Stop) → stop_at left ≡ Some s → s.0 ≡ fault.Nul → ⊥
unfolding stop_at
stop-kind [] s = λ e h. absurd (let no : ◌≡◌ {A = Option Stop} None (Some s) = e in cc)
stop-kind (b ∷ bs) s =
    on_test (b == 36) (λ o. o ≡ Some s → s.0 ≡ fault.Nul → ⊥) (Some (fault.Substitution, b ∷ bs)) _
    (λ _ e. same-kind (fault.Substitution, b ∷ bs) s e (λ h. cc))
    (λ _. on_test (b == 92) (λ o. o ≡ Some s → s.0 ≡ fault.Nul → ⊥) (Some (fault.Backslash, b ∷ bs)) _
    (λ _ e. same-kind (fault.Backslash, b ∷ bs) s e (λ h. cc))
    (λ _. on_test (b == 39) (λ o. o ≡ Some s → s.0 ≡ fault.Nul → ⊥) (Some (fault.Quote, b ∷ bs)) _
    (λ _ e. same-kind (fault.Quote, b ∷ bs) s e (λ h. cc))
    (λ _. on_test (b == 34) (λ o. o ≡ Some s → s.0 ≡ fault.Nul → ⊥) (Some (double_stop (b ∷ bs) (all inner_at bs).1)) (Some (fault.Operator, b ∷ bs))
    (λ _ e. same-kind (double_stop (b ∷ bs) (all inner_at bs).1) s e (double-kind (b ∷ bs) (all inner_at bs).1))
    (λ _ e. same-kind (fault.Operator, b ∷ bs) s e (λ h. cc)))))

fault-kind : (source : List ℕ) (o : Option Stop) (f : Fault) → ((s : Stop) → o ≡ Some s → s.0 ≡ fault.Nul → ⊥) →
    option_map (fault_in source) o ≡ Some f → f.kind ≡ fault.Nul → ⊥
fault-kind source None f not e h = absurd (let no : ◌≡◌ {A = Option Fault} None (Some f) = e in cc)
fault-kind source (Some s) f not e h = let same : fault_in source s ≡ f = cc in not s refl (ap (λ (g : Fault). g.kind) same ∙ h)

pub not-nul : (source left : List ℕ) (place : ℕ) → left_fault source left ≡ Some (fault_of fault.Nul place) → ⊥
unfolding left_fault
not-nul source left place e =
    fault-kind source (stop_at (piece_end left)) (fault_of fault.Nul place) (λ s h. stop-kind (piece_end left) s h) e refl
