-- Entries whose names rise: each is put at the end.
use Rattle.std.proofs.Common.{◌≡◌, ◌≢◌, ℕ, ◌+◌, ◌-◌, ◌<◌, T, false, List, [], ◌∷◌, ◌++◌, length, take, drop, get_or, fold, filter, All, Some, sym, ap, subst, ◌∙◌, arith, Less, Greater, append-nil, slice_range, length-take, get_or-drop, get_or-take, eqb-true}
use Rattle.std.specs.FinMap as env
use Rattle.std.specs.FinMap.Entries.{put, is_sorted}
use Rattle.std.proofs.lemmas.Cmp.{nat_list_cmp_total}
use Rattle.std.proofs.lemmas.List.{map-append}
use Rattle.std.proofs.lemmas.List.Elements.{All-push}
use Rattle.memchr.specs.Find.{IsFirstByte, is_byte}
use Rattle.envimg_core.specs.Environment.{is_equals, bytes_cmp, Environment, IsVariable}
use Rattle.envimg_core.specs.Pieces.{entries_of, entry_of, has_name, after_entry}
use Rattle.envvars_store.specs.Order.{AllBefore}
use Rattle.envvars_store.specs.Laying.{pair_of, LiesIn}
use Rattle.envvars_store.specs.Pieces.{IsPiece, IsNextExtent}
use Rattle.envvars_store.specs.Runs.{Run, flat, pairs, listed, IsFilled, HoldsVariable, AreInOrder}
use Rattle.envvars_store.specs.declared.variable.Extent.{Extent}
use Rattle.envvars_store.specs.declared.variable.Variable.{Variable}
use Rattle.envvars_store.specs.declared.variable.Variable.TheVariants.{Loaded}
use Rattle.envvars_store.proofs.OrderLemmas.{turned, put_between, all_before_push}
use Rattle.envvars_store.proofs.MapLemmas.{env_of, env_put, sorted_put}
use Rattle.envvars_store.proofs.CompareLemmas.{not_empty}
use Rattle.envvars_store.proofs.EntryLemmas.{before_at, piece_read, piece_long, name_part, place_formed, place_gives}

-- a name after the last one comes after all
abbrev pub RisesTo : (area : List ℕ) (runs : List Run) (last : List ℕ) → Type 0
RisesTo area runs last = (q : List ℕ) → bytes_cmp q last ≡ Greater → AllBefore q (listed area runs)

after_both : (q n last : List ℕ) → bytes_cmp q n ≡ Greater → bytes_cmp n last ≡ Greater → bytes_cmp q last ≡ Greater
after_both q n last a b = turned last q Less (nat_list_cmp_total.trans last n q (turned n last Greater b) (turned q n Greater a))

-- what a push in rising order leaves
pub record IsRisen (area : List ℕ) (runs new : List Run) (p : Extent) : Type 0 where
  pub in_order : AreInOrder area new
  pub is_put : listed area new ≡ put bytes_cmp (pair_of area (Loaded p)).0 (pair_of area (Loaded p)).1 (listed area runs)
  pub rises : (q : List ℕ) → bytes_cmp q (pair_of area (Loaded p)).0 ≡ Greater → AllBefore q (listed area new)

pub risen : (area : List ℕ) (runs new : List Run) (at : ℕ) (last : List ℕ) (p : Extent) → AreInOrder area runs → RisesTo area runs last → IsNextExtent area at last p → All IsFilled new → flat new ≡ flat runs ++ Loaded p ∷ [] → IsRisen area runs new p
risen area runs new at last p l rises next filled is =
    let n = (pair_of area (Loaded p)).0 in
    let v = (pair_of area (Loaded p)).1 in
    let es = listed area runs in
    let more : listed area new ≡ es ++ (n, v) ∷ [] = ap (pairs area) is ∙ map-append (pair_of area) (flat runs) (Loaded p ∷ []) in
    let before : AllBefore n es = rises n next.rising in
    let put_is : listed area new ≡ put bytes_cmp n v es = more ∙ sym (ap (put bytes_cmp n v) (sym (append-nil es)) ∙ put_between n v es [] before tt) in
    record {
      in_order = record {
        filled = filled;
        lies = subst (All (LiesIn area)) (sym is) (All-push (LiesIn area) (flat runs) (Loaded p) l.lies next.extent);
        sorted = subst (λ xs. T (is_sorted bytes_cmp xs)) (sym put_is) (sorted_put n v es l.sorted);
        formed = subst (All (HoldsVariable area)) (sym is) (All-push (HoldsVariable area) (flat runs) (Loaded p) l.formed next.formed);
      };
      is_put = put_is;
      rises = λ q g. subst (AllBefore q) (sym more) (all_before_push q es (n, v) (rises q (after_both q n last g next.rising)) g);
    }

pub risen_left : (area : List ℕ) (runs new : List Run) (at : ℕ) (last : List ℕ) (p : Extent) (goal : Environment) → AreInOrder area runs → IsNextExtent area at last p → IsRisen area runs new p → fold after_entry (env_of (listed area runs)) (entries_of (drop at area)) ≡ goal → fold after_entry (env_of (listed area new)) (entries_of (drop (p.end + 1) area)) ≡ goal
risen_left area runs new at last p goal l next r e =
    let from_start : fold after_entry (env_of (listed area runs)) (entries_of (drop p.start area)) ≡ goal = ap (λ n. fold after_entry (env_of (listed area runs)) (entries_of (drop n area))) next.start ∙ e in
    piece_read area p.start p.end (env_of (listed area runs)) (env_of (listed area new)) goal next.piece from_start
    (ap env_of r.is_put ∙ env_put (pair_of area (Loaded p)).0 (pair_of area (Loaded p)).1 (listed area runs) l.sorted ∙ sym (next.entry (env_of (listed area runs))))

-- the '=' that was found in a piece
pub extent_equals : (area : List ℕ) (s e k : ℕ) → IsPiece area s e → IsFirstByte (is_byte 61) (slice_range area s e) (Some k) → get_or area (s + k) 0 ≡ 61
extent_equals area s e k p f =
    let within : k < length (slice_range area s e) = f.0.high in
    let short : k < e - s = omega (arith, length-take (e - s) (drop s area)) in
    sym (get_or-take (e - s) (drop s area) k 0 short ∙ get_or-drop s area k 0) ∙ eqb-true _ _ f.1

pub next_place_is : (area : List ℕ) (s k e : ℕ) (last : List ℕ) (p : Extent) → p.start ≡ s → p.middle ≡ s + k → p.end ≡ e → IsPiece area s e → IsFirstByte (is_byte 61) (slice_range area s e) (Some k) → (s + k + 1 ≢ e) → bytes_cmp (take k (slice_range area s e)) last ≡ Greater → IsNextExtent area s last p
next_place_is area s k e last p a b c piece f m g =
    let n : k ≢ 0 = not_empty (slice_range area s e) last k g in
    let within : k < length (slice_range area s e) = f.0.high in
    let size : length (slice_range area s e) ≡ e - s = piece_long area s e piece in
    let some = piece.some in
    let inner = piece.within in
    let more : k + 1 ≢ length (slice_range area s e) = λ w. m (omega arith) in
    record {
      start = a;
      piece = subst (λ x. IsPiece area x p.end) (sym a) (subst (IsPiece area s) (sym c) piece);
      extent = record { ordered = omega arith; inside = omega arith; within = omega arith; equals = ap (λ x. get_or area x 0) b ∙ extent_equals area s e k piece f };
      formed = subst (λ x. IsVariable (slice_range area x p.middle, slice_range area (p.middle + 1) p.end)) (sym a)
          (subst (λ x. IsVariable (slice_range area s x, slice_range area (x + 1) p.end)) (sym b)
          (subst (λ x. IsVariable (slice_range area s (s + k), slice_range area (s + k + 1) x)) (sym c) (place_formed area s e k piece f n more)));
      plain = subst (λ x. All (λ b. is_equals b ≡ false) (slice_range area x p.middle)) (sym a)
          (subst (λ x. All (λ b. is_equals b ≡ false) (slice_range area s x)) (sym b)
          (subst (All (λ b. is_equals b ≡ false)) (sym (name_part area s e k (omega arith))) (before_at 61 (slice_range area s e) k f)));
      entry = λ w.
          ap (λ x. fold after_entry w (filter has_name (entry_of (slice_range area x p.end) ∷ []))) a ∙ ap (λ x. fold after_entry w (filter has_name (entry_of (slice_range area s x) ∷ []))) c
          ∙ sym (place_gives w area s e k piece f n more)
          ∙ sym (ap (λ x. env.insert w (slice_range area x p.middle) (slice_range area (p.middle + 1) p.end)) a ∙ ap (λ x. env.insert w (slice_range area s x) (slice_range area (x + 1) p.end)) b ∙ ap (λ x. env.insert w (slice_range area s (s + k)) (slice_range area (s + k + 1) x)) c);
      rising = ap (λ x. bytes_cmp (slice_range area x p.middle) last) a ∙ ap (λ x. bytes_cmp (slice_range area s x) last) b ∙ ap (λ x. bytes_cmp x last) (name_part area s e k (omega arith)) ∙ g;
    }

-- at the beginning there are no variables
pub rises_none : (area : List ℕ) (runs : List Run) → runs ≡ [] → RisesTo area runs []
rises_none area runs e = λ q g. subst (λ rs. AllBefore q (listed area rs)) (sym e) tt

-- the first run, with one variable
pub first_run_filled : (runs : List Run) (run : Run) (p : Variable) → runs ≡ [] → run.items ≡ p ∷ [] → All IsFilled (runs ++ run ∷ [])
first_run_filled runs run p none is =
    let some : 0 < length run.items = subst (λ xs. 0 < length xs) (sym is) (omega arith) in
    subst (λ rs. All IsFilled (rs ++ run ∷ [])) (sym none) (All-push IsFilled [] run (λ k d h. absurd (omega arith)) (omega (arith, run.ok.0, some)))

pub first_run_flat : (runs : List Run) (run : Run) (p : Variable) → runs ≡ [] → run.items ≡ p ∷ [] → flat (runs ++ run ∷ []) ≡ flat runs ++ p ∷ []
first_run_flat runs run p none is = ap (λ rs. flat (rs ++ run ∷ [])) none ∙ append-nil run.items ∙ is ∙ sym (ap (λ rs. flat rs ++ p ∷ []) none)
