-- What a write at a position makes of the variables.
use Rattle.std.proofs.Common.{◌≡◌, ℕ, zero, suc, ◌<◌, T, List, [], ◌∷◌, ◌++◌, length, drop, get_or, All, vec_len, Some, None, is_some, true, sym, ap, subst, ◌∙◌, refl, arith}
use Rattle.std.specs.Prelude.{Result, Ok, Err, MatchResult}
use Rattle.std.specs.FinMap as env
use Rattle.std.specs.FinMap.Entries.{put, find, is_sorted}
use Rattle.std.proofs.Math.Seq.{drop-cons}
use Rattle.std.proofs.lemmas.List.{map-append}
use Rattle.std.proofs.lemmas.List.Elements.{All-append, All-cons}
use Rattle.envimg_core.specs.Environment.{Pair, bytes_cmp, Environment, IsVariable}
use Rattle.envvars_store.specs.Laying.{pair_of, LiesIn}
use Rattle.envvars_store.specs.Runs.{Run, flat, pairs, listed, variables_at, front, rest, later, IsFilled, HoldsVariable, AreInOrder, IsPositionOf, BelongsAt}
use Rattle.envvars_store.specs.declared.variable.Variable.{Variable}
use Rattle.envvars_store.specs.declared.runs.Position.{Position}
use Rattle.envimg_core.proofs.Facts.{same_name}
use Rattle.envvars_store.proofs.OrderLemmas.{put_between, put_over, find_at, find_missed, without, without_at, without_missed}
use Rattle.envvars_store.proofs.MapLemmas.{env_of, sorted_put, sorted_without, given_put, given_without, given_entries}
use Rattle.envvars_store.proofs.RunLemmas.{whole, gap_whole, variables_read, variables_long}
use Rattle.envvars_store.proofs.FindLemmas.{All_front, All_back}

-- the variable at an index
variable_there : (variables : List Variable) (k : ℕ) → k < length variables → (x : Variable) × (x ≡ get_or variables k x)
variable_there [] k h = absurd (omega arith)
variable_there (z ∷ zs) zero h = (z, refl)
variable_there (z ∷ zs) (suc k) h = variable_there zs k (omega arith)

-- the variables, cut at a position
pub position_cut : (runs : List Run) (s : Position) (x : Variable) → s.run < length runs → s.index < length (variables_at runs s.run) → x ≡ get_or (variables_at runs s.run) s.index x → flat runs ≡ front runs s ++ x ∷ later runs s
position_cut runs s x h w e =
    whole runs s h ∙ ap (λ r. front runs s ++ r) (ap (λ d. d ++ flat (drop (suc s.run) runs)) (drop-cons (variables_at runs s.run) s.index x w ∙ ap (λ v. v ∷ drop (suc s.index) (variables_at runs s.run)) (sym e)))

pairs_cut : (area : List ℕ) (a : List Variable) (x : Variable) (b : List Variable) → pairs area (a ++ x ∷ b) ≡ pairs area a ++ pair_of area x ∷ pairs area b
pairs_cut area a x b = map-append (pair_of area) a (x ∷ b)

pairs_seam : (area : List ℕ) (a b : List Variable) → pairs area (a ++ b) ≡ pairs area a ++ pairs area b
pairs_seam area a b = map-append (pair_of area) a b

-- what holds of all variables, once some are taken out and one is put in
kept : (P : Variable → Type 0) (a m b : List Variable) → All P (a ++ (m ++ b)) → All P (a ++ b)
kept P a m b h = All-append P a b (All_front P a (m ++ b) h) (All_back P m b (All_back P a (m ++ b) h))

joined_with : (P : Variable → Type 0) (a m b : List Variable) (x : Variable) → All P (a ++ (m ++ b)) → P x → All P (a ++ x ∷ b)
joined_with P a m b x h p = All-append P a (x ∷ b) (All_front P a (m ++ b) h) (All-cons P x b p (All_back P m b (All_back P a (m ++ b) h)))

-- what a write leaves, and what a removal
pub record IsWritten (area : List ℕ) (runs new : List Run) (p : Variable) : Type 0 where
  pub in_order : AreInOrder area new
  pub is_put : listed area new ≡ put bytes_cmp (pair_of area p).0 (pair_of area p).1 (listed area runs)

pub record IsForgotten (area : List ℕ) (runs new : List Run) (q : List ℕ) : Type 0 where
  pub in_order : AreInOrder area new
  pub gone : listed area new ≡ without q (listed area runs)

written : (area : List ℕ) (runs new : List Run) (a m b : List Variable) (p : Variable) → AreInOrder area runs → flat runs ≡ a ++ (m ++ b) → LiesIn area p → HoldsVariable area p → All IsFilled new → flat new ≡ a ++ p ∷ b → put bytes_cmp (pair_of area p).0 (pair_of area p).1 (listed area runs) ≡ pairs area a ++ pair_of area p ∷ pairs area b → IsWritten area runs new p
written area runs new a m b p l all lies formed filled is at =
    let new_put : listed area new ≡ put bytes_cmp (pair_of area p).0 (pair_of area p).1 (listed area runs) = ap (pairs area) is ∙ pairs_cut area a p b ∙ sym at in
    record {
      in_order = record {
        filled = filled;
        lies = subst (All (LiesIn area)) (sym is) (joined_with (LiesIn area) a m b p (subst (All (LiesIn area)) all l.lies) lies);
        sorted = subst (λ xs. T (is_sorted bytes_cmp xs)) (sym new_put) (sorted_put (pair_of area p).0 (pair_of area p).1 (listed area runs) l.sorted);
        formed = subst (All (HoldsVariable area)) (sym is) (joined_with (HoldsVariable area) a m b p (subst (All (HoldsVariable area)) all l.formed) formed);
      };
      is_put = new_put;
    }

pub written_over : (area : List ℕ) (runs new : List Run) (s : Position) (p : Variable) → AreInOrder area runs → LiesIn area p → HoldsVariable area p → IsPositionOf (pair_of area p).0 area runs s → All IsFilled new → flat new ≡ front runs s ++ p ∷ later runs s → IsWritten area runs new p
written_over area runs new s p l lies formed f filled is =
    let there = variable_there (variables_at runs s.run) s.index f.index in
    let all : flat runs ≡ front runs s ++ there.0 ∷ later runs s = position_cut runs s there.0 f.run f.index there.1 in
    written area runs new (front runs s) (there.0 ∷ []) (later runs s) p l all lies formed filled is
    (ap (put bytes_cmp (pair_of area p).0 (pair_of area p).1) (ap (pairs area) all ∙ pairs_cut area (front runs s) there.0 (later runs s))
    ∙ put_over (pair_of area p).0 (pair_of area p).1 (pairs area (front runs s)) (pair_of area there.0) (pairs area (later runs s)) f.before (f.equal there.0 there.1))

pub written_into : (area : List ℕ) (runs new : List Run) (s : Position) (p : Variable) → AreInOrder area runs → LiesIn area p → HoldsVariable area p → BelongsAt (pair_of area p).0 area runs s → All IsFilled new → flat new ≡ front runs s ++ p ∷ rest runs s → IsWritten area runs new p
written_into area runs new s p l lies formed g filled is =
    let all : flat runs ≡ front runs s ++ rest runs s = gap_whole runs s in
    written area runs new (front runs s) [] (rest runs s) p l all lies formed filled is
    (ap (put bytes_cmp (pair_of area p).0 (pair_of area p).1) (ap (pairs area) all ∙ pairs_seam area (front runs s) (rest runs s))
    ∙ put_between (pair_of area p).0 (pair_of area p).1 (pairs area (front runs s)) (pairs area (rest runs s)) g.before g.after)

pub forgotten : (area : List ℕ) (runs new : List Run) (s : Position) (q : List ℕ) → AreInOrder area runs → IsPositionOf q area runs s → All IsFilled new → flat new ≡ front runs s ++ later runs s → IsForgotten area runs new q
forgotten area runs new s q l f filled is =
    let there = variable_there (variables_at runs s.run) s.index f.index in
    let all : flat runs ≡ front runs s ++ there.0 ∷ later runs s = position_cut runs s there.0 f.run f.index there.1 in
    let listed_all : listed area runs ≡ pairs area (front runs s) ++ pair_of area there.0 ∷ pairs area (later runs s) = ap (pairs area) all ∙ pairs_cut area (front runs s) there.0 (later runs s) in
    let sorted = subst (λ xs. T (is_sorted bytes_cmp xs)) listed_all l.sorted in
    let new_gone : listed area new ≡ without q (listed area runs) =
    ap (pairs area) is ∙ pairs_seam area (front runs s) (later runs s)
    ∙ sym (ap (without q) listed_all ∙ without_at q (pairs area (front runs s)) (pair_of area there.0) (pairs area (later runs s)) sorted f.before (f.equal there.0 there.1)) in
    record {
      in_order = record {
        filled = filled;
        lies = subst (All (LiesIn area)) (sym is) (kept (LiesIn area) (front runs s) (there.0 ∷ []) (later runs s) (subst (All (LiesIn area)) all l.lies));
        sorted = subst (λ xs. T (is_sorted bytes_cmp xs)) (sym new_gone) (sorted_without q (listed area runs) l.sorted);
        formed = subst (All (HoldsVariable area)) (sym is) (kept (HoldsVariable area) (front runs s) (there.0 ∷ []) (later runs s) (subst (All (HoldsVariable area)) all l.formed));
      };
      gone = new_gone;
    }

seam_sorted : (area : List ℕ) (runs : List Run) (s : Position) → AreInOrder area runs → T (is_sorted bytes_cmp (pairs area (front runs s) ++ pairs area (rest runs s)))
seam_sorted area runs s l = subst (λ xs. T (is_sorted bytes_cmp xs)) (ap (pairs area) (gap_whole runs s) ∙ pairs_seam area (front runs s) (rest runs s)) l.sorted

pub nothing_there : (area : List ℕ) (runs : List Run) (s : Position) (q : List ℕ) → AreInOrder area runs → BelongsAt q area runs s → listed area runs ≡ without q (listed area runs)
nothing_there area runs s q l g =
    let all : listed area runs ≡ pairs area (front runs s) ++ pairs area (rest runs s) = ap (pairs area) (gap_whole runs s) ∙ pairs_seam area (front runs s) (rest runs s) in
    all ∙ sym (without_missed q (pairs area (front runs s)) (pairs area (rest runs s)) (seam_sorted area runs s l) g.before g.after) ∙ ap (without q) (sym all)

-- runs of the same variables
pub laid_same : (area : List ℕ) (runs new : List Run) → AreInOrder area runs → All IsFilled new → flat new ≡ flat runs → AreInOrder area new
laid_same area runs new l filled is =
    record {
      filled = filled;
      lies = subst (All (LiesIn area)) (sym is) l.lies;
      sorted = subst (λ xs. T (is_sorted bytes_cmp (pairs area xs))) (sym is) l.sorted;
      formed = subst (All (HoldsVariable area)) (sym is) l.formed;
    }

-- what a look-up finds
pub got : (area : List ℕ) (runs : List Run) (s : Position) (q : List ℕ) (x : Variable) → AreInOrder area runs → IsPositionOf q area runs s → x ≡ get_or (variables_at runs s.run) s.index x → env.get (env_of (listed area runs)) q ≡ Some (pair_of area x).1
got area runs s q x l f e =
    env.get-from_sorted bytes_cmp (listed area runs) q l.sorted
    ∙ ap (find bytes_cmp q) (ap (pairs area) (position_cut runs s x f.run f.index e) ∙ pairs_cut area (front runs s) x (later runs s))
    ∙ find_at q (pairs area (front runs s)) (pair_of area x) (pairs area (later runs s)) f.before (f.equal x e)

pub got_nothing : (area : List ℕ) (runs : List Run) (s : Position) (q : List ℕ) → AreInOrder area runs → BelongsAt q area runs s → env.get (env_of (listed area runs)) q ≡ None
got_nothing area runs s q l g =
    env.get-from_sorted bytes_cmp (listed area runs) q l.sorted
    ∙ ap (find bytes_cmp q) (ap (pairs area) (gap_whole runs s) ∙ pairs_seam area (front runs s) (rest runs s))
    ∙ find_missed q (pairs area (front runs s)) (pairs area (rest runs s)) (seam_sorted area runs s l) g.before g.after

pub found_as : (q p area more_area : List ℕ) (runs more : List Run) (s : Position) → q ≡ p → area ≡ more_area → runs ≡ more → IsPositionOf q area runs s → IsPositionOf p more_area more s
found_as q p area more_area runs more s a b c f = subst (λ n. IsPositionOf n more_area more s) a (subst (λ x. IsPositionOf q x more s) b (subst (λ rs. IsPositionOf q area rs s) c f))

pub gap_as : (q p area more_area : List ℕ) (runs more : List Run) (s : Position) → q ≡ p → area ≡ more_area → runs ≡ more → BelongsAt q area runs s → BelongsAt p more_area more s
gap_as q p area more_area runs more s a b c f = subst (λ n. BelongsAt n more_area more s) a (subst (λ x. BelongsAt q x more s) b (subst (λ rs. BelongsAt q area rs s) c f))

-- what a search answered
pub found_of : (r : Result Position Position) (s : Position) (q area : List ℕ) (runs : List Run) → MatchResult r (IsPositionOf q area runs) (BelongsAt q area runs) → r ≡ Ok s → IsPositionOf q area runs s
found_of r s q area runs m e = subst (λ x. MatchResult x (IsPositionOf q area runs) (BelongsAt q area runs)) e m

pub gap_of : (r : Result Position Position) (s : Position) (q area : List ℕ) (runs : List Run) → MatchResult r (IsPositionOf q area runs) (BelongsAt q area runs) → r ≡ Err s → BelongsAt q area runs s
gap_of r s q area runs m e = subst (λ x. MatchResult x (IsPositionOf q area runs) (BelongsAt q area runs)) e m

-- the variable at a position that was found
pub position_read : (q area : List ℕ) (runs : List Run) (s : Position) (r : Run) (x : Variable) → IsPositionOf q area runs s → r ≡ get_or runs s.run r → x ≡ get_or r.items s.index x → x ≡ get_or (variables_at runs s.run) s.index x
position_read q area runs s r x f e is = is ∙ ap (λ m. get_or m s.index x) (sym (variables_read runs s.run r f.run e))

pub position_within : (q area : List ℕ) (runs : List Run) (s : Position) (r : Run) → IsPositionOf q area runs s → r ≡ get_or runs s.run r → s.index < vec_len r
position_within q area runs s r f e = let w = f.index in omega (arith, variables_long runs s.run r f.run e)

pub position_placed : (q area : List ℕ) (runs : List Run) (s : Position) (x : Variable) → AreInOrder area runs → IsPositionOf q area runs s → x ≡ get_or (variables_at runs s.run) s.index x → LiesIn area x
position_placed q area runs s x l f e =
    All_back (LiesIn area) (front runs s) (x ∷ later runs s) (subst (All (LiesIn area)) (position_cut runs s x f.run f.index e) l.lies) 0 x (omega arith)

-- what the writes make of the environment; the code lends the area under another name
pub put_env : (lent area : List ℕ) (runs new : List Run) (p : Pair) (q v : List ℕ) (m : Environment) → lent ≡ area → AreInOrder area runs → p ≡ (q, v) → env_of (listed area runs) ≡ m → listed lent new ≡ put bytes_cmp p.0 p.1 (listed lent runs) → env_of (listed area new) ≡ env.insert m q v
put_env lent area runs new p q v m e l is at put_is =
    given_put p q v (listed area runs) (listed area new) m l.sorted is at (subst (λ a. listed a new ≡ put bytes_cmp p.0 p.1 (listed a runs)) e put_is)

pub forget_env : (lent area : List ℕ) (runs new : List Run) (q : List ℕ) (m : Environment) → lent ≡ area → AreInOrder area runs → env_of (listed area runs) ≡ m → listed lent new ≡ without q (listed lent runs) → env_of (listed area new) ≡ env.remove m q
forget_env lent area runs new q m e l at gone =
    given_without q (listed area runs) (listed area new) m l.sorted at (subst (λ a. listed a new ≡ without q (listed a runs)) e gone)

-- no runs are no variables
pub laid_none : (area : List ℕ) → AreInOrder area []
laid_none area =
    record {
      filled = λ k d h. absurd (omega arith);
      lies = λ k d h. absurd (omega arith);
      sorted = tt;
      formed = λ k d h. absurd (omega arith);
    }

-- each variable of runs has its form
formed_pairs : (area : List ℕ) (variables : List Variable) → All (HoldsVariable area) variables → All IsVariable (pairs area variables)
formed_pairs area [] h = λ k d w. absurd (omega arith)
formed_pairs area (x ∷ variables) h = All-cons IsVariable (pair_of area x) (pairs area variables) (h 0 x (omega arith)) (formed_pairs area variables (λ k d w. h (suc k) d (omega arith)))

pub formed_entries : (area : List ℕ) (runs : List Run) (m : Environment) → AreInOrder area runs → env_of (listed area runs) ≡ m → All IsVariable (env.entries m)
formed_entries area runs m l e = subst (All IsVariable) (given_entries (listed area runs) m l.sorted e) (formed_pairs area (flat runs) l.formed)

pub got_some : (area : List ℕ) (runs : List Run) (s : Position) (q : List ℕ) → AreInOrder area runs → IsPositionOf q area runs s → is_some (env.get (env_of (listed area runs)) q) ≡ true
got_some area runs s q l f =
    let there = variable_there (variables_at runs s.run) s.index f.index in
    ap is_some (got area runs s q there.0 l f there.1)

-- the same variables, lent under other names
pub listed_lent : (lent area : List ℕ) (runs more : List Run) → lent ≡ area → runs ≡ more → listed lent runs ≡ listed area more
listed_lent lent area runs more e f = ap (λ a. listed a runs) e ∙ ap (listed area) f

pub laid_lent : (lent area : List ℕ) (runs more : List Run) → lent ≡ area → runs ≡ more → AreInOrder area more → AreInOrder lent runs
laid_lent lent area runs more e f l = subst (λ a. AreInOrder a runs) (sym e) (subst (AreInOrder area) (sym f) l)

pub got_formed : (area lent : List ℕ) (runs : List Run) (s : Position) (q v : List ℕ) (x : Variable) → AreInOrder area runs → IsPositionOf q area runs s → x ≡ get_or (variables_at runs s.run) s.index x → lent ≡ area → v ≡ (pair_of lent x).1 → IsVariable (q, v)
got_formed area lent runs s q v x l f e at is =
    let formed : HoldsVariable area x = All_back (HoldsVariable area) (front runs s) (x ∷ later runs s) (subst (All (HoldsVariable area)) (position_cut runs s x f.run f.index e) l.formed) 0 x (omega arith) in
    let given : v ≡ (pair_of area x).1 = is ∙ ap (λ a. (pair_of a x).1) at in
    let with_name : IsVariable (q, (pair_of area x).1) = subst (λ n. IsVariable (n, (pair_of area x).1)) (sym (same_name q (pair_of area x).0 (f.equal x e))) formed in
    subst (λ w. IsVariable (q, w)) (sym given) with_name
