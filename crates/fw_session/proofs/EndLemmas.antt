-- How a whole call ends.
use Rattle.std.proofs.Common.{◌≡◌, ℕ, ◌+◌, ◌<◌, ◌≤◌, length, ◌++◌, List, [], ◌∷◌, Option, refl, sym, ap, subst, ◌∙◌, inl, inr, arith, take, length-append, append-nil, append_assoc}
use Rattle.std.specs.Prelude.{zero, suc}
use Rattle.fw_session.proofs.CutLemmas.{pending_none}
use Rattle.env_session.specs.Session.{Held}
use Rattle.std.specs.Io.KnownBytes.{Consumes, Keeps, IsAtEnd}
use Rattle.std.proofs.KnownBytes.{Consumes-nil, Consumes-trans, Consumes-kept}
use Rattle.hush_run.specs.Meaning.{Rules}
use Rattle.fw_session.specs.Turns.{NamedSession}
use Rattle.fw_session.specs.NamedSessions.{names_of, named_session, session_of}
use Rattle.fw_session.specs.Ends.{Ends, input_limit, read_limit}
use Rattle.fw_session.specs.Handling.{Handled, HandledUntilCut, IsPending}
use Rattle.std.proofs.lemmas.List.{take-append-le, length-take-le}
use Rattle.std.proofs.Common.{Err}
use Rattle.fw_session.specs.declared.session_end.SessionEnd.{SessionEnd}
use Rattle.fw_session.specs.declared.session_end.Stop.{Stop}
use Rattle.fw_session.specs.Talks.{HandlesPiece, Reading, HandlesAll, HandlesSome, Finishes, LeavesOff}
use Rattle.fw_session.specs.declared.talk.Talk.{Talk}
use Rattle.fw_session.specs.declared.session_end.SessionEnding.{SessionEnding}
use Rattle.fw_session.specs.declared.session_end.SessionEnding.TheVariants.{Done, ReadFault, TooLong, WriteFault, Memory}
use Rattle.fw_session.proofs.HandlingLemmas.{handled_none, handled_then, handled_cut_short, answered_whole, cut_short_whole, answered_all, cut_short_all}

ends_as : (e e' : SessionEnding) (rules : Rules) (h h' h'' : NamedSession) (i i' o o' : Option (List ℕ)) (r r' w w' : ℕ) → h'' ≡ h' → e' ≡ e → r' ≡ r → w' ≡ w → Ends e rules h i i' o o' r w h' → Ends e' rules h i i' o o' r' w' h''
ends_as e e' rules h h' h'' i i' o o' r r' w w' a b c d x =
    subst (λ v. Ends v rules h i i' o o' r' w' h'') (sym b)
    (subst (λ v. Ends e rules h i i' o o' v w' h'') (sym c) (subst (λ v. Ends e rules h i i' o o' r v h'') (sym d) (subst (λ v. Ends e rules h i i' o o' r w v) (sym a) x)))

-- what is handed out of a talk
pub ended_as : (e e' : SessionEnding) (rules : Rules) (h : NamedSession) (talk : Talk) (now : Held) (i i' o o' : Option (List ℕ)) (r r' w' : ℕ) → now ≡ talk.session → e' ≡ e → r' ≡ r → w' ≡ talk.written →
    Ends e rules h i i' o o' r talk.written (session_of talk) → (names : List (Option (List ℕ))) × Ends e' rules h i i' o o' r' w' (named_session now names)
ended_as e e' rules h talk now i i' o o' r r' w' a b c d x =
    let names = names_of talk.names.items in (names, ends_as e e' rules h (session_of talk) (named_session now names) i i' o o' r r' talk.written w' (ap (λ v. named_session v names) a) b c d x)

-- what is handed out after a fault of reading
pub left_off_as : (rules : Rules) (h : NamedSession) (talk : Talk) (end : SessionEnd) (i i' o o' o'' : Option (List ℕ)) (read r' : ℕ) → LeavesOff talk o' o'' end → r' ≡ read →
    Ends ReadFault rules h i i' o o' read talk.written (session_of talk) → (names : List (Option (List ℕ))) × Ends end.ending rules h i i' o o'' r' end.written (named_session end.session names)
left_off_as rules h talk end i i' o o' o'' read r' left is x =
    ended_as ReadFault end.ending rules h talk end.session i i' o o'' read r' end.written left.0 left.1 is left.2 (subst (λ v. Ends ReadFault rules h i i' o v read talk.written (session_of talk)) (sym left.3) x)

pub finishes_as : (e e' : SessionEnding) (rules : Rules) (h : NamedSession) (bytes : List ℕ) (talk : Talk) (now : Held) (o o' : Option (List ℕ)) (n w' : ℕ) → now ≡ talk.session → e' ≡ e → w' ≡ talk.written →
    Finishes rules h bytes o o' n talk.written (session_of talk) e → (names : List (Option (List ℕ))) × Finishes rules h bytes o o' n w' (named_session now names) e'
finishes_as e e' rules h bytes talk now o o' n w' a b d x =
    let names = names_of talk.names.items in (
      names,
      subst (λ v. Finishes rules h bytes o o' n w' (named_session now names) v) (sym b)
          (subst (λ v. Finishes rules h bytes o o' n v (named_session now names) e) (sym d) (subst (λ v. Finishes rules h bytes o o' n talk.written (named_session v names) e) (sym a) x)),
    )

pub reading_more : (rules : Rules) (h : NamedSession) (i i' i'' o o' o'' : Option (List ℕ)) (read count : ℕ) (piece : List ℕ) (old new : Talk) → Reading rules h i i' o o' read old → Consumes i' i'' piece → length piece ≡ count → read + count ≤ input_limit →
    HandlesAll rules piece old new o' o'' → Reading rules h i i'' o o'' (read + count) new
reading_more rules h i i' i'' o o' o'' read count piece old new r gave is room s = record {
  bytes = r.bytes ++ piece;
  read_is = omega (arith, r.read_is, length-append r.bytes piece);
  bounded = omega (arith, r.read_is, length-append r.bytes piece);
  consumed = Consumes-trans i i' i'' r.bytes piece r.consumed gave;
  pending = s.0;
  handled = handled_then rules [] old.bytes.items new.bytes.items r.bytes piece h (session_of old) (session_of new) o o' o'' 0 old.written new.written r.handled s.1;
}

pub read_failed : (rules : Rules) (h : NamedSession) (i i' i'' o o' : Option (List ℕ)) (read : ℕ) (talk : Talk) → Reading rules h i i' o o' read talk → Keeps i' i'' → Ends ReadFault rules h i i'' o o' read talk.written (session_of talk)
read_failed rules h i i' i'' o o' read talk r k = (
  r.bytes,
  (Consumes-kept i i' i'' r.bytes r.consumed k, r.read_is, r.bounded),
  answered_whole rules r.bytes talk.bytes.items talk.start h (session_of talk) o o' 0 talk.written r.pending r.handled,
)

pub too_long : (rules : Rules) (h : NamedSession) (i i' i'' o o' : Option (List ℕ)) (read more : ℕ) (talk : Talk) → Reading rules h i i' o o' read talk → input_limit ≤ read → Consumes i' i'' (more ∷ []) → Ends TooLong rules h i i'' o o' read talk.written (session_of talk)
too_long rules h i i' i'' o o' read more talk r full gave = (
  r.bytes,
  more,
  Consumes-trans i i' i'' r.bytes (more ∷ []) r.consumed gave,
  r.read_is,
  omega (arith, r.read_is, r.bounded, full),
  answered_whole rules r.bytes talk.bytes.items talk.start h (session_of talk) o o' 0 talk.written r.pending r.handled,
)

pub at_end : (rules : Rules) (h h' : NamedSession) (i i' i'' o o' o'' : Option (List ℕ)) (read read' w' : ℕ) (e : SessionEnding) (talk : Talk) → Reading rules h i i' o o' read talk → Consumes i' i'' [] → IsAtEnd i'' → read' ≡ read →
    Finishes rules (session_of talk) talk.bytes.items o' o'' talk.written w' h' e → Ends e rules h i i'' o o'' read' w' h'
at_end rules h h' i i' i'' o o' o'' read read' w' Done talk r gave end is f = (
  r.bytes,
  (subst (λ b. Consumes i i'' b) (append-nil r.bytes) (Consumes-trans i i' i'' r.bytes [] r.consumed gave), is ∙ r.read_is, r.bounded),
  end,
  answered_all rules r.bytes talk.bytes.items h (session_of talk) h' o o' o'' 0 talk.written w' r.handled f,
)
at_end rules h h' i i' i'' o o' o'' read read' w' WriteFault talk r gave end is f = (
  r.bytes,
  (subst (λ b. Consumes i i'' b) (append-nil r.bytes) (Consumes-trans i i' i'' r.bytes [] r.consumed gave), is ∙ r.read_is, r.bounded),
  inr (end, cut_short_all rules r.bytes talk.bytes.items h (session_of talk) h' o o' o'' 0 talk.written w' r.handled f),
)
at_end rules h h' i i' i'' o o' o'' read read' w' ReadFault talk r gave end is f = absurd f
at_end rules h h' i i' i'' o o' o'' read read' w' TooLong talk r gave end is f = absurd f
at_end rules h h' i i' i'' o o' o'' read read' w' Memory talk r gave end is f = absurd f

pub write_failed : (rules : Rules) (h : NamedSession) (i i' i'' o o' o'' : Option (List ℕ)) (read count : ℕ) (piece : List ℕ) (old new : Talk) → Reading rules h i i' o o' read old → Consumes i' i'' piece → length piece ≡ count → read + count ≤ input_limit → count ≤ read_limit →
    (front : List ℕ) × (rest : List ℕ) × (piece ≡ front ++ rest) × (length rest < length piece) × HandledUntilCut rules old.bytes.items front (session_of old) (session_of new) o' o'' old.written new.written → Ends WriteFault rules h i i'' o o'' (read + count) new.written (session_of new)
write_failed rules h i i' i'' o o' o'' read count piece old new r gave is room few s = (
  r.bytes ++ piece,
  (Consumes-trans i i' i'' r.bytes piece r.consumed gave, omega (arith, r.read_is, length-append r.bytes piece), omega (arith, r.read_is, length-append r.bytes piece)),
  inl (
    r.bytes ++ s.0,
    s.1,
    ap (λ v. r.bytes ++ v) s.2 ∙ sym (append_assoc r.bytes s.0 s.1),
    omega (arith, s.3, is, few),
    cut_short_whole rules (r.bytes ++ s.0) h (session_of new) o o'' 0 new.written
        (handled_cut_short rules [] old.bytes.items r.bytes s.0 h (session_of old) (session_of new) o o' o'' 0 old.written new.written r.handled s.4),
  ),
)

pub no_room : (rules : Rules) (h : NamedSession) (i i' i'' o o' o'' : Option (List ℕ)) (read count : ℕ) (piece : List ℕ) (old new : Talk) → Reading rules h i i' o o' read old → Consumes i' i'' piece → length piece ≡ count → read + count ≤ input_limit →
    (front : List ℕ) × (rest : List ℕ) × (piece ≡ front ++ rest) × HandlesSome rules front old new o' o'' → Ends Memory rules h i i'' o o'' (read + count) new.written (session_of new)
no_room rules h i i' i'' o o' o'' read count piece old new r gave is room s = (
  r.bytes ++ piece,
  (Consumes-trans i i' i'' r.bytes piece r.consumed gave, omega (arith, r.read_is, length-append r.bytes piece), omega (arith, r.read_is, length-append r.bytes piece)),
  (
    r.bytes ++ s.0,
    s.1,
    ap (λ v. r.bytes ++ v) s.2 ∙ sym (append_assoc r.bytes s.0 s.1),
    answered_whole rules (r.bytes ++ s.0) s.3.0 s.3.1 h (session_of new) o o'' 0 new.written s.3.2
        (handled_then rules [] old.bytes.items s.3.0 r.bytes s.0 h (session_of old) (session_of new) o o' o'' 0 old.written new.written r.handled s.3.3),
  ),
)

pub reading_none : (rules : Rules) (h : NamedSession) (i o : Option (List ℕ)) (talk : Talk) → talk.bytes.items ≡ [] → talk.start ≡ 0 → (session_of talk) ≡ h → talk.written ≡ 0 → Reading rules h i i o o 0 talk
reading_none rules h i o talk e z s w = record {
  bytes = [];
  read_is = refl;
  bounded = omega arith;
  consumed = Consumes-nil i;
  pending = subst (λ b. IsPending b talk.start) (sym e) (subst (λ k. IsPending [] k) (sym z) pending_none);
  handled =
      subst (λ b. Handled rules [] [] b h (session_of talk) o o 0 talk.written) (sym e)
      (subst (λ v. Handled rules [] [] [] h v o o 0 talk.written) (sym s) (subst (λ v. Handled rules [] [] [] h h o o 0 v) (sym w) (handled_none rules [] h o 0)));
}

nothing_read : (i i' : Option (List ℕ)) (n : ℕ) (buf : List ℕ) → n ≡ 0 → Consumes i i' (take n buf) → Consumes i i' []
nothing_read i i' zero buf e c = c
nothing_read i i' (suc n) buf e c = absurd (omega arith)

pub at_its_end : (rules : Rules) (h h' : NamedSession) (i i' i'' o o' o'' : Option (List ℕ)) (read read' w' n : ℕ) (buf : List ℕ) (e : SessionEnding) (talk : Talk) → Reading rules h i i' o o' read talk → n ≡ 0 →
    Consumes i' i'' (take n buf) × (n ≡ 0 → 0 < length buf → IsAtEnd i'') → 0 < length buf → read' ≡ read →
    Finishes rules (session_of talk) talk.bytes.items o' o'' talk.written w' h' e → Ends e rules h i i'' o o'' read' w' h'
at_its_end rules h h' i i' i'' o o' o'' read read' w' n buf e talk r z gave room is f =
    at_end rules h h' i i' i'' o o' o'' read read' w' e talk r (nothing_read i' i'' n buf z gave.0) (gave.1 z room) is f

one_read : (i i' : Option (List ℕ)) (n : ℕ) (buf : List ℕ) → (n ≡ 0 → ⊥) → n ≤ length buf → length buf ≡ 1 → Consumes i i' (take n buf) → (more : ℕ) × Consumes i i' (more ∷ [])
one_read i i' zero buf not le one c = absurd (not refl)
one_read i i' (suc n) [] not le one c = absurd (omega arith)
one_read i i' (suc zero) (b ∷ bs) not le one c = (b, c)
one_read i i' (suc (suc n)) (b ∷ bs) not le one c = absurd (omega arith)

pub one_too_many : (rules : Rules) (h : NamedSession) (i i' i'' o o' : Option (List ℕ)) (read n : ℕ) (buf : List ℕ) (talk : Talk) → Reading rules h i i' o o' read talk → input_limit ≤ read → (n ≡ 0 → ⊥) → n ≤ length buf → length buf ≡ 1 →
    Consumes i' i'' (take n buf) → Ends TooLong rules h i i'' o o' read talk.written (session_of talk)
one_too_many rules h i i' i'' o o' read n buf talk r full not le one c = let m = one_read i' i'' n buf not le one c in too_long rules h i i' i'' o o' read m.0 talk r full m.1

-- the bytes that a read gave, at the front of the array
pub gave_piece : (a b : Option (List ℕ)) (count : ℕ) (buf rest : List ℕ) → count ≤ length buf → Consumes a b (take count buf) → Consumes a b (take count (buf ++ rest))
gave_piece a b count buf rest le c = subst (λ v. Consumes a b v) (sym (take-append-le count buf rest le)) c

pub piece_long : (count : ℕ) (buf rest : List ℕ) → count ≤ length buf → length (take count (buf ++ rest)) ≡ count
piece_long count buf rest le = ap length (take-append-le count buf rest le) ∙ length-take-le count buf le

pub stopped_by_write : (rules : Rules) (piece : List ℕ) (old new : Talk) (o o' : Option (List ℕ)) (stop : Stop) → stop ≡ Stop.Write → HandlesPiece rules piece old new o o' (Err stop) →
    (front : List ℕ) × (rest : List ℕ) × (piece ≡ front ++ rest) × (length rest < length piece) × HandledUntilCut rules old.bytes.items front (session_of old) (session_of new) o o' old.written new.written
stopped_by_write rules piece old new o o' stop e s = subst (λ v. HandlesPiece rules piece old new o o' (Err v)) e s

pub stopped_by_memory : (rules : Rules) (piece : List ℕ) (old new : Talk) (o o' : Option (List ℕ)) (stop : Stop) → stop ≡ Stop.Memory → HandlesPiece rules piece old new o o' (Err stop) →
    (front : List ℕ) × (rest : List ℕ) × (piece ≡ front ++ rest) × HandlesSome rules front old new o o'
stopped_by_memory rules piece old new o o' stop e s = subst (λ v. HandlesPiece rules piece old new o o' (Err v)) e s
