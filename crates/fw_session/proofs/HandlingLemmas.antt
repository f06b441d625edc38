-- What was handled, piece after piece.
use Rattle.std.proofs.Common.{◌≡◌, ℕ, ◌+◌, ◌<◌, length, get_or, Err, ◌++◌, List, [], ◌∷◌, Option, Bool, true, false, refl, sym, ap, subst, ◌∙◌, append_assoc, append-nil, take, drop, length-drop, arith}
use Rattle.fw_session.specs.Input.{Dot, items_of, to_last_dot, is_dot_line}
use Rattle.hush_run.specs.Meaning.{Rules}
use Rattle.fw_session.specs.Turns.{NamedSession}
use Rattle.fw_session.specs.NamedSessions.{session_of}
use Rattle.fw_session.specs.Ends.{AllAnswered, CutShort, AnsweredOrCut}
use Rattle.fw_session.specs.Handling.{Handled, HandledUntilCut, IsPending, IsLine, block_items}
use Rattle.std.proofs.lemmas.List.{take_more, take-append-drop}
use Rattle.fw_session.specs.Talks.{HandlesAll, HandlesLine, HandlesByte, HandlesPiece}
use Rattle.fw_session.specs.declared.talk.Talk.{Talk}
use Rattle.fw_session.specs.declared.session_end.Stop.{Stop}
use Rattle.fw_session.proofs.CutLemmas.{end_none, end_then, line_cuts, line_whole, whole_is, whole_alone, pending_more, pending_none, line_ended}
use Rattle.fw_session.proofs.AnswerLemmas.{answered_none, answered_then, answered_cut_short}

-- bytes that wait after others
pub handled_waiting : (rules : Rules) (p a : List ℕ) (h : NamedSession) (out : Option (List ℕ)) (n : ℕ) → Handled rules p a (p ++ a) h h out out n n
handled_waiting rules p a h out n = record { items = []; cuts = λ xs. ap items_of (sym (append_assoc p a xs)); whole = end_none; answered = answered_none rules h out n }

pub handled_then : (rules : Rules) (p p' p'' a b : List ℕ) (h h' h'' : NamedSession) (out out' out'' : Option (List ℕ)) (n n' n'' : ℕ) →
    Handled rules p a p' h h' out out' n n' → Handled rules p' b p'' h' h'' out' out'' n' n'' → Handled rules p (a ++ b) p'' h h'' out out'' n n''
handled_then rules p p' p'' a b h h' h'' out out' out'' n n' n'' s t = record {
  items = s.items ++ t.items;
  cuts = λ xs.
      ap (λ v. items_of (p ++ v)) (append_assoc a b xs) ∙ s.cuts (b ++ xs) ∙ ap (λ v. s.items ++ v) (t.cuts xs) ∙ sym (append_assoc s.items t.items (items_of (p'' ++ xs)));
  whole = end_then s.items t.items s.whole t.whole;
  answered = answered_then rules h h' h'' s.items t.items out out' out'' n n' n'' s.answered t.answered;
}

pub handled_cut_short : (rules : Rules) (p p' a b : List ℕ) (h h' h'' : NamedSession) (out out' out'' : Option (List ℕ)) (n n' n'' : ℕ) →
    Handled rules p a p' h h' out out' n n' → HandledUntilCut rules p' b h' h'' out' out'' n' n'' → HandledUntilCut rules p (a ++ b) h h'' out out'' n n''
handled_cut_short rules p p' a b h h' h'' out out' out'' n n' n'' s t = record {
  items = s.items ++ t.items;
  cuts = λ xs. ap (λ v. items_of (p ++ v)) (append_assoc a b xs) ∙ s.cuts (b ++ xs) ∙ ap (λ v. s.items ++ v) (t.cuts xs) ∙ sym (append_assoc s.items t.items (items_of xs));
  whole = end_then s.items t.items s.whole t.whole;
  cut_short = answered_cut_short rules h h' h'' s.items t.items out out' out'' n n' n'' s.answered t.cut_short;
}

-- a whole dot line
pub handled_line : (rules : Rules) (bytes : List ℕ) (start : ℕ) (h h' : NamedSession) (out out' : Option (List ℕ)) (n n' : ℕ) → IsLine bytes start → is_dot_line (drop start bytes) ≡ true →
    AllAnswered rules h (block_items (take start bytes) ++ Dot (drop start bytes) ∷ []) out out' n n' h' → Handled rules bytes [] [] h h' out out' n n'
handled_line rules bytes start h h' out out' n n' p d s = record {
  items = block_items (take start bytes) ++ Dot (drop start bytes) ∷ [];
  cuts = λ xs. line_cuts bytes xs start p d;
  whole = line_whole bytes start p;
  answered = s;
}

pub cut_short_line : (rules : Rules) (bytes : List ℕ) (start : ℕ) (h h' : NamedSession) (out out' : Option (List ℕ)) (n n' : ℕ) → IsLine bytes start → is_dot_line (drop start bytes) ≡ true →
    CutShort rules h (block_items (take start bytes) ++ Dot (drop start bytes) ∷ []) out out' n n' h' → HandledUntilCut rules bytes [] h h' out out' n n'
cut_short_line rules bytes start h h' out out' n n' p d s = record {
  items = block_items (take start bytes) ++ Dot (drop start bytes) ∷ [];
  cuts = λ xs. line_cuts bytes xs start p d;
  whole = line_whole bytes start p;
  cut_short = s;
}

-- all that was handled of a session from its beginning
pub answered_whole : (rules : Rules) (bytes rest : List ℕ) (start : ℕ) (h h' : NamedSession) (out out' : Option (List ℕ)) (n n' : ℕ) → IsPending rest start → Handled rules [] bytes rest h h' out out' n n' →
    AllAnswered rules h (to_last_dot (items_of bytes)) out out' n n' h'
answered_whole rules bytes rest start h h' out out' n n' p s =
    let a : items_of bytes ≡ s.items ++ items_of rest = ap items_of (sym (append-nil bytes)) ∙ s.cuts [] ∙ ap (λ v. s.items ++ items_of v) (append-nil rest) in
    let e : to_last_dot (items_of bytes) ≡ s.items = ap to_last_dot a ∙ whole_is s.items rest start s.whole p in
    subst (λ t. AllAnswered rules h t out out' n n' h') (sym e) s.answered

pub cut_short_whole : (rules : Rules) (bytes : List ℕ) (h h' : NamedSession) (out out' : Option (List ℕ)) (n n' : ℕ) → HandledUntilCut rules [] bytes h h' out out' n n' →
    CutShort rules h (to_last_dot (items_of bytes)) out out' n n' h'
unfolding items_of
cut_short_whole rules bytes h h' out out' n n' s =
    let a : items_of bytes ≡ s.items = ap items_of (sym (append-nil bytes)) ∙ s.cuts [] ∙ append-nil s.items in
    let e : to_last_dot (items_of bytes) ≡ s.items = ap to_last_dot a ∙ whole_alone s.items s.whole in
    subst (λ t. CutShort rules h t out out' n n' h') (sym e) s.cut_short

-- and of what waits at the end
pub answered_all : (rules : Rules) (bytes rest : List ℕ) (h h' h'' : NamedSession) (out out' out'' : Option (List ℕ)) (n n' n'' : ℕ) → Handled rules [] bytes rest h h' out out' n n' →
    AllAnswered rules h' (items_of rest) out' out'' n' n'' h'' → AllAnswered rules h (items_of bytes) out out'' n n'' h''
answered_all rules bytes rest h h' h'' out out' out'' n n' n'' s t =
    let a : items_of bytes ≡ s.items ++ items_of rest = ap items_of (sym (append-nil bytes)) ∙ s.cuts [] ∙ ap (λ v. s.items ++ items_of v) (append-nil rest) in
    subst (λ v. AllAnswered rules h v out out'' n n'' h'') (sym a) (answered_then rules h h' h'' s.items (items_of rest) out out' out'' n n' n'' s.answered t)

pub cut_short_all : (rules : Rules) (bytes rest : List ℕ) (h h' h'' : NamedSession) (out out' out'' : Option (List ℕ)) (n n' n'' : ℕ) → Handled rules [] bytes rest h h' out out' n n' →
    CutShort rules h' (items_of rest) out' out'' n' n'' h'' → CutShort rules h (items_of bytes) out out'' n n'' h''
cut_short_all rules bytes rest h h' h'' out out' out'' n n' n'' s t =
    let a : items_of bytes ≡ s.items ++ items_of rest = ap items_of (sym (append-nil bytes)) ∙ s.cuts [] ∙ ap (λ v. s.items ++ items_of v) (append-nil rest) in
    subst (λ v. CutShort rules h v out out'' n n'' h'') (sym a) (answered_cut_short rules h h' h'' s.items (items_of rest) out out' out'' n n' n'' s.answered t)

pub handled_none : (rules : Rules) (p : List ℕ) (h : NamedSession) (out : Option (List ℕ)) (n : ℕ) → Handled rules p [] p h h out out n n
handled_none rules p h out n = record { items = []; cuts = λ xs. refl; whole = end_none; answered = answered_none rules h out n }

-- a byte that ends no line
pub byte_waits : (rules : Rules) (bytes bytes' : List ℕ) (start byte : ℕ) (h : NamedSession) (out : Option (List ℕ)) (n : ℕ) → IsPending bytes start → (byte ≡ 10 → ⊥) → bytes' ≡ bytes ++ byte ∷ [] →
    IsPending bytes' start × Handled rules bytes (byte ∷ []) bytes' h h out out n n
byte_waits rules bytes bytes' start byte h out n p other e =
    subst (λ b. IsPending b start × Handled rules bytes (byte ∷ []) b h h out out n n) (sym e) (pending_more bytes start byte p other, handled_waiting rules bytes (byte ∷ []) h out n)

-- a byte that ends a line
pub byte_ends : (bytes bytes' : List ℕ) (start byte : ℕ) → IsPending bytes start → byte ≡ 10 → bytes' ≡ bytes ++ byte ∷ [] → IsLine bytes' start
byte_ends bytes bytes' start byte p is e = subst (λ b. IsLine b start) (sym e) (line_ended bytes start byte p is)

pub line_handled : (rules : Rules) (bytes bytes' bytes'' : List ℕ) (byte : ℕ) (h h' : NamedSession) (out out' : Option (List ℕ)) (n n' : ℕ) → bytes' ≡ bytes ++ byte ∷ [] →
    Handled rules bytes' [] bytes'' h h' out out' n n' → Handled rules bytes (byte ∷ []) bytes'' h h' out out' n n'
line_handled rules bytes bytes' bytes'' byte h h' out out' n n' e s =
    let k : Handled rules (bytes ++ byte ∷ []) [] bytes'' h h' out out' n n' = subst (λ b. Handled rules b [] bytes'' h h' out out' n n') e s in
    handled_then rules bytes (bytes ++ byte ∷ []) bytes'' (byte ∷ []) [] h h h' out out out' n n n' (handled_waiting rules bytes (byte ∷ []) h out n) k

pub line_cut_short : (rules : Rules) (bytes bytes' : List ℕ) (byte : ℕ) (h h' : NamedSession) (out out' : Option (List ℕ)) (n n' : ℕ) → bytes' ≡ bytes ++ byte ∷ [] →
    HandledUntilCut rules bytes' [] h h' out out' n n' → HandledUntilCut rules bytes (byte ∷ []) h h' out out' n n'
line_cut_short rules bytes bytes' byte h h' out out' n n' e s =
    let k : HandledUntilCut rules (bytes ++ byte ∷ []) [] h h' out out' n n' = subst (λ b. HandledUntilCut rules b [] h h' out out' n n') e s in
    handled_cut_short rules bytes (bytes ++ byte ∷ []) (byte ∷ []) [] h h h' out out out' n n n' (handled_waiting rules bytes (byte ∷ []) h out n) k

pub dot_handled : (rules : Rules) (old new : Talk) (out out' : Option (List ℕ)) (ok : Bool) → IsLine old.bytes.items old.start → is_dot_line (drop old.start old.bytes.items) ≡ true → new.bytes.items ≡ [] → new.start ≡ 0 →
    AnsweredOrCut rules (session_of old) (block_items (take old.start old.bytes.items) ++ Dot (drop old.start old.bytes.items) ∷ []) out out' old.written new.written (session_of new) ok → HandlesLine rules old new out out' ok
dot_handled rules old new out out' true p d e z s = (
  subst (λ b. IsPending b new.start) (sym e) (subst (λ k. IsPending [] k) (sym z) pending_none),
  subst (λ b. Handled rules old.bytes.items [] b (session_of old) (session_of new) out out' old.written new.written) (sym e)
      (handled_line rules old.bytes.items old.start (session_of old) (session_of new) out out' old.written new.written p d s),
)
dot_handled rules old new out out' false p d e z s = cut_short_line rules old.bytes.items old.start (session_of old) (session_of new) out out' old.written new.written p d s

-- one byte after others
pub handles_more : (rules : Rules) (piece : List ℕ) (i : ℕ) (old mid new : Talk) (out out' out'' : Option (List ℕ)) → i < length piece →
    HandlesAll rules (take i piece) old mid out out' → HandlesAll rules (get_or piece i 0 ∷ []) mid new out' out'' → HandlesAll rules (take (i + 1) piece) old new out out''
handles_more rules piece i old mid new out out' out'' lt s t = (
  t.0,
  subst (λ b. Handled rules old.bytes.items b new.bytes.items (session_of old) (session_of new) out out'' old.written new.written) (sym (take_more piece i 0 lt))
      (handled_then rules old.bytes.items mid.bytes.items new.bytes.items (take i piece) (get_or piece i 0 ∷ []) (session_of old) (session_of mid) (session_of new) out out' out'' old.written mid.written new.written s.1 t.1),
)

pub handles_stopped : (rules : Rules) (piece : List ℕ) (i : ℕ) (old mid new : Talk) (out out' out'' : Option (List ℕ)) (stop : Stop) → i < length piece →
    HandlesAll rules (take i piece) old mid out out' → HandlesByte rules (get_or piece i 0) mid new out' out'' (Err stop) → HandlesPiece rules piece old new out out'' (Err stop)
handles_stopped rules piece i old mid new out out' out'' Stop.Memory lt s t = (
  take i piece,
  drop i piece,
  sym (take-append-drop i piece),
  (
    t.0,
    t.1,
    t.2,
    subst (λ b. Handled rules old.bytes.items b t.0 (session_of old) (session_of new) out out'' old.written new.written) (append-nil (take i piece))
        (handled_then rules old.bytes.items mid.bytes.items t.0 (take i piece) [] (session_of old) (session_of mid) (session_of new) out out' out'' old.written mid.written new.written s.1 t.3),
  ),
)
handles_stopped rules piece i old mid new out out' out'' Stop.Write lt s t = (
  take (i + 1) piece,
  drop (i + 1) piece,
  sym (take-append-drop (i + 1) piece),
  omega (arith, lt, length-drop (i + 1) piece),
  subst (λ b. HandledUntilCut rules old.bytes.items b (session_of old) (session_of new) out out'' old.written new.written) (sym (take_more piece i 0 lt))
      (handled_cut_short rules old.bytes.items mid.bytes.items (take i piece) (get_or piece i 0 ∷ []) (session_of old) (session_of mid) (session_of new) out out' out'' old.written mid.written new.written s.1 t),
)
