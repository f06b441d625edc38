-- One item after another.
use Rattle.std.proofs.Common.{◌≡◌, ◌==◌, ◌-◌, take, drop, get_or, length-drop, length-append, ℕ, ◌++◌, List, [], ◌∷◌, length, Option, Bool, true, false, refl, sym, ap, subst, ◌∙◌, inl, inr, arith, append_assoc, append-nil}
use Rattle.std.proofs.KnownBytes.{Appends-trans, Appends-nil}
use Rattle.std.specs.Io.KnownBytes.{Appends}
use Rattle.std.specs.Prelude.{Vec, vec_len}
use Rattle.std.specs.declared.alloc.Global.{Global}
use Rattle.fw_session.specs.Input.{Item, Block, Dot}
use Rattle.fw_session.specs.Streams.{Counts}
use Rattle.hush_syntax.specs.declared.nodes.Bodies.{Bodies}
use Rattle.hush_run.specs.Meaning.{Rules, bodies_of}
use Rattle.env_requests.specs.Requests.{Note}
use Rattle.fw_session.specs.Asked.{Asked, asked_by, asked_by_line}
use Rattle.fw_session.specs.Turns.{NamedSession, turn, turns, MayStand, AllStand}
use Rattle.fw_session.specs.Ends.{AllAnswered, CutShort, IsLast, AnsweredOrCut}
use Rattle.fw_session.specs.Handling.{Answered, IsAskedByBlock, ItemAnswered, block_items}
use Rattle.std.proofs.lemmas.Bool.{eqb-true, eqb-false}
use Rattle.std.proofs.lemmas.List.{take_all}
use Rattle.fw_session.proofs.BlockLemmas.{block_answered}
use Rattle.fw_session.proofs.ListLemmas.{headline_of, headline_up_to}
use Rattle.fw_session.proofs.StreamLemmas.{counts_none, counts_then}

pub after_text : (rules : Rules) (h : NamedSession) (xs ys : List Item) (ns ms : List Note) → AllStand rules h xs ns →
    (turns rules h (xs ++ ys) (ns ++ ms)).text ≡ (turns rules h xs ns).text ++ (turns rules (turns rules h xs ns).session ys ms).text
unfolding turns AllStand
after_text rules h [] ys [] ms s = refl
after_text rules h [] ys (n ∷ ns) ms s = absurd s
after_text rules h (x ∷ xs) ys [] ms s = absurd s
after_text rules h (x ∷ xs) ys (n ∷ ns) ms s =
    let r = turn rules h x n in ap (λ t. r.text ++ t) (after_text rules r.session xs ys ns ms s.1) ∙ sym (append_assoc r.text (turns rules r.session xs ns).text (turns rules (turns rules r.session xs ns).session ys ms).text)

pub after_held : (rules : Rules) (h : NamedSession) (xs ys : List Item) (ns ms : List Note) → AllStand rules h xs ns →
    (turns rules h (xs ++ ys) (ns ++ ms)).session ≡ (turns rules (turns rules h xs ns).session ys ms).session
unfolding turns AllStand
after_held rules h [] ys [] ms s = refl
after_held rules h [] ys (n ∷ ns) ms s = absurd s
after_held rules h (x ∷ xs) ys [] ms s = absurd s
after_held rules h (x ∷ xs) ys (n ∷ ns) ms s = after_held rules (turn rules h x n).session xs ys ns ms s.1

pub after_stand : (rules : Rules) (h : NamedSession) (xs ys : List Item) (ns ms : List Note) → AllStand rules h xs ns → AllStand rules (turns rules h xs ns).session ys ms → AllStand rules h (xs ++ ys) (ns ++ ms)
unfolding turns AllStand
after_stand rules h [] ys [] ms s t = t
after_stand rules h [] ys (n ∷ ns) ms s t = absurd s
after_stand rules h (x ∷ xs) ys [] ms s t = absurd s
after_stand rules h (x ∷ xs) ys (n ∷ ns) ms s t = (s.0, after_stand rules (turn rules h x n).session xs ys ns ms s.1 t)

pub answered_none : (rules : Rules) (h : NamedSession) (out : Option (List ℕ)) (n : ℕ) → AllAnswered rules h [] out out n n h
unfolding turns AllStand
answered_none rules h out n = record { notes = []; stand = tt; text = Appends-nil out; count = counts_none n; session = refl; headline = headline_of rules h h [] [] tt refl }

pub answered_then : (rules : Rules) (h h' h'' : NamedSession) (xs ys : List Item) (out out' out'' : Option (List ℕ)) (n n' n'' : ℕ) →
    AllAnswered rules h xs out out' n n' h' → AllAnswered rules h' ys out' out'' n' n'' h'' → AllAnswered rules h (xs ++ ys) out out'' n n'' h''
answered_then rules h h' h'' xs ys out out' out'' n n' n'' p q =
    let mid = (turns rules h xs p.notes).session in
    let stand : AllStand rules mid ys q.notes = subst (λ s. AllStand rules s ys q.notes) p.session q.stand in
    let text : Appends out' out'' (turns rules mid ys q.notes).text = subst (λ s. Appends out' out'' (turns rules s ys q.notes).text) p.session q.text in
    let count : Counts n' n'' (turns rules mid ys q.notes).text = subst (λ s. Counts n' n'' (turns rules s ys q.notes).text) p.session q.count in
    let table : h'' ≡ (turns rules mid ys q.notes).session = subst (λ s. h'' ≡ (turns rules s ys q.notes).session) p.session q.session in
    let e = after_text rules h xs ys p.notes q.notes p.stand in
    let both : AllStand rules h (xs ++ ys) (p.notes ++ q.notes) = after_stand rules h xs ys p.notes q.notes p.stand stand in
    let left : h'' ≡ (turns rules h (xs ++ ys) (p.notes ++ q.notes)).session = table ∙ sym (after_held rules h xs ys p.notes q.notes p.stand) in
    record {
      notes = p.notes ++ q.notes;
      stand = both;
      text = subst (λ t. Appends out out'' t) (sym e) (Appends-trans out out' out'' (turns rules h xs p.notes).text (turns rules mid ys q.notes).text p.text text);
      count = subst (λ t. Counts n n'' t) (sym e) (counts_then n n' n'' (turns rules h xs p.notes).text (turns rules mid ys q.notes).text p.count count);
      session = left;
      headline = headline_of rules h h'' (xs ++ ys) (p.notes ++ q.notes) both left;
    }

pub answered_cut_short : (rules : Rules) (h h' h'' : NamedSession) (xs ys : List Item) (out out' out'' : Option (List ℕ)) (n n' n'' : ℕ) →
    AllAnswered rules h xs out out' n n' h' → CutShort rules h' ys out' out'' n' n'' h'' → CutShort rules h (xs ++ ys) out out'' n n'' h''
answered_cut_short rules h h' h'' xs ys out out' out'' n n' n'' p q =
    let mid = (turns rules h xs p.notes).session in
    let stand : AllStand rules mid q.before q.notes = subst (λ s. AllStand rules s q.before q.notes) p.session q.stand in
    let may : MayStand rules (turns rules mid q.before q.notes).session q.item q.note = subst (λ s. MayStand rules (turns rules s q.before q.notes).session q.item q.note) p.session q.may in
    let text : (turn rules (turns rules mid q.before q.notes).session q.item q.note).text ≡ q.front ++ q.rest = subst (λ s. (turn rules (turns rules s q.before q.notes).session q.item q.note).text ≡ q.front ++ q.rest) p.session q.text in
    let wrote : Appends out' out'' ((turns rules mid q.before q.notes).text ++ q.front) = subst (λ s. Appends out' out'' ((turns rules s q.before q.notes).text ++ q.front)) p.session q.wrote in
    let count : Counts n' n'' ((turns rules mid q.before q.notes).text ++ q.front) = subst (λ s. Counts n' n'' ((turns rules s q.before q.notes).text ++ q.front)) p.session q.count in
    let table : h'' ≡ (turn rules (turns rules mid q.before q.notes).session q.item q.note).session = subst (λ s. h'' ≡ (turn rules (turns rules s q.before q.notes).session q.item q.note).session) p.session q.session in
    let a = (turns rules h xs p.notes).text in
    let b = (turns rules mid q.before q.notes).text in
    let e : (turns rules h (xs ++ q.before) (p.notes ++ q.notes)).text ++ q.front ≡ a ++ (b ++ q.front) = ap (λ t. t ++ q.front) (after_text rules h xs q.before p.notes q.notes p.stand) ∙ append_assoc a b q.front in
    let k : (turns rules h (xs ++ q.before) (p.notes ++ q.notes)).session ≡ (turns rules mid q.before q.notes).session = after_held rules h xs q.before p.notes q.notes p.stand in
    let both : AllStand rules h (xs ++ q.before) (p.notes ++ q.notes) = after_stand rules h xs q.before p.notes q.notes p.stand stand in
    let then_may : MayStand rules (turns rules h (xs ++ q.before) (p.notes ++ q.notes)).session q.item q.note = subst (λ s. MayStand rules s q.item q.note) (sym k) may in
    let left : h'' ≡ (turn rules (turns rules h (xs ++ q.before) (p.notes ++ q.notes)).session q.item q.note).session = subst (λ s. h'' ≡ (turn rules s q.item q.note).session) (sym k) table in
    record {
      before = xs ++ q.before;
      item = q.item;
      after = q.after;
      cut = ap (λ t. xs ++ t) q.cut ∙ sym (append_assoc xs q.before (q.item ∷ q.after));
      last = q.last;
      notes = p.notes ++ q.notes;
      stand = both;
      note = q.note;
      may = then_may;
      front = q.front;
      rest = q.rest;
      text = subst (λ s. (turn rules s q.item q.note).text ≡ q.front ++ q.rest) (sym k) text;
      left = q.left;
      wrote = subst (λ t. Appends out out'' t) (sym e) (Appends-trans out out' out'' a (b ++ q.front) p.text wrote);
      count = subst (λ t. Counts n n'' t) (sym e) (counts_then n n' n'' a (b ++ q.front) p.count count);
      session = left;
      headline = headline_up_to rules h h'' (xs ++ q.before) (p.notes ++ q.notes) q.item q.note both then_may left;
    }

one_alone : (x item : Item) (before after : List Item) → x ∷ [] ≡ before ++ item ∷ after → (item ≡ x) × (after ≡ [])
one_alone x item [] after e = (ap (λ items. get_or items 0 item) (sym e), ap (drop 1) (sym e))
one_alone x item (y ∷ ys) after e = absurd (omega (arith, ap length e, length-append ys (item ∷ after)))

-- a block that was cut short is the last item before its dot line
last_of_block : (block line : List ℕ) (before after : List Item) (item : Item) → block_items block ≡ before ++ item ∷ after → IsLast item (after ++ Dot line ∷ [])
last_of_block [] line before after item e = absurd (omega (arith, ap length e, length-append before (item ∷ after)))
last_of_block (b ∷ bs) line before after item e =
    let alone = one_alone (Block (b ∷ bs)) item before after e in
    subst (λ i. IsLast i (after ++ Dot line ∷ [])) (sym alone.0) (inr (line, ap (λ items. items ++ Dot line ∷ []) alone.1))

cut_short_more : (rules : Rules) (h h' : NamedSession) (block line : List ℕ) (out out' : Option (List ℕ)) (n n' : ℕ) → CutShort rules h (block_items block) out out' n n' h' → CutShort rules h (block_items block ++ Dot line ∷ []) out out' n n' h'
cut_short_more rules h h' block line out out' n n' p = record {
  before = p.before;
  item = p.item;
  after = p.after ++ Dot line ∷ [];
  cut = ap (λ t. t ++ Dot line ∷ []) p.cut ∙ append_assoc p.before (p.item ∷ p.after) (Dot line ∷ []);
  last = last_of_block block line p.before p.after p.item p.cut;
  notes = p.notes;
  stand = p.stand;
  note = p.note;
  may = p.may;
  front = p.front;
  rest = p.rest;
  text = p.text;
  left = p.left;
  wrote = p.wrote;
  count = p.count;
  session = p.session;
  headline = p.headline;
}

pub answers_then : (rules : Rules) (h h' h'' : NamedSession) (xs ys : List Item) (out out' out'' : Option (List ℕ)) (n n' n'' : ℕ) (ok : Bool) →
    AllAnswered rules h xs out out' n n' h' → AnsweredOrCut rules h' ys out' out'' n' n'' h'' ok → AnsweredOrCut rules h (xs ++ ys) out out'' n n'' h'' ok
answers_then rules h h' h'' xs ys out out' out'' n n' n'' true p q = answered_then rules h h' h'' xs ys out out' out'' n n' n'' p q
answers_then rules h h' h'' xs ys out out' out'' n n' n'' false p q = answered_cut_short rules h h' h'' xs ys out out' out'' n n' n'' p q

last_alone : (item : Item) → IsLast item []
last_alone (Block text) = inl refl
last_alone (Dot line) = refl

-- one item alone
pub answers_one : (rules : Rules) (h h' : NamedSession) (item : Item) (out out' : Option (List ℕ)) (n n' : ℕ) (ok : Bool) → ItemAnswered rules h item out out' n n' h' ok → AnsweredOrCut rules h (item ∷ []) out out' n n' h' ok
unfolding turns AllStand
answers_one rules h h' item out out' n n' true p =
    let e : (turn rules h item p.note).text ++ [] ≡ (turn rules h item p.note).text = append-nil (turn rules h item p.note).text in
    record {
      notes = p.note ∷ [];
      stand = (p.may, tt);
      text = subst (λ t. Appends out out' t) (sym e) p.wrote.0;
      count = subst (λ t. Counts n n' t) (sym e) p.wrote.1;
      session = p.session;
      headline = headline_of rules h h' (item ∷ []) (p.note ∷ []) (p.may, tt) p.session;
    }
answers_one rules h h' item out out' n n' false p = record {
  before = [];
  item = item;
  after = [];
  cut = refl;
  last = last_alone item;
  notes = [];
  stand = tt;
  note = p.note;
  may = p.may;
  front = p.wrote.0;
  rest = p.wrote.1;
  text = p.wrote.2;
  left = p.wrote.3;
  wrote = p.wrote.4;
  count = p.wrote.5;
  session = p.session;
  headline = headline_up_to rules h h' [] [] item p.note tt p.may p.session;
}

pub answers_line : (rules : Rules) (h h' : NamedSession) (line : List ℕ) (a : Asked) (out out' : Option (List ℕ)) (n n' : ℕ) (ok : Bool) → a ≡ asked_by_line line → Answered rules h a out out' n n' h' ok → AnsweredOrCut rules h (Dot line ∷ []) out out' n n' h' ok
unfolding turn MayStand asked_by
answers_line rules h h' line a out out' n n' ok e p =
    let q : Answered rules h (asked_by_line line) out out' n n' h' ok = subst (λ o. Answered rules h o out out' n n' h' ok) e p in
    answers_one rules h h' (Dot line) out out' n n' ok (record { note = q.note; may = q.may; wrote = q.wrote; session = q.session })

pub answers_no_block : (rules : Rules) (h : NamedSession) (bytes : List ℕ) (k : ℕ) (out : Option (List ℕ)) (n : ℕ) → length bytes ≡ k → (k == 0) ≡ true → AllAnswered rules h (block_items bytes) out out n n h
answers_no_block rules h [] k out n l e = answered_none rules h out n
answers_no_block rules h (b ∷ bs) k out n l e = absurd (let bad : k ≡ 0 = eqb-true _ _ e in omega arith)

pub answers_block : (rules : Rules) (bodies : Bodies) (h h' : NamedSession) (bytes block : List ℕ) (k : ℕ) (a : Asked) (out out' : Option (List ℕ)) (n n' : ℕ) (ok : Bool) → length bytes ≡ k → (k == 0) ≡ false → block ≡ bytes → bodies ≡ bodies_of rules.shell → IsAskedByBlock bodies block a → Answered rules h a out out' n n' h' ok →
    AnsweredOrCut rules h (block_items bytes) out out' n n' h' ok
answers_block rules bodies h h' [] block k a out out' n n' ok l e is kind asks p = absurd (eqb-false _ _ e (sym l))
answers_block rules bodies h h' (b ∷ bs) block k a out out' n n' ok l e is kind asks p =
    answers_one rules h h' (Block (b ∷ bs)) out out' n n' ok (block_answered rules h h' (b ∷ bs) a out out' n n' ok (subst (λ v. IsAskedByBlock (bodies_of rules.shell) v a) is (subst (λ v. IsAskedByBlock v block a) kind asks)) p)

-- a block and then a dot line
pub answers_both : (rules : Rules) (h h' h'' : NamedSession) (block block' line line' : List ℕ) (a : Asked) (out out' out'' : Option (List ℕ)) (n n' n'' : ℕ) (ok : Bool) → block' ≡ block → a ≡ asked_by_line line' → line' ≡ line →
    AllAnswered rules h (block_items block') out out' n n' h' → Answered rules h' a out' out'' n' n'' h'' ok → AnsweredOrCut rules h (block_items block ++ Dot line ∷ []) out out'' n n'' h'' ok
answers_both rules h h' h'' block block' line line' a out out' out'' n n' n'' ok eb eo el p q =
    answers_then rules h h' h'' (block_items block) (Dot line ∷ []) out out' out'' n n' n'' ok (subst (λ b. AllAnswered rules h (block_items b) out out' n n' h') eb p)
    (answers_line rules h' h'' line a out' out'' n' n'' ok (eo ∙ ap asked_by_line el) q)

pub answers_first : (rules : Rules) (h h' : NamedSession) (block block' line : List ℕ) (out out' : Option (List ℕ)) (n n' : ℕ) (ok : Bool) → ok ≡ false → block' ≡ block → AnsweredOrCut rules h (block_items block') out out' n n' h' ok →
    AnsweredOrCut rules h (block_items block ++ Dot line ∷ []) out out' n n' h' ok
answers_first rules h h' block block' line out out' n n' ok not eb p =
    subst (λ v. AnsweredOrCut rules h (block_items block ++ Dot line ∷ []) out out' n n' h' v) (sym not)
    (subst (λ b. CutShort rules h (block_items b ++ Dot line ∷ []) out out' n n' h') eb
    (cut_short_more rules h h' block' line out out' n n' (subst (λ v. AnsweredOrCut rules h (block_items block') out out' n n' h' v) not p)))

pub answers_items : (rules : Rules) (h h' : NamedSession) (xs ys : List Item) (out out' : Option (List ℕ)) (n n' : ℕ) (ok : Bool) → ys ≡ xs → AnsweredOrCut rules h xs out out' n n' h' ok → AnsweredOrCut rules h ys out out' n n' h' ok
answers_items rules h h' xs ys out out' n n' ok e p = subst (λ v. AnsweredOrCut rules h v out out' n n' h' ok) (sym e) p

pub answers_true : (rules : Rules) (h h' : NamedSession) (items : List Item) (out out' : Option (List ℕ)) (n n' : ℕ) (ok : Bool) → ok ≡ true → AnsweredOrCut rules h items out out' n n' h' ok → AllAnswered rules h items out out' n n' h'
answers_true rules h h' items out out' n n' ok e s = subst (λ v. AnsweredOrCut rules h items out out' n n' h' v) e s

pub answers_false : (rules : Rules) (h h' : NamedSession) (items : List Item) (out out' : Option (List ℕ)) (n n' : ℕ) (ok : Bool) → ok ≡ false → AnsweredOrCut rules h items out out' n n' h' ok → CutShort rules h items out out' n n' h'
answers_false rules h h' items out out' n n' ok e s = subst (λ v. AnsweredOrCut rules h items out out' n n' h' v) e s

-- a slice to the end
pub slice_rest : (n : ℕ) (xs ys : List ℕ) → ys ≡ xs → take (length ys - n) (drop n ys) ≡ drop n xs
slice_rest n xs ys e = take_all (length ys - n) (drop n ys) (omega (arith, length-drop n ys)) ∙ ap (drop n) e

pub long : (v : Vec ℕ Global) → length v.items ≡ vec_len v
long v = sym v.ok.0
