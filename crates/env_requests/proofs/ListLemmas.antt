-- A list of requests, one more at a time.
use Rattle.std.proofs.Common.{◌≡◌, ℕ, ◌+◌, ◌<◌, ◌≤◌, Bool, true, cond, List, [], ◌∷◌, ◌++◌, length, take, map, get_or, refl, sym, ap, subst, ◌∙◌}
use Rattle.std.proofs.lemmas.List.{map-append, take_more, take_all}
use Rattle.env_session.specs.Session.{Held, state_at}
use Rattle.hush_run.specs.Meaning.{Rules}
use Rattle.env_requests.specs.Requests.{Request, Note, Reply, Answer, answer_to, MayBe}
use Rattle.env_requests.specs.Headline.{replies, AllMayBe, left_by, Headline}
use Rattle.env_requests.specs.Views.{asked, told, Obeys}
use Rattle.env_requests.specs.declared.request.Request as code
use Rattle.env_requests.specs.declared.reply.Reply as told_by
use Rattle.env_requests.proofs.ReturnLemmas.{all_undos_return}

pub record Obeyed (rules : Rules) (h : Held) (requests : List Request) (told : List Reply) (after : Held) : Type 0 where
  pub notes : List Note
  pub may : AllMayBe rules h requests notes
  pub replies_are : told ≡ map (λ answer. answer.reply) (replies rules h requests notes)
  pub left : after ≡ left_by h (replies rules h requests notes)

pub obeyed_none : (rules : Rules) (h : Held) → Obeyed rules h [] [] h
unfolding replies AllMayBe
obeyed_none rules h = record { notes = []; may = tt; replies_are = refl; left = refl }

left_last : (h : Held) (answers : List Answer) (answer : Answer) → left_by h (answers ++ answer ∷ []) ≡ answer.left
left_last h [] answer = refl
left_last h (a ∷ answers) answer = left_last a.left answers answer

replies_last : (rules : Rules) (h : Held) (requests : List Request) (notes : List Note) (r : Request) (note : Note) → AllMayBe rules h requests notes →
    replies rules h (requests ++ r ∷ []) (notes ++ note ∷ []) ≡ replies rules h requests notes ++ answer_to rules (left_by h (replies rules h requests notes)) r note ∷ []
unfolding replies AllMayBe
replies_last rules h [] [] r note may = refl
replies_last rules h [] (m ∷ notes) r note may = absurd may
replies_last rules h (q ∷ requests) [] r note may = absurd may
replies_last rules h (q ∷ requests) (m ∷ notes) r note may = ap (λ v. answer_to rules h q m ∷ v) (replies_last rules (answer_to rules h q m).left requests notes r note may.1)

may_last : (rules : Rules) (h : Held) (requests : List Request) (notes : List Note) (r : Request) (note : Note) → AllMayBe rules h requests notes →
    MayBe rules (left_by h (replies rules h requests notes)) r note → AllMayBe rules h (requests ++ r ∷ []) (notes ++ note ∷ [])
unfolding replies AllMayBe
may_last rules h [] [] r note may last = (last, tt)
may_last rules h [] (m ∷ notes) r note may last = absurd may
may_last rules h (q ∷ requests) [] r note may last = absurd may
may_last rules h (q ∷ requests) (m ∷ notes) r note may last = (may.0, may_last rules (answer_to rules h q m).left requests notes r note may.1 last)

pub obeyed_more : (rules : Rules) (h mid after : Held) (requests : List Request) (told : List Reply) (r : Request) (reply : Reply) → Obeyed rules h requests told mid → Obeys rules mid r reply after →
    Obeyed rules h (requests ++ r ∷ []) (told ++ reply ∷ []) after
obeyed_more rules h mid after requests told r reply so_far one =
    let here = left_by h (replies rules h requests so_far.notes) in
    let may : MayBe rules here r one.note = subst (λ v. MayBe rules v r one.note) so_far.left one.may in
    let said : reply ≡ (answer_to rules here r one.note).reply = one.reply_is ∙ ap (λ v. (answer_to rules v r one.note).reply) so_far.left in
    let left : after ≡ (answer_to rules here r one.note).left = one.left ∙ ap (λ v. (answer_to rules v r one.note).left) so_far.left in
    let more = replies_last rules h requests so_far.notes r one.note so_far.may in
    record {
      notes = so_far.notes ++ one.note ∷ [];
      may = may_last rules h requests so_far.notes r one.note so_far.may may;
      replies_are =
          (λ i. so_far.replies_are i ++ said i ∷ [])
          ∙ sym (map-append (λ answer. answer.reply) (replies rules h requests so_far.notes) (answer_to rules here r one.note ∷ []))
          ∙ sym (ap (map (λ answer. answer.reply)) more);
      left = left ∙ sym (left_last h (replies rules h requests so_far.notes) (answer_to rules here r one.note)) ∙ sym (ap (left_by h) more);
    }

pub headline_of : (rules : Rules) (h after : Held) (requests : List Request) (told : List Reply) → Obeyed rules h requests told after → Headline rules h requests told after
headline_of rules h after requests told o = (o.notes, o.may, o.replies_are, o.left, all_undos_return rules h requests o.notes o.may)

-- the loop: before the first request
pub obeyed_start : (rules : Rules) (h : Held) (xs : List code.Request) (items : List told_by.Reply) → items ≡ [] → Obeyed rules h (map asked (take 0 xs)) (map told items) h
obeyed_start rules h [] items none = subst (λ v. Obeyed rules h [] (map told v) h) (sym none) (obeyed_none rules h)
obeyed_start rules h (x ∷ xs) items none = subst (λ v. Obeyed rules h [] (map told v) h) (sym none) (obeyed_none rules h)

-- the loop: the next request of a slice, and its reply pushed
pub obeyed_next : (rules : Rules) (h mid after : Held) (xs : List code.Request) (i : ℕ) (d : code.Request) (items items' : List told_by.Reply) (reply : told_by.Reply) (ok : Bool) → i < length xs → d ≡ get_or xs i d →
    Obeyed rules h (map asked (take i xs)) (map told items) mid → Obeys rules mid (asked d) (told reply) after → ok ≡ true → items' ≡ cond ok (items ++ reply ∷ []) items →
    Obeyed rules h (map asked (take (i + 1) xs)) (map told items') after
obeyed_next rules h mid after xs i d items items' reply ok within is so_far one fits pushed =
    let more = obeyed_more rules h mid after (map asked (take i xs)) (map told items) (asked d) (told reply) so_far one in
    let requests : map asked (take i xs) ++ asked d ∷ [] ≡ map asked (take (i + 1) xs) =
    sym (map-append asked (take i xs) (d ∷ [])) ∙ ap (λ v. map asked (take i xs ++ v ∷ [])) is ∙ sym (ap (map asked) (take_more xs i d within)) in
    let replies : map told items ++ told reply ∷ [] ≡ map told items' =
    sym (map-append told items (reply ∷ [])) ∙ sym (ap (map told) (pushed ∙ ap (λ b. cond b (items ++ reply ∷ []) items) fits)) in
    subst (λ v. Obeyed rules h v (map told items') after) requests (subst (λ v. Obeyed rules h (map asked (take i xs) ++ asked d ∷ []) v after) replies more)

pub headline_at : (rules : Rules) (h after : Held) (xs : List code.Request) (i : ℕ) (items : List told_by.Reply) → length xs ≤ i → Obeyed rules h (map asked (take i xs)) (map told items) after → Headline rules h (map asked xs) (map told items) after
headline_at rules h after xs i items all o = headline_of rules h after (map asked xs) (map told items) (subst (λ v. Obeyed rules h (map asked v) (map told items) after) (take_all i xs all) o)

pub longer : (ok : Bool) (n n' i : ℕ) → ok ≡ true → n' ≡ cond ok (n + 1) n → n ≡ i → n' ≡ i + 1
longer ok n n' i fits pushed is = pushed ∙ ap (λ b. cond b (n + 1) n) fits ∙ ap (λ (m : ℕ). m + 1) is
