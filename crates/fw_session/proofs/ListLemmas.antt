-- What the blocks and dot lines of a session leave is what the requests leave that they are.
use Rattle.std.proofs.Common.{◌≡◌, ℕ, List, [], ◌∷◌, ◌++◌, map, Option, Some, None, refl, sym, ap, subst, append_assoc, append-nil}
use Rattle.env_session.specs.Session.{Held}
use Rattle.hush_run.specs.Meaning.{Rules, bodies_of}
use Rattle.env_requests.specs.Requests.{Request, UndoTo, Note, Reply, answer_to, MayBe}
use Rattle.env_requests.specs.Headline.{replies, AllMayBe, left_by, Headline}
use Rattle.env_requests.proofs.ReturnLemmas.{all_undos_return}
use Rattle.fw_session.specs.Input.{Item}
use Rattle.fw_session.specs.Asked.{Asked, Says, Asks, Seeks, asked_by}
use Rattle.fw_session.specs.Turns.{NamedSession, standing, last_named, sought, done, turn, turns, MaySeek, MayDo, MayStand, AllStand, request_sought, request_in, replies_to, request_of, reply_of, requests_of, replies_of}
use Rattle.fw_session.specs.Ends.{HeadlineUpTo}

-- these requests were obeyed with these replies, for some notes
pub record Requested (rules : Rules) (h h' : Held) (requests : List Request) (told : List Reply) : Type 0 where
  pub notes : List Note
  pub may : AllMayBe rules h requests notes
  pub told_is : told ≡ map (λ answer. answer.reply) (replies rules h requests notes)
  pub left : h' ≡ left_by h (replies rules h requests notes)

pub requested_none : (rules : Rules) (h : Held) → Requested rules h h [] []
unfolding replies AllMayBe
requested_none rules h = record { notes = []; may = tt; told_is = refl; left = refl }

requested_first : (rules : Rules) (h h' : Held) (r : Request) (note : Note) (rs : List Request) (told : List Reply) → MayBe rules h r note → Requested rules (answer_to rules h r note).left h' rs told →
    Requested rules h h' (r ∷ rs) ((answer_to rules h r note).reply ∷ told)
unfolding replies AllMayBe
requested_first rules h h' r note rs told may more =
    record { notes = note ∷ more.notes; may = (may, more.may); told_is = ap (λ t. (answer_to rules h r note).reply ∷ t) more.told_is; left = more.left }

sought_first : (rules : Rules) (t : NamedSession) (h' : Held) (found : Option ℕ) (note : Note) (rs : List Request) (told : List Reply) → MaySeek rules t.held found note → Requested rules (sought rules t found note).session.held h' rs told →
    Requested rules t.held h' (request_sought found ++ rs) (replies_to rules t.held (request_sought found) note ++ told)
sought_first rules t h' None note rs told may more = more
sought_first rules t h' (Some n) note rs told may more = requested_first rules t.held h' (UndoTo n) note rs told may more

done_first : (rules : Rules) (t : NamedSession) (h' : Held) (asked : Asked) (note : Note) (rs : List Request) (told : List Reply) → MayDo rules t asked note → Requested rules (done rules t asked note).session.held h' rs told →
    Requested rules t.held h' (request_in t asked ++ rs) (replies_to rules t.held (request_in t asked) note ++ told)
done_first rules t h' (Says text) note rs told may more = more
done_first rules t h' (Asks r name) note rs told may more = requested_first rules t.held h' r note rs told may more
done_first rules t h' (Seeks name) note rs told may more = sought_first rules t h' (last_named name (standing t)) note rs told may more

turn_first : (rules : Rules) (t : NamedSession) (h' : Held) (item : Item) (note : Note) (rs : List Request) (told : List Reply) → MayStand rules t item note → Requested rules (turn rules t item note).session.held h' rs told →
    Requested rules t.held h' (request_of rules t item note ++ rs) (reply_of rules t item note ++ told)
unfolding turn MayStand request_of reply_of
turn_first rules t h' item note rs told may more = done_first rules t h' (asked_by (bodies_of rules.shell) item note) note rs told may more

-- lists that are joined otherwise
requested_as : (rules : Rules) (h h' : Held) (rs rs' : List Request) (told told' : List Reply) → rs ≡ rs' → told ≡ told' → Requested rules h h' rs told → Requested rules h h' rs' told'
requested_as rules h h' rs rs' told told' e d r = subst (λ v. Requested rules h h' v told') e (subst (λ v. Requested rules h h' rs v) d r)

turns_first : (rules : Rules) (items : List Item) (notes : List Note) (t : NamedSession) (h' : Held) (rs : List Request) (told : List Reply) → AllStand rules t items notes →
    Requested rules (turns rules t items notes).session.held h' rs told → Requested rules t.held h' (requests_of rules t items notes ++ rs) (replies_of rules t items notes ++ told)
unfolding turns AllStand requests_of replies_of
turns_first rules [] [] t h' rs told stand more = more
turns_first rules [] (n ∷ notes) t h' rs told stand more = absurd stand
turns_first rules (x ∷ items) [] t h' rs told stand more = absurd stand
turns_first rules (x ∷ items) (n ∷ notes) t h' rs told stand more =
    let s = (turn rules t x n).session in
    requested_as rules t.held h' _ _ _ _ (sym (append_assoc (request_of rules t x n) (requests_of rules s items notes) rs)) (sym (append_assoc (reply_of rules t x n) (replies_of rules s items notes) told))
    (turn_first rules t h' x n (requests_of rules s items notes ++ rs) (replies_of rules s items notes ++ told) stand.0 (turns_first rules items notes s h' rs told stand.1 more))

-- the requests of all items
pub turns_requested : (rules : Rules) (items : List Item) (notes : List Note) (t : NamedSession) → AllStand rules t items notes →
    Requested rules t.held (turns rules t items notes).session.held (requests_of rules t items notes) (replies_of rules t items notes)
turns_requested rules items notes t stand =
    let after = (turns rules t items notes).session.held in
    requested_as rules t.held after _ _ _ _ (append-nil (requests_of rules t items notes)) (append-nil (replies_of rules t items notes))
    (turns_first rules items notes t after [] [] stand (requested_none rules after))

headline_is : (rules : Rules) (h h' : Held) (requests : List Request) (told : List Reply) → Requested rules h h' requests told → Headline rules h requests told h'
headline_is rules h h' requests told r = (r.notes, r.may, r.told_is, r.left, all_undos_return rules h requests r.notes r.may)

-- what the headline says of all items
pub headline_of : (rules : Rules) (h h' : NamedSession) (items : List Item) (notes : List Note) → AllStand rules h items notes → h' ≡ (turns rules h items notes).session →
    Headline rules h.held (requests_of rules h items notes) (replies_of rules h items notes) h'.held
headline_of rules h h' items notes stand is =
    headline_is rules h.held h'.held _ _
    (subst (λ v. Requested rules h.held v.held (requests_of rules h items notes) (replies_of rules h items notes)) (sym is) (turns_requested rules items notes h stand))

-- and of those up to one
pub headline_up_to : (rules : Rules) (h h' : NamedSession) (before : List Item) (notes : List Note) (item : Item) (note : Note) → AllStand rules h before notes →
    MayStand rules (turns rules h before notes).session item note → h' ≡ (turn rules (turns rules h before notes).session item note).session → HeadlineUpTo rules h before notes item note h'
headline_up_to rules h h' before notes item note stand may is =
    let t = (turns rules h before notes).session in
    let after = (turn rules t item note).session.held in
    let last : Requested rules t.held after (request_of rules t item note) (reply_of rules t item note) =
    requested_as rules t.held after _ _ _ _ (append-nil (request_of rules t item note)) (append-nil (reply_of rules t item note)) (turn_first rules t after item note [] [] may (requested_none rules after)) in
    let all : Requested rules h.held after (requests_of rules h before notes ++ request_of rules t item note) (replies_of rules h before notes ++ reply_of rules t item note) =
    turns_first rules before notes h after _ _ stand last in
    headline_is rules h.held h'.held _ _
    (subst (λ v. Requested rules h.held v.held (requests_of rules h before notes ++ request_of rules t item note) (replies_of rules h before notes ++ reply_of rules t item note)) (sym is) all)
