-- A request that was obeyed, and its reply written.
use Rattle.std.proofs.Common.{◌≡◌, ℕ, List, Option, Some, None, Bool, refl, sym, ap, subst, ◌∙◌}
use Rattle.env_session.specs.Session.{Held}
use Rattle.hush_run.specs.Meaning.{Rules}
use Rattle.env_requests.specs.Requests.{Request, UndoTo, Note, Through, Reply, answer_to}
use Rattle.env_requests.specs.Views.{Obeys}
use Rattle.fw_session.specs.Asked.{Asked, Says, Asks, Seeks, with_newline}
use Rattle.fw_session.specs.Handling.{Answered}
use Rattle.fw_session.specs.NamedSessions.{named_session}
use Rattle.fw_session.specs.Streams.{Writes}
use Rattle.fw_session.specs.Turns.{NamedSession, text_of, number_in, names_after, standing, last_named, sought, MaySeek}
use Rattle.std.specs.Prelude.{codes}

pub obeyed_answered : (rules : Rules) (h h' : Held) (names names' : List (Option (List ℕ))) (request : Request) (name : Option (List ℕ)) (reply : Reply) (out out' : Option (List ℕ)) (n n' : ℕ) (ok : Bool) → Obeys rules h request reply h' →
    names' ≡ names_after (number_in reply) name names → Writes out out' n n' (text_of h'.now.env reply) ok → Answered rules (named_session h names) (Asks request name) out out' n n' (named_session h' names') ok
obeyed_answered rules h h' names names' request name reply out out' n n' ok o is w =
    let a = answer_to rules h request o.note in
    let told : Writes out out' n n' (text_of h'.now.env a.reply) ok = subst (λ (v : Reply). Writes out out' n n' (text_of h'.now.env v) ok) o.reply_is w in
    record {
      note = o.note;
      may = o.may;
      wrote = subst (λ (v : Held). Writes out out' n n' (text_of v.now.env a.reply) ok) o.left told;
      session = (λ i. named_session (o.left i) (is i)) ∙ ap (λ (v : Reply). named_session a.left (names_after (number_in v) name names)) o.reply_is;
    }

pub said_answered : (rules : Rules) (t : NamedSession) (text : List ℕ) (asked : Asked) (out out' : Option (List ℕ)) (n n' : ℕ) (ok : Bool) → asked ≡ Says text → Writes out out' n n' text ok → Answered rules t asked out out' n n' t ok
said_answered rules t text asked out out' n n' ok e w = subst (λ v. Answered rules t v out out' n n' t ok) (sym e) (record { note = Through; may = tt; wrote = w; session = refl })

pub asked_as : (rules : Rules) (t t' : NamedSession) (asked asked' : Asked) (out out' : Option (List ℕ)) (n n' : ℕ) (ok : Bool) → asked' ≡ asked → Answered rules t asked out out' n n' t' ok → Answered rules t asked' out out' n n' t' ok
asked_as rules t t' asked asked' out out' n n' ok e p = subst (λ v. Answered rules t v out out' n n' t' ok) (sym e) p

-- an undo to the last mark of a name, by what was found
record Found (rules : Rules) (t : NamedSession) (found : Option ℕ) (out out' : Option (List ℕ)) (n n' : ℕ) (t' : NamedSession) (ok : Bool) : Type 0 where
  note : Note
  may : MaySeek rules t.held found note
  wrote : Writes out out' n n' (sought rules t found note).text ok
  session : t' ≡ (sought rules t found note).session

seeks : (rules : Rules) (t t' : NamedSession) (name : List ℕ) (found : Option ℕ) (out out' : Option (List ℕ)) (n n' : ℕ) (ok : Bool) → found ≡ last_named name (standing t) → Found rules t found out out' n n' t' ok → Answered rules t (Seeks name) out out' n n' t' ok
seeks rules t t' name found out out' n n' ok e f =
    let g : Found rules t (last_named name (standing t)) out out' n n' t' ok = subst (λ v. Found rules t v out out' n n' t' ok) e f in
    record { note = g.note; may = g.may; wrote = g.wrote; session = g.session }

pub found_answered : (rules : Rules) (t t' : NamedSession) (name : List ℕ) (k : ℕ) (request : Request) (marks : List (Option (List ℕ))) (out out' : Option (List ℕ)) (n n' : ℕ) (ok : Bool) → marks ≡ standing t → Some k ≡ last_named name marks →
    request ≡ UndoTo k → Answered rules t (Asks request None) out out' n n' t' ok → Answered rules t (Seeks name) out out' n n' t' ok
found_answered rules t t' name k request marks out out' n n' ok s e is p =
    let q : Answered rules t (Asks (UndoTo k) None) out out' n n' t' ok = subst (λ v. Answered rules t (Asks v None) out out' n n' t' ok) is p in
    seeks rules t t' name (Some k) out out' n n' ok (e ∙ ap (last_named name) s) (record { note = q.note; may = q.may; wrote = q.wrote; session = q.session })

pub gone_answered : (rules : Rules) (t : NamedSession) (name : List ℕ) (marks : List (Option (List ℕ))) (out out' : Option (List ℕ)) (n n' : ℕ) (ok : Bool) → marks ≡ standing t → None ≡ last_named name marks → Writes out out' n n' (with_newline (codes "[Gone]")) ok →
    Answered rules t (Seeks name) out out' n n' t ok
gone_answered rules t name marks out out' n n' ok s e w =
    seeks rules t t name None out out' n n' ok (e ∙ ap (last_named name) s) (record { note = Through; may = tt; wrote = w; session = refl })
