-- A block, by what it asks for.
use Rattle.std.proofs.Common.{◌≡◌, ℕ, List, Option, Some, None, Bool, refl, subst, sym, ap, ◌∙◌, inl, inr}
use Rattle.hush_syntax.specs.Grammar.{Chains}
use Rattle.hush_syntax.specs.Reading.{read_in}
use Rattle.hush_syntax.specs.declared.nodes.Bodies.{Bodies}
use Rattle.hush_run.specs.Meaning.{Rules, bodies_of}
use Rattle.env_requests.specs.Requests.{Note, Through, Refused, Stopped, MayBe}
use Rattle.fw_session.specs.Asked.{Asked, Says, no_memory, asked_by_script, asked_by}
use Rattle.fw_session.specs.Input.{Block}
use Rattle.fw_session.specs.Streams.{Writes}
use Rattle.fw_session.specs.Turns.{NamedSession, done, turn, MayDo, MayStand}
use Rattle.fw_session.specs.Handling.{Answered, IsAskedByBlock, ItemAnswered}

-- no run is refused as a whole, so a block that was read as a script is done
refused_may : (rules : Rules) (t : NamedSession) (script : Option (Option Chains)) → MayDo rules t (asked_by_script script) Refused → MayDo rules t (asked_by_script script) Through
unfolding MayBe
refused_may rules t None may = tt
refused_may rules t (Some tree) may = absurd may

refused_is : (rules : Rules) (t : NamedSession) (script : Option (Option Chains)) → MayDo rules t (asked_by_script script) Refused → done rules t (asked_by_script script) Refused ≡ done rules t (asked_by_script script) Through
unfolding MayBe
refused_is rules t None may = refl
refused_is rules t (Some tree) may = absurd may

by_note : (rules : Rules) (t t' : NamedSession) (text : List ℕ) (out out' : Option (List ℕ)) (n n' : ℕ) (ok : Bool) (note : Note) → MayDo rules t (asked_by_script (read_in (bodies_of rules.shell) text)) note →
    Writes out out' n n' (done rules t (asked_by_script (read_in (bodies_of rules.shell) text)) note).text ok → t' ≡ (done rules t (asked_by_script (read_in (bodies_of rules.shell) text)) note).session → ItemAnswered rules t (Block text) out out' n n' t' ok
unfolding turn MayStand asked_by
by_note rules t t' text out out' n n' ok Through may w s = record { note = Through; may = may; wrote = w; session = s }
by_note rules t t' text out out' n n' ok (Stopped k) may w s = record { note = Stopped k; may = may; wrote = w; session = s }
by_note rules t t' text out out' n n' ok Refused may w s =
    let e = refused_is rules t (read_in (bodies_of rules.shell) text) may in
    record {
      note = Through;
      may = refused_may rules t (read_in (bodies_of rules.shell) text) may;
      wrote = subst (λ v. Writes out out' n n' v.text ok) e w;
      session = subst (λ v. t' ≡ v.session) e s;
    }

pub block_answered : (rules : Rules) (t t' : NamedSession) (text : List ℕ) (asked : Asked) (out out' : Option (List ℕ)) (n n' : ℕ) (ok : Bool) → IsAskedByBlock (bodies_of rules.shell) text asked → Answered rules t asked out out' n n' t' ok → ItemAnswered rules t (Block text) out out' n n' t' ok
unfolding turn MayStand asked_by
block_answered rules t t' text asked out out' n n' ok (inl e) p =
    let q : Answered rules t (asked_by_script (read_in (bodies_of rules.shell) text)) out out' n n' t' ok = subst (λ v. Answered rules t v out out' n n' t' ok) e p in
    by_note rules t t' text out out' n n' ok q.note q.may q.wrote q.session
block_answered rules t t' text asked out out' n n' ok (inr e) p =
    let q : Answered rules t (Says no_memory) out out' n n' t' ok = subst (λ v. Answered rules t v out out' n n' t' ok) e p in
    record { note = Refused; may = tt; wrote = q.wrote; session = q.session }

-- what a block asks for, as it was read
pub is_script : (bodies : Bodies) (text source : List ℕ) (script : Option (Option Chains)) → read_in bodies source ≡ script → source ≡ text → IsAskedByBlock bodies text (asked_by_script script)
is_script bodies text source script e same = inl (ap asked_by_script (sym e) ∙ ap (λ v. asked_by_script (read_in bodies v)) same)
