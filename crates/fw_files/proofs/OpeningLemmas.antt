-- How a session is opened, put together.
use Rattle.std.proofs.Common.{◌≡◌, Bool, true, false, Option, None, inl, refl, sym, ap, subst, ◌∙◌}
use Rattle.std.specs.Prelude.{Result, Ok, Err, IfErr, IfOk, OnOk, if◌then◌else◌, ⊤}
use Rattle.std.specs.FinMap as env
use Rattle.env_session.specs.Session.{Held, opened}
use Rattle.envimg_core.specs.Geometry.{room_of}
use Rattle.envimg_core.specs.declared.choice.Choice.{Choice}
use Rattle.envimg_core.specs.declared.choice.Choice.TheVariants.{First, Second, Neither}
use Rattle.envvars_core.specs.Variables.{Contents}
use Rattle.fw_arguments.specs.Calls.{Defaults}
use Rattle.fw_files.specs.Misread.{IsMisread}
use Rattle.fw_files.specs.Opening.{IsOpened, IsOpenedWith, OpensOver, SparesIn, StopsOpening, StopsWith, current_of}
use Rattle.fw_files.specs.FileTexts.{Holds}
use Rattle.fw_arguments.specs.GivenTexts.{is_plain}
use Rattle.fw_files.specs.Source.{IsFound, IsTaken, KeptText, kept_view, lacks_copy, second_bytes, without_plain}
use Rattle.fw_files.specs.declared.opening.Opened.{Opened}
use Rattle.fw_files.specs.declared.source.Source.{Source}
use Rattle.fw_files.specs.declared.stop.Stop.{Stop}
use Rattle.fw_files.specs.declared.stop.Stop.TheVariants.{Memory}

-- one of the copies
abbrev pub IsGood : Choice → Type 0
IsGood Neither = ⊥
IsGood good = ⊤

-- the session that was accepted is the one that was opened
pub accepted_is : {E : Type 0} (holds : Holds) (r : Result Opened E) (source : Source) (asked : Defaults) (spares : Bool) (opened : Opened) →
    OpensOver holds source asked (kept_view opened.text) opened.session →
    IfOk r (λ o. (o ≡ opened) × (lacks_copy asked opened.session.now.current ≡ false) × SparesIn spares opened.session.now.current source) →
    IfOk r (IsOpenedWith holds source asked spares)
accepted_is holds (Err e) source asked spares opened opens p = tt
accepted_is holds (Ok o) source asked spares opened opens p =
    subst (λ h. IsOpenedWith holds source asked spares h) (sym p.0) (record { opens = opens; accepted = p.1; spared = p.2 })

-- ---- a text of plain lines

plain_taken : (asked : Defaults) → is_plain asked.form ≡ true → ◌≡◌ {A = Defaults} (record asked { path = None }) (without_plain asked)
plain_taken asked plain = ap (λ (b : Bool). let c : Defaults = if b then record asked { path = None } else asked in c) (sym plain)

-- the session with no default environment stays, if a copy is good
pub stays : (holds : Holds) (source : Source) (asked : Defaults) (spares : Bool) (o : Opened) (session : Held) (none : Contents) (good : Choice) → is_plain asked.form ≡ true →
    none ≡ record { env = env.empty; room = room_of source.geometry } →
    session ≡ opened source.geometry source.first.bytes.items (second_bytes source.second) none → session.now.current ≡ good → IsGood good →
    o.session ≡ session → o.text ≡ None → IsOpened holds source asked spares o
stays holds source asked spares o session none good plain is opens current p same no_text =
    let now : o.session.now.current ≡ good = ap (λ (h : Held). h.now.current) same ∙ current in (
      record asked { path = None },
      subst (λ c. IsTaken c asked (record asked { path = None })) (sym now) (taken good p),
      record {
        opens = (none, (ap kept_view no_text, is), same ∙ opens);
        accepted = ap (lacks_copy (record asked { path = None })) now ∙ lacks good p;
        spared = subst (λ c. SparesIn spares c source) (sym now) (spared good p);
      },
    )
  where
    taken : (c : Choice) → IsGood c → IsTaken c asked (record asked { path = None })
    taken First p = plain_taken asked plain
    taken Second p = plain_taken asked plain
    taken Neither p = absurd p

    lacks : (c : Choice) → IsGood c → lacks_copy (record asked { path = None }) c ≡ false
    lacks First p = refl
    lacks Second p = refl
    lacks Neither p = absurd p

    spared : (c : Choice) → IsGood c → SparesIn spares c source
    spared First p = tt
    spared Second p = tt
    spared Neither p = absurd p

-- the text is taken if none is good, over the same copies
pub taken_then : {E : Type 0} (holds : Holds) (r : Result Opened E) (source : Source) (asked found : Defaults) (spares : Bool) (session : Held) (none : Contents) →
    session ≡ opened source.geometry source.first.bytes.items (second_bytes source.second) none → session.now.current ≡ Neither → IsFound asked found →
    IfOk r (IsOpenedWith holds source found spares) → IfOk r (IsOpened holds source asked spares)
taken_then holds (Err e) source asked found spares session none opens current is p = tt
taken_then holds (Ok o) source asked found spares session none opens current is p =
    let same : o.session.now.current ≡ Neither = ap (λ (h : Held). h.now.current) p.opens.2 ∙ sym (ap (λ (h : Held). h.now.current) opens) ∙ current in
    (found, subst (λ c. IsTaken c asked found) (sym same) is, p)

-- ---- any other text

itself : (asked : Defaults) → is_plain asked.form ≡ false → (c : Choice) → IsTaken c asked asked
itself asked unplain First = ap (λ (b : Bool). let c : Defaults = if b then record asked { path = None } else asked in c) (sym unplain)
itself asked unplain Second = ap (λ (b : Bool). let c : Defaults = if b then record asked { path = None } else asked in c) (sym unplain)
itself asked unplain Neither = inl refl

pub unplain_taken : {E : Type 0} (holds : Holds) (r : Result Opened E) (source : Source) (asked : Defaults) (spares : Bool) → is_plain asked.form ≡ false →
    IfOk r (IsOpenedWith holds source asked spares) → IfOk r (IsOpened holds source asked spares)
unplain_taken holds (Err e) source asked spares unplain p = tt
unplain_taken holds (Ok o) source asked spares unplain p = (asked, itself asked unplain o.session.now.current, p)

-- ---- why it isn't opened

pub unplain_stopped : {T : Type 0} (r : Result T Stop) (source : Source) (asked : Defaults) (spares : Bool) → is_plain asked.form ≡ false →
    IfErr r (StopsWith source (current_of source) asked spares) → IfErr r (StopsOpening source asked spares)
unplain_stopped (Ok t) source asked spares unplain p = tt
unplain_stopped (Err s) source asked spares unplain p = (asked, itself asked unplain (current_of source), p)

pub plain_stopped : {T : Type 0} (r : Result T Stop) (source : Source) (asked found : Defaults) (spares : Bool) (session : Held) (none : Contents) →
    session ≡ opened source.geometry source.first.bytes.items (second_bytes source.second) none → session.now.current ≡ Neither → IsFound asked found →
    IfErr r (StopsWith source (current_of source) found spares) → IfErr r (StopsOpening source asked spares)
plain_stopped (Ok t) source asked found spares session none opens current is p = tt
plain_stopped (Err s) source asked found spares session none opens current is p =
    let same : current_of source ≡ Neither = sym (ap (λ (h : Held). h.now.current) opens) ∙ current in
    (found, subst (λ c. IsTaken c asked found) (sym same) is, p)

pub lacked_memory : (source : Source) (asked : Defaults) (spares : Bool) → StopsOpening source asked spares Memory
lacked_memory source asked spares = of (current_of source)
  where
    of : (c : Choice) → (taken : Defaults) × IsTaken c asked taken × StopsWith source c taken spares Memory
    of First = (without_plain asked, refl, tt)
    of Second = (without_plain asked, refl, tt)
    of Neither = (asked, inl refl, tt)

pub stopped_over : {T : Type 0} (holds : Holds) (r : Result T Stop) (source : Source) (asked : Defaults) (spares : Bool) (kept : Option KeptText) (session : Held) → OpensOver holds source asked kept session →
    IfErr r (StopsWith source session.now.current asked spares) → IfErr r (StopsWith source (current_of source) asked spares)
stopped_over holds r source asked spares kept session opens p = subst (λ c. IfErr r (StopsWith source c asked spares)) (ap (λ (h : Held). h.now.current) opens.2) p

-- ---- copies that are spared

pub spared_then : {T E : Type 0} (r : Result T E) (current : Choice) (spares : Bool) (source : Source) → current ≡ Neither → spares ≡ true →
    OnOk r (IsMisread source.geometry source.first.bytes.items (second_bytes source.second) None) → OnOk r (SparesIn spares current source)
spared_then (Err e) current spares source is spared none = tt
spared_then (Ok x) current spares source is spared none = subst (λ c. SparesIn spares c source) (sym is) (subst (λ s. SparesIn s Neither source) (sym spared) none)
