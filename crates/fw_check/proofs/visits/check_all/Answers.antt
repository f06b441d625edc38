use Rattle.std.proofs.Common.{◌≡◌, ℕ, Bool, List, [], Some, ap, map, subst, sym, ◌∙◌}
use Rattle.std.specs.Prelude.{IfOk, Option, Result, Ok, Err, option_map}
use Rattle.envimg_core.specs.Environment.{Environment}
use Rattle.finding_kinds.specs.Choices.{Choice, choice_view}
use Rattle.fw_check.specs.Called.{Given}
use Rattle.fw_check.specs.Checking.{AreAsked, AreVisited, Reports, first_report, follow_texts, known_after}
use Rattle.fw_check.specs.EntryPlaces.{EnvironmentText, text_view}
use Rattle.fw_check.specs.FileChecks.{ComesTo, FileScript, ReportsFiles, follow_first, is_alone, script_texts, scripts_view}
use Rattle.fw_check.specs.ReportLines.{Report}
use Rattle.fw_check.specs.Knowing.{Known}
use Rattle.fw_check.specs.Following.{Followed, begin_all, begin_with, is_among}
use Rattle.fw_check.specs.Looking.{rules_view}
use Rattle.fw_check.specs.NameSets.{set_of}
use Rattle.fw_check.proofs.VisitLemmas.{all-env, texts-env}
use Rattle.fw_check.proofs.visits.check_all.Goals as goal

pub read_all-requires : goal.read_all-requires
read_all-requires c =
    ap (λ (f : Followed). f.env) c.in_ok-follow_first.ensures ∙ all-env (rules_view c.args.rules).hardware c.new-visited.result c.args.choice.all c.is_alone.result (map (λ n. n.now) c.args.names.now) ∙ ap (λ (f : Followed). f.env) c.new-visited.ensures

-- a report on the scripts of files and on the names that were visited
comes : {E : Type 0} (r : Result Report E) (rules : Given) (env : Environment) (file : Option EnvironmentText) (choice : Choice) (names listed all asked : List (List ℕ)) (scripts : List FileScript) (alone : Bool) (new after : Followed) (gave foresaw wrote anew cut : List ℕ → Bool)
    (begun filed : Report) → new ≡ record { env = env; names = [] } → alone ≡ is_alone scripts → after ≡ begin_all rules.hardware new choice.all alone names → AreVisited rules (follow_texts rules (script_texts scripts) after) 0 all → AreAsked rules env (script_texts scripts) listed asked →
    gave ≡ (known_after rules env (script_texts scripts) all).given → foresaw ≡ (known_after rules env (script_texts scripts) all).foreseen → wrote ≡ (known_after rules env (script_texts scripts) all).written → anew ≡ (known_after rules env (script_texts scripts) all).reread →
    cut ≡ (known_after rules env (script_texts scripts) all).recut → listed ≡ all → begun ≡ first_report choice env names →
    ReportsFiles (Some (record { env = env; given = gave; foreseen = foresaw; written = wrote; reread = anew; recut = cut })) rules scripts begun filed →
    IfOk r (λ final. Reports env file (Some (record { env = env; given = gave; foreseen = foresaw; written = wrote; reread = anew; recut = cut })) rules (is_among asked) listed filed final) →
    IfOk r (λ final. ComesTo rules (follow_first rules env choice.all names scripts) file scripts (first_report choice env names) final)
comes (Err e) rules env file choice names listed all asked scripts alone new after gave foresaw wrote anew cut begun filed start is_lone follow visited asks given foreseen written reread recut same report files h = tt
comes (Ok final) rules env file choice names listed all asked scripts alone new after gave foresaw wrote anew cut begun filed start is_lone follow visited asks given foreseen written reread recut same report files h =
    let texts = script_texts scripts in
    let is : after ≡ begin_with rules.hardware env choice.all (is_alone scripts) names =
    follow ∙ ap (λ (f : Followed). begin_all rules.hardware f choice.all alone names) start ∙ ap (λ (b : Bool). begin_with rules.hardware env choice.all b names) is_lone in
    let seen = subst (λ (f : Followed). AreVisited rules (follow_texts rules texts f) 0 all) is visited in
    let envs = texts-env rules texts (begin_with rules.hardware env choice.all (is_alone scripts) names) ∙ all-env rules.hardware (record { env = env; names = [] }) choice.all (is_alone scripts) names in
    let after_all = known_after rules env texts all in
    let knows : (gives foresees writes rereads recuts : List ℕ → Bool) → Known = λ gives foresees writes rereads recuts. record {
      env = env;
      given = gives;
      foreseen = foresees;
      written = writes;
      reread = rereads;
      recut = recuts;
    } in
    let known : knows gave foresaw wrote anew cut ≡ after_all =
    ap (λ (g : List ℕ → Bool). knows g foresaw wrote anew cut) given ∙ ap (λ (f : List ℕ → Bool). knows after_all.given f wrote anew cut) foreseen
    ∙ ap (λ (w : List ℕ → Bool). knows after_all.given after_all.foreseen w anew cut) written
    ∙ ap (λ (r : List ℕ → Bool). knows after_all.given after_all.foreseen after_all.written r cut) reread
    ∙ ap (λ (r : List ℕ → Bool). knows after_all.given after_all.foreseen after_all.written after_all.reread r) recut in
    let in_files = subst (λ (r : Report). ReportsFiles (Some (known_after rules env texts all)) rules scripts r filed) report
    (subst (λ (k : Known). ReportsFiles (Some k) rules scripts begun filed) known files) in
    let in_names = subst (λ (ns : List (List ℕ)). Reports env file (Some (known_after rules env texts all)) rules (is_among asked) ns filed final) same
    (subst (λ (k : Known). Reports env file (Some k) rules (is_among asked) listed filed final) known h) in
    let asking = subst (λ (e : Environment). AreAsked rules e texts all asked) (sym envs) (subst (λ (ns : List (List ℕ)). AreAsked rules env texts ns asked) same asks) in (
      all,
      asked,
      filed,
      seen,
      asking,
      subst (λ (e : Environment). ReportsFiles (Some (known_after rules e texts all)) rules scripts (first_report choice env names) filed) (sym envs) in_files,
      subst (λ (e : Environment). Reports e file (Some (known_after rules e texts all)) rules (is_among asked) all filed final) (sym envs) in_names,
    )

pub returns : goal.returns
returns c =
    let rules = rules_view c.args.rules in
    let env = c.args.vars.now.env in
    let scripts = scripts_view c.args.scripts.now in
    let asked = c.follow_asked.new.asked.names in
    let asks = subst (λ (ns : List (List ℕ)). AreAsked rules env (script_texts scripts) ns asked) (c.all.ensures ∙ sym c.all-2.ensures) c.in_ok-follow_asked.ensures in
    comes c.report_all.result rules env (option_map text_view c.args.file) (choice_view c.args.choice) (map (λ n. n.now) c.args.names.now) (map (λ n. n.items) c.all-2.result.now) c.read_all.new.names.names asked
    scripts c.is_alone.result c.new-visited.result c.follow_first.new.followed (set_of c.in_ok-gathered.gathered.given) (set_of c.in_ok-gathered.gathered.foreseen) (set_of c.in_ok-gathered.gathered.written)
    (set_of c.in_ok-values.values.reread) (set_of c.in_ok-values.values.recut) c.in_ok-report.report c.in_ok-after.after
    c.new-visited.ensures c.is_alone.ensures c.in_ok-follow_first.ensures c.in_ok-gathered.ensures.visited asks c.in_ok-gathered.ensures.given c.in_ok-gathered.ensures.foreseen c.in_ok-gathered.ensures.written c.in_ok-values.ensures.reread c.in_ok-values.ensures.recut c.all-2.ensures c.in_ok-report.ensures c.in_ok-after.ensures
    c.report_all.ensures
