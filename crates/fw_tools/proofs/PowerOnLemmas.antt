-- The status of power-ons.
use Rattle.std.proofs.Common.{◌≡◌, ℕ, ◌≤◌, Bool, true, false, List, [], ◌∷◌, ◌++◌, Option, Some, Result, Ok, Err, inl, inr, arith, subst, sym}
use Rattle.std.specs.Prelude.{if◌then◌else◌, nat_lt, IfOk}
use Rattle.std.specs.declared.alloc.AllocError.{AllocError}
use Rattle.clap.specs.Words.{Text}
use Rattle.envimg_core.specs.Geometry.{Shape, room_of}
use Rattle.envvars_core.specs.Variables.{Contents}
use Rattle.hush_syntax.specs.Grammar.{Chains}
use Rattle.hush_syntax.specs.Reading.{read_in}
use Rattle.hush_syntax.specs.declared.nodes.Bodies.{Bodies}
use Rattle.hush_commands.specs.Hardware.{Hardware}
use Rattle.hush_run.specs.Meaning.{Rules, bodies_of}
use Rattle.boot_search.specs.declared.survey_lines.BootText.{BootText}
use Rattle.fw_boots.specs.Cuts.{Cutting}
use Rattle.fw_boots.specs.Boots.{BootsAs, Power}
use Rattle.fw_boots.specs.PowerOns.{power_on_text}
use Rattle.boot_search.specs.Bootable.{unmarked}
use Rattle.boot_search.specs.SurveyText.{told_of}
use Rattle.env_session.specs.Session.{Held}
use Rattle.fw_arguments.specs.PowerOns.{PowerOns}
use Rattle.fw_engines.specs.Streams.{Writers}
use Rattle.fw_tools.specs.PowerOns.{AddsScriptOf, AreScriptsOf, BootsOver, IsToldOf, one_copy, power_for}
use Rattle.fw_tools.proofs.CheckLemmas.{text_small}
use Rattle.fw_files.specs.FileTexts.{Holds}

lost_small : (lost : Bool) → (if lost then 1 else 0) ≤ 1
lost_small true = omega arith
lost_small false = omega arith

known_small : (complete lost : Bool) → (if complete then (if lost then 1 else 0) else 1) ≤ 1
known_small true lost = lost_small lost
known_small false lost = omega arith

pub boots_small : (holds : Holds) (asked : PowerOns) (session : Held) (old new : Writers) (status : ℕ) → BootsOver holds asked session old new status → status ≤ 1
boots_small holds asked session old new status (given, after, is, are, (end, inl (told, (tree, read, (survey, of, text, by)), prints), says, same)) =
    let t = told_of survey in
    let small = subst (λ n. n ≤ 1) (sym by) (known_small t.complete (nat_lt 0 (unmarked t.boots))) in
    omega (arith, same, text_small end old.output new.output told.text.items told.status small prints)
boots_small holds asked session old new status (given, after, is, are, (end, inr (fault, kept, one), says, same)) = omega (arith, same, one)

-- one copy has the room of the session's
pub same_room : (shape : Shape) → room_of (one_copy shape) ≡ room_of shape
same_room shape = omega arith

-- boards alike in what they store
pub power_is : (rules : Rules) (cuts cuts' : Cutting) (counts : Bool) (tree : Option Chains) (after : List (Option Chains)) (shape shape' : Shape) (defaults defaults' : Contents) (first first' : List ℕ) →
    cuts ≡ cuts' → shape ≡ shape' → defaults ≡ defaults' → first ≡ first' →
    ◌≡◌ {A = Power} (record { rules = rules; cuts = cuts; counts = counts; tree = tree; after = after; shape = shape; defaults = defaults; first = first })
    (record { rules = rules; cuts = cuts'; counts = counts; tree = tree; after = after; shape = shape'; defaults = defaults'; first = first' })
power_is rules cuts cuts' counts tree after shape shape' defaults defaults' first first' u s d f = λ i. record { rules = rules; cuts = u i; counts = counts; tree = tree; after = after; shape = s i; defaults = d i; first = f i }

-- what is told of such a board
pub tells : (asked : PowerOns) (given : Hardware) (after : List (Option Chains)) (session : Held) (tree : Option Chains) (power : Power) (r : Result BootText AllocError) →
    read_in (bodies_of asked.dry.shell) (power_on_text asked.counts) ≡ Some tree → power ≡ power_for asked given after session tree → IfOk r (BootsAs asked.dot power asked.ways) →
    IfOk r (IsToldOf asked given after session)
tells asked given after session tree power (Ok told) reads is told_as = (tree, reads, subst (λ p. BootsAs asked.dot p asked.ways told) is told_as)
tells asked given after session tree power (Err e) reads is told_as = tt

-- ---- scripts of files

-- one more at the end
pub script_added : (holds : Holds) (bodies : Bodies) (paths : List Text) (path : Text) (old new : List (Option Chains)) → AreScriptsOf holds bodies paths old →
    AddsScriptOf holds bodies path old new → AreScriptsOf holds bodies (paths ++ path ∷ []) new
script_added holds bodies paths path old new are (tree, is, grown) = subst (AreScriptsOf holds bodies (paths ++ path ∷ [])) (sym grown) (behind paths old are)
  where
    behind : (ps : List Text) (ts : List (Option Chains)) → AreScriptsOf holds bodies ps ts → AreScriptsOf holds bodies (ps ++ path ∷ []) (ts ++ tree ∷ [])
    behind [] [] none = (is, tt)
    behind (p ∷ ps) (t ∷ ts) (first, rest) = (first, behind ps ts rest)
    behind [] (t ∷ ts) never = absurd never
    behind (p ∷ ps) [] never = absurd never
