-- What `boot` does over a session (docs/boot.md).
use Rattle.std.specs.Prelude.{◌≡◌, ◌⊎◌, ◌+◌, ◌++◌, ℕ, Bool, true, false, List, [], ◌∷◌, Option, Some, None}
use Rattle.std.specs.Io.KnownBytes.{Keeps}
use Rattle.env_session.specs.Session.{Held}
use Rattle.envimg_core.specs.Geometry.{Shape, room_of}
use Rattle.envimg_core.specs.declared.geometry.Layout.TheVariants.{Single}
use Rattle.envimg_core.specs.declared.geometry.Order.TheVariants.{Little}
use Rattle.hush_syntax.specs.Grammar.{Chains}
use Rattle.hush_syntax.specs.Reading.{read_in}
use Rattle.hush_syntax.specs.declared.nodes.Bodies.{Bodies}
use Rattle.clap.specs.Words.{Text}
use Rattle.hush_commands.specs.Hardware.{Hardware}
use Rattle.hush_run.specs.Meaning.{bodies_of}
use Rattle.hush_run.specs.Runs.{rules_in}
use Rattle.fw_boots.specs.Cuts.{Cutting, Never, OfOne, OfTwo}
use Rattle.fw_boots.specs.Boots.{BootsAs, Power}
use Rattle.fw_boots.specs.PowerOns.{power_on_text}
use Rattle.boot_search.specs.declared.survey_lines.BootText.{BootText}
use Rattle.fw_arguments.specs.PowerOns.{PowerOns}
use Rattle.fw_engines.specs.Streams.{Writers}
use Rattle.fw_engines.specs.Tool.{PrintsText}
use Rattle.fw_engines.specs.declared.tool_end.ToolEnd.{ToolEnd}
use Rattle.fw_engines.specs.declared.tool_end.StreamFault.TheVariants.{Memory}
use Rattle.fw_tools.specs.Said.{Says}
use Rattle.fw_tools.specs.NewImages.{image_bytes}
use Rattle.fw_tools.specs.WantedHardware.{IsHardwareOf}
use Rattle.fw_files.specs.FileTexts.{Holds}
use Rattle.fw_files.specs.Files.{IsTextAt}

-- one copy that has the room of the session's
abbrev pub one_copy : Shape → Shape
one_copy shape = record { layout = Single; size = room_of shape + 4; order = Little }

-- the scripts at these paths, each read by the rules of the shell
abbrev pub IsScriptOf : Holds → Bodies → (path : Text) → Option Chains → Type 0
IsScriptOf holds bodies path tree = (text : List ℕ) × IsTextAt holds path text × (read_in bodies text ≡ Some tree)

abbrev pub AreScriptsOf : Holds → Bodies → (paths : List Text) → List (Option Chains) → Type 0
AreScriptsOf holds bodies [] [] = Unit {0}
AreScriptsOf holds bodies (path ∷ paths) (tree ∷ trees) = IsScriptOf holds bodies path tree × AreScriptsOf holds bodies paths trees
AreScriptsOf holds bodies paths trees = ⊥

-- one more of them
abbrev pub AddsScriptOf : Holds → Bodies → (path : Text) → (old new : List (Option Chains)) → Type 0
AddsScriptOf holds bodies path old new = (tree : Option Chains) × IsScriptOf holds bodies path tree × (new ≡ old ++ tree ∷ [])

-- where its power may fail, by its second copy, and by what a bad copy is taken for if there is none
abbrev pub cutting_for : Bool → (second : Option (List ℕ)) → (bad : List ℕ) → Cutting
cutting_for false second bad = Never
cutting_for true None bad = OfOne bad
cutting_for true (Some second) bad = OfTwo

-- the board that stores the session's variables, and has its defaults, with what its system may run
abbrev pub power_for : PowerOns → Hardware → (after : List (Option Chains)) → Held → Option Chains → Power
power_for asked given after session tree = record {
  rules = rules_in asked.dry.shell given asked.dry.limits;
  cuts = cutting_for asked.cuts session.now.second (image_bytes (one_copy session.shape) false session.defaults.env);
  counts = asked.counts;
  tree = tree;
  after = after;
  shape = one_copy session.shape;
  defaults = session.defaults;
  first = image_bytes (one_copy session.shape) false session.now.env;
}

-- what is told of its power-ons
abbrev pub IsToldOf : PowerOns → Hardware → (after : List (Option Chains)) → Held → BootText → Type 0
IsToldOf asked given after session told =
    (tree : Option Chains) × (read_in (bodies_of asked.dry.shell) (power_on_text asked.counts) ≡ Some tree)
    × BootsAs asked.dot (power_for asked given after session tree) asked.ways told

-- that is printed, or less than that; or memory ran out before
abbrev pub PrintsBoots : PowerOns → Hardware → (after : List (Option Chains)) → Held → Option (List ℕ) → Option (List ℕ) → ToolEnd → Type 0
PrintsBoots asked given after session old new end =
    ((told : BootText) × IsToldOf asked given after session told × PrintsText old new told.text.items told.status end)
    ⊎ ((end.fault ≡ Some Memory) × Keeps old new × (end.status ≡ 1))

-- and what stopped that is reported
abbrev pub ReportsBoots : PowerOns → Hardware → (after : List (Option Chains)) → Held → Writers → Writers → ℕ → Type 0
ReportsBoots asked given after session old new status =
    (end : ToolEnd) × PrintsBoots asked given after session old.output new.output end × Says end.fault old.errors new.errors × (status ≡ end.status)

-- answers may be open
abbrev pub BootsOver : Holds → PowerOns → Held → Writers → Writers → ℕ → Type 0
BootsOver holds asked session old new status =
    (given : Hardware) × (after : List (Option Chains)) × IsHardwareOf holds true asked.dry given
    × AreScriptsOf holds (bodies_of asked.dry.shell) asked.after after × ReportsBoots asked given after session old new status
