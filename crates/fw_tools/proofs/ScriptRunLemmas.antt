-- The script that `run` is given.
use Rattle.std.proofs.Common.{◌≡◌, ℕ, List, Some, None, Result, Ok, Err, refl, subst, sym}
use Rattle.std.specs.Prelude.{MatchResult}
use Rattle.hush_run.specs.Meaning.{bodies_of}
use Rattle.hush_syntax.specs.Reading.{read_in}
use Rattle.hush_syntax.specs.Halts.{fault_in}
use Rattle.hush_syntax.specs.Scripts.{tree_of}
use Rattle.hush_syntax.specs.declared.nodes.Bodies.{Bodies}
use Rattle.hush_syntax.specs.declared.script.Script.{Script}
use Rattle.fw_arguments.specs.DryRuns.{ScriptRun}
use Rattle.fw_files.specs.FileTexts.{Holds}
use Rattle.fw_tools.specs.ScriptRuns.{HaltsRun, IsHaltOf, IsNoScript, IsScriptFor, IsTextOf, name_of_script}
use Rattle.fw_tools.specs.declared.halt.Halt.{Halt}
use Rattle.fw_tools.specs.declared.halt.Halt.TheVariants as halt

-- it ended for another reason than its text
pub no_script : (holds : Holds) (run : ScriptRun) (h : Halt) → IsNoScript h → HaltsRun holds run h
no_script holds run (halt.Script name text fault) never = absurd never
no_script holds run (halt.Files s) none = tt
no_script holds run (halt.NoStandIn name back) none = tt

-- or for its text
text_halts : (holds : Holds) (run : ScriptRun) (text : List ℕ) (h : Halt) → IsTextOf holds run.script text → IsHaltOf (bodies_of run.dry.shell) (name_of_script run.script) text h → HaltsRun holds run h
text_halts holds run text (halt.Script named given fault) is (same, items, unread, of) =
    (subst (IsTextOf holds run.script) (sym items) is, (same, refl, subst (λ t. read_in (bodies_of run.dry.shell) t ≡ None) (sym items) unread, subst (λ t. fault_in (bodies_of run.dry.shell) t ≡ Some fault) (sym items) of))
text_halts holds run text (halt.Files s) is of = tt
text_halts holds run text (halt.NoStandIn name back) is never = tt

pub script_for : (holds : Holds) (run : ScriptRun) (bodies : Bodies) (name text : List ℕ) (r : Result Script Halt) → IsTextOf holds run.script text → bodies ≡ bodies_of run.dry.shell → name ≡ name_of_script run.script →
    MatchResult r (λ script. read_in bodies text ≡ Some (tree_of script)) (IsHaltOf bodies name text) →
    MatchResult r (λ script. IsScriptFor holds run (tree_of script)) (HaltsRun holds run)
script_for holds run bodies name text (Ok script) is same named reads = (text, is, subst (λ b. read_in b text ≡ Some (tree_of script)) same reads)
script_for holds run bodies name text (Err h) is same named of =
    text_halts holds run text h is (subst (λ n. IsHaltOf (bodies_of run.dry.shell) n text h) named (subst (λ b. IsHaltOf b name text h) same of))
