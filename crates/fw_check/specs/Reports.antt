-- What the steps of a check add to its report.
use Rattle.std.specs.Prelude.{◌≡◌, ◌++◌, ℕ, Bool, List, [], ◌∷◌, Option, Some}
use Rattle.std.specs.List.{flat_map}
use Rattle.hush_words.specs.Parts.{written}
use Rattle.hush_syntax.specs.Halts.{halt_in}
use Rattle.hush_syntax.specs.declared.nodes.Bodies.{Bodies}
use Rattle.hush_syntax.specs.declared.positions.Halt.{Halt}
use Rattle.hush_run.specs.Meaning.{bodies_of}
use Rattle.finding_kinds.specs.declared.kinds.FindingKind.TheVariants as kind
use Rattle.fw_check.specs.declared.items.Item.{Item}
use Rattle.fw_check.specs.Statements.{AreItemsOf}
use Rattle.fw_check.specs.Checking.{IsReading, Reading, findings, reading_findings}
use Rattle.fw_check.specs.Called.{Given}
use Rattle.fw_check.specs.FaultSentences.{halt_sentence}
use Rattle.fw_check.specs.ReportLines.{Report, found_at, with_findings, with_script}
use Rattle.fw_check.specs.Findings.{item_findings}
use Rattle.fw_check.specs.Knowing.{Known}
use Rattle.fw_check.specs.Found.{Found, found_more}
use Rattle.fw_check.specs.Origins.{Origin}
use Rattle.fw_check.specs.Quoting.{quoting_findings}

-- that a text stops being a script, and where, was added
abbrev pub TellsHalt : Bodies → List ℕ → Found → Found → Type 0
TellsHalt bodies text old new =
    (halt : Halt) × (halt_in bodies text ≡ Some halt) × (new ≡ found_more old (found_at halt.fault.place kind.Syntax (halt_sentence text halt) ∷ []))

module _ (known : Option Known) (given : Given) where
  -- what is found in the statements of a script was added
  abbrev pub ReadsItems : (asked : Bool) → List ℕ → Found → Found → Type 0
  ReadsItems asked text old new =
      (items : List Item) × AreItemsOf (bodies_of given.shell) asked text items × (new ≡ found_more old (quoting_findings text ++ flat_map (item_findings known given (written text)) items))

  -- the same for what a text is read as
  abbrev pub Reads : (asked : Bool) → List ℕ → Found → Found → Type 0
  Reads asked text old new = (reading : Reading) × IsReading (bodies_of given.shell) asked text reading × (new ≡ found_more old (reading_findings known given text reading))

  -- a report was continued with what is found in a script, whose status is asked for or isn't
  abbrev pub GoesOn : Origin → (asked : Bool) → (text : List ℕ) → Report → Report → Type 0
  GoesOn origin asked text old new = (reading : Reading) × IsReading (bodies_of given.shell) asked text reading × (new ≡ with_findings origin text (with_script old) (findings known given origin text reading))
