-- What was found so far in a script.
use Rattle.std.specs.Prelude.{ℕ, List}
use Rattle.fw_check.specs.ReportLines.{Finding, Report, with_findings}
use Rattle.fw_check.specs.Origins.{Origin}

-- what the script is, its text, and the report with what was found in it
pub record Found : Type 0 where
  pub origin : Origin
  pub text : List ℕ
  pub report : Report

abbrev pub found_more : Found → List Finding → Found
found_more f fs = record f { report = with_findings f.origin f.text f.report fs }
