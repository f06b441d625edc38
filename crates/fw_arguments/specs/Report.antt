-- What the arguments of `status` and of any subcommand ask for (docs/status.md).
use Rattle.std.specs.Prelude.{Bool, true, false, List, [], ◌∷◌, ◌++◌, Option, Some, None, Result, Ok, Err, codes, if◌then◌else◌}
use Rattle.std.specs.Str.{bytes_eq}
use Rattle.clap.specs.Words.{Row, Text, all_of, first_of}
use Rattle.envimg_core.specs.declared.geometry.Order.{Order}
use Rattle.fw_arguments.specs.Calls.{Call, call_of, call_view}
use Rattle.fw_arguments.specs.Checks.{FileCheck, file_check_of, file_check_view, names_environment}
use Rattle.fw_arguments.specs.ImageRequests.{ImageRequest, image_request_of, image_request_view}
use Rattle.fw_arguments.specs.StandardInput.{read_twice, reads_twice}
use Rattle.fw_arguments.specs.Values.{first_or, is_given}
use Rattle.fw_arguments.specs.Words.{either_order, order_by, source_in}
use Rattle.fw_arguments.specs.declared.report.Asked as asked
use Rattle.fw_arguments.specs.declared.report.Asked.TheVariants as answer
use Rattle.fw_arguments.specs.declared.report.Report as reports
use Rattle.fw_arguments.specs.declared.report.Subject as subjects
use Rattle.fw_arguments.specs.declared.report.Subject.TheVariants as code

-- what a report is about: the copies that the configuration at a path names, or the whole file at a path
pub data Subject : Type 0 where
  Copies : Text → Subject
  File : Text → Subject

-- that, with its byte order
pub record Report : Type 0 where
  pub order : Order
  pub subject : Subject

-- what a subcommand asks for: work over a session, a report, the check of the scripts in files, a new image, or the search of the dump at a path
pub data Asked : Type 0 where
  Work : Call → Asked
  Look : Report → Asked
  Check : FileCheck → Asked
  Make : ImageRequest → Asked
  Find : Text → Asked

-- what is wrong if a configuration and a file are given
abbrev pub config_and_file : Text
config_and_file =
    codes "error: the argument '-c <FILE>' cannot be used with '[FILE]'" ++ 10 ∷ 10 ∷ codes "Usage: fwenv status [OPTIONS] [FILE]" ++ 10 ∷ 10 ∷ codes "For more information, try '--help'." ++ 10 ∷ []

-- by whether a configuration is given, its path, and that of a file, if there is one
abbrev pub subject_by : Bool → Text → Option Text → Result Subject Text
subject_by given config None = Ok (Copies config)
subject_by false config (Some path) = Ok (File path)
subject_by true config (Some path) = Err config_and_file

abbrev pub subject_of : List Row → Result Subject Text
subject_of rows = subject_by (is_given (codes "config") rows) (first_or (codes "/etc/fw_env.config") (codes "config") rows) (first_of (codes "file") rows)

abbrev pub in_order : Order → Result Subject Text → Result Report Text
in_order order (Ok subject) = Ok (record { order = order; subject = subject })
in_order order (Err text) = Err text

abbrev pub report_of : Order → List Row → Result Report Text
report_of order rows = in_order (either_order order (order_by (source_in (codes "big-endian") rows))) (subject_of rows)

abbrev pub looked : Result Report Text → Result Asked Text
looked (Ok report) = Ok (Look report)
looked (Err text) = Err text

abbrev pub worked : Result Call Text → Result Asked Text
worked (Ok call) = Ok (Work call)
worked (Err text) = Err text

abbrev pub checked : Result FileCheck Text → Result Asked Text
checked (Ok check) = Ok (Check check)
checked (Err text) = Err text

abbrev pub made : Result ImageRequest Text → Result Asked Text
made (Ok image) = Ok (Make image)
made (Err text) = Err text

-- the scripts in files are checked alone if some are given and no environment is named, else over an environment
abbrev pub checked_by : Option (List Text) → Order → List Row → Result Asked Text
checked_by None order rows = worked (call_of order (codes "check") rows)
checked_by (Some paths) order rows = if names_environment rows then worked (call_of order (codes "check") rows) else checked (file_check_of paths rows)

abbrev pub asked_once : Order → Text → List Row → Result Asked Text
asked_once order name rows =
    if bytes_eq name (codes "status") then looked (report_of order rows)
    else if bytes_eq name (codes "check") then checked_by (all_of (codes "script") rows) order rows
    else if bytes_eq name (codes "image") then made (image_request_of order rows)
    else if bytes_eq name (codes "find") then Ok (Find (first_or [] (codes "file") rows))
    else worked (call_of order name rows)

-- what arguments that choose a byte order before the subcommand ask for, or the text for what is wrong
abbrev pub asked_of : Order → Text → List Row → Result Asked Text
asked_of order name rows = if reads_twice name rows then Err read_twice else asked_once order name rows

-- the code's answers, in this form
abbrev pub subject_view : subjects.Subject → Subject
subject_view (code.Copies path) = Copies path.now
subject_view (code.File path) = File path.now

abbrev pub report_view : reports.Report → Report
report_view r = record { order = r.order; subject = subject_view r.subject }

abbrev pub asked_view : asked.Asked → Asked
asked_view (answer.Work call) = Work (call_view call)
asked_view (answer.Look report) = Look (report_view report)
asked_view (answer.Check check) = Check (file_check_view check)
asked_view (answer.Make image) = Make (image_request_view image)
asked_view (answer.Find path) = Find path.now
