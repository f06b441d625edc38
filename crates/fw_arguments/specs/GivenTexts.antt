-- The text that is an environment (docs/dry-runs.md, "An environment without a board").
use Rattle.std.specs.Prelude.{◌&&◌, ◌||◌, if◌then◌else◌, Bool, true, false, List, Option, Some, None, codes}
use Rattle.clap.specs.Words.{Row, Text, first_of}
use Rattle.fw_arguments.specs.Values.{is_given}
use Rattle.fw_arguments.specs.declared.given_text.GivenText as texts
use Rattle.fw_arguments.specs.declared.given_text.TextForm.{TextForm}
use Rattle.fw_arguments.specs.declared.given_text.TextForm.TheVariants.{Import, Initial, Plain, Source}

-- plain lines
abbrev pub is_plain : TextForm → Bool
is_plain Plain = true
is_plain form = false

-- its path, and its form
pub record GivenText : Type 0 where
  pub path : Text
  pub form : TextForm

abbrev pub in_form : TextForm → Option Text → Option GivenText
in_form form None = None
in_form form (Some path) = Some (record { path = path; form = form })

abbrev pub given_or : TextForm → Option Text → (other : Option GivenText) → Option GivenText
given_or form None other = other
given_or form (Some path) other = Some (record { path = path; form = form })

-- the lines of `--env-plain`
abbrev pub given_plain : List Row → Option GivenText
given_plain rows = in_form Initial (first_of (codes "env-plain") rows)

-- or the source of `--env-source`
abbrev pub given_source : List Row → Option GivenText
given_source rows = given_or Source (first_of (codes "env-source") rows) (given_plain rows)

-- or the text for import of `--env`
abbrev pub given_text : List Row → Option GivenText
given_text rows = given_or Import (first_of (codes "env") rows) (given_source rows)

-- more than one of these is given
abbrev pub gives_two : List Row → Bool
gives_two rows =
    if is_given (codes "env") rows then is_given (codes "env-source") rows || is_given (codes "env-plain") rows
    else is_given (codes "env-source") rows && is_given (codes "env-plain") rows

abbrev pub two_texts : Text
two_texts = codes "error: only one of '--env <FILE>', '--env-source <FILE>' and '--env-plain <FILE>' can be given\n\nFor more information, try '--help'.\n"

-- the code's answer, in this form
abbrev pub given_text_view : texts.GivenText → GivenText
given_text_view t = record { path = t.path.now; form = t.form }
