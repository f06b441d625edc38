-- What the arguments of `image` ask for (docs/tools.md, "New images").
use Rattle.std.specs.Prelude.{ℕ, Bool, false, List, [], Option, Some, None, Result, Ok, Err, codes, if◌then◌else◌, nat_lt, option_and_then, option_map}
use Rattle.std.specs.Str.{bytes_eq}
use Rattle.clap.specs.Words.{Row, Text, first_of}
use Rattle.envimg_core.specs.declared.geometry.Layout.{Layout}
use Rattle.envimg_core.specs.declared.geometry.Layout.TheVariants.{Single, Redundant}
use Rattle.envimg_core.specs.declared.geometry.Order.{Order}
use Rattle.fw_arguments.specs.DryRuns.{and_then}
use Rattle.fw_arguments.specs.GivenTexts.{GivenText, given_text, given_text_view, gives_two, two_texts}
use Rattle.fw_arguments.specs.ImageSizes.{size_in}
use Rattle.fw_arguments.specs.Values.{first_or, is_given, value_or}
use Rattle.fw_arguments.specs.Words.{either_order, order_by, source_in}
use Rattle.fw_arguments.specs.declared.image_request.ImageRequest as requests
use Rattle.fw_arguments.specs.declared.image_options.TheConstants.{ONE_COPY}

-- the text with its variables; one copy or two, the size and the byte order of each; whether both hold the variables; and
-- the file that it is written into, if it isn't standard output
pub record ImageRequest : Type 0 where
  pub text : GivenText
  pub layout : Layout
  pub size : ℕ
  pub order : Order
  pub both : Bool
  pub output : Option Text

-- one copy or two, by their number
abbrev pub layout_named : Text → Option Layout
layout_named word =
    if bytes_eq word (codes "1") then Some Single
    else if bytes_eq word (codes "2") then Some Redundant
    else None

-- what is wrong with another number
abbrev pub bad_copies : Text
bad_copies = codes "' for '--copies <N>'\n  [possible values: 1, 2]\n\nFor more information, try '--help'.\n"

abbrev pub layout_of : List Row → Result Layout Text
layout_of rows = value_or bad_copies (first_or ONE_COPY.now (codes "copies") rows) (layout_named (first_or ONE_COPY.now (codes "copies") rows))

-- both copies are to hold the variables, and there is one
abbrev pub is_both_alone : Layout → Bool → Bool
is_both_alone Single both = both
is_both_alone Redundant both = false

abbrev pub both_alone : Text
both_alone = codes "error: the argument '--both' is only for '--copies 2'\n\nFor more information, try '--help'.\n"

-- the size of a copy, which has a byte more if it is one of two
abbrev pub large_enough : Layout → ℕ → Option ℕ
large_enough Single size = Some size
large_enough Redundant size = if nat_lt size 9 then None else Some size

abbrev pub copy_size : Layout → Text → Option ℕ
copy_size layout word = option_and_then (large_enough layout) (size_in word)

-- what is wrong with another size
abbrev pub size_text : Layout → Text
size_text Single = codes "' for '--size <N>': not the size of an image in hexadecimal, 0x8 to 0x100000\n\nFor more information, try '--help'.\n"
size_text Redundant = codes "' for '--size <N>': not the size of one of two copies in hexadecimal, 0x9 to 0x100000\n\nFor more information, try '--help'.\n"

-- the image that is asked for, by what was found in the arguments
abbrev pub request_in : Order → List Row → GivenText → Layout → ℕ → ImageRequest
request_in order rows text layout size = record {
  text = text;
  layout = layout;
  size = size;
  order = either_order order (order_by (source_in (codes "big-endian") rows));
  both = is_given (codes "both") rows;
  output = first_of (codes "output") rows;
}

abbrev pub size_of : List Row → Layout → Result ℕ Text
size_of rows layout = value_or (size_text layout) (first_or [] (codes "size") rows) (copy_size layout (first_or [] (codes "size") rows))

abbrev pub request_by : Order → List Row → GivenText → Layout → Result ImageRequest Text
request_by order rows text layout =
    if is_both_alone layout (is_given (codes "both") rows) then Err both_alone
    else and_then (size_of rows layout) (λ size. Ok (request_in order rows text layout size))

abbrev pub request_with : Order → List Row → GivenText → Result ImageRequest Text
request_with order rows text = and_then (layout_of rows) (request_by order rows text)

-- the text with the variables, of which one has to be given
abbrev pub no_text : Text
no_text =
    codes "error: the following required arguments were not provided:\n  <--env <FILE>|--env-source <FILE>|--env-plain <FILE>>\n\nUsage: fwenv image [OPTIONS] --size <N>\n\nFor more information, try '--help'.\n"

abbrev pub text_or_none : Option GivenText → Result GivenText Text
text_or_none None = Err no_text
text_or_none (Some text) = Ok text

abbrev pub text_of : List Row → Result GivenText Text
text_of rows = if gives_two rows then Err two_texts else text_or_none (given_text rows)

abbrev pub image_request_of : Order → List Row → Result ImageRequest Text
image_request_of order rows = and_then (text_of rows) (request_with order rows)

-- the code's answer, in this form
abbrev pub image_request_view : requests.ImageRequest → ImageRequest
image_request_view r = record {
  text = given_text_view r.text;
  layout = r.layout;
  size = r.size;
  order = r.order;
  both = r.both;
  output = option_map (λ p. p.now) r.output;
}
