-- What clap's rules report of some arguments, computed by the checker.
use Rattle.std.proofs.Common.{◌≡◌, [], ◌∷◌, Some, None, codes, option_map, refl}
use Rattle.clap.proofs.OnLiterals.{clap_on_literals}
use Rattle.clap.specs.Words.{first_of}
use Rattle.clap.specs.declared.error.kind.ErrorKind.TheVariants.{ArgumentConflict, DisplayHelp, DisplayVersion, InvalidSubcommand, MissingRequiredArgument, TooManyValues, UnknownArgument}
use Rattle.envimg_core.specs.declared.geometry.Order.TheVariants.{Little, Big}
use Rattle.fw_arguments.specs.DryRuns.{number_in}
use Rattle.fw_arguments.specs.ImageSizes.{size_in}
use Rattle.fw_arguments.specs.ProgramNames.{called_by, faults, name_in, order_of}
use Rattle.fw_arguments.specs.declared.program_name.ProgramName.TheVariants.{Fwenv, FwenvWith, Printenv}
use Rattle.fw_arguments.specs.declared.program_name.Subcommand.TheVariants as sub

-- no argument but the program's own name
pub name_alone : faults (codes "fwenv" ∷ []) ≡ []
unfolding clap_on_literals
name_alone = refl

pub no_word_at_all : faults [] ≡ []
unfolding clap_on_literals
no_word_at_all = refl

-- a call for help
pub long_help : faults (codes "fwenv" ∷ codes "--help" ∷ []) ≡ DisplayHelp ∷ []
unfolding clap_on_literals
long_help = refl

pub short_help : faults (codes "fwenv" ∷ codes "-h" ∷ []) ≡ DisplayHelp ∷ []
unfolding clap_on_literals
short_help = refl

-- a call for the version
pub long_version : faults (codes "fwenv" ∷ codes "--version" ∷ []) ≡ DisplayVersion ∷ []
unfolding clap_on_literals
long_version = refl

pub short_version : faults (codes "fwenv" ∷ codes "-V" ∷ []) ≡ DisplayVersion ∷ []
unfolding clap_on_literals
short_version = refl

-- an unknown argument, and an option
pub unknown_word : faults (codes "fwenv" ∷ codes "bootcmd" ∷ []) ≡ UnknownArgument ∷ InvalidSubcommand ∷ []
unfolding clap_on_literals
unknown_word = refl

pub unknown_option : faults (codes "fwenv" ∷ codes "--write" ∷ []) ≡ UnknownArgument ∷ []
unfolding clap_on_literals
unknown_option = refl

-- the flag, and arguments that are nearly it
pub flag : faults (codes "fwenv" ∷ codes "--big-endian" ∷ []) ≡ []
unfolding clap_on_literals
flag = refl

pub flag_chooses : order_of (codes "fwenv" ∷ codes "--big-endian" ∷ []) ≡ Big
unfolding clap_on_literals
flag_chooses = refl

pub no_flag_chooses : order_of (codes "fwenv" ∷ []) ≡ Little
unfolding clap_on_literals
no_flag_chooses = refl

pub flag_twice : faults (codes "fwenv" ∷ codes "--big-endian" ∷ codes "--big-endian" ∷ []) ≡ ArgumentConflict ∷ []
unfolding clap_on_literals
flag_twice = refl

pub flag_with_a_value : faults (codes "fwenv" ∷ codes "--big-endian=1" ∷ []) ≡ TooManyValues ∷ []
unfolding clap_on_literals
flag_with_a_value = refl

pub flag_cut_short : faults (codes "fwenv" ∷ codes "--big" ∷ []) ≡ UnknownArgument ∷ []
unfolding clap_on_literals
flag_cut_short = refl

pub flag_and_help : faults (codes "fwenv" ∷ codes "--big-endian" ∷ codes "--help" ∷ []) ≡ DisplayHelp ∷ []
unfolding clap_on_literals
flag_and_help = refl

-- the subcommands
pub all_printed : faults (codes "fwenv" ∷ codes "printenv" ∷ []) ≡ []
unfolding clap_on_literals
all_printed = refl

pub names_printed : faults (codes "fwenv" ∷ codes "printenv" ∷ codes "q" ∷ codes "a" ∷ []) ≡ []
unfolding clap_on_literals
names_printed = refl

pub value_printed : faults (codes "fwenv" ∷ codes "printenv" ∷ codes "-n" ∷ codes "a" ∷ codes "-c" ∷ codes "f" ∷ []) ≡ []
unfolding clap_on_literals
value_printed = refl

pub words_set : faults (codes "fwenv" ∷ codes "setenv" ∷ codes "a" ∷ codes "--" ∷ codes "-x" ∷ codes "2" ∷ []) ≡ []
unfolding clap_on_literals
words_set = refl

pub dashes_wanted : faults (codes "fwenv" ∷ codes "setenv" ∷ codes "a" ∷ codes "-x" ∷ []) ≡ UnknownArgument ∷ []
unfolding clap_on_literals
dashes_wanted = refl

pub script_set : faults (codes "fwenv" ∷ codes "setenv" ∷ codes "-s" ∷ codes "f" ∷ []) ≡ []
unfolding clap_on_literals
script_set = refl

pub file_wanted : faults (codes "fwenv" ∷ codes "import" ∷ []) ≡ MissingRequiredArgument ∷ []
unfolding clap_on_literals
file_wanted = refl

pub file_imported : faults (codes "fwenv" ∷ codes "import" ∷ codes "f" ∷ codes "--default" ∷ codes "d" ∷ []) ≡ []
unfolding clap_on_literals
file_imported = refl

pub no_word_exported : faults (codes "fwenv" ∷ codes "export" ∷ codes "a" ∷ []) ≡ UnknownArgument ∷ []
unfolding clap_on_literals
no_word_exported = refl

pub no_file_restored : faults (codes "fwenv" ∷ codes "restore" ∷ []) ≡ MissingRequiredArgument ∷ []
unfolding clap_on_literals
no_file_restored = refl

pub copies_reported : faults (codes "fwenv" ∷ codes "status" ∷ codes "--big-endian" ∷ []) ≡ []
unfolding clap_on_literals
copies_reported = refl

pub file_reported : faults (codes "fwenv" ∷ codes "status" ∷ codes "f" ∷ []) ≡ []
unfolding clap_on_literals
file_reported = refl

pub help_of_a_subcommand : faults (codes "fwenv" ∷ codes "export" ∷ codes "--help" ∷ []) ≡ DisplayHelp ∷ []
unfolding clap_on_literals
help_of_a_subcommand = refl

-- a dry run
pub session_alone : faults (codes "fwenv" ∷ codes "session" ∷ []) ≡ []
unfolding clap_on_literals
session_alone = refl

pub session_limited : faults (codes "fwenv" ∷ codes "session" ∷ codes "--write" ∷ codes "--stubs" ∷ codes "f" ∷ codes "--steps" ∷ codes "5" ∷ []) ≡ []
unfolding clap_on_literals
session_limited = refl

pub number_twice : faults (codes "fwenv" ∷ codes "session" ∷ codes "--word" ∷ codes "5" ∷ codes "--word" ∷ codes "5" ∷ []) ≡ ArgumentConflict ∷ []
unfolding clap_on_literals
number_twice = refl

pub no_word_for_a_session : faults (codes "fwenv" ∷ codes "session" ∷ codes "a" ∷ []) ≡ UnknownArgument ∷ []
unfolding clap_on_literals
no_word_for_a_session = refl

-- a script's run
pub run_of_names : faults (codes "fwenv" ∷ codes "run" ∷ codes "a" ∷ codes "b" ∷ []) ≡ []
unfolding clap_on_literals
run_of_names = refl

pub boots_twice : faults (codes "fwenv" ∷ codes "run" ∷ codes "--boots" ∷ codes "booti" ∷ codes "--boots" ∷ codes "reset" ∷ codes "a" ∷ []) ≡ []
unfolding clap_on_literals
boots_twice = refl

pub text_twice : faults (codes "fwenv" ∷ codes "run" ∷ codes "--env" ∷ codes "f" ∷ codes "--env" ∷ codes "g" ∷ []) ≡ ArgumentConflict ∷ []
unfolding clap_on_literals
text_twice = refl

pub session_boots : faults (codes "fwenv" ∷ codes "session" ∷ codes "--boots" ∷ codes "booti" ∷ codes "--boots=bootm" ∷ codes "--resets" ∷ codes "reset" ∷ []) ≡ []
unfolding clap_on_literals
session_boots = refl

pub boots_nowhere_else : faults (codes "fwenv" ∷ codes "check" ∷ codes "--boots" ∷ codes "booti" ∷ []) ≡ UnknownArgument ∷ []
unfolding clap_on_literals
boots_nowhere_else = refl

-- power-ons
pub boot_limited : faults (codes "fwenv" ∷ codes "boot" ∷ codes "--board" ∷ codes "f" ∷ codes "--stored" ∷ codes "5" ∷ codes "--ways=9" ∷ codes "--copy" ∷ codes "1" ∷ codes "--boots=a" ∷ codes "--boots=b" ∷ []) ≡ []
unfolding clap_on_literals
boot_limited = refl

pub boot_drawn : faults (codes "fwenv" ∷ codes "boot" ∷ codes "--dot" ∷ codes "--board=f" ∷ []) ≡ []
unfolding clap_on_literals
boot_drawn = refl

pub boot_counted : faults (codes "fwenv" ∷ codes "boot" ∷ codes "--bootcount" ∷ codes "--after" ∷ codes "a" ∷ codes "--after=b" ∷ []) ≡ []
unfolding clap_on_literals
boot_counted = refl

pub no_write_of_a_boot : faults (codes "fwenv" ∷ codes "boot" ∷ codes "--write" ∷ []) ≡ UnknownArgument ∷ []
unfolding clap_on_literals
no_write_of_a_boot = refl

pub ways_nowhere_else : faults (codes "fwenv" ∷ codes "run" ∷ codes "--ways" ∷ codes "5" ∷ codes "a" ∷ []) ≡ UnknownArgument ∷ []
unfolding clap_on_literals
ways_nowhere_else = refl

-- the name that the program is called by, and the subcommand after it
pub link_named : name_in (codes "/usr/bin/fw_printenv" ∷ codes "export" ∷ []) ≡ Printenv
link_named = refl

pub subcommand_first : name_in (codes "bin/fwenv" ∷ codes "export" ∷ codes "run" ∷ []) ≡ FwenvWith sub.Export
subcommand_first = refl

pub option_first : name_in (codes "fwenv" ∷ codes "--big-endian" ∷ codes "export" ∷ []) ≡ Fwenv
option_first = refl

-- an option that is given twice, to another tool and to fwenv
pub last_counts : option_map (λ c. first_of (codes "config") c.1) (called_by (codes "fw_printenv" ∷ codes "-c" ∷ codes "one" ∷ codes "--config=two" ∷ [])) ≡ Some (Some (codes "two"))
unfolding clap_on_literals
last_counts = refl

pub twice_in_another_tool : faults (codes "fw_printenv" ∷ codes "-c" ∷ codes "one" ∷ codes "-n" ∷ codes "-n" ∷ codes "-c" ∷ codes "two" ∷ []) ≡ []
unfolding clap_on_literals
twice_in_another_tool = refl

pub twice_in_fwenv : faults (codes "fwenv" ∷ codes "printenv" ∷ codes "-c" ∷ codes "one" ∷ codes "-c" ∷ codes "two" ∷ []) ≡ ArgumentConflict ∷ []
unfolding clap_on_literals
twice_in_fwenv = refl

-- the sizes of an image in memory
pub size_with_0x : size_in (codes "0x4000") ≡ Some 16384
size_with_0x = refl

pub size_without : size_in (codes "4000") ≡ Some 16384
size_without = refl

pub least_size : size_in (codes "8") ≡ Some 8
least_size = refl

pub below_the_least : size_in (codes "0x7") ≡ None
below_the_least = refl

pub greatest_size : size_in (codes "0x100000") ≡ Some 1048576
greatest_size = refl

pub above_the_greatest : size_in (codes "0x100001") ≡ None
above_the_greatest = refl

pub no_size : size_in (codes "4k") ≡ None
no_size = refl

-- numbers
pub largest_depth : number_in 16 (codes "0016") ≡ Some 16
largest_depth = refl

pub past_the_limit : number_in 16 (codes "17") ≡ None
past_the_limit = refl

pub no_digit : number_in 16 [] ≡ None
no_digit = refl

pub sign : number_in 16 (codes "+1") ≡ None
sign = refl
