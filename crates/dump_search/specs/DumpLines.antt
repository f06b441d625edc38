-- What is printed of a dump: lines of a configuration (docs/tools.md, "Environments in a dump").
use Rattle.std.specs.Prelude.{ℕ, List, [], ◌∷◌, ◌++◌, codes}
use Rattle.std.specs.List.{concat, flat_map}
use Rattle.std.specs.Fmt.{decimal}
use Rattle.hush_calc.specs.Hexadecimal.{hexadecimal}
use Rattle.envimg_core.specs.declared.geometry.Layout.{Layout}
use Rattle.envimg_core.specs.declared.geometry.Layout.TheVariants.{Single, Redundant}
use Rattle.envimg_core.specs.declared.geometry.Order.{Order}
use Rattle.envimg_core.specs.declared.geometry.Order.TheVariants.{Little, Big}
use Rattle.dump_search.specs.Search.{environments}
use Rattle.dump_search.specs.declared.dump.Found.{Found}

abbrev pub order_words : Order → List ℕ
order_words Little = []
order_words Big = codes " with --big-endian"

abbrev pub single_words : (order : List ℕ) (variables : ℕ) → List ℕ
single_words order variables = concat (codes "# good as a single image" ∷ order ∷ codes ", " ∷ decimal variables ∷ codes " variables\n" ∷ [])

abbrev pub flagged_words : (order : List ℕ) (flag variables : ℕ) → List ℕ
flagged_words order flag variables =
    concat (codes "# good as a copy with a flag" ∷ order ∷ codes ", flag " ∷ decimal flag ∷ codes ", " ∷ decimal variables ∷ codes " variables\n" ∷ [])

abbrev pub words_by : Layout → (order : List ℕ) (flag variables : ℕ) → List ℕ
words_by Single order flag variables = single_words order variables
words_by Redundant order flag variables = flagged_words order flag variables

-- what an environment is, as a comment
abbrev pub comment_of : Found → List ℕ
comment_of found = words_by found.geometry.layout (order_words found.geometry.order) found.flag found.variables

-- where it is: a device, an offset and a size
abbrev pub config_line : List ℕ → Found → List ℕ
config_line path found =
    concat (path ∷ codes " 0x" ∷ hexadecimal found.start ∷ codes " 0x" ∷ hexadecimal found.geometry.size ∷ codes "\n" ∷ [])

abbrev pub found_lines : List ℕ → Found → List ℕ
found_lines path found = comment_of found ++ config_line path found

-- a text and an exit status
pub record DumpReport : Type 0 where
  pub text : List ℕ
  pub status : ℕ

-- the lines of each environment, or that there is none
abbrev pub report_on : List ℕ → List Found → DumpReport
report_on path [] = record { text = concat (codes "# no environment in " ∷ path ∷ codes "\n" ∷ []); status = 1 }
report_on path (found ∷ others) = record { text = flat_map (found_lines path) (found ∷ others); status = 0 }

-- what is printed of a dump, and the status: 0 if it has an environment
abbrev pub dump_report : List ℕ → List ℕ → DumpReport
dump_report path dump = report_on path (environments dump)
