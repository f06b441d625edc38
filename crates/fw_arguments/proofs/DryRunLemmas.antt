-- The numbers and options of a dry run, put together.
use Rattle.std.proofs.Common.{◌≡◌, ℕ, List, Some, None, ap, ◌∙◌, ◌++◌, codes}
use Rattle.std.specs.Prelude.{Ok, Err}
use Rattle.clap.specs.Words.{Row, Text}
use Rattle.run_limits.specs.Limits.{bounds}
use Rattle.fw_arguments.specs.DryRuns.{and_then, depth_of, limits_of, number_in, output_of, steps_of, word_of}
use Rattle.fw_arguments.specs.Values.{value_or}
use Rattle.hush_commands.specs.declared.shell.Shell.{Shell}

pub number_found : (why : Text) (most n : ℕ) (word word' : Text) → word ≡ word' → Some n ≡ number_in most word → Ok n ≡ value_or why word' (number_in most word')
number_found why most n word word' is found = ap (value_or why word') (found ∙ ap (number_in most) is)

pub number_wrong : (why : Text) (most : ℕ) (word word' : Text) → word ≡ word' → None ≡ number_in most word → Err (codes "error: invalid value '" ++ word ++ why) ≡ value_or why word' (number_in most word')
number_wrong why most word word' is none = ap (λ w. Err (codes "error: invalid value '" ++ w ++ why)) is ∙ ap (value_or why word') (none ∙ ap (number_in most) is)

pub steps_wrong : (shell : Shell) (rows : List Row) (text : Text) → Err text ≡ steps_of rows → Err text ≡ limits_of shell rows
steps_wrong shell rows text p = λ i. and_then (p i) (λ steps. and_then (depth_of shell rows) (λ depth. and_then (word_of rows) (λ word. and_then (output_of rows) (λ output. Ok (bounds steps depth word output)))))

pub depth_wrong : (shell : Shell) (rows : List Row) (steps : ℕ) (text : Text) → Ok steps ≡ steps_of rows → Err text ≡ depth_of shell rows → Err text ≡ limits_of shell rows
depth_wrong shell rows steps text p q = λ i. and_then (p i) (λ steps. and_then (q i) (λ depth. and_then (word_of rows) (λ word. and_then (output_of rows) (λ output. Ok (bounds steps depth word output)))))

pub word_wrong : (shell : Shell) (rows : List Row) (steps depth : ℕ) (text : Text) → Ok steps ≡ steps_of rows → Ok depth ≡ depth_of shell rows → Err text ≡ word_of rows → Err text ≡ limits_of shell rows
word_wrong shell rows steps depth text p q r = λ i. and_then (p i) (λ steps. and_then (q i) (λ depth. and_then (r i) (λ word. and_then (output_of rows) (λ output. Ok (bounds steps depth word output)))))

pub output_wrong : (shell : Shell) (rows : List Row) (steps depth word : ℕ) (text : Text) → Ok steps ≡ steps_of rows → Ok depth ≡ depth_of shell rows → Ok word ≡ word_of rows → Err text ≡ output_of rows → Err text ≡ limits_of shell rows
output_wrong shell rows steps depth word text p q r s = λ i. and_then (p i) (λ steps. and_then (q i) (λ depth. and_then (r i) (λ word. and_then (s i) (λ output. Ok (bounds steps depth word output)))))

pub limits_found : (shell : Shell) (rows : List Row) (steps depth word output : ℕ) → Ok steps ≡ steps_of rows → Ok depth ≡ depth_of shell rows → Ok word ≡ word_of rows → Ok output ≡ output_of rows → Ok (bounds steps depth word output) ≡ limits_of shell rows
limits_found shell rows steps depth word output p q r s = λ i. and_then (p i) (λ steps. and_then (q i) (λ depth. and_then (r i) (λ word. and_then (s i) (λ output. Ok (bounds steps depth word output)))))
