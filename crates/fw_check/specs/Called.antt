-- Which command a first word calls, and what answers calls (docs/check.md).
use Rattle.std.specs.Prelude.{ℕ, Bool, false, List, [], Option, Some, None, option_map}
use Rattle.std.specs.List.{flat_map}
use Rattle.hush_words.specs.Words.{Atom}
use Rattle.hush_commands.specs.CommandNames.{name_among, stands_for}
use Rattle.hush_commands.specs.Hardware.{Hardware}
use Rattle.hush_commands.specs.declared.board_rules.Reply.{Reply}
use Rattle.hush_commands.specs.declared.board_rules.Reply.TheVariants.{Status, Text, Lacks}
use Rattle.hush_commands.specs.declared.shell.Shell.{Shell}
use Rattle.fw_check.specs.Literals.{literal_of}

-- by whose rules, with which hardware, if names of commands are looked up, and which names of variables the board's own
-- code sets
pub record Given : Type 0 where
  pub shell : Shell
  pub hardware : Option Hardware
  pub known : List (List ℕ)

abbrev pub given_with : Shell → Option Hardware → List (List ℕ) → Given
given_with shell hardware known = record { shell = shell; hardware = hardware; known = known }

-- the name that the shell finds by a word without a substitution
abbrev pub called_by : Given → List Atom → Option (List ℕ)
called_by given word = option_map (name_among given.shell given.hardware) (literal_of word)

-- the word after `env` stands for this name, of which a board needs so many bytes
abbrev pub is_after_env : Shell → (least : ℕ) → (name : List ℕ) → Option (List ℕ) → Bool
is_after_env shell least name None = false
is_after_env shell least name (Some word) = stands_for shell least name word

-- what is read in an answer that is a text
abbrev pub in_reply : {X : Type 0} → (read : List ℕ → List X) → Reply → List X
in_reply read (Status status leaves) = []
in_reply read (Text text) = read text
in_reply read Lacks = []

-- the same in those of all rules of a board
abbrev pub in_answers : {X : Type 0} → (read : List ℕ → List X) → Option Hardware → List X
in_answers read None = []
in_answers read (Some h) = flat_map (λ rule. in_reply read rule.reply) h.rules
