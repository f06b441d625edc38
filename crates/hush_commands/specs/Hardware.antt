-- What a board answers a call with (docs/runs.md, "Boards").
use Rattle.std.specs.Prelude.{ℕ, suc, ◌==◌, nat_le, Bool, true, false, not, ◌&&◌, ◌||◌, if◌then◌else◌, List, [], ◌∷◌, codes, length, take, drop, decimal, Option, Some, None, option_map}
use Rattle.std.specs.Option.{option_or}
use Rattle.std.specs.List.{list_all}
use Rattle.std.specs.Str.{bytes_eq}
use Rattle.std.specs.Char.{is_ascii_digit}
use Rattle.std.specs.FinMap as names
use Rattle.envimg_core.specs.Environment.{Environment}
use Rattle.hush_commands.specs.declared.stand_ins.Role.{Role}
use Rattle.hush_commands.specs.declared.pattern.PatternWord.{PatternWord}
use Rattle.hush_commands.specs.declared.board_rules.Rule.{Rule}
use Rattle.hush_commands.specs.declared.board_rules.Reply.{Reply}
use Rattle.hush_commands.specs.declared.board_rules.Reply.TheVariants.{Status, Text, Lacks}
use Rattle.hush_commands.specs.Departures.{is_asking, leaving_with}
use Rattle.hush_commands.specs.Stubs.{Statuses}

-- a word of a pattern fits the word that it is; with a `*` each that begins with it
abbrev pub word_fits : PatternWord → List ℕ → Bool
word_fits w word = if w.begins then bytes_eq w.text (take (length w.text) word) else bytes_eq w.text word

-- further words of the call fit
abbrev pub pattern_fits : List PatternWord → (fields : List (List ℕ)) → Bool
pattern_fits [] fields = true
pattern_fits (w ∷ ws) [] = false
pattern_fits (w ∷ ws) (f ∷ fs) = word_fits w f && pattern_fits ws fs

-- a rule fits what its pattern fits; a whole one only a call without further words
abbrev pub rule_fits : Rule → (fields : List (List ℕ)) → Bool
rule_fits r fields = pattern_fits r.pattern fields && (not r.whole || length fields == length r.pattern)

-- the answer of the first rule that fits
abbrev pub ruled : List Rule → (fields : List (List ℕ)) → Option Reply
ruled [] fields = None
ruled (r ∷ rs) fields = if rule_fits r fields then Some r.reply else ruled rs fields

-- what stands in for hardware: the rules of a board in their order, and after these the stand-ins of names
pub record Hardware : Type 0 where
  pub rules : List Rule
  pub stubs : Statuses

abbrev pub hardware : List Rule → Statuses → Hardware
hardware rules stubs = record { rules = rules; stubs = stubs }

-- what a stand-in answers each call of its name
abbrev pub role_reply : Role → Reply
role_reply role = Status role.status role.leaves

-- the answer to a call of this name: that of the first rule that fits it and the words after it, else of the stand-in of
-- its name
abbrev pub answer_to : Hardware → (called : List ℕ) → (fields : List (List ℕ)) → Option Reply
answer_to h called fields = option_or (ruled h.rules (called ∷ drop 1 fields)) (option_map role_reply (names.get h.stubs called))

-- whether the file is there that the three words after the `-e` of a `test` name: the call `test -e` of these is answered
-- with status 0
abbrev pub is_success : Option Reply → Bool
is_success None = false
is_success (Some (Status status leaves)) = status == 0
is_success (Some (Text text)) = false
is_success (Some Lacks) = false

abbrev pub file_answer : Hardware → (words : List (List ℕ)) → Option Reply
file_answer h words = option_or (ruled h.rules (codes "test" ∷ codes "-e" ∷ take 3 words)) (option_map role_reply (names.get h.stubs (codes "test -e")))

abbrev pub is_there : Hardware → (words : List (List ℕ)) → Bool
is_there h words = is_success (file_answer h words)

-- whether an answer is open
abbrev pub is_open : Option Reply → Bool
is_open None = false
is_open (Some (Status status leaves)) = is_asking (leaving_with leaves status)
is_open (Some (Text text)) = false
is_open (Some Lacks) = false

-- of the words of a `test` the first `-e` whose answer is open, with the three after it
abbrev pub is_open_file : Hardware → (word : List ℕ) → (words : List (List ℕ)) → Bool
is_open_file h word words = bytes_eq word (codes "-e") && (nat_le 3 (length words) && is_open (file_answer h words))

unfoldable pub open_file : Hardware → (words : List (List ℕ)) → Option (List (List ℕ))
open_file h [] = None
open_file h (w ∷ ws) = if is_open_file h w ws then Some (take 4 (w ∷ ws)) else open_file h ws

-- the words of a call as the local variables `0`, `1`, `2` and so on
abbrev pub bound_from : ℕ → Environment → List (List ℕ) → Environment
bound_from n locals [] = locals
bound_from n locals (word ∷ words) = bound_from (suc n) (names.insert locals (decimal n) word) words

-- a name of digits alone
abbrev pub is_number : List ℕ → Bool
is_number name = list_all is_ascii_digit name

-- the words of an earlier call are gone: no other local variable has a number as its name
abbrev pub unnumbered : Environment → Environment
unnumbered locals = names.retain_keys locals (λ name. not (is_number name))

abbrev pub with_words : Environment → List (List ℕ) → Environment
with_words locals words = bound_from 0 (unnumbered locals) words
