-- What the arguments choose.
use Rattle.std.proofs.Common.{arith, ◌≡◌, ◌≤◌, ◌<◌, ◌+◌, ◌||◌, ℕ, zero, suc, drop, take, map, get_or, Bool, Bor, List, [], ◌∷◌, length, Option, Some, None, option_map, true, false, refl, sym, ap, ap₂, ◌∙◌, subst}
use Rattle.std.specs.Prelude.{if◌then◌else◌, unwrap_or, codes, find, option_and_then}
use native.Mathlib.Numerals.{unary_clauses}
use Rattle.std.specs.List.{fold}
use Rattle.std.proofs.lemmas.List.{map-append, take_more}
use Rattle.std.proofs.lemmas.List.Sums.{fold-append}
use Rattle.std.specs.Str.{bytes_eq}
use Rattle.clap.proofs.OnLiterals.{clap_on_literals}
use Rattle.clap.proofs.WalkLemmas.{find_row}
use Rattle.clap.specs.Facts.{Entry}
use Rattle.clap.specs.Matches.{found_of, matched_of, subcommand_name_of}
use Rattle.clap.specs.Simple.{subcommand_rows}
use Rattle.clap.specs.declared.parser.matches.ArgMatches.TheViews.{out-ArgMatches, out-SubCommand}
use Rattle.std.specs.Box.{box_value}
use Rattle.clap.specs.Simple.{App, HasMatchesOf, is_simple}
use Rattle.clap.specs.Walk.{Row, Rule, Text, row_of, rows_of, rule_of}
use Rattle.clap.specs.declared.parser.matches.ArgMatches.{ArgMatches}
use Rattle.clap.specs.declared.parser.matches.Found.{Found}
use Rattle.envimg_core.specs.declared.geometry.Order.TheVariants.{Little}
use Rattle.fw_arguments.specs.ProgramNames.{app_of_name, called_in, called_under, order_under}
use Rattle.fw_arguments.specs.Words.{IsTool, fwenv, order_by, order_in, source_in}
use Rattle.fw_arguments.specs.declared.program_name.ProgramName.{ProgramName}
use Rattle.fw_arguments.specs.declared.program_name.ProgramName.TheVariants.{Fwenv, FwenvWith, Printenv, Setenv}
use Rattle.fw_arguments.specs.declared.program_name.Subcommand.TheVariants as sub
use Rattle.clap.specs.declared.builder.arg.Arg.{Arg}
use Rattle.clap.specs.declared.builder.command.Command.{Command}
use Rattle.clap.specs.Words.{AddsArg, AddsSubcommand, app_of, fault_of, is_simple_and_free, matches_of, subcommand_of, subcommand_rows_of, with_rule, with_subcommand}

pub source_found : (f : Found) (id : Text) → option_and_then (λ a. a.source) (matched_of f id) ≡ source_in id (rows_of f)
source_found f id = of_entry (find (λ e. bytes_eq e.0.now id) f.entries.items) ∙ sym (ap (option_and_then (λ r. r.source)) (find_row f.entries.items id))
  where
    of_entry : (o : Option Entry) → option_and_then (λ a. a.source) (option_map (λ e. e.1) o) ≡ option_and_then (λ r. r.source) (option_map row_of o)
    of_entry None = refl
    of_entry (Some e) = refl

-- the byte order that matches choose, by their rows
pub order_by_rows : (m : ArgMatches) → order_in m ≡ order_by (source_in (codes "big-endian") (rows_of (found_of m)))
order_by_rows m = ap order_by (source_found (found_of m) (codes "big-endian"))

app_simple : (name : ProgramName) → is_simple (app_of_name name) ≡ true
unfolding clap_on_literals
app_simple Fwenv = refl
app_simple (FwenvWith sub.Printenv) = refl
app_simple (FwenvWith sub.Setenv) = refl
app_simple (FwenvWith sub.Import) = refl
app_simple (FwenvWith sub.Export) = refl
app_simple (FwenvWith sub.Restore) = refl
app_simple (FwenvWith sub.Status) = refl
app_simple (FwenvWith sub.Find) = refl
app_simple (FwenvWith sub.Image) = refl
app_simple (FwenvWith sub.Run) = refl
app_simple (FwenvWith sub.Boot) = refl
app_simple (FwenvWith sub.Check) = refl
app_simple (FwenvWith sub.Session) = refl
app_simple Printenv = refl
app_simple Setenv = refl

pub app_free : (name : ProgramName) → is_simple_and_free (app_of_name name) ≡ true
unfolding clap_on_literals
app_free Fwenv = refl
app_free (FwenvWith sub.Printenv) = refl
app_free (FwenvWith sub.Setenv) = refl
app_free (FwenvWith sub.Import) = refl
app_free (FwenvWith sub.Export) = refl
app_free (FwenvWith sub.Restore) = refl
app_free (FwenvWith sub.Status) = refl
app_free (FwenvWith sub.Find) = refl
app_free (FwenvWith sub.Image) = refl
app_free (FwenvWith sub.Run) = refl
app_free (FwenvWith sub.Boot) = refl
app_free (FwenvWith sub.Check) = refl
app_free (FwenvWith sub.Session) = refl
app_free Printenv = refl
app_free Setenv = refl

-- the byte order by the matches is that by the arguments
pub order_chosen : (name : ProgramName) (app : App) (words : List Text) (m : ArgMatches) → app ≡ app_of_name name → HasMatchesOf app words m →
    order_in m ≡ order_under name words
order_chosen name app words m is has =
    let of_name : HasMatchesOf (app_of_name name) words m = subst (λ a. HasMatchesOf a words m) is has in
    ap order_by (source_found (found_of m) (codes "big-endian") ∙ ap (source_in (codes "big-endian")) (of_name (app_simple name)).0)

-- and so is the subcommand that is called
called_there : (name : ProgramName) (words : List Text) (m : ArgMatches) → rows_of (found_of m) ≡ matches_of (app_of_name name) words →
    subcommand_rows_of m ≡ subcommand_of (app_of_name name) words → called_in name m ≡ called_under name words
called_there Fwenv words m rows sub = sub
called_there (FwenvWith s) words m rows sub = sub
called_there Printenv words m rows sub = λ i. Some (codes "fw_printenv", rows i)
called_there Setenv words m rows sub = λ i. Some (codes "fw_setenv", rows i)

pub tool_called : (name : ProgramName) (app : App) (words : List Text) (m : ArgMatches) → app ≡ app_of_name name → HasMatchesOf app words m →
    called_in name m ≡ called_under name words
tool_called name app words m is has =
    let of_name : HasMatchesOf (app_of_name name) words m = subst (λ a. HasMatchesOf a words m) is has in
    called_there name words m (of_name (app_simple name)).0 (of_name (app_simple name)).1

pub neither : (x y : Bool) → x ≡ false → y ≡ false → (x || y) ≡ false
neither x y p q = λ i. p i || q i

-- one more argument, and one more subcommand
pub with_one_more : (app : App) (rule : Rule) (old new : Command) (a : Arg) → IsTool app old → AddsArg old a new → rule_of a ≡ rule → a.global ≡ false → IsTool (with_rule app rule) new
with_one_more app rule old new a is adds same local =
    (adds.shape local ∙ ap₂ with_rule is.0 same, adds.globals ∙ neither _ _ is.1 local)

pub with_tool : (app tool : App) (old sub new : Command) → app_of old ≡ app → IsTool tool sub → AddsSubcommand old sub new → app_of new ≡ with_subcommand app tool.top
with_tool app tool old sub new before is adds = adds.shape is.1 ∙ (λ i. with_subcommand (before i) (is.0 i).top)

-- clap finds nothing wrong with only the program's own name, or with no argument; no subcommand is called, no byte
-- order chosen
pub alone_is_right : (words : List Text) → length words ≤ 1 → fault_of fwenv words ≡ []
unfolding clap_on_literals
alone_is_right [] short = refl
alone_is_right (w ∷ []) short = refl
alone_is_right (w ∷ v ∷ ws) short = absurd (omega (arith, short))

pub alone_is_little : (words : List Text) → length words ≤ 1 → order_under Fwenv words ≡ Little
unfolding clap_on_literals
alone_is_little [] short = refl
alone_is_little (w ∷ []) short = refl
alone_is_little (w ∷ v ∷ ws) short = absurd (omega (arith, short))

pub alone_calls_nothing : (words : List Text) → length words ≤ 1 → subcommand_of fwenv words ≡ None
unfolding clap_on_literals
alone_calls_nothing [] short = refl
alone_calls_nothing (w ∷ []) short = refl
alone_calls_nothing (w ∷ v ∷ ws) short = absurd (omega (arith, short))

-- the subcommand of matches is there with its rows
pair_there : {T A B : Type 0} (o : Option T) (f : T → A × B) (a : A) (b : B) → Some a ≡ option_map (λ t. (f t).0) o → Some b ≡ option_map (λ p. p.1) (option_map f o) → option_map f o ≡ Some (a, b)
pair_there None f a b p q = absurd (no p)
  where
    no : Some a ≡ None → ⊥
    no e = cc
pair_there (Some t) f a b p q = λ i. Some (sym (ap (λ o. unwrap_or o a) p) i, sym (ap (λ o. unwrap_or o b) q) i)

none_there : {T A B : Type 0} (o : Option T) (f : T → A × B) → None ≡ option_map (λ t. (f t).0) o → None ≡ option_map f o
none_there None f p = refl
none_there (Some t) f p = absurd (no p)
  where
    no : None ≡ Some (f t).0 → ⊥
    no e = cc

called_is : (m : ArgMatches) (name : Text) (rows : List Row) → Some name ≡ subcommand_name_of m → Some rows ≡ option_map (λ p. p.1) (subcommand_rows (out-ArgMatches m).subcommand) → subcommand_rows_of m ≡ Some (name, rows)
called_is m name rows is has = pair_there (out-ArgMatches m).subcommand (λ b. ((out-SubCommand (box_value b)).name.now, rows_of (found_of (out-SubCommand (box_value b)).matches))) name rows is has

-- the subcommand of matches in the code's form
pub called_found : (m : ArgMatches) (o : Option (Bor Text × Bor ArgMatches)) → option_map (λ p. p.0.now) o ≡ subcommand_name_of m →
    option_map (λ p. rows_of (found_of p.1.now)) o ≡ option_map (λ p. p.1) (subcommand_rows (out-ArgMatches m).subcommand) →
    option_map (λ p. (p.0.now, rows_of (found_of p.1.now))) o ≡ subcommand_rows_of m
called_found m None name rows =
    none_there (out-ArgMatches m).subcommand (λ b. ((out-SubCommand (box_value b)).name.now, rows_of (found_of (out-SubCommand (box_value b)).matches))) name
called_found m (Some p) name rows = sym (called_is m p.0.now (rows_of (found_of p.1.now)) name rows)

-- one step of a search, and of a fold
pub find_next : {X : Type 0} (p : X → Bool) (xs : List X) (i : ℕ) (d : X) → i < length xs →
    find p (drop i xs) ≡ (if p (get_or xs i d) then Some (get_or xs i d) else find p (drop (i + 1) xs))
find_next p [] i d bound = absurd (omega (arith, bound))
find_next p (x ∷ xs) zero d bound = refl
find_next p (x ∷ xs) (suc i) d bound = let h = find_next p xs i d (omega (arith, bound)) in simp unary_clauses (simp unary_clauses at h)

pub fold_more : {A B X : Type 0} (f : B → A → B) (g : X → A) (a : B) (xs : List X) (i : ℕ) (d : X) → i < length xs →
    fold f a (map g (take (i + 1) xs)) ≡ f (fold f a (map g (take i xs))) (g (get_or xs i d))
fold_more f g a xs i d bound =
    ap (λ ys. fold f a (map g ys)) (take_more xs i d bound) ∙ ap (fold f a) (map-append g (take i xs) (get_or xs i d ∷ []))
    ∙ fold-append f a (map g (take i xs)) (g (get_or xs i d) ∷ [])
