-- What the arguments of a subcommand ask for, put together.
use Rattle.std.proofs.Common.{◌≡◌, ◌++◌, ℕ, Bool, true, List, [], ◌∷◌, map, ap, sym, ◌∙◌, Option, Some, None, Bor, option_map, codes, refl}
use Rattle.std.specs.Prelude.{Ok, Err, if◌then◌else◌, unwrap_or}
use Rattle.std.proofs.lemmas.List.{map-append}
use Rattle.clap.specs.Words.{AddsAliases, Row, Rule, Text, first_of, rule_of}
use Rattle.clap.specs.declared.builder.arg.Arg.{Arg}
use Rattle.envimg_core.specs.declared.geometry.Order.{Order}
use Rattle.fw_arguments.specs.Calls.{Defaults, Job, defaults_of, LockFiles, is_client, job_of, locks_of, with_copy}
use Rattle.fw_arguments.specs.Checks.{file_alone, file_check_by, file_check_of, needs_environment, rules_of}
use Rattle.hush_commands.specs.declared.shell.Shell.{Shell}
use Rattle.fw_arguments.specs.DryRuns.{DryRun, GivenScript, and_then, run_within, script_of, script_within}
use Rattle.fw_arguments.specs.Values.{first_or, is_given}
use Rattle.run_limits.specs.Limits.{Bounds}
use Rattle.fw_arguments.specs.PowerOns.{scripts_of, with_ways}
use Rattle.fw_arguments.specs.Report.{Subject, asked_of, asked_once, in_order, report_of, subject_of}
use Rattle.fw_arguments.specs.StandardInput.{read_twice, reads_twice}
use Rattle.fw_arguments.specs.GivenTexts.{GivenText}
use Rattle.fw_arguments.specs.ImageRequests.{ImageRequest, both_alone, is_both_alone, request_by, request_in, size_of}
use Rattle.envimg_core.specs.declared.geometry.Layout.{Layout}
use Rattle.fw_arguments.specs.declared.wanted_copy.WantedCopy.{WantedCopy}
use Rattle.fw_arguments.specs.Words.{either_order, order_by, source_in}

pub text_or : (o : Option (Bor (List ℕ))) (other : Bor (List ℕ)) → (unwrap_or o other).now ≡ unwrap_or (option_map (λ s. s.now) o) other.now
text_or None other = refl
text_or (Some s) other = refl

-- an argument with one more long name
pub alias_rule : (old new : Arg) (alias : Bor (List ℕ)) (shown : Bool) (rule : Rule) → AddsAliases old new ((alias, shown) ∷ []) → rule_of old ≡ rule →
    rule_of new ≡ record rule { aliases = rule.aliases ++ alias.now ∷ [] }
alias_rule old new alias shown rule (same, more) is =
    ap rule_of same ∙ ap (λ (xs : List (Bor (List ℕ) × Bool)). record (rule_of old) { aliases = map (λ a. a.0.now) xs }) more
    ∙ ap (λ xs. record (rule_of old) { aliases = xs }) (map-append (λ (a : Bor (List ℕ) × Bool). a.0.now) old.aliases.items ((alias, shown) ∷ []))
    ∙ ap (λ (r : Rule). record r { aliases = r.aliases ++ alias.now ∷ [] }) is

pub with_copy_is : (order : Order) (name : Text) (rows : List Row) (image : Option ℕ) (copy : WantedCopy) (config : Text) (defaults : Defaults) (locks : LockFiles) (chosen : Order) (only over : Bool) (job : Job) →
    config ≡ first_or (codes "/etc/fw_env.config") (codes "config") rows → defaults ≡ defaults_of name rows → locks ≡ locks_of name rows →
    chosen ≡ either_order order (order_by (source_in (codes "big-endian") rows)) → only ≡ is_client name →
    over ≡ is_given (codes "overwrite") rows → Ok job ≡ job_of name rows →
    Ok (record { config = config; image = image; copy = copy; defaults = defaults; locks = locks; order = chosen; only_changes = only; overwrite = over; job = job }) ≡ with_copy order name rows image copy
with_copy_is order name rows image copy config defaults locks chosen only over job p q l r o w j =
    λ i. and_then (j i) (λ k. Ok (record { config = p i; image = image; copy = copy; defaults = q i; locks = l i; order = r i; only_changes = o i; overwrite = w i; job = k }))

-- the run of a script with what was found for it
pub script_is : (shell : Shell) (rows : List Row) (dry : DryRun) (limits : Bounds) (must_boot trace : Bool) (script : GivenScript) →
    Ok script ≡ script_of rows → dry ≡ run_within shell rows limits → must_boot ≡ is_given (codes "must_boot") rows → trace ≡ is_given (codes "trace") rows →
    Ok (record { dry = dry; must_boot = must_boot; trace = trace; script = script }) ≡ script_within shell rows limits
script_is shell rows dry limits must_boot trace script p d m t =
    λ i. and_then (p i) (λ k. Ok (record { dry = d i; must_boot = m i; trace = t i; script = k }))

-- power-ons with what was found for them
pub power_ons_are : (shell : Shell) (rows : List Row) (dry : DryRun) (limits : Bounds) (stored ways : ℕ) (dot counts cuts : Bool) (after : List Text) →
    Ok after ≡ scripts_of rows → dry ≡ run_within shell rows limits → dot ≡ is_given (codes "dot") rows → counts ≡ is_given (codes "bootcount") rows → cuts ≡ is_given (codes "cuts") rows →
    Ok (record { dry = dry; stored = stored; ways = ways; dot = dot; counts = counts; cuts = cuts; after = after }) ≡ with_ways shell rows limits stored ways
power_ons_are shell rows dry limits stored ways dot counts cuts after p d g n u =
    λ i. and_then (p i) (λ k. Ok (record { dry = d i; stored = stored; ways = ways; dot = g i; counts = n i; cuts = u i; after = k }))

pub report_is : (order chosen : Order) (rows : List Row) (subject : Subject) →
    chosen ≡ either_order order (order_by (source_in (codes "big-endian") rows)) → Ok subject ≡ subject_of rows → Ok (record { order = chosen; subject = subject }) ≡ report_of order rows
report_is order chosen rows subject p q = λ i. in_order (p i) (q i)

-- a check of scripts in files alone, if something is given that is of an environment
pub refused_file : (rows : List Row) (paths : List Text) (text : Text) → text ≡ file_alone → needs_environment rows ≡ true → Err text ≡ file_check_of paths rows
refused_file rows paths text is named =
    ap Err is ∙ ap (λ (b : Bool). if b then Err file_alone else and_then (rules_of rows) (λ rules. Ok (file_check_by paths rows rules))) (sym named)

-- ---- standard input and new images

pub twice_refused : (order : Order) (name text : Text) (rows : List Row) → text ≡ read_twice → reads_twice name rows ≡ true → Err text ≡ asked_of order name rows
twice_refused order name text rows is twice =
    ap Err is ∙ ap (λ (b : Bool). if b then Err read_twice else asked_once order name rows) (sym twice)

pub both_refused : (order : Order) (rows : List Row) (given : GivenText) (layout : Layout) (text : Text) → text ≡ both_alone → is_both_alone layout (is_given (codes "both") rows) ≡ true →
    Err text ≡ request_by order rows given layout
both_refused order rows given layout text is alone =
    ap Err is ∙ ap (λ (b : Bool). if b then Err both_alone else and_then (size_of rows layout) (λ size. Ok (request_in order rows given layout size))) (sym alone)

pub request_is : (order chosen : Order) (rows : List Row) (text : GivenText) (layout : Layout) (size : ℕ) (both : Bool) (output : Option Text) →
    chosen ≡ either_order order (order_by (source_in (codes "big-endian") rows)) → both ≡ is_given (codes "both") rows →
    output ≡ first_of (codes "output") rows →
    ◌≡◌ {A = ImageRequest} (record { text = text; layout = layout; size = size; order = chosen; both = both; output = output }) (request_in order rows text layout size)
request_is order chosen rows text layout size both output r b o =
    λ i. record { text = text; layout = layout; size = size; order = r i; both = b i; output = o i }
