-- What is done by the arguments that clap finds nothing wrong with, and what is answered to others.
use Rattle.std.proofs.Common.{inl, inr, ◌≡◌, ◌⊎◌, ◌≤◌, ℕ, List, [], length, Option, Some, None, true, refl, sym, ap, ◌∙◌, subst}
use Rattle.std.specs.Prelude.{Result}
use Rattle.std.proofs.lemmas.Bool.{leb-true}
use Rattle.clap.specs.Walk.{Row, Text}
use Rattle.clap.specs.declared.parser.matches.ArgMatches.{ArgMatches}
use Rattle.envimg_core.specs.declared.geometry.Order.{Order}
use Rattle.envimg_core.specs.declared.geometry.Order.TheVariants.{Little}
use Rattle.fw_arguments.specs.ProgramNames.{app_of_name, called_by, called_in, called_under, name_in, order_of, order_under}
use Rattle.fw_arguments.specs.Words.{order_in}
use Rattle.fw_arguments.specs.declared.program_name.ProgramName.{ProgramName}
use Rattle.fw_arguments.specs.declared.program_name.ProgramName.TheVariants.{Fwenv, FwenvWith, Printenv, Setenv}
use Rattle.clap.specs.Words.{HasKind, IsAmong, fault_of, kind_of}
use Rattle.clap.specs.declared.error.Error.{Error}
use Rattle.fw_arguments.proofs.WordLemmas.{alone_calls_nothing, alone_is_little, alone_is_right}
use Rattle.fw_tools.specs.Subcommands.{Called}
use Rattle.fw_files.specs.WrittenBack.{AreLeft, Devices}
use Rattle.fw_arguments.specs.Report.{Asked, asked_of}
use Rattle.fw_tools.specs.EntryPoint.{Does, LacksMemory, RepliesTo, Runs, ShowsAndSays, is_shown, refused_in, refused_status}
use Rattle.fw_engines.specs.Streams.{Streams, writers_of}
use Rattle.fw_files.specs.FileTexts.{Holds}

-- what is done by the matches is done by the arguments
pub done_by_words : (holds wrote : Holds) (refused refused' : ℕ) (order order' : Order) (tool tool' : Option (Text × List Row)) (devices : Devices) (old new : Streams) (status : ℕ) →
    Does holds wrote refused order tool devices old new status → refused ≡ refused' → order ≡ order' → tool ≡ tool' → Does holds wrote refused' order' tool' devices old new status
done_by_words holds wrote refused refused' order order' tool tool' devices old new status does same is calls =
    subst (λ t. Does holds wrote refused' order' t devices old new status) calls
    (subst (λ o. Does holds wrote refused' o tool devices old new status) is (subst (λ n. Does holds wrote n order tool devices old new status) same does))

-- so for no arguments but this name what is done is to show the image
pub alone_is_shown : (holds wrote : Holds) (words : List Text) (devices : Devices) (old new : Streams) (status : ℕ) → name_in words ≡ Fwenv → length words ≤ 1 → AreLeft devices →
    ShowsAndSays Little old new status → Runs holds wrote words devices old new status
alone_is_shown holds wrote words devices old new status is short untouched shows =
    inl (
      ap (λ n. fault_of (app_of_name n) words) is ∙ alone_is_right words short,
      done_by_words holds wrote (refused_in words) (refused_in words) Little (order_of words) None (called_by words) devices old new status (shows, untouched) refl
          (sym (ap (λ n. order_under n words) is ∙ alone_is_little words short)) (sym (ap (λ n. called_under n words) is ∙ alone_calls_nothing words short)),
    )

-- and what is done by the matches under a name is done by the arguments that begin with it
pub runs_by : (holds wrote : Holds) (refused : ℕ) (name : ProgramName) (words : List Text) (m : ArgMatches) (devices : Devices) (old new : Streams) (status : ℕ) → refused ≡ refused_status name words → name ≡ name_in words → fault_of (app_of_name name) words ≡ [] →
    order_in m ≡ order_under name words → called_in name m ≡ called_under name words → Does holds wrote refused (order_in m) (called_in name m) devices old new status → Runs holds wrote words devices old new status
runs_by holds wrote refused name words m devices old new status same is right order called does =
    inl (
      subst (λ n. fault_of (app_of_name n) words ≡ []) is right,
      done_by_words holds wrote refused (refused_in words) (order_in m) (order_of words) (called_in name m) (called_by words) devices old new status does (same ∙ ap (λ n. refused_status n words) is) (order ∙ ap (λ n. order_under n words) is)
          (called ∙ ap (λ n. called_under n words) is),
    )

-- what is reported of arguments under a name is reported of the arguments that begin with it
pub replies_by : (holds wrote : Holds) (refused : ℕ) (name : ProgramName) (words : List Text) (e : Error) (devices : Devices) (old new : Streams) (status : ℕ) → refused ≡ refused_status name words → name ≡ name_in words → HasKind (fault_of (app_of_name name) words) e →
    AreLeft devices → new.input ≡ old.input → LacksMemory refused (writers_of old) (writers_of new) status ⊎ RepliesTo refused (kind_of e) (writers_of old) (writers_of new) status → Runs holds wrote words devices old new status
replies_by holds wrote refused name words e devices old new status so is fails untouched same (inl lacks) = inr ((same, inl (subst (λ n. LacksMemory n (writers_of old) (writers_of new) status) (so ∙ ap (λ n. refused_status n words) is) lacks)), untouched)
replies_by holds wrote refused name words e devices old new status so is (inl lacks) untouched same (inr replies) =
    inr ((same, inl (subst (λ n. LacksMemory n (writers_of old) (writers_of new) status) (so ∙ ap (λ n. refused_status n words) is) (subst (λ k. RepliesTo refused k (writers_of old) (writers_of new) status) lacks replies))), untouched)
replies_by holds wrote refused name words e devices old new status so is (inr among) untouched same (inr replies) =
    inr (
      (
        same,
        inr (
          kind_of e,
          subst (λ n. IsAmong (kind_of e) (fault_of (app_of_name n) words)) is among,
          subst (λ n. RepliesTo n (kind_of e) (writers_of old) (writers_of new) status) (so ∙ ap (λ n. refused_status n words) is) replies,
        ),
      ),
      untouched,
    )

-- the name under which it is
pub shown_under : (name : ProgramName) (count : ℕ) → is_shown name count ≡ true → (name ≡ Fwenv) × (count ≤ 1)
shown_under Fwenv count shown = (refl, leb-true count 1 shown)
shown_under (FwenvWith s) count shown = absurd cc
shown_under Printenv count shown = absurd cc
shown_under Setenv count shown = absurd cc

-- what a call does is what its arguments do
pub called_does : (holds wrote : Holds) (refused : ℕ) (order : Order) (called : Option (Text × List Row)) (name : Text) (rows : List Row) (call : Result Asked Text) (devices : Devices) (old new : Streams) (status : ℕ) →
    called ≡ Some (name, rows) → call ≡ asked_of order name rows → Called holds wrote refused call devices old new status → Does holds wrote refused order called devices old new status
called_does holds wrote refused order called name rows call devices old new status is reads done =
    subst (λ k. Does holds wrote refused order k devices old new status) (sym is) (subst (λ r. Called holds wrote refused r devices old new status) reads done)
