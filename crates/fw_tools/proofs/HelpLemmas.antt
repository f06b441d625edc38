-- What is answered if the help breaks off.
use Rattle.std.proofs.Common.{ℕ}
use Rattle.std.specs.Prelude.{◌≢◌}
use Rattle.clap.specs.declared.error.kind.ErrorKind.{ErrorKind}
use Rattle.clap.specs.declared.error.kind.ErrorKind.TheVariants.{DisplayHelp, DisplayVersion, InvalidValue, UnknownArgument, InvalidSubcommand, NoEquals, ValueValidation, TooManyValues, TooFewValues, WrongNumberOfValues, ArgumentConflict, MissingRequiredArgument, MissingSubcommand, DisplayHelpOnMissingArgumentOrSubcommand, Io, Format, OutOfMemory}
use Rattle.fw_tools.specs.EntryPoint.{RepliesTo, Helps}
use Rattle.fw_engines.specs.Streams.{Writers}

-- what doesn't go to standard error is the help or the version
pub helped : (refused : ℕ) (kind : ErrorKind) (old new : Writers) (status : ℕ) → ((kind ≢ DisplayHelp) × (kind ≢ DisplayVersion) → ⊥) → Helps refused old new status → RepliesTo refused kind old new status
helped refused DisplayHelp old new status is h = h
helped refused DisplayVersion old new status is h = h
helped refused InvalidValue old new status is h = absurd (is ((λ e. cc), (λ e. cc)))
helped refused UnknownArgument old new status is h = absurd (is ((λ e. cc), (λ e. cc)))
helped refused InvalidSubcommand old new status is h = absurd (is ((λ e. cc), (λ e. cc)))
helped refused NoEquals old new status is h = absurd (is ((λ e. cc), (λ e. cc)))
helped refused ValueValidation old new status is h = absurd (is ((λ e. cc), (λ e. cc)))
helped refused TooManyValues old new status is h = absurd (is ((λ e. cc), (λ e. cc)))
helped refused TooFewValues old new status is h = absurd (is ((λ e. cc), (λ e. cc)))
helped refused WrongNumberOfValues old new status is h = absurd (is ((λ e. cc), (λ e. cc)))
helped refused ArgumentConflict old new status is h = absurd (is ((λ e. cc), (λ e. cc)))
helped refused MissingRequiredArgument old new status is h = absurd (is ((λ e. cc), (λ e. cc)))
helped refused MissingSubcommand old new status is h = absurd (is ((λ e. cc), (λ e. cc)))
helped refused DisplayHelpOnMissingArgumentOrSubcommand old new status is h = absurd (is ((λ e. cc), (λ e. cc)))
helped refused Io old new status is h = absurd (is ((λ e. cc), (λ e. cc)))
helped refused Format old new status is h = absurd (is ((λ e. cc), (λ e. cc)))
helped refused OutOfMemory old new status is h = absurd (is ((λ e. cc), (λ e. cc)))
