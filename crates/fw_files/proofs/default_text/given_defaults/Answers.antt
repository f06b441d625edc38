use Rattle.std.proofs.Common.{Bor, List, Option, option_map, subst, sym, ℕ}
use Rattle.std.specs.Prelude.{IfOk}
use Rattle.fw_files.specs.Source.{AreDefaultsOfPath, kept_view}
use Rattle.fw_files.proofs.default_text.given_defaults.Goals as goal

pub returns-in-Some-clause-read : goal.returns-in-Some-clause-read
returns-in-Some-clause-read g c =
    subst (λ (p : Option (Bor (List ℕ))). IfOk c.read_default.result (λ read. AreDefaultsOfPath (g.X.System.holds c.args.rt.now) c.args.room (option_map (λ b. b.now) p) c.args.asked.now.form (kept_view read.text) read.vars)) (sym c.in-Some.is) c.read_default.ensures
