use Rattle.std.proofs.Common.{Bor, List, Option, option_map, subst, sym, ℕ}
use Rattle.std.specs.Prelude.{IfOk}
use Rattle.std.proofs.lemmas.Result.{IfOk-weaker}
use Rattle.fw_files.specs.Files.{AreStubsOf}
use Rattle.fw_files.proofs.FileLemmas.{no_stand_ins}
use Rattle.fw_files.proofs.files.read_stand_ins.Goals as goal

pub returns-in-None : goal.returns-in-None
returns-in-None g c =
    subst (λ (p : Option (Bor (List ℕ))). IfOk c.stand_ins_from.result (AreStubsOf (g.X.System.holds c.args.rt.now) (option_map (λ b. b.now) p))) (sym c.in-None.is)
    (IfOk-weaker c.stand_ins_from.result _ _ (λ stand_ins is. no_stand_ins stand_ins is) c.stand_ins_from.ensures)

pub returns-in-Some : goal.returns-in-Some
returns-in-Some g c = subst (λ (p : Option (Bor (List ℕ))). IfOk c.read_stand_in_file.result (AreStubsOf (g.X.System.holds c.args.rt.now) (option_map (λ b. b.now) p))) (sym c.in-Some.is) c.read_stand_in_file.ensures
