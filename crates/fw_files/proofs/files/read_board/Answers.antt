use Rattle.std.proofs.Common.{Bor, List, Option, option_map, subst, sym, ℕ}
use Rattle.std.specs.Prelude.{IfOk}
use Rattle.fw_files.specs.Files.{AreRulesOf}
use Rattle.fw_files.proofs.files.read_board.Goals as goal

pub returns-in-None : goal.returns-in-None
returns-in-None g c =
    subst (λ (p : Option (Bor (List ℕ))). AreRulesOf (g.X.System.holds c.args.rt.now) c.args.may_ask (option_map (λ b. b.now) p) c.none.result) (sym c.in-None.is) c.none.ensures

pub returns-in-Some : goal.returns-in-Some
returns-in-Some g c = subst (λ (p : Option (Bor (List ℕ))). IfOk c.read_board_file.result (AreRulesOf (g.X.System.holds c.args.rt.now) c.args.may_ask (option_map (λ b. b.now) p))) (sym c.in-Some.is) c.read_board_file.ensures
