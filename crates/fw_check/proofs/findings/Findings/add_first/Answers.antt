use Rattle.std.proofs.Common.{◌≡◌, ℕ, List, [], ◌∷◌, ◌++◌, ap, sym, subst, append-nil, ◌∙◌}
use Rattle.memchr.specs.Find.{IsFirstByte, is_byte}
use Rattle.fw_check.specs.ReportLines.{found_at}
use Rattle.fw_check.specs.Findings.{first_findings}
use Rattle.fw_check.specs.Found.{Found, found_more}
use Rattle.fw_check.proofs.FoundLemmas.{first-found, first-none, found-none, ok-then}
use Rattle.fw_check.proofs.findings.Findings.add_first.Goals as goal

pub returns-in-Some : goal.returns-in-Some
returns-in-Some c =
    let a = c.args in
    let text = c.self.inside.source.now in
    let found = first-found a.byte a.kind a.sentence.now text c.in-Some.count (subst (IsFirstByte (is_byte a.byte) text) c.in-Some.is c.memchr.ensures) in
    let same = ap (λ (f : Found). first_findings a.byte a.kind a.sentence.now f.text) c.self.view_is in
    let whole = append-nil (a.sentence.now ++ []) ∙ append-nil a.sentence.now in
    ok-then c.add.result (c.add.new.self ≡ found_more a.self.now (found_at c.in-Some.count a.kind (a.sentence.now ++ [] ++ []) ∷ [])) _
    (λ e. e ∙ ap (λ (t : List ℕ). found_more a.self.now (found_at c.in-Some.count a.kind t ∷ [])) whole ∙ ap (found_more a.self.now) (sym found ∙ same)) c.add.ensures

pub returns-in-None : goal.returns-in-None
returns-in-None c =
    let a = c.args in
    let text = c.self.inside.source.now in
    let none = first-none a.byte a.kind a.sentence.now text (subst (IsFirstByte (is_byte a.byte) text) c.in-None.is c.memchr.ensures) in
    let same = ap (λ (f : Found). first_findings a.byte a.kind a.sentence.now f.text) c.self.view_is in
    sym (found-none a.self.now) ∙ ap (found_more a.self.now) (sym none ∙ same)
