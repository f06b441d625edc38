use Rattle.std.proofs.Common.{◌≡◌, ◌++◌, ap, codes, sym, ◌∙◌}
use Rattle.fw_engines.specs.CopyStatus.{copy_line, copy_lines, is_first}
use Rattle.fw_engines.proofs.PartLemmas.{then_ok, two_parts}
use Rattle.fw_engines.proofs.copy_status.push_copies.Goals as goal

pub returns-in_ok-push_copy-in-Some : goal.returns-in_ok-push_copy-in-Some
returns-in_ok-push_copy-in-Some c =
    let old = c.args.text.now.items in
    let mid = c.push_copy-in-Some.new.text.items in
    let new = c.push_copy-in-Some-2.new.text.items in
    let shape = c.args.geometry.now in
    let one = codes "first copy   " in
    let two = codes "second copy  " in
    let p : mid ≡ old ++ copy_line one shape (is_first c.args.current) c.args.first.now =
    c.in_ok-push_copy-in-Some.ensures ∙ ap (λ b. old ++ copy_line one shape b c.args.first.now) c.is_first.ensures in
    then_ok c.push_copy-in-Some-2.result (new ≡ mid ++ copy_line two shape c.is_second.result c.in-Some.second) (new ≡ old ++ copy_lines shape c.args.current c.args.first.now c.args.second.now)
    (λ q. two_parts old mid new _ _ p (q ∙ ap (λ b. mid ++ copy_line two shape b c.in-Some.second) c.is_second.ensures)
    ∙ ap (λ o. old ++ copy_lines shape c.args.current c.args.first.now o) (sym c.in-Some.is))
    c.push_copy-in-Some-2.ensures
