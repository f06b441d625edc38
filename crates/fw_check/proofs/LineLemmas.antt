-- Texts that are appended one after the other.
use Rattle.std.proofs.Common.{◌≡◌, ℕ, List, ◌++◌, ap, append_assoc, ◌∙◌}

-- the second of them in three parts
pub three_more : (old one two three a x y z c : List ℕ) → one ≡ old ++ a → two ≡ ((one ++ x) ++ y) ++ z → three ≡ two ++ c → three ≡ old ++ ((a ++ ((x ++ y) ++ z)) ++ c)
three_more old one two three a x y z c p q r =
    let s = (x ++ y) ++ z in
    let whole = q ∙ ap (λ (t : List ℕ). t ++ z) (append_assoc one x y) ∙ append_assoc one (x ++ y) z in
    r ∙ ap (λ (t : List ℕ). t ++ c) (whole ∙ ap (λ (t : List ℕ). t ++ s) p ∙ append_assoc old a s) ∙ append_assoc old (a ++ s) c
