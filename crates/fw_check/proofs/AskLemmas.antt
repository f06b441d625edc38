-- The arguments of `run` that are asked for.
use Rattle.std.proofs.Common.{◌≡◌, ◌-◌, Bool, true, false, List, map, length, take, refl, sym, ap, ◌∙◌, if◌then◌else◌}
use Rattle.std.proofs.lemmas.List.{length-map, take-map}

pub mapped-if : {X Y : Type 0} (f : X → Y) (b : Bool) (xs : List X) →
    map f (if b then xs else take (length xs - 1) xs) ≡ (if b then map f xs else take (length (map f xs) - 1) (map f xs))
mapped-if f true xs = refl
mapped-if f false xs = sym (take-map f (length xs - 1) xs) ∙ ap (λ n. take (n - 1) (map f xs)) (sym (length-map xs f))
