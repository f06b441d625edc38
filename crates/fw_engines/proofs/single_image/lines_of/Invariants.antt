use Rattle.std.proofs.Common.{◌≡◌, ◌++◌, [], ◌∷◌}
use Rattle.std.specs.List.{flat_map}
use Rattle.envimg_core.specs.Pieces.{entries_of, vars_of}
use Rattle.fw_engines.specs.Shown.{listing}
use Rattle.fw_engines.proofs.single_image.lines_of.Given as goal

abbrev pub invariant-loop-line : goal.invariant-loop-line
invariant-loop-line l = l.text.items ++ flat_map (λ x. x ++ 10 ∷ []) l.line-iterator ≡ listing (vars_of (entries_of l.area))
