-- How far the checksum of a copy's data area has come.
use Rattle.std.specs.Prelude.{ℕ, ◌≤◌, List, take, drop}
use Rattle.envimg_core.specs.Digest.{HasTaken}
use Rattle.envimg_core.specs.Geometry.{head}
use Rattle.envimg_core.specs.declared.geometry.Layout.{Layout}
use Rattle.dump_search.specs.declared.area_sum.AreaSum.{AreaSum}

-- it is that of what lies between the head of a copy that bytes begin with and the place to which it has come
abbrev pub IsSumOf : AreaSum → Layout → List ℕ → Type 0
IsSumOf sum layout bytes = HasTaken sum.digest (drop (head layout) (take sum.end bytes)) × (head layout ≤ sum.end)
