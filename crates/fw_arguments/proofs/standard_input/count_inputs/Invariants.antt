use Rattle.std.proofs.Common.{◌≡◌, ◌≤◌, ◌+◌, drop, length, filter, map}
use Rattle.clap.specs.Words.{found_of, rows_of}
use Rattle.fw_arguments.specs.StandardInput.{is_input}
use Rattle.fw_arguments.proofs.standard_input.count_inputs.Given as goal

abbrev pub invariant-loop-id : goal.invariant-loop-id
invariant-loop-id l =
    (l.count + length (filter (is_input (rows_of (found_of l.found))) (map (λ id. id.now) (drop l.id-index l.ids)))
    ≡ length (filter (is_input (rows_of (found_of l.found))) (map (λ id. id.now) l.ids)))
    × (l.count ≤ l.id-index)
