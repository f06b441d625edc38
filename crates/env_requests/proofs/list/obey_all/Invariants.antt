use Rattle.std.proofs.Common.{◌≡◌, ◌≤◌, take, map, length, vec_len}
use Rattle.std.specs.Prelude.{vec_capacity}
use Rattle.hush_run.specs.Runs.{rules}
use Rattle.env_requests.specs.Views.{asked, told}
use Rattle.env_requests.proofs.ListLemmas.{Obeyed}
use Rattle.env_requests.proofs.list.obey_all.Given as goal

abbrev pub invariant-loop-request : goal.invariant-loop-request
invariant-loop-request l =
    Obeyed (rules l.stubs l.limits) l.initial.session (map asked (take l.request-index l.requests)) (map told l.replies.items) l.session
    × (vec_len l.replies ≡ l.request-index) × (length l.requests ≤ vec_capacity l.replies)
