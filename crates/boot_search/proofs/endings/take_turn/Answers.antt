use Rattle.std.proofs.Common.{◌≡◌, List, ℕ, ◌++◌, map, sym, ◌∙◌, ap, subst}
use Rattle.std.proofs.lemmas.Result.{on_ok_weaker}
use Rattle.boot_search.specs.declared.board.Answer.{Answer}
use Rattle.boot_search.specs.Outcomes.{Given, given_of, outcome_of, asks, ended}
use Rattle.boot_search.specs.Endings.{Ended, answers_of, ending_view, Searching, with_answers}
use Rattle.boot_search.proofs.Lists.{map_push}
use Rattle.boot_search.proofs.EndingsLemmas.{asked, ended_so}
use Rattle.boot_search.proofs.endings.take_turn.Goals as goal

pub returns-in-Asks-clause-search : goal.returns-in-Asks-clause-search
returns-in-Asks-clause-search g c =
    let run = g.P.Powered.run c.args.board.now in
    let pending = map answers_of c.args.pending.now.items in
    let found = map ending_view c.args.found.now.items in
    let answers = map given_of c.args.answers.items in
    let question = c.in-Asks.question.items in
    let choices = c.in-Asks.choices in
    let is : run answers ≡ asks question choices =
    ap (λ (v : List Answer). run (map given_of v)) (sym c.deref.ensures.value) ∙ sym c.in_ok-question.ensures.turn ∙ ap outcome_of c.in-Asks.is in
    let shown = asked run pending answers found question choices is c.requires in
    on_ok_weaker c.ask.result (λ h. subst (λ (p : List (List Given)). Searching run p found)
    (sym (h ∙ ap (λ (v : List Answer). pending ++ with_answers (map given_of v) c.deref-in-Asks-2.result.now choices choices) c.deref-in-Asks.ensures.value
    ∙ ap (λ (q : List ℕ). pending ++ with_answers answers q choices choices) c.deref-in-Asks-2.ensures.value)) shown) c.ask.ensures

pub returns-in_ok-push-in-Ends-clause-search : goal.returns-in_ok-push-in-Ends-clause-search
returns-in_ok-push-in-Ends-clause-search g c =
    let run = g.P.Powered.run c.args.board.now in
    let pending = map answers_of c.args.pending.now.items in
    let found = map ending_view c.args.found.now.items in
    let answers = map given_of c.args.answers.items in
    let is : run answers ≡ ended c.in-Ends.end c.in-Ends.by.items c.in-Ends.next.items =
    ap (λ (v : List Answer). run (map given_of v)) (sym c.deref.ensures.value) ∙ sym c.in_ok-question.ensures.turn ∙ ap outcome_of c.in-Ends.is in
    let shown = ended_so run pending answers found c.in-Ends.end c.in-Ends.by.items c.in-Ends.next.items is c.requires in
    subst (λ (f : List Ended). Searching run pending f) (sym (map_push ending_view _ _ _ c.in_ok-push-in-Ends.ensures.items)) shown
