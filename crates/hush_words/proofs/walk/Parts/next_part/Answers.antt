use Rattle.std.proofs.Common.{subst, Some}
use Rattle.hush_words.specs.Ranges.{TakesPart}
use Rattle.hush_words.proofs.WalkLemmas.{left_of, part-taken}
use Rattle.hush_words.proofs.walk.Parts.next_part.Goals as goal

pub returns-in-Some : goal.returns-in-Some
returns-in-Some c =
    let source = c.self.inside.source.now in
    let end = c.self.inside.end in
    subst (λ old. TakesPart old (left_of source end c.in-Some.place) (Some c.in-Some.part)) c.self.view_is
    (part-taken source end c.self.inside.place c.in-Some.place c.in-Some.part c.self.invariant.1 c.in-Some.ensures)
