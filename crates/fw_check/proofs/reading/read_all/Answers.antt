use Rattle.std.proofs.Common.{ap, subst, ◌∙◌}
use Rattle.fw_check.specs.Checking.{AreVisited}
use Rattle.fw_check.specs.FileChecks.{script_texts, scripts_view}
use Rattle.fw_check.specs.Following.{Followed}
use Rattle.fw_check.specs.Looking.{rules_in}
use Rattle.fw_check.specs.NameSets.{set_of}
use Rattle.fw_check.proofs.VisitLemmas.{foreseen-known, given-known, texts-env, texts-followed, written-known}
use Rattle.fw_check.proofs.reading.read_all.Goals as goal

pub follow_all-requires : goal.follow_all-requires
follow_all-requires c =
    let rules = rules_in c.args.lookups.now in
    ap (λ (f : Followed). f.env) (texts-followed c.args.names.now c.follow_answers.new.names c.follow_files.new.names rules (script_texts (scripts_view c.args.scripts.now)) c.in_ok-follow_answers.ensures.names c.in_ok-follow_files.ensures.names)
    ∙ texts-env rules (script_texts (scripts_view c.args.scripts.now)) c.args.names.now ∙ c.requires

pub returns-clause-visited : goal.returns-clause-visited
returns-clause-visited c =
    let rules = rules_in c.args.lookups.now in
    subst (λ (f : Followed). AreVisited rules f 0 c.follow_all.new.names.names)
    (texts-followed c.args.names.now c.follow_answers.new.names c.follow_files.new.names rules (script_texts (scripts_view c.args.scripts.now)) c.in_ok-follow_answers.ensures.names c.in_ok-follow_files.ensures.names)
    c.in_ok-follow_all.ensures.visited

pub returns-clause-given : goal.returns-clause-given
returns-clause-given c =
    given-known (rules_in c.args.lookups.now) c.args.vars.now.env (script_texts (scripts_view c.args.scripts.now)) c.follow_all.new.names.names (set_of c.new-gathered.result.given) (set_of c.add_known.new.given)
    (set_of c.follow_answers.new.gathered.given) (set_of c.follow_files.new.gathered.given) (set_of c.follow_all.new.gathered.given) c.new-gathered.ensures.given c.in_ok-add_known.ensures
    c.in_ok-follow_answers.ensures.given c.in_ok-follow_files.ensures.given c.in_ok-follow_all.ensures.given

pub returns-clause-foreseen : goal.returns-clause-foreseen
returns-clause-foreseen c =
    foreseen-known (rules_in c.args.lookups.now) c.args.vars.now.env (script_texts (scripts_view c.args.scripts.now)) c.follow_all.new.names.names (set_of c.new-gathered.result.foreseen)
    (set_of c.follow_answers.new.gathered.foreseen) (set_of c.follow_files.new.gathered.foreseen) (set_of c.follow_all.new.gathered.foreseen) c.new-gathered.ensures.foreseen
    c.in_ok-follow_answers.ensures.foreseen c.in_ok-follow_files.ensures.foreseen c.in_ok-follow_all.ensures.foreseen

pub returns-clause-written : goal.returns-clause-written
returns-clause-written c =
    written-known (rules_in c.args.lookups.now) c.args.vars.now.env (script_texts (scripts_view c.args.scripts.now)) c.follow_all.new.names.names (set_of c.new-gathered.result.written)
    (set_of c.follow_answers.new.gathered.written) (set_of c.follow_files.new.gathered.written) (set_of c.follow_all.new.gathered.written) c.new-gathered.ensures.written
    c.in_ok-follow_answers.ensures.written c.in_ok-follow_files.ensures.written c.in_ok-follow_all.ensures.written
