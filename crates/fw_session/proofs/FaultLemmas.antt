-- What is told of blocks that aren't scripts.
use Rattle.std.proofs.Common.{◌≡◌, ℕ, ◌++◌, List, [], ◌∷◌, Option, None, Some, sym, subst}
use Rattle.std.proofs.lemmas.List.{append-nil}
use Rattle.std.proofs.lemmas.List.Folds.{concat-append}
use Rattle.std.proofs.KnownBytes.{Appends-trans, Appends-nil}
use Rattle.std.specs.Io.KnownBytes.{Appends}
use Rattle.std.specs.List.{AllByRecursion}
use Rattle.std.specs.Prelude.{codes}
use Rattle.fw_engines.specs.ScriptFaults.{fault_line}
use Rattle.fw_engines.specs.Streams.{AppendsFront}
use Rattle.hush_syntax.specs.Halts.{fault_in}
use Rattle.hush_syntax.specs.Reading.{read_in}
use Rattle.hush_syntax.specs.declared.nodes.Bodies.{Bodies}
use Rattle.hush_syntax.specs.declared.syntax_fault.SyntaxFault.{SyntaxFault}
use Rattle.fw_session.specs.BlockFaults.{IsFaultFront, Tells}

pub tells_none : (bodies : Bodies) (a : Option (List ℕ)) → Tells bodies a a
tells_none bodies a = ([], tt, Appends-nil a)

pub tells_one : (bodies : Bodies) (text copy : List ℕ) (fault : SyntaxFault) (a b : Option (List ℕ)) → copy ≡ text → read_in bodies copy ≡ None → fault_in bodies copy ≡ Some fault →
    AppendsFront a b (fault_line (codes "block") text fault.place fault.kind) → Tells bodies a b
tells_one bodies text copy fault a b same unread exact told = (
  told.0 ∷ [],
  (
    record {
      text = text;
      fault = fault;
      rest = told.1;
      unread = subst (λ t. read_in bodies t ≡ None) same unread;
      exact = subst (λ t. fault_in bodies t ≡ Some fault) same exact;
      line = told.2;
    },
    tt,
  ),
  subst (Appends a b) (sym (append-nil told.0)) told.3,
)

all_joined : (bodies : Bodies) (xs ys : List (List ℕ)) → AllByRecursion (IsFaultFront bodies) xs → AllByRecursion (IsFaultFront bodies) ys → AllByRecursion (IsFaultFront bodies) (xs ++ ys)
all_joined bodies [] ys p q = q
all_joined bodies (x ∷ xs) ys p q = (p.0, all_joined bodies xs ys p.1 q)

pub tells_more : (bodies : Bodies) (a b c : Option (List ℕ)) → Tells bodies a b → Tells bodies b c → Tells bodies a c
tells_more bodies a b c p q = (
  p.0 ++ q.0,
  all_joined bodies p.0 q.0 p.1 q.1,
  subst (Appends a c) (sym (concat-append p.0 q.0)) (Appends-trans a b c _ _ p.2 q.2),
)
