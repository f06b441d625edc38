-- What the frames result in.
use Rattle.std.proofs.Common.{◌≡◌, ℕ, zero, suc, ◌+◌, ◌==◌, ◌<◌, ◌≤◌, Bool, true, false, List, [], ◌∷◌, drop, length, get_or, Option, Some, None, refl, sym, ap, subst, ◌∙◌, arith, if◌then◌else◌, is_some, add-one, length-drop}
use Rattle.std.proofs.Math.ListN.{drop_of_length-le}
use Rattle.std.proofs.Math.Seq.{get_or-drop}
use Rattle.hush_syntax.specs.declared.nodes.NodeId.{NodeId}
use Rattle.hush_syntax.specs.declared.nodes.Operator.{Operator}
use Rattle.hush_syntax.specs.declared.nodes.Link as link
use Rattle.hush_syntax.specs.declared.nodes.Branch as branch
use Rattle.hush_run.specs.declared.frames.Frame.TheVariants as frame
use Rattle.hush_run.specs.declared.due.Due.TheVariants as due
use Rattle.hush_syntax.specs.Nodes.{At, Subtree, OfChains, OfChain, OfCommand, chain_of, ChainAt, AreChains, AreLinks, IsChain, AreBranches, IsOtherwise}
use Rattle.hush_syntax.specs.Grammar.{Command, If, While, Until, Branches, Elif, Else, Fi, Chain, First, Links, End, Link, Chains, Last, More, depth, depth_in_chain, depth_inside, depth_in_links, depth_in_branches}
use Rattle.hush_syntax.specs.Reading.{bind}
use Rattle.hush_run.specs.Meaning.{Rules, Begin, State, Out, Goes, ◌>>=◌, ◌then◌, with_status, in_list, leaves_chain, after_skip, if_ok, command, otherwise, chains}
use Rattle.hush_run.specs.Resume.{chain_list, link_list, subtree_does, run_chains, run_links, chain_links, tagged, joined, links_in, room, branch_does}
use Rattle.hush_commands.specs.declared.shell.Shell.{Shell}
use Rattle.hush_commands.specs.Shells.{kept_status}
use Rattle.hush_run.specs.Turns.{Turns}
use Rattle.hush_run.proofs.Counts.{turns-again, chains-count}
use Rattle.hush_run.proofs.Parts.{bind_goes, member_does}

-- lists
at_chain : (at : At) (ids : List NodeId) (cs : Chains) (k : ℕ) (i : NodeId) → AreChains at ids cs → k < length ids → i ≡ get_or ids k i → (c : Chain) × ChainAt at c i × (drop k (chain_list cs) ≡ c ∷ drop (suc k) (chain_list cs)) × (depth_in_chain c ≤ depth_inside cs)
at_chain at [] (Last c) k i a lt is = absurd a
at_chain at [] (More c cs) k i a lt is = absurd a
at_chain at (j ∷ js) (Last c) zero i a lt is = (c, ap (λ (n : NodeId). bind (at n) chain_of) is ∙ a.0, refl, omega arith)
at_chain at (j ∷ js) (Last c) (suc k) i a lt is = absurd (omega (arith, rw a.1 at lt))
at_chain at (j ∷ js) (More c cs) zero i a lt is = (c, ap (λ (n : NodeId). bind (at n) chain_of) is ∙ a.0, refl, omega arith)
at_chain at (j ∷ js) (More c cs) (suc k) i a lt is = let r = at_chain at js cs k i a.1 (omega (arith, lt)) is in (r.0, r.1, r.2, omega (arith, r.3))

chains_end : (at : At) (ids : List NodeId) (cs : Chains) (k : ℕ) → AreChains at ids cs → length ids ≤ k → drop k (chain_list cs) ≡ []
chains_end at [] (Last c) k a le = absurd a
chains_end at [] (More c cs) k a le = absurd a
chains_end at (j ∷ js) (Last c) zero a le = absurd (omega (arith, le))
chains_end at (j ∷ js) (Last c) (suc k) a le = drop-nil k
  where
    drop-nil : (k : ℕ) → drop k (let e : List Chain = [] in e) ≡ []
    drop-nil zero = refl
    drop-nil (suc k) = refl
chains_end at (j ∷ js) (More c cs) zero a le = absurd (omega (arith, le))
chains_end at (j ∷ js) (More c cs) (suc k) a le = chains_end at js cs k a.1 (omega (arith, le))

pub list_goes : (shell : Shell) (at : At) (node i : NodeId) (ids : List NodeId) (cs : Chains) (k status : ℕ) → at node ≡ Some (OfChains cs) → AreChains at ids cs → k < length ids → i ≡ get_or ids k i → Turns shell at (frame.List node k) status (record { due = due.Node i; behind = Some (frame.List node (k + 1)); status = status })
list_goes shell at node i ids cs k status e a lt is =
    let r = at_chain at ids cs k i a lt is in
    let m = member_does (at i) r.0 r.1 in
    rw (e, add-one) (
      m.0,
      (tt, refl, λ scripts. refl, omega arith, omega (arith, r.3, m.1)),
      λ rules same begin counting s le.
          ap (λ (xs : List Chain). run_chains rules begin xs (with_status status s)) r.2
          ∙ ap (λ (o : Out). in_list o >>= run_chains rules begin (drop (suc k) (chain_list cs))) (sym (m.2 rules begin (with_status status s))),
    )

pub list_ends : (shell : Shell) (at : At) (node : NodeId) (ids : List NodeId) (cs : Chains) (k status : ℕ) → at node ≡ Some (OfChains cs) → AreChains at ids cs → length ids ≤ k → Turns shell at (frame.List node k) status (record { due = due.Over; behind = None; status = status })
list_ends shell at node ids cs k status e a le =
    rw e (tt, omega arith, λ rules same begin counting s le'. ap (λ (xs : List Chain). run_chains rules begin xs (with_status status s)) (chains_end at ids cs k a le))

-- loops
pub while_again : (shell : Shell) (at : At) (node condition : NodeId) (c d : Chains) (status : ℕ) → at node ≡ Some (OfCommand (While c d)) → at condition ≡ Some (OfChains c) → Turns shell at (frame.Body node) status (record { due = due.Node condition; behind = Some (frame.Condition node status); status = status })
while_again shell at node condition c d status e ec =
    rw (e, ec) (
      refl,
      (tt, refl, λ scripts. refl, omega arith, omega arith),
      λ rules same begin counting s le.
          turns-again rules true (chains rules begin c) (chains rules begin d) status (chains-count rules begin counting c) (chains-count rules begin counting d) (with_status status s) le,
    )

pub until_again : (shell : Shell) (at : At) (node condition : NodeId) (c d : Chains) (status : ℕ) → at node ≡ Some (OfCommand (Until c d)) → at condition ≡ Some (OfChains c) → Turns shell at (frame.Body node) status (record { due = due.Node condition; behind = Some (frame.Condition node status); status = status })
until_again shell at node condition c d status e ec =
    rw (e, ec) (
      refl,
      (tt, refl, λ scripts. refl, omega arith, omega arith),
      λ rules same begin counting s le.
          turns-again rules false (chains rules begin c) (chains rules begin d) status (chains-count rules begin counting c) (chains-count rules begin counting d) (with_status status s) le,
    )

-- branches
record BranchAt (at : At) (b : branch.Branch) (bs : List branch.Branch) (last : Option NodeId) (k : ℕ) (whole : Branches) : Type 0 where
  pub c : Chains
  pub d : Chains
  pub rest : Branches
  pub condition : at b.condition ≡ Some (OfChains c)
  pub body : at b.body ≡ Some (OfChains d)
  pub others : AreBranches at (drop (suc k) bs) last rest
  pub does : (rules : Rules) (begin : Begin) → branch_does rules begin k whole ≡ if_ok (chains rules begin d) (otherwise rules begin rest)
  pub next : (rules : Rules) (begin : Begin) (e f : Chains) (r : Branches) → rest ≡ Elif e f r → branch_does rules begin (suc k) whole ≡ if_ok (chains rules begin f) (otherwise rules begin r)
  pub depth_c : depth_inside c ≤ depth_in_branches whole
  pub depth_d : depth_inside d ≤ depth_in_branches whole
  pub depth_rest : depth_in_branches rest ≤ depth_in_branches whole

at_branch : (at : At) (b : branch.Branch) (bs : List branch.Branch) (last : Option NodeId) (k : ℕ) (whole : Branches) → AreBranches at bs last whole → k < length bs → b ≡ get_or bs k b → BranchAt at b bs last k whole
at_branch at b [] last k whole a lt is = absurd (omega (arith, lt))
at_branch at b (x ∷ xs) last k (Else d) a lt is = absurd a
at_branch at b (x ∷ xs) last k Fi a lt is = absurd a
at_branch at b (x ∷ xs) last zero (Elif c d rest) a lt is = record {
  c = c;
  d = d;
  rest = rest;
  condition = ap (λ (y : branch.Branch). at y.condition) is ∙ a.0;
  body = ap (λ (y : branch.Branch). at y.body) is ∙ a.1;
  others = a.2;
  does = λ rules begin. refl;
  next = λ rules begin e f r h. ap (branch_does rules begin 0) h;
  depth_c = omega arith;
  depth_d = omega arith;
  depth_rest = omega arith;
}
at_branch at b (x ∷ xs) last (suc k) (Elif c d rest) a lt is =
    let r = at_branch at b xs last k rest a.2 (omega (arith, lt)) is in record {
      c = r.c;
      d = r.d;
      rest = r.rest;
      condition = r.condition;
      body = r.body;
      others = r.others;
      does = r.does;
      next = r.next;
      depth_c = omega (arith, r.depth_c);
      depth_d = omega (arith, r.depth_d);
      depth_rest = omega (arith, r.depth_rest);
    }

next_is : (at : At) (ys : List branch.Branch) (last : Option NodeId) (rest : Branches) (y : branch.Branch) → AreBranches at ys last rest → 0 < length ys → y ≡ get_or ys 0 y → (e f : Chains) × (r : Branches) × (rest ≡ Elif e f r) × (at y.condition ≡ Some (OfChains e))
next_is at [] last rest y a lt is = absurd (omega (arith, lt))
next_is at (x ∷ xs) last (Elif e f r) y a lt is = (e, f, r, refl, ap (λ (z : branch.Branch). at z.condition) is ∙ a.0)
next_is at (x ∷ xs) last (Else d) y a lt is = absurd a
next_is at (x ∷ xs) last Fi y a lt is = absurd a

else_is : (at : At) (body : NodeId) (rest : Branches) → AreBranches at [] (Some body) rest → (d : Chains) × (rest ≡ Else d) × (at body ≡ Some (OfChains d))
else_is at body (Elif e f r) a = absurd a
else_is at body (Else d) a = (d, refl, a)
else_is at body Fi a = absurd a

fi_is : (at : At) (rest : Branches) → AreBranches at [] None rest → rest ≡ Fi
fi_is at (Elif e f r) a = absurd a
fi_is at (Else d) a = absurd a
fi_is at Fi a = refl

-- if the status isn't 0, the branches after it are looked at
to_rest : (rules : Rules) (begin : Begin) (k status : ℕ) (whole rest : Branches) (d : Chains) (s : State) → branch_does rules begin k whole ≡ if_ok (chains rules begin d) (otherwise rules begin rest) → (status == 0) ≡ false → branch_does rules begin k whole (with_status status s) ≡ otherwise rules begin rest (with_status status s)
to_rest rules begin k status whole rest d s does nz =
    ap (λ (g : State → Out). g (with_status status s)) does ∙ ap (λ (t : Bool). if t then chains rules begin d (with_status status s) else otherwise rules begin rest (with_status status s)) nz

module _ (shell : Shell) (at : At) (node : NodeId) (bs : List branch.Branch) (last : Option NodeId) (c d : Chains) (b : Branches) (e : at node ≡ Some (OfCommand (If c d b))) (are : AreBranches at bs last (Elif c d b)) (k status : ℕ) where
  no_branch : (xs : List branch.Branch) (whole : Branches) (j : ℕ) → AreBranches at xs last whole → length xs ≤ j → (rules : Rules) (begin : Begin) (s : State) → branch_does rules begin j whole s ≡ Goes s
  no_branch [] (Elif c' d' b') zero a le rules begin s = none_here last a
    where
      none_here : (o : Option NodeId) → IsOtherwise at o (Elif c' d' b') → if_ok (chains rules begin d') (otherwise rules begin b') s ≡ Goes s
      none_here None h = absurd h
      none_here (Some id) h = absurd h
  no_branch [] (Elif c' d' b') (suc j) a le rules begin s = none_here last a
    where
      none_here : (o : Option NodeId) → IsOtherwise at o (Elif c' d' b') → branch_does rules begin j b' s ≡ Goes s
      none_here None h = absurd h
      none_here (Some id) h = absurd h
  no_branch [] (Else d') zero a le rules begin s = refl
  no_branch [] (Else d') (suc j) a le rules begin s = refl
  no_branch [] Fi zero a le rules begin s = refl
  no_branch [] Fi (suc j) a le rules begin s = refl
  no_branch (x ∷ xs) (Elif c' d' b') zero a le rules begin s = absurd (omega (arith, le))
  no_branch (x ∷ xs) (Elif c' d' b') (suc j) a le rules begin s = no_branch xs b' j a.2 (omega (arith, le)) rules begin s
  no_branch (x ∷ xs) (Else d') j a le rules begin s = absurd a
  no_branch (x ∷ xs) Fi j a le rules begin s = absurd a

  pub branches_end : length bs ≤ k → Turns shell at (frame.Branch node k) status (record { due = due.Over; behind = None; status = status })
  branches_end le = rw e (tt, omega arith, λ rules same begin counting s le'. no_branch bs (Elif c d b) k are le rules begin (with_status status s))

  pub branch_body : (x : branch.Branch) → k < length bs → x ≡ get_or bs k x → status ≡ 0 → Turns shell at (frame.Branch node k) status (record { due = due.Node x.body; behind = None; status = status })
  branch_body x lt is z =
      let r = at_branch at x bs last k (Elif c d b) are lt is in
      rw (e, r.body, z) (refl, omega (arith, r.depth_d), λ rules same begin counting s le. ap (λ (f : State → Out). f (with_status 0 s)) (r.does rules begin) ∙ sym (bind_goes _))

  pub branch_next : (x y : branch.Branch) → k < length bs → x ≡ get_or bs k x → suc k < length bs → y ≡ get_or bs (suc k) y → (status == 0) ≡ false → Turns shell at (frame.Branch node k) status (record { due = due.Node y.condition; behind = Some (frame.Branch node (suc k)); status = status })
  branch_next x y lt is lt' is' nz =
      let r = at_branch at x bs last k (Elif c d b) are lt is in
      let n = next_is at (drop (suc k) bs) last r.rest y r.others (omega (arith, length-drop (suc k) bs, lt')) (is' ∙ ap (λ (i : ℕ). get_or bs i y) (let z : suc k ≡ suc k + 0 = omega arith in z) ∙ sym (get_or-drop (suc k) bs 0 y)) in
      let deep = ap depth_in_branches n.3 in
      rw (e, n.4) (
        refl,
        (tt, refl, λ scripts. refl, omega arith, omega (arith, r.depth_rest, deep)),
        λ rules same begin counting s le.
            to_rest rules begin k status (Elif c d b) r.rest r.d s (r.does rules begin) nz
            ∙ ap (λ (z : Branches). otherwise rules begin z (with_status status s)) n.3
            ∙ ap (λ (g : State → Out). chains rules begin n.0 (with_status status s) >>= g) (sym (r.next rules begin n.0 n.1 n.2 n.3)),
      )

  pub branch_next_at : (j : ℕ) → j ≡ suc k → (x y : branch.Branch) → k < length bs → x ≡ get_or bs k x → j < length bs → y ≡ get_or bs j y → (status == 0) ≡ false → Turns shell at (frame.Branch node k) status (record { due = due.Node y.condition; behind = Some (frame.Branch node j); status = status })
  branch_next_at j h = subst (λ (i : ℕ). (x y : branch.Branch) → k < length bs → x ≡ get_or bs k x → i < length bs → y ≡ get_or bs i y → (status == 0) ≡ false → Turns shell at (frame.Branch node k) status (record { due = due.Node y.condition; behind = Some (frame.Branch node i); status = status })) (sym h) branch_next

  pub branch_else : (x : branch.Branch) (body : NodeId) → k < length bs → x ≡ get_or bs k x → length bs ≤ suc k → (status == 0) ≡ false → last ≡ Some body → Turns shell at (frame.Branch node k) status (record { due = due.Node body; behind = None; status = status })
  branch_else x body lt is le nz l =
      let r = at_branch at x bs last k (Elif c d b) are lt is in
      let n = else_is at body r.rest (subst (λ (ys : List branch.Branch). AreBranches at ys (Some body) r.rest) (drop_of_length-le bs le) (subst (λ (o : Option NodeId). AreBranches at (drop (suc k) bs) o r.rest) l r.others)) in
      let deep = ap depth_in_branches n.1 in
      rw (e, n.2) (
        refl,
        omega (arith, r.depth_rest, deep),
        λ rules same begin counting s le'.
            to_rest rules begin k status (Elif c d b) r.rest r.d s (r.does rules begin) nz
            ∙ ap (λ (z : Branches). otherwise rules begin z (with_status status s)) n.1
            ∙ sym (bind_goes _),
      )

  pub branch_fi : (x : branch.Branch) → k < length bs → x ≡ get_or bs k x → length bs ≤ suc k → (status == 0) ≡ false → last ≡ None → Turns shell at (frame.Branch node k) status (record { due = due.Over; behind = None; status = kept_status shell status })
  branch_fi x lt is le nz l =
      let r = at_branch at x bs last k (Elif c d b) are lt is in
      let n = fi_is at r.rest (subst (λ (ys : List branch.Branch). AreBranches at ys None r.rest) (drop_of_length-le bs le) (subst (λ (o : Option NodeId). AreBranches at (drop (suc k) bs) o r.rest) l r.others)) in
      rw e (
        tt,
        omega arith,
        λ rules same begin counting s le'.
            to_rest rules begin k status (Elif c d b) r.rest r.d s (r.does rules begin) nz
            ∙ ap (λ (z : Branches). otherwise rules begin z (with_status status s)) n
            ∙ ap (λ (x : Shell). Goes (with_status (kept_status x status) s)) same,
      )

  pick : (xs : List branch.Branch) (j : ℕ) → j < length xs → (x : branch.Branch) × (x ≡ get_or xs j x)
  pick [] j lt = absurd (omega (arith, lt))
  pick (x ∷ xs) zero lt = (x, refl)
  pick (x ∷ xs) (suc j) lt = pick xs j (omega (arith, lt))

  pub branch_else_at : (body : NodeId) → k < length bs → length bs ≤ k + 1 → (status == 0) ≡ false → last ≡ Some body → Turns shell at (frame.Branch node k) status (record { due = due.Node body; behind = None; status = status })
  branch_else_at body lt le nz l = let p = pick bs k lt in branch_else p.0 body lt p.1 (omega (arith, le)) nz l

  pub branch_fi_at : k < length bs → length bs ≤ k + 1 → (status == 0) ≡ false → last ≡ None → Turns shell at (frame.Branch node k) status (record { due = due.Over; behind = None; status = kept_status shell status })
  branch_fi_at lt le nz l = let p = pick bs k lt in branch_fi p.0 lt p.1 (omega (arith, le)) nz l

  pub branch_next_here : (y : branch.Branch) → k < length bs → k + 1 < length bs → y ≡ get_or bs (k + 1) y → (status == 0) ≡ false → Turns shell at (frame.Branch node k) status (record { due = due.Node y.condition; behind = Some (frame.Branch node (k + 1)); status = status })
  branch_next_here y lt lt' is nz = let p = pick bs k lt in branch_next_at (k + 1) (omega arith) p.0 y lt p.1 lt' is nz

-- chains
at_link : (at : At) (ls : List link.Link) (links : Links) (k : ℕ) (l : link.Link) → AreLinks at ls links → k < length ls → l ≡ get_or ls k l → (o : Operator) × (c : Command) × (l.operator ≡ Some o) × (at l.command ≡ Some (OfCommand c)) × (drop k (tagged (link_list links)) ≡ (Some o, c) ∷ drop (suc k) (tagged (link_list links))) × (depth c ≤ depth_in_links links)
at_link at [] links k l a lt is = absurd (omega (arith, lt))
at_link at (x ∷ xs) End k l a lt is = absurd a
at_link at (x ∷ xs) (Link o c links) zero l a lt is = (o, c, ap (λ (y : link.Link). y.operator) is ∙ a.0, ap (λ (y : link.Link). at y.command) is ∙ a.1, refl, omega arith)
at_link at (x ∷ xs) (Link o c links) (suc k) l a lt is = let r = at_link at xs links k l a.2 (omega (arith, lt)) is in (r.0, r.1, r.2, r.3, r.4, omega (arith, r.5))

links_end : (at : At) (ls : List link.Link) (links : Links) (k : ℕ) → AreLinks at ls links → length ls ≤ k → drop k (tagged (link_list links)) ≡ []
links_end at [] End zero a le = refl
links_end at [] End (suc k) a le = refl
links_end at [] (Link o c links) k a le = absurd a
links_end at (x ∷ xs) End k a le = absurd a
links_end at (x ∷ xs) (Link o c links) zero a le = absurd (omega (arith, le))
links_end at (x ∷ xs) (Link o c links) (suc k) a le = links_end at xs links k a.2 (omega (arith, le))

at_chain_link : (at : At) (ls : List link.Link) (ch : Chain) (k : ℕ) (l : link.Link) → IsChain at ls ch → k < length ls → l ≡ get_or ls k l → (c : Command) × (at l.command ≡ Some (OfCommand c)) × (drop k (chain_links ch) ≡ (l.operator, c) ∷ drop (suc k) (chain_links ch)) × (depth c ≤ depth_in_chain ch)
at_chain_link at [] (First c links) k l a lt is = absurd a
at_chain_link at (x ∷ xs) (First c links) zero l a lt is =
    let o : l.operator ≡ None = ap (λ (y : link.Link). y.operator) is ∙ a.0 in
    (c, ap (λ (y : link.Link). at y.command) is ∙ a.1, ap (λ (p : Option Operator). (p, c) ∷ tagged (link_list links)) (sym o), omega arith)
at_chain_link at (x ∷ xs) (First c links) (suc k) l a lt is =
    let r = at_link at xs links k l a.2 (omega (arith, lt)) is in
    (r.1, r.3, r.4 ∙ ap (λ (p : Option Operator). (p, r.1) ∷ drop (suc k) (tagged (link_list links))) (sym r.2), omega (arith, r.5))

-- after a command that isn't run
skipped_to : (rules : Rules) (begin : Begin) (at : At) (node : NodeId) (ls : List link.Link) (ch : Chain) (k status : ℕ) (l : link.Link) (s : State) → at node ≡ Some (OfChain ch) → IsChain at ls ch → k < length ls → l ≡ get_or ls k l → joined l.operator status ≡ false → run_links rules begin (drop k (links_in (at node))) (with_status status s) ≡ after_skip rules.shell (run_links rules begin (drop (k + 1) (links_in (at node)))) (with_status status s)
skipped_to rules begin at node ls ch k status l s e a lt is isnt =
    let r = at_chain_link at ls ch k l a lt is in
    let rest = run_links rules begin (drop (suc k) (chain_links ch)) in
    rw (e, add-one) (ap (λ (x : List (Option Operator × Command)). run_links rules begin x (with_status status s)) r.2 ∙ ap (λ (t : Bool). if t then (command rules begin r.0 (with_status status s) >>= rest) else after_skip rules.shell rest (with_status status s)) isnt)

pub chain_skips : (rules : Rules) (begin : Begin) (at : At) (node : NodeId) (ls : List link.Link) (ch : Chain) (k status : ℕ) (l : link.Link) (s : State) → at node ≡ Some (OfChain ch) → IsChain at ls ch → k < length ls → l ≡ get_or ls k l → joined l.operator status ≡ false → leaves_chain rules.shell ≡ false → run_links rules begin (drop k (links_in (at node))) (with_status status s) ≡ run_links rules begin (drop (k + 1) (links_in (at node))) (with_status status s)
chain_skips rules begin at node ls ch k status l s e a lt is isnt stays =
    skipped_to rules begin at node ls ch k status l s e a lt is isnt
    ∙ ap (λ (b : Bool). if b then Goes (with_status status s) else run_links rules begin (drop (k + 1) (links_in (at node))) (with_status status s)) stays

-- what a chain's frame has come to, past commands that weren't run
abbrev pub Passed : Shell → At → NodeId → (next k status : ℕ) → Type 0
Passed shell at node next k status =
    (rules : Rules) → rules.shell ≡ shell → (begin : Begin) (s : State) →
    run_links rules begin (drop next (links_in (at node))) (with_status status s) ≡ run_links rules begin (drop k (links_in (at node))) (with_status status s)

pub chain_leaves : (shell : Shell) (at : At) (node : NodeId) (ls : List link.Link) (ch : Chain) (next k status : ℕ) (l : link.Link) → at node ≡ Some (OfChain ch) → IsChain at ls ch → k < length ls → l ≡ get_or ls k l → joined l.operator status ≡ false → leaves_chain shell ≡ true → Passed shell at node next k status → Turns shell at (frame.Chain node next) status (record { due = due.Over; behind = None; status = status })
chain_leaves shell at node ls ch next k status l e a lt is isnt leaves passed = (
  tt,
  omega arith,
  λ rules same begin counting s le.
      passed rules same begin s
      ∙ skipped_to rules begin at node ls ch k status l s e a lt is isnt
      ∙ ap (λ (b : Bool). if b then Goes (with_status status s) else run_links rules begin (drop (k + 1) (links_in (at node))) (with_status status s)) (ap leaves_chain same ∙ leaves),
)

pub chain_goes : (shell : Shell) (at : At) (node : NodeId) (ls : List link.Link) (ch : Chain) (next k status : ℕ) (l : link.Link) → at node ≡ Some (OfChain ch) → IsChain at ls ch → k < length ls → l ≡ get_or ls k l → joined l.operator status ≡ true → Passed shell at node next k status → Turns shell at (frame.Chain node next) status (record { due = due.Node l.command; behind = Some (frame.Chain node (k + 1)); status = status })
chain_goes shell at node ls ch next k status l e a lt is does passed =
    let r = at_chain_link at ls ch k l a lt is in
    let arrives : (rules : Rules) → rules.shell ≡ shell → (begin : Begin) (s : State) → run_links rules begin (drop next (links_in (at node))) (with_status status s) ≡ (command rules begin r.0 (with_status status s) >>= run_links rules begin (drop (suc k) (chain_links ch))) =
    λ rules same begin s. passed rules same begin s ∙ ap (λ (x : List (Option Operator × Command)). run_links rules begin x (with_status status s)) (ap (λ (o : Option Subtree). drop k (links_in o)) e ∙ r.2) ∙ ap (λ (t : Bool). if t then (command rules begin r.0 (with_status status s) >>= run_links rules begin (drop (suc k) (chain_links ch))) else after_skip rules.shell (run_links rules begin (drop (suc k) (chain_links ch))) (with_status status s)) does in (
      ap (λ (o : Option Subtree). is_some o) r.1,
      (tt, ap (λ (o : Option Subtree). is_some o) e, (λ scripts. refl), omega arith, omega (arith, ap room e, ap room r.1, r.3)),
      λ rules same begin counting s le.
          arrives rules same begin s
          ∙ ap (λ (o : Option Subtree). subtree_does rules begin o (with_status status s) >>= run_links rules begin (drop (suc k) (chain_links ch))) (sym r.1)
          ∙ ap (λ (x : List (Option Operator × Command)). subtree_does rules begin (at l.command) (with_status status s) >>= run_links rules begin x) (sym (ap (λ (o : Option Subtree). drop (suc k) (links_in o)) e) ∙ ap (λ (j : ℕ). drop j (links_in (at node))) (sym (add-one k))),
    )

pub chain_ends : (shell : Shell) (at : At) (node : NodeId) (ls : List link.Link) (ch : Chain) (next k status : ℕ) → at node ≡ Some (OfChain ch) → IsChain at ls ch → length ls ≤ k → Passed shell at node next k status → Turns shell at (frame.Chain node next) status (record { due = due.Over; behind = None; status = status })
chain_ends shell at node ls ch next k status e a le passed =
    (tt, omega arith, λ rules same begin counting s le'. passed rules same begin s ∙ ap (λ (x : List (Option Operator × Command)). run_links rules begin x (with_status status s)) (ap (λ (o : Option Subtree). drop k (links_in o)) e ∙ chain_links_end ls ch k a le))
  where
    chain_links_end : (ls : List link.Link) (ch : Chain) (k : ℕ) → IsChain at ls ch → length ls ≤ k → drop k (chain_links ch) ≡ []
    chain_links_end [] (First c links) k a le = absurd a
    chain_links_end (x ∷ xs) (First c links) zero a le = absurd (omega (arith, le))
    chain_links_end (x ∷ xs) (First c links) (suc k) a le = links_end at xs links k a.2 (omega (arith, le))
