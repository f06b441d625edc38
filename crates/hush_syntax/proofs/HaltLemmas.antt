-- How the search for a halt goes over the tokens of a text.
use Rattle.std.specs.Prelude.{◌≡◌, ◌≢◌, ℕ, ◌==◌, ◌&&◌, Bool, true, false, List, [], ◌∷◌, drop, length, Option, Some, None, Result, Ok, Err, IfOk, IfSome, if◌then◌else◌}
use Rattle.std.proofs.Common.{refl, sym, ◌∙◌, ap, subst}
use Rattle.hush_syntax.proofs.Places.{end_by, word-not-memory}
use Rattle.hush_words.specs.Parts.{Written}
use Rattle.hush_words.specs.Reading.{lexeme_end}
use Rattle.hush_words.specs.Tokens.{Token, has_no_nul}
use Rattle.hush_words.specs.Faults.{Placed, first_nul, placed_left, placed_tokens, token_fault}
use Rattle.hush_words.specs.declared.faults.Fault.{Fault}
use Rattle.hush_words.specs.Views.{kind_token}
use Rattle.hush_words.specs.declared.tokens.Token as code
use Rattle.hush_syntax.specs.declared.cursor.Tokens.{Tokens}
use Rattle.hush_syntax.specs.declared.nodes.Bodies.{Bodies}
use Rattle.hush_syntax.specs.declared.positions.Halt.{Halt}
use Rattle.hush_syntax.specs.declared.positions.Met.{Met}
use Rattle.hush_syntax.specs.declared.positions.Met.TheVariants.{End}
use Rattle.hush_syntax.specs.declared.syntax_fault.FaultKind.{FaultKind}
use Rattle.hush_syntax.specs.declared.syntax_fault.FaultKind.TheVariants.{Memory}
use Rattle.hush_syntax.specs.declared.syntax_fault.SyntaxFault.{SyntaxFault}
use Rattle.hush_syntax.specs.Answers.{ends_whole, placed_behind, placed_in, whole_behind}
use Rattle.hush_syntax.specs.Faults.{end_fault, fault_at, first_fault, is_missing, word_fault}
use Rattle.hush_syntax.specs.Halts.{Position, Step, fault_of, halt, halt_at, halt_in, is_whole, met_by, run, start, step_on}
use Rattle.hush_syntax.proofs.EndLemmas.{not-missing}
use Rattle.hush_syntax.proofs.Fronts.{and-false}

-- a token that can be here
pub run-on : (bodies : Bodies) (p q : Position) (place : ℕ) (t : Token) (ts : List Placed) → step_on bodies p place t ≡ Ok q →
    run bodies p ((place, t) ∷ ts) ≡ run bodies q ts
unfolding run
run-on bodies p q place t ts e =
    ap (λ (s : Step). elim s as (λ _. Position × List Placed) [ Ok q ↦ run bodies q ts | Err kind ↦ (p, (place, t) ∷ ts) ]) e

-- one that can't
pub run-off : (bodies : Bodies) (p : Position) (place : ℕ) (t : Token) (ts : List Placed) (kind : FaultKind) → step_on bodies p place t ≡ Err kind →
    run bodies p ((place, t) ∷ ts) ≡ (p, (place, t) ∷ ts)
unfolding run
run-off bodies p place t ts kind e =
    ap (λ (s : Step). elim s as (λ _. Position × List Placed) [ Ok q ↦ run bodies q ts | Err kind ↦ (p, (place, t) ∷ ts) ]) e

pub run-end : (bodies : Bodies) (p : Position) → run bodies p [] ≡ (p, [])
unfolding run
run-end bodies p = refl

pub halts-at : (bodies : Bodies) (whole : Bool) (end : SyntaxFault) (p : Position) (place : ℕ) (t : Token) (ts : List Placed) (kind : FaultKind) →
    step_on bodies p place t ≡ Err kind → halt_at bodies whole end (p, (place, t) ∷ ts) ≡ Some (halt (fault_of place kind) p (met_by t))
halts-at bodies whole end p place t ts kind e =
    ap (λ (s : Step). elim s as (λ _. Option Halt) [ Ok q ↦ None | Err kind ↦ Some (halt (fault_of place kind) p (met_by t)) ]) e

-- a text without a byte 0
pub halts-in : (bodies : Bodies) (text : List ℕ) (at : Position × List Placed) → has_no_nul text ≡ true → run bodies start (placed_tokens text) ≡ at →
    halt_in bodies text ≡ halt_at bodies (length (lexeme_end text) == 0) (end_fault text) at
unfolding halt_in
halts-in bodies text at none e = rw none (ap (halt_at bodies (length (lexeme_end text) == 0) (end_fault text)) e)

-- the token of a cursor
pub in-front : (text : Written) (c : Tokens) (t : code.Token) → c.next ≡ Ok t →
    placed_in text c ≡ (t.place, kind_token text t.kind) ∷ placed_left c.behind (drop c.behind text.source)
unfolding placed_in
in-front text c t e = ap (λ o. placed_behind text o c.behind) e

pub none-in-front : (text : Written) (c : Tokens) (end : SyntaxFault) → c.next ≡ Err end → placed_in text c ≡ []
unfolding placed_in
none-in-front text c end e = ap (λ o. placed_behind text o c.behind) e

pub goes-on : (bodies : Bodies) (text : Written) (c new : Tokens) (t : code.Token) (p q : Position) → c.next ≡ Ok t →
    step_on bodies p t.place (kind_token text t.kind) ≡ Ok q → placed_in text new ≡ drop 1 (placed_in text c) →
    run bodies p (placed_in text c) ≡ run bodies q (placed_in text new)
goes-on bodies text c new t p q e led rest =
    let front = in-front text c t e in
    ap (run bodies p) front ∙ run-on bodies p q t.place (kind_token text t.kind) (placed_left c.behind (drop c.behind text.source)) led
    ∙ ap (run bodies q) (sym (rest ∙ ap (drop 1) front))

pub stops : (bodies : Bodies) (text : Written) (c : Tokens) (t : code.Token) (p : Position) (kind : FaultKind) → has_no_nul text.source ≡ true →
    run bodies start (placed_tokens text.source) ≡ run bodies p (placed_in text c) → c.next ≡ Ok t →
    step_on bodies p t.place (kind_token text t.kind) ≡ Err kind →
    halt_in bodies text.source ≡ Some (halt (fault_of t.place kind) p (met_by (kind_token text t.kind)))
stops bodies text c t p kind none so_far e refused =
    let rest = placed_left c.behind (drop c.behind text.source) in
    let token = kind_token text t.kind in
    halts-in bodies text.source (p, (t.place, token) ∷ rest) none
    (so_far ∙ ap (run bodies p) (in-front text c t e) ∙ run-off bodies p t.place token rest kind refused)
    ∙ halts-at bodies (length (lexeme_end text.source) == 0) (end_fault text.source) p t.place token rest kind refused

pub ends : (bodies : Bodies) (text : Written) (c : Tokens) (end : SyntaxFault) (p : Position) → has_no_nul text.source ≡ true →
    run bodies start (placed_tokens text.source) ≡ run bodies p (placed_in text c) → c.next ≡ Err end → end ≡ end_fault text.source →
    halt_in bodies text.source ≡ halt_at bodies (length (lexeme_end text.source) == 0) end (p, [])
ends bodies text c end p none so_far e is =
    halts-in bodies text.source (p, []) none (so_far ∙ ap (run bodies p) (none-in-front text c end e) ∙ run-end bodies p)
    ∙ ap (λ f. halt_at bodies (length (lexeme_end text.source) == 0) f (p, [])) (sym is)

-- what is answered of a token that can't be here
pub answered : {E : Type 0} (r : Result (Option Halt) E) (known : Type 0) (h found : Option Halt) → IfOk r (λ o. known × (o ≡ h)) → (known → found ≡ h) → IfOk r (λ o. o ≡ found)
answered (Ok o) known h found e is = e.1 ∙ sym (is e.0)
answered (Err f) known h found e is = tt

-- a byte 0
pub nul-halts : (bodies : Bodies) (text : List ℕ) (f : Fault) → has_no_nul text ≡ false → f ≡ first_nul text →
    halt_in bodies text ≡ Some (halt (word_fault f) start End)
unfolding halt_in
nul-halts bodies text f has is = rw has (ap (λ g. Some (halt (word_fault g) start End)) (sym is))

pub end-halts : (bodies : Bodies) (p : Position) (found : Option Halt) (given end : SyntaxFault) (whole : Bool) →
    found ≡ (if is_whole p && is_missing given.kind then None else Some (halt given p End)) → given ≡ end → is_missing end.kind ≡ whole →
    found ≡ halt_at bodies whole end (p, [])
end-halts bodies p found given end whole e same is =
    e ∙ ap (λ (f : SyntaxFault). halt_at bodies (is_missing f.kind) f (p, [])) same ∙ ap (λ w. halt_at bodies w end (p, [])) is

-- whether the text ends where the tokens do
pub ends-missing : (text : Written) (c : Tokens) (end : SyntaxFault) (whole : Bool) → ends_whole text c ≡ whole → c.next ≡ Err end → is_missing end.kind ≡ whole
unfolding ends_whole
ends-missing text c end whole e next = sym (ap (λ o. whole_behind text o c.behind) next) ∙ e

pub word-halts : (p : Position) (found : Option Halt) (f : Fault) (given : SyntaxFault) →
    found ≡ (if is_whole p && is_missing given.kind then None else Some (halt given p End)) → given ≡ word_fault f → found ≡ Some (halt (word_fault f) p End)
word-halts p found f given e same =
    e ∙ ap (λ (g : SyntaxFault). if is_whole p && is_missing g.kind then None else Some (halt g p End)) same
    ∙ (rw (not-missing f.kind, and-false (is_whole p) false refl) refl)

pub first-is : (c : Tokens) (f end : SyntaxFault) → f ≡ fault_at c → c.next ≡ Err end → f ≡ end
first-is c f end e next = e ∙ ap first_fault next

pub stops-after : (bodies : Bodies) (text : Written) (c : Tokens) (t : code.Token) (p q : Position) (kind : FaultKind) → has_no_nul text.source ≡ true →
    run bodies start (placed_tokens text.source) ≡ run bodies p (placed_in text c) → c.next ≡ Ok t →
    (step_on bodies p t.place (kind_token text t.kind) ≡ Err kind) × (q ≡ p) →
    halt_in bodies text.source ≡ Some (halt (fault_of t.place kind) q (met_by (kind_token text t.kind)))
stops-after bodies text c t p q kind none so_far e refused =
    stops bodies text c t p kind none so_far e refused.0
    ∙ ap (λ (r : Position). Some (halt (fault_of t.place kind) r (met_by (kind_token text t.kind)))) (sym refused.1)

-- no halt is for memory
pub answered-kind : {E : Type 0} (r : Result (Option Halt) E) (place : ℕ) (kind : FaultKind) (p : Position) (m : Met) →
    IfOk r (λ o. (kind ≢ Memory) × (o ≡ Some (halt (fault_of place kind) p m))) → IfOk r (λ o. IfSome o (λ h. h.fault.kind ≢ Memory))
answered-kind (Ok o) place kind p m e = subst (λ (o : Option Halt). IfSome o (λ h. h.fault.kind ≢ Memory)) (sym e.1) e.0
answered-kind (Err f) place kind p m e = tt

pub ended-kind : (found : Option Halt) (none : Bool) (p : Position) (f : SyntaxFault) → f.kind ≢ Memory →
    found ≡ (if none then None else Some (halt f p End)) → IfSome found (λ h. h.fault.kind ≢ Memory)
ended-kind found true p f known e = subst (λ (o : Option Halt). IfSome o (λ h. h.fault.kind ≢ Memory)) (sym e) tt
ended-kind found false p f known e = subst (λ (o : Option Halt). IfSome o (λ h. h.fault.kind ≢ Memory)) (sym e) known

ends-by : (text : List ℕ) (stop : Option Fault) → (end_by text stop).kind ≢ Memory
ends-by text None e = absurd (cc)
ends-by text (Some f) e = word-not-memory f.kind e

pub end-not-memory : (text : List ℕ) → (end_fault text).kind ≢ Memory
unfolding end_fault
end-not-memory text = ends-by text (token_fault text)
