use Rattle.std.proofs.Common.{◌≡◌, ℕ, ◌+◌, ◌-◌, Bool, true, false, List, arith, ap, drop, get_or, suc, sym, ◌∙◌}
use Rattle.std.proofs.lemmas.List.{drop_all, drop_more}
use Rattle.fw_check.specs.EntryPlaces.{spelled_length}
use Rattle.fw_check.proofs.EntryPlaceLemmas.{left_after, spelled-end, spelled-next, spelled-none, spells-so}
use Rattle.fw_check.proofs.entry_places.spelled_length.Goals as goal
use Rattle.fw_check.proofs.entry_places.spelled_length.Goals.{then-not-escaped, else-not-escaped}

-- no byte of the value is left
value-at-end : goal.returns-then-left-eq0-clause-value
value-at-end c =
    let text = c.args.text.now in
    let i = c.loop-byte.byte-index in
    let rest = ap (λ (n : ℕ). spelled_length c.loop-byte.escaped n (drop i text)) c.if-left-eq0.true ∙ spelled-none c.loop-byte.escaped (drop i text) in
    let all : c.loop-byte.length ≡ c.loop-byte.length + 0 = omega arith in
    all ∙ ap (λ (n : ℕ). c.loop-byte.length + n) (sym rest) ∙ c.loop-byte.invariant.value

pub returns-then-left-eq0-clause-value : goal.returns-then-left-eq0-clause-value
returns-then-left-eq0-clause-value c = value-at-end c

pub returns-then-left-eq0-clause-spells : goal.returns-then-left-eq0-clause-spells
returns-then-left-eq0-clause-spells c = spells-so c.args.text.now c.args.count c.loop-byte.length (value-at-end c)

-- what is left after one byte of the text
escape-left : (escaped : Bool) (left now : ℕ) → escaped ≡ true → now ≡ left → now ≡ left_after escaped left
escape-left true left now h e = e
escape-left false left now h e = absurd (let no : false ≡ true = h in cc)

byte-left : (escaped : Bool) (left now : ℕ) → escaped ≡ false → now ≡ left - 1 → now ≡ left_after escaped left
byte-left false left now h e = e
byte-left true left now h e = absurd (let no : true ≡ false = h in cc)

left-is : (c : goal.Joined-not-escaped) → c.if-not-escaped.left ≡ left_after c.is_escape-escaped.result c.loop-byte.left
left-is c =
    elim c.if-not-escaped.branch [
      | then-not-escaped w ↦ byte-left c.is_escape-escaped.result c.loop-byte.left c.if-not-escaped.left w.if-not-escaped.true w.left-is
      | else-not-escaped w ↦ escape-left c.is_escape-escaped.result c.loop-byte.left c.if-not-escaped.left w.if-not-escaped.false w.left-is
    ]

pub loop-byte-preserved : goal.loop-byte-preserved
loop-byte-preserved c =
    let text = c.args.text.now in
    let i = c.loop-byte.byte-index in
    let l = c.loop-byte in
    let b = get_or text i 0 in
    let rest = drop (i + 1) text in
    let now = c.is_escape-escaped.result in
    let one = ap (λ (bs : List ℕ). spelled_length l.escaped l.left bs) (drop_more text i 0 c.loop-byte-test.true) ∙ spelled-next l.escaped now l.left b rest c.if-left-eq0.false c.is_escape-escaped.ensures in
    let counted : l.length + 1 + spelled_length now (left_after now l.left) rest ≡ l.length + suc (spelled_length now (left_after now l.left) rest) = omega arith in
    record {
      far = ap (λ (n : ℕ). n + 1) l.invariant.far;
      value = ap (λ (n : ℕ). l.length + 1 + spelled_length now n rest) (left-is c) ∙ counted ∙ ap (λ (n : ℕ). l.length + n) (sym one) ∙ l.invariant.value;
    }

-- nor is one of the text
value-at-last : goal.returns-clause-value
value-at-last c =
    let text = c.args.text.now in
    let i = c.loop-byte.byte-index in
    let rest = ap (λ (bs : List ℕ). spelled_length c.loop-byte.escaped c.loop-byte.left bs) (drop_all i text c.loop-byte-test.false) ∙ spelled-end c.loop-byte.escaped c.loop-byte.left in
    let all : c.loop-byte.length ≡ c.loop-byte.length + 0 = omega arith in
    all ∙ ap (λ (n : ℕ). c.loop-byte.length + n) (sym rest) ∙ c.loop-byte.invariant.value

pub returns-clause-value : goal.returns-clause-value
returns-clause-value c = value-at-last c

pub returns-clause-spells : goal.returns-clause-spells
returns-clause-spells c = spells-so c.args.text.now c.args.count c.loop-byte.length (value-at-last c)
