-- Rules that can't be reached.
use Rattle.std.proofs.Common.{◌≡◌, ℕ, ◌==◌, zero, suc, ◌≤◌, ◌||◌, ◌&&◌, Bool, true, false, not, List, [], ◌∷◌, ◌++◌, length, take, Option, Some, is_some, refl, sym, ap, ◌∙◌, ⊎_elim, arith}
use Rattle.std.specs.Str.{bytes_eq}
use Rattle.std.proofs.lemmas.Bool.{false≢true, true≢false, cases_Bool, cond-true, cond-false, and_parts}
use Rattle.std.proofs.lemmas.Slice.Eq.{bytes_eq-Decides}
use Rattle.std.specs.Prelude.{if◌then◌else◌}
use Rattle.std.proofs.lemmas.List.{length-take}
use Rattle.hush_commands.specs.declared.pattern.PatternWord.{PatternWord}
use Rattle.hush_commands.specs.declared.board_rules.Rule.{Rule}
use Rattle.hush_commands.specs.declared.board_rules.Reply.{Reply}
use Rattle.hush_commands.specs.CommandNames.{begins_with as is_beginning}
use Rattle.hush_commands.specs.Hardware.{pattern_fits, rule_fits, ruled, word_fits}
use Rattle.board_file.specs.Covering.{CoveredIsAnswered, CoveredIsNothing, covers, is_covered, rule_covers, word_covers}

same : (xs ys : List ℕ) → bytes_eq xs ys ≡ true → xs ≡ ys
same xs ys h = (bytes_eq-Decides xs ys).0 h

alike : (xs ys : List ℕ) → xs ≡ ys → bytes_eq xs ys ≡ true
alike xs ys e = (bytes_eq-Decides xs ys).1 e

take_less : (n m : ℕ) (xs : List ℕ) → n ≤ m → take n (take m xs) ≡ take n xs
take_less zero m xs h = refl
take_less (suc n) zero xs h = absurd (omega arith)
take_less (suc n) (suc m) [] h = refl
take_less (suc n) (suc m) (x ∷ xs) h = ap (λ (ys : List ℕ). x ∷ ys) (take_less n m xs (omega arith))

-- what begins a beginning
beginning : (w v x : List ℕ) → w ≡ take (length w) v → v ≡ take (length v) x → w ≡ take (length w) x
beginning w v x first second =
    let len = ap length first ∙ length-take (length w) v in
    first ∙ ap (λ (ys : List ℕ). take (length w) ys) second ∙ take_less (length w) (length v) x (omega (arith, len))

text_covered : (begins opened : Bool) (w v x : List ℕ) → (if begins then is_beginning w v else not opened && bytes_eq w v) ≡ true →
    (if opened then bytes_eq v (take (length v) x) else bytes_eq v x) ≡ true → (if begins then bytes_eq w (take (length w) x) else bytes_eq w x) ≡ true
text_covered true true w v x h f = alike w (take (length w) x) (beginning w v x (same w (take (length w) v) h) (same v (take (length v) x) f))
text_covered true false w v x h f = alike w (take (length w) x) (same w (take (length w) v) h ∙ ap (λ (ys : List ℕ). take (length w) ys) (same v x f))
text_covered false true w v x h f = absurd (false≢true h)
text_covered false false w v x h f = alike w x (same w v h ∙ same v x f)

both : (a b : Bool) → a ≡ true → b ≡ true → (a && b) ≡ true
both true b h k = k
both false b h k = h

or_rest : (a b : Bool) → a ≡ false → (a || b) ≡ true → b ≡ true
or_rest true b e h = absurd (true≢false e)
or_rest false b e h = h

-- what a pattern fits, one that covers it fits
pattern_covered : (ws vs : List PatternWord) (fields : List (List ℕ)) → covers ws vs ≡ true → pattern_fits vs fields ≡ true → pattern_fits ws fields ≡ true
pattern_covered [] vs fields h f = refl
pattern_covered (w ∷ ws) [] fields h f = absurd (false≢true h)
pattern_covered (w ∷ ws) (v ∷ vs) [] h f = absurd (false≢true f)
pattern_covered (w ∷ ws) (v ∷ vs) (x ∷ xs) h f =
    let c = and_parts (word_covers w v) (covers ws vs) h in
    let g = and_parts (word_fits v x) (pattern_fits vs xs) f in
    both (word_fits w x) (pattern_fits ws xs) (text_covered w.begins v.begins w.text v.text x c.0 g.0) (pattern_covered ws vs xs c.1 g.1)

left_or : (a b : Bool) → a ≡ true → (a || b) ≡ true
left_or true b h = refl
left_or false b h = absurd (false≢true h)

-- and what a rule covers, it fits
rule_covered : (r : Rule) (vs : List PatternWord) (fields : List (List ℕ)) → rule_covers r vs ≡ true → pattern_fits vs fields ≡ true → rule_fits r fields ≡ true
rule_covered r vs fields h f =
    let c = and_parts (not r.whole) (covers r.pattern vs) h in
    both (pattern_fits r.pattern fields) (not r.whole || length fields == length r.pattern) (pattern_covered r.pattern vs fields c.1 f)
    (left_or (not r.whole) (length fields == length r.pattern) c.0)

uncovered : (r : Rule) (vs : List PatternWord) (fields : List (List ℕ)) → rule_fits r fields ≡ false → pattern_fits vs fields ≡ true → rule_covers r vs ≡ false
uncovered r vs fields none f =
    ⊎_elim (λ yes. absurd (true≢false (sym (rule_covered r vs fields yes f) ∙ none))) (λ no. no) (cases_Bool (rule_covers r vs))

pub covered-answered : CoveredIsAnswered
covered-answered [] pattern fields h f = absurd (false≢true h)
covered-answered (r ∷ rules) pattern fields h f =
    ⊎_elim
    (λ yes. ap is_some (cond-true (rule_fits r fields) (Some r.reply) (ruled rules fields) yes))
    (λ no.
    ap is_some (cond-false (rule_fits r fields) (Some r.reply) (ruled rules fields) no)
    ∙ covered-answered rules pattern fields (or_rest (rule_covers r pattern) (is_covered rules pattern) (uncovered r pattern fields no f) h) f)
    (cases_Bool (rule_fits r fields))

-- a rule that doesn't fit
unfit : (rules more : List Rule) (rule : Rule) (fields : List (List ℕ)) → rule_fits rule fields ≡ false → ruled (rules ++ rule ∷ more) fields ≡ ruled (rules ++ more) fields
unfit [] more rule fields unfits = cond-false (rule_fits rule fields) (Some rule.reply) (ruled more fields) unfits
unfit (r ∷ rules) more rule fields unfits = ap (λ (o : Option Reply). if rule_fits r fields then Some r.reply else o) (unfit rules more rule fields unfits)

pub covered-nothing : CoveredIsNothing
covered-nothing [] more rule fields h = absurd (false≢true h)
covered-nothing (r ∷ rules) more rule fields h =
    let with_rule = ruled (rules ++ rule ∷ more) fields in
    let without = ruled (rules ++ more) fields in
    ⊎_elim
    (λ yes. cond-true (rule_fits r fields) (Some r.reply) with_rule yes ∙ sym (cond-true (rule_fits r fields) (Some r.reply) without yes))
    (λ no.
    ap (λ (o : Option Reply). if rule_fits r fields then Some r.reply else o)
    (⊎_elim
    (λ fits. covered-nothing rules more rule fields
    (or_rest (rule_covers r rule.pattern) (is_covered rules rule.pattern)
    (uncovered r rule.pattern fields no (and_parts (pattern_fits rule.pattern fields) (not rule.whole || length fields == length rule.pattern) fits).0) h))
    (λ unfits. unfit rules more rule fields unfits)
    (cases_Bool (rule_fits rule fields))))
    (cases_Bool (rule_fits r fields))
