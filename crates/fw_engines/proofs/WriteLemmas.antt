-- Texts written one after the other.
use Rattle.std.proofs.Common.{◌≡◌, ◌++◌, List, [], ℕ, Option, Some, None, Bool, true, false, arith, length-append, refl, sym, ap, ◌∙◌, subst, append_assoc, append-nil, inl, inr}
use Rattle.std.specs.Prelude.{MatchBool, MatchOption}
use Rattle.std.proofs.KnownBytes.{Appends-nil, Appends-trans}
use Rattle.std.specs.Io.KnownBytes.{Appends}
use Rattle.fw_engines.specs.Streams.{AppendsFront, AppendsPart, Writers}
use Rattle.fw_engines.specs.Tool.{Texts, Writes, WritesPart, Printed, Prints, PrintsText}
use Rattle.fw_engines.specs.declared.tool_end.ToolEnd.{ToolEnd}
use Rattle.fw_engines.specs.declared.tool_end.StreamFault.{StreamFault}
use Rattle.fw_engines.specs.declared.tool_end.StreamFault.TheVariants.{Write}

pub nothing : (a : Option (List ℕ)) → AppendsFront a a []
nothing a = ([], [], refl, Appends-nil a)

pub whole : (a b : Option (List ℕ)) (x : List ℕ) → Appends a b x → AppendsFront a b x
whole a b x p = (x, [], sym (append-nil x), p)

-- a prefix of the first text is one of both together
pub front_more : (a b : Option (List ℕ)) (x y : List ℕ) → AppendsFront a b x → AppendsFront a b (x ++ y)
front_more a b x y p = (p.0, p.1 ++ y, ap (λ z. z ++ y) p.2 ∙ append_assoc p.0 p.1 y, p.3)

pub part_more : (a b : Option (List ℕ)) (x y : List ℕ) → AppendsPart a b x → AppendsPart a b (x ++ y)
part_more a b x y p = (p.0, p.1 ++ y, ap (λ z. z ++ y) p.2 ∙ append_assoc p.0 p.1 y, omega (arith, length-append p.1 y, p.3), p.4)

-- and so is the first text with a prefix of the second
pub front_after : (a b c : Option (List ℕ)) (x y : List ℕ) → Appends a b x → AppendsFront b c y → AppendsFront a c (x ++ y)
front_after a b c x y p q = (x ++ q.0, q.1, ap (λ z. x ++ z) q.2 ∙ sym (append_assoc x q.0 q.1), Appends-trans a b c x q.0 p q.3)

pub part_after : (a b c : Option (List ℕ)) (x y : List ℕ) → Appends a b x → AppendsPart b c y → AppendsPart a c (x ++ y)
part_after a b c x y p q = (x ++ q.0, q.1, ap (λ z. x ++ z) q.2 ∙ sym (append_assoc x q.0 q.1), q.3, Appends-trans a b c x q.0 p q.4)

-- the last of several writes
pub after : (r : Bool) (a b c : Option (List ℕ)) (x y : List ℕ) → Appends a b x → MatchBool r (Appends b c y) (AppendsPart b c y) → MatchBool r (Appends a c (x ++ y)) (AppendsPart a c (x ++ y))
after true a b c x y p q = Appends-trans a b c x y p q
after false a b c x y p q = part_after a b c x y p q

-- ---- ends of a tool

pub stopped_text : (end : ToolEnd) (a b : Option (List ℕ)) (text : List ℕ) (s : ℕ) → (end.status ≡ 1) × (end.fault ≡ Some Write) → AppendsPart a b text → PrintsText a b text s end
stopped_text end a b text s is p =
    subst (λ f. MatchOption f (Appends a b text × (end.status ≡ s)) (λ fault. (fault ≡ Write) × AppendsPart a b text × (end.status ≡ 1))) (sym is.1) (refl, p, is.0)

pub stopped_prints : (end : ToolEnd) (a b : Writers) (texts : Texts) → (end.status ≡ 1) × (end.fault ≡ Some Write) → WritesPart a b texts → Prints a b texts end
stopped_prints end a b texts is p =
    subst (λ f. MatchOption f (Writes a b texts × (end.status ≡ texts.status)) (λ fault. (fault ≡ Write) × WritesPart a b texts × (end.status ≡ 1))) (sym is.1) (refl, p, is.0)

-- one text on standard error, or on standard output, as what a tool prints
pub errors_print : (end : ToolEnd) (o a b : Option (List ℕ)) (text : List ℕ) → PrintsText a b text 1 end → Prints (record { output = o; errors = a }) (record { output = o; errors = b }) (record { output = []; errors = text; status = 1 }) end
errors_print end o a b text p = by_fault end.fault p
  where
    by_fault : (f : Option StreamFault) → MatchOption f (Appends a b text × (end.status ≡ 1)) (λ fault. (fault ≡ Write) × AppendsPart a b text × (end.status ≡ 1)) →
        MatchOption f (Writes (record { output = o; errors = a }) (record { output = o; errors = b }) (record { output = []; errors = text; status = 1 }) × (end.status ≡ 1))
        (λ fault. (fault ≡ Write) × WritesPart (record { output = o; errors = a }) (record { output = o; errors = b }) (record { output = []; errors = text; status = 1 }) × (end.status ≡ 1))
    by_fault None h = ((Appends-nil o, h.0), h.1)
    by_fault (Some f) h = (h.0, inr (nothing o, h.1), h.2)

pub output_prints : (end : ToolEnd) (e a b : Option (List ℕ)) (text : List ℕ) → PrintsText a b text 0 end → Prints (record { output = a; errors = e }) (record { output = b; errors = e }) (record { output = text; errors = []; status = 0 }) end
output_prints end e a b text p = by_fault end.fault p
  where
    by_fault : (f : Option StreamFault) → MatchOption f (Appends a b text × (end.status ≡ 0)) (λ fault. (fault ≡ Write) × AppendsPart a b text × (end.status ≡ 1)) →
        MatchOption f (Writes (record { output = a; errors = e }) (record { output = b; errors = e }) (record { output = text; errors = []; status = 0 }) × (end.status ≡ 0))
        (λ fault. (fault ≡ Write) × WritesPart (record { output = a; errors = e }) (record { output = b; errors = e }) (record { output = text; errors = []; status = 0 }) × (end.status ≡ 1))
    by_fault None h = ((h.0, Appends-nil e), h.1)
    by_fault (Some f) h = (h.0, inl (h.1, nothing e), h.2)

-- a tool that never runs out of memory is one that may run out of it
pub prints_printed : (end : ToolEnd) (a b : Writers) (texts : Texts) → Prints a b texts end → Printed end.fault a b texts end.status
prints_printed end a b texts p = by_fault end.fault p
  where
    by_fault : (f : Option StreamFault) → MatchOption f (Writes a b texts × (end.status ≡ texts.status)) (λ fault. (fault ≡ Write) × WritesPart a b texts × (end.status ≡ 1)) → Printed f a b texts end.status
    by_fault None h = h
    by_fault (Some f) h = subst (λ x. Printed (Some x) a b texts end.status) (sym h.0) (h.1, h.2)

-- three texts appended one after the other
pub three_more : (a b c d x y z : List ℕ) → b ≡ a ++ x → c ≡ b ++ y → d ≡ c ++ z → d ≡ a ++ (x ++ y ++ z)
three_more a b c d x y z p q r =
    r ∙ ap (λ t. t ++ z) (q ∙ ap (λ t. t ++ y) p ∙ append_assoc a x y) ∙ append_assoc a (x ++ y) z
