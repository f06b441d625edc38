-- What is printed, one text after the other.
use Rattle.std.proofs.Common.{◌≡◌, ℕ, List, [], ◌++◌, length, Ok, Err, sym, ap, ◌∙◌, append_assoc, append-nil, arith, length-append}
use Rattle.std.specs.Prelude.{Result}
use Rattle.hush_commands.specs.declared.output.PrintFault.{PrintFault}
use Rattle.hush_commands.specs.declared.output.PrintFault.TheVariants.{Output, Memory}
use Rattle.hush_commands.specs.Output.{Printed, printed, GoesOn, Prints}

onto : (xs ys : List ℕ) (a b c : Printed) → b ≡ printed (a.text ++ xs) a.limit → c ≡ printed (b.text ++ ys) b.limit → c ≡ printed (a.text ++ (xs ++ ys)) a.limit
onto xs ys a b c e f = f ∙ ap (λ (p : Printed). printed (p.text ++ ys) p.limit) e ∙ ap (λ (zs : List ℕ). printed zs a.limit) (append_assoc a.text xs ys)

goes-on : (xs : List ℕ) (a b c : Printed) → b ≡ printed (a.text ++ xs) a.limit → GoesOn b c → GoesOn a c
goes-on xs a b c e (more, f) = (xs ++ more, onto xs more a b c e f)

len : (xs ys : List ℕ) (a b : Printed) → b ≡ printed (a.text ++ xs) a.limit → length (b.text ++ ys) ≡ length (a.text ++ (xs ++ ys))
len xs ys a b e = ap (λ (p : Printed). length (p.text ++ ys)) e ∙ ap (λ (zs : List ℕ). length zs) (append_assoc a.text xs ys)

pub prints-then : (xs ys : List ℕ) (a b c : Printed) (r : Result (Unit {0}) PrintFault) → Prints xs a b (Ok tt) → Prints ys b c r → Prints (xs ++ ys) a c r
prints-then xs ys a b c (Ok u) f g = onto xs ys a b c f g
prints-then xs ys a b c (Err Output) f g = let l = len xs ys a b f in let m = ap (λ (p : Printed). p.limit) f in (omega (arith, g.0, l, m), goes-on xs a b c f g.1)
prints-then xs ys a b c (Err Memory) f g = goes-on xs a b c f g

pub prints-front : (xs ys : List ℕ) (a b : Printed) (f : PrintFault) → Prints xs a b (Err f) → Prints (xs ++ ys) a b (Err f)
prints-front xs ys a b Output h = (omega (arith, h.0, length-append a.text xs, length-append a.text (xs ++ ys), length-append xs ys), h.1)
prints-front xs ys a b Memory h = h

pub prints-nothing : (a : Printed) → Prints [] a a (Ok tt)
prints-nothing a = ap (λ (xs : List ℕ). printed xs a.limit) (sym (append-nil a.text))
