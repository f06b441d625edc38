-- Locks that are waited for, as it is printed.
use Rattle.std.proofs.Common.{◌≡◌, [], ◌∷◌, ◌++◌, ℕ, List, Option, Bool, true, false, refl, subst, sym, ap, append_assoc, codes}
use Rattle.std.specs.Prelude.{MatchBool}
use Rattle.std.proofs.KnownBytes.{Appends-nil}
use Rattle.std.proofs.lemmas.List.{append-nil}
use Rattle.std.specs.Io.KnownBytes.{Appends}
use Rattle.fw_files.specs.Locks.{HasWaited, Waits, waiting_line}
use Rattle.fw_engines.specs.Streams.{AppendsFront, AppendsPart}

pub front_written : (all : Bool) (a b : Option (List ℕ)) (text : List ℕ) → MatchBool all (Appends a b text) (AppendsPart a b text) → AppendsFront a b text
front_written true a b text p = (text, [], sym (append-nil text), p)
front_written false a b text p = (p.0, p.1, p.2, p.4)

pub silent_front : (a : Option (List ℕ)) (text : List ℕ) → AppendsFront a a text
silent_front a text = ([], text, refl, Appends-nil a)

pub not_waited : (a b : Option (List ℕ)) → b ≡ a → HasWaited a b
not_waited a b same = ([], same)

pub waiting_text : (path : List ℕ) → codes "fwenv: waiting for " ++ (path ++ codes ", which another program has locked\n") ≡ waiting_line path
waiting_text path = ap (λ (t : List ℕ). codes "fwenv: waiting for " ++ t) (sym (append_assoc path (codes ", which another program has locked") (10 ∷ [])))

pub once_waited : (path : List ℕ) (a b : Option (List ℕ)) → AppendsFront a b (waiting_line path) → HasWaited a b
once_waited path a b p = (path ∷ [], (b, p, refl))

pub waited_on : (a b c : Option (List ℕ)) → HasWaited a b → HasWaited b c → HasWaited a c
waited_on a b c p q = (p.0 ++ q.0, join p.0 a p.1)
  where
    join : (paths : List (List ℕ)) (x : Option (List ℕ)) → Waits paths x b → Waits (paths ++ q.0) x c
    join [] x w = subst (λ (n : Option (List ℕ)). Waits q.0 n c) w q.1
    join (path ∷ paths) x w = (w.0, w.1, join paths w.0 w.2)

pub waited_from : (a b c : Option (List ℕ)) → b ≡ a → HasWaited b c → HasWaited a c
waited_from a b c same p = subst (λ (o : Option (List ℕ)). HasWaited o c) same p

pub waited_to : (a b c : Option (List ℕ)) → HasWaited a b → c ≡ b → HasWaited a c
waited_to a b c p same = subst (λ (o : Option (List ℕ)). HasWaited a o) (sym same) p
