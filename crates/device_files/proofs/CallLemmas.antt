-- How what a crash might have left goes on by one call that wrote nothing.
use Rattle.std.proofs.Common.{◌≡◌, inl, inr, ℕ, List, ◌∷◌, length, sym, ◌∙◌, ap, subst, arith}
use Rattle.devices.specs.Device.{Untouched}
use Rattle.device_files.specs.declared.record.Call.{Call}
use Rattle.device_files.specs.Calls.{seen_after, MayLeave, LeftSince, counts_now}

nothing_new : (start : List ℕ) (call : Call) (calls : List Call) (t : ℕ) (left : List ℕ) → ((other : List ℕ) → MayLeave start (call ∷ calls) other → MayLeave start calls other)
    → LeftSince start (call ∷ calls) t left → LeftSince start calls t left
nothing_new start call calls t left less (inl now) = counts_now start calls t left (less left now)
nothing_new start call calls t left less (inr was) = was.1

-- a device whose calls are these; a call that wrote nothing leaves what is seen, and no more than before
pub untouched : {D : Type 0} (calls : D → List Call) (start : List ℕ) (old new : D) (call : Call) → calls new ≡ call ∷ calls old
    → seen_after start (call ∷ calls old) ≡ seen_after start (calls old)
    → ((left : List ℕ) → MayLeave start (call ∷ calls old) left → MayLeave start (calls old) left)
    → Untouched (λ d. seen_after start (calls d)) (λ d left. MayLeave start (calls d) left) (λ d. length (calls d)) (λ d t left. LeftSince start (calls d) t left) old new
untouched calls start old new call is same less = record {
  same = ap (λ l. seen_after start l) is ∙ same;
  crash = λ left may. less left (subst (λ l. MayLeave start l left) is may);
  later = omega (arith, ap length is);
  nothing_else = λ t left le since. nothing_new start call (calls old) t left less (subst (λ l. LeftSince start l t left) is since);
  keeps = λ t left le since. subst (λ l. LeftSince start l t left) (sym is) (inr (le, since));
}
