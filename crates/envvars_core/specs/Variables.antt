-- Variables as callers see them: an environment, and the room of its data area.
use Rattle.std.specs.Prelude.{◌≡◌, ℕ, List, Option, Some, None, IfSome, IsTrue, option_map, refl}
use Rattle.std.specs.Coded.{Coded, code_by, coded×, coded_ℕ, coded_list}
use Rattle.std.specs.FinMap as finite
use Rattle.envimg_core.specs.Environment.{Environment, is_name, is_value, pair_size}
use Rattle.envvars_core.specs.declared.variables.checked_writes.Was.{Was}

pub record Contents : Type 0 where
  pub env : Environment
  pub room : ℕ

abbrev pub contents_code : Coded Contents
contents_code =
    code_by (Environment × ℕ) (coded× (finite.code (coded_list coded_ℕ) (coded_list coded_ℕ)) coded_ℕ)
    (λ v. (v.env, v.room)) (λ p. record { env = p.0; room = p.1 }) (λ _. refl)

-- the bytes that the variable of a name takes: 0 if it has no value
abbrev pub size_of : List ℕ → Option (List ℕ) → ℕ
size_of n None = 0
size_of n (Some v) = pair_size (n, v)

-- a name, and the value that it had or no value
abbrev pub IsWas : Was → List ℕ → Option (List ℕ) → Type 0
IsWas previous n value = (previous.name.items ≡ n) × (option_map (λ v. v.items) previous.before ≡ value)

-- the name is a name, and the value, if there was one, a value
abbrev pub IsFormedWas : Was → Type 0
IsFormedWas previous =
    IsTrue (is_name previous.name.items) × IfSome (option_map (λ v. v.items) previous.before) (λ v. IsTrue (is_value v))
