-- The names of the commands that a run has itself (docs/runs.md, "Names of builtins").
use Rattle.std.specs.Prelude.{ℕ, Bool, ◌||◌, List, [], ◌∷◌, codes, find, Option}
use Rattle.std.specs.Str.{bytes_eq}
use Rattle.hush_commands.specs.declared.builtins.Builtin.{Builtin}
use Rattle.hush_commands.specs.declared.builtins.Builtin.TheVariants.{True, False, Echo, SetEnv, PrintEnv, SaveEnv, Run, Env, Test, SetExpr, Exit}

abbrev pub is_called : Builtin → List ℕ → Bool
is_called True name = bytes_eq (codes "true") name
is_called False name = bytes_eq (codes "false") name
is_called Echo name = bytes_eq (codes "echo") name
is_called SetEnv name = bytes_eq (codes "setenv") name
is_called PrintEnv name = bytes_eq (codes "printenv") name
is_called SaveEnv name = bytes_eq (codes "saveenv") name
is_called Run name = bytes_eq (codes "run") name
is_called Env name = bytes_eq (codes "env") name
is_called Test name = bytes_eq (codes "test") name
is_called SetExpr name =
    bytes_eq (codes "setexpr") name
    || bytes_eq (codes "setexpr.b") name
    || bytes_eq (codes "setexpr.w") name
    || bytes_eq (codes "setexpr.l") name
    || bytes_eq (codes "setexpr.q") name
is_called Exit name = bytes_eq (codes "exit") name

-- its name, without the suffixes of `setexpr`
abbrev pub name_of : Builtin → List ℕ
name_of True = codes "true"
name_of False = codes "false"
name_of Echo = codes "echo"
name_of SetEnv = codes "setenv"
name_of PrintEnv = codes "printenv"
name_of SaveEnv = codes "saveenv"
name_of Run = codes "run"
name_of Env = codes "env"
name_of Test = codes "test"
name_of SetExpr = codes "setexpr"
name_of Exit = codes "exit"

abbrev pub builtins : List Builtin
builtins = True ∷ False ∷ Echo ∷ SetEnv ∷ PrintEnv ∷ SaveEnv ∷ Run ∷ Env ∷ Test ∷ SetExpr ∷ Exit ∷ []

-- the builtin of a name
unfoldable pub builtin_of : List ℕ → Option Builtin
builtin_of name = find (λ builtin. is_called builtin name) builtins
