-- What is known of variables, and texts of which all is known (docs/check.md).
use Rattle.std.specs.Prelude.{ℕ, nat_le, ◌==◌, ◌&&◌, ◌||◌, not, Bool, true, false, List, [], ◌∷◌, ◌++◌, codes, map, filter, Option, Some, None, is_some, length, option_map, take, if◌then◌else◌}
use Rattle.std.specs.FinMap.{get}
use Rattle.std.specs.List.{list_any, prefix_len}
use Rattle.envimg_core.specs.Environment.{Environment, Pair}
use Rattle.hush_words.specs.Words.{Atom}
use Rattle.hush_words.specs.Words.Atom.{Plain, Quoted, Mark, Value, Status}
use Rattle.fw_check.specs.Literals.{is_word_of}

-- what is known if there is an environment: it, whether one of the scripts checked gives a name to something, foresees it, or writes
-- its variable, and whether a board reads the value of a variable anew, or does so where it cuts words
pub record Known : Type 0 where
  pub env : Environment
  pub given : List ℕ → Bool
  pub foreseen : List ℕ → Bool
  pub written : List ℕ → Bool
  pub reread : List ℕ → Bool
  pub recut : List ℕ → Bool

abbrev pub is_defined : Option Known → List ℕ → Bool
is_defined None name = false
is_defined (Some known) name = is_some (get known.env name)

-- a script writes its variable
abbrev pub is_written : Option Known → List ℕ → Bool
is_written None name = false
is_written (Some known) name = known.written name

-- no variable of this name is there, and none is foreseen
abbrev pub is_undefined : Option Known → List ℕ → Bool
is_undefined None name = false
is_undefined (Some known) name = not (is_some (get known.env name) || known.foreseen name)

-- the variables that U-Boot and its commands set by themselves, and `boardver`, which its scripts use on every board
abbrev pub set_by_commands : List (List ℕ)
set_by_commands =
    codes "boardver" ∷ codes "bootargs" ∷ codes "bootcount" ∷ codes "bootfile" ∷ codes "devnum" ∷ codes "devtype"
    ∷ codes "distro_bootpart" ∷ codes "dnsip" ∷ codes "dnsip2" ∷ codes "domain" ∷ codes "ethact" ∷ codes "ethaddr"
    ∷ codes "fdtaddr" ∷ codes "fdtcontroladdr" ∷ codes "fileaddr" ∷ codes "filesize" ∷ codes "gatewayip" ∷ codes "hostname"
    ∷ codes "ipaddr" ∷ codes "llipaddr" ∷ codes "mtddevname" ∷ codes "mtddevnum" ∷ codes "mtdids" ∷ codes "mtdparts"
    ∷ codes "netmask" ∷ codes "ntpserverip" ∷ codes "partition" ∷ codes "prefix" ∷ codes "rootpath" ∷ codes "serverip"
    ∷ codes "stderr" ∷ codes "stdin" ∷ codes "stdout" ∷ codes "timeoffset" ∷ codes "ver" ∷ []

-- neither the environment, U-Boot and its commands, nor one of the scripts defines a variable of this name
abbrev pub is_lacking : Option Known → List ℕ → Bool
is_lacking None name = false
is_lacking (Some known) name = not (is_some (get known.env name) || is_word_of set_by_commands name || known.given name)

-- ---- words of which all is known

-- a value that isn't too long for a name
abbrev pub short_value : Option (List ℕ) → Option (List ℕ)
short_value None = None
short_value (Some value) = if nat_le (length value) 4096 then Some value else None

-- the value of a variable that nothing sets but the environment
abbrev pub constant : Option Known → List ℕ → Option (List ℕ)
constant None name = None
constant (Some known) name = if is_word_of set_by_commands name || known.given name then None else short_value (get known.env name)

abbrev pub joined : Option (List ℕ) → Option (List ℕ) → Option (List ℕ)
joined None rest = None
joined (Some bytes) rest = option_map (λ bs. bytes ++ bs) rest

abbrev pub text_of : Option Known → List Atom → Option (List ℕ)
text_of known [] = Some []
text_of known (Plain b ∷ atoms) = option_map (λ bs. b ∷ bs) (text_of known atoms)
text_of known (Quoted b ∷ atoms) = option_map (λ bs. b ∷ bs) (text_of known atoms)
text_of known (Mark ∷ atoms) = text_of known atoms
text_of known (Value name quoted ∷ atoms) = joined (constant known name) (text_of known atoms)
text_of known (Status quoted ∷ atoms) = None

-- what is before the first blank or newline
abbrev pub is_in_field : ℕ → Bool
is_in_field b = not (b == 32 || b == 9 || b == 10)

abbrev pub first_field : List ℕ → List ℕ
first_field bytes = take (prefix_len is_in_field bytes) bytes

-- the first field of such a word, if it has one
abbrev pub field_in : Option (List ℕ) → Option (List ℕ)
field_in None = None
field_in (Some bytes) = if length (first_field bytes) == 0 then None else Some (first_field bytes)

abbrev pub field_of : Option Known → List Atom → Option (List ℕ)
field_of known atoms = field_in (text_of known atoms)

-- ---- values that a board reads anew

abbrev pub is_reread : Option Known → (cut : Bool) → List ℕ → Bool
is_reread None cut name = false
is_reread (Some known) cut name = known.reread name || cut && known.recut name

-- the names in a word whose values are read so; outside of quotes, and in a simple command, the value is cut
abbrev pub reread_names : Option Known → (cut : Bool) → List Atom → List (List ℕ)
reread_names known cut [] = []
reread_names known cut (Plain b ∷ atoms) = reread_names known cut atoms
reread_names known cut (Quoted b ∷ atoms) = reread_names known cut atoms
reread_names known cut (Mark ∷ atoms) = reread_names known cut atoms
reread_names known cut (Value name quoted ∷ atoms) =
    if is_reread known (cut && not quoted) name then name ∷ reread_names known cut atoms else reread_names known cut atoms
reread_names known cut (Status quoted ∷ atoms) = reread_names known cut atoms

-- a `'`, a backslash or a newline is read anew in quotes too
abbrev pub rereads : ℕ → Bool
rereads b = b == 39 || b == 92 || b == 10

-- a `#` is, where a word may begin: `begins`
abbrev pub has_comment : (begins : Bool) → List ℕ → Bool
has_comment begins [] = false
has_comment begins (b ∷ bs) = begins && b == 35 || has_comment (not (is_in_field b)) bs

abbrev pub is_double_quote : ℕ → Bool
is_double_quote b = b == 34

abbrev pub is_recut : List ℕ → Bool
is_recut value = list_any is_double_quote value || has_comment true value

-- the variables of an environment whose values pass
abbrev pub names_by : (List ℕ → Bool) → List Pair → List (List ℕ)
names_by passes pairs = map (λ p. p.0) (filter (λ p. passes p.1) pairs)
