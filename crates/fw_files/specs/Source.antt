-- From the bytes of files to a session (docs/tools.md, "Subcommands over files").
use Rattle.std.specs.Prelude.{◌≡◌, ◌⊎◌, ℕ, ◌==◌, ◌&&◌, Bool, true, false, not, if◌then◌else◌, List, [], ◌∷◌, ◌++◌, Option, Some, None, is_none, is_some, Ok, Err, codes, map, option_map}
use Rattle.std.specs.List.{flat_map}
use Rattle.std.specs.FinMap as env
use Rattle.envcfg_core.specs.Entries.{Entry, entry_view}
use Rattle.envcfg_core.specs.Import.{import_of}
use Rattle.envvars_core.specs.Variables.{Contents}
use Rattle.envvars_core.specs.declared.refusals.Refusal.{Refusal}
use Rattle.envvars_core.specs.declared.refusals.Refusal.TheVariants as refusals
use Rattle.fw_engines.specs.Defaults.{written}
use Rattle.envimg_core.specs.declared.choice.Choice.{Choice}
use Rattle.envimg_core.specs.declared.choice.Choice.TheVariants.{First, Second, Neither}
use Rattle.envcfg_core.specs.declared.config.Config.{Config}
use Rattle.envimg_core.specs.declared.geometry.Order.{Order}
use Rattle.env_source.specs.Sources.{source_of}
use Rattle.fw_arguments.specs.Calls.{Defaults}
use Rattle.fw_arguments.specs.GivenTexts.{is_plain}
use Rattle.fw_arguments.specs.declared.given_text.TextForm.{TextForm}
use Rattle.fw_arguments.specs.declared.given_text.TextForm.TheVariants as form
use Rattle.envcfg_core.specs.Config.{Settings, config_of, config_view}
use Rattle.envimg_core.specs.Geometry.{Shape}
use Rattle.fw_files.specs.BareLines.{bare_in}
use Rattle.fw_files.specs.FileTexts.{Holds}
use Rattle.fw_files.specs.Files.{IsTextAt}
use Rattle.fw_files.specs.declared.copies.ReadCopy.{ReadCopy}
use Rattle.fw_files.specs.declared.default_text.DefaultText.{DefaultText}
use Rattle.fw_files.specs.declared.default_text.Parsed.{Parsed}
use Rattle.fw_files.specs.declared.file_fault.FileFault.{FileFault}
use Rattle.fw_files.specs.declared.file_fault.FileFault.TheVariants as file
use Rattle.fw_files.specs.declared.source.Source.{Source}

-- the settings are those of the configuration at a path
abbrev pub AreSettingsAt : Holds → (path : List ℕ) → Settings → Type 0
AreSettingsAt holds path settings = (text : List ℕ) × IsTextAt holds path text × (config_of text ≡ Ok settings)

-- the copies that they name
abbrev pub shape_of : Order → Settings → Shape
shape_of order settings = record { layout = settings.layout; size = settings.size; order = order }

-- what was read by a configuration: two copies if it names two
pub record IsSourceOf (order : Order) (given : Config) (source : Source) : Type 0 where
  pub config : source.config ≡ given
  pub geometry : source.geometry ≡ record { layout = given.layout; size = given.size; order = order }
  pub second : is_some source.second ≡ is_some given.second

-- the copies that the configuration of a text names
abbrev pub IsTextOfConfig : (text : List ℕ) → Config → Type 0
IsTextOfConfig text config = config_of text ≡ Ok (config_view config)

abbrev pub AreCopiesBy : Order → (text : List ℕ) → Source → Type 0
AreCopiesBy order text source = (config : Config) × IsTextOfConfig text config × IsSourceOf order config source

-- the bytes of a second copy
abbrev pub second_bytes : Option ReadCopy → Option (List ℕ)
second_bytes copy = option_map (λ c. c.bytes.items) copy

-- the warning if neither copy is good
abbrev pub warning : Choice → List ℕ
warning First = []
warning Second = []
warning Neither = codes "Warning: Bad CRC, using default environment" ++ 10 ∷ []

-- no warning if no copy is missed
abbrev pub warned : (whole : Bool) → Choice → List ℕ
warned true choice = []
warned false choice = warning choice

-- the text of the board's build is taken if it is there
abbrev pub takes_initial : Defaults → Bool
takes_initial d = is_plain d.form && is_none d.path

-- the default environment that is asked for, or the same with that text
abbrev pub IsFound : Defaults → Defaults → Type 0
IsFound asked found = (found ≡ asked) ⊎ ((takes_initial asked ≡ true) × (found ≡ record asked { path = Some (codes "/etc/u-boot-initial-env") }))

-- the same without a text of plain lines
abbrev pub without_plain : Defaults → Defaults
without_plain d = if is_plain d.form then record d { path = None } else d

-- the default environment of a session: such a text is read only if no copy is good
abbrev pub IsTaken : Choice → Defaults → Defaults → Type 0
IsTaken First asked taken = taken ≡ without_plain asked
IsTaken Second asked taken = taken ≡ without_plain asked
IsTaken Neither asked taken = IsFound asked taken

-- plain lines as a text for import: each backslash is escaped
abbrev pub escaped_byte : ℕ → List ℕ
escaped_byte b = if b == 92 then b ∷ b ∷ [] else b ∷ []

-- lines as U-Boot's build prints its default environment, as a text for import: a `\` at a line's end that isn't literal
-- itself gets one more before it, so that it stands for itself and the line ends
abbrev pub is_escape : (escaped : Bool) → (byte : ℕ) → Bool
is_escape escaped byte = byte == 92 && not escaped

abbrev pub closing_byte : (escaped : Bool) → (byte : ℕ) → List ℕ
closing_byte escaped byte = if escaped && byte == 10 then 92 ∷ byte ∷ [] else byte ∷ []

unfoldable pub closed_lines : (escaped : Bool) → List ℕ → List ℕ
closed_lines escaped [] = []
closed_lines escaped (b ∷ bs) = closing_byte escaped b ++ closed_lines (is_escape escaped b) bs

-- the entries of a text in this form
abbrev pub AreEntriesIn : TextForm → List ℕ → List Entry → Type 0
AreEntriesIn form.Import text entries = import_of text ≡ Ok entries
AreEntriesIn form.Plain text entries = import_of (flat_map escaped_byte text) ≡ Ok entries
AreEntriesIn form.Source text entries = source_of text ≡ Ok entries
AreEntriesIn form.Initial text entries = import_of (closed_lines false text) ≡ Ok entries

-- the variables are the default environment, in this room, of these entries of a text; none lacks its `=`
abbrev pub AreDefaultsBy : TextForm → List ℕ → List Entry → ℕ → Contents → Type 0
AreDefaultsBy form text entries room vars =
    AreEntriesIn form text entries × (bare_in form text entries ≡ None)
    × (written room env.empty entries ≡ Ok vars.env) × (vars.room ≡ room)

-- of the text at a path
abbrev pub AreDefaultsAt : Holds → (path : List ℕ) → TextForm → ℕ → Contents → Type 0
AreDefaultsAt holds path form room vars =
    (text : List ℕ) × IsTextAt holds path text
    × ((entries : List Entry) × AreDefaultsBy form text entries room vars)

-- the text for import that is kept: such a text itself, or lines as U-Boot's build prints them, each closed
abbrev pub kept_text : TextForm → List ℕ → Option (List ℕ)
kept_text form.Import text = Some text
kept_text form.Initial text = Some (closed_lines false text)
kept_text form text = None

-- with its entries
pub record KeptText : Type 0 where
  pub text : List ℕ
  pub entries : List Entry

abbrev pub with_entries : List Entry → Option (List ℕ) → Option KeptText
with_entries entries text = option_map (λ t. record { text = t; entries = entries }) text

abbrev pub kept_view : Option DefaultText → Option KeptText
kept_view kept =
    option_map (λ k. record { text = k.text.items; entries = map entry_view k.entries.items }) kept

-- an entry is refused, in its line, or memory ran out
abbrev pub IsRefused : ℕ → List Entry → FileFault → Type 0
IsRefused room entries (file.Default line refusal) = written room env.empty entries ≡ Err (line, refusal)
IsRefused room entries file.Memory = Unit {0}
IsRefused room entries fault = ⊥

abbrev pub default_fault : ℕ → Refusal → FileFault
default_fault line refusals.Memory = file.Memory
default_fault line refused = file.Default line refused

-- a text that was parsed
pub record IsParsed (form : TextForm) (text : List ℕ) (parsed : Parsed) : Type 0 where
  pub entries : AreEntriesIn form text (map entry_view parsed.entries.items)
  pub whole : bare_in form text (map entry_view parsed.entries.items) ≡ None
  pub kept : option_map (λ t. t.items) parsed.text ≡ kept_text form text

-- the variables of a text, and what is kept of it
abbrev pub AreReadIn : TextForm → List ℕ → ℕ → Option KeptText → Contents → Type 0
AreReadIn form text room kept vars =
    (entries : List Entry) × AreDefaultsBy form text entries room vars
    × (kept ≡ with_entries entries (kept_text form text))

abbrev pub AreReadAt : Holds → (path : List ℕ) → TextForm → ℕ → Option KeptText → Contents → Type 0
AreReadAt holds path form room kept vars =
    (text : List ℕ) × IsTextAt holds path text × AreReadIn form text room kept vars

-- those of a text if a path is given, else no variables
abbrev pub AreDefaultsOfPath : Holds → ℕ → Option (List ℕ) → TextForm → Option KeptText → Contents → Type 0
AreDefaultsOfPath holds room None form kept vars =
    (kept ≡ None) × (vars ≡ record { env = env.empty; room = room })
AreDefaultsOfPath holds room (Some path) form kept vars = AreReadAt holds path form room kept vars

abbrev pub AreDefaultsOf : Holds → ℕ → Defaults → Option KeptText → Contents → Type 0
AreDefaultsOf holds room d kept vars = AreDefaultsOfPath holds room d.path d.form kept vars

-- a copy has to be good, and no copy is
abbrev pub lacks_copy : Defaults → Choice → Bool
lacks_copy d Neither = d.need_copy && is_none d.path
lacks_copy d choice = false
