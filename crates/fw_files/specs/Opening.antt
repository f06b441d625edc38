-- A session over copies, just opened (docs/tools.md, "Subcommands over files").
use Rattle.std.specs.Prelude.{◌≡◌, ℕ, ◌||◌, Bool, true, false, List, [], replicate, Option, Some, None, is_some, option_map, ⊤}
use Rattle.env_session.specs.Session.{Held, opened, opening_choice}
use Rattle.envimg_core.specs.Geometry.{Shape, room_of}
use Rattle.envimg_core.specs.State.{state_of}
use Rattle.envimg_core.specs.declared.choice.Choice.{Choice}
use Rattle.envimg_core.specs.declared.choice.Choice.TheVariants.{Neither}
use Rattle.envimg_core.specs.declared.geometry.Layout.TheVariants.{Single}
use Rattle.envimg_core.specs.declared.geometry.Order.{Order}
use Rattle.envvars_core.specs.Variables.{Contents}
use Rattle.fw_arguments.specs.Calls.{Defaults}
use Rattle.fw_arguments.specs.declared.wanted_copy.WantedCopy.{WantedCopy}
use Rattle.fw_files.specs.Misread.{IsMisread, Spares}
use Rattle.envcfg_core.specs.Config.{Settings}
use Rattle.fw_files.specs.FileTexts.{Holds}
use Rattle.fw_files.specs.Source.{AreDefaultsOf, AreSettingsAt, IsTaken, KeptText, kept_view, lacks_copy, second_bytes, shape_of, warned}
use Rattle.fw_files.specs.WantedCopy.{first_for, refusal_of, second_for}
use Rattle.fw_files.specs.declared.file_fault.FileFault.{FileFault}
use Rattle.fw_files.specs.declared.file_fault.FileFault.TheVariants as file
use Rattle.fw_files.specs.declared.opening.Opened.{Opened}
use Rattle.fw_files.specs.declared.source.Source.{Source}
use Rattle.fw_files.specs.declared.stop.Stop.{Stop}
use Rattle.fw_files.specs.declared.stop.Stop.TheVariants as stop

-- an erased image of this size
abbrev pub AreErased : Order → (size : ℕ) → Shape → (first : List ℕ) → (second : Option (List ℕ)) → Type 0
AreErased order size shape first second =
    (shape ≡ record { layout = Single; size = size; order = order }) × (first ≡ replicate size 255) × (second ≡ None)

abbrev pub IsErased : Order → (size : ℕ) → Source → Type 0
IsErased order size source = AreErased order size source.geometry source.first.bytes.items (second_bytes source.second)

-- the copies of a session: those of the configuration at a path, in this byte order, or an erased image of this size
abbrev pub AreCopies : Holds → (config : List ℕ) → (image : Option ℕ) → Order → Shape → (first : List ℕ) → (second : Option (List ℕ)) → Type 0
AreCopies holds config None order shape first second =
    (settings : Settings) × AreSettingsAt holds config settings × (shape ≡ shape_of order settings) × (is_some second ≡ is_some settings.second)
AreCopies holds config (Some size) order shape first second = AreErased order size shape first second

-- the same with the one that is asked for by its number in the place of each; it is good
abbrev pub AreWanted : Holds → (config : List ℕ) → (image : Option ℕ) → Order → WantedCopy → Shape → (first : List ℕ) → (second : Option (List ℕ)) → Type 0
AreWanted holds config image order wanted shape first second =
    (read : List ℕ) × (read_second : Option (List ℕ)) × AreCopies holds config image order shape read read_second
    × (refusal_of wanted shape read read_second ≡ None)
    × (first ≡ first_for wanted read read_second) × (second ≡ second_for wanted read read_second)

-- the same copies as they were read
abbrev pub AreCopiesIn : Holds → (config : List ℕ) → (image : Option ℕ) → Order → Source → Type 0
AreCopiesIn holds config image order source =
    AreCopies holds config image order source.geometry source.first.bytes.items (second_bytes source.second)

abbrev pub AreWantedIn : Holds → (config : List ℕ) → (image : Option ℕ) → Order → WantedCopy → Source → Type 0
AreWantedIn holds config image order wanted source =
    AreWanted holds config image order wanted source.geometry source.first.bytes.items (second_bytes source.second)

-- copies that were read may be written over, as far as they are to be spared
abbrev pub SparesIn : (spares : Bool) → Choice → Source → Type 0
SparesIn spares current source =
    Spares current spares source.geometry source.first.bytes.items (second_bytes source.second)

-- a session just opened over what was read, and what is kept of the text of its default environment
abbrev pub OpensOver : Holds → Source → Defaults → Option KeptText → Held → Type 0
OpensOver holds source asked kept session =
    (defaults : Contents) × AreDefaultsOf holds (room_of source.geometry) asked kept defaults
    × (session ≡ opened source.geometry source.first.bytes.items (second_bytes source.second) defaults)

-- the same over the copies that are wanted; if these are to be spared none of them is good in another way
abbrev pub IsOpening : Holds → (config : List ℕ) → (image : Option ℕ) → Order → WantedCopy →
    (spares : Bool) → Defaults → Source → Option KeptText → Held → Type 0
IsOpening holds config image order wanted spares asked source kept session =
    AreWantedIn holds config image order wanted source × OpensOver holds source asked kept session
    × SparesIn spares session.now.current source

-- a session opened with the default environment of this text, or an empty one: a copy is good, or none has to be, and the copies
-- may be written over if they are to be spared
pub record IsOpenedWith (holds : Holds) (source : Source) (taken : Defaults) (spares : Bool) (o : Opened) : Type 0 where
  pub opens : OpensOver holds source taken (kept_view o.text) o.session
  pub accepted : lacks_copy taken o.session.now.current ≡ false
  pub spared : SparesIn spares o.session.now.current source

-- a text of plain lines is taken only if no copy is good
abbrev pub IsOpened : Holds → Source → (asked : Defaults) → (spares : Bool) → Opened → Type 0
IsOpened holds source asked spares o =
    (taken : Defaults) × IsTaken o.session.now.current asked taken × IsOpenedWith holds source taken spares o

-- what is reported if a copy has to be good, and none is
abbrev pub no_good_copy : Shape → (first : List ℕ) → (second : Option (List ℕ)) → Stop
no_good_copy shape first second = stop.NoGoodCopy (state_of shape first) (option_map (state_of shape) second)

abbrev pub no_good_copy_in : Source → Stop
no_good_copy_in source = no_good_copy source.geometry source.first.bytes.items (second_bytes source.second)

-- the copy that is current in a session over what was read
abbrev pub current_of : Source → Choice
current_of source = opening_choice source.geometry source.first.bytes.items (second_bytes source.second)

-- no warning that no copy is good is due, if that is not missed or is an error
abbrev pub is_silent : (taken : Defaults) → Choice → Bool
is_silent taken current = taken.whole || lacks_copy taken current

-- the file that can't be used is the one that was taken; without one, memory ran out
abbrev pub IsFaultAt : (taken : Option (List ℕ)) → (path : List ℕ) → FileFault → Type 0
IsFaultAt None path fault = (path ≡ []) × (fault ≡ file.Memory)
IsFaultAt (Some taken) path fault = path ≡ taken

-- why a session isn't opened with the default environment of this text, or with an empty one: the text can't be
-- used, no copy is good and one has to be, or one that is to be spared is good in another way
abbrev pub StopsWith : Source → Choice → (taken : Defaults) → (spares : Bool) → Stop → Type 0
StopsWith source current taken spares stop.Memory = ⊤
StopsWith source current taken spares (stop.Defaults path fault warning) =
    IsFaultAt taken.path path.now fault × (warning.now ≡ warned (is_silent taken current) current)
StopsWith source current taken spares (stop.NoGoodCopy first second) =
    (lacks_copy taken current ≡ true) × (stop.NoGoodCopy first second ≡ no_good_copy_in source)
StopsWith source current taken spares (stop.Misread line) =
    (current ≡ Neither) × (spares ≡ true)
    × IsMisread source.geometry source.first.bytes.items (second_bytes source.second) (Some line.items)
StopsWith source current taken spares other = ⊥

abbrev pub StopsOpening : Source → (asked : Defaults) → (spares : Bool) → Stop → Type 0
StopsOpening source asked spares stop =
    (taken : Defaults) × IsTaken (current_of source) asked taken
    × StopsWith source (current_of source) taken spares stop
