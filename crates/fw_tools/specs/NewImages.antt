-- New images (docs/tools.md, "New images").
use Rattle.std.specs.Prelude.{◌≡◌, ℕ, Bool, true, false, List, ◌++◌, Option, Some, None, replicate}
use Rattle.envimg_core.specs.Environment.{Environment}
use Rattle.envimg_core.specs.Geometry.{Shape, room_of}
use Rattle.envimg_core.specs.Image.{image_of}
use Rattle.envimg_core.specs.declared.geometry.Layout.{Layout}
use Rattle.envimg_core.specs.declared.geometry.Layout.TheVariants.{Single, Redundant}
use Rattle.envvars_core.specs.Variables.{Contents}
use Rattle.fw_arguments.specs.ImageRequests.{ImageRequest}
use Rattle.fw_engines.specs.Streams.{Writers}
use Rattle.fw_engines.specs.Tool.{PrintsText}
use Rattle.fw_engines.specs.declared.tool_end.ToolEnd.{ToolEnd}
use Rattle.fw_tools.specs.Said.{Says}
use Rattle.fw_files.specs.Source.{AreDefaultsAt}
use Rattle.fw_files.specs.FileTexts.{Holds}

-- a copy that was never written
abbrev pub erased : Shape → List ℕ
erased shape = replicate shape.size 255

abbrev pub second_of : Layout → List ℕ → Option (List ℕ)
second_of Single copy = None
second_of Redundant copy = Some copy

abbrev pub erased_second : Shape → Option (List ℕ)
erased_second shape = second_of shape.layout (erased shape)

-- one copy alone; of two the second, after the erased place of the first, or after the same copy
abbrev pub placed : (blank : Option (List ℕ)) → Bool → (copy : List ℕ) → List ℕ
placed None both copy = copy
placed (Some blank) false copy = blank ++ copy
placed (Some blank) true copy = copy ++ copy

-- the image of variables; the flag of a copy, if it has one, is 1
abbrev pub image_bytes : Shape → Bool → Environment → List ℕ
image_bytes shape both env = placed (erased_second shape) both (image_of shape 1 env)

abbrev pub shape_for : ImageRequest → Shape
shape_for asked = record { layout = asked.layout; size = asked.size; order = asked.order }

-- it is printed, and what stopped that is reported; or it is written into a file
abbrev pub PutsOut : (wrote : Holds) → Option (List ℕ) → (image : List ℕ) → Writers → Writers → ℕ → Type 0
PutsOut wrote None image old new status =
    (end : ToolEnd) × PrintsText old.output new.output image 0 end × Says end.fault old.errors new.errors × (status ≡ end.status)
PutsOut wrote (Some path) image old new status = wrote path image × (new ≡ old) × (status ≡ 0)

-- the image of the variables of the text at a path
abbrev pub MakesImage : (holds wrote : Holds) → ImageRequest → Writers → Writers → ℕ → Type 0
MakesImage holds wrote asked old new status =
    (vars : Contents) × AreDefaultsAt holds asked.text.path asked.text.form (room_of (shape_for asked)) vars
    × PutsOut wrote asked.output (image_bytes (shape_for asked) asked.both vars.env) old new status
