-- What a save over erased copies leaves, and the status of a new image.
use Rattle.std.specs.Prelude.{MatchResult}
use Rattle.std.proofs.Common.{Bor, option_map, ◌≡◌, ◌≤◌, ℕ, Bool, List, Option, Some, None, Result, Ok, Err, arith, refl, sym, ap, ◌∙◌, subst}
use Rattle.env_session.specs.Session.{Held, State, bytes_of, opened, opening_choice, opening_env, saved, saved_flag, saved_side, with_copy}
use Rattle.env_session.specs.declared.session.Stored.{Stored}
use Rattle.envimg_core.specs.Geometry.{Shape, room_of}
use Rattle.envimg_core.specs.Image.{image_of}
use Rattle.envimg_core.specs.declared.choice.Choice.{Choice}
use Rattle.envimg_core.specs.declared.choice.Choice.TheVariants.{Neither}
use Rattle.envimg_core.specs.declared.geometry.Layout.{Layout}
use Rattle.envimg_core.specs.declared.geometry.Layout.TheVariants.{Single, Redundant}
use Rattle.envvars_core.specs.Variables.{Contents}
use Rattle.fw_engines.specs.Streams.{Writers}
use Rattle.fw_engines.specs.Tool.{PrintsText}
use Rattle.fw_engines.specs.declared.tool_end.ToolEnd.{ToolEnd}
use Rattle.fw_tools.specs.Said.{Says}
use Rattle.fw_files.specs.Source.{AreDefaultsAt}
use Rattle.fw_tools.proofs.CheckLemmas.{text_small}
use Rattle.fw_tools.specs.NewImages.{MakesImage, PutsOut, erased_second, image_bytes, placed, shape_for}
use Rattle.fw_tools.specs.SavedOnce.{IsSavedBlank, IsSavedOnce}
use Rattle.fw_arguments.specs.ImageRequests.{ImageRequest}
use Rattle.fw_files.specs.FileTexts.{Holds}

-- the state of a session just opened over such copies, by the choice
abbrev state_by : Shape → (first : List ℕ) → (second : Option (List ℕ)) → Contents → Choice → State
state_by shape first second vars choice = record { env = opening_env shape first second vars.env choice; first = first; second = second; current = choice }

-- and once it was saved
abbrev saved_by : Shape → (first : List ℕ) → (second : Option (List ℕ)) → Contents → Choice → State
saved_by shape first second vars choice =
    with_copy (saved_side shape.layout choice) (image_of shape (saved_flag shape.layout (state_by shape first second vars choice) choice) (opening_env shape first second vars.env choice))
    (state_by shape first second vars choice)

first_written : (layout : Layout) (image : List ℕ) (s : State) → (with_copy (saved_side layout Neither) image s).first ≡ image
first_written Single image s = refl
first_written Redundant image s = refl

second_stays : (layout : Layout) (image : List ℕ) (s : State) → (with_copy (saved_side layout Neither) image s).second ≡ s.second
second_stays Single image s = refl
second_stays Redundant image s = refl

-- if no copy is good, the first is the image of the defaults, and the second stays
pub saved_first : (shape : Shape) (first : List ℕ) (second : Option (List ℕ)) (vars : Contents) → opening_choice shape first second ≡ Neither →
    (saved (opened shape first second vars)).now.first ≡ image_of shape 1 vars.env
saved_first shape first second vars none =
    subst (λ c. (saved_by shape first second vars c).first ≡ image_of shape 1 vars.env) (sym none) (first_written shape.layout _ _)

pub saved_second : (shape : Shape) (first : List ℕ) (second : Option (List ℕ)) (vars : Contents) → opening_choice shape first second ≡ Neither →
    (saved (opened shape first second vars)).now.second ≡ second
saved_second shape first second vars none =
    subst (λ c. (saved_by shape first second vars c).second ≡ second) (sym none) (second_stays shape.layout _ _)

-- the copies of a session over erased copies once it is saved
pub saved_so : (h : Held) (erased stored : Stored) (shape : Shape) (vars : Contents) →
    h ≡ opened erased.geometry erased.first.items (bytes_of erased.second) vars → erased.geometry ≡ shape → bytes_of erased.second ≡ erased_second shape →
    IsSavedBlank h stored → IsSavedOnce shape vars stored
saved_so h erased stored shape vars is same second_is saved_blank =
    let none : opening_choice erased.geometry erased.first.items (bytes_of erased.second) ≡ Neither = sym (ap (λ (k : Held). k.now.current) is) ∙ saved_blank.blank in
    record {
      first = saved_blank.first ∙ ap (λ (k : Held). (saved k).now.first) is
          ∙ saved_first erased.geometry erased.first.items (bytes_of erased.second) vars none ∙ ap (λ s. image_of s 1 vars.env) same;
      second = saved_blank.second ∙ ap (λ (k : Held). (saved k).now.second) is
          ∙ saved_second erased.geometry erased.first.items (bytes_of erased.second) vars none ∙ second_is;
    }

-- ---- what is printed and said

-- the image that is put out is that of the text's variables, or it ended before
pub made_image : {E : Type 0} (holds wrote : Holds) (asked : ImageRequest) (old new : Writers) (shape : Shape) (vars : Contents) (image : List ℕ) (r : Result ℕ E) (Q : E → Type 0) →
    shape ≡ shape_for asked → AreDefaultsAt holds asked.text.path asked.text.form (room_of shape) vars → image ≡ image_bytes shape asked.both vars.env →
    MatchResult r (PutsOut wrote asked.output image old new) Q → MatchResult r (MakesImage holds wrote asked old new) Q
made_image holds wrote asked old new shape vars image (Err e) Q is are made puts = puts
made_image holds wrote asked old new shape vars image (Ok status) Q is are made puts =
    let out = subst (λ bytes. PutsOut wrote asked.output bytes old new status) (made ∙ ap (λ s. image_bytes s asked.both vars.env) is) puts in
    (vars, subst (λ s. AreDefaultsAt holds asked.text.path asked.text.form (room_of s) vars) is are, out)

-- the image that is printed
pub printed_out : (wrote : Holds) (output : Option (Bor (List ℕ))) (image : List ℕ) (old new : Writers) (status : ℕ) (end : ToolEnd) → output ≡ None →
    PrintsText old.output new.output image 0 end → Says end.fault old.errors new.errors → status ≡ end.status →
    PutsOut wrote (option_map (λ p. p.now) output) image old new status
printed_out wrote output image old new status end none prints says ends =
    subst (λ (o : Option (Bor (List ℕ))). PutsOut wrote (option_map (λ p. p.now) o) image old new status) (sym none) (end, prints, says, ends)

puts_small : (wrote : Holds) (output : Option (List ℕ)) (image : List ℕ) (old new : Writers) (status : ℕ) → PutsOut wrote output image old new status → status ≤ 1
puts_small wrote None image old new status (end, prints, says, is) = omega (arith, is, text_small end old.output new.output image 0 (omega arith) prints)
puts_small wrote (Some path) image old new status (writes, same, is) = omega (arith, is)

pub image_small : (holds wrote : Holds) (asked : ImageRequest) (old new : Writers) (status : ℕ) → MakesImage holds wrote asked old new status → status ≤ 1
image_small holds wrote asked old new status (vars, are, puts) = puts_small wrote asked.output _ old new status puts

-- what is placed of them is the new image
pub placed_so : (shape : Shape) (vars : Contents) (both : Bool) (stored : Stored) (image : List ℕ) → IsSavedOnce shape vars stored →
    image ≡ placed (bytes_of stored.second) both stored.first.items → image ≡ image_bytes shape both vars.env
placed_so shape vars both stored image saved is =
    is ∙ ap (λ blank. placed blank both stored.first.items) saved.second ∙ ap (placed (erased_second shape) both) saved.first
