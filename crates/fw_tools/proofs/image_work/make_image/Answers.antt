use Rattle.std.proofs.Common.{subst, ℕ, ◌∙◌}
use Rattle.fw_arguments.specs.ImageRequests.{image_request_view}
use Rattle.fw_files.specs.Source.{AreDefaultsAt}
use Rattle.fw_tools.proofs.NewImageLemmas.{made_image}
use Rattle.fw_tools.proofs.image_work.make_image.Goals as goal

pub returns : goal.returns
returns g c =
    let are = subst (λ (room : ℕ). AreDefaultsAt (g.X.System.holds c.args.rt.now) (image_request_view c.args.asked.now).text.path (image_request_view c.args.asked.now).text.form room c.in_ok-vars.vars) c.room.ensures.value c.in_ok-vars.ensures.read in
    made_image (g.X.System.holds c.args.rt.now) (g.X.System.wrote c.args.rt.now) (image_request_view c.args.asked.now) _ _ c.in-Some.geometry c.in_ok-vars.vars _ c.put_out.result _ c.in-Some.ensures.1 are
    (c.deref.ensures.value ∙ c.in_ok-image.ensures) c.put_out.ensures
