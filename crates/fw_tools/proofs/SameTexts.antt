-- What tools and scripts both print is defined in fw_engines and in hush_commands, neither of which depends on the
-- other: it is the same in both.
use Rattle.std.proofs.Common.{◌≡◌, List, [], ◌∷◌, ◌++◌, refl, sym, ap, ◌∙◌, append_assoc}
use Rattle.std.specs.List.{flat_map}
use Rattle.std.specs.FinMap.{entries}
use Rattle.envimg_core.specs.Environment.{Environment, Pair}
use Rattle.hush_commands.specs.Listing as scripts_listing
use Rattle.env_requests.specs.Requests.{listing}
use Rattle.fw_engines.specs.Shown as tools_listing

-- the line of a variable
pub same_line : (p : Pair) → scripts_listing.line_of p ≡ tools_listing.line_of p
same_line p = sym (append_assoc p.0 (61 ∷ p.1) (10 ∷ []))

same_lines : (ps : List Pair) → flat_map scripts_listing.line_of ps ≡ flat_map tools_listing.line_of ps
same_lines [] = refl
same_lines (p ∷ ps) = ap (λ line. line ++ flat_map scripts_listing.line_of ps) (same_line p) ∙ ap (λ rest. tools_listing.line_of p ++ rest) (same_lines ps)

-- all variables, by `.print` and by `printenv`
pub same_listing : (vars : Environment) → listing vars ≡ tools_listing.listing vars
unfolding listing
same_listing vars = same_lines (entries vars)
