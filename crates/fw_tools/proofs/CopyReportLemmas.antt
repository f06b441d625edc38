-- What `status` prints, put together, and its status.
use Rattle.std.proofs.Common.{◌≡◌, ◌≤◌, ℕ, List, length, Option, Some, None, inl, inr, refl, sym, ap, ◌∙◌, option_map, subst, arith}
use Rattle.std.specs.Prelude.{MatchOption, Ok, is_some, string_bytes}
use Rattle.std.specs.Io.KnownBytes.{Appends}
use Rattle.envcfg_core.specs.Config.{config_of, config_view, place_view}
use Rattle.envcfg_core.specs.declared.config.Config.{Config}
use Rattle.envcfg_core.specs.declared.place.Place.{Place}
use Rattle.envimg_core.specs.Geometry.{Shape}
use Rattle.envimg_core.specs.declared.choice.Choice.{Choice}
use Rattle.envimg_core.specs.declared.choice.Choice.TheVariants.{First, Second, Neither}
use Rattle.envimg_core.specs.declared.geometry.Layout.TheVariants.{Single, Redundant}
use Rattle.envimg_core.specs.declared.geometry.Order.{Order}
use Rattle.fw_engines.specs.CopyStatus as lines
use Rattle.fw_engines.specs.CopyStatus.{Reports, chosen_in, file_by, file_status_of, status_by, status_of}
use Rattle.fw_engines.specs.Streams.{AppendsPart, Writers}
use Rattle.fw_engines.specs.Ways.{good_as}
use Rattle.fw_engines.specs.declared.copy_status.FoundCopy.{FoundCopy}
use Rattle.fw_engines.specs.declared.copy_status.Survey.{Survey}
use Rattle.fw_engines.specs.declared.tool_end.ToolEnd.{ToolEnd}
use Rattle.fw_engines.specs.declared.tool_end.StreamFault.{StreamFault}
use Rattle.fw_engines.specs.declared.tool_end.StreamFault.TheVariants.{Write}
use Rattle.fw_tools.specs.CopyReport.{Found, IsSurveyBy, IsSurveyIn, IsSurveyOf, PrintsReport, ReportsOn, ReportsSubject, device_found, device_named, found_in, found_view}
use Rattle.fw_arguments.specs.Report.{Copies, File, Report, Subject}
use Rattle.fw_files.specs.FileTexts.{Holds}
use Rattle.fw_files.specs.Files.{IsTextAt}
use Rattle.fw_files.specs.Source.{IsSourceOf}
use Rattle.fw_files.specs.declared.copies.ReadCopy.{ReadCopy}
use Rattle.fw_files.specs.declared.source.Source.{Source}

-- ---- each status is 0 or 1

by_fault : (fault : Option StreamFault) (old new : Option (List ℕ)) (text : List ℕ) (wanted status : ℕ) → wanted ≤ 1 →
    MatchOption fault (Appends old new text × (status ≡ wanted)) (λ f. (f ≡ Write) × AppendsPart old new text × (status ≡ 1)) → status ≤ 1
by_fault None old new text wanted status small p = omega (arith, p.1, small)
by_fault (Some f) old new text wanted status small p = omega (arith, p.2)

ended_small : (end : ToolEnd) (old new : Option (List ℕ)) (report : lines.Report) → report.status ≤ 1 → Reports old new report end → end.status ≤ 1
ended_small end old new report small (inl printed) = by_fault end.fault old new report.text report.status end.status small printed
ended_small end old new report small (inr lacks) = omega (arith, lacks.2)

report_small : (report : lines.Report) (old new : Writers) (status : ℕ) → report.status ≤ 1 → PrintsReport report old new status → status ≤ 1
report_small report old new status small (end, reports, said, is) = omega (arith, is, ended_small end _ _ report small reports)

choice_small : (current : Choice) → status_by current ≤ 1
choice_small First = omega arith
choice_small Second = omega arith
choice_small Neither = omega arith

file_small : (single flagged : Option Shape) (order : Order) (path bytes : List ℕ) → (file_by single flagged order path bytes).status ≤ 1
file_small (Some single) flagged order path bytes = omega arith
file_small None (Some flagged) order path bytes = omega arith
file_small None None order path bytes = omega arith

subject_small : (holds : Holds) (order : Order) (subject : Subject) (old new : Writers) (status : ℕ) → ReportsSubject holds order subject old new status → status ≤ 1
subject_small holds order (Copies path) old new status (survey, is, prints) =
    report_small (status_of survey) old new status (choice_small (chosen_in survey.geometry survey.first survey.second)) prints
subject_small holds order (File path) old new status (bytes, held, prints) =
    report_small (file_status_of order path bytes) old new status
    (file_small (good_as bytes (record { layout = Single; size = length bytes; order = order })) (good_as bytes (record { layout = Redundant; size = length bytes; order = order })) order path bytes) prints

pub reports_small : (holds : Holds) (report : Report) (old new : Writers) (status : ℕ) → ReportsOn holds report old new status → status ≤ 1
reports_small holds report old new status (waited, has, reports) = subject_small holds report.order report.subject _ new status reports

-- ---- a survey

devices : (place : Option Place) (copy : Option ReadCopy) (found : Option FoundCopy) → option_map found_view found ≡ found_in place copy → is_some copy ≡ is_some place →
    option_map device_found found ≡ option_map device_named (option_map place_view place)
devices None None None is same = refl
devices None None (Some found) is same = absurd cc
devices (Some place) (Some copy) None is same = absurd cc
devices (Some place) (Some copy) (Some found) is same = ap (option_map (λ (f : Found). f.0)) is
devices None (Some copy) found is same = absurd cc
devices (Some place) None found is same = absurd cc

pub surveyed : (holds : Holds) (order : Order) (path text : List ℕ) (config : Config) (source : Source) (survey : Survey) → IsTextAt holds path text →
    config_of text ≡ Ok (config_view config) → IsSourceOf order config source → IsSurveyIn path text source survey → IsSurveyOf holds order path survey
surveyed holds order path text config source survey held reads is has =
    let by : IsSurveyBy order (config_view config) survey = record {
      geometry = has.geometry ∙ is.geometry;
      first = ap (λ (f : Found). f.0) has.first ∙ ap (λ (c : Config). string_bytes c.first.device) is.config;
      second =
          devices source.config.second source.second survey.second has.second (is.second ∙ ap (λ (c : Config). is_some c.second) (sym is.config))
          ∙ ap (λ (c : Config). option_map device_named (option_map place_view c.second)) is.config;
    } in
    (has.path, subst (λ t. IsTextAt holds path t) (sym has.config) held, (config_view config, ap config_of has.config ∙ reads, by))
