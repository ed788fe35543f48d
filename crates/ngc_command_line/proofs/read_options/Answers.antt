use Rattle.std.proofs.Common.{◌∙◌, ap, subst, sym}
use Rattle.clap.specs.Words.{App, fault_of, is_simple, is_simple_and_free, subcommand_of}
use Rattle.clap.specs.Walk.{texts}
use Rattle.ngc_command_line.specs.Meant.{AreOptions}
use Rattle.ngc_command_line.proofs.FoundSubcommand.{found_from_parts}
use Rattle.ngc_command_line.proofs.SimpleCommand.{ngc_is_free, ngc_is_simple, taken_is_memory}
use Rattle.ngc_command_line.proofs.OptionsReadBack.{adapt_read, adapt_taken, certify_read, certify_taken, check_read, check_taken, draw_read, draw_taken, help_read, help_taken, list_read, machine_read, machine_taken}
use Rattle.ngc_command_line.proofs.OptionsReadBack.{list_taken, live_read, live_taken, place_read, place_taken, report_read, report_taken, run_read, run_taken, show_read, show_taken, version_read, version_taken}
use Rattle.ngc_command_line.proofs.OptionsReadBack.{adapt_changes, certify_changes, check_changes, draw_changes, help_changes, list_changes, live_changes}
use Rattle.ngc_command_line.proofs.OptionsReadBack.{machine_changes, place_changes, report_changes, run_changes, show_changes, version_changes, wrong_changes}
use Rattle.ngc_command_line.proofs.RequiredValues.{taken_is_whole}
use Rattle.ngc_command_line.proofs.read_options.Goals as goal

pub options_of-requires : goal.options_of-requires
options_of-requires c =
    let built = c.in-Ok.ensures in
    let words = texts c.args.words.now in
    let matches = (c.in-Ok-try_get_matches_from.ensures.matches (ap is_simple built ∙ ngc_is_simple)).1 in
    let found = found_from_parts _ _ _ _ _ _ c.in-Some.ensures.name c.in-Some.ensures.rows (matches ∙ ap (λ (app : App). subcommand_of app words) built) in
    let none = c.in-Ok-try_get_matches_from.ensures.kinds (ap is_simple_and_free built ∙ ngc_is_free) in
    record {
      whole = taken_is_whole words _ (ap (λ (app : App). fault_of app words) (sym built) ∙ none) found;
      changes = c.in-Ok-changes_of.ensures;
    }

pub returns-in-Ok-changes_of-clause-options : goal.returns-in-Ok-changes_of-clause-options
returns-in-Ok-changes_of-clause-options c =
    let built = c.in-Ok.ensures in
    let matches = (c.in-Ok-try_get_matches_from.ensures.matches (ap is_simple built ∙ ngc_is_simple)).1 in
    let words = texts c.args.words.now in
    let found = found_from_parts _ _ _ _ _ _ c.in-Some.ensures.name c.in-Some.ensures.rows (matches ∙ ap (λ (app : App). subcommand_of app words) built) in
    subst (λ found. AreOptions found c.options_of.result) (sym found) c.options_of.ensures

pub returns-in-Ok-changes_of-clause-taken : goal.returns-in-Ok-changes_of-clause-taken
returns-in-Ok-changes_of-clause-taken c =
    let built = c.in-Ok.ensures in
    let none = c.in-Ok-try_get_matches_from.ensures.kinds (ap is_simple_and_free built ∙ ngc_is_free) in
    ap (λ (app : App). fault_of app (texts c.args.words.now)) (sym built) ∙ none

pub returns-in-Ok-changes_of-clause-spelled : goal.returns-in-Ok-changes_of-clause-spelled
returns-in-Ok-changes_of-clause-spelled c = λ program machine tools delete spelled. list_read _ program machine tools delete _ spelled (returns-in-Ok-changes_of-clause-options c)

pub returns-in-Ok-changes_of-clause-spelled_certify : goal.returns-in-Ok-changes_of-clause-spelled_certify
returns-in-Ok-changes_of-clause-spelled_certify c =
    λ machine tools program cuts format range spelled. certify_read _ machine tools program cuts format _ range spelled (returns-in-Ok-changes_of-clause-options c)

pub returns-in-Ok-changes_of-clause-spelled_check : goal.returns-in-Ok-changes_of-clause-spelled_check
returns-in-Ok-changes_of-clause-spelled_check c =
    λ machine tools certificate program spelled. check_read _ machine tools certificate program _ spelled (returns-in-Ok-changes_of-clause-options c)

pub returns-in-Ok-changes_of-clause-spelled_run : goal.returns-in-Ok-changes_of-clause-spelled_run
returns-in-Ok-changes_of-clause-spelled_run c = λ recording machine tools certificate events program delete output spelled.
    run_read _ recording machine tools certificate events program delete output _ spelled (returns-in-Ok-changes_of-clause-options c)

pub returns-in-Ok-changes_of-clause-spelled_live : goal.returns-in-Ok-changes_of-clause-spelled_live
returns-in-Ok-changes_of-clause-spelled_live c = λ machine tools certificate program delete output feed_ring spelled.
    live_read _ machine tools certificate program delete output feed_ring _ spelled (returns-in-Ok-changes_of-clause-options c)

pub returns-in-Ok-changes_of-clause-spelled_draw : goal.returns-in-Ok-changes_of-clause-spelled_draw
returns-in-Ok-changes_of-clause-spelled_draw c =
    λ machine tools certificate program view delete bodies whole spelled. draw_read _ machine tools certificate program view delete bodies whole _ spelled (returns-in-Ok-changes_of-clause-options c)

pub returns-in-Ok-changes_of-clause-spelled_show : goal.returns-in-Ok-changes_of-clause-spelled_show
returns-in-Ok-changes_of-clause-spelled_show c = λ machine tools warnings spelled. show_read _ machine tools warnings _ spelled (returns-in-Ok-changes_of-clause-options c)

pub returns-in-Ok-changes_of-clause-spelled_report : goal.returns-in-Ok-changes_of-clause-spelled_report
returns-in-Ok-changes_of-clause-spelled_report c =
    λ machine tools program cuts all json range spelled. report_read _ machine tools program cuts all json _ range spelled (returns-in-Ok-changes_of-clause-options c)

pub returns-in-Ok-changes_of-clause-spelled_place : goal.returns-in-Ok-changes_of-clause-spelled_place
returns-in-Ok-changes_of-clause-spelled_place c =
    λ machine tools program system cuts json range spelled. place_read _ machine tools program system cuts json _ range spelled (returns-in-Ok-changes_of-clause-options c)

pub returns-in-Ok-changes_of-clause-spelled_adapt : goal.returns-in-Ok-changes_of-clause-spelled_adapt
returns-in-Ok-changes_of-clause-spelled_adapt c =
    λ from machine tools program delete spelled. adapt_read _ from machine tools program delete _ spelled (returns-in-Ok-changes_of-clause-options c)

pub returns-in-Ok-changes_of-clause-spelled_machine : goal.returns-in-Ok-changes_of-clause-spelled_machine
returns-in-Ok-changes_of-clause-spelled_machine c =
    λ source corner ticks frame spelled. machine_read _ source corner ticks frame _ spelled (returns-in-Ok-changes_of-clause-options c)

pub returns-in-Ok-changes_of-clause-spelled_help : goal.returns-in-Ok-changes_of-clause-spelled_help
returns-in-Ok-changes_of-clause-spelled_help c = λ command among spelled. help_read _ command _ among spelled (returns-in-Ok-changes_of-clause-options c)

pub returns-in-Ok-changes_of-clause-spelled_version : goal.returns-in-Ok-changes_of-clause-spelled_version
returns-in-Ok-changes_of-clause-spelled_version c = λ spelled. version_read _ _ spelled (returns-in-Ok-changes_of-clause-options c)

pub returns-in-Err-clause-refused : goal.returns-in-Err-clause-refused
returns-in-Err-clause-refused c = λ taken have. c.usage_fault.ensures (taken_is_memory _ _ c.in-Err.error c.in-Ok.ensures taken c.in-Err.ensures.kinds)

pub returns-in-Err-clause-spelled : goal.returns-in-Err-clause-spelled
returns-in-Err-clause-spelled c = λ program machine tools delete spelled.
    c.usage_fault.ensures (taken_is_memory _ _ c.in-Err.error c.in-Ok.ensures (list_taken _ program machine tools delete spelled) c.in-Err.ensures.kinds)

pub returns-in-Err-clause-spelled_certify : goal.returns-in-Err-clause-spelled_certify
returns-in-Err-clause-spelled_certify c = λ machine tools program cuts format range spelled.
    c.usage_fault.ensures
    (taken_is_memory _ _ c.in-Err.error c.in-Ok.ensures (certify_taken _ machine tools program cuts format range spelled) c.in-Err.ensures.kinds)

pub returns-in-Err-clause-spelled_check : goal.returns-in-Err-clause-spelled_check
returns-in-Err-clause-spelled_check c = λ machine tools certificate program spelled.
    c.usage_fault.ensures (taken_is_memory _ _ c.in-Err.error c.in-Ok.ensures (check_taken _ machine tools certificate program spelled) c.in-Err.ensures.kinds)

pub returns-in-Err-clause-spelled_run : goal.returns-in-Err-clause-spelled_run
returns-in-Err-clause-spelled_run c = λ recording machine tools certificate events program delete output spelled.
    c.usage_fault.ensures
    (taken_is_memory _ _ c.in-Err.error c.in-Ok.ensures (run_taken _ recording machine tools certificate events program delete output spelled)
    c.in-Err.ensures.kinds)

pub returns-in-Err-clause-spelled_live : goal.returns-in-Err-clause-spelled_live
returns-in-Err-clause-spelled_live c = λ machine tools certificate program delete output feed_ring spelled.
    c.usage_fault.ensures
    (taken_is_memory _ _ c.in-Err.error c.in-Ok.ensures (live_taken _ machine tools certificate program delete output feed_ring spelled)
    c.in-Err.ensures.kinds)

pub returns-in-Err-clause-spelled_draw : goal.returns-in-Err-clause-spelled_draw
returns-in-Err-clause-spelled_draw c = λ machine tools certificate program view delete bodies whole spelled.
    c.usage_fault.ensures
    (taken_is_memory _ _ c.in-Err.error c.in-Ok.ensures (draw_taken _ machine tools certificate program view delete bodies whole spelled) c.in-Err.ensures.kinds)

pub returns-in-Err-clause-spelled_show : goal.returns-in-Err-clause-spelled_show
returns-in-Err-clause-spelled_show c = λ machine tools warnings spelled.
    c.usage_fault.ensures (taken_is_memory _ _ c.in-Err.error c.in-Ok.ensures (show_taken _ machine tools warnings spelled) c.in-Err.ensures.kinds)

pub returns-in-Err-clause-spelled_report : goal.returns-in-Err-clause-spelled_report
returns-in-Err-clause-spelled_report c = λ machine tools program cuts all json range spelled.
    c.usage_fault.ensures
    (taken_is_memory _ _ c.in-Err.error c.in-Ok.ensures (report_taken _ machine tools program cuts all json range spelled) c.in-Err.ensures.kinds)

pub returns-in-Err-clause-spelled_place : goal.returns-in-Err-clause-spelled_place
returns-in-Err-clause-spelled_place c = λ machine tools program system cuts json range spelled.
    c.usage_fault.ensures
    (taken_is_memory _ _ c.in-Err.error c.in-Ok.ensures (place_taken _ machine tools program system cuts json range spelled) c.in-Err.ensures.kinds)

pub returns-in-Err-clause-spelled_adapt : goal.returns-in-Err-clause-spelled_adapt
returns-in-Err-clause-spelled_adapt c = λ from machine tools program delete spelled.
    c.usage_fault.ensures
    (taken_is_memory _ _ c.in-Err.error c.in-Ok.ensures (adapt_taken _ from machine tools program delete spelled) c.in-Err.ensures.kinds)

pub returns-in-Err-clause-spelled_machine : goal.returns-in-Err-clause-spelled_machine
returns-in-Err-clause-spelled_machine c = λ source corner ticks frame spelled.
    c.usage_fault.ensures (taken_is_memory _ _ c.in-Err.error c.in-Ok.ensures (machine_taken _ source corner ticks frame spelled) c.in-Err.ensures.kinds)

pub returns-in-Err-clause-spelled_help : goal.returns-in-Err-clause-spelled_help
returns-in-Err-clause-spelled_help c = λ command among spelled.
    c.usage_fault.ensures (taken_is_memory _ _ c.in-Err.error c.in-Ok.ensures (help_taken _ command among spelled) c.in-Err.ensures.kinds)

pub returns-in-Err-clause-spelled_version : goal.returns-in-Err-clause-spelled_version
returns-in-Err-clause-spelled_version c = λ spelled.
    c.usage_fault.ensures (taken_is_memory _ _ c.in-Err.error c.in-Ok.ensures (version_taken _ spelled) c.in-Err.ensures.kinds)

-- ---- a value that is refused

pub returns-in-Some-clause-refused : goal.returns-in-Some-clause-refused
returns-in-Some-clause-refused c =
    let built = c.in-Ok.ensures in
    let words = texts c.args.words.now in
    let matches = (c.in-Ok-try_get_matches_from.ensures.matches (ap is_simple built ∙ ngc_is_simple)).1 in
    let found = found_from_parts _ _ _ _ _ _ c.in-Some.ensures.name c.in-Some.ensures.rows (matches ∙ ap (λ (app : App). subcommand_of app words) built) in
    λ taken have. wrong_changes _ _ _ found c.in-Err-changes_of.ensures have

pub returns-in-Some-clause-spelled : goal.returns-in-Some-clause-spelled
returns-in-Some-clause-spelled c =
    let built = c.in-Ok.ensures in
    let words = texts c.args.words.now in
    let matches = (c.in-Ok-try_get_matches_from.ensures.matches (ap is_simple built ∙ ngc_is_simple)).1 in
    let found = found_from_parts _ _ _ _ _ _ c.in-Some.ensures.name c.in-Some.ensures.rows (matches ∙ ap (λ (app : App). subcommand_of app words) built) in
    λ program machine tools delete spelled. wrong_changes _ _ _ found c.in-Err-changes_of.ensures (list_changes _ program machine tools delete spelled)

pub returns-in-Some-clause-spelled_certify : goal.returns-in-Some-clause-spelled_certify
returns-in-Some-clause-spelled_certify c =
    let built = c.in-Ok.ensures in
    let words = texts c.args.words.now in
    let matches = (c.in-Ok-try_get_matches_from.ensures.matches (ap is_simple built ∙ ngc_is_simple)).1 in
    let found = found_from_parts _ _ _ _ _ _ c.in-Some.ensures.name c.in-Some.ensures.rows (matches ∙ ap (λ (app : App). subcommand_of app words) built) in
    λ machine tools program cuts format range spelled. wrong_changes _ _ _ found c.in-Err-changes_of.ensures (certify_changes _ machine tools program cuts format range spelled)

pub returns-in-Some-clause-spelled_check : goal.returns-in-Some-clause-spelled_check
returns-in-Some-clause-spelled_check c =
    let built = c.in-Ok.ensures in
    let words = texts c.args.words.now in
    let matches = (c.in-Ok-try_get_matches_from.ensures.matches (ap is_simple built ∙ ngc_is_simple)).1 in
    let found = found_from_parts _ _ _ _ _ _ c.in-Some.ensures.name c.in-Some.ensures.rows (matches ∙ ap (λ (app : App). subcommand_of app words) built) in
    λ machine tools certificate program spelled. wrong_changes _ _ _ found c.in-Err-changes_of.ensures (check_changes _ machine tools certificate program spelled)

pub returns-in-Some-clause-spelled_run : goal.returns-in-Some-clause-spelled_run
returns-in-Some-clause-spelled_run c =
    let built = c.in-Ok.ensures in
    let words = texts c.args.words.now in
    let matches = (c.in-Ok-try_get_matches_from.ensures.matches (ap is_simple built ∙ ngc_is_simple)).1 in
    let found = found_from_parts _ _ _ _ _ _ c.in-Some.ensures.name c.in-Some.ensures.rows (matches ∙ ap (λ (app : App). subcommand_of app words) built) in
    λ recording machine tools certificate events program delete output spelled. wrong_changes _ _ _ found c.in-Err-changes_of.ensures (run_changes _ recording machine tools certificate events program delete output spelled)

pub returns-in-Some-clause-spelled_live : goal.returns-in-Some-clause-spelled_live
returns-in-Some-clause-spelled_live c =
    let built = c.in-Ok.ensures in
    let words = texts c.args.words.now in
    let matches = (c.in-Ok-try_get_matches_from.ensures.matches (ap is_simple built ∙ ngc_is_simple)).1 in
    let found = found_from_parts _ _ _ _ _ _ c.in-Some.ensures.name c.in-Some.ensures.rows (matches ∙ ap (λ (app : App). subcommand_of app words) built) in
    λ machine tools certificate program delete output feed_ring spelled. wrong_changes _ _ _ found c.in-Err-changes_of.ensures (live_changes _ machine tools certificate program delete output feed_ring spelled)

pub returns-in-Some-clause-spelled_draw : goal.returns-in-Some-clause-spelled_draw
returns-in-Some-clause-spelled_draw c =
    let built = c.in-Ok.ensures in
    let words = texts c.args.words.now in
    let matches = (c.in-Ok-try_get_matches_from.ensures.matches (ap is_simple built ∙ ngc_is_simple)).1 in
    let found = found_from_parts _ _ _ _ _ _ c.in-Some.ensures.name c.in-Some.ensures.rows (matches ∙ ap (λ (app : App). subcommand_of app words) built) in
    λ machine tools certificate program view delete bodies whole spelled. wrong_changes _ _ _ found c.in-Err-changes_of.ensures (draw_changes _ machine tools certificate program view delete bodies whole spelled)

pub returns-in-Some-clause-spelled_show : goal.returns-in-Some-clause-spelled_show
returns-in-Some-clause-spelled_show c =
    let built = c.in-Ok.ensures in
    let words = texts c.args.words.now in
    let matches = (c.in-Ok-try_get_matches_from.ensures.matches (ap is_simple built ∙ ngc_is_simple)).1 in
    let found = found_from_parts _ _ _ _ _ _ c.in-Some.ensures.name c.in-Some.ensures.rows (matches ∙ ap (λ (app : App). subcommand_of app words) built) in
    λ machine tools warnings spelled. wrong_changes _ _ _ found c.in-Err-changes_of.ensures (show_changes _ machine tools warnings spelled)

pub returns-in-Some-clause-spelled_report : goal.returns-in-Some-clause-spelled_report
returns-in-Some-clause-spelled_report c =
    let built = c.in-Ok.ensures in
    let words = texts c.args.words.now in
    let matches = (c.in-Ok-try_get_matches_from.ensures.matches (ap is_simple built ∙ ngc_is_simple)).1 in
    let found = found_from_parts _ _ _ _ _ _ c.in-Some.ensures.name c.in-Some.ensures.rows (matches ∙ ap (λ (app : App). subcommand_of app words) built) in
    λ machine tools program cuts all json range spelled. wrong_changes _ _ _ found c.in-Err-changes_of.ensures (report_changes _ machine tools program cuts all json range spelled)

pub returns-in-Some-clause-spelled_place : goal.returns-in-Some-clause-spelled_place
returns-in-Some-clause-spelled_place c =
    let built = c.in-Ok.ensures in
    let words = texts c.args.words.now in
    let matches = (c.in-Ok-try_get_matches_from.ensures.matches (ap is_simple built ∙ ngc_is_simple)).1 in
    let found = found_from_parts _ _ _ _ _ _ c.in-Some.ensures.name c.in-Some.ensures.rows (matches ∙ ap (λ (app : App). subcommand_of app words) built) in
    λ machine tools program system cuts json range spelled. wrong_changes _ _ _ found c.in-Err-changes_of.ensures (place_changes _ machine tools program system cuts json range spelled)

pub returns-in-Some-clause-spelled_adapt : goal.returns-in-Some-clause-spelled_adapt
returns-in-Some-clause-spelled_adapt c =
    let built = c.in-Ok.ensures in
    let words = texts c.args.words.now in
    let matches = (c.in-Ok-try_get_matches_from.ensures.matches (ap is_simple built ∙ ngc_is_simple)).1 in
    let found = found_from_parts _ _ _ _ _ _ c.in-Some.ensures.name c.in-Some.ensures.rows (matches ∙ ap (λ (app : App). subcommand_of app words) built) in
    λ from machine tools program delete spelled. wrong_changes _ _ _ found c.in-Err-changes_of.ensures (adapt_changes _ from machine tools program delete spelled)

pub returns-in-Some-clause-spelled_machine : goal.returns-in-Some-clause-spelled_machine
returns-in-Some-clause-spelled_machine c =
    let built = c.in-Ok.ensures in
    let words = texts c.args.words.now in
    let matches = (c.in-Ok-try_get_matches_from.ensures.matches (ap is_simple built ∙ ngc_is_simple)).1 in
    let found = found_from_parts _ _ _ _ _ _ c.in-Some.ensures.name c.in-Some.ensures.rows (matches ∙ ap (λ (app : App). subcommand_of app words) built) in
    λ source corner ticks frame spelled. wrong_changes _ _ _ found c.in-Err-changes_of.ensures (machine_changes _ source corner ticks frame spelled)

pub returns-in-Some-clause-spelled_help : goal.returns-in-Some-clause-spelled_help
returns-in-Some-clause-spelled_help c =
    let built = c.in-Ok.ensures in
    let words = texts c.args.words.now in
    let matches = (c.in-Ok-try_get_matches_from.ensures.matches (ap is_simple built ∙ ngc_is_simple)).1 in
    let found = found_from_parts _ _ _ _ _ _ c.in-Some.ensures.name c.in-Some.ensures.rows (matches ∙ ap (λ (app : App). subcommand_of app words) built) in
    λ command among spelled. wrong_changes _ _ _ found c.in-Err-changes_of.ensures (help_changes _ command among spelled)

pub returns-in-Some-clause-spelled_version : goal.returns-in-Some-clause-spelled_version
returns-in-Some-clause-spelled_version c =
    let built = c.in-Ok.ensures in
    let words = texts c.args.words.now in
    let matches = (c.in-Ok-try_get_matches_from.ensures.matches (ap is_simple built ∙ ngc_is_simple)).1 in
    let found = found_from_parts _ _ _ _ _ _ c.in-Some.ensures.name c.in-Some.ensures.rows (matches ∙ ap (λ (app : App). subcommand_of app words) built) in
    λ spelled. wrong_changes _ _ _ found c.in-Err-changes_of.ensures (version_changes _ spelled)
