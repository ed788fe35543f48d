-- The options, by the subcommand that `clap` finds in the words and its values.
use Rattle.std.specs.Prelude.{◌≡◌, ◌≤◌, ℕ, Bool, List, [], ◌∷◌, ◌⊎◌, Option, Some, None, IfSome}
use Rattle.std.specs.Prelude.{option_map, codes, false, true, is_some, unwrap_or, Result, Ok, IsSome}
use Rattle.std.specs.Str.{bytes_eq}
use Rattle.std.specs.Str.Parse.{IsNumeral, digits_value, without_leading_plus}
use Rattle.std.specs.Option.{option_map_or}
use Rattle.clap.specs.Words.{IsUnsignedIn, Row, Shape, Text, all_of, fault_of, first_of}
use Rattle.ngc_added_boxes.specs.Boxes.{AddedBoxes}
use Rattle.ngc_added_boxes.specs.Texts.{parsed_boxes, parsed_fixtures}
use Rattle.ngc_added_boxes.specs.declared.reading.BoxMistake.{BoxMistake}
use Rattle.ngc_margins.specs.Changes.{no_changes}
use Rattle.ngc_margins.specs.Demands.{Demand}
use Rattle.ngc_margins.specs.Texts.{parsed_demands}
use Rattle.ngc_margins.specs.declared.changes.Changes.{Changes}
use Rattle.ngc_margins.specs.declared.reading.DemandMistake.{DemandMistake}
use Rattle.ngc_origins.specs.Texts.{OriginList, parsed_origins}
use Rattle.ngc_origins.specs.declared.reading.OriginMistake.{OriginMistake}
use Rattle.ngc_command_line.specs.CommandLine.{MachineSource, FromGrbl, FromFigures, ngc_app, run_name}
use Rattle.ngc_command_line.specs.declared.options.AdaptOptions.{AdaptOptions}
use Rattle.ngc_command_line.specs.declared.options.CertifyOptions.{CertifyOptions}
use Rattle.ngc_command_line.specs.declared.options.CheckOptions.{CheckOptions}
use Rattle.ngc_command_line.specs.declared.options.DrawOptions.{DrawOptions}
use Rattle.ngc_command_line.specs.declared.options.Format.{Format}
use Rattle.ngc_command_line.specs.declared.options.Format.TheVariants.{One, Two}
use Rattle.ngc_command_line.specs.declared.options.ListOptions.{ListOptions}
use Rattle.ngc_command_line.specs.declared.options.LiveOptions.{LiveOptions}
use Rattle.ngc_command_line.specs.declared.options.MachineOptions.{MachineOptions}
use Rattle.ngc_command_line.specs.declared.options.Recording.{Recording}
use Rattle.ngc_command_line.specs.declared.options.PlaceOptions.{PlaceOptions}
use Rattle.ngc_command_line.specs.declared.options.ReportOptions.{ReportOptions}
use Rattle.ngc_command_line.specs.declared.options.RunOptions.{RunOptions}
use Rattle.ngc_command_line.specs.declared.options.ShowOptions.{ShowOptions}
use Rattle.ngc_command_line.specs.declared.options.Options.{Options}
use Rattle.ngc_command_line.specs.declared.options.Options.TheVariants.{List as ToList}
use Rattle.ngc_command_line.specs.declared.options.Options.TheVariants.{Certify as ToCertify}
use Rattle.ngc_command_line.specs.declared.options.RunThroughOptions.{RunThroughOptions}
use Rattle.ngc_command_line.specs.declared.options.Options.TheVariants.{Check as ToCheck}
use Rattle.ngc_command_line.specs.declared.options.Options.TheVariants.{Run as ToRun}
use Rattle.ngc_command_line.specs.declared.options.Options.TheVariants.{RunThrough as ToRunThrough}
use Rattle.ngc_command_line.specs.declared.options.Options.TheVariants.{Live as ToLive}
use Rattle.ngc_command_line.specs.declared.options.Options.TheVariants.{Draw as ToDraw}
use Rattle.ngc_command_line.specs.declared.options.Options.TheVariants.{Show as ToShow}
use Rattle.ngc_command_line.specs.declared.options.Options.TheVariants.{Adapt as ToAdapt, Machine as ToMachine}
use Rattle.ngc_command_line.specs.declared.options.Options.TheVariants.{Explain as ToExplain}
use Rattle.ngc_command_line.specs.declared.options.Options.TheVariants.{Help as ToHelp}
use Rattle.ngc_command_line.specs.declared.options.Options.TheVariants.{Place as ToPlace, Report as ToReport}
use Rattle.ngc_command_line.specs.declared.options.Options.TheVariants.{Version as ToVersion}
use Rattle.ngc_command_line.specs.declared.HelpFault.{HelpFault}
use Rattle.ngc_command_line.specs.declared.HelpFault.TheVariants as help_faults
use Rattle.ngc_command_line.specs.declared.UsageFault.{UsageFault}
use Rattle.ngc_command_line.specs.declared.UsageFault.TheVariants.{Usage, Memory}

-- `clap` finds no fault in the words
abbrev pub IsTaken : List Text → Type 0
IsTaken words = fault_of ngc_app words ≡ []

-- the first value of the flag is the text `true`, which `clap` sets if the flag is in the words
abbrev pub is_set : Text → List Row → Bool
is_set name rows = option_map_or (λ value. bytes_eq value (codes "true")) (first_of name rows) false

-- the origins that the values of `--origin` write, all of them, or the first mistake
abbrev pub origins_in : List Row → Result OriginList OriginMistake
origins_in rows = parsed_origins (unwrap_or (all_of (codes "origin") rows) [])

-- the fixtures that the values of `--fixture` write, all of them, or the first mistake
abbrev pub fixtures_in : List Row → Result AddedBoxes BoxMistake
fixtures_in rows = parsed_fixtures (unwrap_or (all_of (codes "fixture") rows) [])

-- the texts of the options that replace keys of the machine file, or add to them
pub record ChangeTexts : Type 0 where
  pub origins : Option (List Text)
  pub fixtures : Option (List Text)
  pub stock : Option Text
  pub margin : Option Text
  pub travel_margin : Option Text
  pub rapids : Option Text

abbrev pub change_texts : List Row → ChangeTexts
change_texts rows = record {
  origins = all_of (codes "origin") rows;
  fixtures = all_of (codes "fixture") rows;
  stock = first_of (codes "stock") rows;
  margin = first_of (codes "margin") rows;
  travel_margin = first_of (codes "travel-margin") rows;
  rapids = first_of (codes "rapids") rows;
}

abbrev pub no_texts : ChangeTexts
no_texts = record {
  origins = None;
  fixtures = None;
  stock = None;
  margin = None;
  travel_margin = None;
  rapids = None;
}

-- what the texts replace, if all of them can be read
abbrev pub all_read : Result OriginList OriginMistake → Result AddedBoxes BoxMistake →
    Result Demand DemandMistake → Option Changes
all_read (Ok origins) (Ok boxes) (Ok demands) =
    Some (record { origins = origins; boxes = boxes; demands = demands })
all_read _ _ _ = None

abbrev pub demands_written : ChangeTexts → Result Demand DemandMistake
demands_written t = parsed_demands t.margin t.travel_margin t.rapids

abbrev pub boxes_written : ChangeTexts → Result AddedBoxes BoxMistake
boxes_written t = parsed_boxes (unwrap_or t.fixtures []) t.stock

abbrev pub changes_written : ChangeTexts → Option Changes
changes_written t =
    all_read (parsed_origins (unwrap_or t.origins [])) (boxes_written t) (demands_written t)

abbrev pub changes_in : List Row → Option Changes
changes_in rows = changes_written (change_texts rows)

-- the values of `--origin` are origins, each of another system, those of `--fixture` and `--stock` are
-- boxes, and those of the other options that replace keys of the machine file can be read
abbrev pub HaveChanges : Option (Text × List Row) → Type 0
HaveChanges None = Unit {0}
HaveChanges (Some found) = IsSome (changes_in found.1)

-- each option of `list` by the values that were found: a file by the first value under its own name
pub record AreListOptions (rows : List Row) (options : ListOptions) : Type 0 where
  pub program : option_map (λ name. name.now) options.program ≡ first_of (codes "program") rows
  pub machine : option_map (λ name. name.now) options.machine ≡ first_of (codes "machine") rows
  pub tools : option_map (λ name. name.now) options.tools ≡ first_of (codes "tools") rows
  pub delete : options.delete ≡ is_set (codes "delete") rows
  pub dialect : option_map (λ name. name.now) options.dialect ≡ first_of (codes "dialect") rows
  pub changes : changes_in rows ≡ Some options.changes

-- the number of cuts: 8 without a text, otherwise the number from 1 to 65,535 whose decimal the
-- text is; a plus sign may precede it
abbrev pub AreCuts : Option Text → ℕ → Type 0
AreCuts None cuts = cuts ≡ 8
AreCuts (Some text) cuts = IsNumeral 10 (without_leading_plus text)
    × (cuts ≡ digits_value 10 (without_leading_plus text)) × (1 ≤ cuts) × (cuts ≤ 65535)

-- the number of cells: none without a text, otherwise the number from 1 to 4,000,000 whose decimal the
-- text is; a plus sign may precede it
abbrev pub AreCells : Option Text → Option ℕ → Type 0
AreCells None cells = cells ≡ None
AreCells (Some text) None = ⊥
AreCells (Some text) (Some cells) = IsNumeral 10 (without_leading_plus text)
    × (cells ≡ digits_value 10 (without_leading_plus text)) × (1 ≤ cells) × (cells ≤ 4000000)

abbrev pub format_number : Format → ℕ
format_number One = 1
format_number Two = 2

-- the version of a certificate's text: 1 without a text, otherwise 1 or 2, whose decimal the text
-- is; a plus sign may precede it
abbrev pub IsFormat : Option Text → Format → Type 0
IsFormat None format = format ≡ One
IsFormat (Some text) format = IsNumeral 10 (without_leading_plus text)
    × (format_number format ≡ digits_value 10 (without_leading_plus text))

-- the bits that are inverted: none without a text, otherwise those of the number whose decimal the
-- text is; a plus sign may precede it
abbrev pub IsMask : Option Text → ℕ → Type 0
IsMask None mask = mask ≡ 0
IsMask (Some text) mask = IsNumeral 10 (without_leading_plus text)
    × (mask ≡ digits_value 10 (without_leading_plus text)) × (mask ≤ 255)

-- each option of `certify` by the first value that was found under its own name
pub record AreCertifyOptions (rows : List Row) (options : CertifyOptions) : Type 0 where
  pub machine : Some options.machine.now ≡ first_of (codes "machine") rows
  pub tools : Some options.tools.now ≡ first_of (codes "tools") rows
  pub program : option_map (λ name. name.now) options.program ≡ first_of (codes "program") rows
  pub cuts : AreCuts (first_of (codes "cuts") rows) options.cuts
  pub format : IsFormat (first_of (codes "format") rows) options.format
  pub dialect : option_map (λ name. name.now) options.dialect ≡ first_of (codes "dialect") rows
  pub changes : changes_in rows ≡ Some options.changes

-- the number whose decimal the text is; a plus sign may precede it
abbrev pub IsNumber : Option Text → ℕ → Type 0
IsNumber None number = ⊥
IsNumber (Some text) number = IsNumeral 10 (without_leading_plus text)
    × (number ≡ digits_value 10 (without_leading_plus text)) × (1 ≤ number) × (number ≤ 999)

-- each option of `check` by the first value that was found under its own name
pub record AreCheckOptions (rows : List Row) (options : CheckOptions) : Type 0 where
  pub machine : Some options.machine.now ≡ first_of (codes "machine") rows
  pub tools : Some options.tools.now ≡ first_of (codes "tools") rows
  pub certificate : Some options.certificate.now ≡ first_of (codes "certificate") rows
  pub program : option_map (λ name. name.now) options.program ≡ first_of (codes "program") rows
  pub dialect : option_map (λ name. name.now) options.dialect ≡ first_of (codes "dialect") rows
  pub changes : changes_in rows ≡ Some options.changes

-- each option of a run with events by the first value that was found under its own name
pub record AreRunOptions (rows : List Row) (options : RunOptions) : Type 0 where
  pub machine : Some options.machine.now ≡ first_of (codes "machine") rows
  pub tools : Some options.tools.now ≡ first_of (codes "tools") rows
  pub certificate : Some options.certificate.now ≡ first_of (codes "certificate") rows
  pub events : Some options.events.now ≡ first_of (codes "events") rows
  pub program : option_map (λ name. name.now) options.program ≡ first_of (codes "program") rows
  pub delete : options.delete ≡ is_set (codes "delete") rows
  pub output : option_map (λ name. name.now) options.output ≡ first_of (codes "output") rows
  pub inverted : IsMask (first_of (codes "inverted") rows) options.inverted
  pub dialect : option_map (λ name. name.now) options.dialect ≡ first_of (codes "dialect") rows
  pub changes : changes_in rows ≡ Some options.changes

-- and of a run without events
pub record AreRunThroughOptions (rows : List Row) (options : RunThroughOptions) : Type 0 where
  pub machine : Some options.machine.now ≡ first_of (codes "machine") rows
  pub tools : Some options.tools.now ≡ first_of (codes "tools") rows
  pub certificate : Some options.certificate.now ≡ first_of (codes "certificate") rows
  pub events : None ≡ first_of (codes "events") rows
  pub program : option_map (λ name. name.now) options.program ≡ first_of (codes "program") rows
  pub delete : options.delete ≡ is_set (codes "delete") rows
  pub output : option_map (λ name. name.now) options.output ≡ first_of (codes "output") rows
  pub inverted : IsMask (first_of (codes "inverted") rows) options.inverted
  pub dialect : option_map (λ name. name.now) options.dialect ≡ first_of (codes "dialect") rows
  pub changes : changes_in rows ≡ Some options.changes

-- the options are those of a run that writes this, with events or without
abbrev pub AreRunsOptions : Recording → List Row → Options → Type 0
AreRunsOptions recording rows (ToRun run) = (run.recording ≡ recording) × AreRunOptions rows run
AreRunsOptions recording rows (ToRunThrough run) =
    (run.recording ≡ recording) × AreRunThroughOptions rows run
AreRunsOptions recording rows other = ⊥

-- each option of `live` by the first value that was found under its own name
pub record AreLiveOptions (rows : List Row) (options : LiveOptions) : Type 0 where
  pub machine : Some options.machine.now ≡ first_of (codes "machine") rows
  pub tools : Some options.tools.now ≡ first_of (codes "tools") rows
  pub certificate : Some options.certificate.now ≡ first_of (codes "certificate") rows
  pub program : Some options.program.now ≡ first_of (codes "program") rows
  pub delete : options.delete ≡ is_set (codes "delete") rows
  pub output : option_map (λ name. name.now) options.output ≡ first_of (codes "output") rows
  pub inverted : IsMask (first_of (codes "inverted") rows) options.inverted
  pub feed_ring : options.feed_ring ≡ is_set (codes "feed-ring") rows
  pub aborts : options.aborts ≡ is_set (codes "abort") rows
  pub dialect : option_map (λ name. name.now) options.dialect ≡ first_of (codes "dialect") rows
  pub changes : changes_in rows ≡ Some options.changes

-- each option of `draw` by the first value that was found under its own name
pub record AreDrawOptions (rows : List Row) (options : DrawOptions) : Type 0 where
  pub machine : Some options.machine.now ≡ first_of (codes "machine") rows
  pub tools : Some options.tools.now ≡ first_of (codes "tools") rows
  pub certificate : option_map (λ name. name.now) options.certificate
      ≡ first_of (codes "certificate") rows
  pub program : option_map (λ name. name.now) options.program ≡ first_of (codes "program") rows
  pub view : option_map (λ name. name.now) options.view ≡ first_of (codes "view") rows
  pub delete : options.delete ≡ is_set (codes "delete") rows
  pub bodies : options.bodies ≡ is_set (codes "bodies") rows
  pub whole : options.whole ≡ is_set (codes "whole") rows
  pub map : options.map ≡ is_set (codes "map") rows
  pub cells : AreCells (first_of (codes "cells") rows) options.cells
  pub changes : changes_in rows ≡ Some options.changes
  pub dialect : option_map (λ name. name.now) options.dialect ≡ first_of (codes "dialect") rows

-- each option of `show` by the first value that was found under its own name
pub record AreShowOptions (rows : List Row) (options : ShowOptions) : Type 0 where
  pub machine : Some options.machine.now ≡ first_of (codes "machine") rows
  pub tools : option_map (λ name. name.now) options.tools ≡ first_of (codes "tools") rows
  pub warnings : options.warnings ≡ is_set (codes "warnings") rows

-- each option of `report` by the first value that was found under its own name
pub record AreReportOptions (rows : List Row) (options : ReportOptions) : Type 0 where
  pub machine : Some options.machine.now ≡ first_of (codes "machine") rows
  pub tools : Some options.tools.now ≡ first_of (codes "tools") rows
  pub program : option_map (λ name. name.now) options.program ≡ first_of (codes "program") rows
  pub cuts : AreCuts (first_of (codes "cuts") rows) options.cuts
  pub all : options.all ≡ is_set (codes "all") rows
  pub json : options.json ≡ is_set (codes "json") rows
  pub cells : AreCells (first_of (codes "cells") rows) options.cells
  pub dialect : option_map (λ name. name.now) options.dialect ≡ first_of (codes "dialect") rows
  pub changes : changes_in rows ≡ Some options.changes

-- each option of `place` by the first value that was found under its own name
pub record ArePlaceOptions (rows : List Row) (options : PlaceOptions) : Type 0 where
  pub machine : Some options.machine.now ≡ first_of (codes "machine") rows
  pub tools : Some options.tools.now ≡ first_of (codes "tools") rows
  pub program : option_map (λ name. name.now) options.program ≡ first_of (codes "program") rows
  pub system : option_map (λ name. name.now) options.system ≡ first_of (codes "system") rows
  pub cuts : AreCuts (first_of (codes "cuts") rows) options.cuts
  pub json : options.json ≡ is_set (codes "json") rows
  pub changes : changes_in rows ≡ Some options.changes
  pub dialect : option_map (λ name. name.now) options.dialect ≡ first_of (codes "dialect") rows

-- each option of `adapt` by the first value that was found under its own name
pub record AreAdaptOptions (rows : List Row) (options : AdaptOptions) : Type 0 where
  pub from : Some options.from.now ≡ first_of (codes "from") rows
  pub machine : option_map (λ name. name.now) options.machine ≡ first_of (codes "machine") rows
  pub tools : option_map (λ name. name.now) options.tools ≡ first_of (codes "tools") rows
  pub program : option_map (λ name. name.now) options.program ≡ first_of (codes "program") rows
  pub delete : options.delete ≡ is_set (codes "delete") rows

-- each option of `machine` by the first value that was found under its own name
pub record AreMachineOptions (rows : List Row) (options : MachineOptions) : Type 0 where
  pub grbl : option_map (λ name. name.now) options.grbl ≡ first_of (codes "grbl") rows
  pub steps : option_map (λ name. name.now) options.steps ≡ first_of (codes "steps-per-mm") rows
  pub travel : option_map (λ name. name.now) options.travel ≡ first_of (codes "travel") rows
  pub feed : option_map (λ name. name.now) options.feed ≡ first_of (codes "feed") rows
  pub acceleration : option_map (λ name. name.now) options.acceleration ≡ first_of (codes "acceleration") rows
  pub corner : option_map (λ name. name.now) options.corner ≡ first_of (codes "corner") rows
  pub ticks : option_map (λ name. name.now) options.ticks ≡ first_of (codes "ticks") rows
  pub frame : option_map (λ name. name.now) options.frame ≡ first_of (codes "frame") rows
  pub jump : option_map (λ name. name.now) options.jump ≡ first_of (codes "jump") rows
  pub turn : option_map (λ name. name.now) options.turn ≡ first_of (codes "turn") rows
  pub start : option_map (λ name. name.now) options.start ≡ first_of (codes "start") rows
  pub home28 : option_map (λ name. name.now) options.home28 ≡ first_of (codes "home28") rows
  pub home30 : option_map (λ name. name.now) options.home30 ≡ first_of (codes "home30") rows
  pub ring : option_map (λ name. name.now) options.ring ≡ first_of (codes "ring") rows
  pub arc_feed : options.arc_feed ≡ is_set (codes "arc-feed") rows
  pub rates : options.rates ≡ is_set (codes "rates") rows

-- a value was found under the name
abbrev pub HasValue : Text → List Row → Type 0
HasValue name rows = is_some (first_of name rows) ≡ true

-- the values that are found for `certify` if the words are accepted
abbrev pub HasCertifyValues : List Row → Type 0
HasCertifyValues rows = HasValue (codes "machine") rows × HasValue (codes "tools") rows
    × IfSome (first_of (codes "cuts") rows) (IsUnsignedIn 1 65535) ×
    IfSome (first_of (codes "format") rows) (IsUnsignedIn 1 2)

-- the values that are found for `check` if the words are accepted
abbrev pub HasCheckValues : List Row → Type 0
HasCheckValues rows = HasValue (codes "machine") rows × HasValue (codes "tools") rows
    × HasValue (codes "certificate") rows

-- the values that are found for `run` and `pulses` if the words are accepted
abbrev pub HasRunValues : List Row → Type 0
HasRunValues rows = HasValue (codes "machine") rows × HasValue (codes "tools") rows
    × HasValue (codes "certificate") rows
    × IfSome (first_of (codes "inverted") rows) (IsUnsignedIn 0 255)

-- the values that are found for `live` if the words are accepted
abbrev pub HasLiveValues : List Row → Type 0
HasLiveValues rows = HasValue (codes "machine") rows × HasValue (codes "tools") rows
    × HasValue (codes "certificate") rows × HasValue (codes "program") rows
    × IfSome (first_of (codes "inverted") rows) (IsUnsignedIn 0 255)

-- the values that are found for `draw` if the words are accepted
abbrev pub HasDrawValues : List Row → Type 0
HasDrawValues rows = HasValue (codes "machine") rows × HasValue (codes "tools") rows
    × IfSome (first_of (codes "cells") rows) (IsUnsignedIn 1 4000000)

-- the values that are found for `show` if the words are accepted
abbrev pub HasShowValues : List Row → Type 0
HasShowValues rows = HasValue (codes "machine") rows

-- the values that are found for `report` if the words are accepted
abbrev pub HasReportValues : List Row → Type 0
HasReportValues rows = HasValue (codes "machine") rows × HasValue (codes "tools") rows
    × IfSome (first_of (codes "cuts") rows) (IsUnsignedIn 1 65535)
    × IfSome (first_of (codes "cells") rows) (IsUnsignedIn 1 4000000)

-- the values that are found for `place` if the words are accepted
abbrev pub HasPlaceValues : List Row → Type 0
HasPlaceValues rows = HasValue (codes "machine") rows × HasValue (codes "tools") rows
    × IfSome (first_of (codes "cuts") rows) (IsUnsignedIn 1 65535)

-- the values that are found for `adapt` if the words are accepted
abbrev pub HasAdaptValues : List Row → Type 0
HasAdaptValues rows = HasValue (codes "from") rows

-- the values that are found for `explain` if the words are accepted
abbrev pub HasExplainValues : List Row → Type 0
HasExplainValues rows = HasValue (codes "number") rows
    × IfSome (first_of (codes "number") rows) (IsUnsignedIn 1 999)

-- a subcommand of these has the name
abbrev pub IsNameAmong : List Shape → Text → Type 0
IsNameAmong [] name = ⊥
IsNameAmong (shape ∷ rest) name = (name ≡ shape.name) ⊎ IsNameAmong rest name

-- the subcommand that was found is one of the program's and has the values that it requires
pub record IsWhole (name : Text) (rows : List Row) : Type 0 where
  pub named : IsNameAmong ngc_app.subs name
  pub certify : name ≡ codes "certify" → HasCertifyValues rows
  pub check : name ≡ codes "check" → HasCheckValues rows
  pub run : (recording : Recording) → name ≡ run_name recording → HasRunValues rows
  pub live : name ≡ codes "live" → HasLiveValues rows
  pub draw : name ≡ codes "draw" → HasDrawValues rows
  pub show : name ≡ codes "show" → HasShowValues rows
  pub report : name ≡ codes "report" → HasReportValues rows
  pub place : name ≡ codes "place" → HasPlaceValues rows
  pub adapt : name ≡ codes "adapt" → HasAdaptValues rows
  pub explain : name ≡ codes "explain" → HasExplainValues rows

-- the options are those of the subcommand that was found, and there is one
abbrev pub AreOptions : Option (Text × List Row) → Options → Type 0
AreOptions None options = ⊥
AreOptions (Some found) (ToList list) = (found.0 ≡ codes "list") × AreListOptions found.1 list
AreOptions (Some found) (ToCertify certify) =
    (found.0 ≡ codes "certify") × AreCertifyOptions found.1 certify
AreOptions (Some found) (ToCheck check) = (found.0 ≡ codes "check") × AreCheckOptions found.1 check
AreOptions (Some found) (ToRun run) = (found.0 ≡ run_name run.recording) × AreRunOptions found.1 run
AreOptions (Some found) (ToRunThrough run) =
    (found.0 ≡ run_name run.recording) × AreRunThroughOptions found.1 run
AreOptions (Some found) (ToLive live) = (found.0 ≡ codes "live") × AreLiveOptions found.1 live
AreOptions (Some found) (ToDraw draw) = (found.0 ≡ codes "draw") × AreDrawOptions found.1 draw
AreOptions (Some found) (ToShow show) = (found.0 ≡ codes "show") × AreShowOptions found.1 show
AreOptions (Some found) (ToReport report) =
    (found.0 ≡ codes "report") × AreReportOptions found.1 report
AreOptions (Some found) (ToPlace place) = (found.0 ≡ codes "place") × ArePlaceOptions found.1 place
AreOptions (Some found) (ToAdapt adapt) = (found.0 ≡ codes "adapt") × AreAdaptOptions found.1 adapt
AreOptions (Some found) (ToMachine machine) =
    (found.0 ≡ codes "machine") × AreMachineOptions found.1 machine
AreOptions (Some found) (ToExplain number) =
    (found.0 ≡ codes "explain") × IsNumber (first_of (codes "number") found.1) number
AreOptions (Some found) (ToHelp command) = (found.0 ≡ codes "help")
    × (option_map (λ name. name.now) command ≡ first_of (codes "command") found.1)
AreOptions (Some found) ToVersion = found.0 ≡ codes "version"

-- `list` is requested, with these options, and no key is replaced
abbrev pub IsListRequest : Option Text → Option Text → Option Text → Bool → Options → Type 0
IsListRequest program machine tools delete (ToList list) =
    (option_map (λ name. name.now) list.program ≡ program)
    × (option_map (λ name. name.now) list.machine ≡ machine)
    × (option_map (λ name. name.now) list.tools ≡ tools)
    × (list.delete ≡ delete) × (list.changes ≡ no_changes)
    × (option_map (λ name. name.now) list.dialect ≡ None)
IsListRequest program machine tools delete other = ⊥

-- `certify` is requested, with these options, by default 8 cuts and version 1, and no key is
-- replaced
abbrev pub IsCertifyRequest : Text → Text → Option Text → Option ℕ → Option Format → Options → Type 0
IsCertifyRequest machine tools program cuts format (ToCertify certify) =
    (certify.machine.now ≡ machine) × (certify.tools.now ≡ tools)
    × (option_map (λ name. name.now) certify.program ≡ program)
    × (certify.cuts ≡ unwrap_or cuts 8) × (certify.format ≡ unwrap_or format One)
    × (certify.changes ≡ no_changes) × (option_map (λ name. name.now) certify.dialect ≡ None)
IsCertifyRequest machine tools program cuts format other = ⊥

-- `check` is requested, with these options, and no key is replaced
abbrev pub IsCheckRequest : Text → Text → Text → Option Text → Options → Type 0
IsCheckRequest machine tools certificate program (ToCheck check) =
    (check.machine.now ≡ machine) × (check.tools.now ≡ tools)
    × (check.certificate.now ≡ certificate)
    × (option_map (λ name. name.now) check.program ≡ program) × (check.changes ≡ no_changes)
    × (option_map (λ name. name.now) check.dialect ≡ None)
IsCheckRequest machine tools certificate program other = ⊥

-- a run that writes this is requested, with these options, and no bits are inverted and no
-- key is replaced
abbrev pub IsRunRequest : Recording → Text → Text → Text → Option Text → Option Text → Bool →
    Option Text → Options → Type 0
IsRunRequest recording machine tools certificate (Some events) program delete output (ToRun run) =
    (run.recording ≡ recording) × (run.machine.now ≡ machine) × (run.tools.now ≡ tools)
    × (run.certificate.now ≡ certificate) × (run.events.now ≡ events)
    × (option_map (λ name. name.now) run.program ≡ program) × (run.delete ≡ delete)
    × (option_map (λ name. name.now) run.output ≡ output) × (run.inverted ≡ 0)
    × (run.changes ≡ no_changes) × (option_map (λ name. name.now) run.dialect ≡ None)
IsRunRequest recording machine tools certificate None program delete output (ToRunThrough run) =
    (run.recording ≡ recording) × (run.machine.now ≡ machine) × (run.tools.now ≡ tools)
    × (run.certificate.now ≡ certificate)
    × (option_map (λ name. name.now) run.program ≡ program) × (run.delete ≡ delete)
    × (option_map (λ name. name.now) run.output ≡ output) × (run.inverted ≡ 0)
    × (run.changes ≡ no_changes) × (option_map (λ name. name.now) run.dialect ≡ None)
IsRunRequest recording machine tools certificate events program delete output other = ⊥

-- `live` is requested, with these options; no bits are inverted, the run ends at rest, and no
-- key is replaced
abbrev pub IsLiveRequest : Text → Text → Text → Text → Bool → Option Text → Bool → Options → Type 0
IsLiveRequest machine tools certificate program delete output feed_ring (ToLive live) =
    (live.machine.now ≡ machine) × (live.tools.now ≡ tools)
    × (live.certificate.now ≡ certificate) × (live.program.now ≡ program)
    × (live.delete ≡ delete) × (option_map (λ name. name.now) live.output ≡ output)
    × (live.inverted ≡ 0) × (live.feed_ring ≡ feed_ring) × (live.aborts ≡ false)
    × (live.changes ≡ no_changes) × (option_map (λ name. name.now) live.dialect ≡ None)
IsLiveRequest machine tools certificate program delete output feed_ring other = ⊥

-- `draw` is requested, with these options, no key is replaced, and neither a map nor a number of cells
-- is requested
abbrev pub IsDrawRequest : Text → Text → Option Text → Option Text → Option Text → Bool → Bool →
    Bool → Options → Type 0
IsDrawRequest machine tools certificate program view delete bodies whole (ToDraw draw) =
    (draw.machine.now ≡ machine) × (draw.tools.now ≡ tools)
    × (option_map (λ name. name.now) draw.certificate ≡ certificate)
    × (option_map (λ name. name.now) draw.program ≡ program)
    × (option_map (λ name. name.now) draw.view ≡ view) × (draw.delete ≡ delete)
    × (draw.bodies ≡ bodies) × (draw.whole ≡ whole)
    × (draw.changes ≡ no_changes) × (option_map (λ name. name.now) draw.dialect ≡ None)
    × (draw.map ≡ false) × (draw.cells ≡ None)
IsDrawRequest machine tools certificate program view delete bodies whole other = ⊥

-- `show` is requested, with these options
abbrev pub IsShowRequest : Text → Option Text → Bool → Options → Type 0
IsShowRequest machine tools warnings (ToShow show) =
    (show.machine.now ≡ machine) × (option_map (λ name. name.now) show.tools ≡ tools)
    × (show.warnings ≡ warnings)
IsShowRequest machine tools warnings other = ⊥

-- `report` is requested, with these options, by default 8 cuts, no key is replaced, and no number of
-- cells is requested
abbrev pub IsReportRequest : Text → Text → Option Text → Option ℕ → Bool → Bool → Options → Type 0
IsReportRequest machine tools program cuts all json (ToReport report) =
    (report.machine.now ≡ machine) × (report.tools.now ≡ tools)
    × (option_map (λ name. name.now) report.program ≡ program)
    × (report.cuts ≡ unwrap_or cuts 8) × (report.all ≡ all) × (report.json ≡ json)
    × (report.changes ≡ no_changes) × (option_map (λ name. name.now) report.dialect ≡ None)
    × (report.cells ≡ None)
IsReportRequest machine tools program cuts all json other = ⊥

-- `place` is requested, with these options, by default 8 cuts, and no key is replaced
abbrev pub IsPlaceRequest : Text → Text → Option Text → Option Text → Option ℕ → Bool → Options →
    Type 0
IsPlaceRequest machine tools program system cuts json (ToPlace place) =
    (place.machine.now ≡ machine) × (place.tools.now ≡ tools)
    × (option_map (λ name. name.now) place.program ≡ program)
    × (option_map (λ name. name.now) place.system ≡ system)
    × (place.cuts ≡ unwrap_or cuts 8) × (place.json ≡ json) × (place.changes ≡ no_changes)
    × (option_map (λ name. name.now) place.dialect ≡ None)
IsPlaceRequest machine tools program system cuts json other = ⊥

-- `adapt` is requested, with these options
abbrev pub IsAdaptRequest : Text → Option Text → Option Text → Option Text → Bool → Options → Type 0
IsAdaptRequest from machine tools program delete (ToAdapt adapt) =
    (adapt.from.now ≡ from) × (option_map (λ name. name.now) adapt.machine ≡ machine)
    × (option_map (λ name. name.now) adapt.tools ≡ tools)
    × (option_map (λ name. name.now) adapt.program ≡ program) × (adapt.delete ≡ delete)
IsAdaptRequest from machine tools program delete other = ⊥

abbrev pub grbl_in : MachineSource → Option Text
grbl_in (FromGrbl file) = Some file
grbl_in (FromFigures steps travel feed acceleration) = None

abbrev pub steps_in : MachineSource → Option Text
steps_in (FromGrbl file) = None
steps_in (FromFigures steps travel feed acceleration) = Some steps

abbrev pub travel_in : MachineSource → Option Text
travel_in (FromGrbl file) = None
travel_in (FromFigures steps travel feed acceleration) = Some travel

abbrev pub feed_in : MachineSource → Option Text
feed_in (FromGrbl file) = None
feed_in (FromFigures steps travel feed acceleration) = Some feed

abbrev pub acceleration_in : MachineSource → Option Text
acceleration_in (FromGrbl file) = None
acceleration_in (FromFigures steps travel feed acceleration) = Some acceleration

-- `machine` is requested, with these options
abbrev pub IsMachineRequest : MachineSource → Option Text → Option Text → Option Text →
    Options → Type 0
IsMachineRequest source corner ticks frame (ToMachine machine) =
    (option_map (λ name. name.now) machine.grbl ≡ grbl_in source)
    × (option_map (λ name. name.now) machine.steps ≡ steps_in source)
    × (option_map (λ name. name.now) machine.travel ≡ travel_in source)
    × (option_map (λ name. name.now) machine.feed ≡ feed_in source)
    × (option_map (λ name. name.now) machine.acceleration ≡ acceleration_in source)
    × (option_map (λ name. name.now) machine.corner ≡ corner)
    × (option_map (λ name. name.now) machine.ticks ≡ ticks)
    × (option_map (λ name. name.now) machine.frame ≡ frame)
    × (option_map (λ name. name.now) machine.jump ≡ None)
    × (option_map (λ name. name.now) machine.turn ≡ None)
    × (option_map (λ name. name.now) machine.start ≡ None)
    × (option_map (λ name. name.now) machine.home28 ≡ None)
    × (option_map (λ name. name.now) machine.home30 ≡ None)
    × (option_map (λ name. name.now) machine.ring ≡ None)
    × (machine.arc_feed ≡ false) × (machine.rates ≡ false)
IsMachineRequest source corner ticks frame other = ⊥

-- `help` is requested, for this command
abbrev pub IsHelpRequest : Option Text → Options → Type 0
IsHelpRequest command (ToHelp asked) = option_map (λ name. name.now) asked ≡ command
IsHelpRequest command other = ⊥

-- a command, if there is one, is one of the program's
abbrev pub AreCommands : Option Text → Type 0
AreCommands command = IfSome command (IsNameAmong ngc_app.subs)

-- the number of cuts, if there is one, is from 1 to 65,535
abbrev pub AreCutsInRange : Option ℕ → Type 0
AreCutsInRange cuts = IfSome cuts (λ number. (1 ≤ number) × (number ≤ 65535))

-- the table of numbers
abbrev pub usage_fault_number : UsageFault → ℕ
usage_fault_number (Usage text) = 720
usage_fault_number Memory = 900

abbrev pub help_fault_number : HelpFault → ℕ
help_fault_number help_faults.Unknown = 722
help_fault_number help_faults.Memory = 900
