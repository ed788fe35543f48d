-- The result of a run of the program.
use Rattle.std.specs.Prelude.{◌≡◌, ◌⊎◌, ℕ, Bool, true, false, List, [], ◌∷◌, ◌++◌, Option, Some}
use Rattle.std.specs.Prelude.{Result, Ok, Err, IfSome, option_map, MatchOption, None, unwrap_or}
use Rattle.std.specs.Prelude.{if◌then◌else◌}
use Rattle.std.specs.Io.KnownBytes.{Appends, Keeps}
use Rattle.ngc_file_figures.specs.Files.{FigureValues, values_of}
use Rattle.ngc_file_figures.specs.declared.figures.FileFigures.{FileFigures}
use Rattle.ngc_command_line.specs.declared.options.ListOptions.{ListOptions}
use Rattle.ngc_command_line.specs.declared.options.AdaptOptions.{AdaptOptions}
use Rattle.ngc_command_line.specs.declared.options.CertifyOptions.{CertifyOptions}
use Rattle.ngc_command_line.specs.declared.options.CheckOptions.{CheckOptions}
use Rattle.ngc_command_line.specs.declared.options.DrawOptions.{DrawOptions}
use Rattle.ngc_command_line.specs.declared.options.LiveOptions.{LiveOptions}
use Rattle.ngc_command_line.specs.declared.options.MachineOptions.{MachineOptions}
use Rattle.ngc_command_line.specs.declared.options.PlaceOptions.{PlaceOptions}
use Rattle.ngc_command_line.specs.declared.options.ReportOptions.{ReportOptions}
use Rattle.ngc_command_line.specs.declared.options.RunOptions.{RunOptions}
use Rattle.ngc_command_line.specs.declared.options.RunThroughOptions.{RunThroughOptions}
use Rattle.ngc_command_line.specs.declared.options.ShowOptions.{ShowOptions}
use Rattle.ngc_command_line.specs.declared.options.Options.{Options}
use Rattle.ngc_command_line.specs.declared.options.Options.TheVariants as commands
use Rattle.ngc_fault_texts.specs.Numbers.{is_fault}
use Rattle.ngc_fault_texts.specs.Explanations.{ExplainsOrFails as ExplainsFault}
use Rattle.ngc_fault_texts.specs.declared.explaining.ExplainFault.TheVariants.{Unknown, Write}
use Rattle.ngc_text.specs.Failures.{Rises}
use Rattle.ngc_text.specs.Written.{AppendsPrefix}
use Rattle.ngc_run_through.specs.declared.report.Report.{Report}
use Rattle.ngc_inputs.specs.declared.fault.AnswerFault.{AnswerFault}
use Rattle.ngc_inputs.specs.declared.fault.AnswerFault.TheVariants as answers
use Rattle.ngc_simulator.specs.declared.done.Done.{Done}
use Rattle.ngc_simulator.specs.declared.done.Notes.{Notes}
use Rattle.ngc_simulator.specs.declared.done.Done.TheVariants.{Quietly, RunThrough, WithNotes}
use Rattle.ngc_program_report.specs.declared.run_time.RunTime.{RunTime}
use Rattle.ngc_simulator.specs.Guides.{Guides, version_text}
use Rattle.ngc_inputs.specs.Faults.{FailsByOutput, OfCertifying, OfChecking, OfDrawing}
use Rattle.ngc_inputs.specs.Faults.{OfListing, OfLiving, OfMapping, OfReporting, OfRunning, OfExplaining}
use Rattle.ngc_inputs.specs.Faults.{OfWriting}
use Rattle.ngc_inputs.specs.Faults.{OrOfReading, answer_status, fault_line}
use Rattle.ngc_simulator.specs.declared.writing.Writing.{Writing}
use Rattle.ngc_simulator.specs.Writing.{writing_named}
use Rattle.ngc_simulator.specs.Lists.{Lists}
use Rattle.ngc_dialect_names.specs.declared.dialect.Dialect.{Dialect}
use Rattle.ngc_picture_shapes.specs.declared.view.View.{View}
use Rattle.ngc_simulator.specs.Drawing.{DrawsNamed, DrawsProgram, look_of, view_named}
use Rattle.ngc_simulator.specs.Showing.{Shows}
use Rattle.ngc_report.specs.declared.form.Form.{Form}
use Rattle.ngc_report.specs.declared.form.Form.TheVariants.{Words, Json}
use Rattle.ngc_simulator.specs.Placing.{PlaceWritten}
use Rattle.ngc_simulator.specs.Reporting.{Reports}
use Rattle.ngc_simulator.specs.declared.live_request.LiveRequest.{LiveRequest}
use Rattle.ngc_simulator.specs.declared.place_request.PlaceRequest.{PlaceRequest}
use Rattle.ngc_fixed_length.specs.declared.modes.System.{System}
use Rattle.ngc_place_report.specs.Systems.{system_named}
use Rattle.ngc_program_report.specs.declared.request.ReportRequest.{ReportRequest}
use Rattle.ngc_inputs.specs.Jobs.{Certifies, Checks}
use Rattle.ngc_run_log.specs.declared.live_form.LiveForm.{LiveForm}
use Rattle.ngc_simulator.specs.Lives.{Lives, live_named}
use Rattle.ngc_simulator.specs.DialectRuns.{LivesDialect, RunsDialect, RunsDialectThrough}
use Rattle.ngc_simulator.specs.Running.{IsTimeOf, Runs, RunsThrough}
use Rattle.ngc_canonical.specs.State.{Setup}
use Rattle.ngc_inputs.specs.Setups.{AreFiguresIn, FileBytes, OnPlaced, OnSetup}
use Rattle.ngc_margins.specs.declared.changes.Changes.{Changes}
use Rattle.ngc_inputs.specs.Shops.{PlacedResultIs, RefusesPlaced, RefusesShop}
use Rattle.ngc_inputs.specs.declared.setup.Shop.{Shop}
use Rattle.ngc_machine_files.specs.Machine.{file_of}
use Rattle.ngc_simulator.specs.Mapping.{MapsDialect, MapsProgram}
use Rattle.ngc_simulator.specs.Mistaken.{ReportsPlacedRefusal, ReportsRefusal}
use Rattle.ngc_simulator.specs.Cells.{ReportsNoMaterial, is_idle}
use Rattle.ngc_stock_report.specs.Placed.{USUAL_CELLS}
use Rattle.ngc_program_report.specs.Times.{time_line}
use Rattle.ngc_simulator.specs.Unreadable.{ReportsUnreadableFile}
use Rattle.ngc_simulator.specs.AllFaults.{ReportsFaults}
use Rattle.ngc_inputs.specs.Unread.{Input, OfProgram, OfCertificate, OfEvents, OfSource, shop_inputs}
use Rattle.ngc_margins.specs.Changes.{no_changes}
use Rattle.ngc_simulator.specs.Adapting.{AdaptsDialect}
use Rattle.ngc_simulator.specs.DialectPlaces.{PlacesDialect}
use Rattle.ngc_simulator.specs.Dialects.{CertifiesDialect, ChecksDialect, ListsDialect, OnDialect}
use Rattle.ngc_dialect_names.specs.Names.{named_dialect}
use Rattle.ngc_simulator.specs.Dialects.{StopsDialect}
use Rattle.ngc_simulator.specs.DialectReports.{ReportsDialect}
use Rattle.ngc_simulator.specs.DialectPictures.{DrawsDialect, DrawsDialectBy}
use Rattle.ngc_simulator.specs.Making.{Makes, OnDump, has_source}
use Rattle.ngc_inputs.specs.Unread.{FailsByInput}

-- the results of `list`, `certify`, `check` and `run` on the files that they name
abbrev pub ListsOn : FileBytes → ListOptions → Option (List ℕ) → Option (List ℕ) →
    Result (Unit {0}) AnswerFault → Type 0
ListsOn bytes options old new outcome =
    OnPlaced bytes (option_map (λ name. name.now) options.machine)
    (option_map (λ name. name.now) options.tools) options.changes (λ setup.
    IfSome (bytes (option_map (λ name. name.now) options.program))
    (λ text. Lists setup text options.delete old new outcome))

abbrev pub CertifiesOn : FileBytes → CertifyOptions → Option (List ℕ) → Option (List ℕ) →
    Result (Unit {0}) AnswerFault → Type 0
CertifiesOn bytes options old new outcome =
    OnPlaced bytes (Some options.machine.now) (Some options.tools.now) options.changes
    (λ setup.
    IfSome (bytes (option_map (λ name. name.now) options.program))
    (λ text. Certifies setup text options.cuts options.format old new outcome))

abbrev pub ChecksOn : FileBytes → CheckOptions → Option (List ℕ) → Option (List ℕ) →
    Result (Unit {0}) AnswerFault → Type 0
ChecksOn bytes options old new outcome =
    OnPlaced bytes (Some options.machine.now) (Some options.tools.now) options.changes
    (λ setup.
    IfSome (bytes (option_map (λ name. name.now) options.program)) (λ text.
    IfSome (bytes (Some options.certificate.now))
    (λ certificate. Checks setup text certificate old new outcome)))

abbrev pub RunsOn : FileBytes → RunOptions → Writing → Option (List ℕ) → Option (List ℕ) →
    Result Report AnswerFault → Type 0
RunsOn bytes options writing old new outcome =
    OnPlaced bytes (Some options.machine.now) (Some options.tools.now) options.changes
    (λ setup.
    IfSome (bytes (option_map (λ name. name.now) options.program)) (λ text.
    IfSome (bytes (Some options.certificate.now)) (λ certificate.
    IfSome (bytes (Some options.events.now))
    (λ events. Runs writing setup text certificate events options.delete old
    new outcome))))

abbrev pub RunsThroughOn : FileBytes → RunThroughOptions → Writing → Option (List ℕ) →
    Option (List ℕ) → Result Report AnswerFault → Type 0
RunsThroughOn bytes options writing old new outcome =
    OnPlaced bytes (Some options.machine.now) (Some options.tools.now) options.changes
    (λ setup.
    IfSome (bytes (option_map (λ name. name.now) options.program)) (λ text.
    IfSome (bytes (Some options.certificate.now))
    (λ certificate. RunsThrough writing setup text certificate options.delete old
    new outcome)))

-- a picture from this side, without a certificate or with one
abbrev pub DrawsFrom : FileBytes → DrawOptions → View → Option (List ℕ) → Option (List ℕ) →
    Result (Unit {0}) AnswerFault → Type 0
DrawsFrom bytes options view old new outcome =
    OnPlaced bytes (Some options.machine.now) (Some options.tools.now) options.changes
    (λ setup.
    IfSome (bytes (option_map (λ name. name.now) options.program)) (λ text.
    MatchOption (option_map (λ name. name.now) options.certificate)
    (DrawsProgram setup text options.delete (look_of options view) old new outcome) (λ certificate.
    IfSome (bytes (Some certificate))
    (λ given. DrawsNamed setup text given options.delete (look_of options view) old new
    outcome))))

-- the most cells of a map: those that are requested, or the usual number
abbrev pub map_cells : DrawOptions → ℕ
map_cells options = unwrap_or options.cells USUAL_CELLS

-- a map of what the program leaves of the block of material, by what the tool table says of the cutters
abbrev pub MapsFrom : FileBytes → DrawOptions → Option (List ℕ) → Option (List ℕ) →
    Result (Unit {0}) AnswerFault → Type 0
MapsFrom bytes options old new outcome =
    (figures : FigureValues) × AreFiguresIn bytes (Some options.machine.now)
    (Some options.tools.now) figures ×
    OnPlaced bytes (Some options.machine.now) (Some options.tools.now) options.changes
    (λ setup.
    IfSome (bytes (option_map (λ name. name.now) options.program))
    (λ text. MapsProgram (map_cells options) figures.tools setup text options.delete old new
    outcome))

abbrev pub ShowsOn : FileBytes → ShowOptions → Option (List ℕ) → Option (List ℕ) →
    Result (Unit {0}) AnswerFault → Type 0
ShowsOn bytes options old new outcome =
    (figures : FigureValues) × AreFiguresIn bytes (Some options.machine.now)
    (option_map (λ name. name.now) options.tools) figures ×
    OnSetup bytes (Some options.machine.now) (option_map (λ name. name.now) options.tools)
    (λ setup. Shows options.warnings figures setup old new outcome)

-- the form that is requested of a report
abbrev pub requested_form : Bool → Form
requested_form false = Words
requested_form true = Json

-- what is requested of a report, with what the files say besides the machine and its tools
abbrev pub request_of : FileFigures → ReportOptions → ReportRequest
request_of figures options = record {
  cuts = options.cuts;
  all = options.all;
  form = requested_form options.json;
  origins = options.changes.origins;
  figures = figures;
  cells = unwrap_or options.cells USUAL_CELLS;
  some_cuts = options.some_cuts;
}

-- what a call's machine file and tool table say besides the machine and its tools
abbrev pub AreFiguresOf : FileBytes → ReportOptions → FileFigures → Type 0
AreFiguresOf bytes options figures =
    AreFiguresIn bytes (Some options.machine.now) (Some options.tools.now) (values_of figures)

-- P of the machine of a report and its tools; it has a block of material where a number of cells is
-- requested
abbrev pub OnReportShop : FileBytes → ReportOptions → (Setup → Type 0) → Type 0
OnReportShop bytes options P =
    OnPlaced bytes (Some options.machine.now) (Some options.tools.now) options.changes
    (λ setup. (is_idle options.cells setup.machine.stock ≡ false) × P setup)

abbrev pub ReportsOn : FileBytes → ReportOptions → Option (List ℕ) → Option (List ℕ) →
    Result (Unit {0}) AnswerFault → Type 0
ReportsOn bytes options old new outcome =
    (figures : FileFigures) × AreFiguresOf bytes options figures ×
    OnReportShop bytes options (λ setup.
    IfSome (bytes (option_map (λ name. name.now) options.program))
    (λ text. Reports setup text (request_of figures options) old new outcome))

-- A machine file or tool table that is refused leaves the output unchanged, and so does a file that
-- isn't read.
abbrev pub StopsEarly : FileBytes → Option (List ℕ) → Option (List ℕ) → Option (List ℕ) →
    Option (List ℕ) → AnswerFault → Type 0
StopsEarly bytes machine tools old new fault = RefusesShop bytes machine tools fault × Keeps old new

-- so does a machine file that is refused with the changes of the options
abbrev pub StopsPlaced : FileBytes → Option (List ℕ) → Option (List ℕ) → Changes →
    Option (List ℕ) → Option (List ℕ) → AnswerFault → Type 0
StopsPlaced bytes machine tools changes old new fault =
    RefusesPlaced bytes machine tools changes fault × Keeps old new

-- The result of a command: it is stopped, it does its work, or it fails with one of its faults.
abbrev pub Comes : (AnswerFault → Type 0) → (AnswerFault → Type 0) →
    (Result (Unit {0}) AnswerFault → Type 0) → Result Done AnswerFault → Type 0
Comes Stops MayFail Does (Ok Quietly) = Does (Ok tt)
Comes Stops MayFail Does (Ok (RunThrough time)) = ⊥
Comes Stops MayFail Does (Ok (WithNotes notes)) = ⊥
Comes Stops MayFail Does (Err fault) = Stops fault ⊎ (MayFail fault × Does (Err fault))

abbrev pub OwnListResult : FileBytes → ListOptions → Option (List ℕ) → Option (List ℕ) →
    Result Done AnswerFault → Type 0
OwnListResult bytes options old new outcome =
    Comes (StopsPlaced bytes (option_map (λ name. name.now) options.machine)
    (option_map (λ name. name.now) options.tools) options.changes old new) OfListing
    (ListsOn bytes options old new) outcome

-- A command on a program for another control: it stops before the program is executed, or it does its
-- work.
abbrev pub DialectComes : (AnswerFault → Type 0) → (Result Done AnswerFault → Type 0) →
    Option (List ℕ) → Option (List ℕ) → Result Done AnswerFault → Type 0
DialectComes Stops Does old new (Ok done) = Does (Ok done)
DialectComes Stops Does old new (Err fault) = (Stops fault × Keeps old new) ⊎ Does (Err fault)

abbrev pub DialectListResult : List ℕ → FileBytes → ListOptions → Option (List ℕ) →
    Option (List ℕ) → Result Done AnswerFault → Type 0
DialectListResult control bytes options old new outcome =
    let machine : Option (List ℕ) = option_map (λ name. name.now) options.machine in
    let tools : Option (List ℕ) = option_map (λ name. name.now) options.tools in
    DialectComes (StopsDialect control bytes machine tools options.changes)
    (λ o. OnDialect control bytes machine tools options.changes
    (option_map (λ name. name.now) options.program)
    (λ d setup source. ListsDialect d setup options.delete source old new o)) old new outcome

abbrev pub ListResultIn : Option (List ℕ) → FileBytes → ListOptions → Option (List ℕ) →
    Option (List ℕ) → Result Done AnswerFault → Type 0
ListResultIn None bytes options old new outcome = OwnListResult bytes options old new outcome
ListResultIn (Some control) bytes options old new outcome =
    DialectListResult control bytes options old new outcome

abbrev pub ListResult : FileBytes → ListOptions → Option (List ℕ) → Option (List ℕ) →
    Result Done AnswerFault → Type 0
ListResult bytes options old new outcome =
    ListResultIn (option_map (λ name. name.now) options.dialect) bytes options old new outcome

abbrev pub OwnCertifyResult : FileBytes → CertifyOptions → Option (List ℕ) → Option (List ℕ) →
    Result Done AnswerFault → Type 0
OwnCertifyResult bytes options old new outcome =
    Comes (StopsPlaced bytes (Some options.machine.now) (Some options.tools.now) options.changes
    old new)
    OfCertifying (CertifiesOn bytes options old new) outcome

abbrev pub DialectCertifyResult : List ℕ → FileBytes → CertifyOptions → Option (List ℕ) →
    Option (List ℕ) → Result Done AnswerFault → Type 0
DialectCertifyResult control bytes options old new outcome =
    let machine : Option (List ℕ) = Some options.machine.now in
    let tools : Option (List ℕ) = Some options.tools.now in
    DialectComes (StopsDialect control bytes machine tools options.changes)
    (λ o. OnDialect control bytes machine tools options.changes
    (option_map (λ name. name.now) options.program)
    (λ d setup source. CertifiesDialect d setup source options.cuts options.format old new o))
    old new outcome

abbrev pub CertifyResultIn : Option (List ℕ) → FileBytes → CertifyOptions → Option (List ℕ) →
    Option (List ℕ) → Result Done AnswerFault → Type 0
CertifyResultIn None bytes options old new outcome = OwnCertifyResult bytes options old new outcome
CertifyResultIn (Some control) bytes options old new outcome =
    DialectCertifyResult control bytes options old new outcome

abbrev pub CertifyResult : FileBytes → CertifyOptions → Option (List ℕ) → Option (List ℕ) →
    Result Done AnswerFault → Type 0
CertifyResult bytes options old new outcome =
    CertifyResultIn (option_map (λ name. name.now) options.dialect) bytes options old new outcome

abbrev pub OwnCheckResult : FileBytes → CheckOptions → Option (List ℕ) → Option (List ℕ) →
    Result Done AnswerFault → Type 0
OwnCheckResult bytes options old new outcome =
    Comes (StopsPlaced bytes (Some options.machine.now) (Some options.tools.now) options.changes
    old new)
    (OrOfReading OfChecking) (ChecksOn bytes options old new) outcome

abbrev pub DialectCheckResult : List ℕ → FileBytes → CheckOptions → Option (List ℕ) →
    Option (List ℕ) → Result Done AnswerFault → Type 0
DialectCheckResult control bytes options old new outcome =
    let machine : Option (List ℕ) = Some options.machine.now in
    let tools : Option (List ℕ) = Some options.tools.now in
    DialectComes (StopsDialect control bytes machine tools options.changes)
    (λ o. OnDialect control bytes machine tools options.changes
    (option_map (λ name. name.now) options.program)
    (λ d setup source.
    ChecksDialect d setup source (bytes (Some options.certificate.now)) old new o))
    old new outcome

abbrev pub CheckResultIn : Option (List ℕ) → FileBytes → CheckOptions → Option (List ℕ) →
    Option (List ℕ) → Result Done AnswerFault → Type 0
CheckResultIn None bytes options old new outcome = OwnCheckResult bytes options old new outcome
CheckResultIn (Some control) bytes options old new outcome =
    DialectCheckResult control bytes options old new outcome

abbrev pub CheckResult : FileBytes → CheckOptions → Option (List ℕ) → Option (List ℕ) →
    Result Done AnswerFault → Type 0
CheckResult bytes options old new outcome =
    CheckResultIn (option_map (λ name. name.now) options.dialect) bytes options old new outcome

-- the output of a run, if the name of the form is known
abbrev pub run_writing : RunOptions → Option Writing
run_writing options =
    writing_named options.recording (option_map (λ name. name.now) options.output) options.inverted

abbrev pub run_through_writing : RunThroughOptions → Option Writing
run_through_writing options =
    writing_named options.recording (option_map (λ name. name.now) options.output) options.inverted

-- a run over events has a report, which the program does not write
abbrev pub WithReport : (Result Report AnswerFault → Type 0) →
    Result (Unit {0}) AnswerFault → Type 0
WithReport Does (Ok u) = (report : Report) × Does (Ok report)
WithReport Does (Err fault) = Does (Err fault)

abbrev pub OwnRunResult : FileBytes → RunOptions → Writing → Option (List ℕ) → Option (List ℕ) →
    Result Done AnswerFault → Type 0
OwnRunResult bytes options writing old new outcome =
    Comes (StopsPlaced bytes (Some options.machine.now) (Some options.tools.now) options.changes
    old new)
    (OrOfReading OfRunning) (WithReport (RunsOn bytes options writing old new)) outcome

abbrev pub DialectRunResult : List ℕ → FileBytes → RunOptions → Writing → Option (List ℕ) →
    Option (List ℕ) → Result Done AnswerFault → Type 0
DialectRunResult control bytes options writing old new outcome =
    let machine : Option (List ℕ) = Some options.machine.now in
    let tools : Option (List ℕ) = Some options.tools.now in
    DialectComes (StopsDialect control bytes machine tools options.changes)
    (λ o. OnDialect control bytes machine tools options.changes
    (option_map (λ name. name.now) options.program)
    (λ d setup source. RunsDialect writing d setup source (bytes (Some options.certificate.now))
    (bytes (Some options.events.now)) options.delete old new o)) old new outcome

abbrev pub RunResultIn : Option (List ℕ) → FileBytes → RunOptions → Writing → Option (List ℕ) →
    Option (List ℕ) → Result Done AnswerFault → Type 0
RunResultIn None bytes options writing old new outcome =
    OwnRunResult bytes options writing old new outcome
RunResultIn (Some control) bytes options writing old new outcome =
    DialectRunResult control bytes options writing old new outcome

-- a form that isn't known is rejected before a file is read
abbrev pub RunResult : FileBytes → RunOptions → Option Writing → Option (List ℕ) →
    Option (List ℕ) → Result Done AnswerFault → Type 0
RunResult bytes options None old new outcome =
    (outcome ≡ Err answers.UnknownForm) × Keeps old new
RunResult bytes options (Some writing) old new outcome =
    RunResultIn (option_map (λ name. name.now) options.dialect) bytes options writing old new outcome

abbrev pub OwnDrawResult : FileBytes → DrawOptions → View → Option (List ℕ) → Option (List ℕ) →
    Result Done AnswerFault → Type 0
OwnDrawResult bytes options view old new outcome =
    Comes (StopsPlaced bytes (Some options.machine.now) (Some options.tools.now) options.changes
    old new)
    (OrOfReading OfDrawing) (DrawsFrom bytes options view old new) outcome

-- a picture of a program's text from this side, without a certificate or with one
abbrev pub DrawsDialectFrom : FileBytes → DrawOptions → View → Dialect → Setup → List ℕ →
    Option (List ℕ) → Option (List ℕ) → Result Done AnswerFault → Type 0
DrawsDialectFrom bytes options view d setup source old new outcome =
    MatchOption (option_map (λ name. name.now) options.certificate)
    (DrawsDialect d setup options.delete source (look_of options view) old new outcome)
    (λ certificate. DrawsDialectBy d setup options.delete source (look_of options view)
    (bytes (Some certificate)) old new outcome)

abbrev pub DialectDrawResult : List ℕ → FileBytes → DrawOptions → View → Option (List ℕ) →
    Option (List ℕ) → Result Done AnswerFault → Type 0
DialectDrawResult control bytes options view old new outcome =
    let machine : Option (List ℕ) = Some options.machine.now in
    let tools : Option (List ℕ) = Some options.tools.now in
    DialectComes (StopsDialect control bytes machine tools options.changes)
    (λ o. OnDialect control bytes machine tools options.changes
    (option_map (λ name. name.now) options.program)
    (λ d setup source. DrawsDialectFrom bytes options view d setup source old new o))
    old new outcome

abbrev pub DrawResultIn : Option (List ℕ) → FileBytes → DrawOptions → View → Option (List ℕ) →
    Option (List ℕ) → Result Done AnswerFault → Type 0
DrawResultIn None bytes options view old new outcome =
    OwnDrawResult bytes options view old new outcome
DrawResultIn (Some control) bytes options view old new outcome =
    DialectDrawResult control bytes options view old new outcome

-- a view that isn't known is rejected before a file is read
abbrev pub PictureResult : FileBytes → DrawOptions → Option View → Option (List ℕ) →
    Option (List ℕ) → Result Done AnswerFault → Type 0
PictureResult bytes options None old new outcome =
    (outcome ≡ Err answers.UnknownView) × Keeps old new
PictureResult bytes options (Some view) old new outcome =
    DrawResultIn (option_map (λ name. name.now) options.dialect) bytes options view old new outcome

abbrev pub OwnMapResult : FileBytes → DrawOptions → Option (List ℕ) → Option (List ℕ) →
    Result Done AnswerFault → Type 0
OwnMapResult bytes options old new outcome =
    Comes (StopsPlaced bytes (Some options.machine.now) (Some options.tools.now) options.changes
    old new)
    (OrOfReading OfMapping) (MapsFrom bytes options old new) outcome

abbrev pub DialectMapsFrom : List ℕ → FileBytes → DrawOptions → Option (List ℕ) →
    Option (List ℕ) → Result Done AnswerFault → Type 0
DialectMapsFrom control bytes options old new outcome =
    (figures : FigureValues) × AreFiguresIn bytes (Some options.machine.now)
    (Some options.tools.now) figures ×
    OnDialect control bytes (Some options.machine.now) (Some options.tools.now) options.changes
    (option_map (λ name. name.now) options.program)
    (λ d setup source. MapsDialect (map_cells options) figures.tools d setup options.delete source
    old new outcome)

abbrev pub DialectMapResult : List ℕ → FileBytes → DrawOptions → Option (List ℕ) →
    Option (List ℕ) → Result Done AnswerFault → Type 0
DialectMapResult control bytes options old new outcome =
    DialectComes (StopsDialect control bytes (Some options.machine.now) (Some options.tools.now)
    options.changes) (DialectMapsFrom control bytes options old new) old new outcome

abbrev pub MapResultIn : Option (List ℕ) → FileBytes → DrawOptions → Option (List ℕ) →
    Option (List ℕ) → Result Done AnswerFault → Type 0
MapResultIn None bytes options old new outcome = OwnMapResult bytes options old new outcome
MapResultIn (Some control) bytes options old new outcome =
    DialectMapResult control bytes options old new outcome

abbrev pub MapResult : FileBytes → DrawOptions → Option (List ℕ) → Option (List ℕ) →
    Result Done AnswerFault → Type 0
MapResult bytes options old new outcome =
    MapResultIn (option_map (λ name. name.now) options.dialect) bytes options old new outcome

-- a map is seen from no side, so that its view isn't looked up
abbrev pub DrawResultBy : Bool → FileBytes → DrawOptions → Option View → Option (List ℕ) →
    Option (List ℕ) → Result Done AnswerFault → Type 0
DrawResultBy false bytes options view old new outcome =
    PictureResult bytes options view old new outcome
DrawResultBy true bytes options view old new outcome = MapResult bytes options old new outcome

-- a map if one is requested, and otherwise a picture
abbrev pub DrawResult : FileBytes → DrawOptions → Option View → Option (List ℕ) → Option (List ℕ) →
    Result Done AnswerFault → Type 0
DrawResult bytes options view old new outcome =
    DrawResultBy options.map bytes options view old new outcome

abbrev pub ShowResult : FileBytes → ShowOptions → Option (List ℕ) → Option (List ℕ) →
    Result Done AnswerFault → Type 0
ShowResult bytes options old new outcome =
    Comes (ReportsRefusal Words bytes (Some options.machine.now)
    (option_map (λ name. name.now) options.tools) old new) OfWriting
    (ShowsOn bytes options old new) outcome

-- the result of reporting a program that can't be read, on the named files
abbrev pub UnreadableOn : FileBytes → ReportOptions → Option (List ℕ) → Option (List ℕ) →
    AnswerFault → Type 0
UnreadableOn bytes options old new fault =
    OnReportShop bytes options (λ setup.
    IfSome (bytes (option_map (λ name. name.now) options.program)) (λ text.
    ReportsUnreadableFile (requested_form options.json)
    (option_map (λ name. name.now) options.program) text old new fault))

-- the result of writing all faults of a program, where all are requested
abbrev pub FaultsOn : FileBytes → ReportOptions → Option (List ℕ) → Option (List ℕ) →
    AnswerFault → Type 0
FaultsOn bytes options old new fault = (options.all ≡ true) ×
    OnReportShop bytes options (λ setup.
    IfSome (bytes (option_map (λ name. name.now) options.program)) (λ text.
    ReportsFaults setup (requested_form options.json) text old new fault))

-- the report of a program that is read; otherwise its fault, or all of them
abbrev pub ReportFails : FileBytes → ReportOptions → Option (List ℕ) → Option (List ℕ) →
    AnswerFault → Type 0
ReportFails bytes options old new fault =
    (OfReporting fault × ReportsOn bytes options old new (Err fault)) ⊎
    ((OfExplaining fault × UnreadableOn bytes options old new fault)
    ⊎ FaultsOn bytes options old new fault)

-- the refusal of a machine file or a tool table is reported, and so is a number of cells without a block of
-- material
abbrev pub StopsShop : FileBytes → ReportOptions → Option (List ℕ) → Option (List ℕ) → AnswerFault →
    Type 0
StopsShop bytes options old new fault =
    ReportsPlacedRefusal (requested_form options.json) bytes (Some options.machine.now)
    (Some options.tools.now) options.changes old new fault
    ⊎ (OnPlaced bytes (Some options.machine.now) (Some options.tools.now) options.changes
    (λ setup. is_idle options.cells setup.machine.stock ≡ true)
    × ReportsNoMaterial (requested_form options.json) old new fault)

-- the machine and its tools, with nothing written, or the report in their place
abbrev pub ReportShopIs : FileBytes → ReportOptions → Option (List ℕ) → Option (List ℕ) →
    Result Shop AnswerFault → Type 0
ReportShopIs bytes options old new (Ok shop) =
    PlacedResultIs bytes (Some options.machine.now) (Some options.tools.now) options.changes (Ok shop)
    × (new ≡ old) × (is_idle options.cells (file_of shop.machine).stock ≡ false)
ReportShopIs bytes options old new (Err fault) = StopsShop bytes options old new fault

abbrev pub OwnReportResult : FileBytes → ReportOptions → Option (List ℕ) → Option (List ℕ) →
    Result Done AnswerFault → Type 0
OwnReportResult bytes options old new (Ok Quietly) = ReportsOn bytes options old new (Ok tt)
OwnReportResult bytes options old new (Ok (RunThrough time)) = ⊥
OwnReportResult bytes options old new (Ok (WithNotes notes)) = ⊥
OwnReportResult bytes options old new (Err fault) =
    StopsShop bytes options old new fault ⊎ ReportFails bytes options old new fault

-- a control that isn't known leaves the output unchanged, and what else stops a report is reported
abbrev pub StopsReport : List ℕ → FileBytes → ReportOptions → Option (List ℕ) → Option (List ℕ) →
    AnswerFault → Type 0
StopsReport control bytes options old new answers.UnknownControl =
    (named_dialect control ≡ None) × Keeps old new
StopsReport control bytes options old new fault = StopsShop bytes options old new fault

abbrev pub DialectReportsOn : List ℕ → FileBytes → ReportOptions → Option (List ℕ) →
    Option (List ℕ) → Result Done AnswerFault → Type 0
DialectReportsOn control bytes options old new outcome =
    (figures : FileFigures) × AreFiguresOf bytes options figures ×
    OnDialect control bytes (Some options.machine.now) (Some options.tools.now) options.changes
    (option_map (λ name. name.now) options.program)
    (λ d setup source. (is_idle options.cells setup.machine.stock ≡ false)
    × ReportsDialect d setup source (request_of figures options) old new outcome)

abbrev pub DialectReportResult : List ℕ → FileBytes → ReportOptions → Option (List ℕ) →
    Option (List ℕ) → Result Done AnswerFault → Type 0
DialectReportResult control bytes options old new (Ok done) =
    DialectReportsOn control bytes options old new (Ok done)
DialectReportResult control bytes options old new (Err fault) =
    StopsReport control bytes options old new fault ⊎
    DialectReportsOn control bytes options old new (Err fault)

abbrev pub ReportResultIn : Option (List ℕ) → FileBytes → ReportOptions → Option (List ℕ) →
    Option (List ℕ) → Result Done AnswerFault → Type 0
ReportResultIn None bytes options old new outcome = OwnReportResult bytes options old new outcome
ReportResultIn (Some control) bytes options old new outcome =
    DialectReportResult control bytes options old new outcome

abbrev pub ReportResult : FileBytes → ReportOptions → Option (List ℕ) → Option (List ℕ) →
    Result Done AnswerFault → Type 0
ReportResult bytes options old new outcome =
    ReportResultIn (option_map (λ name. name.now) options.dialect) bytes options old new outcome

-- what is requested of `place`, where the system is known
abbrev pub place_request : PlaceOptions → System → PlaceRequest
place_request options system = record {
  system = system;
  cuts = options.cuts;
  form = requested_form options.json;
  some_cuts = options.some_cuts;
}

abbrev pub PlaceWrittenOn : FileBytes → PlaceOptions → System → Option (List ℕ) →
    Option (List ℕ) → Result (Unit {0}) AnswerFault → Type 0
PlaceWrittenOn bytes options system old new outcome =
    OnPlaced bytes (Some options.machine.now) (Some options.tools.now) options.changes
    (λ setup.
    IfSome (bytes (option_map (λ name. name.now) options.program))
    (λ text. PlaceWritten setup text (place_request options system) old new outcome))

abbrev pub OwnPlaceResult : FileBytes → PlaceOptions → System → Option (List ℕ) →
    Option (List ℕ) → Result Done AnswerFault → Type 0
OwnPlaceResult bytes options system old new outcome =
    Comes (ReportsPlacedRefusal (requested_form options.json) bytes (Some options.machine.now)
    (Some options.tools.now) options.changes old new) OfCertifying (PlaceWrittenOn bytes options system old new)
    outcome

abbrev pub DialectPlaceResult : List ℕ → FileBytes → PlaceOptions → System → Option (List ℕ) →
    Option (List ℕ) → Result Done AnswerFault → Type 0
DialectPlaceResult control bytes options system old new outcome =
    let machine : Option (List ℕ) = Some options.machine.now in
    let tools : Option (List ℕ) = Some options.tools.now in
    DialectComes (StopsDialect control bytes machine tools options.changes)
    (λ o. OnDialect control bytes machine tools options.changes
    (option_map (λ name. name.now) options.program)
    (λ d setup source. PlacesDialect d setup source (place_request options system) old new o))
    old new outcome

abbrev pub PlaceResultIn : Option (List ℕ) → FileBytes → PlaceOptions → System →
    Option (List ℕ) → Option (List ℕ) → Result Done AnswerFault → Type 0
PlaceResultIn None bytes options system old new outcome =
    OwnPlaceResult bytes options system old new outcome
PlaceResultIn (Some control) bytes options system old new outcome =
    DialectPlaceResult control bytes options system old new outcome

-- a system that isn't known is rejected before a file is read
abbrev pub PlaceResult : FileBytes → PlaceOptions → Option System → Option (List ℕ) →
    Option (List ℕ) → Result Done AnswerFault → Type 0
PlaceResult bytes options None old new outcome =
    (outcome ≡ Err answers.UnknownSystem) × Keeps old new
PlaceResult bytes options (Some system) old new outcome =
    PlaceResultIn (option_map (λ name. name.now) options.dialect) bytes options system old new
    outcome

-- the system that is named, G54 without a name
abbrev pub requested_system : PlaceOptions → Option System
requested_system options = system_named (option_map (λ name. name.now) options.system)

abbrev pub IsTimeOn : FileBytes → RunThroughOptions → Report → RunTime → Type 0
IsTimeOn bytes options report time = OnPlaced bytes (Some options.machine.now)
    (Some options.tools.now) options.changes
    (λ setup. IsTimeOf setup report time)

-- the program reports the time of a run to the end
abbrev pub OwnRunThroughResult : FileBytes → RunThroughOptions → Writing → Option (List ℕ) →
    Option (List ℕ) → Result Done AnswerFault → Type 0
OwnRunThroughResult bytes options writing old new (Ok Quietly) = ⊥
OwnRunThroughResult bytes options writing old new (Ok (WithNotes notes)) = ⊥
OwnRunThroughResult bytes options writing old new (Ok (RunThrough time)) =
    (report : Report) × RunsThroughOn bytes options writing old new (Ok report) ×
    IsTimeOn bytes options report time
OwnRunThroughResult bytes options writing old new (Err fault) =
    StopsPlaced bytes (Some options.machine.now) (Some options.tools.now) options.changes old
    new fault ⊎ (OrOfReading OfRunning fault × RunsThroughOn bytes options writing old new (Err fault))

abbrev pub DialectRunThroughResult : List ℕ → FileBytes → RunThroughOptions → Writing →
    Option (List ℕ) → Option (List ℕ) → Result Done AnswerFault → Type 0
DialectRunThroughResult control bytes options writing old new outcome =
    let machine : Option (List ℕ) = Some options.machine.now in
    let tools : Option (List ℕ) = Some options.tools.now in
    DialectComes (StopsDialect control bytes machine tools options.changes)
    (λ o. OnDialect control bytes machine tools options.changes
    (option_map (λ name. name.now) options.program)
    (λ d setup source. RunsDialectThrough writing d setup source
    (bytes (Some options.certificate.now)) options.delete old new o)) old new outcome

abbrev pub RunThroughResultIn : Option (List ℕ) → FileBytes → RunThroughOptions → Writing →
    Option (List ℕ) → Option (List ℕ) → Result Done AnswerFault → Type 0
RunThroughResultIn None bytes options writing old new outcome =
    OwnRunThroughResult bytes options writing old new outcome
RunThroughResultIn (Some control) bytes options writing old new outcome =
    DialectRunThroughResult control bytes options writing old new outcome

-- a form that isn't known is rejected before a file is read
abbrev pub RunThroughResult : FileBytes → RunThroughOptions → Option Writing → Option (List ℕ) →
    Option (List ℕ) → Result Done AnswerFault → Type 0
RunThroughResult bytes options None old new outcome =
    (outcome ≡ Err answers.UnknownForm) × Keeps old new
RunThroughResult bytes options (Some writing) old new outcome =
    RunThroughResultIn (option_map (λ name. name.now) options.dialect) bytes options writing old
    new outcome

-- ---- events on standard input

abbrev pub requested_live : LiveOptions → Option LiveForm
requested_live options =
    live_named (option_map (λ name. name.now) options.output) options.inverted

abbrev pub live_request : LiveOptions → LiveForm → LiveRequest
live_request options form =
    record { form = form; feeds_ring = options.feed_ring; aborts = options.aborts }

abbrev pub LivesOnFiles : FileBytes → LiveOptions → LiveForm → Option (List ℕ) →
    Option (List ℕ) → Result (Unit {0}) AnswerFault → Type 0
LivesOnFiles bytes options form old new outcome =
    OnPlaced bytes (Some options.machine.now) (Some options.tools.now) options.changes
    (λ setup.
    IfSome (bytes (Some options.program.now)) (λ text.
    IfSome (bytes (Some options.certificate.now))
    (λ certificate. (rest : Option (List ℕ)) ×
    Lives (live_request options form) setup text certificate options.delete (bytes None) rest old
    new outcome)))

abbrev pub OwnLiveResult : FileBytes → LiveOptions → LiveForm → Option (List ℕ) →
    Option (List ℕ) → Result Done AnswerFault → Type 0
OwnLiveResult bytes options form old new outcome =
    Comes (StopsPlaced bytes (Some options.machine.now) (Some options.tools.now) options.changes
    old new)
    (OrOfReading OfLiving) (LivesOnFiles bytes options form old new) outcome

abbrev pub DialectLiveResult : List ℕ → FileBytes → LiveOptions → LiveForm → Option (List ℕ) →
    Option (List ℕ) → Result Done AnswerFault → Type 0
DialectLiveResult control bytes options form old new outcome =
    let machine : Option (List ℕ) = Some options.machine.now in
    let tools : Option (List ℕ) = Some options.tools.now in
    DialectComes (StopsDialect control bytes machine tools options.changes)
    (λ o. OnDialect control bytes machine tools options.changes (Some options.program.now)
    (λ d setup source. LivesDialect (live_request options form) d setup source
    (bytes (Some options.certificate.now)) (bytes None) options.delete old new o)) old new outcome

abbrev pub LiveResultIn : Option (List ℕ) → FileBytes → LiveOptions → LiveForm → Option (List ℕ) →
    Option (List ℕ) → Result Done AnswerFault → Type 0
LiveResultIn None bytes options form old new outcome =
    OwnLiveResult bytes options form old new outcome
LiveResultIn (Some control) bytes options form old new outcome =
    DialectLiveResult control bytes options form old new outcome

-- a form that isn't known is rejected before a file is read
abbrev pub LiveResult : FileBytes → LiveOptions → Option LiveForm → Option (List ℕ) →
    Option (List ℕ) → Result Done AnswerFault → Type 0
LiveResult bytes options None old new outcome = (outcome ≡ Err answers.UnknownForm) × Keeps old new
LiveResult bytes options (Some form) old new outcome =
    LiveResultIn (option_map (λ name. name.now) options.dialect) bytes options form old new outcome

-- ---- programs for other controls

-- of the files that are named; no key of the machine file is replaced
abbrev pub AdaptResult : FileBytes → AdaptOptions → Option (List ℕ) → Option (List ℕ) →
    Result Done AnswerFault → Type 0
AdaptResult bytes options old new outcome =
    let machine : Option (List ℕ) = option_map (λ name. name.now) options.machine in
    let tools : Option (List ℕ) = option_map (λ name. name.now) options.tools in
    DialectComes (StopsDialect options.from.now bytes machine tools no_changes)
    (λ o. OnDialect options.from.now bytes machine tools no_changes
    (option_map (λ name. name.now) options.program)
    (λ d setup source. AdaptsDialect d setup options.delete source old new o)) old new outcome

-- ---- machine files from figures

abbrev pub MakesOn : FileBytes → MachineOptions → Option (List ℕ) → Option (List ℕ) →
    Result Notes AnswerFault → Type 0
MakesOn bytes options old new outcome =
    (has_source options ≡ true)
    × OnDump bytes (option_map (λ name. name.now) options.grbl)
    (λ dump. Makes options dump old new outcome)

abbrev pub MachineResult : FileBytes → MachineOptions → Option (List ℕ) → Option (List ℕ) →
    Result Done AnswerFault → Type 0
MachineResult bytes options old new (Ok Quietly) = ⊥
MachineResult bytes options old new (Ok (RunThrough time)) = ⊥
MachineResult bytes options old new (Ok (WithNotes notes)) = MakesOn bytes options old new (Ok notes)
MachineResult bytes options old new (Err answers.NoFigures) =
    (has_source options ≡ false) × Keeps old new
MachineResult bytes options old new (Err (answers.Input e)) = Keeps old new
MachineResult bytes options old new (Err fault) = MakesOn bytes options old new (Err fault)

-- `explain` reads no file, and neither do `help` and `version`
abbrev pub ExplainResult : ℕ → Option (List ℕ) → Option (List ℕ) → Result Done AnswerFault → Type 0
ExplainResult number old new (Ok Quietly) = ExplainsFault number old new (Ok tt)
ExplainResult number old new (Ok (RunThrough time)) = ⊥
ExplainResult number old new (Ok (WithNotes notes)) = ⊥
ExplainResult number old new (Err answers.UnknownFault) =
    ExplainsFault number old new (Err Unknown) × (is_fault number ≡ false)
ExplainResult number old new (Err (answers.Write fault)) =
    ExplainsFault number old new (Err (Write fault))
ExplainResult number old new (Err fault) = ⊥

abbrev pub HelpResult : Option (List ℕ) → Option (List ℕ) → Result Done AnswerFault → Type 0
HelpResult old new (Ok Quietly) = Guides old new (Ok tt)
HelpResult old new (Ok (RunThrough time)) = ⊥
HelpResult old new (Ok (WithNotes notes)) = ⊥
HelpResult old new (Err fault) = Guides old new (Err fault)

abbrev pub VersionResult : Option (List ℕ) → Option (List ℕ) → Result Done AnswerFault → Type 0
VersionResult old new (Ok Quietly) = Appends old new version_text
VersionResult old new (Ok (RunThrough time)) = ⊥
VersionResult old new (Ok (WithNotes notes)) = ⊥
VersionResult old new (Err (answers.Write fault)) = AppendsPrefix old new version_text
VersionResult old new (Err fault) = ⊥

abbrev pub ResultsBy : FileBytes → Options → Option (List ℕ) → Option (List ℕ) →
    Result Done AnswerFault → Type 0
ResultsBy bytes (commands.List options) old new outcome = ListResult bytes options old new outcome
ResultsBy bytes (commands.Certify options) old new outcome =
    CertifyResult bytes options old new outcome
ResultsBy bytes (commands.Check options) old new outcome = CheckResult bytes options old new outcome
ResultsBy bytes (commands.Run options) old new outcome =
    RunResult bytes options (run_writing options) old new outcome
ResultsBy bytes (commands.RunThrough options) old new outcome =
    RunThroughResult bytes options (run_through_writing options) old new outcome
ResultsBy bytes (commands.Live options) old new outcome =
    LiveResult bytes options (requested_live options) old new outcome
ResultsBy bytes (commands.Draw options) old new outcome =
    DrawResult bytes options (view_named (option_map (λ name. name.now) options.view))
    old new outcome
ResultsBy bytes (commands.Show options) old new outcome = ShowResult bytes options old new outcome
ResultsBy bytes (commands.Report options) old new outcome = ReportResult bytes options old new outcome
ResultsBy bytes (commands.Place options) old new outcome =
    PlaceResult bytes options (requested_system options) old new outcome
ResultsBy bytes (commands.Adapt options) old new outcome = AdaptResult bytes options old new outcome
ResultsBy bytes (commands.Machine options) old new outcome =
    MachineResult bytes options old new outcome
ResultsBy bytes (commands.Explain number) old new outcome = ExplainResult number old new outcome
ResultsBy bytes (commands.Help command) old new outcome = HelpResult old new outcome
ResultsBy bytes commands.Version old new outcome = VersionResult old new outcome

-- the files of a command, in the order in which they are read
abbrev pub program_input : Option (List ℕ) → Input
program_input name = record { kind = OfProgram; name = name }

abbrev pub certificate_input : List ℕ → Input
certificate_input name = record { kind = OfCertificate; name = Some name }

abbrev pub events_input : List ℕ → Input
events_input name = record { kind = OfEvents; name = Some name }

-- a program for another control, by any bytes
abbrev pub source_input : Option (List ℕ) → Input
source_input name = record { kind = OfSource; name = name }

abbrev pub own_list_inputs : ListOptions → List Input
own_list_inputs options =
    shop_inputs (option_map (λ name. name.now) options.machine)
    (option_map (λ name. name.now) options.tools)
    ++ program_input (option_map (λ name. name.now) options.program) ∷ []

-- a program for another control, on a machine with its tools
abbrev pub dialect_inputs : Option (List ℕ) → Option (List ℕ) → Option (List ℕ) → List Input
dialect_inputs machine tools program = shop_inputs machine tools ++ source_input program ∷ []

abbrev pub list_inputs_in : Option (List ℕ) → ListOptions → List Input
list_inputs_in None options = own_list_inputs options
list_inputs_in (Some control) options =
    dialect_inputs (option_map (λ name. name.now) options.machine)
    (option_map (λ name. name.now) options.tools) (option_map (λ name. name.now) options.program)

abbrev pub list_inputs : ListOptions → List Input
list_inputs options = list_inputs_in (option_map (λ name. name.now) options.dialect) options

abbrev pub own_certify_inputs : CertifyOptions → List Input
own_certify_inputs options =
    shop_inputs (Some options.machine.now) (Some options.tools.now)
    ++ program_input (option_map (λ name. name.now) options.program) ∷ []

abbrev pub certify_inputs_in : Option (List ℕ) → CertifyOptions → List Input
certify_inputs_in None options = own_certify_inputs options
certify_inputs_in (Some control) options =
    dialect_inputs (Some options.machine.now) (Some options.tools.now)
    (option_map (λ name. name.now) options.program)

abbrev pub certify_inputs : CertifyOptions → List Input
certify_inputs options = certify_inputs_in (option_map (λ name. name.now) options.dialect) options

abbrev pub own_check_inputs : CheckOptions → List Input
own_check_inputs options =
    shop_inputs (Some options.machine.now) (Some options.tools.now)
    ++ program_input (option_map (λ name. name.now) options.program)
    ∷ certificate_input options.certificate.now ∷ []

abbrev pub check_inputs_in : Option (List ℕ) → CheckOptions → List Input
check_inputs_in None options = own_check_inputs options
check_inputs_in (Some control) options =
    dialect_inputs (Some options.machine.now) (Some options.tools.now)
    (option_map (λ name. name.now) options.program)
    ++ certificate_input options.certificate.now ∷ []

abbrev pub check_inputs : CheckOptions → List Input
check_inputs options = check_inputs_in (option_map (λ name. name.now) options.dialect) options

abbrev pub own_run_inputs : RunOptions → List Input
own_run_inputs options =
    shop_inputs (Some options.machine.now) (Some options.tools.now)
    ++ program_input (option_map (λ name. name.now) options.program)
    ∷ certificate_input options.certificate.now ∷ events_input options.events.now ∷ []

abbrev pub run_inputs_in : Option (List ℕ) → RunOptions → List Input
run_inputs_in None options = own_run_inputs options
run_inputs_in (Some control) options =
    dialect_inputs (Some options.machine.now) (Some options.tools.now)
    (option_map (λ name. name.now) options.program)
    ++ certificate_input options.certificate.now ∷ events_input options.events.now ∷ []

-- where the form is known
abbrev pub run_inputs : RunOptions → Option Writing → List Input
run_inputs options None = []
run_inputs options (Some writing) =
    run_inputs_in (option_map (λ name. name.now) options.dialect) options

abbrev pub own_run_through_inputs : RunThroughOptions → List Input
own_run_through_inputs options =
    shop_inputs (Some options.machine.now) (Some options.tools.now)
    ++ program_input (option_map (λ name. name.now) options.program)
    ∷ certificate_input options.certificate.now ∷ []

abbrev pub run_through_inputs_in : Option (List ℕ) → RunThroughOptions → List Input
run_through_inputs_in None options = own_run_through_inputs options
run_through_inputs_in (Some control) options =
    dialect_inputs (Some options.machine.now) (Some options.tools.now)
    (option_map (λ name. name.now) options.program)
    ++ certificate_input options.certificate.now ∷ []

abbrev pub run_through_inputs : RunThroughOptions → Option Writing → List Input
run_through_inputs options None = []
run_through_inputs options (Some writing) =
    run_through_inputs_in (option_map (λ name. name.now) options.dialect) options

abbrev pub own_live_inputs : LiveOptions → List Input
own_live_inputs options =
    shop_inputs (Some options.machine.now) (Some options.tools.now)
    ++ program_input (Some options.program.now)
    ∷ certificate_input options.certificate.now
    ∷ record { kind = OfSource; name = None } ∷ []

abbrev pub live_inputs_in : Option (List ℕ) → LiveOptions → List Input
live_inputs_in None options = own_live_inputs options
live_inputs_in (Some control) options =
    dialect_inputs (Some options.machine.now) (Some options.tools.now) (Some options.program.now)
    ++ certificate_input options.certificate.now ∷ record { kind = OfSource; name = None } ∷ []

-- where the form is known
abbrev pub live_inputs : LiveOptions → Option LiveForm → List Input
live_inputs options None = []
live_inputs options (Some form) =
    live_inputs_in (option_map (λ name. name.now) options.dialect) options

abbrev pub certificate_inputs : Option (List ℕ) → List Input
certificate_inputs None = []
certificate_inputs (Some name) = certificate_input name ∷ []

abbrev pub own_draw_inputs : DrawOptions → List Input
own_draw_inputs options =
    shop_inputs (Some options.machine.now) (Some options.tools.now)
    ++ program_input (option_map (λ name. name.now) options.program)
    ∷ certificate_inputs (option_map (λ name. name.now) options.certificate)

abbrev pub draw_inputs_in : Option (List ℕ) → DrawOptions → List Input
draw_inputs_in None options = own_draw_inputs options
draw_inputs_in (Some control) options =
    dialect_inputs (Some options.machine.now) (Some options.tools.now)
    (option_map (λ name. name.now) options.program)
    ++ certificate_inputs (option_map (λ name. name.now) options.certificate)

-- where the view is known
abbrev pub picture_inputs : DrawOptions → Option View → List Input
picture_inputs options None = []
picture_inputs options (Some view) =
    draw_inputs_in (option_map (λ name. name.now) options.dialect) options

-- no certificate is read for a map
abbrev pub own_map_inputs : DrawOptions → List Input
own_map_inputs options =
    shop_inputs (Some options.machine.now) (Some options.tools.now)
    ++ program_input (option_map (λ name. name.now) options.program) ∷ []

abbrev pub map_inputs_in : Option (List ℕ) → DrawOptions → List Input
map_inputs_in None options = own_map_inputs options
map_inputs_in (Some control) options =
    dialect_inputs (Some options.machine.now) (Some options.tools.now)
    (option_map (λ name. name.now) options.program)

abbrev pub map_inputs : DrawOptions → List Input
map_inputs options = map_inputs_in (option_map (λ name. name.now) options.dialect) options

abbrev pub draw_inputs_by : Bool → DrawOptions → Option View → List Input
draw_inputs_by false options view = picture_inputs options view
draw_inputs_by true options view = map_inputs options

abbrev pub draw_inputs : DrawOptions → Option View → List Input
draw_inputs options view = draw_inputs_by options.map options view

abbrev pub show_inputs : ShowOptions → List Input
show_inputs options =
    shop_inputs (Some options.machine.now) (option_map (λ name. name.now) options.tools)

abbrev pub own_report_inputs : ReportOptions → List Input
own_report_inputs options =
    shop_inputs (Some options.machine.now) (Some options.tools.now)
    ++ program_input (option_map (λ name. name.now) options.program) ∷ []

abbrev pub report_inputs_in : Option (List ℕ) → ReportOptions → List Input
report_inputs_in None options = own_report_inputs options
report_inputs_in (Some control) options =
    dialect_inputs (Some options.machine.now) (Some options.tools.now)
    (option_map (λ name. name.now) options.program)

abbrev pub report_inputs : ReportOptions → List Input
report_inputs options = report_inputs_in (option_map (λ name. name.now) options.dialect) options

abbrev pub own_place_inputs : PlaceOptions → List Input
own_place_inputs options =
    shop_inputs (Some options.machine.now) (Some options.tools.now)
    ++ program_input (option_map (λ name. name.now) options.program) ∷ []

abbrev pub place_inputs_in : Option (List ℕ) → PlaceOptions → List Input
place_inputs_in None options = own_place_inputs options
place_inputs_in (Some control) options =
    dialect_inputs (Some options.machine.now) (Some options.tools.now)
    (option_map (λ name. name.now) options.program)

-- where the system is known
abbrev pub place_inputs : PlaceOptions → Option System → List Input
place_inputs options None = []
place_inputs options (Some system) =
    place_inputs_in (option_map (λ name. name.now) options.dialect) options

abbrev pub adapt_inputs : AdaptOptions → List Input
adapt_inputs options =
    dialect_inputs (option_map (λ name. name.now) options.machine)
    (option_map (λ name. name.now) options.tools) (option_map (λ name. name.now) options.program)

abbrev pub dump_inputs : Option (List ℕ) → List Input
dump_inputs None = []
dump_inputs (Some name) = source_input (Some name) ∷ []

abbrev pub machine_inputs : MachineOptions → List Input
machine_inputs options = dump_inputs (option_map (λ name. name.now) options.grbl)

abbrev pub inputs_of : Options → List Input
inputs_of (commands.List options) = list_inputs options
inputs_of (commands.Certify options) = certify_inputs options
inputs_of (commands.Check options) = check_inputs options
inputs_of (commands.Run options) = run_inputs options (run_writing options)
inputs_of (commands.RunThrough options) =
    run_through_inputs options (run_through_writing options)
inputs_of (commands.Live options) = live_inputs options (requested_live options)
inputs_of (commands.Draw options) =
    draw_inputs options (view_named (option_map (λ name. name.now) options.view))
inputs_of (commands.Show options) = show_inputs options
inputs_of (commands.Report options) = report_inputs options
inputs_of (commands.Place options) = place_inputs options (requested_system options)
inputs_of (commands.Adapt options) = adapt_inputs options
inputs_of (commands.Machine options) = machine_inputs options
inputs_of (commands.Explain number) = []
inputs_of (commands.Help command) = []
inputs_of commands.Version = []

-- The bytes that a sink had taken before and has taken now, where they are known, and the number of
-- its failures before and now.
pub record Taking : Type 0 where
  pub old : Option (List ℕ)
  pub new : Option (List ℕ)
  pub failures : ℕ
  pub failures_now : ℕ

-- output that isn't written, where notes say why, is refused
abbrev pub done_status : Done → ℕ
done_status (WithNotes notes) = if notes.is_written then 0 else 3
done_status _ = 0

-- the exit status of a run's result
abbrev pub status_of : Result Done AnswerFault → ℕ
status_of (Ok done) = done_status done
status_of (Err fault) = answer_status fault

-- the whole text was written, or the sink failed after a prefix of it
abbrev pub Takes : Taking → List ℕ → Type 0
Takes sink text =
    (Appends sink.old sink.new text × (sink.failures_now ≡ sink.failures)) ⊎
    (AppendsPrefix sink.old sink.new text × Rises sink.failures sink.failures_now)

-- the commands that print nothing on standard error when they are done
abbrev pub IsQuiet : Options → Type 0
IsQuiet (commands.List options) = options.dialect ≡ None
IsQuiet (commands.Certify options) = options.dialect ≡ None
IsQuiet (commands.Check options) = options.dialect ≡ None
IsQuiet (commands.Run options) = options.dialect ≡ None
IsQuiet (commands.RunThrough options) = ⊥
IsQuiet (commands.Live options) = options.dialect ≡ None
IsQuiet (commands.Draw options) = options.dialect ≡ None
IsQuiet (commands.Show options) = Unit {0}
IsQuiet (commands.Report options) = options.dialect ≡ None
IsQuiet (commands.Place options) = options.dialect ≡ None
IsQuiet (commands.Adapt options) = ⊥
IsQuiet (commands.Machine options) = ⊥
IsQuiet (commands.Explain number) = Unit {0}
IsQuiet (commands.Help command) = Unit {0}
IsQuiet commands.Version = Unit {0}

-- nothing, the time or the report if the command is done, otherwise the line that reports the fault
abbrev pub Prints : Result Done AnswerFault → Taking → Type 0
Prints (Ok Quietly) sink = (sink.new ≡ sink.old) × (sink.failures_now ≡ sink.failures)
Prints (Ok (RunThrough time)) sink = Takes sink (time_line time)
Prints (Ok (WithNotes notes)) sink = Takes sink notes.text.items
Prints (Err fault) sink = Takes sink (fault_line fault)

-- The files of a run: their bytes, where they are known, which of them have a source that fails,
-- and the number of files that couldn't be opened before and after.
pub record Given : Type 1 where
  pub bytes : FileBytes
  pub fails : Option (List ℕ) → Type 0
  pub failures : ℕ
  pub failures_now : ℕ

-- The result of the run, with the files that weren't read, the output, the status and the second
-- sink that belong to it.
pub record Answers (files : Given) (options : Options) (output errors : Taking) (status : ℕ) :
    Type 0 where
  pub outcome : Result Done AnswerFault
  pub comes : ResultsBy files.bytes options output.old output.new outcome
  pub unread : FailsByInput files.fails files.bytes
      (inputs_of options) files.failures files.failures_now outcome
  pub counts : FailsByOutput outcome output.failures output.failures_now
  pub says : status ≡ status_of outcome
  pub tells : Prints outcome errors
