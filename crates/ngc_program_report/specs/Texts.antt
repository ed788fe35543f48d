-- The texts of reports of programs. Our own.
use Rattle.std.specs.Prelude.{◌≡◌, ℕ, List, [], ◌∷◌, ◌++◌, codes, decimal, slice_get, Option, Some}
use Rattle.std.specs.Prelude.{None, is_some, option_map, flat_map, Bool, true, false}
use Rattle.std.specs.Prelude.{if◌then◌else◌, length, nat_le}
use Rattle.ngc_margins.specs.Lines.{kept_by, kept_facts, kept_words, nothing_kept}
use Rattle.ngc_margins.specs.declared.report_lines.Kept.{Kept}
use Rattle.ngc_origins.specs.Lines.{origins_facts, origins_words}
use Rattle.ngc_origins.specs.Texts.{OriginList, replaces}
use Rattle.ngc_file_figures.specs.Files.{FigureValues, speeds_of}
use Rattle.ngc_fixed_length.specs.Grid.{grid}
use Rattle.ngc_line_reader.specs.Program.{Line}
use Rattle.ngc_machine_files.specs.Machine.{MachineFile}
use Rattle.ngc_machine_files.specs.declared.tools.Tool.{Tool}
use Rattle.ngc_commands.specs.declared.command.Command.{Command}
use Rattle.ngc_commands.specs.declared.movement.Way.{Way}
use Rattle.ngc_canonical.specs.Faults.{fault_number}
use Rattle.ngc_canonical.specs.declared.fault.Fault.{Fault}
use Rattle.ngc_canonical.specs.declared.fault.ProgramFault.{ProgramFault}
use Rattle.ngc_canonical.specs.declared.fault.ProgramFault.TheVariants as programs
use Rattle.ngc_canonical.specs.State.{Setup}
use Rattle.ngc_certificate_text.specs.declared.piece.Setting.{Setting}
use Rattle.ngc_certificate_text.specs.declared.piece.Setting.TheVariants.{Off, On}
use Rattle.ngc_certificate_text.specs.Certificate.{CertificateData, Entry}
use Rattle.ngc_certificate.specs.PieceFault.{place_fault}
use Rattle.ngc_checker.specs.Accepted.{AcceptedData}
use Rattle.ngc_machine_model.specs.Headline.{job_of}
use Rattle.ngc_run_through.specs.Parts.{IsTimedThrough}
use Rattle.ngc_frames.specs.InForce.{frame_in_force}
use Rattle.ngc_frames.specs.declared.in_force.FrameInForce.{FrameInForce}
use Rattle.ngc_refused_values.specs.Texts.{value_line}
use Rattle.ngc_report.specs.Forms.{closing, opening, report_text}
use Rattle.ngc_report.specs.Marks.{named_line}
use Rattle.ngc_report.specs.Quotes.{quoted}
use Rattle.ngc_report.specs.Reports.{fit_lines, refusal_lines, refusals_head, scene_lines}
use Rattle.ngc_findings.specs.Scenes.{scene_at}
use Rattle.ngc_findings.specs.Warnings.{warning_lines}
use Rattle.ngc_report.specs.declared.form.Form.{Form}
use Rattle.ngc_report.specs.declared.form.Form.TheVariants.{Words, Json}
use Rattle.ngc_length_warnings.specs.BoxTexts.{box_warnings}
use Rattle.ngc_length_warnings.specs.Spelling.{length_warnings}
use Rattle.ngc_limit_warnings.specs.Spelling.{limit_warnings}
use Rattle.ngc_word_warnings.specs.Spelling.{word_warnings}
use Rattle.ngc_lowest_tips.specs.Texts.{tips_text}
use Rattle.ngc_lowest_tips.specs.Tips.{lowest_tips}
use Rattle.ngc_origin_warnings.specs.Missing.{missing_text}
use Rattle.ngc_origin_warnings.specs.Warnings.{origin_warnings}
use Rattle.ngc_tool_figures.specs.Texts.{figures_text}
use Rattle.ngc_tool_warnings.specs.Spelling.{tool_warnings}
use Rattle.ngc_file_figures.specs.declared.limits.ToolLimits.{ToolLimits}
use Rattle.ngc_stock_report.specs.Cautions.{caution_text}
use Rattle.ngc_stock_report.specs.Texts.{material_text}
use Rattle.ngc_stock_report.specs.Walked.{IsWalked, WalkData}
use Rattle.ngc_setup_sheet.specs.Sheets.{warning_facts, warnings_text}
use Rattle.ngc_program_report.specs.Demanded.{demanded_text}
use Rattle.ngc_program_report.specs.declared.run_time.RunTime.{RunTime}
use Rattle.ngc_program_report.specs.Coordinates.{History, coordinates_text, refused_path}
use Rattle.ngc_program_report.specs.Met.{met_at}
use Rattle.ngc_dialect_note_texts.specs.Texts.{notes_text}
use Rattle.ngc_program_report.specs.Reported.{ReportedLines, SettingNotes, notes_at}
use Rattle.ngc_program_report.specs.Times.{ProgramTimeData, seconds_text, time_text, uses_text}

-- ---- the time of a program

-- a machine runs these commands in this time, and each part of them
abbrev pub LastsFor : MachineFile → List Command → ProgramTimeData → Type 0
LastsFor machine commands time =
    IsTimedThrough (job_of machine commands) time.whole.ticks time.parts ×
    (time.whole.ticks_per_second ≡ machine.ticks_per_second)

-- what is found of a program at a setting: its time, and which traverses may touch the material
pub record Findings : Type 0 where
  pub time : ProgramTimeData
  pub material : Option WalkData

abbrev pub findings : ProgramTimeData → Option WalkData → Findings
findings time material = record { time = time; material = material }

-- a machine runs these commands in this time, and a walk over them, with at most `cells` cells and the shapes of
-- cutters that a table says, finds these traverses
pub record AreFindings (cells : ℕ) (table : List ToolLimits) (machine : MachineFile) (commands : List Command) (f : Findings) :
    Type 0 where
  pub lasts : LastsFor machine commands f.time
  pub walked : IsWalked cells table machine commands f.material

-- the line with the time
abbrev pub takes_words : RunTime → List ℕ
takes_words time =
    codes "It takes " ++ decimal time.ticks ++ codes " ticks, " ++ time_text time ++ codes " at "
    ++ decimal time.ticks_per_second
    ++ codes " ticks a second.\n"

abbrev pub takes_fact : RunTime → List ℕ
takes_fact time =
    codes ",\n{\"fact\":\"time\",\"ticks\":" ++ decimal time.ticks ++ codes ",\"ticks_per_second\":"
    ++ decimal time.ticks_per_second
    ++ codes ",\"seconds\":" ++ seconds_text time ++ codes "}"

abbrev pub takes_line : Form → RunTime → List ℕ
takes_line Words time = takes_words time
takes_line Json time = takes_fact time

-- the figures of each tool that feeds, with its time
abbrev pub tool_figures : Form → List Tool → List Command → ProgramTimeData → List ℕ
tool_figures form tools commands time =
    figures_text form time.whole.ticks_per_second tools commands time.parts

-- the time of the whole and of each use, and the figures of the tools
abbrev pub duration_text : Form → List Tool → List Command → ProgramTimeData → List ℕ
duration_text form tools commands time =
    takes_line form time.whole
    ++ (uses_text form commands time ++ tool_figures form tools commands time)

-- ---- texts

-- the line that names the setting, in a program with lines that begin with `/`
abbrev pub setting_line : Form → Setting → List ℕ
setting_line Words Off = codes "With block delete off:\n"
setting_line Words On = codes "With block delete on:\n"
setting_line Json Off = codes ",\n{\"fact\":\"setting\",\"block_delete\":false}"
setting_line Json On = codes ",\n{\"fact\":\"setting\",\"block_delete\":true}"

-- the origins that replace those of the machine file
abbrev pub origins_text : Form → OriginList → List ℕ
origins_text Words origins = origins_words origins
origins_text Json origins = origins_facts origins

-- the margins that a machine keeps, and the way of its traverses
abbrev pub kept_text : Form → Kept → List ℕ
kept_text Words kept = kept_words kept
kept_text Json kept = kept_facts kept

-- the text before the first setting of a report, and before the other
abbrev pub heading : Form → OriginList → Kept → Bool → Bool → Setting → List ℕ
heading form origins kept first named s =
    (if first then opening form ++ (origins_text form origins ++ kept_text form kept)
    else [])
    ++ (if named then setting_line form s else [])

abbrev pub is_on : Setting → Bool
is_on Off = false
is_on On = true

-- the warning of a program that has no command before its end
abbrev pub idle_line : Form → List ℕ
idle_line Words = codes "warning: the program does nothing: it has no command before its end.\n"
idle_line Json =
    codes ",\n{\"fact\":\"warning\",\"text\":\"the program does nothing: it has no command before its end\"}"

abbrev pub idle_text : Form → List Command → List ℕ
idle_text form commands = if nat_le (length commands) 1 then idle_line form else []

-- the warnings for the words of a program's lines; in another language, where they have other
-- meanings, those of a program that does nothing and for the length offsets that the lines set, and the
-- notes on them
abbrev pub language_warnings : Form → Bool → Setup → History → List Command → Option (List Line) →
    SettingNotes → List ℕ
language_warnings form deletes setup h commands (Some lines) notes =
    word_warnings form deletes setup.machine setup.tools commands lines
language_warnings form deletes setup h commands None notes =
    idle_text form commands
    ++ (length_warnings form setup.machine h.start h.changes commands
    ++ notes_text form (notes_at deletes notes))

-- the warnings for the coordinate systems of a program: of boxes that count from one in which it cuts
-- without a tool length offset, and of the origins from which it moves
abbrev pub system_warnings : Form → Setup → History → List Command → List ℕ
system_warnings form setup h commands =
    box_warnings form setup.machine h.start h.changes commands
    ++ origin_warnings form setup.machine setup.tools h.start h.changes commands

-- the warnings at a setting: for the commands there, for tool changes, for the limits of the tools, for
-- the words of the program's lines, and for its coordinate systems
abbrev pub warnings : Form → Setting → Setup → History → List Command → ReportedLines → List ℕ
warnings form s setup h commands lines =
    report_text form (warning_lines setup.machine (speeds_of lines.figures.machine) commands)
    ++ (tool_warnings form setup.machine commands
    ++ (limit_warnings form lines.figures.tools commands
    ++ (language_warnings form (is_on s) setup h commands lines.examined lines.notes
    ++ system_warnings form setup h commands)))

-- the lowest heights at a setting, and the warnings
abbrev pub remarks : Form → Setting → Setup → History → List Command → ReportedLines → List ℕ
remarks form s setup h commands lines =
    tips_text form (lowest_tips setup.tools h.start h.changes commands)
    ++ warnings form s setup h commands lines

-- the text before what fits at a setting: its heading, and how many motions may touch the material
abbrev pub front_text : Form → OriginList → Kept → Bool → Bool → Setting → Option WalkData → List ℕ
front_text form origins kept first named s material =
    heading form origins kept first named s ++ caution_text form material

-- what fits at a setting, the time and the figures of the tools there, the lowest heights, the
-- warnings, and which traverses may touch the material
abbrev pub setting_text : Form → OriginList → Bool → Bool → Setting → Setup → List Command →
    List Entry → Findings → History → ReportedLines → List ℕ
setting_text form origins first named s setup commands motions found h lines =
    front_text form origins (kept_by setup.machine) first named s found.material
    ++ (report_text form (fit_lines setup.machine commands motions)
    ++ (duration_text form setup.tools commands found.time
    ++ (remarks form s setup h commands lines
    ++ material_text form setup.machine setup.tools commands found.material)))

-- the warnings about the machine and its tools
abbrev pub shop_text : Form → Setup → FigureValues → List ℕ
shop_text Words setup figures = warnings_text setup.machine figures setup.tools
shop_text Json setup figures = warning_facts setup.machine figures setup.tools

-- the text for both settings, or once if they have the same commands; and the warnings about
-- machine and tools
abbrev pub fits_text : Form → OriginList → Bool → Setup → List Command → List Command →
    CertificateData → Findings → Findings → History → History → ReportedLines → List ℕ
fits_text form origins false setup off on c off_found on_found off_h on_h lines =
    setting_text form origins true false Off setup off c.off off_found off_h lines
    ++ (shop_text form setup lines.figures ++ closing form)
fits_text form origins true setup off on c off_found on_found off_h on_h lines =
    setting_text form origins true true Off setup off c.off off_found off_h lines
    ++ (setting_text form origins false true On setup on c.on on_found on_h lines
    ++ (shop_text form setup lines.figures ++ closing form))

-- the text for an accepted program
abbrev pub accepted_text : Form → OriginList → Bool → AcceptedData → CertificateData →
    Findings → Findings → History → History → ReportedLines → List ℕ
accepted_text form origins named a c off_found on_found off_h on_h lines =
    fits_text form origins named (record { machine = a.machine; tools = a.tools }) a.off a.on c
    off_found on_found off_h on_h lines

-- the number of the reported fault, which `ngc explain` explains
abbrev pub hint : Form → ℕ → List ℕ
hint Words number = codes "`ngc explain " ++ decimal number ++ codes "` tells more.\n"
hint Json number = codes ",\n{\"fact\":\"fault\",\"number\":" ++ decimal number ++ codes "}"

-- the end of a report of a refused program
abbrev pub ending : Form → ℕ → List ℕ
ending form number = hint form number ++ closing form

-- the command that a refusal reports, or none if the start point isn't clear
abbrev pub refused_command : Option ℕ → ℕ → Option ℕ
refused_command None k = Some k
refused_command (Some fixture) k = None

-- the program line of the reported command
abbrev pub refused_number : List Command → Option ℕ → Option ℕ
refused_number commands None = None
refused_number commands (Some k) = option_map (λ c. c.line) (slice_get commands k)

abbrev pub quoted_if : Form → Option ℕ → List Line → List ℕ
quoted_if form None lines = []
quoted_if form (Some number) lines = quoted form number lines

-- the frame of command `k`
abbrev pub frame_of : History → ℕ → FrameInForce
frame_of h k = frame_in_force h.start h.changes k

-- a motion that meets no fixture has coordinates whose origin isn't in the machine file, and isn't
-- replaced
abbrev pub missing_if : Form → OriginList → MachineFile → Option ℕ → Option Way → FrameInForce →
    List ℕ
missing_if form origins machine None (Some way) f =
    if replaces origins f.frame.frames.active then [] else missing_text form machine f
missing_if form origins machine fixture way f = []

-- the same of the reported command
abbrev pub missing_at : Form → OriginList → MachineFile → List Command → History → Option ℕ →
    List ℕ
missing_at form origins machine commands h None = []
missing_at form origins machine commands h (Some k) =
    missing_if form origins machine (met_at machine commands k) (refused_path commands (Some k))
    (frame_of h k)

-- the warnings at a setting, those about the machine and its tools, and the end
abbrev pub refusal_end : Form → Setting → Setup → History → List Command → ReportedLines → List ℕ
refusal_end form s setup h commands lines =
    warnings form s setup h commands lines ++ (shop_text form setup lines.figures ++ ending form 304)

-- the obstacle of a command, what it lacks of a margin, its program line, and its coordinates in the
-- program
abbrev pub cause_text : Form → OriginList → MachineFile → List Command → Option ℕ → Option ℕ →
    ReportedLines → FrameInForce → List ℕ
cause_text form origins machine commands told fixture lines frame =
    report_text form (refusal_lines machine commands told fixture)
    ++ (demanded_text form machine commands told fixture
    ++ (quoted_if form (refused_number commands told) lines.quoted
    ++ coordinates_text form origins frame (refused_path commands told)))

-- command `k`, unless the start point isn't clear
abbrev pub told_at : MachineFile → ℕ → Option ℕ
told_at machine k =
    refused_command (place_fault machine None (grid machine.step machine.start)) k

-- the obstacle of command `k` at a setting, and the warnings there
abbrev pub refusal_text : Form → OriginList → Bool → Setting → Setup → List Command → ℕ →
    ReportedLines → History → List ℕ
refusal_text form origins named s setup commands k lines h =
    heading form origins (kept_by setup.machine) true named s
    ++ (missing_at form origins setup.machine commands h (told_at setup.machine k)
    ++ (cause_text form origins setup.machine commands (told_at setup.machine k)
    (met_at setup.machine commands k) lines (frame_of h k)
    ++ refusal_end form s setup h commands lines))

-- the obstacle of command `k`, and its coordinates in the program
abbrev pub command_refusal : Form → OriginList → MachineFile → List Command → History → ℕ →
    List ℕ
command_refusal form origins machine commands h k =
    report_text form (scene_lines machine k None (scene_at machine commands k))
    ++ coordinates_text form origins (frame_of h k) (refused_path commands (Some k))

-- those of commands in order
abbrev pub command_refusals : Form → OriginList → MachineFile → List Command → History →
    List ℕ → List ℕ
command_refusals form origins machine commands h ks =
    flat_map (command_refusal form origins machine commands h) ks

-- the verdict and the extents, the start if it is refused, and the refused commands
abbrev pub all_refusals : Form → OriginList → MachineFile → List Command → History → List ℕ →
    List ℕ
all_refusals form origins machine commands h ks =
    report_text form
    (refusals_head machine commands
    (is_some (place_fault machine None (grid machine.step machine.start))) ks)
    ++ command_refusals form origins machine commands h ks

abbrev pub first_of : List ℕ → Option ℕ
first_of [] = None
first_of (k ∷ ks) = Some k

-- all obstacles at a setting, where the program has these frames, and the warnings there
abbrev pub setting_refusals : Form → OriginList → Bool → Bool → Setting → Setup → List Command →
    History → List ℕ → ReportedLines → List ℕ
setting_refusals form origins first named s setup commands h ks lines =
    heading form origins (kept_by setup.machine) first named s
    ++ (missing_at form origins setup.machine commands h (first_of ks)
    ++ (all_refusals form origins setup.machine commands h ks
    ++ warnings form s setup h commands lines))

-- the text for both settings, or once if they have the same commands; and the warnings about
-- machine and tools
abbrev pub refusals_text : Form → OriginList → Bool → Setup → List Command → List Command →
    History → History → List ℕ → List ℕ → ReportedLines → List ℕ
refusals_text form origins false setup off on off_h on_h off_ks on_ks lines =
    setting_refusals form origins true false Off setup off off_h off_ks lines
    ++ (shop_text form setup lines.figures ++ ending form 304)
refusals_text form origins true setup off on off_h on_h off_ks on_ks lines =
    setting_refusals form origins true true Off setup off off_h off_ks lines
    ++ (setting_refusals form origins false true On setup on on_h on_ks lines
    ++ (shop_text form setup lines.figures ++ ending form 304))

-- the line for a program that is refused
abbrev pub refused_line : Form → List ℕ
refused_line Words = codes "The program is refused.\n"
refused_line Json = codes ",\n{\"fact\":\"verdict\",\"fits\":false}"

-- the rejection at a line, with the word that a fault names, and the values of 221, 222 and 243
abbrev pub rejection_text : Form → OriginList → Bool → Setting → ℕ → Fault → List Line → List ℕ
rejection_text form origins named s number fault lines =
    heading form origins nothing_kept true named s
    ++ (refused_line form
    ++ (quoted form number lines
    ++ (named_line form number fault lines
    ++ (value_line form (is_on s) number fault lines ++ ending form (fault_number fault)))))

abbrev pub fault_text : Form → OriginList → Bool → Setting → ProgramFault → List Line → List ℕ
fault_text form origins named s (programs.At number fault) lines =
    rejection_text form origins named s number fault lines
fault_text form origins named s programs.Memory lines = []

abbrev pub commands_of : Setting → List Command → List Command → List Command
commands_of Off off on = off
commands_of On off on = on
