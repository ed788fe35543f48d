-- The text of an accepted program, from its machine, tools and commands.
use Rattle.std.proofs.Common.{◌≡◌, ◌∙◌, List, ◌++◌, Bool, ap, ap₂}
use Rattle.ngc_origins.specs.Texts.{OriginList}
use Rattle.ngc_commands.specs.declared.command.Command.{Command}
use Rattle.ngc_certificate_text.specs.Certificate.{Entry}
use Rattle.ngc_certificate_text.specs.declared.piece.Setting.{Setting}
use Rattle.ngc_machine_files.specs.Machine.{MachineFile}
use Rattle.ngc_machine_files.specs.declared.tools.Tool.{Tool}
use Rattle.ngc_report.specs.Forms.{closing}
use Rattle.ngc_report.specs.declared.form.Form.{Form}
use Rattle.ngc_program_report.specs.Coordinates.{History}
use Rattle.ngc_file_figures.specs.Files.{FigureValues}
use Rattle.ngc_program_report.specs.Reported.{ReportedLines}
use Rattle.ngc_program_report.specs.Texts.{Findings, setting_text, shop_text}

pub setting_as : (form : Form) (origins : OriginList) (first named : Bool) (s : Setting) (entries : List Entry)
    (found : Findings) (h : History) (lines : ReportedLines)
    (machine own : MachineFile) (tools held : List Tool) (commands given : List Command) → machine ≡ own → tools ≡ held → commands ≡ given
    → setting_text form origins first named s (record { machine = machine; tools = tools }) commands entries found h lines
    ≡ setting_text form origins first named s (record { machine = own; tools = held }) given entries found h lines
setting_as form origins first named s entries found h lines machine own tools held commands given is has are =
    ap₂ (λ (m : MachineFile) (ts : List Tool). setting_text form origins first named s (record { machine = m; tools = ts }) commands entries found h lines) is has
    ∙ ap (λ (cs : List Command). setting_text form origins first named s (record { machine = own; tools = held }) cs entries found h lines) are

pub shop_as : (form : Form) (figures : FigureValues) (machine own : MachineFile) (tools given : List Tool) → machine ≡ own → tools ≡ given
    → shop_text form (record { machine = machine; tools = tools }) figures ++ closing form ≡ shop_text form (record { machine = own; tools = given }) figures ++ closing form
shop_as form figures machine own tools given is are =
    ap₂ (λ (m : MachineFile) (ts : List Tool). shop_text form (record { machine = m; tools = ts }) figures ++ closing form) is are
