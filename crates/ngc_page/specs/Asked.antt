-- The requests of the calls, in terms of the command line's.
use Rattle.std.specs.Prelude.{◌≡◌, ◌==◌, ℕ, Bool, true, false, List, Option, Some, None, codes}
use Rattle.std.specs.Prelude.{if◌then◌else◌}
use Rattle.ngc_command_line.specs.CommandLine.{FromGrbl}
use Rattle.ngc_command_line.specs.Meant.{IsAdaptRequest, IsCertifyRequest, IsCheckRequest, IsDrawRequest, IsListRequest}
use Rattle.ngc_command_line.specs.Meant.{IsMachineRequest, IsReportRequest, IsRunRequest, IsShowRequest}
use Rattle.ngc_command_line.specs.declared.options.Format.{Format}
use Rattle.ngc_command_line.specs.declared.options.Format.TheVariants.{One, Two}
use Rattle.ngc_command_line.specs.declared.options.Options.{Options}
use Rattle.ngc_command_line.specs.declared.options.Options.TheVariants as commands
use Rattle.ngc_command_line.specs.declared.options.Recording.TheVariants.{Pulses}

abbrev pub RequestsReport : Bool → Bool → Options → Type 0
RequestsReport all json =
    IsReportRequest (codes "machine") (codes "tools") (Some (codes "program")) None all json

-- the views by their numbers
abbrev pub view_name : ℕ → List ℕ
view_name n =
    if n == 1 then codes "front" else if n == 2 then codes "side"
    else if n == 3 then codes "iso" else codes "top"

abbrev pub RequestsDraw : ℕ → Bool → Options → Type 0
RequestsDraw view delete =
    IsDrawRequest (codes "machine") (codes "tools") None (Some (codes "program"))
    (Some (view_name view)) delete false false

abbrev pub RequestsList : Bool → Options → Type 0
RequestsList delete =
    IsListRequest (Some (codes "program")) (Some (codes "machine")) (Some (codes "tools")) delete

-- the versions of a certificate's text
abbrev pub requested_format : Bool → Format
requested_format true = Two
requested_format false = One

abbrev pub RequestsCertify : Bool → Options → Type 0
RequestsCertify second =
    IsCertifyRequest (codes "machine") (codes "tools") (Some (codes "program")) None
    (Some (requested_format second))

abbrev pub RequestsCheck : Options → Type 0
RequestsCheck =
    IsCheckRequest (codes "machine") (codes "tools") (codes "certificate") (Some (codes "program"))

-- a run without events
abbrev pub RequestsPulses : Bool → Options → Type 0
RequestsPulses delete =
    IsRunRequest Pulses (codes "machine") (codes "tools") (codes "certificate") None
    (Some (codes "program")) delete None

abbrev pub RequestsShow : Options → Type 0
RequestsShow = IsShowRequest (codes "machine") (Some (codes "tools")) false

abbrev pub RequestsExplain : ℕ → Options → Type 0
RequestsExplain number options = options ≡ commands.Explain number

-- the controls by their numbers
abbrev pub control_name : ℕ → List ℕ
control_name n = if n == 1 then codes "grbl" else if n == 2 then codes "mach3"
    else if n == 3 then codes "fanuc" else codes "linuxcnc"

abbrev pub RequestsAdapt : ℕ → Bool → Options → Type 0
RequestsAdapt control delete =
    IsAdaptRequest (control_name control) (Some (codes "machine")) (Some (codes "tools"))
    (Some (codes "program")) delete

-- a machine file from a dump of GRBL's settings, which is the file `program`
abbrev pub RequestsMachine : Options → Type 0
RequestsMachine = IsMachineRequest (FromGrbl (codes "program")) None None None
