-- A machine file without origins. Our own.
use Rattle.std.specs.Prelude.{ℕ, ◌==◌, List, [], ◌++◌, codes, Bool, not, ◌&&◌, if◌then◌else◌}
use Rattle.ngc_fixed_length.specs.declared.modes.System.{System}
use Rattle.ngc_frames.specs.Words.{system_text}
use Rattle.ngc_frames.specs.declared.in_force.FrameInForce.{FrameInForce}
use Rattle.ngc_machine_files.specs.Machine.{MachineFile}
use Rattle.ngc_report.specs.declared.form.Form.{Form}
use Rattle.ngc_report.specs.declared.form.Form.TheVariants.{Words, Json}
use Rattle.ngc_origin_warnings.specs.Origins.{has_origins, put_by}

-- no origin is in the machine file, and no line put that of this frame where it is
abbrev pub is_missing : MachineFile → FrameInForce → Bool
is_missing m f = (put_by f == 0) && not (has_origins m)

abbrev pub missing_line : Form → System → List ℕ
missing_line Words system = system_text system
    ++ codes " has no origin in the machine file: give it there or with `--origin`.\n"
missing_line Json system =
    codes ",\n{\"fact\":\"no_origin\",\"system\":\"" ++ system_text system ++ codes "\"}"

abbrev pub missing_text : Form → MachineFile → FrameInForce → List ℕ
missing_text form m f =
    if is_missing m f then missing_line form f.frame.frames.active else []
