-- A job with the frames of its commands at both settings of block delete. Our own.
use Rattle.std.specs.Prelude.{◌≡◌, List, Option, Some, None}
use Rattle.ngc_line_reader.specs.Grammar.{Reading}
use Rattle.ngc_line_reader.specs.Program.{Line}
use Rattle.ngc_line_reader.specs.ProgramText.{AreReadings}
use Rattle.ngc_canonical.specs.Meaning.{with_readings}
use Rattle.ngc_canonical.specs.State.{Setup}
use Rattle.ngc_certificate_text.specs.declared.piece.Setting.{Setting}
use Rattle.ngc_certificate_text.specs.declared.piece.Setting.TheVariants.{Off, On}
use Rattle.ngc_frames.specs.Changes.{frame_changes, start_frame}
use Rattle.ngc_frames.specs.declared.history.FrameHistory.{FrameHistory}
use Rattle.ngc_job.specs.Job.{JobData}
use Rattle.ngc_program_report.specs.Coordinates.{History, history_of}
use Rattle.ngc_program_report.specs.Texts.{is_on}
use Rattle.ngc_program_report.specs.declared.framed.FramedJob.{FramedJob}

-- the machine and the tools of a job
abbrev pub setup_in : JobData → Setup
setup_in j = record { machine = j.machine; tools = j.tools }

-- the frames of a job's program at a setting, whatever the readings of its lines are
abbrev pub IsHistoryAt : JobData → Setting → List Line → History → Type 0
IsHistoryAt j s lines h = (rs : List Reading) → AreReadings lines rs →
    h ≡ history_of (start_frame (setup_in j))
    (frame_changes (setup_in j) (with_readings lines rs) (is_on s))

abbrev pub history_in : {A : Type 0} → FrameHistory A → History
history_in h = history_of h.start h.changes.items

-- without frames for block delete on, those for off serve both settings
abbrev pub frames_or : {A : Type 0} → FrameHistory A → Option (FrameHistory A) → FrameHistory A
frames_or off None = off
frames_or off (Some on) = on

abbrev pub frames_at : {A : Type 0} → Setting → FramedJob A → FrameHistory A
frames_at Off f = f.off
frames_at On f = frames_or f.off f.on

-- a job, and the frames of its program at both settings
pub record FramedData : Type 0 where
  pub job : JobData
  pub off : History
  pub on : History

abbrev pub framed_in : {A : Type 0} → FramedJob A → FramedData
framed_in f =
    record { job = f.job; off = history_in (frames_at Off f); on = history_in (frames_at On f) }

abbrev pub frames_in : Setting → FramedData → History
frames_in Off f = f.off
frames_in On f = f.on

-- at each setting the frames are those of the job's program, which has these lines
abbrev pub IsFramed : {A : Type 0} → FramedJob A → List Line → Type 0
IsFramed f lines = (s : Setting) → IsHistoryAt f.job s lines (history_in (frames_at s f))
