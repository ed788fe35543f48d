-- The frames that are kept with a job are those of its program.
use Rattle.std.proofs.Common.{◌≡◌, List, None, Some, Bool, true, false, ap, ap₂, sym, ◌∙◌}
use Rattle.ngc_line_reader.specs.Grammar.{Reading}
use Rattle.ngc_line_reader.specs.Program.{Line}
use Rattle.ngc_line_reader.specs.ProgramText.{AreReadings}
use Rattle.ngc_canonical.proofs.BlockDelete.{all_stay, all_stay_off}
use Rattle.ngc_canonical.specs.Meaning.{NumberedLine, has_deleted, with_readings}
use Rattle.ngc_canonical.specs.State.{Setup, start_state}
use Rattle.ngc_certificate_text.specs.declared.piece.Setting.{Setting}
use Rattle.ngc_certificate_text.specs.declared.piece.Setting.TheVariants.{Off, On}
use Rattle.ngc_frames.specs.Changes.{changes_from, frame_changes, start_frame}
use Rattle.ngc_frames.specs.declared.change.FrameChange.{FrameChange}
use Rattle.ngc_frames.specs.declared.frame.Frame.{Frame}
use Rattle.ngc_frames.specs.declared.history.FrameHistory.{FrameHistory}
use Rattle.ngc_job.specs.Job.{JobData}
use Rattle.ngc_program_report.specs.Coordinates.{history_of}
use Rattle.ngc_program_report.specs.Framed.{IsFramed, IsHistoryAt, setup_in}
use Rattle.ngc_program_report.specs.Texts.{is_on}

-- ---- if no line begins with `/`, the frames are the same at both settings

same_changes : (setup : Setup) (lines : List NumberedLine) → has_deleted lines ≡ false → frame_changes setup lines true ≡ frame_changes setup lines false
same_changes setup lines none = ap (λ (left : List NumberedLine). changes_from setup left (start_state setup.machine)) (all_stay lines none ∙ sym (all_stay_off lines))

-- ---- the frames of a job

history_as : (j : JobData) (s : Setting) (lines : List Line) (setup : Setup) (start : Frame) (changes : List FrameChange) → setup_in j ≡ setup
    → start ≡ start_frame setup
    → ((rs : List Reading) → AreReadings lines rs → changes ≡ frame_changes setup (with_readings lines rs) (is_on s))
    → IsHistoryAt j s lines (history_of start changes)
history_as j s lines setup start changes same is_start are_changes rs readings =
    ap₂ (λ (f : Frame) (l : List FrameChange). history_of f l) is_start (are_changes rs readings)
    ∙ ap (λ (x : Setup). history_of (start_frame x) (frame_changes x (with_readings lines rs) (is_on s))) (sym same)

-- kept once
pub framed_alike : {A : Type 0} (j : JobData) (off : FrameHistory A) (lines : List Line) (setup : Setup) (found : Bool) → setup_in j ≡ setup
    → off.start ≡ start_frame setup
    → ((rs : List Reading) → AreReadings lines rs → off.changes.items ≡ frame_changes setup (with_readings lines rs) false)
    → ((rs : List Reading) → AreReadings lines rs → found ≡ has_deleted (with_readings lines rs)) → found ≡ false
    → IsFramed (record { job = j; off = off; on = None }) lines
framed_alike j off lines setup found same is_start are_changes is_found none Off =
    history_as j Off lines setup off.start off.changes.items same is_start are_changes
framed_alike j off lines setup found same is_start are_changes is_found none On =
    history_as j On lines setup off.start off.changes.items same is_start
    (λ rs readings. are_changes rs readings ∙ sym (same_changes setup (with_readings lines rs) (sym (is_found rs readings) ∙ none)))

-- kept at each setting
pub framed_apart : {A : Type 0} (j : JobData) (off on : FrameHistory A) (lines : List Line) (setup : Setup) → setup_in j ≡ setup
    → off.start ≡ start_frame setup
    → ((rs : List Reading) → AreReadings lines rs → off.changes.items ≡ frame_changes setup (with_readings lines rs) false)
    → on.start ≡ start_frame setup
    → ((rs : List Reading) → AreReadings lines rs → on.changes.items ≡ frame_changes setup (with_readings lines rs) true)
    → IsFramed (record { job = j; off = off; on = Some on }) lines
framed_apart j off on lines setup same off_starts off_changes on_starts on_changes Off =
    history_as j Off lines setup off.start off.changes.items same off_starts off_changes
framed_apart j off on lines setup same off_starts off_changes on_starts on_changes On =
    history_as j On lines setup on.start on.changes.items same on_starts on_changes
