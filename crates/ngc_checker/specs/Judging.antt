-- The rest of the check of a certificate, line by line. Our own.
use Rattle.std.specs.Prelude.{◌≡◌, ℕ, ◌-◌, ◌≤◌, List, length, Option, None, Ok}
use Rattle.ngc_machine_files.specs.Machine.{MachineFile}
use Rattle.ngc_machine_files.specs.MachineRanges.{IsMachine}
use Rattle.ngc_commands.specs.declared.command.Command.{Command}
use Rattle.ngc_certificate_text.specs.declared.expected.Expected.{Expected}
use Rattle.ngc_certificate_text.specs.declared.expected.Expected.TheVariants as next
use Rattle.ngc_certificate_text.specs.declared.piece.Setting.TheVariants.{Off, On}
use Rattle.ngc_certificate_text.specs.declared.line_content.LineContent.{LineContent}
use Rattle.ngc_certificate_text.specs.declared.line_content.LineContent.TheVariants as content_kind
use Rattle.ngc_certificate_text.specs.Ahead.{Rest, certificate_of}
use Rattle.ngc_certificate_text.specs.Certificate.{CertificateData, PIECE_LIMIT}
use Rattle.ngc_checker.specs.declared.fault.CheckFault.{CheckFault}
use Rattle.ngc_checker.specs.declared.setting_judge.SettingJudge.{SettingJudge}
use Rattle.ngc_job.specs.Job.{AreCommands}
use Rattle.ngc_checker.specs.Accepted.{AcceptedData}
use Rattle.ngc_checker.specs.FirstRefusal.{settings_fault}
use Rattle.ngc_checker.specs.Following.{IsFollowing}
use Rattle.ngc_checker.specs.Held.{held}
use Rattle.ngc_checker.specs.Walking.{fault_left}
use Rattle.ngc_machine_files.specs.declared.tools.Tool.{Tool}
use Rattle.ngc_certificate.specs.PieceFault.{◌or◌}

-- The state of a judge: machine, tools and commands; the state of each setting; and the number of
-- remaining pieces of a motion that has begun.
pub record JudgeData : Type 0 where
  pub machine : MachineFile
  pub tools : List Tool
  pub off : List Command
  pub on : List Command
  pub off_walk : SettingJudge
  pub on_walk : SettingJudge
  pub left : ℕ

-- the first refusal, if this remains of a certificate: pieces matter to a setting if its motion has
-- begun
abbrev pub verdict_left : MachineFile → List Command → List Command → SettingJudge → SettingJudge →
    Rest → Option CheckFault
verdict_left machine off on off_walk on_walk r =
    fault_left machine Off off off_walk r.pieces
    (certificate_of r).off or fault_left machine On on on_walk r.pieces (certificate_of r).on

-- a setting's walk is among its commands, and at most `left` pieces of its motion that has begun
-- may follow
pub record IsWalking (machine : MachineFile) (commands : List Command) (walk : SettingJudge)
    (left : ℕ) : Type 0 where
  pub index : walk.walk.index ≤ length commands
  pub following : IsFollowing machine walk.following left
  pub none : left ≡ 0 → walk.following ≡ None

-- The lines so far and those that follow are those of some certificate, and the verdict is that of
-- both together.
pub record IsJudge (machine : MachineFile) (off on : List Command) (off_walk on_walk : SettingJudge)
    (left : ℕ) : Type 0 where
  pub good_machine : IsMachine machine
  pub off_commands : AreCommands machine.start off
  pub on_commands : AreCommands machine.start on
  pub off_walking : IsWalking machine off off_walk left
  pub on_walking : IsWalking machine on on_walk left
  pub certificate : Rest → CertificateData
  pub says : (r : Rest) → length r.pieces ≡ left →
      settings_fault machine (Ok off) (Ok on) (certificate r)
      ≡ verdict_left machine off on off_walk on_walk r

-- the first refusal, if this remains
abbrev pub verdict_of : JudgeData → Rest → Option CheckFault
verdict_of v r = verdict_left v.machine v.off v.on v.off_walk v.on_walk r

abbrev pub stored_contents : JudgeData → AcceptedData
stored_contents v = held v.machine v.tools v.off v.on

-- ---- a line

-- the line is allowed in the judge's state
abbrev pub MayJudge : LineContent → JudgeData → Type 0
MayJudge (content_kind.Header version) v = Unit {0}
MayJudge (content_kind.Setting s n) v = Unit {0}
MayJudge (content_kind.Counts off on) v = Unit {0}
MayJudge (content_kind.Motion b) v = (v.left ≡ 0) × (1 ≤ b.pieces_left) × (b.pieces_left ≤ PIECE_LIMIT)
MayJudge (content_kind.Piece b p) v = (v.left ≡ b.pieces_left) × (1 ≤ b.pieces_left)
MayJudge content_kind.End v = Unit {0}

-- the number of remaining pieces after the line
abbrev pub remaining_after : LineContent → ℕ → ℕ
remaining_after (content_kind.Header version) left = left
remaining_after (content_kind.Setting s n) left = left
remaining_after (content_kind.Counts off on) left = left
remaining_after (content_kind.Motion b) left = b.pieces_left
remaining_after (content_kind.Piece b p) left = b.pieces_left - 1
remaining_after content_kind.End left = left

-- ---- the next line

abbrev pub left_of : Expected → ℕ
left_of next.Header = 0
left_of (next.Setting s) = 0
left_of next.Counts = 0
left_of (next.Motion left) = 0
left_of (next.Piece b) = b.pieces_left
left_of next.End = 0
left_of next.Nothing = 0

-- a judge's state if this line is next
abbrev pub IsAt : Expected → JudgeData → Type 0
IsAt e v = v.left ≡ left_of e
