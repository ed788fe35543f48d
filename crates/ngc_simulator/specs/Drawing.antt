-- The result of drawing a program. Our own.
use Rattle.std.specs.Prelude.{◌≡◌, ℕ, List, [], Option, Some, None, Result, Ok}
use Rattle.std.specs.Prelude.{Err, Bool, codes, if◌then◌else◌, length}
use Rattle.std.specs.Str.{bytes_eq}
use Rattle.std.specs.Io.KnownBytes.{Appends, Keeps}
use Rattle.ngc_text.specs.Written.{AppendsPrefix}
use Rattle.ngc_line_reader.specs.ProgramText.{program_of}
use Rattle.ngc_line_reader.specs.ProgramView.{FaultIs}
use Rattle.ngc_machine_files.specs.Machine.{MachineFile}
use Rattle.ngc_commands.specs.declared.command.Command.{Command}
use Rattle.ngc_canonical.specs.Meaning.{NumberedLine, with_readings}
use Rattle.ngc_canonical.specs.State.{Setup}
use Rattle.ngc_offsets.specs.Frames.{index}
use Rattle.ngc_frames.specs.Changes.{frame_changes, start_frame}
use Rattle.ngc_frames.specs.Frame.{selected_origin}
use Rattle.ngc_frames.specs.InForce.{frame_in_force}
use Rattle.ngc_frames.specs.declared.change.FrameChange.{FrameChange}
use Rattle.ngc_frames.specs.declared.frame.Frame.{Frame}
use Rattle.ngc_certificate_text.specs.declared.piece.Setting.{Setting}
use Rattle.ngc_certificate_text.specs.declared.piece.Setting.TheVariants.{Off, On}
use Rattle.ngc_certificate_text.specs.Certificate.{CertificateData, Entry, entries_at}
use Rattle.ngc_certificate_text.specs.ParsedPart.{parsed_certificate}
use Rattle.ngc_certificate.specs.declared.fault.MakeFault.TheVariants.{NotCleared}
use Rattle.ngc_certificate.specs.declared.fault.PieceFault.{PieceFault}
use Rattle.ngc_certificate.specs.declared.fault.PieceFault.TheVariants as pieces
use Rattle.ngc_certificate.specs.Made.{IsMade}
use Rattle.ngc_checker.specs.declared.fault.CheckFault.{CheckFault}
use Rattle.ngc_checker.specs.declared.fault.CheckFault.TheVariants as checks
use Rattle.ngc_checker.specs.FirstRefusal.{setting_fault}
use Rattle.ngc_command_line.specs.declared.options.DrawOptions.{DrawOptions}
use Rattle.ngc_drawing.specs.Pictures.{picture_text}
use Rattle.ngc_picture_shapes.specs.declared.look.Look.{Look}
use Rattle.ngc_drawing.specs.declared.origin.WorkOrigin.{WorkOrigin}
use Rattle.ngc_drawing.specs.declared.refusal.RefusedMotion.{RefusedMotion}
use Rattle.ngc_picture_shapes.specs.declared.view.View.{View}
use Rattle.ngc_picture_shapes.specs.declared.view.View.TheVariants.{Top, Front, Side, Iso}
use Rattle.ngc_program_report.specs.Coordinates.{History}
use Rattle.ngc_program_report.specs.Met.{met_at}
use Rattle.ngc_inputs.specs.declared.fault.AnswerFault.{AnswerFault}
use Rattle.ngc_inputs.specs.declared.fault.AnswerFault.TheVariants as answers
use Rattle.ngc_inputs.specs.Jobs.{IsNoCertificate}
use Rattle.ngc_simulator.specs.Lists.{IsMeaning, IsRefused}

-- the view with a name, or the top if no name is passed
abbrev pub view_named : Option (List ℕ) → Option View
view_named None = Some Top
view_named (Some name) =
    if bytes_eq name (codes "top") then Some Top else if bytes_eq name (codes "front")
    then Some Front
    else if bytes_eq name (codes "side") then Some Side
    else if bytes_eq name (codes "iso") then Some Iso else None

-- how the picture looks from this side, with these options
abbrev pub look_of : DrawOptions → View → Look
look_of options view = record { view = view; whole = options.whole; bodies = options.bodies }

abbrev pub setting_of : Bool → Setting
setting_of block_delete = if block_delete then On else Off

-- ---- what is refused and drawn

-- the first command at which no certificate is made for these commands, with the number of pieces
-- that `certify` tries by default
abbrev pub IsFirstRefused : MachineFile → List Command → Option ℕ → Type 0
IsFirstRefused machine commands None =
    (c : CertificateData) × IsMade machine 8 commands commands (Ok c)
IsFirstRefused machine commands (Some k) =
    (s : Setting) × IsMade machine 8 commands commands (Err (NotCleared s k))

-- without a certificate: that command, and the fixture that it meets in one piece
abbrev pub IsMadeRefusal : MachineFile → List Command → Option RefusedMotion → Type 0
IsMadeRefusal machine commands None = IsFirstRefused machine commands None
IsMadeRefusal machine commands (Some refusal) =
    IsFirstRefused machine commands (Some refusal.command) × (refusal.fault ≡ 304)
    × (refusal.fixture ≡ met_at machine commands refusal.command)

-- with a certificate: its first fault at the setting, if that is for travel or for a fixture
abbrev pub piece_refusal : ℕ → PieceFault → Option RefusedMotion
piece_refusal k pieces.Chain = None
piece_refusal k pieces.NotCovered = None
piece_refusal k pieces.OutsideTravel = Some (record { command = k; fault = 315; fixture = None })
piece_refusal k (pieces.MeetsFixture i) =
    Some (record { command = k; fault = 316; fixture = Some i })

abbrev pub drawn_refusal : CheckFault → Option RefusedMotion
drawn_refusal (checks.Program s e) = None
drawn_refusal (checks.MotionsDiffer s k) = None
drawn_refusal (checks.Divided s k) = None
drawn_refusal (checks.Start i) = Some (record { command = 0; fault = 318; fixture = Some i })
drawn_refusal (checks.Piece s k j e) = piece_refusal k e
drawn_refusal (checks.ToolChange s k i) =
    Some (record { command = k; fault = 317; fixture = Some i })
drawn_refusal checks.Memory = None

abbrev pub fault_at : MachineFile → Setting → List Command → CertificateData → Option CheckFault
fault_at machine s commands c = setting_fault machine s commands (entries_at s c)

-- a fault that isn't drawn is returned
abbrev pub drawn_or : CheckFault → Option RefusedMotion → Result (Option RefusedMotion) CheckFault
drawn_or fault None = Err fault
drawn_or fault (Some refusal) = Ok (Some refusal)

abbrev pub refusal_answer : Option CheckFault → Result (Option RefusedMotion) CheckFault
refusal_answer None = Ok None
refusal_answer (Some fault) = drawn_or fault (drawn_refusal fault)

-- ---- the work origin

abbrev pub work_of : Frame → WorkOrigin
work_of f = record {
  system = index f.frames.active;
  origin = selected_origin f;
  axis_offset = f.frames.axis_offset;
}

-- the command that is refused, or the end of the program
abbrev pub shown_command : List Command → Option RefusedMotion → ℕ
shown_command commands None = length commands
shown_command commands (Some r) = r.command

-- the work origin in force there
abbrev pub origin_shown : Frame → List FrameChange → List Command → Option RefusedMotion → WorkOrigin
origin_shown start changes commands refusal =
    work_of (frame_in_force start changes (shown_command commands refusal)).frame

abbrev pub work_origin : Setup → List NumberedLine → Bool → List Command → Option RefusedMotion →
    WorkOrigin
work_origin setup lines block_delete commands refusal =
    origin_shown (start_frame setup) (frame_changes setup lines block_delete) commands refusal

-- ---- the picture

-- the picture of a file's meaning with the motions of a certificate, and with its refusal
pub record IsPicture (setup : Setup) (bytes : List ℕ) (block_delete : Bool) (look : Look)
    (entries : List Entry) (IsShown : List Command → Option RefusedMotion → Type 0) (text : List ℕ) :
    Type 0 where
  pub commands : List Command
  pub meaning : IsMeaning setup bytes block_delete (Ok commands)
  pub refusal : Option RefusedMotion
  pub shows : IsShown commands refusal
  pub draws : text ≡ picture_text look setup.machine commands entries refusal
      (work_origin setup (with_readings meaning.text.lines meaning.readings) block_delete commands
      refusal)

-- the picture was written, or a prefix of it where the sink failed; where there is none, the output
-- is unchanged
abbrev pub Draws : Setup → List ℕ → Bool → Look → List Entry →
    (List Command → Option RefusedMotion → Type 0) → Option (List ℕ) → Option (List ℕ) →
    Result (Unit {0}) AnswerFault → Type 0
Draws setup bytes block_delete look entries IsShown old new (Ok u) = (text : List ℕ) ×
    IsPicture setup bytes block_delete look entries IsShown text × Appends old new text
Draws setup bytes block_delete look entries IsShown old new (Err (answers.Write fault)) =
    (text : List ℕ) × IsPicture setup bytes block_delete look entries IsShown text ×
    AppendsPrefix old new text
Draws setup bytes block_delete look entries IsShown old new (Err answers.Memory) = Keeps old new
Draws setup bytes block_delete look entries IsShown old new (Err (answers.Program fault)) =
    IsRefused setup bytes block_delete fault × Keeps old new
Draws setup bytes block_delete look entries IsShown old new (Err (answers.Read fault)) =
    FaultIs fault (program_of bytes) × Keeps old new
Draws setup bytes block_delete look entries IsShown old new (Err _) = ⊥

-- Of a program's file and a sink, without a certificate.
abbrev pub DrawsProgram : Setup → List ℕ → Bool → Look → Option (List ℕ) → Option (List ℕ) →
    Result (Unit {0}) AnswerFault → Type 0
DrawsProgram setup bytes block_delete look old new outcome =
    Draws setup bytes block_delete look [] (IsMadeRefusal setup.machine) old new outcome

-- what a certificate refuses of commands
abbrev pub IsNamedRefusal : MachineFile → Setting → CertificateData → List Command →
    Option RefusedMotion → Type 0
IsNamedRefusal machine s c commands refusal =
    refusal_answer (fault_at machine s commands c) ≡ Ok refusal

-- Of a program's file, a certificate's file and a sink. A fault of the certificate that isn't drawn
-- is returned.
abbrev pub DrawsNamed : Setup → List ℕ → List ℕ → Bool → Look → Option (List ℕ) → Option (List ℕ) →
    Result (Unit {0}) AnswerFault → Type 0
DrawsNamed setup bytes text block_delete look old new (Err (answers.Certificate fault)) =
    IsNoCertificate text fault × Keeps old new
DrawsNamed setup bytes text block_delete look old new (Err (answers.Check fault)) =
    ((commands : List Command) × (c : CertificateData) ×
    IsMeaning setup bytes block_delete (Ok commands) × (parsed_certificate text ≡ Ok c)
    × (refusal_answer (fault_at setup.machine (setting_of block_delete) commands c) ≡ Err fault)) ×
    Keeps old new
DrawsNamed setup bytes text block_delete look old new (Err (answers.Read fault)) =
    FaultIs fault (program_of bytes) × Keeps old new
DrawsNamed setup bytes text block_delete look old new outcome =
    (c : CertificateData) × (parsed_certificate text ≡ Ok c)
    × Draws setup bytes block_delete look (entries_at (setting_of block_delete) c)
    (IsNamedRefusal setup.machine (setting_of block_delete) c) old new outcome

-- ---- the picture of commands, by whatever program they are

-- the picture of commands and of their frames, with the motions of a certificate, and with its refusal
pub record IsPictureOf (machine : MachineFile) (look : Look) (entries : List Entry)
    (IsShown : List Command → Option RefusedMotion → Type 0) (frames : History)
    (commands : List Command) (text : List ℕ) : Type 0 where
  pub refusal : Option RefusedMotion
  pub shows : IsShown commands refusal
  pub draws : text ≡ picture_text look machine commands entries refusal
      (origin_shown frames.start frames.changes commands refusal)

-- a picture was written, or a prefix of it where the sink failed; where memory ran out, the output is
-- unchanged
abbrev pub WritesPicture : (List ℕ → Type 0) → Option (List ℕ) → Option (List ℕ) →
    Result (Unit {0}) AnswerFault → Type 0
WritesPicture IsDrawn old new (Ok u) = (text : List ℕ) × IsDrawn text × Appends old new text
WritesPicture IsDrawn old new (Err (answers.Write fault)) =
    (text : List ℕ) × IsDrawn text × AppendsPrefix old new text
WritesPicture IsDrawn old new (Err answers.Memory) = Keeps old new
WritesPicture IsDrawn old new (Err _) = ⊥

-- without a certificate
abbrev pub DrawsCommands : MachineFile → Look → History → List Command → Option (List ℕ) →
    Option (List ℕ) → Result (Unit {0}) AnswerFault → Type 0
DrawsCommands machine look frames commands old new outcome =
    WritesPicture (IsPictureOf machine look [] (IsMadeRefusal machine) frames commands) old new outcome

-- With the motions of a certificate at a setting of block delete. A fault of the certificate that isn't
-- drawn is returned.
abbrev pub DrawsCertified : MachineFile → Bool → Look → CertificateData → History → List Command →
    Option (List ℕ) → Option (List ℕ) → Result (Unit {0}) AnswerFault → Type 0
DrawsCertified machine block_delete look c frames commands old new (Err (answers.Check fault)) =
    (refusal_answer (fault_at machine (setting_of block_delete) commands c) ≡ Err fault)
    × Keeps old new
DrawsCertified machine block_delete look c frames commands old new outcome =
    WritesPicture (IsPictureOf machine look (entries_at (setting_of block_delete) c)
    (IsNamedRefusal machine (setting_of block_delete) c) frames commands) old new outcome
