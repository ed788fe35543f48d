-- The result of drawing a program, from the results of its parts.
use Rattle.std.proofs.Common.{◌≡◌, ℕ, List, [], ◌∷◌, ◌++◌, Option, Some, None, Bool, Result, Ok, Err, IfSome, ap, refl, subst}
use Rattle.std.proofs.Common.{sym, ◌∙◌, true, false}
use Rattle.std.specs.Option.{is_some}
use Rattle.std.specs.Prelude.{MatchOption, option_map, slice_get}
use Rattle.std.specs.Io.KnownBytes.{Appends, Keeps}
use Rattle.ngc_text.specs.Written.{AppendsPrefix}
use Rattle.ngc_line_reader.specs.Grammar.{Reading}
use Rattle.ngc_line_reader.specs.ProgramText.{AreReadings, ProgramText, program_of, HaveReadings}
use Rattle.ngc_fixed_length.specs.Grid.{grid}
use Rattle.ngc_fixed_length.specs.declared.points.StepPos.{StepPos}
use Rattle.ngc_commands.specs.Movement.{actions_of}
use Rattle.ngc_commands.specs.declared.command.Command.{Command}
use Rattle.ngc_canonical.specs.declared.fault.ProgramFault.{ProgramFault}
use Rattle.ngc_canonical.specs.Interpreter.{setup_of}
use Rattle.ngc_canonical.specs.State.{Setup}
use Rattle.ngc_canonical.specs.Meaning.{meaning, parsed_program, with_readings}
use Rattle.ngc_frames.specs.Changes.{frame_changes, start_frame}
use Rattle.ngc_frames.specs.declared.change.FrameChange.{FrameChange}
use Rattle.ngc_frames.specs.declared.frame.Frame.{Frame}
use Rattle.ngc_certificate_text.specs.Certificate.{CertificateData, Entry, entries_at}
use Rattle.ngc_certificate_text.specs.ParsedPart.{parsed_certificate}
use Rattle.ngc_certificate_text.specs.declared.piece.Setting.{Setting}
use Rattle.ngc_certificate_text.specs.declared.piece.Setting.TheVariants.{Off}
use Rattle.ngc_certificate.specs.Made.{from_start, join_settings}
use Rattle.ngc_certificate.specs.PieceFault.{place_fault}
use Rattle.ngc_certificate.specs.Uncleared.{AreUncleared}
use Rattle.ngc_certificate.proofs.SomeMade.{some_made}
use Rattle.ngc_certificate.proofs.UnclearedLaws.{first_refused as law_refused, none_made}
use Rattle.ngc_checker.specs.declared.fault.CheckFault.{CheckFault}
use Rattle.ngc_machine_files.specs.Machine.{MachineFile}
use Rattle.ngc_command_line.specs.declared.options.DrawOptions.{DrawOptions}
use Rattle.ngc_drawing.specs.Pictures.{picture_text}
use Rattle.ngc_drawing.specs.declared.fault.DrawFault.{DrawFault}
use Rattle.ngc_drawing.specs.declared.fault.DrawFault.TheVariants.{Memory, Write}
use Rattle.ngc_picture_shapes.specs.declared.look.Look.{Look}
use Rattle.ngc_drawing.specs.declared.origin.WorkOrigin.{WorkOrigin}
use Rattle.ngc_drawing.specs.declared.refusal.RefusedMotion.{RefusedMotion}
use Rattle.ngc_picture_shapes.specs.declared.view.View.{View}
use Rattle.ngc_simulator.specs.Answers.{DrawsFrom, certificate_input, certificate_inputs, own_draw_inputs, program_input}
use Rattle.ngc_program_report.specs.Coordinates.{History, history_of}
use Rattle.ngc_simulator.specs.Drawing.{Draws, DrawsCertified, DrawsNamed, DrawsProgram, IsFirstRefused, IsNamedRefusal, IsPicture, IsPictureOf}
use Rattle.ngc_simulator.specs.Drawing.{WritesPicture, fault_at, look_of, origin_shown, refusal_answer, setting_of}
use Rattle.ngc_inputs.specs.Faults.{of_picture}
use Rattle.ngc_simulator.specs.Lists.{IsMeaning, IsRefused}
use Rattle.ngc_inputs.specs.Setups.{FileBytes, KeepsFiles, KeepsNamed}
use Rattle.ngc_inputs.specs.Shops.{PlacedResultIs}
use Rattle.ngc_inputs.specs.Unread.{Input, shop_inputs}
use Rattle.ngc_inputs.specs.declared.fault.AnswerFault.{AnswerFault}
use Rattle.ngc_inputs.specs.declared.fault.AnswerFault.TheVariants as answers
use Rattle.ngc_inputs.specs.declared.setup.Shop.{Shop}
use Rattle.ngc_inputs.proofs.JobLaws.{FailsSo, keeps_same}
use Rattle.ngc_simulator.proofs.ListLaws.{Means}
use Rattle.ngc_simulator.proofs.RunLaws.{on_two_files}
use Rattle.ngc_inputs.proofs.SetupLaws.{on_placed}

pub is_meaning : (setup : Setup) (bytes : List ℕ) (block_delete : Bool) (text : ProgramText) (says : Result (List Command) ProgramFault)
    → program_of bytes ≡ Ok text → HaveReadings text.lines → Means text setup block_delete says → IsMeaning setup bytes block_delete says
is_meaning setup bytes block_delete text says is_text have means = record {
  text = text;
  is_text = is_text;
  readings = have.readings;
  are_readings = have.are;
  means = means have.readings have.are;
}

pub refused_program : (setup : Setup) (bytes : List ℕ) (block_delete : Bool) (text : ProgramText) (fault : ProgramFault)
    → program_of bytes ≡ Ok text → HaveReadings text.lines → FailsSo text setup block_delete fault → IsRefused setup bytes block_delete fault
refused_program setup bytes block_delete text fault is_text have fails = record {
  says = meaning (parsed_program text have.readings) setup block_delete;
  meaning = record {
    text = text;
    is_text = is_text;
    readings = have.readings;
    are_readings = have.are;
    means = refl;
  };
  fails = fails have.readings have.are;
}

-- ---- the picture of commands

-- of commands that were handed on as a slice
picture : (machine : MachineFile) (look : Look) (entries : List Entry) (IsShown : List Command → Option RefusedMotion → Type 0) (frames : History)
    (commands given : List Command) (found : List Entry) (refusal : Option RefusedMotion) (w : WorkOrigin)
    → given ≡ commands → found ≡ entries → IsShown given refusal → w ≡ origin_shown frames.start frames.changes given refusal
    → IsPictureOf machine look entries IsShown frames commands (picture_text look machine given found refusal w)
picture machine look entries IsShown frames commands given found refusal w same same_found shows is = record {
  refusal = refusal;
  shows = subst (λ cs. IsShown cs refusal) same shows;
  draws =
      ap (λ cs. picture_text look machine cs found refusal w) same
      ∙ ap (λ es. picture_text look machine commands es refusal w) same_found
      ∙ ap (λ (o : WorkOrigin). picture_text look machine commands entries refusal o)
      (is ∙ ap (λ cs. origin_shown frames.start frames.changes cs refusal) same);
}

pub drawn : (machine : MachineFile) (look : Look) (entries : List Entry) (IsShown : List Command → Option RefusedMotion → Type 0) (frames : History)
    (old new : Option (List ℕ)) (commands given : List Command) (found : List Entry) (refusal : Option RefusedMotion) (w : WorkOrigin)
    → given ≡ commands → found ≡ entries → IsShown given refusal → w ≡ origin_shown frames.start frames.changes given refusal
    → Appends old new (picture_text look machine given found refusal w)
    → WritesPicture (IsPictureOf machine look entries IsShown frames commands) old new (Ok tt)
drawn machine look entries IsShown frames old new commands given found refusal w same same_found shows is wrote =
    (picture_text look machine given found refusal w, picture machine look entries IsShown frames commands given found refusal w same same_found shows is, wrote)

-- a prefix of it, or nothing where memory ran out
pub drawing_stopped : (machine : MachineFile) (look : Look) (entries : List Entry) (IsShown : List Command → Option RefusedMotion → Type 0) (frames : History)
    (old new : Option (List ℕ)) (commands given : List Command) (found : List Entry) (refusal : Option RefusedMotion) (w : WorkOrigin) (fault : DrawFault)
    → given ≡ commands → found ≡ entries → IsShown given refusal → w ≡ origin_shown frames.start frames.changes given refusal
    → AppendsPrefix old new (picture_text look machine given found refusal w) → (fault ≡ Memory → Keeps old new)
    → WritesPicture (IsPictureOf machine look entries IsShown frames commands) old new (Err (of_picture fault))
drawing_stopped machine look entries IsShown frames old new commands given found refusal w Memory same same_found shows is wrote keeps = keeps refl
drawing_stopped machine look entries IsShown frames old new commands given found refusal w Write same same_found shows is wrote keeps =
    (picture_text look machine given found refusal w, picture machine look entries IsShown frames commands given found refusal w same same_found shows is, wrote)

pub no_memory : (IsDrawn : List ℕ → Type 0) (known : Option (List ℕ)) (fault : DrawFault) → fault ≡ Memory
    → WritesPicture IsDrawn known known (Err (of_picture fault))
no_memory IsDrawn known Memory is = keeps_same known
no_memory IsDrawn known Write is = cc

-- a fault of a certificate that isn't drawn
pub certificate_refused : (machine : MachineFile) (block_delete : Bool) (look : Look) (c : CertificateData) (frames : History) (commands given : List Command)
    (known : Option (List ℕ)) (fault : CheckFault) → given ≡ commands → Err fault ≡ refusal_answer (fault_at machine (setting_of block_delete) given c)
    → DrawsCertified machine block_delete look c frames commands known known (Err (answers.Check fault))
certificate_refused machine block_delete look c frames commands given known fault same is =
    (sym (is ∙ ap (λ cs. refusal_answer (fault_at machine (setting_of block_delete) cs c)) same), keeps_same known)

-- the motions of a certificate at a setting
pub same_entries : (c : CertificateData) (s t : Setting) (entries : List Entry) → entries ≡ entries_at s c → s ≡ t → entries ≡ entries_at t c
same_entries c s t entries are same = are ∙ ap (λ x. entries_at x c) same

-- the refusal that is drawn
pub named_refusal : (machine : MachineFile) (s : Setting) (c : CertificateData) (commands : List Command) (refusal : Option RefusedMotion)
    → Ok refusal ≡ refusal_answer (fault_at machine s commands c) → IsNamedRefusal machine s c commands refusal
named_refusal machine s c commands refusal is = sym is

-- a picture by a certificate that isn't written
pub certified_stopped : (machine : MachineFile) (block_delete : Bool) (look : Look) (c : CertificateData) (frames : History) (commands : List Command)
    (old new : Option (List ℕ)) (fault : DrawFault)
    → WritesPicture (IsPictureOf machine look (entries_at (setting_of block_delete) c) (IsNamedRefusal machine (setting_of block_delete) c) frames commands) old
    new (Err (of_picture fault))
    → DrawsCertified machine block_delete look c frames commands old new (Err (of_picture fault))
certified_stopped machine block_delete look c frames commands old new Memory draws = draws
certified_stopped machine block_delete look c frames commands old new Write draws = draws

-- ---- the picture of a file

-- the frames of a program in our own language, by all readings of its lines
abbrev pub AreFrames : Setup → ProgramText → Bool → Frame → List FrameChange → Type 0
AreFrames setup text block_delete start changes =
    (start ≡ start_frame setup)
    × ((rs : List Reading) → AreReadings text.lines rs → changes ≡ frame_changes setup (with_readings text.lines rs) block_delete)

file_picture : (setup : Setup) (bytes : List ℕ) (block_delete : Bool) (look : Look) (entries : List Entry)
    (IsShown : List Command → Option RefusedMotion → Type 0) (text : ProgramText) (commands : List Command) (start : Frame) (changes : List FrameChange)
    (drawing : List ℕ)
    → program_of bytes ≡ Ok text → HaveReadings text.lines → Means text setup block_delete (Ok commands) → AreFrames setup text block_delete start changes
    → IsPictureOf setup.machine look entries IsShown (history_of start changes) commands drawing
    → IsPicture setup bytes block_delete look entries IsShown drawing
unfolding is_meaning
file_picture setup bytes block_delete look entries IsShown text commands start changes drawing is_text have means are p = record {
  commands = commands;
  meaning = is_meaning setup bytes block_delete text (Ok commands) is_text have means;
  refusal = p.refusal;
  shows = p.shows;
  draws =
      p.draws
      ∙ ap (λ (o : WorkOrigin). picture_text look setup.machine commands entries p.refusal o)
      (ap (λ (f : Frame). origin_shown f changes commands p.refusal) are.0
      ∙ ap (λ (cs : List FrameChange). origin_shown (start_frame setup) cs commands p.refusal) (are.1 have.readings have.are));
}

-- the picture of the commands of a program's file
pub drawn_file : (setup : Setup) (bytes : List ℕ) (block_delete : Bool) (look : Look) (entries : List Entry)
    (IsShown : List Command → Option RefusedMotion → Type 0) (text : ProgramText) (commands : List Command) (start : Frame) (changes : List FrameChange)
    (old new : Option (List ℕ)) (outcome : Result (Unit {0}) AnswerFault)
    → program_of bytes ≡ Ok text → HaveReadings text.lines → Means text setup block_delete (Ok commands) → AreFrames setup text block_delete start changes
    → WritesPicture (IsPictureOf setup.machine look entries IsShown (history_of start changes) commands) old new outcome
    → Draws setup bytes block_delete look entries IsShown old new outcome
drawn_file setup bytes block_delete look entries IsShown text commands start changes old new (Ok u) is_text have means are writes =
    (writes.0, file_picture setup bytes block_delete look entries IsShown text commands start changes writes.0 is_text have means are writes.1, writes.2)
drawn_file setup bytes block_delete look entries IsShown text commands start changes old new (Err (answers.Write fault)) is_text have means are writes =
    (writes.0, file_picture setup bytes block_delete look entries IsShown text commands start changes writes.0 is_text have means are writes.1, writes.2)
drawn_file setup bytes block_delete look entries IsShown text commands start changes old new (Err answers.Memory) is_text have means are writes = writes
drawn_file setup bytes block_delete look entries IsShown text commands start changes old new (Err _) is_text have means are writes = absurd writes

-- the same with a certificate
pub drawn_named : (setup : Setup) (bytes given_text : List ℕ) (block_delete : Bool) (look : Look) (text : ProgramText) (c : CertificateData)
    (commands : List Command) (start : Frame) (changes : List FrameChange) (old new : Option (List ℕ)) (outcome : Result (Unit {0}) AnswerFault)
    → program_of bytes ≡ Ok text → HaveReadings text.lines → Means text setup block_delete (Ok commands) → AreFrames setup text block_delete start changes
    → parsed_certificate given_text ≡ Ok c → DrawsCertified setup.machine block_delete look c (history_of start changes) commands old new outcome
    → DrawsNamed setup bytes given_text block_delete look old new outcome
drawn_named setup bytes given_text block_delete look text c commands start changes old new (Ok u) is_text have means are said draws = (
  c,
  said,
  drawn_file setup bytes block_delete look (entries_at (setting_of block_delete) c) (IsNamedRefusal setup.machine (setting_of block_delete) c) text commands
      start changes old new (Ok u) is_text have means are draws,
)
drawn_named setup bytes given_text block_delete look text c commands start changes old new (Err (answers.Check fault)) is_text have means are said draws =
    ((commands, c, is_meaning setup bytes block_delete text (Ok commands) is_text have means, said, draws.0), draws.1)
drawn_named setup bytes given_text block_delete look text c commands start changes old new (Err (answers.Write fault)) is_text have means are said draws = (
  c,
  said,
  drawn_file setup bytes block_delete look (entries_at (setting_of block_delete) c) (IsNamedRefusal setup.machine (setting_of block_delete) c) text commands
      start changes old new (Err (answers.Write fault)) is_text have means are draws,
)
drawn_named setup bytes given_text block_delete look text c commands start changes old new (Err answers.Memory) is_text have means are said draws =
    (c, said, draws)
drawn_named setup bytes given_text block_delete look text c commands start changes old new (Err _) is_text have means are said draws = absurd draws

-- a start that isn't clear is refused as command 0
pub start_refused : (machine : MachineFile) (commands : List Command) (place : StepPos) (met : Option ℕ)
    → place ≡ grid machine.step machine.start → met ≡ place_fault machine None place → is_some met ≡ true → IsFirstRefused machine commands (Some 0)
start_refused machine commands place None at is h = absurd (false-true h)
  where
    false-true : false ≡ true → ⊥
    false-true e = cc
start_refused machine commands place (Some fixture) at is h =
    let some = some_made machine 8 0 None machine.start (actions_of commands) in
    (Off, (some.0, some.0, some.1, some.1, ap (λ f. from_start f (join_settings some.0 some.0)) (is ∙ ap (place_fault machine None) at)))

first_among : (machine : MachineFile) (commands : List Command) (ks : List ℕ) → None ≡ place_fault machine None (grid machine.step machine.start) →
    AreUncleared machine 8 commands ks → IsFirstRefused machine commands (slice_get ks 0)
first_among machine commands [] clear are =
    let made = none_made machine 8 commands are in
    (record { off = made.0; on = made.0 }, (Ok made.0, Ok made.0, made.1, made.1, ap (λ f. from_start f (join_settings (Ok made.0) (Ok made.0))) clear))
first_among machine commands (k ∷ ks) clear are =
    let made = law_refused machine 8 commands k ks are in
    (Off, (Err k, Err k, made, made, ap (λ f. from_start f (join_settings (Err k) (Err k))) clear))

-- otherwise the first command that isn't cleared, if there is one
pub first_of : (machine : MachineFile) (commands : List Command) (place : StepPos) (met : Option ℕ) (ks : List ℕ) (first : Option ℕ)
    → place ≡ grid machine.step machine.start → met ≡ place_fault machine None place → is_some met ≡ false → AreUncleared machine 8 commands ks →
    first ≡ slice_get ks 0 → IsFirstRefused machine commands first
first_of machine commands place None ks first at is h are said =
    subst (IsFirstRefused machine commands) (sym said) (first_among machine commands ks (is ∙ ap (place_fault machine None) at) are)
first_of machine commands place (Some fixture) ks first at is h are said = absurd (true-false h)
  where
    true-false : true ≡ false → ⊥
    true-false e = cc

-- ---- of the files that the command line names

From : FileBytes → DrawOptions → View → Option (List ℕ) → Option (List ℕ) → Result (Unit {0}) AnswerFault → Setup → List ℕ → Option (List ℕ) → Type 0
From bytes options view old new outcome setup text named =
    MatchOption named (DrawsProgram setup text options.delete (look_of options view) old new outcome) (λ name.
    IfSome (bytes (Some name)) (λ given. DrawsNamed setup text given options.delete (look_of options view) old new outcome))

-- where no certificate is named
pub plain_files : (bytes after : FileBytes) (options : DrawOptions) (view : View) (shop : Shop) (old new : Option (List ℕ))
    (outcome : Result (Unit {0}) AnswerFault) (P : List ℕ → Type 0)
    → option_map (λ n. n.now) options.certificate ≡ None
    → PlacedResultIs bytes (Some options.machine.now) (Some options.tools.now) options.changes (Ok shop) → KeepsFiles bytes after
    → IfSome (after (option_map (λ n. n.now) options.program)) P
    → ((a : List ℕ) → P a → DrawsProgram (setup_of shop.machine shop.tools) a options.delete (look_of options view) old new outcome)
    → DrawsFrom bytes options view old new outcome
unfolding From
plain_files bytes after options view shop old new outcome P is_none said keeps p on =
    on_placed bytes (Some options.machine.now) (Some options.tools.now) options.changes (setup_of shop.machine shop.tools)
    (λ setup. IfSome (bytes (option_map (λ n. n.now) options.program))
    (λ text. From bytes options view old new outcome setup text (option_map (λ n. n.now) options.certificate)))
    said.0 said.1
    (subst (λ (named : Option (List ℕ)). IfSome (bytes (option_map (λ n. n.now) options.program))
    (λ text. From bytes options view old new outcome (setup_of shop.machine shop.tools) text named)) (sym is_none)
    (subst (λ (k : Option (List ℕ)). IfSome k (λ text. DrawsProgram (setup_of shop.machine shop.tools) text options.delete (look_of options view) old new outcome))
    (keeps (option_map (λ n. n.now) options.program)) (on_known _ p)))
  where
    on_known : (known : Option (List ℕ)) → IfSome known P →
        IfSome known (λ text. DrawsProgram (setup_of shop.machine shop.tools) text options.delete (look_of options view) old new outcome)
    on_known None q = tt
    on_known (Some a) q = on a q

-- where one is
pub given_files : (bytes after later : FileBytes) (options : DrawOptions) (name : List ℕ) (view : View) (shop : Shop) (old new : Option (List ℕ))
    (outcome : Result (Unit {0}) AnswerFault) (P Q : List ℕ → Type 0)
    → option_map (λ n. n.now) options.certificate ≡ Some name
    → PlacedResultIs bytes (Some options.machine.now) (Some options.tools.now) options.changes (Ok shop) → KeepsFiles bytes after → KeepsNamed after later
    → IfSome (after (option_map (λ n. n.now) options.program)) P → IfSome (later (Some name)) Q
    → ((a b : List ℕ) → P a → Q b → DrawsNamed (setup_of shop.machine shop.tools) a b options.delete (look_of options view) old new outcome)
    → DrawsFrom bytes options view old new outcome
unfolding From
given_files bytes after later options name view shop old new outcome P Q is_some said keeps named p q on =
    on_placed bytes (Some options.machine.now) (Some options.tools.now) options.changes (setup_of shop.machine shop.tools)
    (λ setup. IfSome (bytes (option_map (λ n. n.now) options.program))
    (λ text. From bytes options view old new outcome setup text (option_map (λ n. n.now) options.certificate)))
    said.0 said.1
    (subst (λ (given : Option (List ℕ)). IfSome (bytes (option_map (λ n. n.now) options.program))
    (λ text. From bytes options view old new outcome (setup_of shop.machine shop.tools) text given)) (sym is_some)
    (on_two_files _ _ _ _ P Q (λ a b. DrawsNamed (setup_of shop.machine shop.tools) a b options.delete (look_of options view) old new outcome)
    (keeps (option_map (λ n. n.now) options.program)) (named name ∙ keeps (Some name)) on p q))

-- ---- which file isn't read

pub with_certificate : (P : List Input → Type 0) (options : DrawOptions) (name : List ℕ) → option_map (λ n. n.now) options.certificate ≡ Some name
    → P (shop_inputs (Some options.machine.now) (Some options.tools.now) ++ program_input (option_map (λ n. n.now) options.program)
    ∷ certificate_input name ∷ [])
    → P (own_draw_inputs options)
with_certificate P options name is p =
    subst (λ (named : Option (List ℕ)).
    P (shop_inputs (Some options.machine.now) (Some options.tools.now) ++ program_input (option_map (λ n. n.now) options.program)
    ∷ certificate_inputs named)) (sym is) p
