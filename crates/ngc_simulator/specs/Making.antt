-- The result of making a machine file from figures. Our own.
use Rattle.std.specs.Prelude.{◌≡◌, ◌⊎◌, ℕ, ◌&&◌, ◌||◌, not, Bool, true, false, List, [], ◌++◌, Option}
use Rattle.std.specs.Prelude.{Some, None, is_some, option_map, Result, Ok, Err, IsOk, IfSome}
use Rattle.std.specs.Prelude.{if◌then◌else◌}
use Rattle.std.specs.Io.KnownBytes.{Appends, Keeps}
use Rattle.ngc_text.specs.Written.{AppendsPrefix}
use Rattle.ngc_command_line.specs.declared.options.MachineOptions.{MachineOptions}
use Rattle.ngc_machine_files.specs.Machine.{MachineFile}
use Rattle.ngc_machine_files.specs.declared.fault.FileFault.{FileFault}
use Rattle.ngc_machine_maker.specs.declared.choices.Choices.{Choices}
use Rattle.ngc_machine_maker.specs.declared.figures.Figures.{Figures}
use Rattle.ngc_machine_maker.specs.declared.numbers.MachineNumbers.{MachineNumbers}
use Rattle.ngc_machine_maker.specs.declared.options.Options.{Options}
use Rattle.ngc_machine_maker.specs.declared.refusal.FigureRefusal.{FigureRefusal}
use Rattle.ngc_machine_maker.specs.Choices.{chosen}
use Rattle.ngc_machine_maker.specs.File.{file_text, notes_text}
use Rattle.ngc_machine_maker.specs.Grbl.{figures_in}
use Rattle.ngc_machine_maker.specs.Numbers.{numbers_of}
use Rattle.ngc_machine_maker.specs.Options.{figures_of}
use Rattle.ngc_machine_maker.specs.Sentences.{refusal_line}
use Rattle.ngc_machine_writer.specs.File.{written_text}
use Rattle.ngc_setup_sheet.specs.Sheets.{warning_remarks}
use Rattle.ngc_written_machines.specs.Reading.{any_machine}
use Rattle.ngc_written_machines.specs.Written.{any_figures}
use Rattle.ngc_simulator.specs.declared.done.Notes.{Notes}
use Rattle.ngc_inputs.specs.declared.fault.AnswerFault.{AnswerFault}
use Rattle.ngc_inputs.specs.declared.fault.AnswerFault.TheVariants as answers
use Rattle.ngc_inputs.specs.Setups.{FileBytes, Refuses}

-- steps, travel, feed and acceleration are present
abbrev pub has_all_figures : MachineOptions → Bool
has_all_figures o =
    is_some o.steps && (is_some o.travel && (is_some o.feed && is_some o.acceleration))

-- one of these is present, or a frame, which a dump contains already
abbrev pub has_a_figure : MachineOptions → Bool
has_a_figure o =
    is_some o.steps || (is_some o.travel
    || (is_some o.feed || (is_some o.acceleration || is_some o.frame)))

-- either a dump of GRBL's settings is present, or all four figures
abbrev pub has_source : MachineOptions → Bool
has_source o = if is_some o.grbl then not (has_a_figure o) else has_all_figures o

-- the figures of the options
pub record AreFigures (options : MachineOptions) (o : Options) : Type 0 where
  pub steps : option_map (λ t. t.now) options.steps ≡ Some o.steps_per_mm.now
  pub travel : option_map (λ t. t.now) options.travel ≡ Some o.travel.now
  pub feed : option_map (λ t. t.now) options.feed ≡ Some o.feed.now
  pub acceleration : option_map (λ t. t.now) options.acceleration ≡ Some o.acceleration.now
  pub frame : option_map (λ t. t.now) options.frame ≡ option_map (λ t. t.now) o.frame

-- what may be left out
pub record AreChoices (options : MachineOptions) (c : Choices) : Type 0 where
  pub corner : option_map (λ t. t.now) options.corner ≡ option_map (λ t. t.now) c.corner
  pub jump : option_map (λ t. t.now) options.jump ≡ option_map (λ t. t.now) c.jump
  pub arcs : option_map (λ t. t.now) options.turn ≡ option_map (λ t. t.now) c.arcs
  pub ticks : option_map (λ t. t.now) options.ticks ≡ option_map (λ t. t.now) c.ticks
  pub ring : option_map (λ t. t.now) options.ring ≡ option_map (λ t. t.now) c.ring
  pub arc_feed : options.arc_feed ≡ c.arc_feed
  pub rates : options.rates ≡ c.rates
  pub start : option_map (λ t. t.now) options.start ≡ option_map (λ t. t.now) c.start
  pub home28 : option_map (λ t. t.now) options.home28 ≡ option_map (λ t. t.now) c.home28
  pub home30 : option_map (λ t. t.now) options.home30 ≡ option_map (λ t. t.now) c.home30

-- the figures of a source, before anything is chosen
abbrev pub IsGiven : MachineOptions → Option (List ℕ) → Result Figures FigureRefusal → Type 0
IsGiven options (Some dump) given = given ≡ figures_in (not options.rates) dump
IsGiven options None given = (o : Options) × AreFigures options o × (given ≡ figures_of o)

abbrev pub with_choices : Choices → Result Figures FigureRefusal → Result Figures FigureRefusal
with_choices c (Ok figures) = chosen figures c
with_choices c (Err refusal) = Err refusal

-- the requested figures
pub record IsAskedFor (options : MachineOptions) (dump : Option (List ℕ))
    (asked : Result Figures FigureRefusal) : Type 0 where
  pub given : Result Figures FigureRefusal
  pub is_given : IsGiven options dump given
  pub choices : Choices
  pub are_choices : AreChoices options choices
  pub chosen : asked ≡ with_choices choices given

-- figures that are refused leave the output unchanged, and the notes say why
abbrev pub ReportsRefusal : FigureRefusal → Option (List ℕ) → Option (List ℕ) → Notes → Type 0
ReportsRefusal refusal old new notes = Keeps old new × (notes.is_written ≡ false)
    × (notes.text.items ≡ refusal_line refusal)

-- a text isn't read as a machine file, with the reader's fault
abbrev pub IsNotRead : List ℕ → AnswerFault → Type 0
IsNotRead text (answers.Machine e) = Refuses e (any_machine text)
IsNotRead text _ = ⊥

-- the keys of a machine file, followed by the warnings of `ngc show` on this machine without tools,
-- as comments, in sentences that fit the version of the keys
abbrev pub with_remarks : List ℕ → MachineFile → List ℕ
with_remarks keys machine =
    keys ++ warning_remarks machine (record { machine = any_figures keys; tools = [] }) []

-- the machine is the one that the keys describe, and the whole is read as a machine file
pub record IsMadeText (keys text : List ℕ) : Type 0 where
  pub machine : MachineFile
  pub says : any_machine keys ≡ Ok machine
  pub is_text : text ≡ with_remarks keys machine
  pub is_file : IsOk (any_machine text)

-- the reader refuses the keys, or the keys with the comments after them
abbrev pub IsUnread : List ℕ → FileFault → Type 0
IsUnread keys e = Refuses e (any_machine keys)
    ⊎ ((machine : MachineFile) × (any_machine keys ≡ Ok machine)
    × Refuses e (any_machine (with_remarks keys machine)))

-- why no text is made of some keys
abbrev pub IsUnmade : List ℕ → AnswerFault → Type 0
IsUnmade keys answers.Memory = Unit {0}
IsUnmade keys (answers.Machine e) = IsUnread keys e
IsUnmade keys _ = ⊥

-- the keys of a machine file: figures with their units, or the rates of version 2, if those are asked
-- for
abbrev pub keys_text : Bool → MachineNumbers → Figures → List ℕ
keys_text rates numbers figures =
    if rates then file_text numbers figures else written_text figures

abbrev pub WritesNumbers : Bool → Figures → Result MachineNumbers FigureRefusal → Option (List ℕ) →
    Option (List ℕ) → Notes → Type 0
WritesNumbers rates figures (Ok numbers) old new notes =
    ((text : List ℕ) × IsMadeText (keys_text rates numbers figures) text × Appends old new text)
    × (notes.is_written ≡ true) × (notes.text.items ≡ notes_text rates numbers figures)
WritesNumbers rates figures (Err refusal) old new notes = ReportsRefusal refusal old new notes

abbrev pub MakesFile : Bool → Result Figures FigureRefusal → Option (List ℕ) → Option (List ℕ) →
    Notes → Type 0
MakesFile rates (Ok figures) old new notes =
    WritesNumbers rates figures (numbers_of figures) old new notes
MakesFile rates (Err refusal) old new notes = ReportsRefusal refusal old new notes

-- the keys of the requested machine file
pub record AreAskedKeys (options : MachineOptions) (dump : Option (List ℕ)) (keys : List ℕ) : Type 0 where
  pub figures : Figures
  pub are_requested : IsAskedFor options dump (Ok figures)
  pub numbers : MachineNumbers
  pub are_numbers : numbers_of figures ≡ Ok numbers
  pub are_keys : keys ≡ keys_text options.rates numbers figures

-- if the text isn't read as a machine file, nothing is written; if a write fails, a prefix of it is
-- written
abbrev pub MakeFails : MachineOptions → Option (List ℕ) → Option (List ℕ) → Option (List ℕ) →
    AnswerFault → Type 0
MakeFails options dump old new answers.Memory = Keeps old new
MakeFails options dump old new (answers.Machine e) = Keeps old new
    × ((keys : List ℕ) × AreAskedKeys options dump keys × IsUnread keys e)
MakeFails options dump old new (answers.Write e) =
    (keys text : List ℕ) × AreAskedKeys options dump keys × IsMadeText keys text
    × AppendsPrefix old new text
MakeFails options dump old new _ = ⊥

abbrev pub Makes : MachineOptions → Option (List ℕ) → Option (List ℕ) → Option (List ℕ) →
    Result Notes AnswerFault → Type 0
Makes options dump old new (Ok notes) = (asked : Result Figures FigureRefusal)
    × IsAskedFor options dump asked × MakesFile options.rates asked old new notes
Makes options dump old new (Err fault) = MakeFails options dump old new fault

-- of the dump that is named, where its bytes are known
abbrev pub OnDump : FileBytes → Option (List ℕ) → (Option (List ℕ) → Type 0) → Type 0
OnDump bytes None P = P None
OnDump bytes (Some name) P = IfSome (bytes (Some name)) (λ text. P (Some text))
