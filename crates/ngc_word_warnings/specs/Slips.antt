-- Mistakes in the words of a program that passes. Our own.
use Rattle.std.specs.Prelude.{ℕ, ◌+◌, ◌-◌, ◌*◌, ◌==◌, ◌&&◌, nat_le, ℤ, pos, int_lt, List, [], ◌∷◌}
use Rattle.std.specs.Prelude.{length, slice_get, drop, take_while, Option, Some, None, Result}
use Rattle.std.specs.Prelude.{Ok, Err, ◌++◌, ◌||◌, Bool, false, true, not, if◌then◌else◌}
use Rattle.std.specs.List.{list_any}
use Rattle.std.specs.Option.{option_and_then}
use Rattle.std.specs.Ordering.{int_eq}
use Rattle.ngc_machine_files.specs.Machine.{MachineFile}
use Rattle.ngc_machine_files.specs.declared.tools.Tool.{Tool}
use Rattle.ngc_line_reader.specs.Program.{Line}
use Rattle.ngc_line_reader.specs.ReadLine.{line_read}
use Rattle.ngc_line_reader.specs.ScanLine.{Parts, ParsedLine}
use Rattle.ngc_line_reader.specs.declared.fault.LineFault.{LineFault}
use Rattle.ngc_line_reader.specs.declared.letter.Letter.TheVariants as letters
use Rattle.ngc_commands.specs.declared.command.Action.{Action}
use Rattle.ngc_commands.specs.declared.command.Action.TheVariants.{Mount, Move}
use Rattle.ngc_commands.specs.declared.command.Command.{Command}
use Rattle.ngc_commands.specs.declared.movement.Pace.{Pace}
use Rattle.ngc_commands.specs.declared.movement.Pace.TheVariants.{Rapid, Feed}
use Rattle.ngc_commands.specs.declared.reached.Reached.{Reached}
use Rattle.ngc_commands.specs.Movement.{end_of}
use Rattle.ngc_commands.specs.Reached.{after, after_all, at_start}
use Rattle.ngc_word_warnings.specs.Offsets.{is_applied, is_apart, is_other, offset_after, offset_of}
use Rattle.ngc_word_warnings.specs.Words.{axis_words, has_code, number_after, zero_words}
use Rattle.ngc_word_warnings.specs.declared.offset.Offset.{Offset}
use Rattle.ngc_word_warnings.specs.declared.offset.Offset.TheVariants as offsets
use Rattle.ngc_word_warnings.specs.declared.between.Between.{Between}
use Rattle.ngc_word_warnings.specs.declared.between.Step.{Step as LineStep}
use Rattle.ngc_word_warnings.specs.declared.slip.Found.{Found}
use Rattle.ngc_word_warnings.specs.declared.slip.Kind.{Kind}
use Rattle.ngc_word_warnings.specs.declared.slip.Kind.TheVariants as kinds
use Rattle.ngc_word_warnings.specs.declared.slip.Slip.{Slip}
use Rattle.ngc_word_warnings.specs.declared.slip.Slip.TheVariants as slips
use Rattle.ngc_word_warnings.specs.declared.slip.Slips.{Slips}
use Rattle.ngc_word_warnings.specs.declared.slip.LineSlips.{LineSlips}
use Rattle.ngc_word_warnings.specs.declared.slip.AllSlips.{AllSlips}

-- ---- a tool that is never mounted

-- a change to the tool of this number, in millionths
abbrev pub mounts_tool : ℤ → Action → Bool
mounts_tool number (Mount (Some tool)) = int_eq number (pos (tool.number * 1000000))
mounts_tool number _ = false

abbrev pub is_mounted : List Command → ℤ → Bool
is_mounted commands number = list_any (λ c. mounts_tool number c.action) commands

-- T0 is no tool
abbrev pub unmounted : List Command → ℤ → Option Slip
unmounted commands number =
    if int_lt (pos 0) number && not (is_mounted commands number)
    then Some (slips.Unmounted number) else None

-- ---- the offset of another tool

-- an offset's number, in millionths, that isn't the tool's; H0 is no tool's
abbrev pub other_offset : Option Tool → ℤ → Option Slip
other_offset None offset = None
other_offset (Some tool) offset =
    if is_other tool offset then Some (slips.OtherOffset offset tool.number) else None

-- G43 with a number after H, while this tool is mounted
abbrev pub wrong_offset : Option Tool → Parts → Option Slip
wrong_offset mounted said =
    if has_code letters.G (pos 43000000) said
    then option_and_then (other_offset mounted) (number_after letters.H said)
    else None

-- ---- home along some axes

abbrev pub goes_home : Parts → Bool
goes_home said = has_code letters.G (pos 28000000) said || has_code letters.G (pos 30000000) said

-- `G91 G28 Z0` as posts write it: one or two axis words, each 0
abbrev pub names_some : ℕ → ℕ → Bool
names_some words zeros = (words == 1 || words == 2) && words == zeros

abbrev pub part_home : Parts → Option Slip
part_home said =
    if goes_home said && names_some (axis_words said) (zero_words said)
    then Some slips.PartHome else None

-- ---- no length offset, or that of another tool

abbrev pub is_feed : Pace → Bool
is_feed Rapid = false
is_feed (Feed feed) = true

-- a feed that ends lower than it begins
abbrev pub feeds_down : Reached → Action → Bool
feeds_down r (Move m) = is_feed m.pace && int_lt (end_of m.way).z r.place.z
feeds_down r _ = false

-- a tool whose offset in the tool table isn't 0 feeds downwards
abbrev pub bare_tool : Option Tool → Bool → Option Slip
bare_tool None down = None
bare_tool (Some tool) down =
    if down && not (int_eq tool.offset (pos 0)) then Some (slips.NoOffset tool.number) else None

abbrev pub or_else : Option Slip → Option Slip → Option Slip
or_else (Some slip) later = Some slip
or_else None later = later

-- the first of these commands that feeds down without an offset
abbrev pub bare_feed : Reached → List Command → Option Slip
bare_feed r [] = None
bare_feed r (c ∷ cs) =
    or_else (bare_tool r.tool (feeds_down r c.action)) (bare_feed (after r c.action) cs)

abbrev pub without_offset : Offset → Reached → List Command → Option Slip
without_offset offset r cs = if is_applied offset then None else bare_feed r cs

abbrev pub feeds : Action → Bool
feeds (Move m) = is_feed m.pace
feeds _ = false

-- a tool feeds with the offset of the tool with another number, in millionths
abbrev pub stale_tool : List Tool → ℤ → Option Tool → Bool → Option Slip
stale_tool tools number None feeding = None
stale_tool tools number (Some tool) feeding =
    if feeding && is_apart (offset_of tools number) tool
    then Some (slips.StaleOffset number tool.number) else None

-- the first of these commands that feeds with it
abbrev pub stale_feed : List Tool → ℤ → Reached → List Command → Option Slip
stale_feed tools number r [] = None
stale_feed tools number r (c ∷ cs) =
    or_else (stale_tool tools number r.tool (feeds c.action))
    (stale_feed tools number (after r c.action) cs)

abbrev pub with_stale : List Tool → Offset → Reached → List Command → Option Slip
with_stale tools (offsets.Of number) r cs = stale_feed tools number r cs
with_stale tools _ r cs = None

-- ---- from line to line

-- the state before the first line
abbrev pub beginning : MachineFile → Between
beginning machine = record { count = 0; reached = at_start machine; offset = offsets.Off }

-- the commands of the line with this number
abbrev pub given : ℕ → List Command → Between → List Command
given number commands b = take_while (λ c. nat_le c.line number) (drop b.count commands)

-- the state after that line, with these words
abbrev pub passed : ℕ → List Command → Parts → Between → Between
passed number commands said b = record {
  count = b.count + length (given number commands b);
  reached = after_all b.reached (given number commands b);
  offset =
      offset_after (after_all b.reached (given number commands b)).tool b.offset said;
}

-- ---- a line

-- the mistake of this kind in a line with these words and its own commands
abbrev pub slip_in : Kind → List Tool → List Command → Between → List Command → Parts → Between →
    Option Slip
slip_in kinds.Unmounted tools commands before own said after_it =
    option_and_then (unmounted commands) (number_after letters.T said)
slip_in kinds.OtherOffset tools commands before own said after_it =
    wrong_offset after_it.reached.tool said
slip_in kinds.NoOffset tools commands before own said after_it =
    without_offset after_it.offset before.reached own
slip_in kinds.StaleOffset tools commands before own said after_it =
    with_stale tools after_it.offset before.reached own
slip_in kinds.PartHome tools commands before own said after_it = part_home said

-- the line of the last command
abbrev pub last_line : Option Command → ℕ
last_line None = 0
last_line (Some c) = c.line

-- A line is executed if it doesn't come after that of the last command, and block delete doesn't
-- remove it.
abbrev pub is_executed : Bool → List Command → ℕ → Bool → Bool
is_executed deletes commands number deleted =
    nat_le number (last_line (slice_get commands (length commands - 1))) && not (deletes && deleted)

-- the mistake of a kind in a line, and the state after it
pub record Step : Type 0 where
  pub slip : Option Slip
  pub between : Between

-- the mistake in the line with this number, and the state after it
abbrev pub step_taken : Kind → List Tool → List Command → Between → ℕ → Parts → Step
step_taken kind tools commands b number said = record {
  slip = slip_in kind tools commands b (given number commands b) said (passed number commands said b);
  between = passed number commands said b;
}

abbrev pub step_said : Kind → List Tool → Bool → List Command → Between → ℕ → ParsedLine → Step
step_said kind tools deletes commands b number said =
    if is_executed deletes commands number said.deleted
    then step_taken kind tools commands b number said.parts
    else record { slip = None; between = b }

abbrev pub step_read : Kind → List Tool → Bool → List Command → Between → ℕ →
    Result ParsedLine LineFault → Step
step_read kind tools deletes commands b number (Ok said) = step_said kind tools deletes commands b number said
step_read kind tools deletes commands b number (Err fault) = record { slip = None; between = b }

-- ---- over a program

abbrev pub found_in : ℕ → Option Slip → List Found
found_in number None = []
found_in number (Some slip) = record { line = number; slip = slip } ∷ []

abbrev pub step_of : Kind → List Tool → Bool → List Command → Between → Line → Step
step_of kind tools deletes commands b l =
    step_read kind tools deletes commands b l.number (line_read l.bytes)

-- the mistakes of a kind in these lines, in order; the commands are those of the whole program
abbrev pub all_found : Kind → List Tool → Bool → List Command → Between → List Line → List Found
all_found kind tools deletes commands b [] = []
all_found kind tools deletes commands b (l ∷ ls) =
    found_in l.number (step_of kind tools deletes commands b l).slip
    ++ all_found kind tools deletes commands (step_of kind tools deletes commands b l).between ls

-- the first and the number of all, or none
abbrev pub slips_among : List Found → Option Slips
slips_among [] = None
slips_among (f ∷ fs) = Some (record { first = f; count = length (f ∷ fs) })

abbrev pub slips_of : Kind → List Tool → Bool → MachineFile → List Command → List Line →
    Option Slips
slips_of kind tools deletes machine commands lines =
    slips_among (all_found kind tools deletes commands (beginning machine) lines)

-- ---- the count of mistakes

-- the count with one more line
abbrev pub counted : Option Slips → ℕ → Option Slip → Option Slips
counted found number None = found
counted None number (Some slip) =
    Some (record { first = record { line = number; slip = slip }; count = 1 })
counted (Some s) number (Some slip) = Some (record s { count = s.count + 1 })

-- the count with later mistakes
abbrev pub with_later : Option Slips → List Found → Option Slips
with_later None fs = slips_among fs
with_later (Some s) fs = Some (record s { count = s.count + length fs })

abbrev pub count_of : Option Slips → ℕ
count_of None = 0
count_of (Some s) = s.count

-- ---- the mistakes of all kinds

-- the mistake of a kind in a line
abbrev pub slip_of_kind : Kind → LineSlips → Option Slip
slip_of_kind kinds.Unmounted s = s.unmounted
slip_of_kind kinds.OtherOffset s = s.other_offset
slip_of_kind kinds.NoOffset s = s.no_offset
slip_of_kind kinds.StaleOffset s = s.stale_offset
slip_of_kind kinds.PartHome s = s.part_home

abbrev pub step_of_kind : Kind → LineStep → Step
step_of_kind kind s = record { slip = slip_of_kind kind s.slips; between = s.between }

-- those of a kind in a program
abbrev pub slips_of_kind : Kind → AllSlips → Option Slips
slips_of_kind kinds.Unmounted s = s.unmounted
slips_of_kind kinds.OtherOffset s = s.other_offset
slips_of_kind kinds.NoOffset s = s.no_offset
slips_of_kind kinds.StaleOffset s = s.stale_offset
slips_of_kind kinds.PartHome s = s.part_home
