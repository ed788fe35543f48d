-- Worked programs, by evaluating the definitions: the lines about their boxes. Lengths are in
-- nanometres.
use Rattle.std.proofs.Common.{◌≡◌, ℕ, ℤ, pos, negsuc, List, [], ◌∷◌, false, Option, Some, None, refl}
use Rattle.std.specs.Fmt.{digits}
use Rattle.std.specs.Prelude.{codes, replicate}
use Rattle.ngc_text.specs.Millimetres.{number_text}
use Rattle.ngc_fixed_length.specs.Places.{zero_point}
use Rattle.ngc_fixed_length.specs.declared.modes.System.{System}
use Rattle.ngc_fixed_length.specs.declared.modes.System.TheVariants.{First, Second}
use Rattle.ngc_fixed_length.specs.declared.points.Point3.{Point3}
use Rattle.ngc_fixed_length.specs.declared.units.Units.TheVariants.{Millimetres}
use Rattle.ngc_offsets.specs.declared.fault.CoordinateRange.TheVariants.{Near}
use Rattle.ngc_machine_files.specs.Machine.{MachineFile, built_in_machine}
use Rattle.ngc_machine_files.specs.declared.machine.Fixture.{Fixture}
use Rattle.ngc_machine_files.specs.declared.machine.StockBox.{StockBox}
use Rattle.ngc_machine_files.specs.declared.tools.Tool.{Tool}
use Rattle.ngc_commands.specs.declared.command.Action.{Action}
use Rattle.ngc_commands.specs.declared.command.Action.TheVariants.{Move, Mount, End}
use Rattle.ngc_commands.specs.declared.command.Command.{Command}
use Rattle.ngc_commands.specs.declared.movement.Feed.TheVariants.{PerMinute}
use Rattle.ngc_commands.specs.declared.movement.Pace.{Pace}
use Rattle.ngc_commands.specs.declared.movement.Pace.TheVariants.{Rapid, Feed}
use Rattle.ngc_commands.specs.declared.movement.Way.TheVariants.{Line}
use Rattle.ngc_frames.specs.Words.{system_text}
use Rattle.ngc_frames.specs.declared.change.FrameChange.{FrameChange}
use Rattle.ngc_frames.specs.declared.frame.Frame.{Frame}
use Rattle.ngc_report.specs.Words.{bracketed}
use Rattle.ngc_report.specs.declared.form.Form.TheVariants.{Words, Json}
use Rattle.ngc_length_warnings.specs.BoxTexts.{box_warnings, cut_facts, cut_words, each_words, first_fact, lower_words, more_words, number_words}

abbrev point : ℤ → ℤ → Point3
point x z = record { x = x; y = pos 0; z = z }

abbrev command : ℕ → Action → Command
command line action = record { line = line; action = action }

abbrev move : ℕ → Pace → Point3 → Point3 → Command
move line pace start end = command line (Move (record { way = Line start end; pace = pace; stop = false }))

abbrev slow : Pace
slow = Feed (PerMinute 200000000)

-- down at traverse, up at a feed, down at a feed and aside at a feed
abbrev slot : Tool → List Command
slot tool =
    command 1 (Mount (Some tool)) ∷
    move 2 Rapid (point (pos 0) (pos 0)) (point (pos 0) (negsuc 2999999)) ∷
    move 3 slow (point (pos 0) (negsuc 2999999)) (point (pos 0) (pos 0)) ∷
    move 4 slow (point (pos 0) (pos 0)) (point (pos 0) (negsuc 999999)) ∷
    move 6 slow (point (pos 0) (negsuc 999999)) (point (pos 50000000) (negsuc 999999)) ∷
    command 7 End ∷ []

-- it reaches 38 mm below the spindle nose
abbrev mill : Tool
mill = record { number = 1; offset = pos 0; bottom = negsuc 37999999; parts = []; name = [] }

abbrev frame : System → ℤ → Frame
frame system length = record {
  frames = record {
    origins = replicate 9 zero_point;
    active = system;
    axis_offset = zero_point;
    saved = zero_point;
    length = length;
    reach = Near;
  };
  unit = Millimetres;
}

-- line 5 selects G55
abbrev second_from_line_5 : ℤ → List FrameChange
second_from_line_5 length = record { line = 5; command = 4; frame = frame Second length } ∷ []

abbrev clamp : List ℕ → ℕ → Fixture
clamp name system = record { low = point (pos 0) (negsuc 9999999); high = point (pos 9000000) (pos 0); name = name; system = system }

abbrev block : ℕ → Option StockBox
block system = Some (record { system = system; low = point (pos 0) (negsuc 9999999); high = point (pos 9000000) (pos 0) })

-- the first fixture is in machine coordinates
abbrev shop : List Fixture → Option StockBox → MachineFile
shop fixtures stock = record built_in_machine { fixtures = fixtures; stock = stock }

abbrev clamped : MachineFile
clamped = shop (clamp [] 0 ∷ clamp (codes "left clamp") 1 ∷ clamp [] 2 ∷ clamp [] 1 ∷ []) (block 2)

-- two clamps count from G54, where line 4 cuts; the block counts from G55, where line 6 does
in_words : box_warnings Words clamped (frame First (pos 0)) (second_from_line_5 (pos 0)) (slot mill) ≡ codes "warning: fixture 1 (left clamp) and 1 more count from G54, but line 4 cuts there without a tool length offset. If the part was touched off with tool 1, each fixture is 38 mm lower than it is tested: write its corners that much lower, in machine coordinates.\nwarning: the block of material counts from G55, but line 6 cuts there without a tool length offset. If the part was touched off with tool 1, the block is 38 mm lower than it is tested: write its corners that much lower, in machine coordinates.\n"
unfolding digits number_text system_text bracketed number_words more_words each_words cut_words lower_words
in_words = refl

in_facts : box_warnings Json clamped (frame First (pos 0)) (second_from_line_5 (pos 0)) (slot mill) ≡ codes ",\n{\"fact\":\"warning\",\"text\":\"a fixture counts from a system in which the program cuts without a tool length offset\",\"count\":2,\"fixture\":1,\"line\":4,\"system\":\"G54\",\"tool\":1,\"lower\":38000000},\n{\"fact\":\"warning\",\"text\":\"the block of material counts from a system in which the program cuts without a tool length offset\",\"line\":6,\"system\":\"G55\",\"tool\":1,\"lower\":38000000}"
unfolding digits system_text first_fact cut_facts
in_facts = refl

-- one fixture, in G55: the first cut there is in line 6
alone : box_warnings Words (shop (clamp [] 2 ∷ []) None) (frame First (pos 0)) (second_from_line_5 (pos 0)) (slot mill) ≡ codes "warning: fixture 0 counts from G55, but line 6 cuts there without a tool length offset. If the part was touched off with tool 1, the fixture is 38 mm lower than it is tested: write its corners that much lower, in machine coordinates.\n"
unfolding digits number_text system_text bracketed number_words more_words each_words cut_words lower_words
alone = refl

-- boxes in machine coordinates, or counted from a system in which nothing is cut
elsewhere : box_warnings Words (shop (clamp [] 0 ∷ clamp [] 3 ∷ []) (block 0)) (frame First (pos 0)) (second_from_line_5 (pos 0)) (slot mill) ≡ []
elsewhere = refl

-- the length is in force, also that of another tool
with_length : box_warnings Words clamped (frame First (pos 38000000)) (second_from_line_5 (pos 5000000)) (slot mill) ≡ []
with_length = refl

-- the tip is the spindle nose
no_reach : box_warnings Words clamped (frame First (pos 0)) (second_from_line_5 (pos 0)) (slot (record mill { bottom = pos 0 })) ≡ []
no_reach = refl

-- no tool is mounted
no_tool : box_warnings Words clamped (frame First (pos 0)) [] (move 1 slow (point (pos 0) (pos 0)) (point (pos 0) (negsuc 999999)) ∷ []) ≡ []
no_tool = refl
