-- Texts with computed results: a machine file, a note, options, and the settings of a controller
-- with Grbl.
use Rattle.std.proofs.Common.{◌≡◌, ℕ, ◌++◌, List, Some, None, refl}
use Rattle.std.specs.Fmt.{digits}
use Rattle.std.specs.Prelude.{Bool, Ok, Err, codes, pos, neg_ℤ, true, false}
use Rattle.ngc_text.specs.Millimetres.{number_text, length_text}
use Rattle.ngc_machine_maker.specs.declared.figures.Axis.TheVariants as axes
use Rattle.ngc_machine_maker.specs.declared.figures.End.TheVariants as ends
use Rattle.ngc_machine_maker.specs.declared.numbers.MachineNumbers.{MachineNumbers}
use Rattle.ngc_machine_maker.specs.declared.refusal.Field.TheVariants as fields
use Rattle.ngc_machine_maker.specs.declared.refusal.FigureRefusal.TheVariants as refusals
use Rattle.ngc_machine_maker.specs.declared.refusal.Stop.TheVariants as stops
use Rattle.ngc_machine_maker.specs.declared.refusal.Stored.TheVariants as places
use Rattle.ngc_machine_maker.specs.Choices.{place_in, ring_in}
use Rattle.ngc_machine_maker.specs.Decimals.{number_in}
use Rattle.ngc_machine_maker.specs.File.{heading, scale_text, scale_after, steps_text, errors_text}
use Rattle.ngc_machine_maker.specs.File.{step_lines, speed_lines, joint_lines, corner_comment, jump_comment}
use Rattle.ngc_machine_maker.specs.File.{acceleration_lines, ring_lines, arc_feed_comment, arc_feed_lines, place_lines, grbl_lines, dialect_lines}
use Rattle.ngc_machine_maker.specs.File.{file_text, notes_text}
use Rattle.ngc_grbl_lines.specs.Lines.{lines_of}
use Rattle.ngc_grbl_lines.specs.Entries.{content, after_dollar, after_number, setting_number, setting_value, place_text, place_name, place_values}
use Rattle.ngc_machine_maker.specs.DumpLines.{supplied_lines, axis_defaults, offset_after}
use Rattle.ngc_machine_maker.specs.Grbl.{has_setting, value_in, setting, figures_in}
use Rattle.ngc_machine_maker.specs.declared.figures.PlaceForm.{PlaceForm}
use Rattle.ngc_machine_maker.specs.Stored.{stored_text, stored_in, place}
use Rattle.ngc_machine_maker.specs.Options.{lengths_in, motors_in, speeds_in, second_speed_in, frame_in}
use Rattle.ngc_machine_maker.specs.Sentences.{refusal_text, refusal_line, axis_text, stop_text, value_text as mistake_text, unequal_text}
use Rattle.ngc_machine_maker.specs.Texts.{line_text, value_text, remark_text}
use Rattle.ngc_machine_maker.proofs.Examples.{three, mm, mm_a_minute, motor, same_motors, small_router, large_router}

-- ---- the file of the small router, and the note of the large one

abbrev small_numbers : MachineNumbers
small_numbers = record {
  step = 1250;
  ticks_per_second = 27000;
  max_rate = 493827;
  change = 21;
  changes = three 32 32 21;
  corner = 59259;
  turn = 21947873;
  turns = three 32921810 32921810 21947873;
  axis_rate = three 493827 493827 296296;
  jump = 59259;
  ring = 256;
  arc_feed = true;
  low = three (pos 0) (pos 0) (neg_ℤ (pos 45000000));
  high = three (pos 300000000) (pos 180000000) (pos 0);
  start = three (pos 0) (pos 0) (pos 0);
  home28 = three (pos 0) (pos 0) (pos 0);
  home30 = three (pos 0) (pos 0) (pos 0);
}

-- 21 millionths per tick at 27,000 ticks per second are 15,309 steps per second squared: 19.136
-- mm/s^2. 59,259 millionths of a step of 1,250 nm per tick are 119.999475 mm/min
file_of_a_small_router : file_text small_numbers small_router ≡ codes "# Made by `ngc machine`. Lengths are nanometres, rates are millionths of a step in a\n# tick, three numbers are X, Y, Z, and remarks are in the units of a shop.\n\nversion = 2\nstep = 1250 # 0.00125 mm\nticks_per_second = 27000 # how often the controller may make steps\nmax_rate = 493827 # 1000 mm/min\naxis_rate = [493827, 493827, 296296] # X 1000, Y 1000, Z 599.999 mm/min\n# `corner`: motions may meet at this speed at any angle. By default it is what the axis\n# with the least acceleration reaches in 5 ms, and at least 2 mm/s.\ncorner = 59259 # 119.999 mm/min\n# `jump`: an axis may gain or lose this speed at once where motions meet. At the machine\n# start with half of it, raise it until you hear lost steps, and keep two thirds.\njump = 59259 # 119.999 mm/min\nchange = 21 # 19.136 mm/s^2\nturn = 21947873 # 20 mm/s^2 on arcs, up to twice that while slowing down\n# `ring`: the controller looks ahead over this many. If short lines are slow, try 1024.\nring = 256 # how many commands are loaded and not done at most\n# `arc_feed`: if arcs run roughly, try 0 here and half of `turn`. Then they are slower.\narc_feed = 2 # arcs run at their feed and their turn at every place\nlow = [0, 0, -45000000] # X 0, Y 0, Z -45 mm\nhigh = [300000000, 180000000, 0] # X 300, Y 180, Z 0 mm\nstart = [0, 0, 0] # X 0, Y 0, Z 0 mm\nhome28 = [0, 0, 0] # X 0, Y 0, Z 0 mm\nhome30 = [0, 0, 0] # X 0, Y 0, Z 0 mm\n"
unfolding digits number_text length_text heading scale_after supplied_lines axis_defaults offset_after step_lines speed_lines joint_lines corner_comment jump_comment acceleration_lines ring_lines arc_feed_comment place_lines line_text value_text remark_text
file_of_a_small_router = refl

-- another ring, and no line without arcs at their feed
lines_of_a_ring : ring_lines 64 ≡ codes "# `ring`: the controller looks ahead over this many. If short lines are slow, try 1024.\nring = 64 # how many commands are loaded and not done at most\n"
unfolding digits ring_lines line_text value_text remark_text
lines_of_a_ring = refl

no_lines_of_arcs : arc_feed_lines false ≡ codes ""
no_lines_of_arcs = refl

-- the language of programs for GRBL
lines_of_grbl : dialect_lines true ≡ codes "# `dialect`: programs are read as GRBL reads them. Without this key they must be in ngc's\n# own language (docs/CAM.md).\ndialect = \"grbl\"\n"
unfolding grbl_lines
lines_of_grbl = refl

no_lines_of_a_dialect : dialect_lines false ≡ codes ""
no_lines_of_a_dialect = refl

no_note_of_a_small_router : notes_text true small_numbers small_router ≡ codes ""
unfolding scale_after offset_after
no_note_of_a_small_router = refl

-- 799.996932 mm in steps of 5,292 nm are 151,171 steps, which the motor makes 799.948141 mm long
note_of_a_large_router : notes_text true (record small_numbers {
  step = 5292;
  low = three (pos 0) (pos 0) (pos 0);
  high = three (pos 799996932) (pos 599996376) (pos 99997632);
}) large_router ≡ codes "note: the motors' step is 5291.677 nm, and the file's 5292 nm: over their travel the axes go X 0.048791, Y 0.036593, Z 0.006099 mm less far than the file says\n"
unfolding digits number_text scale_after offset_after scale_text steps_text errors_text
note_of_a_large_router = refl

-- a file of version 3 has the motors' own steps
no_note_without_rates : notes_text false (record small_numbers { step = 5292 }) large_router ≡ codes ""
unfolding offset_after
no_note_without_rates = refl

-- a note speaks of one step that serves all motors
no_note_of_unequal_motors : notes_text true (record small_numbers { step = 5292 }) (record large_router { motors = three (motor 40000000) (motor 40000000) (motor 188976000) }) ≡ codes ""
unfolding scale_after offset_after
no_note_of_unequal_motors = refl

-- ---- options

decimal_number : number_in 6 (codes "188.976") ≡ Some 188976000
unfolding number_in
decimal_number = refl

number_without_a_whole : number_in 3 (codes ".5") ≡ Some 500
unfolding number_in
number_without_a_whole = refl

too_many_decimals : number_in 3 (codes "1.0005") ≡ None
unfolding number_in
too_many_decimals = refl

motors_of_one_number : motors_in (codes "188.976") ≡ Ok (same_motors 188976000)
unfolding number_in
motors_of_one_number = refl

motors_of_three_numbers : motors_in (codes "100,100,400") ≡ Ok (three (motor 100000000) (motor 100000000) (motor 400000000))
unfolding number_in
motors_of_three_numbers = refl

motors_of_two_numbers : motors_in (codes "100,400") ≡ Err (refusals.Unread fields.Steps)
unfolding number_in
motors_of_two_numbers = refl

two_points : number_in 6 (codes "1.2.3") ≡ None
unfolding number_in
two_points = refl

negative_number : number_in 6 (codes "-1") ≡ None
unfolding number_in
negative_number = refl

large_number : number_in 6 (codes "4294.967296") ≡ None
unfolding number_in
large_number = refl

three_lengths : lengths_in fields.Travel (codes "300,180,45") ≡ Ok (three (mm 300) (mm 180) (mm 45))
unfolding number_in
three_lengths = refl

two_lengths : lengths_in fields.Travel (codes "300,180") ≡ Err (refusals.Unread fields.Travel)
unfolding number_in
two_lengths = refl

four_speeds : speeds_in fields.Feed (codes "1000,1000,600,1") ≡ Err (refusals.Unread fields.Feed)
unfolding number_in
four_speeds = refl

-- 5 mm/s are 300 mm/min
corner_speed : second_speed_in fields.Corner (codes "5") ≡ Ok (mm_a_minute 300)
unfolding number_in
corner_speed = refl

ring_of_64 : ring_in (codes "64") ≡ Ok 64
unfolding number_in
ring_of_64 = refl

part_of_a_command : ring_in (codes "64.5") ≡ Err (refusals.Unread fields.Ring)
unfolding number_in
part_of_a_command = refl

frame_of_low_ends : frame_in (codes "low") ≡ Ok (three ends.Low ends.Low ends.Low)
frame_of_low_ends = refl

start_below_zero : place_in (three ends.Low ends.Low ends.High) stops.Start (codes "10,0,-1") ≡ Ok (three (mm 10) (mm 0) (mm 1))
unfolding number_in
start_below_zero = refl

start_above_zero : place_in (three ends.Low ends.Low ends.High) stops.Start (codes "10,0,1") ≡ Err (refusals.Unread (fields.Stop stops.Start))
unfolding number_in
start_above_zero = refl

-- ---- settings: X and Y home to their low ends, at which the start is 1 mm from -300 and -180

abbrev settings_of_feed : List ℕ
settings_of_feed = codes "$110=1000.000\n$111=1000.000\n$112=600.000\n$120=30.000\n$121=30.000\n$122=20.000\n$130=300.000\n$131=180.000\n$132=45.000\nok\n"

figures_of_settings : figures_in true (codes "Grbl 1.1f ['$' for help]\n$23=3 (homing dir mask)\r\n$27=1.000\r\n$100=800.000 (x, step/mm)\n$101=800.000\n$102=800.000\n" ++ settings_of_feed)
    ≡ Ok (record small_router {
      grbl = true;
      zero = three ends.High ends.High ends.High;
      start = three (mm 299) (mm 179) (mm 1);
    })
unfolding lines_of content after_dollar after_number setting_number setting_value place_text place_name place_values stored_text has_setting value_in setting place number_in
figures_of_settings = refl

-- belts of 100 steps a millimetre on X and Y and a screw of 400 on Z: the path has the grid of Z
unequal_settings : figures_in true (codes "$23=3\n$27=1.000\n$100=100.000\n$101=100.000\n$102=400.000\n" ++ settings_of_feed)
    ≡ Ok (record small_router {
      scale = record { steps = 400000000; per = 1000000000000 };
      motors = three (motor 100000000) (motor 100000000) (motor 400000000);
      grbl = true;
      zero = three ends.High ends.High ends.High;
      start = three (mm 299) (mm 179) (mm 1);
    })
unfolding lines_of content after_dollar after_number setting_number setting_value place_text place_name place_values stored_text has_setting value_in setting place number_in
unequal_settings = refl

missing_setting : figures_in true (codes "$23=3\n$27=1.000\n$100=800.000\n$101=800.000\n" ++ settings_of_feed) ≡ Err (refusals.Missing 102)
unfolding lines_of content after_dollar after_number setting_number setting_value has_setting value_in setting number_in
missing_setting = refl

negative_setting : setting (codes "[12:30:01] $130 = -300.000 (x)\n") 130 6 ≡ Err (refusals.Negative 130 1)
unfolding lines_of content after_dollar after_number setting_number setting_value has_setting value_in setting number_in
negative_setting = refl

setting_after_a_time : setting (codes "; $27=2\n[12:30:01] >>> $27 = 1.000 (pull-off)\n$27=3\n") 27 6 ≡ Ok (Some 1000000)
unfolding lines_of content after_dollar after_number setting_number setting_value has_setting value_in setting number_in
setting_after_a_time = refl

-- -2.3622 inches are -59.99988 mm
abbrev pub in_form : Bool → Bool → PlaceForm
in_form inches far = record { inches = inches; far = far }

place_in_millimetres : stored_in (in_form false false) (codes "-60.000,-80.000,25.500") ≡ Some (three (neg_ℤ (pos 60000000)) (neg_ℤ (pos 80000000)) (pos 25500000))
unfolding number_in stored_in
place_in_millimetres = refl

place_in_inches : stored_in (in_form true false) (codes "-2.3622,0.0000,1.0000,0.5000") ≡ Some (three (neg_ℤ (pos 59999880)) (pos 0) (pos 25400000))
unfolding number_in stored_in
place_in_inches = refl

place_after_a_time : place (codes "[G54:0.000,0.000,0.000]\n[12:30:01] [G28:1.000,2.000,-3.000]\n") (in_form false false) places.G28 ≡ Ok (Some (three (pos 1000000) (pos 2000000) (neg_ℤ (pos 3000000))))
unfolding lines_of content place_text place_name place_values stored_text stored_in place number_in
place_after_a_time = refl

-- a metre and a half is far
near_place : stored_in (in_form false false) (codes "-1500.000,0.000,0.000") ≡ None
unfolding number_in stored_in
near_place = refl

far_place : stored_in (in_form false true) (codes "-1500.000,0.000,0.000") ≡ Some (three (neg_ℤ (pos 1500000000)) (pos 0) (pos 0))
unfolding number_in stored_in
far_place = refl

setting_with_a_comma : figures_in true (codes "$23=3\n$100=800,000\n") ≡ Err (refusals.Setting 100 2)
unfolding lines_of content after_dollar after_number setting_number setting_value place_text place_name place_values stored_text has_setting value_in setting place number_in
setting_with_a_comma = refl

-- ---- the texts of refusals

sentence_of_a_place : refusal_line (refusals.Outside stops.Home28 axes.Z) ≡ codes "home28 is outside the travel of Z: give a place within it\n"
unfolding refusal_text axis_text stop_text
sentence_of_a_place = refl

sentence_of_a_setting : refusal_line (refusals.Setting 100 2) ≡ codes "line 2: the value of $100 is not a number, as in $100=800.000\n"
unfolding digits refusal_text mistake_text
sentence_of_a_setting = refl

sentence_of_unequal_steps : refusal_line (refusals.UnequalSteps (three (motor 80000000) (motor 80000000) (motor 188947000)))
    ≡ codes "the motors have 80, 80 and 188.947 steps a mm, and with --rates one step serves all axes: leave out --rates\n"
unfolding digits number_text refusal_text unequal_text
sentence_of_unequal_steps = refl
