-- Figures of three machines, and figures that are refused. The expected values are computed with
-- the longer of the file's step and the motor's.
use Rattle.std.proofs.Common.{◌≡◌, ℕ, ◌*◌, Some, None, refl}
use Rattle.std.specs.Prelude.{pos, neg_ℤ, Ok, Err, true, false}
use Rattle.ngc_machine_maker.specs.declared.figures.Acceleration.{Acceleration}
use Rattle.ngc_machine_maker.specs.declared.figures.Axis.TheVariants as axes
use Rattle.ngc_machine_maker.specs.declared.figures.End.TheVariants as ends
use Rattle.ngc_machine_maker.specs.declared.figures.Figures.{Figures}
use Rattle.ngc_machine_maker.specs.declared.figures.Length.{Length}
use Rattle.ngc_machine_maker.specs.declared.figures.PerAxis.{PerAxis}
use Rattle.ngc_machine_maker.specs.declared.figures.Speed.{Speed}
use Rattle.ngc_machine_maker.specs.declared.figures.StepsPerMillimetre.{StepsPerMillimetre}
use Rattle.ngc_machine_maker.specs.declared.refusal.FigureRefusal.TheVariants as refusals
use Rattle.ngc_machine_maker.specs.declared.refusal.Stop.TheVariants as stops
use Rattle.ngc_machine_maker.specs.Formulas.{nearest_step, no_dump}
use Rattle.ngc_machine_maker.specs.Motors.{checked_motors, finest}
use Rattle.ngc_machine_maker.specs.Numbers.{numbers_of, ring_of}
use Rattle.ngc_machine_maker.specs.Options.{usual_corner}

abbrev pub three : {T : Type 0} → T → T → T → PerAxis T
three x y z = record { x = x; y = y; z = z }

-- steps per millimetre, in millionths
abbrev pub motor : ℕ → StepsPerMillimetre
motor n = record { millionths = n }

abbrev pub same_motors : ℕ → PerAxis StepsPerMillimetre
same_motors n = three (motor n) (motor n) (motor n)

-- in whole millimetres, millimetres per minute, and millimetres per second squared
abbrev pub mm : ℕ → Length
mm n = record { nanometres = n * 1000000 }

abbrev pub mm_a_minute : ℕ → Speed
mm_a_minute n = record { nanometres_a_minute = n * 1000000 }

abbrev pub mm_a_second_squared : ℕ → Acceleration
mm_a_second_squared n = record { nanometres_a_second_squared = n * 1000000 }

-- 800 mm/s^2 reach 4 mm/s in 5 ms, which is 240 mm/min; 401 mm/s^2 reach 2.005 mm/s. 400 mm/s^2 reach
-- 2 mm/s, and so does the corner with any smaller acceleration
corner_by_acceleration : usual_corner (three (mm_a_second_squared 1000) (mm_a_second_squared 800) (mm_a_second_squared 900)) ≡ mm_a_minute 240
corner_by_acceleration = refl

corner_above_the_least : (usual_corner (three (mm_a_second_squared 401) (mm_a_second_squared 401) (mm_a_second_squared 401))).nanometres_a_minute ≡ 120300000
corner_above_the_least = refl

least_corner : usual_corner (three (mm_a_second_squared 400) (mm_a_second_squared 400) (mm_a_second_squared 400)) ≡ mm_a_minute 120
least_corner = refl

corner_of_a_slow_machine : usual_corner (three (mm_a_second_squared 30) (mm_a_second_squared 30) (mm_a_second_squared 20)) ≡ mm_a_minute 120
corner_of_a_slow_machine = refl

-- 188.976 steps per millimetre are steps of 5,291.677 nm; 20 turns per inch with 1,600 steps per
-- turn are 1259.84252 steps per millimetre, and steps of 793.75 nm
nearest_of_188_976 : nearest_step 188976000 1000000000000 ≡ 5292
nearest_of_188_976 = refl

nearest_of_20_turns_an_inch : nearest_step 1259842520 1000000000000 ≡ 794
nearest_of_20_turns_an_inch = refl

nearest_of_800 : nearest_step 800000000 1000000000000 ≡ 1250
nearest_of_800 = refl

-- A small router with 800 steps per millimetre, 300 by 180 by 45 mm. 1,000 mm/min are 13,333.3
-- steps per second, so 27,000 ticks, of which a step takes 0.493827. 20 mm/s^2 are 16,000 steps per
-- second squared, over 27,000 twice 21.95 millionths; 30 mm/s^2 are 32.92. In 5 ms they reach 0.1 mm/s, so the corner has
-- 2 mm/s: 1,600 steps per second, over 27,000 0.059259. The jump has the same rate.
abbrev pub small_router : Figures
small_router = record {
  scale = record { steps = 800000000; per = 1000000000000 };
  motors = same_motors 800000000;
  travel = three (mm 300) (mm 180) (mm 45);
  feed = three (mm_a_minute 1000) (mm_a_minute 1000) (mm_a_minute 600);
  acceleration = three (mm_a_second_squared 30) (mm_a_second_squared 30) (mm_a_second_squared 20);
  corner = usual_corner (three (mm_a_second_squared 30) (mm_a_second_squared 30) (mm_a_second_squared 20));
  jump = None;
  arcs = None;
  ticks = None;
  ring = 256;
  arc_feed = true;
  far = true;
  grbl = false;
  zero = three ends.Low ends.Low ends.High;
  start = three (mm 0) (mm 0) (mm 0);
  home28 = None;
  home30 = None;
  dump = no_dump;
}

numbers_of_a_small_router : numbers_of small_router ≡ Ok (record {
  step = 1250;
  ticks_per_second = 27000;
  max_rate = 493827;
  change = 21;
  changes = three 32 32 21;
  corner = 59259;
  turn = 21947873;
  turns = three 32921810 32921810 21947873;
  axis_rate = three 493827 493827 296296;
  jump = 59259;
  ring = 256;
  arc_feed = true;
  low = three (pos 0) (pos 0) (neg_ℤ (pos 45000000));
  high = three (pos 300000000) (pos 180000000) (pos 0);
  start = three (pos 0) (pos 0) (pos 0);
  home28 = three (pos 0) (pos 0) (pos 0);
  home30 = three (pos 0) (pos 0) (pos 0);
})
numbers_of_a_small_router = refl

-- A mill with screws of 20 turns per inch and motors of 200 steps per turn at 8 microsteps, 220 by
-- 127 by 159 mm, with zero at the high ends and a start 1 mm from there. The file's step of 794 nm
-- is longer than the motor's: X has 277,078 steps of it, 219.999932 mm.
abbrev bench_mill : Figures
bench_mill = record {
  scale = record { steps = 1259842520; per = 1000000000000 };
  motors = same_motors 1259842520;
  travel = three (mm 220) (mm 127) (mm 159);
  feed = three (mm_a_minute 558) (mm_a_minute 558) (mm_a_minute 400);
  acceleration = three (mm_a_second_squared 50) (mm_a_second_squared 50) (mm_a_second_squared 50);
  corner = mm_a_minute 300;
  jump = Some (mm_a_minute 0);
  arcs = None;
  ticks = None;
  ring = 16;
  arc_feed = false;
  far = false;
  grbl = false;
  zero = three ends.High ends.High ends.High;
  start = three (mm 1) (mm 1) (mm 1);
  home28 = Some (three (mm 0) (mm 0) (mm 0));
  home30 = None;
  dump = no_dump;
}

numbers_of_a_bench_mill : numbers_of bench_mill ≡ Ok (record {
  step = 794;
  ticks_per_second = 24000;
  max_rate = 488035;
  change = 109;
  changes = three 109 109 109;
  corner = 262384;
  turn = 54663448;
  turns = three 54663448 54663448 54663448;
  axis_rate = three 488035 488035 349846;
  jump = 0;
  ring = 16;
  arc_feed = false;
  low = three (neg_ℤ (pos 219999932)) (neg_ℤ (pos 126999506)) (neg_ℤ (pos 158999294));
  high = three (pos 0) (pos 0) (pos 0);
  start = three (neg_ℤ (pos 999646)) (neg_ℤ (pos 999646)) (neg_ℤ (pos 999646));
  home28 = three (pos 0) (pos 0) (pos 0);
  home30 = three (neg_ℤ (pos 999646)) (neg_ℤ (pos 999646)) (neg_ℤ (pos 999646));
})
numbers_of_a_bench_mill = refl

-- A large router with 188.976 steps per millimetre, 800 by 600 by 100 mm, at 40,000 ticks per
-- second, with its start at the top of Z, a ring of 64 commands, and arcs at their feed.
abbrev pub large_router : Figures
large_router = record {
  scale = record { steps = 188976000; per = 1000000000000 };
  motors = same_motors 188976000;
  travel = three (mm 800) (mm 600) (mm 100);
  feed = three (mm_a_minute 10000) (mm_a_minute 10000) (mm_a_minute 5000);
  acceleration = three (mm_a_second_squared 200) (mm_a_second_squared 200) (mm_a_second_squared 150);
  corner = mm_a_minute 600;
  jump = Some (mm_a_minute 1200);
  arcs = Some (mm_a_second_squared 300);
  ticks = Some 40000;
  ring = 64;
  arc_feed = true;
  far = false;
  grbl = false;
  zero = three ends.Low ends.Low ends.Low;
  start = three (mm 0) (mm 0) (mm 100);
  home28 = None;
  home30 = None;
  dump = no_dump;
}

numbers_of_a_large_router : numbers_of large_router ≡ Ok (record {
  step = 5292;
  ticks_per_second = 40000;
  max_rate = 787351;
  change = 17;
  changes = three 23 23 17;
  corner = 47241;
  turn = 35430839;
  turns = three 35430839 35430839 35430839;
  axis_rate = three 787351 787351 393675;
  jump = 94482;
  ring = 64;
  arc_feed = true;
  low = three (pos 0) (pos 0) (pos 0);
  high = three (pos 799996932) (pos 599996376) (pos 99997632);
  start = three (pos 0) (pos 0) (pos 99997632);
  home28 = three (pos 0) (pos 0) (pos 99997632);
  home30 = three (pos 0) (pos 0) (pos 99997632);
})
numbers_of_a_large_router = refl

-- 10 steps per millimetre are steps of 100,000 nm, and 2,100 are steps of 476 nm
long_step : numbers_of (record large_router { scale = record { steps = 10000000; per = 1000000000000 } }) ≡ Err refusals.Step
long_step = refl

short_step : numbers_of (record large_router { scale = record { steps = 2100000000; per = 1000000000000 } }) ≡ Err refusals.Step
short_step = refl

-- 10,000 mm/min are 31,496 steps per second: more than 30,000 ticks
few_ticks : numbers_of (record large_router { ticks = Some 30000 }) ≡ Err (refusals.FastFeed axes.X)
few_ticks = refl

long_travel : numbers_of (record large_router { travel = three (mm 800) (mm 1001) (mm 100) }) ≡ Err (refusals.Travel axes.Y)
long_travel = refl

-- in a file of version 3 a travel has at most 3,999 mm
abbrev far_router : ℕ → Figures
far_router y = record large_router { travel = three (mm 1300) (mm y) (mm 100); far = true }

far_travel : numbers_of (far_router 4000) ≡ Err (refusals.FarTravel axes.Y)
far_travel = refl

start_outside : numbers_of (record large_router { start = three (mm 0) (mm 0) (mm 101) }) ≡ Err (refusals.Outside stops.Start axes.Z)
start_outside = refl

-- a ring of 16 commands is the least, and one of 1,024 the greatest
least_ring : ring_of 16 ≡ Ok 16
least_ring = refl

short_ring : numbers_of (record large_router { ring = 15 }) ≡ Err refusals.Ring
short_ring = refl

greatest_ring : ring_of 1024 ≡ Ok 1024
greatest_ring = refl

long_ring : numbers_of (record large_router { ring = 1025 }) ≡ Err refusals.Ring
long_ring = refl

-- ---- motors

-- 400 steps per millimetre are the finest, wherever they are
finest_on_z : finest (three (motor 100000000) (motor 100000000) (motor 400000000)) ≡ motor 400000000
finest_on_z = refl

finest_on_x : finest (three (motor 400000000) (motor 40000000) (motor 100000000)) ≡ motor 400000000
finest_on_x = refl

unequal_with_rates : checked_motors true (three (motor 100000000) (motor 100000000) (motor 400000000)) ≡ Err (refusals.UnequalSteps (three (motor 100000000) (motor 100000000) (motor 400000000)))
unequal_with_rates = refl

unequal_without_rates : checked_motors false (three (motor 100000000) (motor 100000000) (motor 400000000)) ≡ Ok (three (motor 100000000) (motor 100000000) (motor 400000000))
unequal_without_rates = refl

equal_with_rates : checked_motors true (same_motors 800000000) ≡ Ok (same_motors 800000000)
equal_with_rates = refl

-- 20 and 2,000 steps per millimetre are the limits, for each motor
limits_of_motors : checked_motors false (three (motor 20000000) (motor 2000000000) (motor 400000000)) ≡ Ok (three (motor 20000000) (motor 2000000000) (motor 400000000))
limits_of_motors = refl

long_step_of_y : checked_motors false (three (motor 100000000) (motor 19999999) (motor 400000000)) ≡ Err refusals.Step
long_step_of_y = refl

short_step_of_z : checked_motors false (three (motor 100000000) (motor 100000000) (motor 2000000001)) ≡ Err refusals.Step
short_step_of_z = refl
