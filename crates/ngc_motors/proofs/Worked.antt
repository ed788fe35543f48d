-- Worked rows: a grid of 0.0025 mm with a motor of 0.01 mm, one of 0.005292 mm with 0.025 mm, and one
-- of 793 nm with a motor of 3,175 nm in 4 steps, which is 793.75 nm.
use Rattle.std.proofs.Common.{◌≡◌, ℕ, refl, pos, negsuc, ◌*ℤ◌, true, false}
use Rattle.ngc_motors.specs.Counts.{count, ends_at_steps, is_motor, place_above, place_below, slack, whole_step}
use Rattle.ngc_motors.specs.declared.step.MotorStep.{MotorStep}

-- 0.0125 mm is 1.25 steps; 0.015 mm is 1.5 steps, a tie, and so is -0.015 mm
above_one : count (whole_step 10000) (pos 5 *ℤ pos 2500) ≡ pos 1
above_one = refl

tie_up : count (whole_step 10000) (pos 6 *ℤ pos 2500) ≡ pos 2
tie_up = refl

tie_up_below_zero : count (whole_step 10000) (negsuc 5 *ℤ pos 2500) ≡ negsuc 0
tie_up_below_zero = refl

below : count (whole_step 10000) (negsuc 6 *ℤ pos 2500) ≡ negsuc 1
below = refl

-- 0.010584 mm is 0.42 steps, and 0.015876 mm is 0.64 steps
less_than_half : count (whole_step 25000) (pos 2 *ℤ pos 5292) ≡ pos 0
less_than_half = refl

more_than_half : count (whole_step 25000) (pos 3 *ℤ pos 5292) ≡ pos 1
more_than_half = refl

-- steps of the grid's length are counted one by one
same : count (whole_step 10000) (negsuc 6 *ℤ pos 10000) ≡ negsuc 6
same = refl

-- ---- a step of 793.75 nm

abbrev taig : MotorStep
taig = record { nanometres = 3175; steps = 4 }

-- grid number 529 is 419,497 nm: 528.5001 steps; 528 is 418,704 nm: 527.501; 527 is 417,911 nm: 526.502
far_one : count taig (pos 529 *ℤ pos 793) ≡ pos 529
far_one = refl

-- 530 * 793 = 420,290 nm are 529.499 steps: from here on the counts are behind the grid numbers by one
far_two : count taig (pos 530 *ℤ pos 793) ≡ pos 529
far_two = refl

far_below : count taig (negsuc 529 *ℤ pos 793) ≡ negsuc 528
far_below = refl

-- 3 steps are 2,381.25 nm
three_below : place_below taig (pos 3 *ℤ pos 793) ≡ pos 2381
three_below = refl

three_above : place_above taig (pos 3 *ℤ pos 793) ≡ pos 2382
three_above = refl

minus_three_below : place_below taig (negsuc 2 *ℤ pos 793) ≡ negsuc 2381
minus_three_below = refl

-- 4 steps are 3,175 nm
four_above : place_above taig (pos 4 *ℤ pos 793) ≡ pos 3175
four_above = refl

-- so a travel may end at 2,382 nm, and begin at 2,381 nm, but not at 2,382 nm
ends : ends_at_steps taig (pos 2381) (pos 2382) ≡ true
ends = refl

begins_inside_a_step : ends_at_steps taig (pos 2382) (pos 3175) ≡ false
begins_inside_a_step = refl

-- ---- ranges

not_shorter : is_motor (pos 793) taig ≡ true
not_shorter = refl

shorter : is_motor (pos 794) taig ≡ false
shorter = refl

-- ---- the slack

mixed : slack (record { grid = pos 3125; steps = record { x = whole_step 25000; y = whole_step 25000; z = whole_step 3125 } }) ≡ pos 12500
mixed = refl

-- a half of 25,001 nm is rounded up
odd : slack (record { grid = pos 5292; steps = record { x = whole_step 25001; y = whole_step 25000; z = whole_step 5292 } }) ≡ pos 12501
odd = refl

equal : slack (record { grid = pos 10000; steps = record { x = whole_step 10000; y = whole_step 10000; z = whole_step 10000 } }) ≡ pos 0
equal = refl

-- half of 793.75 nm is 396.875 nm
taigs : slack (record { grid = pos 793; steps = record { x = taig; y = taig; z = taig } }) ≡ pos 397
taigs = refl
