-- Worked rows. A rate of 7 that falls by 3 travels 7 + 4 + 1, and uses three times that.
use Rattle.std.proofs.Common.{◌≡◌, ℕ, true, false, [], ◌∷◌, List, Bool, refl}
use Rattle.ngc_braking.specs.declared.leg.Leg.{Leg}
use Rattle.ngc_braking.specs.Braking.{braking, braking_terms}
use Rattle.ngc_braking.specs.Reach.{reach, free}
use Rattle.ngc_braking.specs.Work.{work, leg_work, can_brake}

braking_low : braking 2500 1000 ≡ 4500
unfolding braking_terms
braking_low = refl

braking_high : braking 400000 1000 ≡ 80200000
unfolding braking_terms
braking_high = refl

work_three : work 7 3 ≡ 36
unfolding braking_terms
work_three = refl

-- 6 + 4 + 2, and twice that
work_two : work 6 2 ≡ 24
unfolding braking_terms
work_two = refl

-- one tick
work_one : work 2 5 ≡ 10
unfolding braking_terms
work_one = refl

-- a leg of this length and change after a joint that lets this rate pass
abbrev leg : ℕ → ℕ → ℕ → Leg
leg change millionths limit = record { millionths = millionths; change = change; bound = limit; entry = limit; exit = 1000000; joined = true }

-- from a change of 3 to one of 5: 5 * 20 - 2 * 8
leg_faster : leg_work 3 1000000 (leg 5 20 8) ≡ 84
leg_faster = refl

-- to a lesser change, and to the same one: nothing is deducted
leg_slower : leg_work 5 1000000 (leg 3 20 8) ≡ 60
leg_slower = refl

leg_same : leg_work 4 1000000 (leg 4 20 8) ≡ 80
leg_same = refl

-- ---- the rule, with 10 remaining of a head that has the change 2

abbrev brakes : ℕ → ℕ → List Leg → Bool
brakes w rest ls = can_brake w rest (leg 2 1000000 1000000) ls

-- 5 + 3 + 1 is less than 10; 6 + 4 + 2 isn't
alone : brakes 5 10 [] ≡ true
unfolding braking_terms
alone = refl

too_fast : brakes 6 10 [] ≡ false
unfolding braking_terms
too_fast = refl

-- a joint that lets 4 pass, and 10 more with the change 1: at 6, 24 is less than 20 + 8 at the joint,
-- and less than 20 + 10 at the end; at 7, 32 isn't
weaker : brakes 6 10 (leg 1 10 4 ∷ []) ≡ true
unfolding braking_terms
weaker = refl

weaker_fast : brakes 7 10 (leg 1 10 4 ∷ []) ≡ false
unfolding braking_terms
weaker_fast = refl

-- the same with the change 4: 24 is less than 20 + 8 at the joint, but 32 isn't
stronger : brakes 6 10 (leg 4 10 4 ∷ []) ≡ true
unfolding braking_terms
stronger = refl

stronger_fast : brakes 7 10 (leg 4 10 4 ∷ []) ≡ false
unfolding braking_terms
stronger_fast = refl

-- One remains of the head. 4 may pass, but needs 12, and there are 2 + 10 up to the end; 3 needs 8.
near : brakes 4 1 (leg 1 10 4 ∷ []) ≡ false
unfolding braking_terms
near = refl

near_slow : brakes 3 1 (leg 1 10 4 ∷ []) ≡ true
unfolding braking_terms
near_slow = refl

-- ---- how far the path is known and free

-- a leg of this length with the change 1,000, a bound, and this joint at both of its ends
abbrev bounded : ℕ → ℕ → ℕ → Bool → Leg
bounded millionths bound joint joined = record { millionths = millionths; change = 1000; bound = bound; entry = joint; exit = joint; joined = joined }

-- a corner limits the rates above it, a slow leg those above its bound, and a stop ends the known
-- path
reach_on : reach 7 (bounded 2000000 400000 50000 true ∷ bounded 3000000 20000 1000000 true ∷ bounded 5000000 400000 1000000 false ∷ []) ≡ 5000007
reach_on = refl

free_at_corner : free 50000 7 (bounded 1000000 400000 50000 false) (bounded 2000000 400000 50000 true ∷ bounded 3000000 20000 1000000 true ∷ []) ≡ 2000007
free_at_corner = refl

free_above_corner : free 50001 7 (bounded 1000000 400000 50000 false) (bounded 2000000 400000 50000 true ∷ bounded 3000000 20000 1000000 true ∷ []) ≡ 7
free_above_corner = refl

free_slow : free 20000 7 (bounded 1000000 400000 50000 false) (bounded 2000000 400000 50000 true ∷ bounded 3000000 20000 1000000 true ∷ []) ≡ 5000007
free_slow = refl

-- from 60,000 to 50,000 within the leg, but not to 0
room_at_corner : can_brake 60000 610000 (bounded 1000000 400000 50000 false) (bounded 2000000 400000 50000 true ∷ []) ≡ true
unfolding braking_terms
room_at_corner = refl

no_room_at_corner : can_brake 60000 600000 (bounded 1000000 400000 50000 false) (bounded 2000000 400000 50000 true ∷ []) ≡ false
unfolding braking_terms
no_room_at_corner = refl

-- the known path ends after 1.6 path steps
no_room_to_stop : can_brake 60000 610000 (bounded 1000000 400000 50000 false) (bounded 1000000 400000 50000 true ∷ []) ≡ false
unfolding braking_terms
no_room_to_stop = refl
