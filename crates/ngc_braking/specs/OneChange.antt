-- The rule for legs that all have one change, in distances. Our own.
use Rattle.std.specs.Prelude.{◌≡◌, ℕ, ◌+◌, ◌-◌, ◌*◌, ◌≤◌, ◌<◌, nat_le, nat_lt, List, [], ◌∷◌}
use Rattle.std.specs.Prelude.{Bool, true, ◌&&◌, ◌||◌, if◌then◌else◌}
use Rattle.std.specs.List.{All}
use Rattle.ngc_fixed_length.specs.Limits.{MILLION}
use Rattle.ngc_braking.specs.declared.leg.Leg.{Leg}
use Rattle.ngc_braking.specs.Braking.{braking}
use Rattle.ngc_braking.specs.Leg.{passes}
use Rattle.ngc_braking.specs.Reach.{ahead, free}
use Rattle.ngc_braking.specs.Work.{can_brake, work_ahead}

-- whether a rate w, which each tick may reduce by a, is at most the limit of a joint in the tick
-- that reaches it, with the distance d up to it: either it is so already, or less than d is
-- travelled until it is
abbrev pub slows_within : ℕ → ℕ → ℕ → ℕ → Bool
slows_within w a d limit =
    nat_le w limit || nat_lt (braking w a) (d + braking (limit + 1 - a) a)

-- this holds for each joint ahead of a leg with d remaining, and the rate brakes before the known
-- path ends
abbrev pub brakes_within : ℕ → ℕ → ℕ → ℕ → List Leg → Bool
brakes_within w a d exit [] = nat_lt (braking w a) d
brakes_within w a d exit (l ∷ ls) =
    if l.joined
    then slows_within w a d (passes exit l) && brakes_within w a (d + l.millionths) l.exit ls
    else nat_lt (braking w a) d

abbrev pub HasChange : ℕ → Leg → Type 0
HasChange a l = l.change ≡ a

-- at least one path step
abbrev pub IsLong : Leg → Type 0
IsLong l = MILLION ≤ l.millionths

-- with one change the two rules are the same
abbrev pub IsSameWithOneChange : Type 0
IsSameWithOneChange =
    (w a rest : ℕ) (head : Leg) (legs : List Leg) → w ≤ MILLION → 1 ≤ a → 1 ≤ rest →
    HasChange a head → All (HasChange a) legs → All IsLong legs →
    can_brake w rest head legs ≡ brakes_within w a rest head.exit legs

-- so a rate can brake if its braking distance ends on the legs that it may enter
abbrev pub CanBrakeWhereFree : Type 0
CanBrakeWhereFree =
    (w a rest : ℕ) (head : Leg) (legs : List Leg) → w ≤ MILLION → 1 ≤ a → 1 ≤ rest →
    HasChange a head → All (HasChange a) legs → All IsLong legs →
    braking w a < free w rest head legs → can_brake w rest head legs ≡ true

-- and the work ahead is the change times the distance ahead
abbrev pub IsWorkOfDistance : Type 0
IsWorkOfDistance =
    (a exit : ℕ) (legs : List Leg) → All (HasChange a) legs → work_ahead a exit legs ≡ a * ahead legs
