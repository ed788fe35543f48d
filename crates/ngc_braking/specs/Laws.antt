-- What work and the rule for braking keep. Our own.
use Rattle.std.specs.Prelude.{◌≡◌, ℕ, ◌+◌, ◌-◌, ◌*◌, ◌≤◌, ◌<◌, nat_lt, max, List, [], ◌∷◌, ◌++◌, true}
use Rattle.ngc_fixed_length.specs.Limits.{MILLION}
use Rattle.ngc_braking.specs.declared.leg.Leg.{Leg}
use Rattle.ngc_braking.specs.Leg.{IsLeg, passes}
use Rattle.ngc_braking.specs.Work.{work, deduction, slack, is_enough, can_brake, beyond, work_ahead}

-- a tick uses its change times what it travels
abbrev pub TickUsesItsWork : Type 0
TickUsesItsWork = (w a : ℕ) → 1 ≤ a → work w a ≡ a * w + work (w - a) a

-- the work rises with the change
abbrev pub WorkRises : Type 0
WorkRises = (w a b : ℕ) → 1 ≤ a → a ≤ b → work w a ≤ work w b

-- a greater change costs at most the deduction
abbrev pub CostsDeduction : Type 0
CostsDeduction =
    (w a b limit : ℕ) → 1 ≤ a → a ≤ b → w ≤ limit → work w b ≤ work w a + deduction a b limit

-- a rate above a joint's limit that reaches it needs too much work
abbrev pub NeedsTooMuch : Type 0
NeedsTooMuch =
    (w a d limit : ℕ) → 1 ≤ a → limit < w → d ≤ w → a * d + slack limit a ≤ work w a

-- one more leg takes nothing away
abbrev pub LoadTakesNothing : Type 0
LoadTakesNothing =
    (w rest : ℕ) (head : Leg) (legs more : List Leg) → can_brake w rest head legs ≡ true →
    can_brake w rest head (legs ++ more) ≡ true

-- A rate that can brake is followed by a tick at it, and that by a rate less by the change. If the
-- tick ends on the same leg, this rate can brake on the rest of it.
abbrev pub CanBrakeOnTheHead : Type 0
CanBrakeOnTheHead =
    (v rest : ℕ) (head : Leg) (legs : List Leg) → 1 ≤ head.change → v ≤ rest →
    can_brake v rest head legs ≡ true →
    can_brake (v - head.change) (rest - v) head legs ≡ true

-- If the tick reaches the leg's end, the next leg is joined, its joint lets the rate pass, and after
-- a tick by the greater change of the two legs the rate can brake on the next one.
pub record PassesOn (v rest : ℕ) (head next : Leg) (legs : List Leg) : Type 0 where
  pub joined : next.joined ≡ true
  pub within : v ≤ passes head.exit next
  pub brakes : can_brake (v - max head.change next.change) (next.millionths - (v - rest)) next legs
      ≡ true

abbrev pub CanBrakeAfterJoint : Type 0
CanBrakeAfterJoint =
    (v rest : ℕ) (head next : Leg) (legs : List Leg) → 1 ≤ head.change → IsLeg next →
    v ≤ MILLION → rest ≤ v → can_brake v rest head (next ∷ legs) ≡ true →
    PassesOn v rest head next legs

-- without a joint ahead, it doesn't reach the leg's end
abbrev pub StopsAtTheEnd : Type 0
StopsAtTheEnd =
    (v rest : ℕ) (head : Leg) → 1 ≤ head.change → can_brake v rest head [] ≡ true → v < rest

-- a braking distance that ends on the head is enough, whatever is ahead
abbrev pub HeadIsEnough : Type 0
HeadIsEnough =
    (w rest : ℕ) (head : Leg) (legs : List Leg) → work w head.change < head.change * rest →
    can_brake w rest head legs ≡ true

-- of the legs ahead only the least of what their joints leave matters
abbrev pub LeastMatters : Type 0
LeastMatters =
    (needed ahead a exit : ℕ) (legs : List Leg) →
    is_enough needed ahead a exit legs ≡ nat_lt needed (ahead + beyond a exit legs)

-- the work to brake ends on the known path
abbrev pub EndsOnThePath : Type 0
EndsOnThePath =
    (w rest : ℕ) (head : Leg) (legs : List Leg) → can_brake w rest head legs ≡ true →
    work w head.change < head.change * rest + work_ahead head.change head.exit legs
