-- Ticks that are computed at once: a ramp that speeds up, goes on or slows down at constant bounds.
-- Our own.
use Rattle.std.specs.Prelude.{◌≡◌, ℕ, zero, suc, ◌+◌, ◌-◌, ◌*◌, ◌/◌, ◌≤◌, ◌<◌, ◌↔◌, min, max, List, [], ◌∷◌}
use Rattle.std.specs.Prelude.{nat_lt, Bool, ◌&&◌, if◌then◌else◌}
use Rattle.std.specs.Int.{div_ceil}
use Rattle.ngc_braking.specs.declared.leg.Leg.{Leg}
use Rattle.ngc_braking.specs.Braking.{braking}
use Rattle.ngc_braking.specs.Leg.{tick_bound}
use Rattle.ngc_braking.specs.Work.{can_brake, beyond}
use Rattle.ngc_planner.specs.Ramp.{RampState, IsRamp, MayTick, TicksTo, on_legs, slowest, after_tick}

-- a tick of a ramp with a wish
abbrev pub TicksFrom : List Leg → RampState → ℕ → RampState → Type 0
TicksFrom [] old wish new = ⊥
TicksFrom (head ∷ legs) old wish new =
    (v : ℕ) × (due : Bool) × (ended : Bool) × TicksTo old wish head legs v due ended new

-- n ticks, one after another
abbrev pub Ticks : ℕ → RampState → ℕ → RampState → Type 0
Ticks zero old wish new = new ≡ old
Ticks (suc n) old wish new =
    (mid : RampState) × TicksFrom old.legs old wish mid × Ticks n mid wish new

-- the distance of n ticks after one at rate v, each by a faster than the one before: n times v, and
-- a times 1 + 2 + .. + n
abbrev pub rise : ℕ → ℕ → ℕ → ℕ
rise n v a = n * v + a * (n * (n + 1) / 2)

-- the same if each is by a slower
abbrev pub fall : ℕ → ℕ → ℕ → ℕ
fall n v a = n * v - a * (n * (n + 1) / 2)

-- n ticks that speed up, after one that began on the head: the last rate is at most the wish and the
-- bound, and before the last tick its braking distance ends on the head
pub record MayRise (a v rest : ℕ) (head : Leg) (wish n : ℕ) : Type 0 where
  pub same : a ≡ head.change
  pub wished : v + n * a ≤ wish
  pub within : v + n * a ≤ tick_bound head rest
  pub brakes : rise n v a + braking (v + n * a - a) a < rest

-- whether n ticks that speed up leave more of the head than the braking distance
abbrev pub may_rise : ℕ → ℕ → ℕ → ℕ → Bool
may_rise n v a rest =
    nat_lt (rise n v a) rest && nat_lt (braking (v + n * a - a) a) (rest - rise n v a)

abbrev pub MayRiseOn : List Leg → RampState → ℕ → ℕ → Type 0
MayRiseOn [] r wish n = n ≡ 0
MayRiseOn (head ∷ legs) r wish n = 1 ≤ n → MayRise r.last_change r.rate r.rest head wish n

-- the ramp after n ticks that speed up
abbrev pub risen : RampState → ℕ → RampState
risen r n =
    record r { rate = r.rate + n * r.last_change; rest = r.rest - rise n r.rate r.last_change }

-- then the state after n ticks is this one, and no other
abbrev pub SpeedsUp : Type 0
SpeedsUp =
    (n a v rest : ℕ) (head : Leg) (legs : List Leg) (room wish : ℕ) (new : RampState) →
    1 ≤ a → rest ≤ head.millionths → MayRise a v rest head wish n →
    Ticks n (on_legs a v rest head legs room) wish new
    ↔ (new ≡ on_legs a (v + n * a) (rest - rise n v a) head legs room)

-- n ticks at the rate of the last one, which began on the head: it is the lesser of the wish and the
-- bound, and before the last tick its braking distance ends on the head
pub record MayGoOn (a v rest : ℕ) (head : Leg) (wish n : ℕ) : Type 0 where
  pub same : a ≡ head.change
  pub wished : v ≡ min wish head.bound
  pub within : v ≤ tick_bound head rest
  pub brakes : n * v + braking (v - a) a < rest

abbrev pub MayGoOnOn : List Leg → RampState → ℕ → ℕ → Type 0
MayGoOnOn [] r wish n = n ≡ 0
MayGoOnOn (head ∷ legs) r wish n = 1 ≤ n → MayGoOn r.last_change r.rate r.rest head wish n

-- the ramp after n ticks at the rate of the last one
abbrev pub gone_on : RampState → ℕ → RampState
gone_on r n = record r { rest = r.rest - n * r.rate }

abbrev pub GoesOn : Type 0
GoesOn =
    (n a v rest : ℕ) (head : Leg) (legs : List Leg) (room wish : ℕ) (new : RampState) →
    1 ≤ a → rest ≤ head.millionths → MayGoOn a v rest head wish n →
    Ticks n (on_legs a v rest head legs room) wish new
    ↔ (new ≡ on_legs a v (rest - n * v) head legs room)

-- n ticks that slow down to a lower wish, after one that began on the head: whatever is ahead, each
-- is by a slower
pub record MayFall (a v rest wish n : ℕ) : Type 0 where
  pub wished : wish + n * a ≤ v
  pub on_head : fall n v a < rest

abbrev pub SlowsDown : Type 0
SlowsDown =
    (n a v rest : ℕ) (head : Leg) (legs : List Leg) (room wish : ℕ) (new : RampState) →
    a ≡ head.change → MayFall a v rest wish n → Ticks n (on_legs a v rest head legs room) wish new →
    new ≡ on_legs a (v - n * a) (rest - fall n v a) head legs room

-- ---- slowing down for what is ahead

-- the greatest rate that the last one, the wish and the bound allow
abbrev pub highest_rate : RampState → ℕ → Leg → ℕ
highest_rate r wish head =
    min (min (r.rate + head.change) (max wish (slowest r head))) (tick_bound head r.rest)

-- the rate that the ramp chooses: that one, if the ramp can brake from it; otherwise the least, which
-- is above 0
abbrev pub chosen_rate : RampState → ℕ → Leg → List Leg → ℕ
chosen_rate r wish head legs =
    if can_brake (highest_rate r wish head) r.rest head legs
    then highest_rate r wish head
    else max (slowest r head)
    (min (min (min (highest_rate r wish head) head.change) head.exit) r.rest)

abbrev pub chosen_state : List Leg → RampState → ℕ → RampState
chosen_state [] r wish = r
chosen_state (head ∷ legs) r wish = after_tick r head legs (chosen_rate r wish head legs)

-- the ramp after n ticks at the rates that it chooses
abbrev pub after_ticks : ℕ → RampState → ℕ → RampState
after_ticks zero r wish = r
after_ticks (suc n) r wish = after_ticks n (chosen_state r.legs r wish) wish

-- n ticks that slow down, after one that began on the head: faster ones would be within the wish and
-- the bound, but could not brake. After them the rate is still at least the change, and the head
-- isn't ended.
pub record MayBrake (a v rest : ℕ) (head : Leg) (legs : List Leg) (wish n : ℕ) : Type 0 where
  pub same : a ≡ head.change
  pub wished : v + a ≤ wish
  pub within : v + a ≤ tick_bound head rest
  pub fast : (n + 1) * a ≤ v
  pub on_head : fall n v a + 2 * a < rest
  pub short : rest + div_ceil (beyond a head.exit legs) a + 2 * (n * a)
      ≤ braking (v + a) a + 2 * a

abbrev pub BrakesDown : Type 0
BrakesDown =
    (n a v rest : ℕ) (head : Leg) (legs : List Leg) (room wish : ℕ) →
    1 ≤ a → rest ≤ head.millionths → MayBrake a v rest head legs wish n →
    after_ticks n (on_legs a v rest head legs room) wish
    ≡ on_legs a (v - n * a) (rest - fall n v a) head legs room

-- a rate that the ramp chooses is one of those that a tick may have, and keeps the ramp
pub record IsChoice (r : RampState) (wish : ℕ) (head : Leg) (legs : List Leg) : Type 0 where
  pub may : MayTick r wish head legs (chosen_rate r wish head legs)
  pub kept : IsRamp (after_tick r head legs (chosen_rate r wish head legs))

abbrev pub ChoosesWell : Type 0
ChoosesWell =
    (a v rest : ℕ) (head : Leg) (legs : List Leg) (room wish : ℕ) →
    IsRamp (on_legs a v rest head legs room) →
    IsChoice (on_legs a v rest head legs room) wish head legs

-- so n ticks that slow down for what is ahead are ticks of the ramp
abbrev pub MayBrakeDown : Type 0
MayBrakeDown =
    (n a v rest : ℕ) (head : Leg) (legs : List Leg) (room wish : ℕ) →
    IsRamp (on_legs a v rest head legs room) → MayBrake a v rest head legs wish n →
    Ticks n (on_legs a v rest head legs room) wish
    (on_legs a (v - n * a) (rest - fall n v a) head legs room)
    × IsRamp (on_legs a (v - n * a) (rest - fall n v a) head legs room)

abbrev pub MayBrakeOn : List Leg → RampState → ℕ → ℕ → Type 0
MayBrakeOn [] r wish n = n ≡ 0
MayBrakeOn (head ∷ legs) r wish n = 1 ≤ n → MayBrake r.last_change r.rate r.rest head legs wish n

-- the ramp after n ticks that slow down
abbrev pub fallen : RampState → ℕ → RampState
fallen r n =
    record r { rate = r.rate - n * r.last_change; rest = r.rest - fall n r.rate r.last_change }

-- what n ticks that slow down need of the numbers alone: d is how far beyond the head's end the
-- braking distance may end, by the head's change
pub record MayFallTo (a v rest d n : ℕ) : Type 0 where
  pub fast : (n + 1) * a ≤ v
  pub on_head : fall n v a + 2 * a < rest
  pub short : rest + d + 2 * (n * a) ≤ braking (v + a) a + 2 * a
