-- Braking on legs that each have their own change. It is measured in work: change times distance. A
-- tick at the rate w that brakes by a travels w, and uses a * w. Our own.
use Rattle.std.specs.Prelude.{ℕ, ◌+◌, ◌-◌, ◌*◌, nat_le, nat_lt, min, List, [], ◌∷◌, Bool, ◌&&◌, ◌||◌, if◌then◌else◌}
use Rattle.ngc_braking.specs.declared.leg.Leg.{Leg}
use Rattle.ngc_braking.specs.Braking.{braking}
use Rattle.ngc_braking.specs.Leg.{passes}

-- the work to brake from the rate w to 0 by the change a
abbrev pub work : ℕ → ℕ → ℕ
work w a = a * braking w a

-- A tick that passes a joint begins on the leg before it, and brakes by that leg's change. If the
-- change b after the joint is greater than the change a before it, the leg after the joint counts for
-- less: by the difference of the changes times the greatest rate that the joint lets pass.
abbrev pub deduction : ℕ → ℕ → ℕ → ℕ
deduction a b limit = (b - a) * limit

-- the work on a leg, after one with the change a and this exit
abbrev pub leg_work : ℕ → ℕ → Leg → ℕ
leg_work a exit l = l.change * l.millionths - deduction a l.change (passes exit l)

-- How much work may be left at a joint with this limit, if the leg before it has the change a: less
-- than the least rate above the limit needs after one slower tick.
abbrev pub slack : ℕ → ℕ → ℕ
slack limit a = work (limit + 1 - a) a

-- Whether a rate w is at most the limit of its leg's own joint in the tick that reaches it, with the
-- distance d up to it: either it is so already, or less work than there is up to the joint, with its
-- slack, is used until it is.
abbrev pub slows : ℕ → ℕ → ℕ → ℕ → Bool
slows w a d limit = nat_le w limit || nat_lt (work w a) (a * d + slack limit a)

-- Whether there is more work than needed at each joint after a leg with the change a and this exit,
-- and at the end of the known path, if `ahead` is the work up to the leg's end. Each joint adds its
-- slack.
abbrev pub is_enough : ℕ → ℕ → ℕ → ℕ → List Leg → Bool
is_enough needed ahead a exit [] = nat_lt needed ahead
is_enough needed ahead a exit (l ∷ ls) =
    if l.joined
    then nat_lt needed (ahead + slack (passes exit l) a)
    && is_enough needed (ahead + leg_work a exit l) l.change l.exit ls
    else nat_lt needed ahead

-- whether a rate w can brake on the rest of the head and the legs after it
abbrev pub can_brake : ℕ → ℕ → Leg → List Leg → Bool
can_brake w rest head [] = nat_lt (work w head.change) (head.change * rest)
can_brake w rest head (l ∷ ls) =
    if l.joined
    then slows w head.change rest (passes head.exit l)
    && is_enough (work w head.change) (head.change * rest + leg_work head.change head.exit l)
    l.change l.exit ls
    else nat_lt (work w head.change) (head.change * rest)

-- how much work beyond a leg's end braking may use, for a leg with the change a and this exit: the
-- least over the joints after it and the end of the known path
abbrev pub beyond : ℕ → ℕ → List Leg → ℕ
beyond a exit [] = 0
beyond a exit (l ∷ ls) =
    if l.joined
    then min (slack (passes exit l) a) (leg_work a exit l + beyond l.change l.exit ls)
    else 0

-- the work on the legs joined to a leg with the change a and this exit, up to the end of the known
-- path
abbrev pub work_ahead : ℕ → ℕ → List Leg → ℕ
work_ahead a exit [] = 0
work_ahead a exit (l ∷ ls) =
    if l.joined then leg_work a exit l + work_ahead l.change l.exit ls else 0

-- how much work beyond the first of some legs braking may use, in 64 bits
abbrev pub GREATEST : ℕ
GREATEST = 18446744073709551615

abbrev pub next_beyond : List Leg → ℕ
next_beyond [] = 0
next_beyond (l ∷ ls) = min GREATEST (beyond l.change l.exit ls)

-- and beyond the second
abbrev pub legs_beyond : List Leg → ℕ
legs_beyond [] = 0
legs_beyond (head ∷ legs) = next_beyond legs
