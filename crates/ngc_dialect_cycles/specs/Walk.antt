-- The moves that are left while a line's moves are taken one by one. Our own.
use Rattle.std.specs.Prelude.{◌≡◌, ℕ, ◌+◌, ◌-◌, ◌*◌, min, nat_lt, List, [], ◌++◌, drop, Ok}
use Rattle.std.specs.Prelude.{if◌then◌else◌}
use Rattle.std.specs.List.{flat_map}
use Rattle.ngc_canned_cycles.specs.declared.cycle.CycleMove.{CycleMove}
use Rattle.ngc_canned_cycles.specs.Holes.{counting}
use Rattle.ngc_dialect_cycles.specs.declared.line.Series.{Series}
use Rattle.ngc_dialect_cycles.specs.declared.line.CycleLine.{CycleLine}
use Rattle.ngc_dialect_cycles.specs.declared.plan.Plan.{Plan}
use Rattle.ngc_dialect_cycles.specs.declared.walk.Part.{Part}
use Rattle.ngc_dialect_cycles.specs.declared.walk.Part.TheVariants.{Arrival, OnePeck, Ending}
use Rattle.ngc_dialect_cycles.specs.declared.walk.Walk.{Walk}
use Rattle.ngc_dialect_cycles.specs.Levels.{levels, site_of}
use Rattle.ngc_dialect_cycles.specs.Holes.{peck_count, peck_moves, ending}
use Rattle.ngc_dialect_cycles.specs.Moves.{arrival, hole}
use Rattle.ngc_dialect_cycles.specs.Refusals.{check}

abbrev pub plan_of : Series → CycleLine → Plan
plan_of s l = record {
  series = s;
  line = l;
  levels = levels s l;
  pecks = peck_count s.kind (site_of s l 0);
}

-- the plan of a line that isn't refused
pub record IsPlan (p : Plan) : Type 0 where
  pub plan : p ≡ plan_of p.series p.line
  pub sound : check p.series p.line ≡ Ok tt

-- the moves of a part of hole k
abbrev pub part_moves : Series → CycleLine → ℕ → Part → List CycleMove
part_moves s l k Arrival = arrival s l k
part_moves s l k (OnePeck i) = peck_moves s.kind (site_of s l k) i
part_moves s l k Ending = ending s.kind (site_of s l k)

-- the part after n of m pecks
abbrev pub next_part : ℕ → ℕ → Part
next_part m n = if nat_lt n m then OnePeck (n + 1) else Ending

-- the moves of hole k from peck i on
abbrev pub from_peck : Series → CycleLine → ℕ → ℕ → List CycleMove
from_peck s l k i = let site = site_of s l k in
    flat_map (peck_moves s.kind site) (counting i (peck_count s.kind site + 1 - i))
    ++ ending s.kind site

-- the moves of hole k after a part
abbrev pub after_part : Series → CycleLine → ℕ → Part → List CycleMove
after_part s l k Arrival = from_peck s l k 1
after_part s l k (OnePeck i) = from_peck s l k (i + 1)
after_part s l k Ending = []

-- the moves of the holes from hole k on
abbrev pub from_hole : Series → CycleLine → ℕ → List CycleMove
from_hole s l k = flat_map (hole s l) (counting k (l.repeats - k))

-- the moves that are left when n moves of a part of hole k were taken
abbrev pub left_at : Series → CycleLine → ℕ → Part → ℕ → List CycleMove
left_at s l k part n =
    if nat_lt k l.repeats
    then (drop n (part_moves s l k part) ++ after_part s l k part) ++ from_hole s l (k + 1)
    else []

abbrev pub left : Walk → List CycleMove
left w = left_at w.plan.series w.plan.line w.hole w.part w.index

-- the number of parts up to a part of a hole with m pecks
abbrev pub part_number : ℕ → Part → ℕ
part_number m Arrival = 0
part_number m (OnePeck i) = min i m
part_number m Ending = m + 1

-- at least the number of parts that are left
abbrev pub parts_left : Walk → ℕ
parts_left w = (w.plan.line.repeats - w.hole) * (w.plan.pecks + 2) - part_number w.plan.pecks w.part
