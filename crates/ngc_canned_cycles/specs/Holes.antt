-- The moves of one hole (NISTIR 6556, 3.5.16.2 to 3.5.16.10: G81, G82, G83, G85, G86, G89).
use Rattle.std.specs.Prelude.{ℕ, zero, suc, ◌+◌, ◌-◌, ◌/◌, nat_lt, max, ℤ, pos, ◌+ℤ◌, ◌-ℤ◌, ◌*ℤ◌}
use Rattle.std.specs.Prelude.{unsigned_abs, int_lt, List, [], ◌∷◌, ◌++◌, if◌then◌else◌}
use Rattle.std.specs.List.{flat_map}
use Rattle.ngc_fixed_length.specs.Places.{at_height}
use Rattle.ngc_fixed_length.specs.Signed.{greater}
use Rattle.ngc_canned_cycles.specs.declared.cycle.Hole.{Hole}
use Rattle.ngc_canned_cycles.specs.declared.cycle.Hole.TheVariants.{Drill, DrillWithDwell, Peck}
use Rattle.ngc_canned_cycles.specs.declared.cycle.Hole.TheVariants.{Bore, BoreWithStop}
use Rattle.ngc_canned_cycles.specs.declared.cycle.Hole.TheVariants.{BoreWithDwell}
use Rattle.ngc_canned_cycles.specs.declared.cycle.Site.{Site}
use Rattle.ngc_canned_cycles.specs.declared.cycle.CycleMove.{CycleMove}
use Rattle.ngc_canned_cycles.specs.declared.cycle.CycleMove.TheVariants.{Traverse, Feed, Dwell}
use Rattle.ngc_canned_cycles.specs.declared.cycle.CycleMove.TheVariants.{StopSpindle, StartSpindle}

-- moves at the place of the hole, to a height
abbrev pub traverse_to : Site → ℤ → CycleMove
traverse_to s w = Traverse (at_height s.plane s.place w)

abbrev pub feed_to : Site → ℤ → CycleMove
feed_to s w = Feed (at_height s.plane s.place w)

-- n numbers, from i on
abbrev pub counting : ℕ → ℕ → List ℕ
counting i zero = []
counting i (suc n) = i ∷ counting (i + 1) n

-- the least number, at least 1, of pecks by q that cover the whole distance
abbrev pub peck_count : ℤ → ℕ → ℕ
peck_count way q = max 1 ((unsigned_abs way + (q - 1)) / q)

-- the height that peck i reaches
abbrev pub peck_depth : Site → ℤ → ℕ → ℤ
peck_depth s q i = greater s.bottom (s.retract -ℤ (pos i *ℤ q))

-- the traverse to 254,000 nm (a hundredth of an inch) above the last depth, unless that is at or
-- above R
abbrev pub back_down : Site → ℤ → List CycleMove
back_down s depth =
    if int_lt (depth +ℤ pos 254000) s.retract then traverse_to s (depth +ℤ pos 254000) ∷ [] else []

-- peck i of m, and after each but the last the moves to R and back
abbrev pub peck : Site → ℤ → ℕ → ℕ → List CycleMove
peck s q m i = let depth = peck_depth s q i in
    feed_to s depth ∷ (if nat_lt i m then traverse_to s s.retract ∷ back_down s depth else [])

abbrev pub pecks : Site → ℤ → ℕ → List CycleMove
pecks s q m = flat_map (peck s q m) (counting 1 m)

abbrev pub hole_moves : Hole → Site → List CycleMove
hole_moves Drill s = feed_to s s.bottom ∷ traverse_to s s.clear ∷ []
hole_moves (DrillWithDwell dwell) s = feed_to s s.bottom ∷ Dwell dwell ∷ traverse_to s s.clear ∷ []
hole_moves (Peck q) s =
    pecks s q (peck_count (s.retract -ℤ s.bottom) (unsigned_abs q)) ++ traverse_to s s.clear ∷ []
hole_moves Bore s = feed_to s s.bottom ∷ feed_to s s.clear ∷ []
hole_moves (BoreWithStop dwell) s =
    feed_to s s.bottom ∷ Dwell dwell ∷ StopSpindle ∷ traverse_to s s.clear ∷ StartSpindle ∷ []
hole_moves (BoreWithDwell dwell) s = feed_to s s.bottom ∷ Dwell dwell ∷ feed_to s s.clear ∷ []
