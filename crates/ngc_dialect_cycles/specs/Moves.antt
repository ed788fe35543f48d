-- The moves of a line that has a cycle. Our own, as LinuxCNC moves.
use Rattle.std.specs.Prelude.{ℕ, zero, suc, ℤ, int_lt, Bool, true, not, ◌&&◌, List, [], ◌∷◌, ◌++◌}
use Rattle.std.specs.Prelude.{Option, Some, None, ◌≡◌, if◌then◌else◌}
use Rattle.std.specs.List.{flat_map}
use Rattle.ngc_fixed_length.specs.Places.{in_plane, height, at_height}
use Rattle.ngc_fixed_length.specs.Signed.{same}
use Rattle.ngc_fixed_length.specs.declared.points.Point3.{Point3}
use Rattle.ngc_canned_cycles.specs.declared.cycle.CycleMove.{CycleMove}
use Rattle.ngc_canned_cycles.specs.declared.cycle.CycleMove.TheVariants.{Traverse, Feed, Dwell}
use Rattle.ngc_canned_cycles.specs.declared.cycle.CycleMove.TheVariants.{StopSpindle, StartSpindle}
use Rattle.ngc_canned_cycles.specs.Holes.{traverse_to, counting}
use Rattle.ngc_dialect_cycles.specs.declared.line.Series.{Series}
use Rattle.ngc_dialect_cycles.specs.declared.line.CycleLine.{CycleLine}
use Rattle.ngc_dialect_cycles.specs.Levels.{retract_of, clear_of, site_of}
use Rattle.ngc_dialect_cycles.specs.Holes.{hole_moves}

-- the series began below R
abbrev pub rises : Series → CycleLine → Bool
rises s l = int_lt s.level (retract_of s l)

-- then the tool goes to R where it is, in front of the first hole
abbrev pub rise : Series → CycleLine → ℕ → List CycleMove
rise s l zero =
    if rises s l then Traverse (at_height l.plane (in_plane l.plane l.place) (retract_of s l)) ∷ []
    else []
rise s l (suc k) = []

-- the tool stands above R, and doesn't go to R first
abbrev pub stays : Series → CycleLine → Bool
stays s l = not (rises s l) && int_lt (retract_of s l) (height l.plane l.place)

-- the height at which the tool goes to hole k: to the first one its own, if it stays there
abbrev pub arrival_height : Series → CycleLine → ℕ → ℤ
arrival_height s l zero = if stays s l then height l.plane l.place else clear_of s l
arrival_height s l (suc k) = clear_of s l

abbrev pub arrival : Series → CycleLine → ℕ → List CycleMove
arrival s l k = let site = site_of s l k in
    rise s l k ++ traverse_to site (arrival_height s l k) ∷ traverse_to site site.retract ∷ []

abbrev pub hole : Series → CycleLine → ℕ → List CycleMove
hole s l k = arrival s l k ++ hole_moves s.kind (site_of s l k)

-- the point where a move that begins at p ends
abbrev pub end_of : Point3 → CycleMove → Point3
end_of p (Traverse q) = q
end_of p (Feed q) = q
end_of p (Dwell t) = p
end_of p StopSpindle = p
end_of p StartSpindle = p

abbrev pub differ : Point3 → Point3 → Bool
differ p q = not (same p.x q.x && same p.y q.y && same p.z q.z)

-- a motion that begins at p goes somewhere else; what isn't a motion counts too
abbrev pub acts : Point3 → CycleMove → Bool
acts p (Traverse q) = differ p q
acts p (Feed q) = differ p q
acts p (Dwell t) = true
acts p StopSpindle = true
acts p StartSpindle = true

-- moves that begin at p, without the motions that go nowhere
abbrev pub acting : Point3 → List CycleMove → List CycleMove
acting p [] = []
acting p (m ∷ ms) = if acts p m then m ∷ acting (end_of p m) ms else acting p ms

abbrev pub all_moves : Series → CycleLine → List CycleMove
all_moves s l = flat_map (hole s l) (counting 0 l.repeats)

abbrev pub cycle_moves : Series → CycleLine → List CycleMove
cycle_moves s l = acting l.place (all_moves s l)

-- the first of the moves that were left, or None if none was left
abbrev pub IsNext : Option CycleMove → List CycleMove → List CycleMove → Type 0
IsNext (Some m) old new = old ≡ m ∷ new
IsNext None old new = (old ≡ []) × (new ≡ [])
