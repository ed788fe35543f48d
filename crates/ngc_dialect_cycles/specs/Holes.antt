-- The moves of one hole below R (G73, G81, G82, G83, G85, G86, G89). Our own, as LinuxCNC moves.
use Rattle.std.specs.Prelude.{ℕ, ◌-◌, ◌/◌, ℤ, ◌+ℤ◌, ◌-ℤ◌, unsigned_abs, List, [], ◌∷◌, ◌++◌}
use Rattle.std.specs.List.{flat_map}
use Rattle.ngc_canned_cycles.specs.declared.cycle.Site.{Site}
use Rattle.ngc_canned_cycles.specs.declared.cycle.CycleMove.{CycleMove}
use Rattle.ngc_canned_cycles.specs.declared.cycle.CycleMove.TheVariants as moves
use Rattle.ngc_canned_cycles.specs.Holes.{traverse_to, feed_to, counting, peck_depth}
use Rattle.ngc_dialect_cycles.specs.declared.line.HoleKind.{HoleKind}
use Rattle.ngc_dialect_cycles.specs.declared.line.HoleKind.TheVariants.{Drill, DrillWithDwell}
use Rattle.ngc_dialect_cycles.specs.declared.line.HoleKind.TheVariants.{Peck, BreakChips, Bore}
use Rattle.ngc_dialect_cycles.specs.declared.line.HoleKind.TheVariants.{BoreWithStop, BoreWithDwell}

-- the number of pecks by q that end above the bottom
abbrev pub pecks_above : Site → ℤ → ℕ
pecks_above s q = (unsigned_abs (s.retract -ℤ s.bottom) - 1) / unsigned_abs q

abbrev pub peck_count : HoleKind → Site → ℕ
peck_count (Peck p) s = pecks_above s p.depth
peck_count (BreakChips p) s = pecks_above s p.depth
peck_count Drill s = 0
peck_count (DrillWithDwell t) s = 0
peck_count Bore s = 0
peck_count (BoreWithStop t) s = 0
peck_count (BoreWithDwell t) s = 0

-- peck i that ends above the bottom, and the way back to a distance above it: in G83 by R
abbrev pub peck_moves : HoleKind → Site → ℕ → List CycleMove
peck_moves (Peck p) s i = let depth = peck_depth s p.depth i in
    feed_to s depth ∷ traverse_to s s.retract ∷ traverse_to s (depth +ℤ p.back) ∷ []
peck_moves (BreakChips p) s i = let depth = peck_depth s p.depth i in
    feed_to s depth ∷ traverse_to s (depth +ℤ p.back) ∷ []
peck_moves Drill s i = []
peck_moves (DrillWithDwell t) s i = []
peck_moves Bore s i = []
peck_moves (BoreWithStop t) s i = []
peck_moves (BoreWithDwell t) s i = []

-- the feed to the bottom, and the way up
abbrev pub ending : HoleKind → Site → List CycleMove
ending Drill s = feed_to s s.bottom ∷ traverse_to s s.clear ∷ []
ending (DrillWithDwell t) s = feed_to s s.bottom ∷ moves.Dwell t ∷ traverse_to s s.clear ∷ []
ending (Peck p) s = feed_to s s.bottom ∷ traverse_to s s.clear ∷ []
ending (BreakChips p) s = feed_to s s.bottom ∷ traverse_to s s.clear ∷ []
ending Bore s = feed_to s s.bottom ∷ feed_to s s.retract ∷ traverse_to s s.clear ∷ []
ending (BoreWithStop t) s =
    feed_to s s.bottom ∷ moves.Dwell t ∷ moves.StopSpindle ∷ traverse_to s s.clear ∷
    moves.StartSpindle ∷ []
ending (BoreWithDwell t) s = feed_to s s.bottom ∷ moves.Dwell t ∷ feed_to s s.clear ∷ []

abbrev pub pecks : HoleKind → Site → List CycleMove
pecks kind s = flat_map (peck_moves kind s) (counting 1 (peck_count kind s))

abbrev pub hole_moves : HoleKind → Site → List CycleMove
hole_moves kind s = pecks kind s ++ ending kind s
