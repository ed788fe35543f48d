-- A certificate may contain the pieces of a motion if none of them is refused.
use Rattle.std.proofs.Common.{ℕ, zero, suc, ◌+◌, ◌*◌, ◌/◌, ◌<◌, ◌≤◌, refl, arith, [], ◌∷◌, true, false, ℤ, pos, negsuc, ◌*ℤ◌, ◌≤ℤ◌, unsigned_abs}
use Rattle.std.specs.Prelude.{Option, IsTrue, nat_le, ◌&&◌}
use Rattle.std.specs.List.{list_all}
use Rattle.std.proofs.lemmas.Int.{ints}
use Rattle.std.proofs.lemmas.Nat.{le-div}
use Rattle.std.proofs.lemmas.Bool.Decides.{nat_tests}
use Rattle.std.proofs.Math.Nat.{div-mul-le_self, div-le_of_le-mul}
use Rattle.ngc_fixed_length.specs.declared.modes.Plane.{Plane}
use Rattle.ngc_fixed_length.specs.declared.modes.Plane.TheVariants.{XY, ZX, YZ}
use Rattle.ngc_fixed_length.specs.declared.points.Point3.{Point3}
use Rattle.ngc_fixed_length.specs.Grid.{grid}
use Rattle.ngc_fixed_length.specs.Length.{IsStep}
use Rattle.ngc_fixed_length.specs.Places.{in_plane}
use Rattle.ngc_fixed_length.specs.Rounding.{nearest}
use Rattle.ngc_fixed_length.specs.Signed.{is_within}
use Rattle.ngc_fixed_length.proofs.Nearest.{nearest_near}
use Rattle.ngc_arc_geometry.specs.Shape.{ArcShape}
use Rattle.ngc_arc_geometry.specs.Swept.{swept_box}
use Rattle.ngc_machine_files.specs.Machine.{MachineFile}
use Rattle.ngc_machine_files.specs.Ranges.{IsTravel}
use Rattle.ngc_machine_files.specs.declared.tools.Tool.{Tool}
use Rattle.ngc_commands.specs.declared.movement.Way.{Way}
use Rattle.ngc_commands.specs.declared.movement.Way.TheVariants.{Line, Arc}
use Rattle.ngc_collision.specs.Body.{IsSafe}
use Rattle.ngc_certificate_text.specs.Certificate.{good_piece}
use Rattle.ngc_certificate.specs.Chain.{stretch, first_cut}
use Rattle.ngc_certificate.specs.PieceFault.{ArePiecesValid}
use Rattle.ngc_certificate.specs.Made.{line_piece, line_pieces_from, pieces_of}
use Rattle.ngc_certificate.specs.Making.{whole_arc}
use Rattle.ngc_certificate.proofs.GoodLines.{ordered}
use Rattle.ngc_certificate.proofs.SafeInPiece.{le_trans, safe_in_piece}
use Rattle.ngc_certificate.proofs.TrueTests.{le_of, le_test, both, and}
use Rattle.ngc_arc_geometry.proofs.SweptEnds.{end_inside}

-- ---- lines

part_good : (t : ℕ) → 1 ≤ t → t ≤ 65536 → IsTrue (nat_le 1 t && nat_le t 65536)
part_good t some most = grind (arith, nat_tests)

line_piece_good : (g : ℕ) (b e : Point3) (s t : ℕ) → 0 < g → s ≤ t → 1 ≤ t → t ≤ 65536 → IsTrue (good_piece (line_piece (pos g) b e s t))
line_piece_good g b e s t zg st some most =
    and _ _ (part_good t some most)
    (and _ _ (le_test _ _ (ordered g s t b.x e.x zg st (omega (arith, st, most))))
    (and _ _ (le_test _ _ (ordered g s t b.y e.y zg st (omega (arith, st, most)))) (le_test _ _ (ordered g s t b.z e.z zg st (omega (arith, st, most))))))

line_pieces_good : (g : ℕ) (b e : Point3) (c k left : ℕ) → 0 < g → 1 ≤ c → c ≤ 65535 → k + left ≤ c →
    IsTrue (list_all good_piece (line_pieces_from (pos g) b e c k left))
line_pieces_good g b e c k zero zg some most fits = refl
line_pieces_good g b e c k (suc left) zg some most fits =
    let s = 65536 * k / c in
    let t = 65536 * (k + 1) / c in
    let i : s * c ≤ 65536 * k = div-mul-le_self (65536 * k) c in
    let rises : s ≤ t = le-div s (65536 * (k + 1)) c (omega (arith, some)) (omega (arith, i)) in
    let above : 1 ≤ t = le-div 1 (65536 * (k + 1)) c (omega (arith, some)) (omega (arith, most)) in
    let within : t ≤ 65536 = div-le_of_le-mul c (omega (arith, fits)) in
    and _ _ (line_piece_good g b e s t zg rises above within) (line_pieces_good g b e c (k + 1) left zg some most (omega (arith, fits)))

lines_of : (step : ℤ) (b e : Point3) (c : ℕ) → IsStep step → 1 ≤ c → c ≤ 65535 → IsTrue (list_all good_piece (line_pieces_from step b e c 0 c))
lines_of (pos g) b e c range some most = line_pieces_good g b e c 0 c (omega (arith, ints, range.least)) some most (omega arith)
lines_of (negsuc g) b e c range some most = absurd (omega (arith, ints, range.least))

-- ---- arcs

-- a position whose grid point is within the travel isn't far from zero
near_zero : (step low high z : ℤ) → IsStep step → unsigned_abs low ≤ 3999000000 → unsigned_abs high ≤ 3999000000 →
    low ≤ℤ (nearest z step *ℤ step) → (nearest z step *ℤ step) ≤ℤ high → unsigned_abs z ≤ 4000000000
near_zero (pos s) low high z range l h above below =
    let i = nearest_near z s (omega (arith, ints, range.least)) in
    omega (arith, ints, i, range.greatest)
near_zero (negsuc s) low high z range l h above below = absurd (omega (arith, ints, range.least))

within_test : (z : ℤ) → unsigned_abs z ≤ 4000000000 → IsTrue (is_within 4000000000 z)
within_test z h = grind (arith, nat_tests)

plane_within : (plane : Plane) (p : Point3) → unsigned_abs p.x ≤ 4000000000 → unsigned_abs p.y ≤ 4000000000 → unsigned_abs p.z ≤ 4000000000 →
    IsTrue (is_within 4000000000 (in_plane plane p).u && is_within 4000000000 (in_plane plane p).v)
plane_within XY p x y z = and _ _ (within_test p.x x) (within_test p.y y)
plane_within ZX p x y z = and _ _ (within_test p.z z) (within_test p.x x)
plane_within YZ p x y z = and _ _ (within_test p.y y) (within_test p.z z)

-- the end of an arc with a valid piece
end_within : (machine : MachineFile) (tool : Option Tool) (p : Point3) → IsStep machine.step → IsTravel machine.step machine.low machine.high machine.start →
    IsSafe machine tool (grid machine.step p) → (plane : Plane) →
    IsTrue (is_within 4000000000 (in_plane plane p).u && is_within 4000000000 (in_plane plane p).v)
end_within machine tool p step travel safe plane =
    let lowhigh = both _ _ safe.inside in
    let low = both _ _ lowhigh.0 in let low_yz = both _ _ low.1 in
    let high = both _ _ lowhigh.1 in let high_yz = both _ _ high.1 in
    plane_within plane p
    (near_zero machine.step machine.low.x machine.high.x p.x step travel.low_sized.x travel.high_sized.x (le_of _ _ low.0) (le_of _ _ high.0))
    (near_zero machine.step machine.low.y machine.high.y p.y step travel.low_sized.y travel.high_sized.y (le_of _ _ low_yz.0) (le_of _ _ high_yz.0))
    (near_zero machine.step machine.low.z machine.high.z p.z step travel.low_sized.z travel.high_sized.z (le_of _ _ low_yz.1) (le_of _ _ high_yz.1))

step_positive : (step : ℤ) → IsStep step → pos 1 ≤ℤ step
step_positive step h = omega (arith, ints, h.least)

arc_good : (machine : MachineFile) (tool : Option Tool) (a : ArcShape) → IsStep machine.step → IsTravel machine.step machine.low machine.high machine.start →
    ArePiecesValid machine tool (Arc a) (whole_arc machine.step a ∷ []) → IsTrue (good_piece (whole_arc machine.step a))
arc_good machine tool a step travel valid =
    let k = end_inside machine.step a step in
    let q = grid machine.step a.end in
    let safe = safe_in_piece machine tool (Arc a) (stretch false true (first_cut (Arc a))) (whole_arc machine.step a) q
    (step_positive machine.step step) valid k in
    let b = swept_box machine.step a in
    and _ _ (end_within machine tool a.end step travel safe a.plane)
    (and _ _ (le_test b.low.x b.high.x (le_trans b.low.x q.x b.high.x k.x_low k.x_high))
    (and _ _ (le_test b.low.y b.high.y (le_trans b.low.y q.y b.high.y k.y_low k.y_high))
    (le_test b.low.z b.high.z (le_trans b.low.z q.z b.high.z k.z_low k.z_high))))

-- ---- motions

pub pieces_good : (machine : MachineFile) (tool : Option Tool) (w : Way) (c : ℕ) → IsStep machine.step →
    IsTravel machine.step machine.low machine.high machine.start →
    1 ≤ c → c ≤ 65535 → ArePiecesValid machine tool w (pieces_of machine.step w c) → IsTrue (list_all good_piece (pieces_of machine.step w c))
pieces_good machine tool (Line b e) c step travel some most valid = lines_of machine.step b e c step some most
pieces_good machine tool (Arc a) c step travel some most valid = and _ _ (arc_good machine tool a step travel valid) refl
