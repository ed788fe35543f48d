-- The clear pieces of a line are not refused.
use Rattle.std.proofs.Common.{◌≡◌, ℕ, zero, suc, ◌+◌, ◌*◌, ◌/◌, ◌<◌, ◌≤◌, ℤ, ◌-ℤ◌, unsigned_abs, refl, sym, subst, arith, Some, None, true, false}
use Rattle.std.specs.Prelude.{Option, Bool, IsTrue, ◌==◌, not, if◌then◌else◌, option_map}
use Rattle.std.specs.Option.{is_none}
use Rattle.std.proofs.lemmas.Bool.Decides.{nat_tests}
use Rattle.std.proofs.lemmas.Int.{ints}
use Rattle.std.proofs.lemmas.Nat.{le-div}
use Rattle.std.proofs.Math.Nat.{div-mul-le_self, add-div_left, mul-div_left, zero-div}
use Rattle.ngc_fixed_length.specs.Boxes.{holds_box}
use Rattle.ngc_fixed_length.specs.Signed.{same}
use Rattle.ngc_fixed_length.specs.declared.points.Point3.{Point3}
use Rattle.ngc_fixed_length.specs.declared.points.GridBox.{GridBox}
use Rattle.ngc_machine_files.specs.Machine.{MachineFile}
use Rattle.ngc_machine_files.specs.declared.tools.Tool.{Tool}
use Rattle.ngc_collision.specs.Body.{first_met, is_in_travel}
use Rattle.ngc_arc_geometry.specs.Shape.{ArcShape, start_of, end_of}
use Rattle.ngc_arc_geometry.specs.Swept.{swept_box}
use Rattle.ngc_commands.specs.declared.movement.Way.{Way}
use Rattle.ngc_commands.specs.declared.movement.Way.TheVariants.{Line, Arc}
use Rattle.ngc_certificate_text.specs.declared.piece.Piece.{Piece}
use Rattle.ngc_certificate_text.specs.declared.piece.Cut.TheVariants.{Part, Place}
use Rattle.ngc_certificate.specs.declared.fault.PieceFault.TheVariants.{Chain, NotCovered, OutsideTravel, MeetsFixture}
use Rattle.ngc_certificate.specs.declared.stretch.Stretch.{Stretch}
use Rattle.ngc_certificate.specs.Chain.{follows, line_follows, stretch, are_several}
use Rattle.ngc_certificate.specs.DerivedBox.{derived_box, line_box}
use Rattle.ngc_certificate.specs.PieceFault.{piece_fault, fault_from, pieces_fault, at_piece}
use Rattle.ngc_certificate.specs.Made.{line_piece, line_pieces_from, pieces_of}
use Rattle.ngc_certificate.proofs.NoFault.{some_none, map_none, both_none}
use Rattle.ngc_certificate.proofs.TrueTests.{le_test, both, and, no_truth}
use Rattle.ngc_place.specs.Holds.{is_clear, pieces_clear}

-- ---- one piece

nothing : {A : Type 0} (o : Option A) → IsTrue (is_none o) → o ≡ None
nothing None h = refl
nothing (Some x) h = absurd (no_truth h)

pub is_nothing : {A : Type 0} (o : Option A) → o ≡ None → is_none o ≡ true
is_nothing None h = refl
is_nothing (Some x) h = absurd (some_none x h)

passes : {A : Type 0} (a : Bool) (x : A) (rest : Option A) → IsTrue a → rest ≡ None → (if not a then Some x else rest) ≡ None
passes true x rest a h = h
passes false x rest a h = absurd (no_truth a)

holds_itself : (b : GridBox) → IsTrue (holds_box b b)
holds_itself b =
    and _ _
    (and _ _ (le_test b.low.x b.low.x (omega (arith, ints)))
    (and _ _ (le_test b.low.y b.low.y (omega (arith, ints))) (le_test b.low.z b.low.z (omega (arith, ints)))))
    (and _ _ (le_test b.high.x b.high.x (omega (arith, ints)))
    (and _ _ (le_test b.high.y b.high.y (omega (arith, ints))) (le_test b.high.z b.high.z (omega (arith, ints)))))

piece_passes : (machine : MachineFile) (tool : Option Tool) (w : Way) (s : Stretch) (p : Piece) → IsTrue (follows machine.step w s p.end) →
    p.bounds ≡ derived_box machine.step w s p.end → IsTrue (is_clear machine tool p.bounds) → piece_fault machine tool w s p ≡ None
piece_passes machine tool w s p chain box clear =
    let e = both (is_in_travel machine p.bounds) (is_none (first_met machine tool p.bounds)) clear in
    let covers : IsTrue (holds_box p.bounds (derived_box machine.step w s p.end))
    = subst (λ b. IsTrue (holds_box p.bounds b)) box (holds_itself p.bounds) in
    passes (follows machine.step w s p.end) Chain _ chain
    (passes (holds_box p.bounds (derived_box machine.step w s p.end)) NotCovered _ covers
    (passes (is_in_travel machine p.bounds) OutsideTravel _ e.0
    (map_none MeetsFixture (first_met machine tool p.bounds) (nothing (first_met machine tool p.bounds) e.1))))

-- ---- cuts of a line in c pieces

cuts_rise : (c k : ℕ) → 1 ≤ c → c ≤ 65536 → 65536 * k / c < 65536 * (k + 1) / c
cuts_rise c k some few =
    let one = add-div_left (65536 * k) {k = c} some in
    let up = le-div ((c + 65536 * k) / c) (65536 * (k + 1)) c some (omega (arith, few, div-mul-le_self (c + 65536 * k) c)) in
    omega (arith, one, up)

last_cut : (c k : ℕ) → 1 ≤ c → k + 1 ≡ c → 65536 * (k + 1) / c ≡ 65536
last_cut c k some h = subst (λ n. 65536 * n / c ≡ 65536) (sym h) (mul-div_left 65536 {n = c} some)

rising : (s t : ℕ) → s < t → IsTrue (line_follows false s t)
rising s t h = grind (arith, nat_tests)

rising_to_end : (s t : ℕ) → s < t → t ≡ 65536 → IsTrue (line_follows true s t)
rising_to_end s t h e = grind (arith, nat_tests)

-- the box of a piece that is tested at a single shift
one_box : (machine : MachineFile) (tool : Option Tool) (p q : Point3) (c k left : ℕ) → IsTrue (pieces_clear machine tool p q p q c k (suc left)) →
    IsTrue (is_clear machine tool (line_box machine.step p q (65536 * k / c) (65536 * (k + 1) / c)))
    × IsTrue (pieces_clear machine tool p q p q c (k + 1) left)
one_box machine tool p q c k left h = both _ _ h

none_from : (machine : MachineFile) (tool : Option Tool) (p q : Point3) (several : Bool) (j c k left : ℕ) → 1 ≤ c → c ≤ 65536 → k + 1 + left ≡ c →
    IsTrue (pieces_clear machine tool p q p q c k (suc left)) →
    fault_from machine tool (Line p q) several j (Part (65536 * k / c)) (line_pieces_from machine.step p q c k (suc left)) ≡ None
none_from machine tool p q several j c k zero some few end h =
    let e = one_box machine tool p q c k zero h in
    let piece = line_piece machine.step p q (65536 * k / c) (65536 * (k + 1) / c) in
    let follows_last = rising_to_end (65536 * k / c) (65536 * (k + 1) / c) (cuts_rise c k some few) (last_cut c k some (omega (arith, end))) in
    map_none (at_piece j) (piece_fault machine tool (Line p q) (stretch several true (Part (65536 * k / c))) piece)
    (piece_passes machine tool (Line p q) (stretch several true (Part (65536 * k / c))) piece follows_last refl e.0)
none_from machine tool p q several j c k (suc left) some few end h =
    let e = one_box machine tool p q c k (suc left) h in
    let piece = line_piece machine.step p q (65536 * k / c) (65536 * (k + 1) / c) in
    let follows_next = rising (65536 * k / c) (65536 * (k + 1) / c) (cuts_rise c k some few) in
    both_none (option_map (at_piece j) (piece_fault machine tool (Line p q) (stretch several false (Part (65536 * k / c))) piece))
    (fault_from machine tool (Line p q) several (j + 1) (Part (65536 * (k + 1) / c)) (line_pieces_from machine.step p q c (k + 1) (suc left)))
    (map_none (at_piece j) (piece_fault machine tool (Line p q) (stretch several false (Part (65536 * k / c))) piece)
    (piece_passes machine tool (Line p q) (stretch several false (Part (65536 * k / c))) piece follows_next refl e.0))
    (none_from machine tool p q several (j + 1) c (k + 1) left some few (omega (arith, end)) e.1)

pub line_passes : (machine : MachineFile) (tool : Option Tool) (p q : Point3) (c : ℕ) → 1 ≤ c → c ≤ 65536 →
    IsTrue (pieces_clear machine tool p q p q c 0 c) → is_none (pieces_fault machine tool (Line p q) (pieces_of machine.step (Line p q) c)) ≡ true
line_passes machine tool p q zero some few h = absurd (omega (arith, some))
line_passes machine tool p q (suc left) some few h =
    let pieces = line_pieces_from machine.step p q (suc left) 0 (suc left) in
    let none = none_from machine tool p q (are_several pieces) 0 (suc left) 0 left some few (omega arith) h in
    is_nothing (pieces_fault machine tool (Line p q) pieces)
    (subst (λ n. fault_from machine tool (Line p q) (are_several pieces) 0 (Part n) pieces ≡ None) (zero-div (suc left)) none)

same_self : (x : ℤ) → IsTrue (same x x)
same_self x = let zero_apart : unsigned_abs (x -ℤ x) ≡ 0 = omega (arith, ints) in subst (λ n. IsTrue (n == 0)) (sym zero_apart) refl

arc_none : (machine : MachineFile) (tool : Option Tool) (a : ArcShape) → IsTrue (is_clear machine tool (swept_box machine.step a)) →
    pieces_fault machine tool (Arc a) (pieces_of machine.step (Arc a) 1) ≡ None
arc_none machine tool a h =
    let begin = Place (start_of a) in
    let piece : Piece = record { end = Place (end_of a); bounds = swept_box machine.step a } in
    map_none (at_piece 0) (piece_fault machine tool (Arc a) (stretch false true begin) piece)
    (piece_passes machine tool (Arc a) (stretch false true begin) piece (and _ _ (same_self (end_of a).u) (same_self (end_of a).v)) refl h)

pub arc_passes : (machine : MachineFile) (tool : Option Tool) (a : ArcShape) → IsTrue (is_clear machine tool (swept_box machine.step a)) →
    is_none (pieces_fault machine tool (Arc a) (pieces_of machine.step (Arc a) 1)) ≡ true
arc_passes machine tool a h = is_nothing (pieces_fault machine tool (Arc a) (pieces_of machine.step (Arc a) 1)) (arc_none machine tool a h)
