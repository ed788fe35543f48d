-- A program that fits stays inside the travel.
use Rattle.std.proofs.Common.{◌≡◌, ℕ, zero, suc, ◌+◌, ◌*◌, ◌/◌, ◌<◌, ℤ, pos, negsuc, neg_ℤ, ◌*ℤ◌, ◌≤ℤ◌, List, [], ◌∷◌, ◌++◌, true, false, subst, ap, sym, ◌∙◌, refl, arith}
use Rattle.std.specs.Prelude.{fold, map, flat_map, IsTrue, Bool, ◌&&◌, int_le, int_lt, int_div, int_rem}
use Rattle.std.specs.List.{All, list_all}
use Rattle.std.specs.Int.{int_min, int_max}
use Rattle.std.proofs.Math.Bool.{cond}
use Rattle.std.proofs.lemmas.Int.{ints, quot-rem}
use Rattle.std.proofs.lemmas.Nat.{div-mul-add}
use Rattle.std.proofs.lemmas.List.Elements.{All-nil, All-head, All-tail, All-append, All-map, All-same}
use Rattle.std.proofs.lemmas.List.Concat.{flat_map-cons}
use Rattle.std.proofs.lemmas.List.Sums.{fold-append}
use Rattle.ngc_fixed_length.specs.Boxes.{IsIn, only}
use Rattle.ngc_fixed_length.specs.Grid.{grid}
use Rattle.ngc_fixed_length.specs.Rounding.{nearest, nearest_size}
use Rattle.ngc_fixed_length.specs.declared.points.GridBox.{GridBox}
use Rattle.ngc_fixed_length.specs.declared.points.Point3.{Point3}
use Rattle.ngc_fixed_length.specs.declared.points.StepPos.{StepPos}
use Rattle.ngc_machine_files.specs.Machine.{MachineFile}
use Rattle.ngc_machine_files.specs.MachineRanges.{IsMachine}
use Rattle.ngc_machine_files.specs.Ranges.{IsAtMost}
use Rattle.ngc_collision.specs.Body.{is_in_travel, is_below, nanometres_of}
use Rattle.ngc_certificate_text.specs.Certificate.{Entry}
use Rattle.ngc_certificate_text.specs.declared.piece.Piece.{Piece}
use Rattle.ngc_findings.specs.Extents.{joint_box, boxes_of, fit_extent, FitExtentHoldsPieces, FitExtentHoldsStart}
use Rattle.ngc_report.specs.Reports.{use_lines, is_line_inside, ArePiecesInTravel, FitStaysInside}
use Rattle.ngc_findings.specs.Rooms.{room, is_inside, is_inside_on}
use Rattle.ngc_findings.specs.Uses.{tool_uses}
use Rattle.ngc_findings.specs.declared.uses.ToolUse.{ToolUse}
use Rattle.ngc_report.proofs.ExtentHoldsPoints.{in_right, in_first, at_itself}
use Rattle.ngc_findings.proofs.Tests.{room_law}

-- ---- the boxes of all pieces

all_boxes : (P : GridBox → Type 0) (ms : List Entry) → All (λ (e : Entry). All (λ (p : Piece). P p.bounds) e.pieces) ms → All P (flat_map boxes_of ms)
all_boxes P [] each = All-nil P
all_boxes P (e ∷ es) each =
    All-same P _ _ (flat_map-cons boxes_of e es)
    (All-append P (boxes_of e) (flat_map boxes_of es)
    (All-map P (λ (p : Piece). p.bounds) e.pieces (All-head (λ (e : Entry). All (λ (p : Piece). P p.bounds) e.pieces) e es each))
    (all_boxes P es (All-tail (λ (e : Entry). All (λ (p : Piece). P p.bounds) e.pieces) e es each)))

-- if two boxes with a property have a joint box with it, so does the joint box of all
all_joint : (P : GridBox → Type 0) → ((a b : GridBox) → P a → P b → P (joint_box a b)) → (a : GridBox) (bs : List GridBox) → P a → All P bs
    → P (fold joint_box a bs)
all_joint P two a [] first each = first
all_joint P two a (b ∷ bs) first each =
    all_joint P two (joint_box a b) bs (two a b first (All-head P b bs each)) (All-tail P b bs each)

-- ---- it holds each piece

in_pieces : (a : GridBox) (ps : List Piece) (rest : List GridBox) →
    All (λ (p : Piece). (q : StepPos) → IsIn p.bounds q → IsIn (fold joint_box a (map (λ (p : Piece). p.bounds) ps ++ rest)) q) ps
in_pieces a [] rest k d inside q h = absurd (omega arith)
in_pieces a (p ∷ ps) rest zero d inside q h =
    in_first (joint_box a p.bounds) (map (λ (p : Piece). p.bounds) ps ++ rest) q (in_right a p.bounds q h)
in_pieces a (p ∷ ps) rest (suc k) d inside q h = in_pieces (joint_box a p.bounds) ps rest k d (omega arith) q h

abbrev AreInJoint : GridBox → List GridBox → Entry → Type 0
AreInJoint a bs e = All (λ (p : Piece). (q : StepPos) → IsIn p.bounds q → IsIn (fold joint_box a bs) q) e.pieces

in_motions : (a : GridBox) (ms : List Entry) → All (AreInJoint a (flat_map boxes_of ms)) ms
in_motions a [] k d inside = absurd (omega arith)
in_motions a (e ∷ es) zero d inside =
    subst (λ (l : List GridBox). AreInJoint a l e) (sym (flat_map-cons boxes_of e es)) (in_pieces a e.pieces (flat_map boxes_of es))
in_motions a (e ∷ es) (suc k) d inside =
    let joined : fold joint_box (fold joint_box a (boxes_of e)) (flat_map boxes_of es) ≡ fold joint_box a (flat_map boxes_of (e ∷ es)) =
    sym (fold-append joint_box a (boxes_of e) (flat_map boxes_of es)) ∙ ap (fold joint_box a) (sym (flat_map-cons boxes_of e es)) in
    λ j f below q h. subst (λ (b : GridBox). IsIn b q) joined (in_motions (fold joint_box a (boxes_of e)) es k d (omega arith) j f below q h)

pub pieces_law : FitExtentHoldsPieces
pieces_law machine motions = in_motions (only (grid machine.step machine.start)) motions

pub start_law : FitExtentHoldsStart
start_law machine motions =
    in_first (only (grid machine.step machine.start)) (flat_map boxes_of motions) (grid machine.step machine.start)
    (at_itself (grid machine.step machine.start))

-- ---- tests that are true

no_truth : IsTrue false → ⊥
no_truth h = cc

pub both : (a b : Bool) → IsTrue (a && b) → IsTrue a × IsTrue b
both true b h = (refl, h)
both false b h = absurd (no_truth h)

pub and : (a b : Bool) → IsTrue a → IsTrue b → IsTrue (a && b)
and true b h i = i
and false b h i = absurd (no_truth h)

pub le_test : (a b : ℤ) → a ≤ℤ b → IsTrue (int_le a b)
le_test a b h = grind (arith, ints)

-- ---- two boxes inside the travel

one_of : (P : ℤ → Type 0) (t : Bool) (a b : ℤ) → P a → P b → P (cond t a b)
one_of P true a b h i = h
one_of P false a b h i = i

lesser_holds : (P : ℤ → Type 0) (a b : ℤ) → P a → P b → P (int_min a b)
lesser_holds P a b h i = one_of P (int_lt b a) b a i h

greater_holds : (P : ℤ → Type 0) (a b : ℤ) → P a → P b → P (int_max a b)
greater_holds P a b h i = one_of P (int_lt b a) a b h i

low_holds : (step : ℤ) (l : Point3) (p q : StepPos) → IsTrue (is_below l (nanometres_of step p)) → IsTrue (is_below l (nanometres_of step q)) →
    IsTrue (is_below l (nanometres_of step (record { x = int_min p.x q.x; y = int_min p.y q.y; z = int_min p.z q.z })))
low_holds step l p q h i =
    let h1 = both _ _ h in
    let h2 = both _ _ h1.1 in
    let i1 = both _ _ i in
    let i2 = both _ _ i1.1 in
    and _ _ (lesser_holds (λ (t : ℤ). IsTrue (int_le l.x (t *ℤ step))) p.x q.x h1.0 i1.0)
    (and _ _ (lesser_holds (λ (t : ℤ). IsTrue (int_le l.y (t *ℤ step))) p.y q.y h2.0 i2.0)
    (lesser_holds (λ (t : ℤ). IsTrue (int_le l.z (t *ℤ step))) p.z q.z h2.1 i2.1))

high_holds : (step : ℤ) (l : Point3) (p q : StepPos) → IsTrue (is_below (nanometres_of step p) l) → IsTrue (is_below (nanometres_of step q) l) →
    IsTrue (is_below (nanometres_of step (record { x = int_max p.x q.x; y = int_max p.y q.y; z = int_max p.z q.z })) l)
high_holds step l p q h i =
    let h1 = both _ _ h in
    let h2 = both _ _ h1.1 in
    let i1 = both _ _ i in
    let i2 = both _ _ i1.1 in
    and _ _ (greater_holds (λ (t : ℤ). IsTrue (int_le (t *ℤ step) l.x)) p.x q.x h1.0 i1.0)
    (and _ _ (greater_holds (λ (t : ℤ). IsTrue (int_le (t *ℤ step) l.y)) p.y q.y h2.0 i2.0)
    (greater_holds (λ (t : ℤ). IsTrue (int_le (t *ℤ step) l.z)) p.z q.z h2.1 i2.1))

joint_inside : (machine : MachineFile) (a b : GridBox) → IsTrue (is_in_travel machine a) → IsTrue (is_in_travel machine b) →
    IsTrue (is_in_travel machine (joint_box a b))
joint_inside machine a b h i =
    let first = both _ _ h in
    let second = both _ _ i in
    and _ _ (low_holds machine.step machine.low a.low b.low first.0 second.0) (high_holds machine.step machine.high a.high b.high first.1 second.1)

-- ---- the start point

whole_nearest : (m g : ℕ) → 0 < g → nearest_size (m * g) g ≡ m
whole_nearest m g p = let e : 2 * (m * g) + g ≡ m * (2 * g) + g = omega arith in ap (λ t. t / (2 * g)) e ∙ div-mul-add m (2 * g) g (omega arith)

-- a multiple of the step is its own grid point
nearest_multiple : (q : ℤ) (g : ℕ) → nearest (q *ℤ pos (suc g)) (pos (suc g)) ≡ q
nearest_multiple (pos m) g = ap pos (whole_nearest m (suc g) (omega arith))
nearest_multiple (negsuc m) g =
    let e : suc m * suc g ≡ suc (m * suc g + g) = omega arith in
    let a : nearest (negsuc m *ℤ pos (suc g)) (pos (suc g)) ≡ nearest (negsuc (m * suc g + g)) (pos (suc g)) =
    ap (λ t. nearest (neg_ℤ (pos t)) (pos (suc g))) e in
    let b : nearest_size (suc (m * suc g + g)) (suc g) ≡ suc m = ap (λ t. nearest_size t (suc g)) (sym e) ∙ whole_nearest (suc m) (suc g) (omega arith) in
    a ∙ ap (λ t. neg_ℤ (pos t)) b

on_grid : (step c : ℤ) → pos 1 ≤ℤ step → int_rem c step ≡ pos 0 → nearest c step *ℤ step ≡ c
on_grid (pos zero) c p z = absurd (omega (arith, ints, p))
on_grid (negsuc g) c p z = absurd (omega (arith, ints, p))
on_grid (pos (suc g)) c p z =
    let q = quot-rem c (pos (suc g)) in
    let e : int_div c (pos (suc g)) *ℤ pos (suc g) ≡ c = omega (arith, ints, q, z) in
    subst (λ t. nearest t (pos (suc g)) *ℤ pos (suc g) ≡ t) e (ap (λ t. t *ℤ pos (suc g)) (nearest_multiple (int_div c (pos (suc g))) g))

abbrev made : ℤ → ℤ → ℤ → Point3
made x y z = record { x = x; y = y; z = z }

same_point : {a b c d e f : ℤ} → a ≡ d → b ≡ e → c ≡ f → made a b c ≡ made d e f
same_point {a} {b} {c} {d} {e} {f} x y z = ap (λ t. made t b c) x ∙ ap (λ t. made d t c) y ∙ ap (λ t. made d e t) z

start_exact : (machine : MachineFile) → IsMachine machine → nanometres_of machine.step (grid machine.step machine.start) ≡ machine.start
start_exact machine m =
    let i = m.step.least in
    let s : pos 1 ≤ℤ machine.step = omega (arith, ints, i) in
    let g = m.travel.start_on_grid in
    same_point (on_grid machine.step machine.start.x s g.x) (on_grid machine.step machine.start.y s g.y) (on_grid machine.step machine.start.z s g.z)

tested : (p q : Point3) → IsAtMost p q → IsTrue (is_below p q)
tested p q h = and _ _ (le_test p.x q.x h.x) (and _ _ (le_test p.y q.y h.y) (le_test p.z q.z h.z))

start_inside : (machine : MachineFile) → IsMachine machine → IsTrue (is_in_travel machine (only (grid machine.step machine.start)))
start_inside machine m = and _ _
    (subst (λ p. IsTrue (is_below machine.low p)) (sym (start_exact machine m)) (tested machine.low machine.start m.travel.start_above))
    (subst (λ p. IsTrue (is_below p machine.high)) (sym (start_exact machine m)) (tested machine.start machine.high m.travel.start_below))

-- ---- the whole report

extent_inside : (machine : MachineFile) (motions : List Entry) → IsMachine machine → ArePiecesInTravel machine motions →
    IsTrue (is_in_travel machine (fit_extent machine motions))
extent_inside machine motions m pieces =
    all_joint (λ (b : GridBox). IsTrue (is_in_travel machine b)) (joint_inside machine) (only (grid machine.step machine.start)) (flat_map boxes_of motions)
    (start_inside machine m) (all_boxes (λ (b : GridBox). IsTrue (is_in_travel machine b)) motions pieces)

-- the lines of uses have no extent
uses_inside : (machine : MachineFile) (us : List ToolUse) (motions : List Entry) → IsTrue (list_all is_line_inside (use_lines machine us motions))
uses_inside machine [] motions = refl
uses_inside machine (u ∷ us) motions = uses_inside machine us _

sides_inside : (x y z rest : Bool) → IsTrue (x && (y && z)) → IsTrue rest → IsTrue (x && (y && (z && rest)))
sides_inside x y z rest h i =
    let first = both x (y && z) h in
    let second = both y z first.1 in
    and x (y && (z && rest)) first.0 (and y (z && rest) second.0 (and z rest second.1 i))

pub inside_law : FitStaysInside
inside_law machine commands motions m pieces =
    let r = room machine (fit_extent machine motions) in
    let fits : IsTrue (is_inside r) = subst IsTrue (sym (room_law machine (fit_extent machine motions))) (extent_inside machine motions m pieces) in
    sides_inside (is_inside_on r.x) (is_inside_on r.y) (is_inside_on r.z) (list_all is_line_inside (use_lines machine (tool_uses commands) motions)) fits
    (uses_inside machine (tool_uses commands) motions)
