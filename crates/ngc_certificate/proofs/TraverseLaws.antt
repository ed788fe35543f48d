-- Traverses on a machine whose control may take any way within the box of their ends.
use Rattle.std.proofs.Common.{◌≡◌, ℕ, ◌≤◌, refl, ap, sym, subst, ◌∙◌, arith, List, [], ◌∷◌, length, Some, None, true, false}
use Rattle.std.specs.Prelude.{Option, Bool, option_map, ℤ, ◌==◌, nat_lt, IsTrue, if◌then◌else◌}
use Rattle.std.specs.List.{find}
use Rattle.std.proofs.lemmas.Int.{ints}
use Rattle.std.proofs.lemmas.Bool.Decides.{nat_tests}
use Rattle.ngc_fixed_length.specs.Boxes.{box_of}
use Rattle.ngc_fixed_length.specs.Grid.{grid}
use Rattle.ngc_fixed_length.specs.Length.{IsStep}
use Rattle.ngc_fixed_length.specs.declared.points.Point3.{Point3}
use Rattle.ngc_machine_files.specs.Machine.{MachineFile}
use Rattle.ngc_machine_files.specs.declared.tools.Tool.{Tool}
use Rattle.ngc_arc_geometry.specs.Shape.{ArcShape}
use Rattle.ngc_commands.specs.declared.command.Action.{Action}
use Rattle.ngc_commands.specs.declared.command.Action.TheVariants.{Move, Mount}
use Rattle.ngc_commands.specs.declared.movement.Pace.{Pace}
use Rattle.ngc_commands.specs.declared.movement.Way.{Way}
use Rattle.ngc_commands.specs.declared.movement.Way.TheVariants.{Line, Arc}
use Rattle.ngc_commands.specs.Movement.{actions_of, end_of}
use Rattle.ngc_certificate_text.specs.declared.piece.Cut.{Cut}
use Rattle.ngc_certificate_text.specs.declared.piece.Cut.TheVariants.{Part, Place}
use Rattle.ngc_certificate_text.specs.declared.piece.Piece.{Piece}
use Rattle.ngc_certificate_text.specs.Certificate.{Entry}
use Rattle.ngc_certificate.specs.Chain.{follows, part_of, stretch}
use Rattle.ngc_certificate.specs.DerivedBox.{line_box}
use Rattle.ngc_certificate.specs.PieceFault.{ArePiecesValid}
use Rattle.ngc_certificate.specs.Made.{pieces_of, cleared, MayHavePieces, MayFindPieces}
use Rattle.ngc_certificate.specs.Making.{is_clear_in}
use Rattle.ngc_certificate.specs.Traverses.{takes_any_way, most_pieces, AreWhole, IsSafeEachWay, AreSafeEachWay, lies_in}
use Rattle.ngc_certificate.specs.Valid.{AreClearFrom, ValidIsSafeEachWay}
use Rattle.ngc_certificate.proofs.TrueTests.{both}
use Rattle.ngc_certificate.proofs.SafeInPiece.{point_in_piece}
use Rattle.ngc_certificate.proofs.WholeLine.{whole_line}

-- ---- how many pieces a motion may have

least_of : (free : Bool) (most : ℕ) → 1 ≤ most → 1 ≤ (if free then 1 else most)
least_of true most h = omega arith
least_of false most h = h

greatest_of : (free : Bool) (most : ℕ) → most ≤ 65535 → (if free then 1 else most) ≤ 65535
greatest_of true most h = omega arith
greatest_of false most h = h

pub most_least : (machine : MachineFile) (most : ℕ) (pace : Pace) → 1 ≤ most → 1 ≤ most_pieces machine most pace
most_least machine most pace h = least_of (takes_any_way machine pace) most h

pub most_greatest : (machine : MachineFile) (most : ℕ) (pace : Pace) → most ≤ 65535 → most_pieces machine most pace ≤ 65535
most_greatest machine most pace h = greatest_of (takes_any_way machine pace) most h

-- ---- what is found for at most one piece

same_some : {A : Type 0} (x y : A) → Some x ≡ Some y → x ≡ y
same_some x y h = cc

none_some : {A : Type 0} (x : A) → None ≡ Some x → ⊥
none_some x h = cc

one_tried : (f : ℕ → List Piece) (test : ℕ → Bool) (clear : Bool) (pieces : List Piece) → test 1 ≡ clear →
    option_map f (find test (1 ∷ [])) ≡ Some pieces → pieces ≡ f 1
one_tried f test true pieces e h = same_some _ _ (sym h ∙ simp e)
one_tried f test false pieces e h = absurd (none_some pieces (sym (the_none f test e) ∙ h))
  where
    the_none : (f : ℕ → List Piece) (test : ℕ → Bool) → test 1 ≡ false → option_map f (find test (1 ∷ [])) ≡ None
    the_none f test e = simp e

line_single : (machine : MachineFile) (tool : Option Tool) (b e : Point3) (pieces : List Piece) → cleared machine 1 tool (Line b e) ≡ Some pieces →
    length pieces ≤ 1
line_single machine tool b e pieces h =
    let one = one_tried (pieces_of machine.step (Line b e)) (is_clear_in machine tool (Line b e)) (is_clear_in machine tool (Line b e) 1) pieces refl h in
    rw one (omega arith)

arc_single : (machine : MachineFile) (tool : Option Tool) (a : ArcShape) (pieces : List Piece) (clear : Bool) → is_clear_in machine tool (Arc a) 1 ≡ clear →
    MayHavePieces machine 1 tool a (Some pieces) → length pieces ≤ 1
arc_single machine tool a pieces true e may = rw (same_some _ _ (may.whole e)) (omega arith)
arc_single machine tool a pieces false e may = (may.cut e).few

single : (machine : MachineFile) (tool : Option Tool) (w : Way) (pieces : List Piece) → MayFindPieces machine 1 tool w (Some pieces) → length pieces ≤ 1
single machine tool (Line b e) pieces may = line_single machine tool b e pieces (sym may)
single machine tool (Arc a) pieces may = arc_single machine tool a pieces (is_clear_in machine tool (Arc a) 1) refl may

pub found_whole : (machine : MachineFile) (most : ℕ) (tool : Option Tool) (w : Way) (pace : Pace) (found : Option (List Piece)) (pieces : List Piece) →
    MayFindPieces machine (most_pieces machine most pace) tool w found → found ≡ Some pieces →
    takes_any_way machine pace ≡ true → length pieces ≤ 1
found_whole machine most tool w pace found pieces may is free =
    let one : most_pieces machine most pace ≡ 1 = ap (λ (f : Bool). if f then 1 else most) free in
    single machine tool w pieces (subst (λ (n : ℕ). MayFindPieces machine n tool w (Some pieces)) one
    (subst (MayFindPieces machine (most_pieces machine most pace) tool w) is may))

-- ---- each point in the box of a line's ends

end_whole : (step : ℤ) (b e : Point3) (cut : Cut) → IsTrue (follows step (Line b e) (stretch false true (Part 0)) cut) → part_of cut ≡ 65536
end_whole step b e (Part t) h =
    let last = both (nat_lt 0 t) (t == 65536) h in
    let whole : (t == 65536) ≡ true = last.1 in
    grind (arith, nat_tests)
end_whole step b e (Place q) h = absurd (false≢true h)
  where
    false≢true : false ≡ true → ⊥
    false≢true k = cc

safe_line : (machine : MachineFile) (tool : Option Tool) (b e : Point3) (pieces : List Piece) → IsStep machine.step →
    ArePiecesValid machine tool (Line b e) pieces → length pieces ≤ 1 → IsSafeEachWay machine tool (Line b e)
safe_line machine tool b e [] step valid few = absurd valid
safe_line machine tool b e (p ∷ []) step valid few = λ q inside.
    let last = end_whole machine.step b e p.end valid.chain in
    let whole : line_box machine.step b e 0 (part_of p.end) ≡ box_of (grid machine.step b) (grid machine.step e) =
    ap (line_box machine.step b e 0) last ∙ whole_line machine.step b e step in
    point_in_piece machine tool (Line b e) (stretch false true (Part 0)) p q (omega (arith, ints, step.least)) valid
    (subst (λ bounds. IsTrue (lies_in machine.step bounds q)) (sym whole) inside)
safe_line machine tool b e (p ∷ r ∷ ps) step valid few = absurd (omega (arith, few))

safe_way : (machine : MachineFile) (tool : Option Tool) (w : Way) (pieces : List Piece) → IsStep machine.step →
    ArePiecesValid machine tool w pieces → length pieces ≤ 1 → IsSafeEachWay machine tool w
safe_way machine tool (Line b e) pieces step valid few = safe_line machine tool b e pieces step valid few
safe_way machine tool (Arc a) pieces step valid few = tt

safe_each_way : (machine : MachineFile) (tool : Option Tool) (place : Point3) (actions : List Action) (entries : List Entry) → IsStep machine.step →
    AreClearFrom machine tool place actions entries → AreWhole machine actions entries → AreSafeEachWay machine tool actions
safe_each_way machine tool place [] entries step clear whole = tt
safe_each_way machine tool place (Mount new ∷ actions) entries step clear whole = safe_each_way machine new place actions entries step clear.1 whole
safe_each_way machine tool place (Move m ∷ actions) (entry ∷ entries) step clear whole = (
  λ free. safe_way machine tool m.way entry.pieces step clear.0 (whole.0 free),
  safe_each_way machine tool (end_of m.way) actions entries step clear.1 whole.1,
)
safe_each_way machine tool place (Move m ∷ actions) [] step clear whole = absurd clear
safe_each_way machine tool place (_ ∷ actions) entries step clear whole = safe_each_way machine tool place actions entries step clear whole

pub each_way_law : ValidIsSafeEachWay
each_way_law machine commands entries step valid = safe_each_way machine None machine.start (actions_of commands) entries step valid.clear valid.whole
