-- If an arc's pieces are valid, the grid points of its ends are safe.
use Rattle.std.proofs.Common.{◌≡◌, List, [], ◌∷◌, subst, sym, Bool, true, false, pos, ℤ, ◌≤ℤ◌}
use Rattle.std.specs.Prelude.{Option, IsTrue, ◌&&◌, if◌then◌else◌}
use Rattle.ngc_fixed_length.specs.declared.points.Point2.{Point2}
use Rattle.ngc_fixed_length.specs.declared.points.StepPos.{StepPos}
use Rattle.ngc_fixed_length.specs.declared.points.GridBox.{GridBox}
use Rattle.ngc_fixed_length.specs.Boxes.{IsIn}
use Rattle.ngc_fixed_length.specs.Grid.{grid}
use Rattle.ngc_fixed_length.specs.Length.{IsStep}
use Rattle.ngc_arc_geometry.specs.Shape.{ArcShape, start_of, end_of}
use Rattle.ngc_arc_geometry.specs.Swept.{swept_box}
use Rattle.ngc_arc_geometry.specs.CutArc.{cut_box, turns_on, is_end, is_large}
use Rattle.ngc_arc_geometry.proofs.CutChain.{at_end}
use Rattle.ngc_arc_geometry.proofs.CutEnds.{start_in_cut, end_in_cut}
use Rattle.ngc_arc_geometry.proofs.CutSeen.{both}
use Rattle.ngc_arc_geometry.proofs.SweptEnds.{start_inside, end_inside}
use Rattle.ngc_machine_files.specs.declared.tools.Tool.{Tool}
use Rattle.ngc_machine_files.specs.Machine.{MachineFile}
use Rattle.ngc_commands.specs.declared.movement.Way.TheVariants.{Arc}
use Rattle.ngc_collision.specs.Body.{IsSafe}
use Rattle.ngc_certificate_text.specs.declared.piece.Cut.{Cut}
use Rattle.ngc_certificate_text.specs.declared.piece.Cut.TheVariants.{Part, Place}
use Rattle.ngc_certificate_text.specs.declared.piece.Piece.{Piece}
use Rattle.ngc_certificate.specs.Chain.{stretch, first_cut, place_of, follows}
use Rattle.ngc_certificate.specs.DerivedBox.{arc_box}
use Rattle.ngc_certificate.specs.PieceFault.{AreValidFrom}
use Rattle.ngc_certificate.proofs.SafeInPiece.{safe_in_piece}

in_either : (b : Bool) (x y : GridBox) (p : StepPos) → IsIn x p → IsIn y p → IsIn (if b then x else y) p
in_either true x y p h k = h
in_either false x y p h k = k

start_in_box : (step : ℤ) (a : ArcShape) (several last : Bool) (q : Point2) → IsStep step →
    IsIn (arc_box step a (stretch several last (first_cut (Arc a))) q) (grid step a.start)
start_in_box step a several last q s =
    in_either (several && is_large step a) (cut_box step a (start_of a) q) (swept_box step a) (grid step a.start) (start_in_cut step a q s)
    (start_inside step a s)

end_in_box : (step : ℤ) (a : ArcShape) (several last : Bool) (begin : Cut) → IsStep step →
    IsIn (arc_box step a (stretch several last begin) (end_of a)) (grid step a.end)
end_in_box step a several last begin s =
    in_either (several && is_large step a) (cut_box step a (place_of a begin) (end_of a)) (swept_box step a) (grid step a.end)
    (end_in_cut step a (place_of a begin) s) (end_inside step a s)

-- the last cut is the arc's end
last_at_end : (step : ℤ) (a : ArcShape) (several : Bool) (begin cut : Cut) → IsTrue (follows step (Arc a) (stretch several true begin) cut) →
    place_of a cut ≡ end_of a
last_at_end step a several begin (Part t) h = absurd (no_truth h)
  where
    no_truth : IsTrue false → ⊥
    no_truth k = cc
last_at_end step a true begin (Place q) h = at_end a q (both (turns_on a (place_of a begin) q) (is_end a q) h).1
last_at_end step a false begin (Place q) h = at_end a q h

pub start_is_safe : (machine : MachineFile) (tool : Option Tool) (a : ArcShape) (several : Bool) (pieces : List Piece) → IsStep machine.step →
    pos 1 ≤ℤ machine.step →
    AreValidFrom machine tool (Arc a) several (first_cut (Arc a)) pieces → IsSafe machine tool (grid machine.step a.start)
start_is_safe machine tool a several [] step s v = absurd v
start_is_safe machine tool a several (p ∷ []) step s v =
    safe_in_piece machine tool (Arc a) (stretch several true (first_cut (Arc a))) p (grid machine.step a.start) s v
    (start_in_box machine.step a several true (place_of a p.end) step)
start_is_safe machine tool a several (p ∷ r ∷ ps) step s v =
    safe_in_piece machine tool (Arc a) (stretch several false (first_cut (Arc a))) p (grid machine.step a.start) s v.0
    (start_in_box machine.step a several false (place_of a p.end) step)

pub end_is_safe : (machine : MachineFile) (tool : Option Tool) (a : ArcShape) (several : Bool) (begin : Cut) (pieces : List Piece) → IsStep machine.step →
    pos 1 ≤ℤ machine.step →
    AreValidFrom machine tool (Arc a) several begin pieces → IsSafe machine tool (grid machine.step a.end)
end_is_safe machine tool a several begin [] step s v = absurd v
end_is_safe machine tool a several begin (p ∷ []) step s v =
    let at = last_at_end machine.step a several begin p.end v.chain in
    safe_in_piece machine tool (Arc a) (stretch several true begin) p (grid machine.step a.end) s v
    (subst (λ q. IsIn (arc_box machine.step a (stretch several true begin) q) (grid machine.step a.end)) (sym at)
    (end_in_box machine.step a several true begin step))
end_is_safe machine tool a several begin (p ∷ r ∷ ps) step s v = end_is_safe machine tool a several p.end (r ∷ ps) step s v.1
