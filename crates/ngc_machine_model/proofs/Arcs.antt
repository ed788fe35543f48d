-- Each arc of commands for which a certificate is valid is near zero, and its radii are even.
use Rattle.std.proofs.Common.{ℕ, zero, suc, ◌≤◌, arith, List, [], ◌∷◌, drop, ℤ, pos, negsuc, ◌*ℤ◌, ◌≤ℤ◌}
use Rattle.std.specs.Prelude.{Option, unsigned_abs}
use Rattle.std.proofs.lemmas.Int.{ints}
use Rattle.ngc_fixed_length.specs.declared.points.Point3.{Point3}
use Rattle.ngc_fixed_length.specs.Grid.{grid}
use Rattle.ngc_fixed_length.specs.Length.{IsStep}
use Rattle.ngc_fixed_length.specs.Rounding.{nearest}
use Rattle.ngc_fixed_length.proofs.Nearest.{nearest_near}
use Rattle.ngc_arc_geometry.specs.Radii.{IsArc}
use Rattle.ngc_arc_geometry.specs.Shape.{IsNear, END_LIMIT}
use Rattle.ngc_machine_files.specs.Machine.{MachineFile}
use Rattle.ngc_machine_files.specs.MachineRanges.{IsMachine}
use Rattle.ngc_machine_files.specs.Ranges.{TRAVEL_LIMIT}
use Rattle.ngc_machine_files.specs.declared.tools.Tool.{Tool}
use Rattle.ngc_commands.specs.declared.command.Command.{Command}
use Rattle.ngc_commands.specs.Sequence.{IsEvenIfArc, HaveEvenRadii}
use Rattle.ngc_commands.specs.Movement.{actions_of, ways_of, end_of}
use Rattle.ngc_commands.specs.declared.movement.Way.{Way}
use Rattle.ngc_commands.specs.declared.movement.Way.TheVariants.{Line, Arc}
use Rattle.ngc_commands.specs.declared.command.Action.{Action}
use Rattle.ngc_commands.specs.declared.command.Action.TheVariants.{Move, Mount}
use Rattle.ngc_collision.specs.Body.{IsSafe}
use Rattle.ngc_certificate_text.specs.Certificate.{Entry}
use Rattle.ngc_certificate_text.specs.declared.piece.Piece.{Piece}
use Rattle.ngc_certificate.specs.Chain.{first_cut, are_several}
use Rattle.ngc_certificate.specs.PieceFault.{ArePiecesValid}
use Rattle.ngc_certificate.specs.Valid.{AreClearFrom, IsValid}
use Rattle.ngc_certificate.proofs.ArcEnds.{start_is_safe, end_is_safe}
use Rattle.ngc_certificate.proofs.TrueTests.{both, le_of}
use Rattle.ngc_machine_model.proofs.SafePositions.{one_step}

abbrev pub IsArcIfCurved : Way → Type 0
IsArcIfCurved (Line b e) = Unit {0}
IsArcIfCurved (Arc a) = IsArc a

abbrev pub AreArcs : List Way → Type 0
AreArcs [] = Unit {0}
AreArcs (way ∷ ways) = IsArcIfCurved way × AreArcs ways

-- ---- a position whose grid point is within travel

near_zero : (z step low high : ℤ) → IsStep step → unsigned_abs low ≤ TRAVEL_LIMIT → unsigned_abs high ≤ TRAVEL_LIMIT →
    low ≤ℤ (nearest z step *ℤ step) → (nearest z step *ℤ step) ≤ℤ high → unsigned_abs z ≤ END_LIMIT
near_zero z (pos s) low high step l h above below =
    let near = nearest_near z s (omega (arith, ints, step.least)) in omega (arith, ints, near, step.greatest, l, h, above, below)
near_zero z (negsuc s) low high step l h above below = absurd (omega (arith, ints, step.least))

near_place : (machine : MachineFile) (tool : Option Tool) (p : Point3) → IsMachine machine → IsSafe machine tool (grid machine.step p) → IsNear p
near_place machine tool p m safe =
    let t = m.travel in
    let lowhigh = both _ _ safe.inside in
    let low = both _ _ lowhigh.0 in let low_yz = both _ _ low.1 in
    let high = both _ _ lowhigh.1 in let high_yz = both _ _ high.1 in
    record {
      x = near_zero p.x machine.step machine.low.x machine.high.x m.step t.low_sized.x t.high_sized.x (le_of _ _ low.0) (le_of _ _ high.0);
      y = near_zero p.y machine.step machine.low.y machine.high.y m.step t.low_sized.y t.high_sized.y (le_of _ _ low_yz.0) (le_of _ _ high_yz.0);
      z = near_zero p.z machine.step machine.low.z machine.high.z m.step t.low_sized.z t.high_sized.z (le_of _ _ low_yz.1) (le_of _ _ high_yz.1);
    }

-- ---- an arc whose pieces are valid

arc_if_valid : (machine : MachineFile) (tool : Option Tool) (way : Way) (pieces : List Piece) → IsMachine machine → ArePiecesValid machine tool way pieces →
    IsEvenIfArc way → IsArcIfCurved way
arc_if_valid machine tool (Line b e) pieces h v even = tt
arc_if_valid machine tool (Arc a) pieces h v even =
    let s = one_step machine h in
    record {
      start = near_place machine tool a.start h (start_is_safe machine tool a (are_several pieces) pieces h.step s v);
      end = near_place machine tool a.end h (end_is_safe machine tool a (are_several pieces) (first_cut (Arc a)) pieces h.step s v);
      some_radius = even.some_radius;
      radius = even.radius;
      even = even.even;
    }

-- ---- all of them

clear_arcs : (machine : MachineFile) (tool : Option Tool) (place : Point3) (actions : List Action) (entries : List Entry) → IsMachine machine →
    AreClearFrom machine tool place actions entries → HaveEvenRadii (ways_of actions) → AreArcs (ways_of actions)
clear_arcs machine tool place [] entries h c even = tt
clear_arcs machine tool place (Mount new ∷ actions) entries h c even = clear_arcs machine new place actions entries h c.1 even
clear_arcs machine tool place (Move m ∷ actions) [] h c even = absurd c
clear_arcs machine tool place (Move m ∷ actions) (entry ∷ entries) h c even =
    (arc_if_valid machine tool m.way entry.pieces h c.0 even.0, clear_arcs machine tool (end_of m.way) actions entries h c.1 even.1)
clear_arcs machine tool place (_ ∷ actions) entries h c even = clear_arcs machine tool place actions entries h c even

pub are_arcs : (machine : MachineFile) (commands : List Command) (entries : List Entry) → IsMachine machine → IsValid machine commands entries →
    HaveEvenRadii (ways_of (actions_of commands)) → AreArcs (ways_of (actions_of commands))
are_arcs machine commands entries h v even = clear_arcs machine _ machine.start (actions_of commands) entries h v.clear even

-- and of the remaining ones
behind_first : (d : Action) (actions : List Action) → AreArcs (ways_of (d ∷ actions)) → AreArcs (ways_of actions)
behind_first (Move m) actions arcs = arcs.1
behind_first _ actions arcs = arcs

pub arcs_left : (n : ℕ) (cs : List Command) → AreArcs (ways_of (actions_of cs)) → AreArcs (ways_of (actions_of (drop n cs)))
arcs_left zero cs arcs = arcs
arcs_left (suc n) [] arcs = tt
arcs_left (suc n) (c ∷ cs) arcs = arcs_left n cs (behind_first c.action (actions_of cs) arcs)
