use Rattle.std.proofs.Common.{rules, ◌≡◌, true, ap, sym, ◌∙◌}
use Rattle.std.proofs.lemmas.Bool.{and_parts}
use Rattle.std.specs.Prelude.{◌&&◌}
use Rattle.ngc_fixed_length.specs.declared.modes.Plane.{Plane}
use Rattle.ngc_fixed_length.specs.declared.modes.Turn.{Turn}
use Rattle.ngc_fixed_length.specs.contracts.modes.PlanePartialEq.TheImpl as planes
use Rattle.ngc_fixed_length.specs.contracts.modes.TurnPartialEq.TheImpl as turns
use Rattle.ngc_fixed_length.specs.declared.points.Point2.{Point2}
use Rattle.ngc_fixed_length.specs.declared.points.Point3.{Point3}
use Rattle.ngc_fixed_length.specs.contracts.points.Point2PartialEq.TheImpl as flat
use Rattle.ngc_fixed_length.specs.contracts.points.Point3PartialEq.TheImpl as points
use Rattle.ngc_arc_geometry.specs.Shape.{ArcShape}
use Rattle.ngc_arc_geometry.specs.contracts.arc.ArcPartialEq.TheImpl as arcs
use Rattle.ngc_place.proofs.alike.same_arc.Goals as goal

point_is : (p q : Point3) → (points.eq-value).it p q ≡ true → p ≡ q
point_is p q h = search rules

flat_is : (p q : Point2) → (flat.eq-value).it p q ≡ true → p ≡ q
flat_is p q h = search rules

plane_is : (p q : Plane) → (planes.eq-value).it p q ≡ true → p ≡ q
plane_is p q h = search (rules, h)

turn_is : (p q : Turn) → (turns.eq-value).it p q ≡ true → p ≡ q
turn_is p q h = search (rules, h)

abbrev arc_with : Plane → Turn → Point3 → Point3 → Point2 → ArcShape
arc_with plane turn start end centre = record { plane = plane; turn = turn; start = start; end = end; centre = centre }

arc_from : (a b : ArcShape) → a.plane ≡ b.plane → a.turn ≡ b.turn → a.start ≡ b.start → a.end ≡ b.end → a.centre ≡ b.centre → a ≡ b
arc_from a b p t s e c =
    ap (λ (x : Plane). arc_with x a.turn a.start a.end a.centre) p ∙ ap (λ (x : Turn). arc_with b.plane x a.start a.end a.centre) t
    ∙ ap (λ (x : Point3). arc_with b.plane b.turn x a.end a.centre) s ∙ ap (λ (x : Point3). arc_with b.plane b.turn b.start x a.centre) e
    ∙ ap (λ (x : Point2). arc_with b.plane b.turn b.start b.end x) c

arc_is : (a b : ArcShape) → (arcs.eq-value).it a b ≡ true → a ≡ b
arc_is a b h =
    let plane = (planes.eq-value).it a.plane b.plane in
    let turn = (turns.eq-value).it a.turn b.turn in
    let start = (points.eq-value).it a.start b.start in
    let end = (points.eq-value).it a.end b.end in
    let centre = (flat.eq-value).it a.centre b.centre in
    let first = and_parts plane (turn && (start && (end && centre))) h in
    let second = and_parts turn (start && (end && centre)) first.1 in
    let third = and_parts start (end && centre) second.1 in
    let fourth = and_parts end centre third.1 in
    arc_from a b (plane_is a.plane b.plane first.0) (turn_is a.turn b.turn second.0) (point_is a.start b.start third.0) (point_is a.end b.end fourth.0)
    (flat_is a.centre b.centre fourth.1)

pub returns-clause-yes : goal.returns-clause-yes
returns-clause-yes c = λ is. arc_is c.args.a.now c.args.b.now (sym c.eq.ensures ∙ is)
