use Rattle.std.proofs.Common.{arith, ℕ, ◌+◌, ◌*◌, ◌≤◌}
use Rattle.std.proofs.lemmas.Int.{ints}
use Rattle.ngc_step_kernel.proofs.EntryLemmas.{joined, is_way, rolled_near, can_enter, one_beside, entered_from, stood_from}
use Rattle.ngc_step_kernel.proofs.OnRim.{about_rolls}
use Rattle.ngc_step_kernel.specs.View.{place_of, way_from}
use Rattle.std.proofs.lemmas.Nat.{mul-le}
use Rattle.ngc_step_kernel.proofs.JointLemmas.{radius_way}
use Rattle.ngc_step_kernel.proofs.around.Entry.of.Goals as goal

near_twice : (n r g : ℕ) → n ≤ (r + g) * (r + g) → n ≤ (r + 2 * g) * (r + 2 * g)
near_twice n r g near =
    let more = mul-le (r + g) (r + g) (r + 2 * g) (r + 2 * g) (omega arith) (omega arith) in
    omega (arith, near, more)

pub spoke-first-requires : goal.spoke-first-requires
spoke-first-requires c = is_way c.way_to-way.result _ c.args.radius c.args.step c.way_to-way.ensures c.requires.near c.requires.radius c.requires.greatest

pub entering-roll-requires-clause-x : goal.entering-roll-requires-clause-x
entering-roll-requires-clause-x c =
    (joined c.args.step c.args.radius c.args.view.now.centre c.args.joint c.way_to-way.result c.spoke-first.result c.way_to-way.ensures
    c.spoke-first.ensures.place c.requires.near c.requires.radius c.requires.greatest).x

pub entering-roll-requires-clause-y : goal.entering-roll-requires-clause-y
entering-roll-requires-clause-y c =
    (joined c.args.step c.args.radius c.args.view.now.centre c.args.joint c.way_to-way.result c.spoke-first.result c.way_to-way.ensures
    c.spoke-first.ensures.place c.requires.near c.requires.radius c.requires.greatest).y

pub returns-then-cross-lt0-clause-about : goal.returns-then-cross-lt0-clause-about
returns-then-cross-lt0-clause-about c =
    let j = joined c.args.step c.args.radius c.args.view.now.centre c.args.joint c.way_to-way.result c.spoke-first.result c.way_to-way.ensures
    c.spoke-first.ensures.place c.requires.near c.requires.radius c.requires.greatest in
    let first = c.spoke-first.result in
    let on = about_rolls c.args.step (place_of c.args.view.now.centre) c.args.joint first.quadrant first.x first.y c.entering-roll.result j.about
    (can_enter c.args.step c.args.limit c.is_steep.result first c.entering-roll.result c.entering-roll.ensures) in
    rw (c.moved.ensures, c.of.ensures, c.rolled.ensures) on

pub returns-then-cross-lt0-clause-near : goal.returns-then-cross-lt0-clause-near
returns-then-cross-lt0-clause-near c =
    let j = joined c.args.step c.args.radius c.args.view.now.centre c.args.joint c.way_to-way.result c.spoke-first.result c.way_to-way.ensures
    c.spoke-first.ensures.place c.requires.near c.requires.radius c.requires.greatest in
    rw c.rolled.ensures
    (rolled_near c.args.step c.args.radius c.spoke-first.result c.entering-roll.result
    (can_enter c.args.step c.args.limit c.is_steep.result c.spoke-first.result c.entering-roll.result c.entering-roll.ensures) j.near)

pub returns-else-cross-lt0-clause-about : goal.returns-else-cross-lt0-clause-about
returns-else-cross-lt0-clause-about c =
    (joined c.args.step c.args.radius c.args.view.now.centre c.args.joint c.way_to-way.result c.spoke-first.result c.way_to-way.ensures
    c.spoke-first.ensures.place c.requires.near c.requires.radius c.requires.greatest).about

pub returns-then-cross-lt0-clause-entered : goal.returns-then-cross-lt0-clause-entered
returns-then-cross-lt0-clause-entered c =
    entered_from c.args.step c.args.limit c.args.view.now.start (way_from c.args.step c.args.view.now.centre c.args.joint) c.way_to-way.result c.is_steep.result
    c.spoke-first.result c.rolled.result c.entering-roll.result c.cross.result
    c.way_to-way.ensures c.spoke-first.ensures.place c.spoke-first.ensures.out c.cross.ensures
    (omega (arith, ints, c.if-cross-lt0.true)) c.is_steep.ensures c.entering-roll.ensures c.rolled.ensures

pub returns-then-cross-lt0-clause-beside : goal.returns-then-cross-lt0-clause-beside
returns-then-cross-lt0-clause-beside c = one_beside _ _ c.of.result c.moved.ensures

pub returns-else-cross-lt0-clause-entered : goal.returns-else-cross-lt0-clause-entered
returns-else-cross-lt0-clause-entered c =
    stood_from c.args.step c.args.limit c.args.view.now.start (way_from c.args.step c.args.view.now.centre c.args.joint) c.way_to-way.result
    c.spoke-first.result c.cross.result
    c.way_to-way.ensures c.spoke-first.ensures.place c.spoke-first.ensures.out c.cross.ensures (omega (arith, ints, c.if-cross-lt0.false))

pub way_to-way-requires-clause-view : goal.way_to-way-requires-clause-view
way_to-way-requires-clause-view c = c.requires.view

pub way_to-way-requires-clause-at : goal.way_to-way-requires-clause-at
way_to-way-requires-clause-at c = c.requires.joint

pub way_to-way-requires-clause-greatest : goal.way_to-way-requires-clause-greatest
way_to-way-requires-clause-greatest c = c.requires.greatest

pub cross-requires-clause-here : goal.cross-requires-clause-here
cross-requires-clause-here c = radius_way c.args.view.now.start c.requires.view.start

pub cross-requires-clause-other : goal.cross-requires-clause-other
cross-requires-clause-other c =
    is_way c.way_to-way.result _ c.args.radius c.args.step c.way_to-way.ensures c.requires.near c.requires.radius c.requires.greatest

pub entering-roll-requires-clause-short : goal.entering-roll-requires-clause-short
entering-roll-requires-clause-short c = c.requires.greatest

pub moved-requires : goal.moved-requires
moved-requires c = c.requires.joint

pub rolled-requires-clause-small : goal.rolled-requires-clause-small
rolled-requires-clause-small c = c.spoke-first.ensures.small

pub rolled-requires-clause-short : goal.rolled-requires-clause-short
rolled-requires-clause-short c = c.requires.greatest

pub rolled-requires-clause-can : goal.rolled-requires-clause-can
rolled-requires-clause-can c =
    can_enter c.args.step c.args.limit c.is_steep.result c.spoke-first.result c.entering-roll.result c.entering-roll.ensures

pub returns-else-cross-lt0-clause-near : goal.returns-else-cross-lt0-clause-near
returns-else-cross-lt0-clause-near c =
    near_twice _ c.args.radius c.args.step
    (joined c.args.step c.args.radius c.args.view.now.centre c.args.joint c.way_to-way.result c.spoke-first.result c.way_to-way.ensures
    c.spoke-first.ensures.place c.requires.near c.requires.radius c.requires.greatest).near
