use Rattle.std.proofs.Common.{◌∷◌, map, ap, arith, sym}
use Rattle.std.proofs.lemmas.Option.{slice_get_within}
use Rattle.ngc_machine_files.specs.Machine.{file_of}
use Rattle.ngc_planner.specs.Trail.{TrailData, passage_of}
use Rattle.ngc_planner.proofs.TrailLaws.{mark_at, missing_past, looked_on, looked_past}
use Rattle.ngc_planner.proofs.trail.Trail.lowered.Goals as goal

pub past-look-requires-clause-heading : goal.past-look-requires-clause-heading
past-look-requires-clause-heading g c =
    (mark_at c.loop-mark.look.passed c.in-Some.mark.now c.self.inside.marks.items (sym c.in-Some.ensures) c.self.invariant.0).1.heading

pub past-look-requires-clause-length : goal.past-look-requires-clause-length
past-look-requires-clause-length g c =
    (mark_at c.loop-mark.look.passed c.in-Some.mark.now c.self.inside.marks.items (sym c.in-Some.ensures) c.self.invariant.0).1.length

pub past-look-requires-clause-block : goal.past-look-requires-clause-block
past-look-requires-clause-block g c =
    (mark_at c.loop-mark.look.passed c.in-Some.mark.now c.self.inside.marks.items (sym c.in-Some.ensures) c.self.invariant.0).1.block

pub past-look-requires-clause-passed : goal.past-look-requires-clause-passed
past-look-requires-clause-passed g c =
    let within = slice_get_within c.self.inside.marks.items c.loop-mark.look.passed c.in-Some.mark.now (sym c.in-Some.ensures) in
    omega (arith, within, c.self.invariant.1, c.self.invariant.2)

pub loop-mark-smaller : goal.loop-mark-smaller
loop-mark-smaller g c =
    let within = slice_get_within c.self.inside.marks.items c.loop-mark.look.passed c.in-Some.mark.now (sym c.in-Some.ensures) in
    omega (arith, within, c.self.invariant.1, c.self.invariant.2, c.past-look.ensures.more)

pub loop-mark-preserved : goal.loop-mark-preserved
loop-mark-preserved g c =
    let old = c.loop-mark.look in
    let new = c.past-look.result in
    let found = mark_at old.passed c.in-Some.mark.now c.self.inside.marks.items (sym c.in-Some.ensures) c.self.invariant.0 in
    let passed = ap (λ (t : TrailData). t.passed) c.self.view_is in
    looked_on (file_of c.args.machine.now) c.args.next.now c.args.rate c.args.way c.args.self.now.passed (map passage_of (c.in-Some.mark.now ∷ found.0)) old new c.loop-mark.invariant
    (rw (← passed) found.2) (c.past-look.ensures.same found.0 found.1) c.past-look.ensures.more c.past-look.ensures.rate c.past-look.ensures.way

pub returns-clause-value : goal.returns-clause-value
returns-clause-value g c =
    let passed = ap (λ (t : TrailData). t.passed) c.self.view_is in
    let all = missing_past c.loop-mark.look.passed c.self.inside.marks.items (sym c.in_default.ensures) in
    looked_past (file_of c.args.machine.now) c.args.next.now c.args.rate c.args.way c.args.self.now.passed c.loop-mark.look c.loop-mark.invariant
    (rw (← passed) all)
