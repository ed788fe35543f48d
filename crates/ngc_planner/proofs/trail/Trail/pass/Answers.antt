use Rattle.std.proofs.Common.{◌∷◌, ap, sym, subst, ◌∙◌}
use Rattle.ngc_machine_files.specs.Machine.{file_of}
use Rattle.ngc_planner.specs.Trail.{TrailData, Describes}
use Rattle.ngc_planner.proofs.WindowLaws.{passing_is}
use Rattle.ngc_planner.proofs.TrailLaws.{stored_more, viewed_more}
use Rattle.ngc_planner.proofs.trail.Trail.pass.Goals as goal

pub block_with-block-requires-clause-heading : goal.block_with-block-requires-clause-heading
block_with-block-requires-clause-heading g c =
    passing_is (file_of c.args.machine.now) c.args.action.now c.in-Some.heading (sym c.passing_heading.ensures ∙ c.in-Some.is)

pub invariant_of-self-2 : goal.invariant_of-self-2
invariant_of-self-2 g c =
    let items = c.self.inside.marks.items in
    let passed = ap (λ (t : TrailData). t.passed) c.self.view_is in
    let b = c.block_with-block in
    stored_more c.push_front.new.self c.self.inside.marks.capacity _ items c.push_front.ensures.items
    (record {
      heading = passing_is (file_of c.args.machine.now) c.args.action.now c.in-Some.heading (sym c.passing_heading.ensures ∙ c.in-Some.is);
      length = c.way_on-length.ensures.bound;
      block = b.ensures.block;
      describes = subst (λ ps. Describes b.result (record { heading = c.in-Some.heading; length = c.way_on-length.result } ∷ ps)) (sym passed) b.ensures.describes;
    }) c.self.invariant.0 c.self.invariant.2

pub returns : goal.returns
returns g c =
    let most = ap (λ (t : TrailData). t.most) c.self.view_is in
    let passed = ap (λ (t : TrailData). t.passed) c.self.view_is in
    rw (← most) (viewed_more c.push_front.new.self c.self.inside.marks.capacity _ _ _ c.self.inside.marks.items c.args.self.now.passed c.push_front.ensures.items
    (sym c.passing_heading.ensures ∙ c.in-Some.is) c.way_on-length.ensures.value passed)
