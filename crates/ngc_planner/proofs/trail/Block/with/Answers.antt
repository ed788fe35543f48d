use Rattle.std.proofs.Common.{refl, arith}
use Rattle.ngc_planner.proofs.TrailLaws.{AreExtremes, extremes_widen, extremes_include, least_heading, greatest_heading, describes_more}
use Rattle.ngc_planner.proofs.trail.Block.with.Goals as goal

extremes : (c : goal.After-greatest_with) → AreExtremes c.args.self.now.least c.args.self.now.greatest c.args.heading.now c.least_with.result c.greatest_with.result
extremes c = record {
  least_x = c.least_with.ensures.x;
  least_y = c.least_with.ensures.y;
  least_z = c.least_with.ensures.z;
  greatest_x = c.greatest_with.ensures.x;
  greatest_y = c.greatest_with.ensures.y;
  greatest_z = c.greatest_with.ensures.z;
}

pub returns-clause-block : goal.returns-clause-block
returns-clause-block c =
    let b = c.args.self.now in
    let is = extremes c in record {
      some = omega arith;
      few = omega (arith, c.requires.room);
      least = least_heading b.least b.greatest c.args.heading.now c.least_with.result c.greatest_with.result is c.requires.block.least c.requires.heading;
      greatest = greatest_heading b.least b.greatest c.args.heading.now c.least_with.result c.greatest_with.result is c.requires.block.greatest c.requires.heading;
      bound = omega (arith, c.requires.block.bound, c.requires.length);
    }

pub returns-clause-describes : goal.returns-clause-describes
returns-clause-describes c =
    let b = c.args.self.now in
    let is = extremes c in
    λ ps h. describes_more b _ _ ps h (omega arith) refl (extremes_widen b.least b.greatest c.args.heading.now c.least_with.result c.greatest_with.result is)
    (extremes_include b.least b.greatest c.args.heading.now c.least_with.result c.greatest_with.result is)
