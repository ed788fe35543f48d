use Rattle.std.proofs.Common.{arith, ◌≡◌, ◌≤◌, ℤ, unsigned_abs, to_z, of_z}
use Rattle.std.specs.Int.{w32, w64}
use Rattle.std.proofs.lemmas.Int.{ints}
use Rattle.ngc_step_kernel.proofs.ViewLemmas.{first_side, second_side}
use Rattle.ngc_step_kernel.proofs.view.View.joint.Goals as goal

kept : (z : ℤ) → unsigned_abs z ≤ 93000000000 → to_z w64 (of_z w64 z) ≡ z
kept z small = omega (arith, ints)

kept_steps : (z : ℤ) → unsigned_abs z ≤ 200000000 → to_z w32 (of_z w32 z) ≡ z
kept_steps z small = omega (arith, ints)

pub moved_place-requires-clause-centre : goal.moved_place-requires-clause-centre
moved_place-requires-clause-centre c = rw (kept c.args.self.now.centre.u c.requires.view.centre_u) c.requires.view.centre_u

pub moved_place-requires-clause-way : goal.moved_place-requires-clause-way
moved_place-requires-clause-way c =
    let r = c.requires in
    let a = first_side c.args.self.now.start c.args.radius r.start in
    rw (kept c.args.self.now.start.u (omega (arith, a, r.radius))) a

pub moved_place-requires-2-clause-centre : goal.moved_place-requires-2-clause-centre
moved_place-requires-2-clause-centre c = rw (kept c.args.self.now.centre.v c.requires.view.centre_v) c.requires.view.centre_v

pub moved_place-requires-2-clause-way : goal.moved_place-requires-2-clause-way
moved_place-requires-2-clause-way c =
    let r = c.requires in
    let a = second_side c.args.self.now.start c.args.radius r.start in
    rw (kept c.args.self.now.start.v (omega (arith, a, r.radius))) a

pub returns-clause-u : goal.returns-clause-u
returns-clause-u c =
    let r = c.requires in
    let a = first_side c.args.self.now.start c.args.radius r.start in
    let near =
    rw (kept c.args.self.now.centre.u r.view.centre_u, kept c.args.self.now.start.u (omega (arith, a, r.radius))) at c.moved_place.ensures.near in
    rw (kept_steps c.moved_place.result c.moved_place.ensures.range) near

pub returns-clause-v : goal.returns-clause-v
returns-clause-v c =
    let r = c.requires in
    let a = second_side c.args.self.now.start c.args.radius r.start in
    let near =
    rw (kept c.args.self.now.centre.v r.view.centre_v, kept c.args.self.now.start.v (omega (arith, a, r.radius))) at c.moved_place-2.ensures.near in
    rw (kept_steps c.moved_place-2.result c.moved_place-2.ensures.range) near

pub returns-clause-range : goal.returns-clause-range
returns-clause-range c = record {
  u = rw (kept_steps c.moved_place.result c.moved_place.ensures.range) c.moved_place.ensures.range;
  v = rw (kept_steps c.moved_place-2.result c.moved_place-2.ensures.range) c.moved_place-2.ensures.range;
}
