use Rattle.std.proofs.Common.{◌∙◌, length, ap, arith}
use Rattle.std.proofs.lemmas.List.{length-set}
use Rattle.ngc_fixed_length.specs.Places.{zero_point}
use Rattle.ngc_origins.proofs.ReplacedOrigins.{one_given, one_kept}
use Rattle.ngc_origins.proofs.origins.replaced.Goals.{in-Some, in-None}
use Rattle.ngc_origins.proofs.origins.replaced.Goals as goal

pub loop-i-preserved : goal.loop-i-preserved
loop-i-preserved c = elim c.match-origin.branch [
  | in-Some w ↦ record {
    text = one_given c.args.systems.now c.loop-i.places c.match-origin.places c.loop-i.i c.index-systems-i.result w.in-Some.place (omega (arith, c.loop-i-test.true, c.type_inv.systems))
        (omega (arith, c.loop-i-test.true, c.type_inv.systems, c.loop-i.invariant.nine)) c.index-systems-i.is (c.index-systems-i.is ∙ w.in-Some.is) w.places-is
        ∙ c.loop-i.invariant.text;
    nine = ap length w.places-is ∙ length-set c.loop-i.places c.loop-i.i w.in-Some.place ∙ c.loop-i.invariant.nine;
  }
  | in-None w ↦ record {
    text = one_kept c.args.systems.now c.loop-i.places c.match-origin.places c.loop-i.i c.index-systems-i.result zero_point (omega (arith, c.loop-i-test.true, c.type_inv.systems))
        (omega (arith, c.loop-i-test.true, c.type_inv.systems, c.loop-i.invariant.nine)) c.index-systems-i.is (c.index-systems-i.is ∙ w.in-None.is) w.places-is
        ∙ c.loop-i.invariant.text;
    nine = ap length w.places-is ∙ c.loop-i.invariant.nine;
  }
]
