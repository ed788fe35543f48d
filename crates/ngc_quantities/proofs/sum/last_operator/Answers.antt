use Rattle.std.proofs.Common.{◌∙◌, sym, ◌-◌, length, arith, refl}
use Rattle.ngc_quantities.proofs.Operators.{none_at_end, none_from, found_at}
use Rattle.ngc_quantities.proofs.sum.last_operator.Goals as goal

pub loop-index-init : goal.loop-index-init
loop-index-init c = record {
  none = none_at_end c.args.text.now (length c.args.text.now) refl;
  within = omega arith;
}

pub returns-then-begins_at-clause-value : goal.returns-then-begins_at-clause-value
returns-then-begins_at-clause-value c =
    sym (found_at c.args.text.now (c.loop-index.index - 1) c.loop-index.index (omega arith) (omega arith) c.loop-index.invariant.none
    (sym c.begins_at.ensures.value ∙ c.if-begins_at.true))

pub loop-index-preserved : goal.loop-index-preserved
loop-index-preserved c = record {
  none = none_from c.args.text.now (c.loop-index.index - 1) c.loop-index.index (omega arith) (omega arith) c.loop-index.invariant.none
      (sym c.begins_at.ensures.value ∙ c.if-begins_at.false);
  within = omega arith;
}
