use Rattle.std.proofs.Common.{◌≡◌, ◌∙◌, ◌∷◌, [], ◌-◌, arith, ap, reverse}
use Rattle.std.proofs.lemmas.List.{reverse-append}
use Rattle.ngc_braking.proofs.OutlookLaws.{one_nearer}
use Rattle.ngc_braking.proofs.outlook.foresee.Goals as goal

pub loop-index-preserved : goal.loop-index-preserved
loop-index-preserved g c =
    let inv = c.loop-index.invariant in
    let test = c.loop-index-test.true in
    let i = c.loop-index.index in
    let near = c.loop-index.near in
    let later = c.loop-index.later.items in
    let before = c.in-Some.ensures.lookup in
    let lookup = c.in-Some-get.ensures.lookup in
    let order : reverse c.push_reserved.new.self.items ≡ near ∷ reverse later =
    ap reverse c.push_reserved.ensures.items ∙ reverse-append later (near ∷ []) in
    let more = one_nearer i (i - 1) c.in-Some.before.now c.in-Some-get.leg.now c.args.legs.now near (reverse later) (omega (arith, test)) lookup.3.0
    (omega (arith, test)) before.1 lookup.1 inv.foresees in
    record {
      foresees = rw (c.with_leg-near.ensures, order) more;
      least = omega (arith, test, inv.least);
      most = omega (arith, test, inv.most, c.push_reserved.ensures.len);
      memory = c.push_reserved.ensures.capacity ∙ inv.memory;
    }
