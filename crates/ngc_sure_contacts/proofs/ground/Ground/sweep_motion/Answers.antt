use Rattle.std.proofs.Common.{◌≡◌, ℕ, List, ap, arith, length}
use Rattle.ngc_material.proofs.Within.{written_within}
use Rattle.ngc_sure_contacts.specs.Swept.{IsSweptByAny}
use Rattle.ngc_sure_contacts.proofs.Sinking.{swept_within}
use Rattle.ngc_sure_contacts.proofs.ground.Ground.sweep_motion.Goals as goal

pub invariant_of-self-clause-within : goal.invariant_of-self-clause-within
invariant_of-self-clause-within g c =
    let s = c.args.self.now.stock in
    let items = c.args.self.now.heights.items in
    let same : c.as_mut_slice.result.now ≡ items = c.as_mut_slice.ensures.value in
    let e = ap (λ (l : List ℕ). length l) same in
    written_within s c.args.self.now.heights.len c.sweep.new.heights items
    (omega (arith, e, c.sweep.auto.heights)) (omega (arith, e, c.as_mut_slice.ensures.len))
    (swept_within s (IsSweptByAny c.as_slice.result.now c.args.way.now) c.as_mut_slice.result.now c.sweep.new.heights c.sweep.ensures (rw same c.args.self.now.within))
