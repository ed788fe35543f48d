use Rattle.std.proofs.Common.{◌≡◌, ℕ, List, ap, arith, length}
use Rattle.ngc_material.proofs.Within.{arcs_within, written_within}
use Rattle.ngc_material.proofs.material.Material.feed_arc.Goals as goal

pub invariant_of-self-clause-within : goal.invariant_of-self-clause-within
invariant_of-self-clause-within g c =
    let s = c.args.self.now.stock in
    let items = c.args.self.now.heights.items in
    let same : c.as_mut_slice.result.now ≡ items = c.as_mut_slice.ensures.value in
    let e = ap (λ (l : List ℕ). length l) same in
    written_within s c.args.self.now.heights.len c.cut_arcs.new.heights items
    (omega (arith, e, c.cut_arcs.auto.heights)) (omega (arith, e, c.as_mut_slice.ensures.len))
    (arcs_within s c.args.discs.now c.args.arc.now c.as_mut_slice.result.now c.cut_arcs.new.heights c.cut_arcs.ensures (rw same c.args.self.now.within))
