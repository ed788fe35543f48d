use Rattle.std.proofs.Common.{◌≡◌, ℕ, List, ap, arith, length}
use Rattle.ngc_material.proofs.Within.{discs_within, written_within}
use Rattle.ngc_material.proofs.material.Material.feed.Goals as goal

pub invariant_of-self-clause-within : goal.invariant_of-self-clause-within
invariant_of-self-clause-within g c =
    let s = c.args.self.now.stock in
    let items = c.args.self.now.heights.items in
    let same : c.as_mut_slice.result.now ≡ items = c.as_mut_slice.ensures.value in
    let e = ap (λ (l : List ℕ). length l) same in
    written_within s c.args.self.now.heights.len c.cut_discs.new.heights items
    (omega (arith, e, c.cut_discs.auto.heights)) (omega (arith, e, c.as_mut_slice.ensures.len))
    (discs_within s c.args.discs.now c.args.line.now.start c.args.line.now.end c.as_mut_slice.result.now c.cut_discs.new.heights c.cut_discs.ensures (rw same c.args.self.now.within))
