use Rattle.std.proofs.Common.{◌≡◌, pos, ◌≤◌, unsigned_abs, to_z, of_z, arith}
use Rattle.std.specs.Int.{w64}
use Rattle.std.proofs.lemmas.Int.{ints, clamps}
use Rattle.ngc_cells.proofs.Kept.{kept64}
use Rattle.ngc_cells.proofs.Quotients.{quotient_size}
use Rattle.ngc_sure_contacts.proofs.line.Line.lowest_tip.Goals as goal

pub returns-clause-bound : goal.returns-clause-bound
returns-clause-bound c =
    let t = kept64 c.tip.result (omega (arith, c.tip.ensures.bound)) in
    let u = kept64 c.tip-2.result (omega (arith, c.tip-2.ensures.bound)) in
    let m = rw (t, u) at c.min-lowest.ensures.value in
    let ms : unsigned_abs c.min-lowest.result ≤ 400000000000000 = rw m (omega (arith, ints, clamps, c.tip.ensures.bound, c.tip-2.ensures.bound)) in
    let n : to_z w64 (of_z w64 c.from.result) ≡ pos c.pieces.result = rw c.from.ensures (kept64 (pos c.pieces.result) (omega (arith, c.pieces.ensures.most))) in
    let least = kept64 c.min-lowest.result (omega (arith, ms)) in
    let e = rw (least, n) at c.div_euclid.ensures in
    let q = quotient_size (pos c.pieces.result) c.min-lowest.result (omega (arith, ints, c.pieces.ensures.least)) in
    let size : unsigned_abs c.div_euclid.result ≤ 400000000000000 = rw e (omega (arith, q, ms)) in
    let d = kept64 c.div_euclid.result (omega (arith, size)) in
    rw d size
