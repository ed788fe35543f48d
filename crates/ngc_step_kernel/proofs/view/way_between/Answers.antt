use Rattle.std.proofs.Common.{arith, ◌≡◌, ◌-ℤ◌, to_z, of_z, w64, ◌∙◌}
use Rattle.std.proofs.lemmas.Int.{ints, to_z-of_z}
use Rattle.ngc_step_kernel.specs.Round.{turned}
use Rattle.ngc_step_kernel.proofs.ViewLemmas.{way_is}
use Rattle.ngc_step_kernel.proofs.view.way_between.Goals as goal

pub returns : goal.returns
returns c =
    let a = c.nanometres.ensures in
    let b = c.nanometres-2.ensures in
    let d = c.nanometres-3.ensures in
    let e = c.nanometres-4.ensures in
    let u : to_z w64 (of_z w64 (to_z w64 (of_z w64 c.nanometres.result) -ℤ to_z w64 (of_z w64 c.nanometres-2.result))) ≡ c.args.to.now.u -ℤ c.args.from.now.u =
    omega (arith, ints, a.value, a.bound, b.value, b.bound) in
    let w : to_z w64 (of_z w64 (to_z w64 (of_z w64 c.nanometres-3.result) -ℤ to_z w64 (of_z w64 c.nanometres-4.result)))
    ≡ c.args.to.now.v -ℤ c.args.from.now.v = omega (arith, ints, d.value, d.bound, e.value, e.bound) in
    let t : c.turned.result ≡ turned c.args.turn (c.args.to.now.v -ℤ c.args.from.now.v) = rw w at c.turned.ensures.value in
    let f = rw w at c.turned.ensures.bound in
    let same : to_z w64 (of_z w64 c.turned.result) ≡ c.turned.result = to_z-of_z w64 c.turned.result (record { sfits = c.turned.type_inv }) in
    way_is _ _ _ _ u (same ∙ t)
