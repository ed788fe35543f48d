use Rattle.std.proofs.Common.{◌≡◌, arith, append_assoc, to_z, of_z, w64}
use Rattle.std.specs.Int.{w32}
use Rattle.std.proofs.lemmas.Int.{ints}
use Rattle.ngc_listing.proofs.listing.add_end.Goals as goal

pub returns-clause-text : goal.returns-clause-text
returns-clause-text c =
    let end = c.args.end.now in
    let point = c.to_grid-point.result in
    let a : to_z w64 (of_z w64 end.x) ≡ end.x = omega (arith, ints) in
    let b : to_z w64 (of_z w64 end.y) ≡ end.y = omega (arith, ints) in
    let d : to_z w64 (of_z w64 end.z) ≡ end.z = omega (arith, ints) in
    let x : to_z w32 (of_z w32 point.x) ≡ point.x = omega (arith, ints) in
    let y : to_z w32 (of_z w32 point.y) ≡ point.y = omega (arith, ints) in
    let z : to_z w32 (of_z w32 point.z) ≡ point.z = omega (arith, ints) in
    rw (
      c.add_three-2.ensures.text,
      c.add_text.ensures,
      c.add_three.ensures.text,
      c.nanometres.ensures.value,
      c.nanometres-2.ensures.value,
      c.nanometres-3.ensures.value,
    )
    (rw (a, b, d, x, y, z, c.to_grid-point.ensures.value) (simp append_assoc))
