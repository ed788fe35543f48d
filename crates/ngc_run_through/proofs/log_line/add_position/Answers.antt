use Rattle.std.proofs.Common.{◌≡◌, arith, append_assoc, to_z, of_z}
use Rattle.std.specs.Int.{w32}
use Rattle.std.proofs.lemmas.Int.{ints}
use Rattle.ngc_run_through.proofs.log_line.add_position.Goals as goal

pub returns-clause-text : goal.returns-clause-text
returns-clause-text c =
    let p = c.args.position.now in
    let x : to_z w32 (of_z w32 p.x) ≡ p.x = omega (arith, ints) in
    let y : to_z w32 (of_z w32 p.y) ≡ p.y = omega (arith, ints) in
    let z : to_z w32 (of_z w32 p.z) ≡ p.z = omega (arith, ints) in
    rw (c.add_text-2.ensures, c.add_three.ensures.text, x, y, z, c.add_text.ensures) (simp append_assoc)
