use Rattle.std.proofs.Common.{◌≡◌, arith, to_z, of_z}
use Rattle.std.specs.Int.{w64}
use Rattle.std.proofs.lemmas.Int.{ints}
use Rattle.std.proofs.lemmas.List.{append_assoc}
use Rattle.ngc_frames.specs.Words.{place_text}
use Rattle.ngc_frames.proofs.words.add_place.Goals as goal

pub returns-clause-text : goal.returns-clause-text
unfolding place_text
returns-clause-text c =
    let p = c.args.place.now in
    let x : to_z w64 (of_z w64 p.x) ≡ p.x = omega (arith, ints) in
    let y : to_z w64 (of_z w64 p.y) ≡ p.y = omega (arith, ints) in
    let z : to_z w64 (of_z w64 p.z) ≡ p.z = omega (arith, ints) in
    rw (
      c.add_coordinate-3.ensures.text,
      z,
      c.add_text-3.ensures,
      c.add_coordinate-2.ensures.text,
      y,
      c.add_text-2.ensures,
      c.add_coordinate.ensures.text,
      x,
      c.add_text.ensures,
    ) (simp append_assoc)
