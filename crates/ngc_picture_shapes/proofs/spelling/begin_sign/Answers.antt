use Rattle.std.proofs.Common.{◌≡◌, arith, to_z, of_z}
use Rattle.std.specs.Int.{w64}
use Rattle.std.proofs.lemmas.Int.{ints}
use Rattle.std.proofs.lemmas.List.{append_assoc}
use Rattle.ngc_picture_shapes.proofs.spelling.begin_sign.Goals as goal

pub returns-clause-text : goal.returns-clause-text
returns-clause-text c =
    let v0 : to_z w64 (of_z w64 c.args.unit) ≡ c.args.unit = omega (arith, ints) in
    rw (c.add_text-3.ensures, c.add_length.ensures.text, v0, c.add_text-2.ensures, c.add_spot.ensures.text, c.add_text.ensures) (simp append_assoc)
