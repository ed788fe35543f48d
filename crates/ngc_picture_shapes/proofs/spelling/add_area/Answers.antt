use Rattle.std.proofs.Common.{◌≡◌, arith, to_z, of_z}
use Rattle.std.specs.Int.{w64}
use Rattle.std.proofs.lemmas.Int.{ints}
use Rattle.std.proofs.lemmas.List.{append_assoc}
use Rattle.ngc_picture_shapes.proofs.spelling.add_area.Goals as goal

pub returns-clause-text : goal.returns-clause-text
returns-clause-text c =
    let v0 : to_z w64 (of_z w64 c.args.area.now.high.across) ≡ c.args.area.now.high.across = omega (arith, ints) in
    let v1 : to_z w64 (of_z w64 c.args.area.now.high.up) ≡ c.args.area.now.high.up = omega (arith, ints) in
    let v2 : to_z w64 (of_z w64 c.args.area.now.low.across) ≡ c.args.area.now.low.across = omega (arith, ints) in
    rw (
      c.add_text-5.ensures,
      c.add_length-2.ensures.text,
      v2,
      c.add_text-4.ensures,
      c.add_down.ensures.text,
      v1,
      c.add_text-3.ensures,
      c.add_length.ensures.text,
      v0,
      c.add_text-2.ensures,
      c.add_spot.ensures.text,
      c.add_text.ensures,
    ) (simp append_assoc)
