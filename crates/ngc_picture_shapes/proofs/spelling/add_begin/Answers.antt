use Rattle.std.proofs.Common.{◌≡◌, arith, to_z, of_z}
use Rattle.std.specs.Int.{w128}
use Rattle.std.proofs.lemmas.Int.{ints}
use Rattle.std.proofs.lemmas.List.{append_assoc}
use Rattle.ngc_picture_shapes.proofs.spelling.add_begin.Goals as goal

pub returns : goal.returns
returns c =
    let v0 : to_z w128 (of_z w128 c.args.sheet.now.width) ≡ c.args.sheet.now.width = omega (arith, ints) in
    let w0 : to_z w128 (of_z w128 c.args.sheet.now.page_width) ≡ c.args.sheet.now.page_width = omega (arith, ints) in
    let w1 : to_z w128 (of_z w128 c.args.sheet.now.page_height) ≡ c.args.sheet.now.page_height = omega (arith, ints) in
    let v1 : to_z w128 (of_z w128 c.args.sheet.now.height) ≡ c.args.sheet.now.height = omega (arith, ints) in
    let v2 : to_z w128 (of_z w128 c.args.sheet.now.left) ≡ c.args.sheet.now.left = omega (arith, ints) in
    let v3 : to_z w128 (of_z w128 c.args.sheet.now.top) ≡ c.args.sheet.now.top = omega (arith, ints) in
    rw (
      c.add_text-7.ensures,
      c.add_wide-6.ensures.text,
      v1,
      c.add_text-6.ensures,
      c.add_wide-5.ensures.text,
      v0,
      c.add_text-5.ensures,
      c.add_wide-4.ensures.text,
      v3,
      c.add_text-4.ensures,
      c.add_wide-3.ensures.text,
      v2,
      c.add_text-3.ensures,
      c.add_wide-2.ensures.text,
      w1,
      c.add_text-2.ensures,
      c.add_wide.ensures.text,
      w0,
      c.add_text.ensures,
    ) (simp append_assoc)
