use Rattle.std.proofs.Common.{◌≡◌, arith, to_z, of_z}
use Rattle.std.specs.Int.{w128}
use Rattle.std.proofs.lemmas.Int.{ints}
use Rattle.std.proofs.lemmas.List.{append_assoc}
use Rattle.ngc_picture_shapes.proofs.spelling.add_window.Goals as goal

pub returns : goal.returns
returns c =
    let width : to_z w128 (of_z w128 c.args.pane.now.width) ≡ c.args.pane.now.width = omega (arith, ints) in
    let height : to_z w128 (of_z w128 c.args.pane.now.height) ≡ c.args.pane.now.height = omega (arith, ints) in
    let left : to_z w128 (of_z w128 c.args.pane.now.left) ≡ c.args.pane.now.left = omega (arith, ints) in
    let top : to_z w128 (of_z w128 c.args.pane.now.top) ≡ c.args.pane.now.top = omega (arith, ints) in
    rw (
      c.add_text-9.ensures,
      c.add_wide-8.ensures.text,
      height,
      c.add_text-8.ensures,
      c.add_wide-7.ensures.text,
      width,
      c.add_text-7.ensures,
      c.add_wide-6.ensures.text,
      top,
      c.add_text-6.ensures,
      c.add_wide-5.ensures.text,
      left,
      c.add_text-5.ensures,
      c.add_wide-4.ensures.text,
      height,
      c.add_text-4.ensures,
      c.add_wide-3.ensures.text,
      width,
      c.add_text-3.ensures,
      c.add_wide-2.ensures.text,
      top,
      c.add_text-2.ensures,
      c.add_wide.ensures.text,
      left,
      c.add_text.ensures,
    ) (simp append_assoc)
