use Rattle.std.proofs.Common.{arith, codes, decimal, of_z, to_z, ◌++◌, ◌≡◌}
use Rattle.std.specs.Int.{w64}
use Rattle.std.proofs.lemmas.Int.{ints}
use Rattle.ngc_picture_shapes.specs.Spelling.{lines_text, sign_begin}
use Rattle.ngc_picture_shapes.proofs.Texts.{more}
use Rattle.ngc_picture_shapes.proofs.spelling.add_fixture_number.Goals as goal

pub returns : goal.returns
returns c =
    let v0 : to_z w64 (of_z w64 c.args.unit) ≡ c.args.unit = omega (arith, ints) in
    let lines = lines_text c.args.lines in
    let colour = codes " fill=\"#808080\" stroke=\"none\">" in
    more c.args.chunk.now c.begin_sign.new.chunk c.add_number.new.self (sign_begin c.args.unit c.args.at.now)
    (codes "<text x=\".5\" y=\"-.5\"" ++ ((lines ++ colour) ++ decimal c.args.number)) (rw v0 at c.begin_sign.ensures.text)
    (more c.begin_sign.new.chunk c.add_text.new.self c.add_number.new.self (codes "<text x=\".5\" y=\"-.5\"")
    ((lines ++ colour) ++ decimal c.args.number) c.add_text.ensures
    (more c.add_text.new.self c.add_text-2.new.self c.add_number.new.self (lines ++ colour) (decimal c.args.number)
    (more c.add_text.new.self c.add_lines.new.chunk c.add_text-2.new.self lines colour c.add_lines.ensures.text c.add_text-2.ensures)
    c.add_number.ensures.text))
