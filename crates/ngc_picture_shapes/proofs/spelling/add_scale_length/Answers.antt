use Rattle.std.proofs.Common.{◌/◌, arith, codes, decimal, of_z, to_z, ◌++◌, ◌≡◌}
use Rattle.std.specs.Int.{w64}
use Rattle.std.proofs.lemmas.Int.{ints}
use Rattle.ngc_picture_shapes.specs.Spelling.{length_text, spot_text}
use Rattle.ngc_picture_shapes.proofs.Texts.{more}
use Rattle.ngc_picture_shapes.proofs.spelling.add_scale_length.Goals as goal

pub returns : goal.returns
returns c =
    let v0 : to_z w64 (of_z w64 c.args.unit) ≡ c.args.unit = omega (arith, ints) in
    more c.args.chunk.now c.add_text-2.new.self c.add_text-3.new.self
    (codes "<g stroke-width=\".1\" transform=\"translate(" ++ spot_text c.args.at.now ++ codes ") scale(" ++ length_text c.args.unit ++ codes ")\">"
    ++ (codes "<text x=\"0\" y=\"8.4\" fill=\"#808080\" stroke=\"none\">" ++ decimal (c.args.bar / 1000) ++ codes " mm</text>")) (codes "</g>\n")
    (more c.args.chunk.now c.begin_sign.new.chunk c.add_text-2.new.self
    (codes "<g stroke-width=\".1\" transform=\"translate(" ++ spot_text c.args.at.now ++ codes ") scale(" ++ length_text c.args.unit ++ codes ")\">")
    ((codes "<text x=\"0\" y=\"8.4\" fill=\"#808080\" stroke=\"none\">" ++ decimal (c.args.bar / 1000) ++ codes " mm</text>"))
    (rw v0 at c.begin_sign.ensures.text)
    (more c.begin_sign.new.chunk c.add_number.new.self c.add_text-2.new.self
    (codes "<text x=\"0\" y=\"8.4\" fill=\"#808080\" stroke=\"none\">" ++ decimal (c.args.bar / 1000)) (codes " mm</text>")
    (more c.begin_sign.new.chunk c.add_text.new.self c.add_number.new.self (codes "<text x=\"0\" y=\"8.4\" fill=\"#808080\" stroke=\"none\">")
    (decimal (c.args.bar / 1000)) c.add_text.ensures c.add_number.ensures.text) c.add_text-2.ensures)) c.add_text-3.ensures
