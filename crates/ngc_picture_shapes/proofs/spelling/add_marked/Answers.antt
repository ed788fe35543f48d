use Rattle.std.proofs.Common.{arith, codes, of_z, to_z, ◌++◌, ◌≡◌}
use Rattle.std.specs.Int.{w64}
use Rattle.std.proofs.lemmas.Int.{ints}
use Rattle.ngc_picture_shapes.specs.Spelling.{length_text, mark_text, spot_text}
use Rattle.ngc_picture_shapes.proofs.Texts.{more}
use Rattle.ngc_picture_shapes.proofs.spelling.add_marked.Goals as goal

pub returns : goal.returns
returns c =
    let v0 : to_z w64 (of_z w64 c.args.unit) ≡ c.args.unit = omega (arith, ints) in
    more c.args.chunk.now c.add_mark.new.chunk c.add_text.new.self
    (codes "<g stroke-width=\".1\" transform=\"translate(" ++ spot_text c.args.at.now ++ codes ") scale(" ++ length_text c.args.unit ++ codes ")\">"
    ++ mark_text c.args.mark.now) (codes "</g>\n")
    (more c.args.chunk.now c.begin_sign.new.chunk c.add_mark.new.chunk
    (codes "<g stroke-width=\".1\" transform=\"translate(" ++ spot_text c.args.at.now ++ codes ") scale(" ++ length_text c.args.unit ++ codes ")\">")
    (mark_text c.args.mark.now) (rw v0 at c.begin_sign.ensures.text) c.add_mark.ensures.text) c.add_text.ensures
