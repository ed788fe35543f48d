use Rattle.std.proofs.Common.{pos, ◌*ℤ◌, arith, codes, of_z, to_z, ◌++◌, ◌≡◌}
use Rattle.std.specs.Int.{w64}
use Rattle.std.proofs.lemmas.Int.{ints}
use Rattle.ngc_picture_shapes.specs.Spelling.{length_text, size_text, spot_text}
use Rattle.ngc_picture_shapes.proofs.Texts.{more}
use Rattle.ngc_picture_shapes.proofs.spelling.add_scale.Goals as goal

pub returns : goal.returns
returns c =
    let v0 : to_z w64 (of_z w64 c.args.unit) ≡ c.args.unit = omega (arith, ints) in
    let v1 : to_z w64 (of_z w64 (pos 6 *ℤ c.args.unit)) ≡ pos 6 *ℤ c.args.unit = omega (arith, ints, c.requires.unit) in
    more c.args.chunk.now c.add_length-4.new.chunk c.add_text-7.new.self
    (codes "<path transform=\"translate(0 " ++ length_text (pos 6 *ℤ c.args.unit) ++ codes ")\" d=\"M" ++ spot_text c.args.at.now ++ codes "v-"
    ++ length_text c.args.unit ++ codes "v" ++ length_text c.args.unit ++ codes "h" ++ size_text c.args.bar ++ codes "v-"
    ++ length_text c.args.unit) (codes "\"/>\n")
    (more c.args.chunk.now c.add_text-6.new.self c.add_length-4.new.chunk
    (codes "<path transform=\"translate(0 " ++ length_text (pos 6 *ℤ c.args.unit) ++ codes ")\" d=\"M" ++ spot_text c.args.at.now ++ codes "v-"
    ++ length_text c.args.unit ++ codes "v" ++ length_text c.args.unit ++ codes "h" ++ size_text c.args.bar
    ++ codes "v-") (length_text c.args.unit)
    (more c.args.chunk.now c.add_size.new.chunk c.add_text-6.new.self
    (codes "<path transform=\"translate(0 " ++ length_text (pos 6 *ℤ c.args.unit) ++ codes ")\" d=\"M" ++ spot_text c.args.at.now ++ codes "v-"
    ++ length_text c.args.unit ++ codes "v" ++ length_text c.args.unit ++ codes "h"
    ++ size_text c.args.bar) (codes "v-")
    (more c.args.chunk.now c.add_text-5.new.self c.add_size.new.chunk
    (codes "<path transform=\"translate(0 " ++ length_text (pos 6 *ℤ c.args.unit) ++ codes ")\" d=\"M" ++ spot_text c.args.at.now ++ codes "v-"
    ++ length_text c.args.unit ++ codes "v" ++ length_text c.args.unit
    ++ codes "h") (size_text c.args.bar)
    (more c.args.chunk.now c.add_length-3.new.chunk c.add_text-5.new.self
    (codes "<path transform=\"translate(0 " ++ length_text (pos 6 *ℤ c.args.unit) ++ codes ")\" d=\"M" ++ spot_text c.args.at.now ++ codes "v-"
    ++ length_text c.args.unit ++ codes "v" ++ length_text c.args.unit) (codes "h")
    (more c.args.chunk.now c.add_text-4.new.self c.add_length-3.new.chunk
    (codes "<path transform=\"translate(0 " ++ length_text (pos 6 *ℤ c.args.unit) ++ codes ")\" d=\"M" ++ spot_text c.args.at.now ++ codes "v-"
    ++ length_text c.args.unit ++ codes "v") (length_text c.args.unit)
    (more c.args.chunk.now c.add_length-2.new.chunk c.add_text-4.new.self
    (codes "<path transform=\"translate(0 " ++ length_text (pos 6 *ℤ c.args.unit) ++ codes ")\" d=\"M" ++ spot_text c.args.at.now ++ codes "v-"
    ++ length_text c.args.unit) (codes "v")
    (more c.args.chunk.now c.add_text-3.new.self c.add_length-2.new.chunk
    (codes "<path transform=\"translate(0 " ++ length_text (pos 6 *ℤ c.args.unit) ++ codes ")\" d=\"M" ++ spot_text c.args.at.now ++ codes "v-")
    (length_text c.args.unit)
    (more c.args.chunk.now c.add_spot.new.chunk c.add_text-3.new.self
    (codes "<path transform=\"translate(0 " ++ length_text (pos 6 *ℤ c.args.unit) ++ codes ")\" d=\"M" ++ spot_text c.args.at.now) (codes "v-")
    (more c.args.chunk.now c.add_text-2.new.self c.add_spot.new.chunk
    (codes "<path transform=\"translate(0 " ++ length_text (pos 6 *ℤ c.args.unit) ++ codes ")\" d=\"M") (spot_text c.args.at.now)
    (more c.args.chunk.now c.add_length.new.chunk c.add_text-2.new.self (codes "<path transform=\"translate(0 " ++ length_text (pos 6 *ℤ c.args.unit))
    (codes ")\" d=\"M")
    (more c.args.chunk.now c.add_text.new.self c.add_length.new.chunk (codes "<path transform=\"translate(0 ")
    (length_text (pos 6 *ℤ c.args.unit)) c.add_text.ensures (rw (v0, v1) at c.add_length.ensures.text)) c.add_text-2.ensures) c.add_spot.ensures.text)
    c.add_text-3.ensures) (rw v0 at c.add_length-2.ensures.text)) c.add_text-4.ensures)
    (rw v0 at c.add_length-3.ensures.text)) c.add_text-5.ensures) c.add_size.ensures.text) c.add_text-6.ensures)
    (rw v0 at c.add_length-4.ensures.text)) c.add_text-7.ensures
