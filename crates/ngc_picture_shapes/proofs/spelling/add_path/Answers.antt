use Rattle.std.proofs.Common.{codes, ◌++◌}
use Rattle.ngc_picture_shapes.specs.Spelling.{ink_text, spot_text}
use Rattle.ngc_picture_shapes.proofs.Texts.{more}
use Rattle.ngc_picture_shapes.proofs.spelling.add_path.Goals as goal

pub returns : goal.returns
returns c =
    more c.args.chunk.now c.add_text-2.new.self c.add_spot.new.chunk (codes "<path stroke=\"" ++ ink_text c.args.ink.now ++ codes "\" d=\"M")
    (spot_text c.args.at.now)
    (more c.args.chunk.now c.add_ink.new.chunk c.add_text-2.new.self (codes "<path stroke=\"" ++ ink_text c.args.ink.now) (codes "\" d=\"M")
    (more c.args.chunk.now c.add_text.new.self c.add_ink.new.chunk (codes "<path stroke=\"")
    (ink_text c.args.ink.now) c.add_text.ensures c.add_ink.ensures.text) c.add_text-2.ensures) c.add_spot.ensures.text
