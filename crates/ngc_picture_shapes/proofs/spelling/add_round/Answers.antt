use Rattle.std.proofs.Common.{arith, codes, of_z, to_z, ◌++◌, ◌≡◌}
use Rattle.std.specs.Int.{w64}
use Rattle.std.proofs.lemmas.Int.{ints}
use Rattle.ngc_picture_shapes.specs.Spelling.{length_text, spot_text, turn_text}
use Rattle.ngc_picture_shapes.proofs.Texts.{more}
use Rattle.ngc_picture_shapes.proofs.spelling.add_round.Goals as goal

pub returns : goal.returns
returns c =
    let v0 : to_z w64 (of_z w64 c.args.radius) ≡ c.args.radius = omega (arith, ints) in
    more c.args.chunk.now c.add_text-3.new.self c.add_spot.new.chunk
    (codes "\nA" ++ length_text c.args.radius ++ codes " " ++ length_text c.args.radius ++ turn_text c.args.clockwise) (spot_text c.args.to.now)
    (more c.args.chunk.now c.add_length-2.new.chunk c.add_text-3.new.self
    (codes "\nA" ++ length_text c.args.radius ++ codes " " ++ length_text c.args.radius) (turn_text c.args.clockwise)
    (more c.args.chunk.now c.add_text-2.new.self c.add_length-2.new.chunk (codes "\nA" ++ length_text c.args.radius ++ codes " ")
    (length_text c.args.radius)
    (more c.args.chunk.now c.add_length.new.chunk c.add_text-2.new.self (codes "\nA" ++ length_text c.args.radius) (codes " ")
    (more c.args.chunk.now c.add_text.new.self c.add_length.new.chunk (codes "\nA") (length_text c.args.radius) c.add_text.ensures
    (rw v0 at c.add_length.ensures.text)) c.add_text-2.ensures) (rw v0 at c.add_length-2.ensures.text))
    (rw c.turn.ensures.text at c.add_text-3.ensures)) c.add_spot.ensures.text
