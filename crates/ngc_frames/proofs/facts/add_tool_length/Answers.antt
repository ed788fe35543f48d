use Rattle.std.proofs.Common.{◌≡◌, arith, to_z, of_z}
use Rattle.std.specs.Int.{w64}
use Rattle.std.proofs.lemmas.Int.{ints}
use Rattle.std.proofs.lemmas.List.{append_assoc}
use Rattle.ngc_frames.proofs.facts.add_tool_length.Goals as goal

pub returns-clause-text : goal.returns-clause-text
returns-clause-text c =
    let v : to_z w64 (of_z w64 c.tool_length.result) ≡ c.tool_length.result = omega (arith, ints) in
    rw (c.add_line.ensures.text, c.add_nanometres.ensures.text, v, c.tool_length.ensures, c.add_text.ensures) (simp append_assoc)
