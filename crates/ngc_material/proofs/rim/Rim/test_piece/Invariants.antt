use Rattle.ngc_material.specs.Rims.{AreChordsClear}
use Rattle.ngc_material.proofs.rim.Rim.test_piece.Given as goal

-- the parts are clear along the chords so far
abbrev pub invariant-loop-index : goal.invariant-loop-index
invariant-loop-index l = AreChordsClear l.self.stock l.tool l.self.arc l.heights l.fn.first l.start
