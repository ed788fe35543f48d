use Rattle.std.proofs.Common.{◌≡◌, ◌++◌, List, drop, map}
use Rattle.ngc_drawing.specs.Bodies.{sweep_of, joined}
use Rattle.ngc_drawing.specs.declared.sweep.Sweep.{Sweep}
use Rattle.ngc_drawing.proofs.sweep.sweep_pieces.Given as goal

abbrev pub invariant-loop-piece : goal.invariant-loop-piece
invariant-loop-piece g l = (rest : List Sweep) →
    l.initial.list.items ++ joined l.view l.most l.fn.before (map (sweep_of l.rank) l.pieces ++ rest)
    ≡ l.list.items ++ joined l.view l.most l.held (map (sweep_of l.rank) (drop l.piece-index l.pieces) ++ rest)
