-- The values of the parts of a line. Our own.
use Rattle.ngc_certificate_text.specs.declared.piece.Cut.{Cut}
use Rattle.ngc_certificate_text.specs.declared.piece.Cut.TheVariants.{Place}
use Rattle.ngc_certificate_text.specs.declared.piece.Piece.{Piece}
use Rattle.ngc_certificate_text.specs.declared.expected.Indices.TheVariants.{Both}
use Rattle.ngc_certificate_text.specs.declared.lines.CountsLine.{CountsLine}
use Rattle.ngc_certificate_text.specs.declared.lines.EntryLine.{EntryLine}
use Rattle.ngc_certificate_text.specs.declared.lines.MotionLine.{MotionLine}
use Rattle.std.specs.Prelude.{ℕ, ℤ, List, [], ◌∷◌, Result, Ok, Err}
use Rattle.ngc_fixed_length.specs.declared.points.GridBox.{GridBox}
use Rattle.ngc_fixed_length.specs.declared.points.StepPos.{StepPos}
use Rattle.ngc_fixed_length.specs.Boxes.{is_below}
use Rattle.ngc_certificate_text.specs.declared.lines.LineFlaw.{LineFlaw}
use Rattle.ngc_certificate_text.specs.declared.lines.LineFlaw.TheVariants.{Spelling, Range}
use Rattle.ngc_certificate_text.specs.Lines.{ranged, good_box}

-- the box with these six numbers
abbrev pub parsed_box : List ℤ → Result GridBox LineFlaw
parsed_box (x0 ∷ y0 ∷ z0 ∷ x1 ∷ y1 ∷ z1 ∷ []) =
    let low : StepPos = record { x = x0; y = y0; z = z0 } in
    let high : StepPos = record { x = x1; y = y1; z = z1 } in
    let bounds : GridBox = record { low = low; high = high } in
    ranged (good_box bounds) bounds
parsed_box _ = Err Spelling

-- the box between two corners, if they are in range
abbrev pub box_between : Result StepPos LineFlaw → Result StepPos LineFlaw → Result GridBox LineFlaw
box_between (Ok low) (Ok high) = ranged (is_below low high) (record { low = low; high = high })
box_between (Ok low) (Err flaw) = Err Range
box_between (Err flaw) high = Err Range

-- the point of a plane with these coordinates, if they are in range
abbrev pub place_between : Result ℤ LineFlaw → Result ℤ LineFlaw → Result Cut LineFlaw
place_between (Ok u) (Ok v) = Ok (Place (record { u = u; v = v }))
place_between (Ok u) (Err flaw) = Err Range
place_between (Err flaw) v = Err Range

-- a piece, or the flaw of its box, or else of its end
abbrev pub piece_with : Result Cut LineFlaw → Result GridBox LineFlaw → Result Piece LineFlaw
piece_with (Ok end) (Ok bounds) = Ok (record { end = end; bounds = bounds })
piece_with (Err flaw) (Ok bounds) = Err flaw
piece_with end (Err flaw) = Err flaw

abbrev pub motion_of : Result ℕ LineFlaw → Result ℕ LineFlaw → Result MotionLine LineFlaw
motion_of (Ok index) (Ok pieces) = Ok (record { index = index; pieces = pieces })
motion_of (Ok index) (Err flaw) = Err Range
motion_of (Err flaw) pieces = Err Range

abbrev pub counts_of : Result ℕ LineFlaw → Result ℕ LineFlaw → Result CountsLine LineFlaw
counts_of (Ok off) (Ok on) = Ok (record { off = off; on = on })
counts_of (Ok off) (Err flaw) = Err Range
counts_of (Err flaw) on = Err Range

abbrev pub both_of : Result ℕ LineFlaw → Result MotionLine LineFlaw → Result EntryLine LineFlaw
both_of (Ok off) (Ok motion) =
    Ok (record { indices = Both off motion.index; pieces = motion.pieces })
both_of (Ok off) (Err flaw) = Err Range
both_of (Err flaw) motion = Err Range
