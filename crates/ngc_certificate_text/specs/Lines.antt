-- The content of each line of a certificate. A line whose numbers are out of range is still written
-- correctly. Our own.
use Rattle.std.specs.Prelude.{ℕ, ℤ, pos, neg_ℤ, unsigned_abs, int_le, List, [], ◌∷◌, codes, Option}
use Rattle.std.specs.Prelude.{Some, None, Result}
use Rattle.std.specs.Prelude.{Ok, Err, Bool, ◌&&◌, if◌then◌else◌}
use Rattle.std.specs.Option.{option_map, option_and_then}
use Rattle.std.specs.Str.{bytes_eq}
use Rattle.ngc_fixed_length.specs.Boxes.{is_below}
use Rattle.ngc_fixed_length.specs.Signed.{is_within}
use Rattle.ngc_fixed_length.specs.declared.points.GridBox.{GridBox}
use Rattle.ngc_fixed_length.specs.declared.points.StepPos.{StepPos}
use Rattle.ngc_certificate_text.specs.declared.piece.Cut.{Cut}
use Rattle.ngc_certificate_text.specs.declared.piece.Cut.TheVariants.{Part, Place}
use Rattle.ngc_certificate_text.specs.declared.piece.Piece.{Piece}
use Rattle.ngc_certificate_text.specs.declared.lines.LineFlaw.{LineFlaw}
use Rattle.ngc_certificate_text.specs.declared.lines.LineFlaw.TheVariants.{Spelling, Range}
use Rattle.ngc_certificate_text.specs.declared.lines.MotionLine.{MotionLine}
use Rattle.ngc_certificate_text.specs.Certificate.{WHOLE, INDEX_LIMIT, PIECE_LIMIT, MOTION_LIMIT}
use Rattle.ngc_certificate_text.specs.Certificate.{CUT_LIMIT}
use Rattle.ngc_certificate_text.specs.Number.{fields, number_in}

-- one number in each field
unfoldable pub numbers_in : List (List ℕ) → Option (List ℤ)
numbers_in [] = Some []
numbers_in (f ∷ fs) = option_and_then (λ z. option_map (λ zs. z ∷ zs) (numbers_in fs)) (number_in f)

-- numbers after these words, one in each field
abbrev pub numbers_in_rest : List (List ℕ) → List (List ℕ) → Option (List ℤ)
numbers_in_rest [] fs = numbers_in fs
numbers_in_rest (w ∷ ws) [] = None
numbers_in_rest (w ∷ ws) (f ∷ fs) = if bytes_eq f w then numbers_in_rest ws fs else None

abbrev pub is_between : ℤ → ℤ → ℤ → Bool
is_between least greatest z = int_le least z && int_le z greatest

-- from this number up to that one
abbrev pub is_count : ℕ → ℕ → ℤ → Bool
is_count least greatest z = is_between (pos least) (pos greatest) z

-- a correctly written line has the content x if its numbers are in range
abbrev pub ranged : {X : Type 0} → Bool → X → Result X LineFlaw
ranged good x = if good then Ok x else Err Range

-- ---- settings and motions

abbrev pub one_count : Option (List ℤ) → Result ℕ LineFlaw
one_count (Some (n ∷ [])) = ranged (is_count 0 MOTION_LIMIT n) (unsigned_abs n)
one_count _ = Err Spelling

-- the number of motions of the setting with this name
unfoldable pub parsed_setting : List ℕ → List ℕ → Result ℕ LineFlaw
parsed_setting name line = one_count (numbers_in_rest (codes "setting" ∷ name ∷ []) (fields line))

abbrev pub two_counts : Option (List ℤ) → Result MotionLine LineFlaw
two_counts (Some (i ∷ n ∷ [])) =
    ranged (is_count 0 INDEX_LIMIT i && is_count 1 PIECE_LIMIT n)
    (record { index = unsigned_abs i; pieces = unsigned_abs n })
two_counts _ = Err Spelling

-- a motion's index, and the number of its pieces
unfoldable pub parsed_motion : List ℕ → Result MotionLine LineFlaw
parsed_motion line = two_counts (numbers_in_rest (codes "motion" ∷ []) (fields line))

-- ---- pieces

-- steps are 32-bit numbers
abbrev pub is_step : ℤ → Bool
is_step z = is_between (neg_ℤ (pos 2147483648)) (pos 2147483647) z

abbrev pub are_steps : StepPos → Bool
are_steps p = is_step p.x && (is_step p.y && is_step p.z)

abbrev pub good_box : GridBox → Bool
good_box b = are_steps b.low && (are_steps b.high && is_below b.low b.high)

-- a piece with this end, in the box of these six numbers
abbrev pub boxed : Bool → Cut → List ℤ → Result Piece LineFlaw
boxed good end (x0 ∷ y0 ∷ z0 ∷ x1 ∷ y1 ∷ z1 ∷ []) =
    let low : StepPos = record { x = x0; y = y0; z = z0 } in
    let high : StepPos = record { x = x1; y = y1; z = z1 } in
    let bounds : GridBox = record { low = low; high = high } in
    ranged (good && good_box bounds) (record { end = end; bounds = bounds })
boxed good end _ = Err Spelling

abbrev pub line_piece : Option (List ℤ) → Result Piece LineFlaw
line_piece (Some (t ∷ steps)) = boxed (is_count 1 WHOLE t) (Part (unsigned_abs t)) steps
line_piece _ = Err Spelling

abbrev pub arc_piece : Option (List ℤ) → Result Piece LineFlaw
arc_piece (Some (u ∷ v ∷ steps)) =
    boxed (is_within CUT_LIMIT u && is_within CUT_LIMIT v) (Place (record { u = u; v = v })) steps
arc_piece _ = Err Spelling

abbrev pub piece_in : List (List ℕ) → Result Piece LineFlaw
piece_in [] = Err Spelling
piece_in (word ∷ fs) =
    if bytes_eq word (codes "line") then line_piece (numbers_in fs) else
    if bytes_eq word (codes "arc") then arc_piece (numbers_in fs) else Err Spelling

unfoldable pub parsed_piece : List ℕ → Result Piece LineFlaw
parsed_piece line = piece_in (fields line)

-- ---- the last line

unfoldable pub parsed_end : List ℕ → Result (Unit {0}) LineFlaw
parsed_end line = if bytes_eq line (codes "end") then Ok tt else Err Spelling
