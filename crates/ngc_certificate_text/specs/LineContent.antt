-- The contents of the lines of a certificate's text, one by one. Our own.
use Rattle.std.specs.Prelude.{◌≡◌, ℕ, ◌+◌, ◌-◌, ◌≤◌, nat_le, List, [], ◌∷◌, length, Result, Ok, Err}
use Rattle.std.specs.Prelude.{Bool, true, false, IsTrue}
use Rattle.ngc_certificate_text.specs.declared.expected.Expected.{Expected}
use Rattle.ngc_certificate_text.specs.declared.expected.Expected.TheVariants as next
use Rattle.ngc_certificate_text.specs.declared.expected.BegunMotion.{BegunMotion}
use Rattle.ngc_certificate_text.specs.declared.expected.Indices.{Indices}
use Rattle.ngc_certificate_text.specs.declared.expected.Indices.TheVariants as of
use Rattle.ngc_certificate_text.specs.declared.expected.RemainingMotions.{RemainingMotions}
use Rattle.ngc_certificate_text.specs.declared.expected.RemainingMotions.TheVariants.{Parted, Joined}
use Rattle.ngc_certificate_text.specs.declared.fault.CertificateFault.{CertificateFault}
use Rattle.ngc_certificate_text.specs.declared.fault.CertificateFault.TheVariants as faults
use Rattle.ngc_certificate_text.specs.declared.lines.CountsLine.{CountsLine}
use Rattle.ngc_certificate_text.specs.declared.lines.EntryLine.{EntryLine}
use Rattle.ngc_certificate_text.specs.declared.lines.LineFlaw.{LineFlaw}
use Rattle.ngc_certificate_text.specs.declared.lines.LineFlaw.TheVariants.{Spelling}
use Rattle.ngc_certificate_text.specs.declared.piece.Setting.{Setting}
use Rattle.ngc_certificate_text.specs.declared.piece.Setting.TheVariants.{Off, On}
use Rattle.ngc_certificate_text.specs.declared.line_content.LineContent.{LineContent}
use Rattle.ngc_certificate_text.specs.declared.line_content.LineContent.TheVariants as content_kind
use Rattle.ngc_certificate_text.specs.declared.line_content.Version.{Version}
use Rattle.ngc_certificate_text.specs.declared.line_content.Version.TheVariants.{One, Two}
use Rattle.ngc_certificate_text.specs.Ahead.{Rest, Left, name_of, index_at, of_version, with_items}
use Rattle.ngc_certificate_text.specs.Ahead.{with_pieces, next_of_motions, motions_after}
use Rattle.ngc_certificate_text.specs.Certificate.{PIECE_LIMIT, MOTION_LIMIT, good_piece}
use Rattle.ngc_certificate_text.specs.EntryLines.{parsed_version, parsed_counts, parsed_entry, of_setting}
use Rattle.ngc_certificate_text.specs.Joined.{good_indices}
use Rattle.ngc_certificate_text.specs.Lines.{parsed_setting, parsed_motion, parsed_piece, parsed_end}
use Rattle.ngc_certificate_text.specs.ParsedPart.{fault_at}

-- the rest before a line is the line's version, motion or piece, and the rest after the line
abbrev pub onto : LineContent → Rest → Rest
onto (content_kind.Header v) r = of_version v r
onto (content_kind.Motion b) r = with_items (record { indices = b.indices; pieces = r.pieces } ∷ []) r
onto (content_kind.Piece b p) r = with_pieces (p ∷ r.pieces) r
onto (content_kind.Setting s n) r = r
onto (content_kind.Counts off on) r = r
onto content_kind.End r = r

-- the number of remaining pieces is the one that the line declared
abbrev pub Fits : LineContent → Rest → Type 0
Fits (content_kind.Header v) r = Unit {0}
Fits (content_kind.Setting s n) r = Unit {0}
Fits (content_kind.Counts off on) r = Unit {0}
Fits (content_kind.Motion b) r = length r.pieces ≡ b.pieces_left
Fits (content_kind.Piece b p) r = length r.pieces + 1 ≡ b.pieces_left
Fits content_kind.End r = r.items ≡ []

-- a line is in front of the rest of the text
abbrev pub IsFront : LineContent → Left → Left → Type 0
IsFront line_content before (Ok r) = (before ≡ Ok (onto line_content r)) × Fits line_content r
IsFront line_content before (Err fault) = before ≡ Err fault

-- ---- the line that follows another

abbrev pub after_version : Version → Expected
after_version One = next.Setting Off
after_version Two = next.Counts

abbrev pub after_piece : Bool → BegunMotion → Expected
after_piece true b = next_of_motions b.afterwards
after_piece false b = next.Piece (record b { pieces_left = b.pieces_left - 1 })

abbrev pub after_content : LineContent → Expected
after_content (content_kind.Header v) = after_version v
after_content (content_kind.Setting s n) = next_of_motions (Parted s n)
after_content (content_kind.Counts off on) =
    next_of_motions (Joined (record { off = off; on = on; after_on = false }))
after_content (content_kind.Motion b) = next.Piece b
after_content (content_kind.Piece b p) = after_piece (nat_le b.pieces_left 1) b
after_content content_kind.End = next.Nothing

-- the number of motions of a setting that may still follow, if these motions remain
abbrev pub left_at : RemainingMotions → Setting → ℕ
left_at (Parted Off left) Off = left
left_at (Parted Off left) On = MOTION_LIMIT
left_at (Parted On left) Off = 0
left_at (Parted On left) On = left
left_at (Joined left) Off = left.off
left_at (Joined left) On = left.on

-- the number of motions of a setting in an entry
abbrev pub taken_at : Indices → Setting → ℕ
taken_at (of.Both i j) s = 1
taken_at (of.Off i) Off = 1
taken_at (of.Off i) On = 0
taken_at (of.On j) Off = 0
taken_at (of.On j) On = 1

-- a motion's line declares at least one piece, and the motion counts as one of its setting
pub record IsNextMotion (e : Expected) (b : BegunMotion) : Type 0 where
  pub left : RemainingMotions
  pub expected : e ≡ next.Motion left
  pub afterwards : b.afterwards ≡ motions_after left b.indices
  pub counted : (s : Setting) → left_at left s ≡ left_at b.afterwards s + taken_at b.indices s
  pub indices : IsTrue (good_indices b.indices)
  pub some : 1 ≤ b.pieces_left
  pub few : b.pieces_left ≤ PIECE_LIMIT

-- a line of the expected kind may have this content
abbrev pub IsNext : Expected → LineContent → Type 0
IsNext e (content_kind.Header v) = e ≡ next.Header
IsNext e (content_kind.Setting s n) = (e ≡ next.Setting s) × (n ≤ MOTION_LIMIT)
IsNext e (content_kind.Counts off on) = (e ≡ next.Counts) × (off ≤ MOTION_LIMIT) × (on ≤ MOTION_LIMIT)
IsNext e (content_kind.Motion b) = IsNextMotion e b
IsNext e (content_kind.Piece b p) = (e ≡ next.Piece b) × IsTrue (good_piece p)
IsNext e content_kind.End = e ≡ next.End

-- ---- the content of a line, if this one is expected

abbrev pub content_with : {X : Type 0} → (X → LineContent) → Result X LineFlaw → Result LineContent LineFlaw
content_with f (Ok x) = Ok (f x)
content_with f (Err flaw) = Err flaw

abbrev pub counts_content : CountsLine → LineContent
counts_content c = content_kind.Counts c.off c.on

-- the line of a motion, or of an entry
abbrev pub parsed_motion_or_entry : RemainingMotions → List ℕ → Result EntryLine LineFlaw
parsed_motion_or_entry (Parted s left) line = of_setting (index_at s) (parsed_motion line)
parsed_motion_or_entry (Joined left) line = parsed_entry left line

abbrev pub motion_content : RemainingMotions → EntryLine → LineContent
motion_content left e = content_kind.Motion
    (record { indices = e.indices; pieces_left = e.pieces; afterwards = motions_after left e.indices })

abbrev pub content_by : Expected → List ℕ → Result LineContent LineFlaw
content_by next.Header line = content_with content_kind.Header (parsed_version line)
content_by (next.Setting s) line = content_with (content_kind.Setting s) (parsed_setting (name_of s) line)
content_by next.Counts line = content_with counts_content (parsed_counts line)
content_by (next.Motion left) line = content_with (motion_content left) (parsed_motion_or_entry left line)
content_by (next.Piece b) line = content_with (content_kind.Piece b) (parsed_piece line)
content_by next.End line = content_with (λ _. content_kind.End) (parsed_end line)
content_by next.Nothing line = Err Spelling

-- why a line is refused, if this one is expected
abbrev pub fault_of : Expected → ℕ → LineFlaw → CertificateFault
fault_of next.Header number flaw = faults.WrongHeader
fault_of (next.Setting s) number flaw = fault_at number flaw
fault_of next.Counts number flaw = fault_at number flaw
fault_of (next.Motion left) number flaw = fault_at number flaw
fault_of (next.Piece b) number flaw = fault_at number flaw
fault_of next.End number flaw = fault_at number flaw
fault_of next.Nothing number flaw = fault_at number flaw

-- a line is in front of the rest, or the text has its fault
abbrev pub LineResultIs : Result LineContent CertificateFault → Left → Left → Type 0
LineResultIs (Ok line_content) before after = IsFront line_content before after
LineResultIs (Err fault) before after = before ≡ Err fault
