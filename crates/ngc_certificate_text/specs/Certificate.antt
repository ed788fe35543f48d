-- The contents of a certificate: for both settings of block delete the motions in order, each with
-- its pieces. Our own.
use Rattle.std.specs.Prelude.{ℕ, nat_le, ◌≤◌, List, [], length, slice_index_or, IsTrue, Bool, ◌&&◌, pos}
use Rattle.std.specs.List.{All, list_all}
use Rattle.ngc_fixed_length.specs.Boxes.{is_below}
use Rattle.ngc_fixed_length.specs.declared.points.StepPos.{StepPos}
use Rattle.ngc_fixed_length.specs.Signed.{is_within}
use Rattle.ngc_certificate_text.specs.declared.piece.Cut.{Cut}
use Rattle.ngc_certificate_text.specs.declared.piece.Cut.TheVariants.{Part, Place}
use Rattle.ngc_certificate_text.specs.declared.piece.Piece.{Piece}
use Rattle.ngc_certificate_text.specs.declared.piece.Setting.{Setting}
use Rattle.ngc_certificate_text.specs.declared.piece.Setting.TheVariants.{Off, On}

-- a motion by its index in the list of commands
pub record Entry : Type 0 where
  pub index : ℕ
  pub pieces : List Piece

pub record CertificateData : Type 0 where
  pub off : List Entry
  pub on : List Entry

abbrev pub entries_at : Setting → CertificateData → List Entry
entries_at Off c = c.off
entries_at On c = c.on

abbrev pub entry_at : List Entry → ℕ → Entry
entry_at entries i = slice_index_or entries i (record { index = 0; pieces = [] })

abbrev pub no_piece : Piece
no_piece =
    let origin : StepPos = record { x = pos 0; y = pos 0; z = pos 0 } in
    record { end = Part 0; bounds = record { low = origin; high = origin } }

-- piece k of motion i
abbrev pub piece_at : List Entry → ℕ → ℕ → Piece
piece_at entries i k = slice_index_or (entry_at entries i).pieces k no_piece

-- ---- ranges

-- the number of parts of a line
abbrev pub WHOLE : ℕ
WHOLE = 65536

abbrev pub INDEX_LIMIT : ℕ
INDEX_LIMIT = 999999

abbrev pub PIECE_LIMIT : ℕ
PIECE_LIMIT = 65535

abbrev pub MOTION_LIMIT : ℕ
MOTION_LIMIT = 1000000

-- the greatest coordinate of a cut point of an arc, in nanometres
abbrev pub CUT_LIMIT : ℕ
CUT_LIMIT = 4000000000

abbrev pub good_cut : Cut → Bool
good_cut (Part t) = nat_le 1 t && nat_le t WHOLE
good_cut (Place q) = is_within CUT_LIMIT q.u && is_within CUT_LIMIT q.v

-- the cut is in range, and the box's low corner is not above its high corner
abbrev pub good_piece : Piece → Bool
good_piece p = good_cut p.end && is_below p.bounds.low p.bounds.high

pub record IsEntry (e : Entry) : Type 0 where
  pub index : e.index ≤ INDEX_LIMIT
  pub some : 1 ≤ length e.pieces
  pub count : length e.pieces ≤ PIECE_LIMIT
  pub pieces : IsTrue (list_all good_piece e.pieces)

pub record AreEntries (entries : List Entry) : Type 0 where
  pub count : length entries ≤ MOTION_LIMIT
  pub each : All IsEntry entries

-- properties of every certificate
pub record IsCertificate (c : CertificateData) : Type 0 where
  pub off : AreEntries c.off
  pub on : AreEntries c.on
