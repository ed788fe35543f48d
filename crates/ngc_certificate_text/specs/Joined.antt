-- A certificate of version 2: entries in the order of its lines, some of them for both settings.
-- Our own.
use Rattle.std.specs.Prelude.{ℕ, ◌≤◌, nat_le, List, [], ◌∷◌, length, Option, Some, None, Bool, true}
use Rattle.std.specs.Prelude.{false, not, ◌&&◌, IsTrue}
use Rattle.std.specs.List.{All, list_all}
use Rattle.ngc_certificate_text.specs.declared.expected.Indices.{Indices}
use Rattle.ngc_certificate_text.specs.declared.expected.Indices.TheVariants.{Both, Off, On}
use Rattle.ngc_certificate_text.specs.declared.piece.Piece.{Piece}
use Rattle.ngc_certificate_text.specs.declared.line_content.Version.{Version}
use Rattle.ngc_certificate_text.specs.declared.line_content.Version.TheVariants.{One, Two}
use Rattle.ngc_certificate_text.specs.Certificate.{Entry, CertificateData, INDEX_LIMIT, PIECE_LIMIT}
use Rattle.ngc_certificate_text.specs.Certificate.{MOTION_LIMIT, good_piece}

-- a motion of one setting, or one of each with the same pieces
pub record Item : Type 0 where
  pub indices : Indices
  pub pieces : List Piece

abbrev pub entry_with : ℕ → List Piece → Entry
entry_with index pieces = record { index = index; pieces = pieces }

-- its motions are put in front of those of their settings
abbrev pub onto_motions : Indices → List Piece → CertificateData → CertificateData
onto_motions (Both i j) pieces c =
    record { off = entry_with i pieces ∷ c.off; on = entry_with j pieces ∷ c.on }
onto_motions (Off i) pieces c = record { off = entry_with i pieces ∷ c.off; on = c.on }
onto_motions (On j) pieces c = record { off = c.off; on = entry_with j pieces ∷ c.on }

-- the motions of both settings
abbrev pub expansion : List Item → CertificateData
expansion [] = record { off = []; on = [] }
expansion (x ∷ xs) = onto_motions x.indices x.pieces (expansion xs)

-- ---- ranges and order

abbrev pub good_indices : Indices → Bool
good_indices (Both i j) = nat_le i INDEX_LIMIT && nat_le j INDEX_LIMIT
good_indices (Off i) = nat_le i INDEX_LIMIT
good_indices (On j) = nat_le j INDEX_LIMIT

pub record IsItem (x : Item) : Type 0 where
  pub indices : IsTrue (good_indices x.indices)
  pub some : 1 ≤ length x.pieces
  pub count : length x.pieces ≤ PIECE_LIMIT
  pub pieces : IsTrue (list_all good_piece x.pieces)

abbrev pub is_on : Indices → Bool
is_on (On j) = true
is_on (Off i) = false
is_on (Both i j) = false

abbrev pub may_follow : Bool → Indices → Bool
may_follow after_on (Off i) = not after_on
may_follow after_on (On j) = true
may_follow after_on (Both i j) = true

-- no entry of `off` alone directly follows one of `on` alone
abbrev pub in_order : Bool → List Item → Bool
in_order after_on [] = true
in_order after_on (x ∷ xs) = may_follow after_on x.indices && in_order (is_on x.indices) xs

-- properties of every certificate of version 2
pub record IsJoined (items : List Item) : Type 0 where
  pub off : length ((expansion items).off) ≤ MOTION_LIMIT
  pub on : length ((expansion items).on) ≤ MOTION_LIMIT
  pub each : All IsItem items
  pub order : IsTrue (in_order false items)

-- ---- both versions

pub data Form : Type 0 where
  Parted : CertificateData → Form
  Joined : List Item → Form

abbrev pub contents : Form → CertificateData
contents (Parted c) = c
contents (Joined items) = expansion items

-- these entries in the form of a version
abbrev pub form_by : Option Version → List Item → Form
form_by (Some Two) items = Joined items
form_by (Some One) items = Parted (expansion items)
form_by None items = Parted (expansion items)
