-- The part of a certificate that a reader stores, and the whole one. Our own.
use Rattle.std.specs.Prelude.{◌≡◌, ℕ, ◌+◌, ◌≤◌, nat_le, List, [], ◌∷◌, ◌++◌, length, Option, Some}
use Rattle.std.specs.Prelude.{None, Bool, true, false, IsTrue}
use Rattle.std.specs.List.{list_all}
use Rattle.ngc_certificate_text.specs.declared.expected.Expected.{Expected}
use Rattle.ngc_certificate_text.specs.declared.expected.Expected.TheVariants as next
use Rattle.ngc_certificate_text.specs.declared.expected.BegunMotion.{BegunMotion}
use Rattle.ngc_certificate_text.specs.declared.expected.Indices.{Indices}
use Rattle.ngc_certificate_text.specs.declared.found.Found.{Found}
use Rattle.ngc_certificate_text.specs.declared.piece.Piece.{Piece}
use Rattle.ngc_certificate_text.specs.declared.piece.Setting.{Setting}
use Rattle.ngc_certificate_text.specs.declared.piece.Setting.TheVariants.{Off, On}
use Rattle.ngc_certificate_text.specs.declared.line_content.LineContent.{LineContent}
use Rattle.ngc_certificate_text.specs.declared.line_content.LineContent.TheVariants as content_kind
use Rattle.ngc_certificate_text.specs.declared.line_content.Version.{Version}
use Rattle.ngc_certificate_text.specs.Ahead.{Rest, with_items}
use Rattle.ngc_certificate_text.specs.Certificate.{entries_at, PIECE_LIMIT, MOTION_LIMIT}
use Rattle.ngc_certificate_text.specs.Certificate.{good_piece}
use Rattle.ngc_certificate_text.specs.Joined.{Item, expansion, good_indices, Form, form_by}
use Rattle.ngc_certificate_text.specs.Order.{items_in, IsWhole}
use Rattle.ngc_certificate_text.specs.LineContent.{left_at, taken_at}

-- the version, the complete entries, and the pieces so far of one that has begun
pub record ReadSoFar : Type 0 where
  pub version : Option Version
  pub pieces : List Piece
  pub items : List Item

abbrev pub read_so_far : {A : Type 0} → Found A → ReadSoFar
read_so_far f = record {
  version = f.version;
  pieces = f.pieces.items;
  items = items_in f.order.items f.off f.on;
}

-- all motions of both settings are entries
abbrev pub IsKept : {A : Type 0} → Found A → Type 0
IsKept f = IsWhole f.order.items f.off f.on

-- this entry is added after the others
abbrev pub add_item : Indices → List Piece → List Item → List Item
add_item indices pieces items = items ++ (record { indices = indices; pieces = pieces } ∷ [])

abbrev pub with_added_piece : Bool → BegunMotion → List Piece → ReadSoFar → ReadSoFar
with_added_piece true b pieces h =
    record { version = h.version; pieces = pieces; items = add_item b.indices pieces h.items }
with_added_piece false b pieces h = record { version = h.version; pieces = pieces; items = h.items }

-- what a line adds to the part read so far
abbrev pub with_line : LineContent → ReadSoFar → ReadSoFar
with_line (content_kind.Header v) h = record { version = Some v; pieces = h.pieces; items = h.items }
with_line (content_kind.Setting s n) h = h
with_line (content_kind.Counts off on) h = h
with_line (content_kind.Motion b) h = record { version = h.version; pieces = []; items = h.items }
with_line (content_kind.Piece b p) h = with_added_piece (nat_le b.pieces_left 1) b (h.pieces ++ (p ∷ [])) h
with_line content_kind.End h = h

-- ---- the whole certificate: the part read so far, and the rest

abbrev pub first_of : Option Version → Option Version → Option Version
first_of None later = later
first_of (Some v) later = Some v

abbrev pub joined : ReadSoFar → Rest → Form
joined h r = form_by (first_of h.version r.version) (h.items ++ r.items)

abbrev pub begun_of : Expected → Option BegunMotion
begun_of next.Header = None
begun_of (next.Setting s) = None
begun_of next.Counts = None
begun_of (next.Motion left) = None
begun_of (next.Piece b) = Some b
begun_of next.End = None
begun_of next.Nothing = None

abbrev pub gathered : Option BegunMotion → ReadSoFar → Rest → Form
gathered None h r = joined h r
gathered (Some b) h r =
    joined h (with_items (record { indices = b.indices; pieces = h.pieces ++ r.pieces } ∷ []) r)

-- ---- there is capacity for the rest

abbrev pub may_follow_after : Setting → Setting → ℕ
may_follow_after Off s = MOTION_LIMIT
may_follow_after On Off = 0
may_follow_after On On = MOTION_LIMIT

abbrev pub may_still_follow : Expected → Setting → ℕ
may_still_follow next.Header s = MOTION_LIMIT
may_still_follow (next.Setting t) s = may_follow_after t s
may_still_follow next.Counts s = MOTION_LIMIT
may_still_follow (next.Motion left) s = left_at left s
may_still_follow (next.Piece b) s = left_at b.afterwards s + taken_at b.indices s
may_still_follow next.End s = 0
may_still_follow next.Nothing s = 0

pub record IsBegun (b : BegunMotion) (pieces : List Piece) : Type 0 where
  pub indices : IsTrue (good_indices b.indices)
  pub few : length pieces + b.pieces_left ≤ PIECE_LIMIT
  pub good : IsTrue (list_all good_piece pieces)

-- a certificate has capacity for the entries that may follow
abbrev pub HasSpace : Expected → List Item → Type 0
HasSpace e items =
    (s : Setting) → length (entries_at s (expansion items)) + may_still_follow e s ≤ MOTION_LIMIT

-- and for one more entry
abbrev pub HasSpaceFor : Indices → List Item → Type 0
HasSpaceFor indices items =
    (s : Setting) → length (entries_at s (expansion items)) + taken_at indices s ≤ MOTION_LIMIT

-- this line may follow the part read so far
pub record MayExpect (e : Expected) (h : ReadSoFar) : Type 0 where
  pub version : e ≡ next.Header → h.version ≡ None
  pub room : HasSpace e h.items
  pub piece : (b : BegunMotion) → e ≡ next.Piece b → IsBegun b h.pieces

-- a piece may be added
pub record IsPieceTaken (b : BegunMotion) (p : Piece) (h : ReadSoFar) : Type 0 where
  pub begun : IsBegun b h.pieces
  pub some : 1 ≤ b.pieces_left
  pub room : HasSpace (next.Piece b) h.items
  pub good : IsTrue (good_piece p)

-- a line may be added
abbrev pub MayTake : LineContent → ReadSoFar → Type 0
MayTake (content_kind.Header v) h = Unit {0}
MayTake (content_kind.Setting s n) h = Unit {0}
MayTake (content_kind.Counts off on) h = Unit {0}
MayTake (content_kind.Motion b) h = Unit {0}
MayTake (content_kind.Piece b p) h = IsPieceTaken b p h
MayTake content_kind.End h = Unit {0}
