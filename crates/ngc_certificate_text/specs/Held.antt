-- The storage of motions: the pieces of all of them in one list, and for each motion the range of
-- its own. Our own.
use Rattle.std.specs.Prelude.{◌+◌, ◌≤◌, List, take, drop, map, length}
use Rattle.std.specs.List.{All}
use Rattle.ngc_certificate_text.specs.declared.motions.Held.{Held}
use Rattle.ngc_certificate_text.specs.declared.piece.Piece.{Piece}
use Rattle.ngc_certificate_text.specs.Certificate.{Entry, AreEntries}

abbrev pub held_entry : List Piece → Held → Entry
held_entry pieces h = record { index = h.index; pieces = take h.count (drop h.start pieces) }

abbrev pub held_entries : List Piece → List Held → List Entry
held_entries pieces held = map (held_entry pieces) held

-- its pieces are in the list
abbrev pub IsWithin : List Piece → Held → Type 0
IsWithin pieces h = h.start + h.count ≤ length pieces

pub record AreHeld (pieces : List Piece) (held : List Held) : Type 0 where
  pub within : All (IsWithin pieces) held
  pub entries : AreEntries (held_entries pieces held)
