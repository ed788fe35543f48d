-- A piece of a motion by its number. Our own.
use Rattle.std.specs.Prelude.{ℕ, List, slice_index_or}
use Rattle.ngc_certificate_text.specs.declared.piece.Piece.{Piece}
use Rattle.ngc_certificate_text.specs.Certificate.{no_piece}

-- piece k, from 0
abbrev pub piece_in : List Piece → ℕ → Piece
piece_in pieces k = slice_index_or pieces k no_piece
