-- Motions of both settings as entries of version 2, with the first ones joined. Our own.
use Rattle.std.specs.Prelude.{◌≡◌, ℕ, suc, ◌<◌, ◌≤◌, List, ◌∷◌, ◌++◌, map, length}
use Rattle.ngc_certificate_text.specs.declared.expected.Indices.TheVariants.{Both}
use Rattle.ngc_certificate_text.specs.declared.piece.Setting.TheVariants.{Off, On}
use Rattle.ngc_certificate_text.specs.Ahead.{item_of}
use Rattle.ngc_certificate_text.specs.Certificate.{Entry, entry_at}
use Rattle.ngc_certificate_text.specs.Joined.{Item}

-- a motion of each setting as one entry
abbrev pub both_item : Entry → Entry → Item
both_item a b = record { indices = Both a.index b.index; pieces = a.pieces }

-- motions of one setting alone: those of `off`, and then those of `on`
abbrev pub alone_items : List Entry → List Entry → List Item
alone_items off on = map (item_of Off) off ++ map (item_of On) on

-- the first n motions of each setting are joined in pairs, and the others are entries of one
-- setting
abbrev pub joined_first : ℕ → List Entry → List Entry → List Item
joined_first (suc n) (a ∷ off) (b ∷ on) = both_item a b ∷ joined_first n off on
joined_first n off on = alone_items off on

-- each setting has at least n motions, and the first n of one have the same pieces as the other's
pub record HaveSamePieces (n : ℕ) (off on : List Entry) : Type 0 where
  pub off_has : n ≤ length off
  pub on_has : n ≤ length on
  pub same : (k : ℕ) → k < n → (entry_at off k).pieces ≡ (entry_at on k).pieces
