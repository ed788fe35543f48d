-- Motions of two settings that are alike.
use Rattle.std.proofs.Common.{◌≡◌, ℕ, ◌<◌, List, Some, ap, sym, ◌∙◌, length, arith}
use Rattle.std.specs.Prelude.{◌≢◌, slice_index_or}
use Rattle.std.proofs.lemmas.List.{ext_get_or}
use Rattle.std.proofs.lemmas.Option.{same_Some}
use Rattle.ngc_commands.specs.declared.command.Command.{Command}
use Rattle.ngc_commands.specs.declared.movement.Way.{Way}
use Rattle.ngc_certificate_text.specs.declared.piece.Piece.{Piece}
use Rattle.ngc_certificate_text.specs.Certificate.{Entry, entry_at, piece_at, no_piece}
use Rattle.ngc_certificate.specs.Common.{way_at, AreAlike}

-- two motions with one path and the same pieces
pub are_alike : (off on : List Command) (a b : Entry) (u v : Way) (i j : ℕ) → i ≡ a.index → j ≡ b.index → Some u ≡ way_at off i →
    Some v ≡ way_at on j → u ≡ v → a.pieces ≡ b.pieces → AreAlike off on a b
are_alike off on a b u v i j is_i is_j goes_u goes_v same_way same_pieces = record {
  way = u;
  off_goes = ap (way_at off) (sym is_i) ∙ sym goes_u;
  on_goes = ap (way_at on) (sym is_j) ∙ sym goes_v ∙ ap (λ (w : Way). Some w) (sym same_way);
  pieces = same_pieces;
}

pub one_way : (off on : List Command) (a b : Entry) (u v : Way) → way_at off a.index ≡ Some u → way_at on b.index ≡ Some v → AreAlike off on a b → u ≡ v
one_way off on a b u v off_goes on_goes alike =
    same_Some u alike.way (sym off_goes ∙ alike.off_goes) ∙ same_Some alike.way v (sym alike.on_goes ∙ on_goes)

-- pieces that are equal one by one
pub same_by_pieces : (off on : List Entry) (i n : ℕ) → n ≡ length (entry_at off i).pieces → n ≡ length (entry_at on i).pieces →
    ((k : ℕ) → k < n → piece_at off i k ≡ piece_at on i k) → (entry_at off i).pieces ≡ (entry_at on i).pieces
same_by_pieces off on i n off_has on_has same =
    ext_get_or no_piece (entry_at off i).pieces (entry_at on i).pieces (sym off_has ∙ on_has) (λ k inside. same k (omega (arith, inside, off_has)))

pub other_pieces : (off on : List Entry) (i k : ℕ) (p q : Piece) → p ≡ piece_at off i k → q ≡ piece_at on i k → p ≢ q →
    (entry_at off i).pieces ≢ (entry_at on i).pieces
other_pieces off on i k p q is_p is_q differ = λ same.
    differ (is_p ∙ ap (λ (ps : List Piece). slice_index_or ps k no_piece) same ∙ sym is_q)
