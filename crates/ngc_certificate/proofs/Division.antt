-- The pieces of a divided motion.
use Rattle.std.proofs.Common.{◌≡◌, ℕ, zero, suc, ◌+◌, ◌*◌, ◌/◌, ◌≤◌, ℤ, refl, ap, sym, ◌∙◌, List, [], ◌∷◌, ◌++◌, length, arith}
use Rattle.ngc_fixed_length.specs.declared.points.Point3.{Point3}
use Rattle.ngc_commands.specs.declared.movement.Way.{Way}
use Rattle.ngc_commands.specs.declared.movement.Way.TheVariants.{Line, Arc}
use Rattle.ngc_certificate_text.specs.declared.piece.Piece.{Piece}
use Rattle.ngc_certificate.specs.Made.{line_piece, line_pieces_from, pieces_of}

-- piece k of a line in c
abbrev pub line_piece_at : ℤ → Point3 → Point3 → ℕ → ℕ → Piece
line_piece_at step b e c k = line_piece step b e (65536 * k / c) (65536 * (k + 1) / c)

-- one more piece, after the others
pub one_more : (step : ℤ) (b e : Point3) (c k left : ℕ) →
    line_pieces_from step b e c k (suc left) ≡ line_pieces_from step b e c k left ++ (line_piece_at step b e c (k + left) ∷ [])
one_more step b e c k zero =
    let i : k + 0 ≡ k = omega arith in
    ap (λ n. line_piece_at step b e c n ∷ []) (sym i)
one_more step b e c k (suc left) =
    let i : k + 1 + left ≡ k + suc left = omega arith in
    ap (λ ps. line_piece_at step b e c k ∷ ps)
    (one_more step b e c (k + 1) left ∙ ap (λ n. line_pieces_from step b e c (k + 1) left ++ (line_piece_at step b e c n ∷ [])) i)

pub count_of : (step : ℤ) (b e : Point3) (c k left : ℕ) → length (line_pieces_from step b e c k left) ≡ left
count_of step b e c k zero = refl
count_of step b e c k (suc left) = ap suc (count_of step b e c (k + 1) left)

pub next_piece : (step : ℤ) (b e : Point3) (c k : ℕ) →
    line_pieces_from step b e c 0 (k + 1) ≡ line_pieces_from step b e c 0 k ++ (line_piece step b e (65536 * k / c) (65536 * (k + 1) / c) ∷ [])
next_piece step b e c k =
    let n : k + 1 ≡ suc k = omega arith in
    let z : 0 + k ≡ k = omega arith in
    ap (λ w. line_pieces_from step b e c 0 w) n
    ∙ one_more step b e c 0 k
    ∙ ap (λ w. line_pieces_from step b e c 0 k ++ (line_piece_at step b e c w ∷ [])) z

-- a write of a piece whose cuts are known
pub piece_added : (step : ℤ) (b e : Point3) (c k s t : ℕ) (before after : List Piece) (p : Piece) →
    s ≡ 65536 * k / c → t ≡ 65536 * (k + 1) / c → p ≡ line_piece step b e s t →
    before ≡ line_pieces_from step b e c 0 k → after ≡ before ++ (p ∷ []) → after ≡ line_pieces_from step b e c 0 (k + 1)
piece_added step b e c k s t before after p hs ht hp hb ha = cc (next_piece step b e c k)

-- at most as many pieces as requested
pub few : (step : ℤ) (w : Way) (c : ℕ) → 1 ≤ c → c ≤ 65535 → length (pieces_of step w c) ≤ 65535
few step (Line b e) c some most = rw (count_of step b e c 0 c) most
few step (Arc a) c some most = omega arith

pub some : (step : ℤ) (w : Way) (c : ℕ) → 1 ≤ c → 1 ≤ length (pieces_of step w c)
some step (Line b e) c least = rw (count_of step b e c 0 c) least
some step (Arc a) c least = omega arith
