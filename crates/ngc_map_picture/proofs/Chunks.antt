-- The parts of a chunk, as they are collected.
use Rattle.std.proofs.Common.{◌≡◌, ℕ, ◌+◌, List, ◌++◌, length, ap, sym, ◌∙◌, append_assoc, length-append}
use Rattle.std.specs.Int.{w32, to_be_bytes}
use Rattle.ngc_map_picture.specs.Checks.{crc}
use Rattle.ngc_map_picture.specs.Blocks.{chunk}

regrouped : (a kind head body z : List ℕ) → (((a ++ kind) ++ head) ++ body) ++ z ≡ ((a ++ kind) ++ (head ++ body)) ++ z
regrouped a kind head body z = ap (λ l. l ++ z) (append_assoc (a ++ kind) head body)

pub chunk_of : (kind head body : List ℕ) (n check : ℕ) → n ≡ length head + length body → check ≡ crc (kind ++ (head ++ body)) →
    (((to_be_bytes w32 n ++ kind) ++ head) ++ body) ++ to_be_bytes w32 check ≡ chunk kind (head ++ body)
unfolding chunk
chunk_of kind head body n check size is =
    let whole : n ≡ length (head ++ body) = size ∙ sym (length-append head body) in
    rw (whole, is) (regrouped (to_be_bytes w32 (length (head ++ body))) kind head body (to_be_bytes w32 (crc (kind ++ (head ++ body)))))
