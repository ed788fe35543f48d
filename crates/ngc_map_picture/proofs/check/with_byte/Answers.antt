use Rattle.std.proofs.Common.{◌≡◌, ℕ, false, [], ◌∷◌, List, Bool, arith, subst}
use Rattle.std.specs.Prelude.{replicate, bit_xor}
use Rattle.std.proofs.lemmas.List.{replicate_more}
use Rattle.ngc_map_picture.specs.Registers.{Divides}
use Rattle.ngc_map_picture.proofs.Division.{divides_none, divides_both, divides_byte}
use Rattle.ngc_map_picture.proofs.check.with_byte.Goals as goal

pub loop-init : goal.loop-init
loop-init c = divides_none (bit_xor c.args.register c.from.result)

pub loop-preserved : goal.loop-preserved
loop-preserved c =
    let start : ℕ = bit_xor c.args.register c.from.result in
    let P : List Bool → Type 0 = λ l. Divides l start c.shifted-left.result in
    subst P (replicate_more c.loop.counter false)
    (divides_both (replicate c.loop.counter false) (false ∷ []) start c.loop.left c.shifted-left.result c.loop.invariant c.shifted-left.ensures)

pub returns : goal.returns
returns c =
    let P : ℕ → Type 0 = λ n. Divides (replicate n false) (bit_xor c.args.register c.from.result) c.loop.left in
    let Q : ℕ → Type 0 = λ b. Divides (replicate 8 false) (bit_xor c.args.register b) c.loop.left in
    let all : c.loop.counter ≡ 8 = omega arith in
    divides_byte c.args.byte c.args.register c.loop.left (omega arith) (subst Q c.from.ensures (subst P all c.loop.invariant))
