-- There is room for one more after the last one is taken.
use Rattle.std.proofs.Common.{◌≡◌, ℕ, ◌-◌, ◌<◌, ◌≤◌, List, length, take, drop, subst, sym, arith}
use Rattle.std.proofs.lemmas.List.{length-take, length-drop}
use Rattle.ngc_dialect_reader.specs.declared.part.Name.{Name}
use Rattle.ngc_dialect_reader.specs.Line.{name_of}

pub room : {X : Type 0} (xs ys : List X) (m : ℕ) → ys ≡ take (length xs - 1) xs → length xs ≤ m → 0 < m → length ys < m
room {X} xs ys m e h z =
    let l = length-take (length xs - 1) xs in
    subst (λ (zs : List X). length zs < m) (sym e) (omega (arith, l, h, z))

pub named : (xs : List ℕ) (n : Name) (m : ℕ) → length xs ≤ m → length (name_of xs n) ≤ m
named xs n m h =
    let a = length-take n.size (drop (length xs - n.left) xs) in
    let b = length-drop (length xs - n.left) xs in
    omega (arith, a, b, h)
