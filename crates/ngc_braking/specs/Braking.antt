-- The braking distance of a rate that falls by the change at each tick. Our own.
use Rattle.std.specs.Prelude.{ℕ, zero, suc, ◌+◌, ◌-◌}

-- v + (v - a) + (v - 2 a) + .., while above 0, of at most n terms
unfoldable pub braking_terms : ℕ → ℕ → ℕ → ℕ
braking_terms zero v a = 0
braking_terms (suc n) zero a = 0
braking_terms (suc n) (suc v) a = suc v + braking_terms n (suc v - a) a

-- v terms are enough, as a is at least 1
abbrev pub braking : ℕ → ℕ → ℕ
braking v a = braking_terms v v a
