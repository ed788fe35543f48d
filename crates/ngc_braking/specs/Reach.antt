-- How far the path is known and free: the rest of the first leg, and the legs joined to it. Our
-- own.
use Rattle.std.specs.Prelude.{ℕ, ◌+◌, nat_le, List, [], ◌∷◌, Bool, ◌&&◌, if◌then◌else◌}
use Rattle.ngc_braking.specs.declared.leg.Leg.{Leg}

-- the lengths of the legs that follow without a stop
abbrev pub ahead : List Leg → ℕ
ahead [] = 0
ahead (l ∷ ls) = if l.joined then l.millionths + ahead ls else 0

-- whether a rate may pass from a leg with this exit into the next one
abbrev pub may_enter : ℕ → ℕ → Leg → Bool
may_enter w exit l = l.joined && nat_le w exit && nat_le w l.entry && nat_le w l.bound

-- the same lengths, up to the first leg that the rate w may not enter
abbrev pub free_ahead : ℕ → ℕ → List Leg → ℕ
free_ahead w exit [] = 0
free_ahead w exit (l ∷ ls) = if may_enter w exit l then l.millionths + free_ahead w l.exit ls else 0

-- with this rest of the head leg
abbrev pub reach : ℕ → List Leg → ℕ
reach rest legs = rest + ahead legs

abbrev pub free : ℕ → ℕ → Leg → List Leg → ℕ
free w rest head legs = rest + free_ahead w head.exit legs
