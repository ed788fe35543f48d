-- The number of items of an array.
use Rattle.std.proofs.Common.{◌≡◌, List, [], ◌∷◌, length, refl, arith}
use Rattle.toml.specs.View.{items_view}
use Rattle.toml.specs.declared.value.Value.{Value}
use Rattle.ngc_machine_figures.specs.Fixtures.{item_count}

pub item_count-items : (vs : List Value) → item_count (items_view vs) ≡ length vs
item_count-items [] = refl
item_count-items (v ∷ vs) = let e = item_count-items vs in omega arith
