-- Values and tables, and the trees that they represent.
use Rattle.std.proofs.Common.{◌≡◌, ℕ, List, [], ◌∷◌, length, take, Bool, true, false, cond, string_bytes, Option, Some, option_map, not, refl, arith}
use Rattle.std.specs.List.{find}
use Rattle.std.specs.Map.{keys_of}
use Rattle.toml.specs.View.{items_view, members_view}
use Rattle.toml.specs.declared.value.Value.{Value}
use Rattle.toml.proofs.Views.{Entry}
use Rattle.ngc_machine_files.specs.Tree.{is_one_of}
use Rattle.ngc_setup_sheet.specs.Asks.{unknown_key, item_count}

-- ---- the number of items, and whether all pass

pub item_count-items : (vs : List Value) → item_count (items_view vs) ≡ length vs
item_count-items [] = refl
item_count-items (v ∷ vs) = let e = item_count-items vs in omega arith

-- ---- the first key that is unknown

first_of : {X Y : Type 0} (f : X → Y) (b : Bool) (x : X) (o : Option X) (r : Option Y) → r ≡ option_map f o
    → cond b r (Some (f x)) ≡ option_map f (cond (not b) (Some x) o)
first_of f true x o r h = h
first_of f false x o r h = refl

pub unknown_key-find : (keys : List (List ℕ)) (es : List Entry)
    → unknown_key keys (members_view es) ≡ option_map (λ k. take 64 (string_bytes k)) (find (λ k. not (is_one_of keys (string_bytes k))) (keys_of es))
unknown_key-find keys [] = refl
unknown_key-find keys (e ∷ es) =
    first_of (λ k. take 64 (string_bytes k)) (is_one_of keys (string_bytes e.0)) e.0 (find (λ k. not (is_one_of keys (string_bytes k))) (keys_of es))
    (unknown_key keys (members_view es)) (unknown_key-find keys es)
