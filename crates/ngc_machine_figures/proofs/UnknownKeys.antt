-- The first key of a table that is unknown.
use Rattle.std.proofs.Common.{◌≡◌, ℕ, List, [], ◌∷◌, Bool, true, false, cond, string_bytes, Option, Some, option_map, not, refl}
use Rattle.std.specs.List.{find}
use Rattle.std.specs.Map.{keys_of}
use Rattle.toml.specs.View.{members_view}
use Rattle.toml.proofs.Views.{Entry}
use Rattle.ngc_machine_figures.specs.declared.key.Key.{Key}
use Rattle.ngc_machine_figures.specs.Found.{is_known, first_unknown}

first_of : {X Y : Type 0} (f : X → Y) (b : Bool) (x : X) (o : Option X) (r : Option Y) → r ≡ option_map f o
    → cond b r (Some (f x)) ≡ option_map f (cond (not b) (Some x) o)
first_of f true x o r h = h
first_of f false x o r h = refl

pub first_unknown-find : (keys : List Key) (es : List Entry)
    → first_unknown keys (members_view es) ≡ option_map string_bytes (find (λ k. not (is_known keys (string_bytes k))) (keys_of es))
first_unknown-find keys [] = refl
first_unknown-find keys (e ∷ es) =
    first_of string_bytes (is_known keys (string_bytes e.0)) e.0 (find (λ k. not (is_known keys (string_bytes k))) (keys_of es))
    (first_unknown keys (members_view es)) (first_unknown-find keys es)
