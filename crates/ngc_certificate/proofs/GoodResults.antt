-- Properties of every good result.
use Rattle.std.specs.Prelude.{Result, Ok, Err, IfOk}

pub map_ok : {X E : Type 0} (r : Result X E) (P Q : X → Type 0) → IfOk r P → ((x : X) → P x → Q x) → IfOk r Q
map_ok (Ok x) P Q h f = f x h
map_ok (Err e) P Q h f = tt
