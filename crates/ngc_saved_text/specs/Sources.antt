-- The fields of the sources that contracts see.
use Rattle.std.specs.Prelude.{ℕ, List, Bool, take, drop}
use Rattle.ngc_saved_text.specs.declared.mark.Unmarked.{Unmarked}
use Rattle.ngc_saved_text.specs.declared.returns.Held.{Held}
use Rattle.ngc_saved_text.specs.declared.returns.Unreturned.{Unreturned}

abbrev pub unreturned_inner : {S : Type 0} → Unreturned S → S
unreturned_inner source = source.inner

abbrev pub unreturned_held : {S : Type 0} → Unreturned S → Held
unreturned_held source = source.held

abbrev pub unmarked_inner : {S : Type 0} → Unmarked S → S
unmarked_inner source = source.inner

abbrev pub unmarked_at_start : {S : Type 0} → Unmarked S → Bool
unmarked_at_start source = source.is_at_start

-- the bytes that the source took and has not given out
abbrev pub unmarked_front : {S : Type 0} → Unmarked S → List ℕ
unmarked_front source = drop source.given (take source.taken source.front)
