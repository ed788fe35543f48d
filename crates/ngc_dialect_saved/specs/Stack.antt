-- The modes that are saved, at each level of calls (LinuxCNC's documentation, "M70", "M71" and "M73").
use Rattle.std.specs.Prelude.{◌-◌, ◌||◌, Bool, false, List, [], ◌∷◌, ◌++◌, length, take, slice_get, Option, Some, None, if◌then◌else◌}
use Rattle.ngc_dialect_saved.specs.declared.modes.SavedModes.{SavedModes}
use Rattle.ngc_dialect_saved.specs.declared.stack.SavedLevel.{SavedLevel}
use Rattle.ngc_dialect_saved.specs.declared.stack.SavedStack.{SavedStack}

-- what is saved at the present level, and at those of its callers, the outermost first
pub record Stack : Type 0 where
  pub here : SavedLevel
  pub callers : List SavedLevel

abbrev pub stack_of : {A : Type 0} → SavedStack A → Stack
stack_of s = record { here = s.here; callers = s.callers.items }

abbrev pub nothing : SavedLevel
nothing = record { modes = None; returns = false }

abbrev pub no_stack : Stack
no_stack = record { here = nothing; callers = [] }

-- M70 and M73; after M73 the end of the level restores what M70 saves later too
abbrev pub saved : Bool → SavedModes → Stack → Stack
saved returns modes s =
    record s { here = record { modes = Some modes; returns = returns || s.here.returns } }

-- M71
abbrev pub forgotten : Stack → Stack
forgotten s = record s { here = record { modes = None; returns = s.here.returns } }

abbrev pub entered : Stack → Stack
entered s = record { here = nothing; callers = s.callers ++ s.here ∷ [] }

abbrev pub last_of : {X : Type 0} → List X → Option X
last_of xs = slice_get xs (length xs - 1)

abbrev pub without_last : {X : Type 0} → List X → List X
without_last xs = take (length xs - 1) xs

abbrev pub of_caller : Option SavedLevel → SavedLevel
of_caller None = nothing
of_caller (Some level) = level

-- after a call what its caller saved counts again
abbrev pub left : Stack → Stack
left s = record { here = of_caller (last_of s.callers); callers = without_last s.callers }

-- the modes that the end of the present call restores
abbrev pub returning : Stack → Option SavedModes
returning s = if s.here.returns then s.here.modes else None
