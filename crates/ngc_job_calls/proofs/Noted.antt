-- The line of a job file that added something.
use Rattle.std.proofs.Common.{◌≡◌, ◌≤◌, List, ℕ, [], ◌∷◌, length, map, arith, refl}
use Rattle.ngc_job_calls.specs.Notes.{line_text, note_text}

pub some_note : {X : Type 0} (name : List ℕ) (f : X → List ℕ) (added : List X) → 1 ≤ length added
    → note_text name (map f added) ≡ line_text name (map f added)
some_note name f [] some = absurd (omega (arith, some))
some_note name f (word ∷ words) some = refl
