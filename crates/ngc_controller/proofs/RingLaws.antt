-- The head of a ring leaves.
use Rattle.std.proofs.Common.{◌≡◌, ℕ, List, [], ◌∷◌, drop, Option, None, Some, refl}
use Rattle.std.specs.Prelude.{slice_get}
use Rattle.ngc_controller.specs.Loaded.{LoadedData}
use Rattle.ngc_controller.specs.Ring.{queue_of, IsRing}

-- the first waiting command becomes the head
pub record IsLeft (head popped : Option LoadedData) (afterwards rest : List LoadedData) (capacity : ℕ) : Type 0 where
  pub ring : IsRing popped rest capacity
  pub queue : queue_of popped rest ≡ drop 1 (queue_of head afterwards)

first_left : (head : Option LoadedData) (afterwards : List LoadedData) (capacity : ℕ) → IsRing head afterwards capacity →
    IsLeft head (slice_get afterwards 0) afterwards (drop 1 afterwards) capacity
first_left None [] capacity o = record { ring = record { few = o.few; led = refl; waits = tt }; queue = refl }
first_left (Some h) [] capacity o = record { ring = record { few = o.few; led = refl; waits = tt }; queue = refl }
first_left None (l ∷ ls) capacity o = let none = o.led in cc
first_left (Some h) (l ∷ ls) capacity o = record { ring = record { few = o.few; led = tt; waits = o.waits.1 }; queue = refl }

pub left : (head popped : Option LoadedData) (afterwards rest : List LoadedData) (capacity n : ℕ) → IsRing head afterwards capacity →
    popped ≡ slice_get afterwards 0 → rest ≡ drop 1 afterwards → n ≡ capacity → IsLeft head popped afterwards rest n
left head popped afterwards rest capacity n o first others same = rw (first, others, same) (first_left head afterwards capacity o)
