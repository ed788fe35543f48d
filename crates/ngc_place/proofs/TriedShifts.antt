-- The shifts that are tried, in order.
use Rattle.std.proofs.Common.{◌≡◌, ℕ, zero, suc, ◌+◌, ◌<◌, ◌≤◌, ℤ, pos, refl, ap, sym, subst, ◌∙◌, arith, List, [], ◌∷◌, true, false, length, drop}
use Rattle.std.specs.Prelude.{Option, Some, None, MatchOption, IsSomeAnd, Bool, IsTrue, nat_le, unsigned_abs, slice_index_or}
use Rattle.std.specs.List.{find, list_all}
use Rattle.std.proofs.lemmas.List.{drop_all, drop_more}
use Rattle.std.proofs.lemmas.Bool.Decides.{nat_tests}
use Rattle.ngc_machine_files.specs.Machine.{MachineFile}
use Rattle.ngc_certificate.proofs.TrueTests.{both}
use Rattle.ngc_place.specs.Longest.{at, hold_over, fit_at, tried, first_side, IsGrown, IsNearest}
use Rattle.ngc_place.specs.declared.axis.Axis.{Axis}
use Rattle.ngc_place.specs.declared.programs.Program.{Program}
use Rattle.ngc_place.specs.declared.interval.Interval.{Interval}
use Rattle.ngc_place.specs.declared.interval.Side.{Side}

is_small : ℤ → Bool
is_small z = nat_le (unsigned_abs z) 4000000

small_one : (z : ℤ) → IsTrue (is_small z) → unsigned_abs z ≤ 4000000
unfolding is_small
small_one z h = grind (arith, nat_tests)

all_small : (xs : List ℤ) (i : ℕ) → IsTrue (list_all is_small xs) → unsigned_abs (slice_index_or xs i (pos 0)) ≤ 4000000
all_small [] i h = omega arith
all_small (x ∷ xs) zero h = small_one x (both (is_small x) (list_all is_small xs) h).0
all_small (x ∷ xs) (suc i) h = all_small xs i (both (is_small x) (list_all is_small xs) h).1

pub small_shift : (i : ℕ) → unsigned_abs (slice_index_or tried i (pos 0)) ≤ 4000000
unfolding tried is_small
small_shift i = all_small tried i refl

pub forty_five : length tried ≡ 45
unfolding tried
forty_five = refl

missed : (f : ℤ → Bool) (x : ℤ) (xs : List ℤ) → f x ≡ false → find f (x ∷ xs) ≡ find f xs
missed f x xs h = simp (h)

hit : (f : ℤ → Bool) (x : ℤ) (xs : List ℤ) → f x ≡ true → find f (x ∷ xs) ≡ Some x
hit f x xs h = simp (h)

next_tried : (f : ℤ → Bool) (i : ℕ) (n : ℤ) → i < 45 → n ≡ slice_index_or tried i (pos 0) →
    find f (drop i tried) ≡ find f (n ∷ drop (i + 1) tried)
next_tried f i n h is =
    ap (find f) (drop_more tried i (pos 0) (omega (arith, h, forty_five)) ∙ ap (λ m. m ∷ drop (i + 1) tried) (sym is))

pub not_there : (machine : MachineFile) (most : ℕ) (axis : Axis) (programs : List Program) (i : ℕ) (n : ℤ) → i < 45 →
    n ≡ slice_index_or tried i (pos 0) → hold_over machine most axis programs (at n) ≡ false →
    find (fit_at machine most axis programs) (drop i tried) ≡ find (fit_at machine most axis programs) (drop (i + 1) tried)
not_there machine most axis programs i n h is fails =
    let f : ℤ → Bool = λ m. fit_at machine most axis programs m in
    next_tried f i n h is ∙ missed f n (drop (i + 1) tried) fails

pub nowhere : (machine : MachineFile) (most : ℕ) (axis : Axis) (programs : List Program) (i : ℕ) → 45 ≤ i →
    find (fit_at machine most axis programs) tried ≡ find (fit_at machine most axis programs) (drop i tried) →
    IsNearest machine most axis programs None
nowhere machine most axis programs i h rest =
    let f : ℤ → Bool = λ m. fit_at machine most axis programs m in
    let none : find f tried ≡ None = rest ∙ ap (find f) (drop_all i tried (omega (arith, h, forty_five))) in
    let nothing : Option Interval = None in
    subst (λ r. MatchOption r (nothing ≡ nothing) (λ n. IsSomeAnd nothing (λ j. IsGrown machine most axis programs (first_side n) n j))) (sym none)
    (same nothing)
  where
    same : (r : Option Interval) → r ≡ r
    same r = refl

pub first_found : (machine : MachineFile) (most : ℕ) (axis : Axis) (programs : List Program) (i : ℕ) (n : ℤ) (side : Side) (found : Interval) → i < 45 →
    n ≡ slice_index_or tried i (pos 0) →
    find (fit_at machine most axis programs) tried ≡ find (fit_at machine most axis programs) (drop i tried) →
    side ≡ first_side n → IsGrown machine most axis programs side n found → IsNearest machine most axis programs (Some found)
first_found machine most axis programs i n side found h is rest towards grown =
    let f : ℤ → Bool = λ m. fit_at machine most axis programs m in
    let some : find f tried ≡ Some n = rest ∙ next_tried f i n h is ∙ hit f n (drop (i + 1) tried) grown.near in
    subst (λ r. MatchOption r (Some found ≡ None) (λ m. IsSomeAnd (Some found) (λ j. IsGrown machine most axis programs (first_side m) m j))) (sym some)
    (subst (λ s. IsGrown machine most axis programs s n found) towards grown)
