-- Intervals that grow on one side and then on the other are the longest.
use Rattle.std.proofs.Common.{◌≡◌, ℕ, ◌+◌, ◌<◌, ◌≤◌, ℤ, ◌≤ℤ◌, refl, ap, sym, subst, ◌∙◌, arith, List, [], ◌∷◌, true, false, length, drop, get_or}
use Rattle.std.specs.Prelude.{Bool, IsTrue, ◌&&◌}
use Rattle.std.proofs.lemmas.Int.{ints}
use Rattle.std.proofs.lemmas.List.{drop_all, drop_more}
use Rattle.ngc_fixed_length.specs.Boxes.{IsIn}
use Rattle.ngc_fixed_length.specs.Length.{IsStep}
use Rattle.ngc_fixed_length.specs.declared.points.GridBox.{GridBox}
use Rattle.ngc_machine_files.specs.Machine.{MachineFile}
use Rattle.ngc_certificate.proofs.TrueTests.{both, list_to}
use Rattle.ngc_place.specs.Shifts.{AreShifts, along, shifts_along}
use Rattle.ngc_place.specs.Longest.{one_holds, all_hold, shifts_of, hold_over, IsInLimit, at, opposite, grown, IsGrowth, IsGrown, IsLongest, GrownIsFound, BothAreCertified}
use Rattle.ngc_place.specs.Inside.{steps_left}
use Rattle.ngc_place.specs.declared.axis.Axis.{Axis}
use Rattle.ngc_place.specs.declared.axis.Axis.TheVariants.{X, Y, Z}
use Rattle.ngc_place.specs.declared.programs.Program.{Program}
use Rattle.ngc_place.specs.declared.interval.Interval.{Interval}
use Rattle.ngc_place.specs.declared.interval.Side.{Side}
use Rattle.ngc_place.specs.declared.interval.Side.TheVariants.{Above, Below}
use Rattle.ngc_place.proofs.HoldsLaws.{certified_law, within_law}

-- ---- programs

pub next_program : (machine : MachineFile) (most : ℕ) (shifts : GridBox) (programs : List Program) (i : ℕ) (p : Program) (held b : Bool) →
    i < length programs → p ≡ get_or programs i p → held ≡ one_holds machine most shifts p → held ≡ b →
    all_hold machine most shifts (drop i programs) ≡ (b && all_hold machine most shifts (drop (i + 1) programs))
next_program machine most shifts programs i p held b h is test eq =
    ap (all_hold machine most shifts) (drop_more programs i p h ∙ ap (λ (q : Program). q ∷ drop (i + 1) programs) (sym is))
    ∙ ap (λ x. x && all_hold machine most shifts (drop (i + 1) programs)) (sym test ∙ eq)

pub no_program : (machine : MachineFile) (most : ℕ) (shifts : GridBox) (programs : List Program) (i : ℕ) → length programs ≤ i →
    all_hold machine most shifts (drop i programs) ≡ true
no_program machine most shifts programs i h = ap (all_hold machine most shifts) (drop_all i programs h)

-- ---- within an interval

shift_in : (axis : Axis) (a b n : ℤ) → a ≤ℤ n → n ≤ℤ b → IsIn (shifts_along axis a b) (along axis n)
shift_in X a b n h i =
    record { x_low = h; x_high = i; y_low = omega (arith, ints); y_high = omega (arith, ints); z_low = omega (arith, ints); z_high = omega (arith, ints) }
shift_in Y a b n h i =
    record { x_low = omega (arith, ints); x_high = omega (arith, ints); y_low = h; y_high = i; z_low = omega (arith, ints); z_high = omega (arith, ints) }
shift_in Z a b n h i =
    record { x_low = omega (arith, ints); x_high = omega (arith, ints); y_low = omega (arith, ints); y_high = omega (arith, ints); z_low = h; z_high = i }

pub shifts_fit : (axis : Axis) (i : Interval) → IsInLimit i → AreShifts (shifts_of axis i)
shifts_fit X i h =
    record { low = record { x = h.from; y = omega arith; z = omega arith }; high = record { x = h.to; y = omega arith; z = omega arith } }
shifts_fit Y i h =
    record { low = record { x = omega arith; y = h.from; z = omega arith }; high = record { x = omega arith; y = h.to; z = omega arith } }
shifts_fit Z i h =
    record { low = record { x = omega arith; y = omega arith; z = h.from }; high = record { x = omega arith; y = omega arith; z = h.to } }

-- programs that hold over an interval hold over each interval within it
pub hold_within : (machine : MachineFile) (most : ℕ) (axis : Axis) (programs : List Program) (outer inner : Interval) → IsStep machine.step → 1 ≤ most →
    most ≤ 65535 → outer.from ≤ℤ inner.from → inner.from ≤ℤ inner.to → inner.to ≤ℤ outer.to →
    IsTrue (hold_over machine most axis programs outer) → IsTrue (hold_over machine most axis programs inner)
hold_within machine most axis programs outer inner step least greatest h i j =
    list_to (one_holds machine most (shifts_of axis outer)) (one_holds machine most (shifts_of axis inner)) programs
    (λ (p : Program). within_law machine most (shifts_of axis outer) (shifts_of axis inner) p.moving.now p.commands.now step least greatest
    (shift_in axis outer.from outer.to inner.from h (omega (arith, ints, i, j))) (shift_in axis outer.from outer.to inner.to (omega (arith, ints, h, i)) j))

-- ---- growth

interval_is : (a b c d : ℤ) → a ≡ c → b ≡ d → (let i : Interval = record { from = a; to = b } in i) ≡ (let j : Interval = record { from = c; to = d } in j)
interval_is a b c d e f = rw (e, f) refl

pub not_grown : (side : Side) (i : Interval) → grown side 0 i ≡ i
not_grown Above i = interval_is _ _ _ _ refl (omega (arith, ints))
not_grown Below i = interval_is _ _ _ _ (omega (arith, ints)) refl

pub grown_twice : (side : Side) (n : ℕ) (i : Interval) → grown side 1 (grown side n i) ≡ grown side (n + 1) i
grown_twice Above n i = interval_is _ _ _ _ refl (omega (arith, ints))
grown_twice Below n i = interval_is _ _ _ _ (omega (arith, ints)) refl

-- growth within the limit of shifts
pub few_steps : (side : Side) (n : ℕ) (i : Interval) → IsInLimit i → IsInLimit (grown side n i) → n ≤ steps_left side i
few_steps Above n i h k = omega (arith, ints, h.to, k.to)
few_steps Below n i h k = omega (arith, ints, h.from, k.from)

pub steps_fit : (side : Side) (n : ℕ) (i : Interval) → IsInLimit i → n ≤ steps_left side i → IsInLimit (grown side n i)
steps_fit Above n i h few = record { from = h.from; to = omega (arith, ints, h.to, few) }
steps_fit Below n i h few = record { from = omega (arith, ints, h.from, few); to = h.to }

-- an interval that grows holds
growth_holds : (machine : MachineFile) (most : ℕ) (axis : Axis) (programs : List Program) (side : Side) (i : Interval) (n : ℕ) → IsStep machine.step → 1 ≤ most →
    most ≤ 65535 → i.from ≤ℤ i.to → IsGrowth machine most axis programs side i n → IsTrue (hold_over machine most axis programs i)
growth_holds machine most axis programs Above i n step least greatest order g =
    hold_within machine most axis programs (grown Above n i) i step least greatest (omega (arith, ints)) order (omega (arith, ints)) g.hold
growth_holds machine most axis programs Below i n step least greatest order g =
    hold_within machine most axis programs (grown Below n i) i step least greatest (omega (arith, ints)) order (omega (arith, ints)) g.hold

pub grown_is : (machine : MachineFile) (most : ℕ) (axis : Axis) (programs : List Program) (first second : Side) (around : ℤ) (n m : ℕ)
    (one longer result : Interval) → IsStep machine.step → 1 ≤ most → most ≤ 65535 → one ≡ at around → second ≡ opposite first → longer ≡ grown first n one →
    result ≡ grown second m longer → IsGrowth machine most axis programs first one n → IsGrowth machine most axis programs second longer m →
    IsGrown machine most axis programs first around result
grown_is machine most axis programs first second around n m one longer result step least greatest e o f r g h =
    let same = f ∙ ap (grown first n) e in
    let first_grows = subst (λ i. IsGrowth machine most axis programs first i n) e g in
    record {
      near = growth_holds machine most axis programs first (at around) n step least greatest (omega (arith, ints)) first_grows;
      one = n;
      two = m;
      grows_first = first_grows;
      grows_then = subst (λ s. IsGrowth machine most axis programs s (grown first n (at around)) m) o
          (subst (λ i. IsGrowth machine most axis programs second i m) same h);
      is = r ∙ ap (grown second m) same ∙ ap (λ s. grown s m (grown first n (at around))) o;
    }

-- ---- the law

not_true : (b : Bool) → (IsTrue b → ⊥) → b ≡ false
not_true true h = absurd (h refl)
not_true false h = refl

-- a longer interval on the side that grew first contains the one that doesn't hold
no_further : (machine : MachineFile) (most : ℕ) (axis : Axis) (programs : List Program) (longer next : Interval) → IsStep machine.step → 1 ≤ most →
    most ≤ 65535 → longer.from ≤ℤ next.from → next.from ≤ℤ next.to → next.to ≤ℤ longer.to → hold_over machine most axis programs next ≡ false →
    hold_over machine most axis programs longer ≡ false
no_further machine most axis programs longer next step least greatest h i j full =
    not_true (hold_over machine most axis programs longer)
    (λ held. false_true (sym full ∙ hold_within machine most axis programs longer next step least greatest h i j held))
  where
    false_true : false ≡ true → ⊥
    false_true e = cc

grown_longest : (machine : MachineFile) (most : ℕ) (axis : Axis) (programs : List Program) (first : Side) (around : ℤ) (n m : ℕ) → IsStep machine.step →
    1 ≤ most → most ≤ 65535 → IsGrowth machine most axis programs first (at around) n →
    IsGrowth machine most axis programs (opposite first) (grown first n (at around)) m →
    IsLongest machine most axis programs (grown (opposite first) m (grown first n (at around)))
grown_longest machine most axis programs Above around n m step least greatest one two Below h =
    let again = grown_twice Below m (grown Above n (at around)) in
    ap (hold_over machine most axis programs) again ∙ two.full (subst IsInLimit again h)
grown_longest machine most axis programs Below around n m step least greatest one two Above h =
    let again = grown_twice Above m (grown Below n (at around)) in
    ap (hold_over machine most axis programs) again ∙ two.full (subst IsInLimit again h)
grown_longest machine most axis programs Above around n m step least greatest one two Above h =
    no_further machine most axis programs _ (grown Above (n + 1) (at around)) step least greatest (omega (arith, ints)) (omega (arith, ints)) (omega (arith, ints))
    (one.full (record { from = omega (arith, ints, one.within.from); to = omega (arith, ints, h.to) }))
grown_longest machine most axis programs Below around n m step least greatest one two Below h =
    no_further machine most axis programs _ (grown Below (n + 1) (at around)) step least greatest (omega (arith, ints)) (omega (arith, ints)) (omega (arith, ints))
    (one.full (record { from = omega (arith, ints, h.from); to = omega (arith, ints, one.within.to) }))

pub found_law : GrownIsFound
found_law machine most axis programs first around i step least greatest g =
    let last = grown (opposite first) g.two (grown first g.one (at around)) in
    record {
      within = subst IsInLimit (sym g.is) g.grows_then.within;
      hold = ap (hold_over machine most axis programs) g.is ∙ g.grows_then.hold;
      longest = subst (IsLongest machine most axis programs) (sym g.is)
          (grown_longest machine most axis programs first around g.one g.two step least greatest g.grows_first g.grows_then);
    }

-- the programs of both settings
pub both_law : BothAreCertified
both_law machine most shifts n off on others_off others_on says step least greatest inside held off_shifted on_shifted made =
    let first = both (one_holds machine most shifts off) (all_hold machine most shifts (on ∷ [])) held in
    let second = both (one_holds machine most shifts on) (all_hold machine most shifts []) first.1 in
    certified_law machine most shifts n off.moving.now on.moving.now off.commands.now on.commands.now others_off others_on says step least greatest inside
    first.0 second.0 off_shifted on_shifted made
