-- Programs with the same commands and marks fit where one of them does.
use Rattle.std.proofs.Common.{◌≡◌, ◌∙◌, ap, ap₂, sym, subst, refl, ℕ, ℤ, List, [], ◌∷◌, Option, Some, None, Bool, true, false, MatchOption, IsSomeAnd}
use Rattle.std.specs.Prelude.{◌&&◌, if◌then◌else◌}
use Rattle.std.specs.List.{find}
use Rattle.ngc_fixed_length.specs.declared.points.GridBox.{GridBox}
use Rattle.ngc_machine_files.specs.Machine.{MachineFile}
use Rattle.ngc_commands.specs.declared.command.Command.{Command}
use Rattle.ngc_place.specs.Holds.{holds}
use Rattle.ngc_place.specs.Longest.{one_holds, all_hold, shifts_of, hold_over, fit_at, tried, first_side, IsGrowth, IsGrown, IsNearest}
use Rattle.ngc_place.specs.declared.axis.Axis.{Axis}
use Rattle.ngc_place.specs.declared.interval.Interval.{Interval}
use Rattle.ngc_place.specs.declared.interval.Side.{Side}
use Rattle.ngc_place.specs.declared.programs.Program.{Program}

twice : (b : Bool) → (b && (b && true)) ≡ (b && true)
twice true = refl
twice false = refl

both_hold : (machine : MachineFile) (most : ℕ) (shifts : GridBox) (off on : Program) → off.commands.now ≡ on.commands.now → off.moving.now ≡ on.moving.now →
    all_hold machine most shifts (off ∷ []) ≡ all_hold machine most shifts (off ∷ on ∷ [])
both_hold machine most shifts off on commands marks =
    let one = ap₂ (λ (m : List Bool) (c : List Command). holds machine most shifts m c) marks commands in
    sym (ap (λ b. one_holds machine most shifts off && (b && true)) (sym one) ∙ twice (one_holds machine most shifts off))

found_same : (f g : ℤ → Bool) → ((n : ℤ) → f n ≡ g n) → (ns : List ℤ) → find f ns ≡ find g ns
found_same f g e [] = refl
found_same f g e (n ∷ ns) = ap₂ (λ b (o : Option ℤ). if b then Some n else o) (e n) (found_same f g e ns)

-- lists of programs that hold over the same intervals
module _ (machine : MachineFile) (most : ℕ) (axis : Axis) (ps qs : List Program)
    (h : (i : Interval) → hold_over machine most axis ps i ≡ hold_over machine most axis qs i) where
  growth_same : (side : Side) (i : Interval) (n : ℕ) → IsGrowth machine most axis ps side i n → IsGrowth machine most axis qs side i n
  growth_same side i n g = record { within = g.within; hold = sym (h _) ∙ g.hold; full = λ limit. sym (h _) ∙ g.full limit }

  grown_same : (first : Side) (around : ℤ) (i : Interval) → IsGrown machine most axis ps first around i → IsGrown machine most axis qs first around i
  grown_same first around i g = record {
    near = sym (h _) ∙ g.near;
    one = g.one;
    two = g.two;
    grows_first = growth_same _ _ _ g.grows_first;
    grows_then = growth_same _ _ _ g.grows_then;
    is = g.is;
  }

  found_grown : (o : Option ℤ) (r : Option Interval) →
      MatchOption o (r ≡ None) (λ n. IsSomeAnd r (λ i. IsGrown machine most axis ps (first_side n) n i)) →
      MatchOption o (r ≡ None) (λ n. IsSomeAnd r (λ i. IsGrown machine most axis qs (first_side n) n i))
  found_grown None r none = none
  found_grown (Some n) None found = absurd found
  found_grown (Some n) (Some i) found = grown_same (first_side n) n i found

  nearest_same : (r : Option Interval) → IsNearest machine most axis ps r → IsNearest machine most axis qs r
  nearest_same r near =
      subst (λ (o : Option ℤ). MatchOption o (r ≡ None) (λ n. IsSomeAnd r (λ i. IsGrown machine most axis qs (first_side n) n i)))
      (found_same (fit_at machine most axis ps) (fit_at machine most axis qs) (λ n. h _) tried)
      (found_grown (find (fit_at machine most axis ps) tried) r near)

pub nearest_both : (machine : MachineFile) (most : ℕ) (axis : Axis) (off on : Program) (r : Option Interval) → off.commands.now ≡ on.commands.now → off.moving.now ≡ on.moving.now →
    IsNearest machine most axis (off ∷ []) r → IsNearest machine most axis (off ∷ on ∷ []) r
nearest_both machine most axis off on r commands marks near =
    nearest_same machine most axis (off ∷ []) (off ∷ on ∷ []) (λ i. both_hold machine most (shifts_of axis i) off on commands marks) r near
