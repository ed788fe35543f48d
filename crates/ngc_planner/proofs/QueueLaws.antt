-- The motions of a queue after one has left, and after one was added.
use Rattle.std.proofs.Common.{◌≡◌, ℕ, ◌+◌, ◌≤◌, ◌<◌, ◌≢◌, List, [], ◌∷◌, ◌++◌, drop, length, reverse, refl, sym, ap, ◌∙◌, subst, arith, length-drop, length-append}
use Rattle.std.specs.Prelude.{vec_capacity}
use Rattle.std.specs.List.{All}
use Rattle.std.proofs.lemmas.List.{drop-drop, drop-append-le}
use Rattle.std.proofs.lemmas.List.Elements.{All-tail, All-push}
use Rattle.ngc_braking.specs.declared.leg.Leg.{Leg}
use Rattle.ngc_braking.specs.declared.outlook.Outlook.{Outlook}
use Rattle.ngc_braking.specs.Outlook.{IsOutlook}
use Rattle.ngc_planner.specs.Queue.{IsQueue}
use Rattle.ngc_braking.specs.Leg.{IsLeg}

first_of : (ls : List Leg) → ls ≢ [] → (h : Leg) × (ls ≡ h ∷ drop 1 ls)
first_of [] some = absurd (some refl)
first_of (l ∷ ls) some = (l, refl)

pub head_of : (n : ℕ) (ls : List Leg) → drop n ls ≢ [] → (h : Leg) × (drop n ls ≡ h ∷ drop (n + 1) ls)
head_of n ls some = let f = first_of (drop n ls) some in (f.0, f.1 ∙ ap (λ ks. f.0 ∷ ks) (drop-drop 1 n ls))

rest_of : (ls : List Leg) → All IsLeg ls → All IsLeg (drop 1 ls)
rest_of [] each = each
rest_of (l ∷ ls) each = All-tail IsLeg l ls each

pub rest_each : (n : ℕ) (ls : List Leg) → All IsLeg (drop n ls) → All IsLeg (drop (n + 1) ls)
rest_each n ls each = subst (All IsLeg) (drop-drop 1 n ls) (rest_of (drop n ls) each)

-- one more
pub queue_more : {A : Type 0} (first room : ℕ) (slots xs : List Leg) (capacity : ℕ) (outlook : Outlook A) (leg : Leg) → IsLeg leg →
    first ≤ length slots → drop first slots ≡ xs → length xs < room → All IsLeg xs → room + room ≤ capacity → room ≤ vec_capacity outlook.later →
    IsOutlook (xs ++ leg ∷ []) outlook.near (reverse outlook.later.items) outlook.far →
    IsQueue first room (slots ++ leg ∷ []) capacity outlook
queue_more first room slots xs capacity outlook leg is_leg within are few each memory ahead seen =
    let all : drop first (slots ++ leg ∷ []) ≡ xs ++ leg ∷ [] = drop-append-le first slots (leg ∷ []) within ∙ ap (λ ks. ks ++ leg ∷ []) are in
    let long = length-append slots (leg ∷ []) in
    let left = length-drop first slots in
    let same = ap length are in
    record {
      within = omega (arith, long, within);
      few = omega (arith, long, left, same, few, within);
      each = subst (All IsLeg) (sym all) (All-push IsLeg xs leg each is_leg);
      memory = memory;
      ahead = ahead;
      seen = subst (λ ks. IsOutlook ks outlook.near (reverse outlook.later.items) outlook.far) (sym all) seen;
    }
