-- The parts of a tool, tested one after another from the lowest up.
use Rattle.std.proofs.Common.{◌≡◌, ℕ, zero, suc, ◌+◌, ◌-◌, ◌<◌, ◌≤◌, inl, inr, ◌∙◌, ap, subst, arith, List, length, Option, Some, None}
use Rattle.std.specs.Prelude.{IfNone, IfSome}
use Rattle.std.proofs.lemmas.Bool.{cases_lt}
use Rattle.std.proofs.lemmas.List.{length-drop}
use Rattle.ngc_fixed_length.specs.declared.points.Point3.{Point3}
use Rattle.ngc_machine_files.specs.declared.tools.Tool.{Tool}
use Rattle.ngc_stock.specs.declared.cylinder.Cylinder.{Cylinder}
use Rattle.ngc_stock.specs.declared.stock.Stock.{Stock}
use Rattle.ngc_stock.specs.Stocks.{above, lowest_part, from_part}
use Rattle.ngc_stock.specs.Walk.{IsClear, AreDiscsClear, AreClear}
use Rattle.ngc_material.specs.Touches.{IsInWay, IsDeepest, IsUpperTouch, IsFirstTouch}
use Rattle.ngc_material.specs.declared.touch.PartTouch.{PartTouch}
use Rattle.ngc_material.specs.declared.touch.Touch.{Touch}

pub length_from : (t : Tool) (p : ℕ) → length (from_part t p).parts ≡ length t.parts - p
length_from t zero = omega arith
length_from t (suc p) =
    let e = length-drop 1 (from_part t p).parts in
    let f = length_from t p in
    omega (arith, e, f)

-- the tool without its lowest part has the parts from the next one up
pub next_upper : (t u v : Tool) (p : ℕ) → (p < length t.parts → u ≡ from_part t p) → (1 < length u.parts → v ≡ above u) →
    p + 1 < length t.parts → v ≡ from_part t (p + 1)
next_upper t u v p is above_it less =
    let same : u ≡ from_part t p = is (omega (arith, less)) in
    let few : length u.parts ≡ length t.parts - p = ap (λ (x : Tool). length x.parts) same ∙ length_from t p in
    let next : suc p ≡ p + 1 = omega arith in
    subst (λ (n : ℕ). v ≡ from_part t n) next (above_it (omega (arith, few, less)) ∙ ap above same)

-- one clear part more
pub one_lower : (s : Stock) (t u : Tool) (a b : Point3) (heights : List ℕ) (part : ℕ) → part < length t.parts →
    (part < length t.parts → u ≡ from_part t part) → IsClear s (lowest_part u) a b heights →
    ((p : ℕ) → 0 < p → p < part → IsClear s (lowest_part (from_part t p)) a b heights) →
    (p : ℕ) → 0 < p → p < part + 1 → IsClear s (lowest_part (from_part t p)) a b heights
one_lower s t u a b heights part within is clear lower p from less =
    elim (cases_lt p part) [
      | inl before ↦ lower p from before
      | inr after ↦ (let e : part ≡ p = omega (arith, less, after) in
          subst (λ (k : ℕ). IsClear s (lowest_part (from_part t k)) a b heights) e
          (subst (λ (x : Tool). IsClear s (lowest_part x) a b heights) (is within) clear))
    ]

-- the first part that isn't clear
pub first_some : (s : Stock) (t u : Tool) (a b : Point3) (heights : List ℕ) (part : ℕ) (touch : Touch) → 0 < part → part < length t.parts →
    (part < length t.parts → u ≡ from_part t part) → ((p : ℕ) → 0 < p → p < part → IsClear s (lowest_part (from_part t p)) a b heights) →
    IsDeepest s.grid (IsInWay s (lowest_part u) a b heights) touch → IsUpperTouch s t a b heights part touch
first_some s t u a b heights part touch above within is lower deepest = record {
  above = above;
  within = within;
  lower = lower;
  deepest = subst (λ (x : Tool). IsDeepest s.grid (IsInWay s (lowest_part x) a b heights) touch) (is within) deepest;
}

-- all parts are clear
pub all_clear : (s : Stock) (t : Tool) (a b : Point3) (heights : List ℕ) (part : ℕ) → length t.parts ≤ part →
    ((p : ℕ) → 0 < p → p < part → IsClear s (lowest_part (from_part t p)) a b heights) → AreClear s t a b heights
all_clear s t a b heights part whole lower p from less = lower p from (omega (arith, whole, less))

-- ---- after the cutter

pub none_with : (o : Option PartTouch) (P Q : Type 0) → P → IfNone o Q → IfNone o (P × Q)
none_with None P Q p q = (p, q)
none_with (Some f) P Q p q = tt

-- the discs are clear, and a part above them isn't
pub upper_first : (s : Stock) (ds : List Cylinder) (t : Tool) (a b : Point3) (heights : List ℕ) (o : Option PartTouch) → AreDiscsClear s ds a b heights →
    IfSome o (λ f. IsUpperTouch s t a b heights f.part f.touch) → IfSome o (λ f. IsFirstTouch s ds t a b heights f.part f.touch)
upper_first s ds t a b heights None clear h = tt
upper_first s ds t a b heights (Some f) clear h = inr (clear, h)
