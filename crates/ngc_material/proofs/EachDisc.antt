-- The discs of a cutter, one after another.
use Rattle.std.proofs.Common.{◌≡◌, ℕ, ◌+◌, ◌<◌, ◌≤◌, ◌⊎◌, inl, inr, max, refl, sym, subst, ap, ◌∙◌, arith, List, [], ◌∷◌, ◌++◌, length, take, get_or, Option, Some, None, Bool, true, false}
use Rattle.std.proofs.Math.Dec.{ltb}
use Rattle.std.proofs.Common.{Less, Equal, Greater}
use Rattle.std.specs.Ordering.{is_lt, nat_cmp, ord_max}
use Rattle.std.specs.Prelude.{IfNone, IfSome, cond, ◌==◌}
use Rattle.std.proofs.lemmas.List.{take_more, take_all}
use Rattle.ngc_fixed_length.specs.declared.points.Point3.{Point3}
use Rattle.ngc_arc_geometry.specs.Shape.{ArcShape}
use Rattle.ngc_machine_files.specs.declared.tools.Tool.{Tool}
use Rattle.ngc_stock.specs.declared.cylinder.Cylinder.{Cylinder}
use Rattle.ngc_stock.specs.declared.stock.Stock.{Stock}
use Rattle.ngc_stock.specs.Cuts.{IsDepth, AreDepths, from_tip}
use Rattle.ngc_stock.specs.Walk.{AreCut, IsArcCut, AreDiscsCut, AreArcsCut, IsClear, AreDiscsClear}
use Rattle.ngc_material.specs.Touches.{IsInWay, IsInWayOfAny, IsDeepest, deeper}
use Rattle.ngc_material.specs.declared.touch.Touch.{Touch}
use Rattle.ngc_material.proofs.Deepest.{IsDeepestOf, clear_none, none_clear, deeper_of, deepest_as, less_of, more_of}

-- ---- what holds of the first of them, one more, and all

next_of : (P : List Cylinder → Type 0) (xs : List Cylinder) (i : ℕ) (x : Cylinder) → i < length xs → x ≡ get_or xs i x → P (take i xs ++ x ∷ []) → P (take (i + 1) xs)
next_of P xs i x inside found h =
    subst P (ap (λ (y : Cylinder). take i xs ++ y ∷ []) found ∙ sym (take_more xs i x inside)) h

all_of : (P : List Cylinder → Type 0) (xs : List Cylinder) (i : ℕ) → length xs ≤ i → P (take i xs) → P xs
all_of P xs i ends h = subst P (take_all i xs ends) h

-- ---- a feed

cut_one_more : (s : Stock) (xs : List Cylinder) (x : Cylinder) (a b : Point3) (old mid new : List ℕ) → AreDiscsCut s xs a b old mid → AreCut s x a b mid new →
    AreDiscsCut s (xs ++ x ∷ []) a b old new
cut_one_more s [] x a b old mid new e cut = (new, subst (λ (l : List ℕ). AreCut s x a b l new) e cut, refl)
cut_one_more s (y ∷ ys) x a b old mid new h cut = (h.0, h.1, cut_one_more s ys x a b h.0 mid new h.2 cut)

pub cut_next : (s : Stock) (xs : List Cylinder) (i : ℕ) (x : Cylinder) (a b : Point3) (old mid new : List ℕ) → i < length xs → x ≡ get_or xs i x →
    AreDiscsCut s (take i xs) a b old mid → AreCut s x a b mid new → AreDiscsCut s (take (i + 1) xs) a b old new
cut_next s xs i x a b old mid new inside found h cut =
    next_of (λ (ds : List Cylinder). AreDiscsCut s ds a b old new) xs i x inside found (cut_one_more s (take i xs) x a b old mid new h cut)

pub cut_all : (s : Stock) (xs : List Cylinder) (i : ℕ) (a b : Point3) (old new : List ℕ) → length xs ≤ i → AreDiscsCut s (take i xs) a b old new → AreDiscsCut s xs a b old new
cut_all s xs i a b old new ends h = all_of (λ (ds : List Cylinder). AreDiscsCut s ds a b old new) xs i ends h

-- ---- an arc

arc_one_more : (s : Stock) (xs : List Cylinder) (x : Cylinder) (a : ArcShape) (old mid new : List ℕ) → AreArcsCut s xs a old mid → IsArcCut s x a mid new →
    AreArcsCut s (xs ++ x ∷ []) a old new
arc_one_more s [] x a old mid new e cut = (new, subst (λ (l : List ℕ). IsArcCut s x a l new) e cut, refl)
arc_one_more s (y ∷ ys) x a old mid new h cut = (h.0, h.1, arc_one_more s ys x a h.0 mid new h.2 cut)

pub arc_next : (s : Stock) (xs : List Cylinder) (i : ℕ) (x : Cylinder) (a : ArcShape) (old mid new : List ℕ) → i < length xs → x ≡ get_or xs i x →
    AreArcsCut s (take i xs) a old mid → IsArcCut s x a mid new → AreArcsCut s (take (i + 1) xs) a old new
arc_next s xs i x a old mid new inside found h cut =
    next_of (λ (ds : List Cylinder). AreArcsCut s ds a old new) xs i x inside found (arc_one_more s (take i xs) x a old mid new h cut)

pub arc_all : (s : Stock) (xs : List Cylinder) (i : ℕ) (a : ArcShape) (old new : List ℕ) → length xs ≤ i → AreArcsCut s (take i xs) a old new → AreArcsCut s xs a old new
arc_all s xs i a old new ends h = all_of (λ (ds : List Cylinder). AreArcsCut s ds a old new) xs i ends h

-- ---- where they may touch material

in_way_first : (s : Stock) (xs ys : List Cylinder) (a b : Point3) (heights : List ℕ) (k d : ℕ) → IsInWayOfAny s xs a b heights k d → IsInWayOfAny s (xs ++ ys) a b heights k d
in_way_first s [] ys a b heights k d h = absurd h
in_way_first s (x ∷ xs) ys a b heights k d (inl h) = inl h
in_way_first s (x ∷ xs) ys a b heights k d (inr h) = inr (in_way_first s xs ys a b heights k d h)

in_way_last : (s : Stock) (xs : List Cylinder) (x : Cylinder) (a b : Point3) (heights : List ℕ) (k d : ℕ) → IsInWay s x a b heights k d → IsInWayOfAny s (xs ++ x ∷ []) a b heights k d
in_way_last s [] x a b heights k d h = inl h
in_way_last s (y ∷ ys) x a b heights k d h = inr (in_way_last s ys x a b heights k d h)

in_way_of : (s : Stock) (xs : List Cylinder) (x : Cylinder) (a b : Point3) (heights : List ℕ) (k d : ℕ) → IsInWayOfAny s (xs ++ x ∷ []) a b heights k d →
    IsInWayOfAny s xs a b heights k d ⊎ IsInWay s x a b heights k d
in_way_of s [] x a b heights k d (inl h) = inr h
in_way_of s [] x a b heights k d (inr h) = absurd h
in_way_of s (y ∷ ys) x a b heights k d (inl h) = inl (inl h)
in_way_of s (y ∷ ys) x a b heights k d (inr h) = elim (in_way_of s ys x a b heights k d h) [ inl i ↦ inl (inr i) | inr j ↦ inr j ]

touched : (s : Stock) (x : Cylinder) (a b : Point3) (heights : List ℕ) (o : Option Touch) → IfNone o (IsClear s x a b heights) →
    IfSome o (IsDeepest s.grid (IsInWay s x a b heights)) → IsDeepestOf s.grid (IsInWay s x a b heights) o
touched s x a b heights None n m = none_clear s x a b heights n
touched s x a b heights (Some touch) n m = m

touch_one_more : (s : Stock) (xs : List Cylinder) (x : Cylinder) (a b : Point3) (heights : List ℕ) (one other : Option Touch) →
    IsDeepestOf s.grid (IsInWayOfAny s xs a b heights) one → IsDeepestOf s.grid (IsInWay s x a b heights) other →
    IsDeepestOf s.grid (IsInWayOfAny s (xs ++ x ∷ []) a b heights) (deeper one other)
touch_one_more s xs x a b heights one other h i =
    deepest_as s.grid (λ k d. IsInWayOfAny s xs a b heights k d ⊎ IsInWay s x a b heights k d) (IsInWayOfAny s (xs ++ x ∷ []) a b heights) (deeper one other)
    (λ k d y. elim y [ inl u ↦ in_way_first s xs (x ∷ []) a b heights k d u | inr v ↦ in_way_last s xs x a b heights k d v ])
    (λ k d y. in_way_of s xs x a b heights k d y)
    (deeper_of s.grid (IsInWayOfAny s xs a b heights) (IsInWay s x a b heights) one other h i)

pub touch_next : (s : Stock) (xs : List Cylinder) (i : ℕ) (x : Cylinder) (a b : Point3) (heights : List ℕ) (one other : Option Touch) → i < length xs → x ≡ get_or xs i x →
    IsDeepestOf s.grid (IsInWayOfAny s (take i xs) a b heights) one → IfNone other (IsClear s x a b heights) →
    IfSome other (IsDeepest s.grid (IsInWay s x a b heights)) → IsDeepestOf s.grid (IsInWayOfAny s (take (i + 1) xs) a b heights) (deeper one other)
touch_next s xs i x a b heights one other inside found h n m =
    next_of (λ (ds : List Cylinder). IsDeepestOf s.grid (IsInWayOfAny s ds a b heights) (deeper one other)) xs i x inside found
    (touch_one_more s (take i xs) x a b heights one other h (touched s x a b heights other n m))

all_discs_clear : (s : Stock) (xs : List Cylinder) (a b : Point3) (heights : List ℕ) → ((k d : ℕ) → ¬ (IsInWayOfAny s xs a b heights k d)) → AreDiscsClear s xs a b heights
all_discs_clear s [] a b heights none = tt
all_discs_clear s (x ∷ xs) a b heights none =
    (clear_none s x a b heights (λ k d h. none k d (inl h)), all_discs_clear s xs a b heights (λ k d h. none k d (inr h)))

pub touch_none : (s : Stock) (xs : List Cylinder) (i : ℕ) (a b : Point3) (heights : List ℕ) (o : Option Touch) → length xs ≤ i →
    IsDeepestOf s.grid (IsInWayOfAny s (take i xs) a b heights) o → IfNone o (AreDiscsClear s xs a b heights)
touch_none s xs i a b heights None ends h =
    all_discs_clear s xs a b heights (all_of (λ (ds : List Cylinder). (k d : ℕ) → ¬ (IsInWayOfAny s ds a b heights k d)) xs i ends h)
touch_none s xs i a b heights (Some touch) ends h = tt

pub touch_some : (s : Stock) (xs : List Cylinder) (i : ℕ) (a b : Point3) (heights : List ℕ) (o : Option Touch) → length xs ≤ i →
    IsDeepestOf s.grid (IsInWayOfAny s (take i xs) a b heights) o → IfSome o (IsDeepest s.grid (IsInWayOfAny s xs a b heights))
touch_some s xs i a b heights None ends h = tt
touch_some s xs i a b heights (Some touch) ends h =
    all_of (λ (ds : List Cylinder). IsDeepest s.grid (IsInWayOfAny s ds a b heights) touch) xs i ends h

-- ---- how deep they are

most_by : (v w : Bool) (d e : ℕ) → (v ≡ true → e ≤ d) → (v ≡ false → d ≤ e) → cond (is_lt (cond v Less (cond w Equal Greater))) d e ≡ max d e
most_by true w d e less more = let h = less refl in omega (arith, h)
most_by false true d e less more = let h = more refl in omega (arith, h)
most_by false false d e less more = let h = more refl in omega (arith, h)

-- the greater of two depths
pub most_of : (d e : ℕ) → ord_max nat_cmp d e ≡ max d e
most_of d e = most_by (ltb e d) (e == d) d e (less_of e d) (more_of e d)

depth_one_more : (s : Stock) (t : Tool) (xs : List Cylinder) (x : Cylinder) (a b : Point3) (heights : List ℕ) (d e : ℕ) → AreDepths s t xs a b heights d → IsDepth s x a b heights e →
    AreDepths s t (xs ++ x ∷ []) a b heights (max d (from_tip t x e))
depth_one_more s t [] x a b heights d e none one = (e, 0, one, refl, omega (arith, none))
depth_one_more s t (y ∷ ys) x a b heights d e (first, rest, at, others, is) one =
    (first, max rest (from_tip t x e), at, depth_one_more s t ys x a b heights rest e others one, omega (arith, is))

pub depth_next : (s : Stock) (t : Tool) (xs : List Cylinder) (i : ℕ) (x : Cylinder) (a b : Point3) (heights : List ℕ) (d e : ℕ) → i < length xs → x ≡ get_or xs i x →
    AreDepths s t (take i xs) a b heights d → IsDepth s x a b heights e → AreDepths s t (take (i + 1) xs) a b heights (max d (from_tip t x e))
depth_next s t xs i x a b heights d e inside found h one =
    next_of (λ (ds : List Cylinder). AreDepths s t ds a b heights (max d (from_tip t x e))) xs i x inside found (depth_one_more s t (take i xs) x a b heights d e h one)

pub depth_all : (s : Stock) (t : Tool) (xs : List Cylinder) (i : ℕ) (a b : Point3) (heights : List ℕ) (d : ℕ) → length xs ≤ i → AreDepths s t (take i xs) a b heights d → AreDepths s t xs a b heights d
depth_all s t xs i a b heights d ends h = all_of (λ (ds : List Cylinder). AreDepths s t ds a b heights d) xs i ends h
