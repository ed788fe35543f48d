-- A cell that a probe finds shows material in the way of a cylinder.
use Rattle.std.proofs.Common.{◌≡◌, ℕ, zero, suc, ◌+◌, ◌*◌, ◌-◌, ◌<◌, ◌≤◌, ◌⊎◌, ℤ, pos, negsuc, ◌+ℤ◌, ◌-ℤ◌, ◌*ℤ◌, ◌≤ℤ◌, ◌<ℤ◌, unsigned_abs, inl, inr, refl, sym, ◌∙◌, ap, subst, arith, List, [], ◌∷◌, ◌++◌, length, take, get_or, min, Option, Some, None, Bool, true, false, cond}
use Rattle.std.specs.Prelude.{slice_index, IfSome, nat_lt}
use Rattle.std.proofs.lemmas.Int.{ints}
use Rattle.std.proofs.lemmas.List.{take_more, take_all}
use Rattle.ngc_fixed_length.specs.declared.points.Point3.{Point3}
use Rattle.ngc_cells.specs.declared.cells.Peak.{Peak}
use Rattle.ngc_cells.specs.declared.grid.Grid.{Grid}
use Rattle.ngc_cells.specs.declared.stretch.Spot.{Spot}
use Rattle.ngc_cells.specs.declared.stretch.Stretch.{Stretch}
use Rattle.ngc_cells.specs.Stretches.{IsAround}
use Rattle.ngc_cells.specs.Grids.{IsGrid, IsPeak, centre}
use Rattle.ngc_cells.proofs.Ring.{V, S, P, ring}
use Rattle.ngc_cells.proofs.Vectors.{L, times_most}
use Rattle.ngc_stock.specs.declared.cylinder.Cylinder.{Cylinder}
use Rattle.ngc_stock.specs.declared.stock.Stock.{Stock}
use Rattle.ngc_stock.specs.Stocks.{radius, flat, pieces, piece, point_at, highest_tip, level_of, natural_of, tip, IsInCell}
use Rattle.ngc_stock.proofs.Distances.{point_around, tip_below}
use Rattle.ngc_material.specs.Heights.{AreWithin}
use Rattle.ngc_sure_contacts.specs.declared.contact.Contact.{Contact}
use Rattle.ngc_sure_contacts.specs.Contacts.{IsThrough, IsThroughByAny, at_place, deeper}
use Rattle.ngc_sure_contacts.specs.Maps.{IsSeen, IsUnder}
use Rattle.ngc_sure_contacts.proofs.Pieces.{some_pieces, step_within}

-- ---- heights

natural_least : (z : ℤ) → z ≤ℤ pos (natural_of z)
natural_least (pos n) = omega (arith, ints)
natural_least (negsuc n) = omega (arith, ints)

-- a height whose level is below the stock's top is at most that level
level_least : (s : Stock) (z : ℤ) → level_of s z < s.height → z ≤ℤ (s.bottom +ℤ pos (level_of s z))
level_least s z below =
    let e : level_of s z ≡ natural_of (z -ℤ s.bottom) = omega (arith, below) in
    let n = natural_least (z -ℤ s.bottom) in
    rw e (omega (arith, ints, n))

-- ---- a cell that is seen

at_itself : (x : ℤ) (h : ℕ) → unsigned_abs (x -ℤ x) ≤ h
at_itself x h = let e : x -ℤ x ≡ pos 0 = omega (arith, ints) in rw e (omega arith)

-- the whole column at a cell's centre is under its height
column : (s : Stock) (heights : List ℕ) (k : ℕ) → k < s.grid.columns * s.grid.rows → slice_index heights k ≤ s.height → (z : ℤ) → s.bottom ≤ℤ z →
    z <ℤ (s.bottom +ℤ pos (slice_index heights k)) → IsUnder s heights (at_place (centre s.grid k) z)
column s heights k small most z low below = record {
  cell = k;
  within = small;
  in_cell = record { x = at_itself (centre s.grid k).x s.grid.half; y = at_itself (centre s.grid k).y s.grid.half };
  bottom = low;
  top = omega (arith, ints, below, most);
  below = below;
}

-- where the foot at a point of a line is at most this high
seen_at : (s : Stock) (t : Cylinder) (a b : Point3) (heights : List ℕ) (stretch : Stretch) (z : ℤ) (c : Contact) (n k : ℕ) →
    length heights ≡ s.grid.columns * s.grid.rows → AreWithin s heights → (seen : IsSeen s heights stretch (radius t) (level_of s z) c) → 0 < n → k ≤ n →
    IsAround n k (flat a) (flat b) (radius t) (centre s.grid seen.cell) → tip t n k a b ≤ℤ (pos n *ℤ z) → IsThrough s (IsUnder s heights) t a b c
seen_at s t a b heights stretch z c n k size within seen some small around low =
    let h = slice_index heights seen.cell in
    let level = level_of s z in
    let most : h ≤ s.height = within seen.cell (omega (arith, seen.within, size)) in
    let up = level_least s z (omega (arith, seen.depth, seen.least, most)) in
    let p = times_most (pos n) z (s.bottom +ℤ pos level) (omega (arith, ints)) up in
    let e : pos n *ℤ ((s.bottom +ℤ pos level) +ℤ pos c.depth) ≡ (pos n *ℤ (s.bottom +ℤ pos level)) +ℤ pos (n * c.depth) =
    ring (pos n ∷ s.bottom ∷ pos level ∷ pos c.depth ∷ []) (P (V 0) (S (S (V 1) (V 2)) (V 3))) (S (P (V 0) (S (V 1) (V 2))) (P (V 0) (V 3))) refl in
    let f : s.bottom +ℤ pos h ≡ (s.bottom +ℤ pos level) +ℤ pos c.depth = omega (arith, ints, seen.depth) in
    record {
      n = n;
      k = k;
      height = s.bottom +ℤ pos h;
      some = some;
      within = small;
      over = subst (λ (p : Spot). IsAround n k (flat a) (flat b) (radius t) p) (sym seen.place) around;
      whole = λ y least below. subst (λ (p : Spot). IsUnder s heights (at_place p y)) (sym seen.place) (column s heights seen.cell seen.within most y least below);
      least = seen.least;
      high = omega (arith, ints, seen.depth);
      deep = rw f (omega (arith, ints, low, p, e));
    }

pub seen_piece : (s : Stock) (t : Cylinder) (a b : Point3) (i r level : ℕ) (heights : List ℕ) (c : Contact) → length heights ≡ s.grid.columns * s.grid.rows → AreWithin s heights →
    i < pieces a b → r ≡ radius t → level ≡ level_of s (highest_tip t a b i) → IsSeen s heights (piece a b i) r level c → IsThrough s (IsUnder s heights) t a b c
seen_piece s t a b i r level heights c size within small er el found =
    let seen : IsSeen s heights (piece a b i) (radius t) (level_of s (highest_tip t a b i)) c = rw (← er, ← el) found in
    let n = seen.near.0 in let k = seen.near.1 in let on = seen.near.2 in
    seen_at s t a b heights (piece a b i) (highest_tip t a b i) c n k size within seen on.some (step_within i n k (pieces a b) (some_pieces a b) on.last small) seen.near.3
    (tip_below t a b i n k (some_pieces a b) on.first on.last)

end_tip : (az bz bottom : ℤ) → ((pos 1 *ℤ (az +ℤ bottom)) +ℤ (pos 1 *ℤ (bz -ℤ az))) ≤ℤ (pos 1 *ℤ (bz +ℤ bottom))
end_tip az bz bottom = omega (arith, ints)

pub seen_end : (s : Stock) (t : Cylinder) (a b : Point3) (r level : ℕ) (heights : List ℕ) (c : Contact) → length heights ≡ s.grid.columns * s.grid.rows → AreWithin s heights →
    r ≡ radius t → level ≡ level_of s (b.z +ℤ t.bottom) → IsSeen s heights (point_at b) r level c → IsThrough s (IsUnder s heights) t a b c
seen_end s t a b r level heights c size within er el found =
    let seen : IsSeen s heights (point_at b) (radius t) (level_of s (b.z +ℤ t.bottom)) c = rw (← er, ← el) found in
    let on = seen.near.2 in
    seen_at s t a b heights (point_at b) (b.z +ℤ t.bottom) c 1 1 size within seen (omega arith) (omega arith)
    (point_around seen.near.0 seen.near.1 (radius t) (flat a) (flat b) (centre s.grid seen.cell) on.some seen.near.3)
    (end_tip a.z b.z t.bottom)

-- a peak is a cell that is seen
pub peak_seen : (s : Stock) (heights : List ℕ) (t : Stretch) (r tip limit : ℕ) (p : Peak) (c : Contact) → length heights ≡ s.grid.columns * s.grid.rows → tip + 10000 ≤ limit →
    IsPeak s.grid t r limit heights p → c.place ≡ centre s.grid p.cell → c.depth ≡ p.height - tip → IsSeen s heights t r tip c
peak_seen s heights t r tip limit p c size far peak place deep = record {
  cell = p.cell;
  within = omega (arith, size, peak.found.cell);
  near = peak.found.near;
  place = place;
  least = omega (arith, deep, peak.above, far);
  depth = omega (arith, deep, peak.above, far, peak.found.height);
}

-- ---- the deepest of several

one_of : (v : Bool) (x y : Contact) (Is : Contact → Type 0) → Is x → Is y → IfSome (cond v (Some y) (Some x)) Is
one_of true x y Is h i = i
one_of false x y Is h i = h

pub of_both : (x y : Option Contact) (Is : Contact → Type 0) → IfSome x Is → IfSome y Is → IfSome (deeper x y) Is
of_both None y Is h i = i
of_both (Some x) None Is h i = h
of_both (Some x) (Some y) Is h i = one_of (nat_lt x.depth y.depth) x y Is h i

pub some_as : (x : Option Contact) (One Other : Contact → Type 0) → ((c : Contact) → One c → Other c) → IfSome x One → IfSome x Other
some_as None One Other f h = h
some_as (Some c) One Other f h = f c h

first_of : (s : Stock) (There : Point3 → Type 0) (xs ys : List Cylinder) (a b : Point3) (c : Contact) → IsThroughByAny s There xs a b c → IsThroughByAny s There (xs ++ ys) a b c
first_of s There [] ys a b c h = absurd h
first_of s There (x ∷ xs) ys a b c (inl h) = inl h
first_of s There (x ∷ xs) ys a b c (inr h) = inr (first_of s There xs ys a b c h)

last_of : (s : Stock) (There : Point3 → Type 0) (xs : List Cylinder) (x : Cylinder) (a b : Point3) (c : Contact) → IsThrough s There x a b c → IsThroughByAny s There (xs ++ x ∷ []) a b c
last_of s There [] x a b c h = inl h
last_of s There (y ∷ ys) x a b c h = inr (last_of s There ys x a b c h)

pub next_through : (s : Stock) (There : Point3 → Type 0) (xs : List Cylinder) (i : ℕ) (x : Cylinder) (a b : Point3) (one other : Option Contact) → i < length xs → x ≡ get_or xs i x →
    IfSome one (IsThroughByAny s There (take i xs) a b) → IfSome other (IsThrough s There x a b) → IfSome (deeper one other) (IsThroughByAny s There (take (i + 1) xs) a b)
next_through s There xs i x a b one other inside found h j =
    subst (λ (ys : List Cylinder). IfSome (deeper one other) (IsThroughByAny s There ys a b)) (ap (λ (y : Cylinder). take i xs ++ y ∷ []) found ∙ sym (take_more xs i x inside))
    (of_both one other (IsThroughByAny s There (take i xs ++ x ∷ []) a b)
    (some_as one (IsThroughByAny s There (take i xs) a b) (IsThroughByAny s There (take i xs ++ x ∷ []) a b) (λ c p. first_of s There (take i xs) (x ∷ []) a b c p) h)
    (some_as other (IsThrough s There x a b) (IsThroughByAny s There (take i xs ++ x ∷ []) a b) (λ c p. last_of s There (take i xs) x a b c p) j))

pub all_through : (s : Stock) (There : Point3 → Type 0) (xs : List Cylinder) (i : ℕ) (a b : Point3) (one : Option Contact) → length xs ≤ i →
    IfSome one (IsThroughByAny s There (take i xs) a b) → IfSome one (IsThroughByAny s There xs a b)
all_through s There xs i a b one ends h = subst (λ (ys : List Cylinder). IfSome one (IsThroughByAny s There ys a b)) (take_all i xs ends) h
