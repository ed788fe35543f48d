-- What a feed meets is less than its depth above the lower of its tips.
use Rattle.std.proofs.Common.{◌≡◌, ℕ, ◌+◌, ◌*◌, ◌-◌, ◌<◌, ◌≤◌, ℤ, pos, negsuc, ◌+ℤ◌, ◌-ℤ◌, ◌*ℤ◌, ◌≤ℤ◌, ◌<ℤ◌, unsigned_abs, inl, inr, max, refl, subst, arith, List, [], ◌∷◌, length, Option, Some, None, Bool, true, false, cond}
use Rattle.std.specs.Prelude.{slice_index}
use Rattle.std.specs.Int.{int_min}
use Rattle.std.proofs.Math.Dec.{ltb}
use Rattle.std.proofs.lemmas.Bool.{ltb-true}
use Rattle.std.proofs.lemmas.Int.{ints, by_lt_z}
use Rattle.ngc_fixed_length.specs.declared.points.Point3.{Point3}
use Rattle.ngc_file_figures.specs.declared.limits.ToolLimits.{ToolLimits}
use Rattle.ngc_machine_files.specs.declared.tools.Tool.{Tool}
use Rattle.ngc_commands.specs.declared.command.Action.{Action}
use Rattle.ngc_commands.specs.declared.command.Action.TheVariants.{Move, Mount, Dwell, Spindle, Coolant, Override, Stop, OptionalStop, End}
use Rattle.ngc_commands.specs.declared.command.Command.{Command}
use Rattle.ngc_commands.specs.declared.movement.Way.{Way}
use Rattle.ngc_commands.specs.declared.movement.Way.TheVariants.{Line, Arc}
use Rattle.ngc_commands.specs.declared.movement.Pace.{Pace}
use Rattle.ngc_commands.specs.declared.movement.Pace.TheVariants.{Rapid, Feed}
use Rattle.ngc_commands.specs.declared.reached.Reached.{Reached}
use Rattle.ngc_commands.specs.Reached.{after, after_all}
use Rattle.ngc_cells.specs.declared.stretch.Spot.{Spot}
use Rattle.ngc_cells.specs.Stretches.{IsAround, IsNear}
use Rattle.ngc_cells.specs.Grids.{IsGrid, centre}
use Rattle.ngc_stock.specs.declared.cylinder.Cylinder.{Cylinder}
use Rattle.ngc_stock.specs.declared.stock.Stock.{Stock}
use Rattle.ngc_stock.specs.Stocks.{kappa, reduction, margin, radius, lowest_part, flat, natural_of, tip, IsInStock, IsInReduced}
use Rattle.ngc_stock.specs.Discs.{discs_in}
use Rattle.ngc_stock.specs.Walk.{IsCutInAny, IsLeft, uncut}
use Rattle.ngc_stock.specs.Cuts.{lower_tip, whole, IsDepth, from_tip, AreDepths, IsMetBelow, AreMetBelow, IsDepthOn, IsDepthOf, IsShallowOn, IsShallow, CutDepth}
use Rattle.ngc_stock.proofs.AboveFeeds.{lowest_end, lower_weighted}
use Rattle.ngc_stock.proofs.Bounds.{AreBounds, fewer}
use Rattle.ngc_stock.proofs.ClearFeeds.{after_bounds}
use Rattle.ngc_stock.proofs.FreeTools.{more_of}
use Rattle.ngc_stock.proofs.Distances.{cell_most, turned_most, moved}
use Rattle.ngc_stock.proofs.Silences.{at_first}

-- the whole of a line is near wherever a point of it is
near_whole : (n k r : ℕ) (a b : Point3) (c : Spot) → 0 < n → k ≤ n → IsAround n k (flat a) (flat b) r c → IsNear (whole a b) r c
near_whole n k r a b c some small around = (n, k, record { some = some; first = omega arith; last = omega (arith, small) }, around)

at_least : (z : ℤ) (d : ℕ) → natural_of z ≤ d → z ≤ℤ pos d
at_least (pos n) d h = omega (arith, ints, h)
at_least (negsuc n) d h = omega (arith, ints)

cut_below : (s : Stock) (t : Cylinder) (a b : Point3) (grid : IsGrid s.grid) (heights : List ℕ) (Left : Point3 → Type 0) (d : ℕ) →
    ((q : Point3) → Left q → IsInStock s q) → AreBounds s heights Left → IsDepth s t a b heights d →
    (n k : ℕ) → 0 < n → k ≤ n → (q : Point3) → Left q → IsInReduced t a b (margin s.grid) 0 n k q → q.z <ℤ (lower_tip t a b +ℤ pos d)
cut_below s t a b grid heights Left d stock bounds depth n k some small q left h =
    let st = stock q left in
    let c = centre s.grid st.cell in
    let near_most = turned_most q.x q.y c.x c.y (kappa s.grid * kappa s.grid) (cell_most s.grid st.cell q grid st.in_cell) in
    let around = moved n k (radius t - margin s.grid) (kappa s.grid) (flat a) (flat b) (flat q) c h.around near_most in
    let r : (radius t - margin s.grid) + kappa s.grid ≡ radius t - reduction s.grid = omega (arith, h.fits) in
    let near = near_whole n k (radius t - reduction s.grid) a b c some small (subst (λ (x : ℕ). IsAround n k (flat a) (flat b) x c) r around) in
    let cell : st.cell < length heights = omega (arith, st.within, bounds.count) in
    let below = bounds.each st.cell cell q left st.in_cell in
    let e = natural_of ((s.bottom +ℤ pos (slice_index heights st.cell)) -ℤ lower_tip t a b) in
    let least = depth.greatest st.cell e (record { thick = omega (arith, h.fits); within = cell; near = near; left = omega (arith, ints, below, st.bottom); depth = refl }) in
    let most = at_least ((s.bottom +ℤ pos (slice_index heights st.cell)) -ℤ lower_tip t a b) d least in
    omega (arith, ints, below, most)

-- what a disc meets is at least as high as its lower tip
met_above : (t : Cylinder) (a b : Point3) (less n k : ℕ) (q : Point3) → 0 < n → k ≤ n → IsInReduced t a b less 0 n k q → lower_tip t a b ≤ℤ q.z
met_above t a b less n k q some small h =
    let z : n * 0 ≡ 0 = omega arith in
    let low : tip t n k a b ≤ℤ (pos n *ℤ q.z) = omega (arith, ints, z, h.low) in
    lowest_end (pos n) (pos k) a.z b.z t.bottom q.z (int_min a.z b.z) (omega (arith, ints, some)) (lower_weighted n k a.z b.z small) low

tip_by : (v : Bool) (e up : ℕ) (low bottom z foot q : ℤ) → up ≡ unsigned_abs (foot -ℤ bottom) → (v ≡ true → 0 < e) → (v ≡ false → e ≤ 0) →
    (low +ℤ foot) ≤ℤ q → q <ℤ ((low +ℤ foot) +ℤ pos e) → z ≡ low +ℤ bottom → q <ℤ (z +ℤ pos (cond v (e + up) 0))
tip_by true e up low bottom z foot q is some none least most at = omega (arith, ints, is, least, most, at)
tip_by false e up low bottom z foot q is some none least most at = let m = none refl in absurd (omega (arith, ints, m, least, most))

-- so it is less than the disc's depth above the tip of its tool
from_tip_below : (s : Stock) (t : Tool) (x : Cylinder) (a b : Point3) (grid : IsGrid s.grid) (heights : List ℕ) (Left : Point3 → Type 0) (e : ℕ) →
    ((q : Point3) → Left q → IsInStock s q) → AreBounds s heights Left → IsDepth s x a b heights e →
    IsMetBelow s Left a b (lower_tip (lowest_part t) a b +ℤ pos (from_tip t x e)) x
from_tip_below s t x a b grid heights Left e stock bounds depth = λ n k some small q left h.
    let least = met_above x a b (margin s.grid) n k q some small h in
    let most = cut_below s x a b grid heights Left e stock bounds depth n k some small q left h in
    tip_by (ltb 0 e) e (unsigned_abs (x.bottom -ℤ t.bottom)) (int_min a.z b.z) t.bottom (lower_tip (lowest_part t) a b) x.bottom q.z refl
    (ltb-true 0 e) (more_of 0 e) least most refl

higher : (s : Stock) (Left : Point3 → Type 0) (a b : Point3) (z : ℤ) (d e : ℕ) (x : Cylinder) → d ≤ e →
    IsMetBelow s Left a b (z +ℤ pos d) x → IsMetBelow s Left a b (z +ℤ pos e) x
higher s Left a b z d e x less h = λ n k some small q left i. let p = h n k some small q left i in omega (arith, ints, p, less)

pub all_higher : (s : Stock) (Left : Point3 → Type 0) (a b : Point3) (z : ℤ) (d e : ℕ) (xs : List Cylinder) → d ≤ e →
    AreMetBelow s Left a b (z +ℤ pos d) xs → AreMetBelow s Left a b (z +ℤ pos e) xs
all_higher s Left a b z d e [] less h = tt
all_higher s Left a b z d e (x ∷ xs) less h = (higher s Left a b z d e x less h.0, all_higher s Left a b z d e xs less h.1)

discs_below : (s : Stock) (t : Tool) (ds : List Cylinder) (a b : Point3) (grid : IsGrid s.grid) (heights : List ℕ) (Left : Point3 → Type 0) (d : ℕ) →
    ((q : Point3) → Left q → IsInStock s q) → AreBounds s heights Left → AreDepths s t ds a b heights d →
    AreMetBelow s Left a b (lower_tip (lowest_part t) a b +ℤ pos d) ds
discs_below s t [] a b grid heights Left d stock bounds h = tt
discs_below s t (x ∷ xs) a b grid heights Left d stock bounds (e, rest, one, others, is) =
    let z = lower_tip (lowest_part t) a b in (
      higher s Left a b z (from_tip t x e) d x (omega (arith, is)) (from_tip_below s t x a b grid heights Left e stock bounds one),
      all_higher s Left a b z rest d xs (omega (arith, is)) (discs_below s t xs a b grid heights Left rest stock bounds others),
    )

way_shallow : (s : Stock) (ds : List Cylinder) (t : Tool) (way : Way) (pace : Pace) (grid : IsGrid s.grid) (heights : List ℕ) (Left : Point3 → Type 0) (d : ℕ) →
    ((q : Point3) → Left q → IsInStock s q) → AreBounds s heights Left → IsDepthOn s ds t way pace heights d → IsShallowOn s Left ds t way pace d
way_shallow s ds t (Line a b) Rapid grid heights Left d stock bounds depth = tt
way_shallow s ds t (Line a b) (Feed f) grid heights Left d stock bounds depth = discs_below s t ds a b grid heights Left d stock bounds depth
way_shallow s ds t (Arc arc) pace grid heights Left d stock bounds depth = tt

action_shallow : (s : Stock) (ds : List Cylinder) (tool : Option Tool) (action : Action) (grid : IsGrid s.grid) (heights : List ℕ) (Left : Point3 → Type 0) (d : ℕ) →
    ((q : Point3) → Left q → IsInStock s q) → AreBounds s heights Left → IsDepthOf s ds tool action heights d → IsShallow s Left ds tool action d
action_shallow s ds None action grid heights Left d stock bounds depth = tt
action_shallow s ds (Some t) (Move m) grid heights Left d stock bounds depth = way_shallow s ds t m.way m.pace grid heights Left d stock bounds depth
action_shallow s ds (Some t) (Mount x) grid heights Left d stock bounds depth = tt
action_shallow s ds (Some t) (Dwell x) grid heights Left d stock bounds depth = tt
action_shallow s ds (Some t) (Spindle x) grid heights Left d stock bounds depth = tt
action_shallow s ds (Some t) (Coolant x) grid heights Left d stock bounds depth = tt
action_shallow s ds (Some t) (Override x) grid heights Left d stock bounds depth = tt
action_shallow s ds (Some t) Stop grid heights Left d stock bounds depth = tt
action_shallow s ds (Some t) OptionalStop grid heights Left d stock bounds depth = tt
action_shallow s ds (Some t) End grid heights Left d stock bounds depth = tt

pub cut_depth : CutDepth
cut_depth s table r before c heights d grid walk depth =
    let bounds = after_bounds s table grid before r (uncut s) heights (IsInStock s) (λ q h. h) (at_first s) walk in
    action_shallow s (discs_in table (after_all r before).tool) (after_all r before).tool c.action grid heights (IsLeft s table r before) d (λ q h. h.stock)
    (fewer s heights (λ q. IsInStock s q × ¬ (IsCutInAny table r before q)) (IsLeft s table r before) (λ q h. (h.stock, h.uncut)) bounds) depth
