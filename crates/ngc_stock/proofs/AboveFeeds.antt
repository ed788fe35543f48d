-- A program of which no feed below the stock is reported cuts nothing under it along straight feeds.
use Rattle.std.proofs.Common.{◌≡◌, ℕ, zero, suc, ◌+◌, ◌-◌, ◌*◌, ◌%◌, ◌/◌, ◌<◌, ◌≤◌, ℤ, pos, negsuc, ◌+ℤ◌, ◌-ℤ◌, ◌*ℤ◌, ◌≤ℤ◌, ◌<ℤ◌, unsigned_abs, int_le, refl, ◌∙◌, ap, arith, List, [], ◌∷◌, ◌++◌, Option, Some, None, Bool, true, false, cond}
use Rattle.std.specs.Int.{int_min, int_max}
use Rattle.std.proofs.Math.Dec.{ltb}
use Rattle.std.proofs.lemmas.Nat.{mul-le, mod_below, div_below}
use Rattle.std.proofs.lemmas.Int.{ints, int_min_is, int_max_is}
use Rattle.ngc_fixed_length.specs.declared.points.Point3.{Point3}
use Rattle.ngc_machine_files.specs.declared.tools.Tool.{Tool}
use Rattle.ngc_commands.specs.declared.command.Action.{Action}
use Rattle.ngc_commands.specs.declared.command.Action.TheVariants.{Move, Mount, Dwell, Spindle, Coolant, Override, Stop, OptionalStop, End}
use Rattle.ngc_commands.specs.declared.command.Command.{Command}
use Rattle.ngc_commands.specs.declared.movement.Pace.{Pace}
use Rattle.ngc_commands.specs.declared.movement.Pace.TheVariants.{Rapid, Feed}
use Rattle.ngc_commands.specs.declared.movement.Way.{Way}
use Rattle.ngc_commands.specs.declared.movement.Way.TheVariants.{Line, Arc}
use Rattle.ngc_commands.specs.declared.reached.Reached.{Reached}
use Rattle.ngc_commands.specs.Reached.{after, after_all}
use Rattle.ngc_cells.specs.Stretches.{square, ahead}
use Rattle.ngc_cells.specs.Grids.{middle_of}
use Rattle.ngc_cells.proofs.Ring.{V, S, P, ring}
use Rattle.ngc_cells.proofs.Vectors.{L, square_least, times_most, times_out}
use Rattle.ngc_stock.specs.declared.below.AllBelow.{AllBelow}
use Rattle.ngc_stock.specs.declared.below.Below.{Below}
use Rattle.ngc_stock.specs.declared.stock.Stock.{Stock}
use Rattle.ngc_stock.specs.Stocks.{radius, lowest_part, natural_of, tip, IsCutBy}
use Rattle.ngc_stock.proofs.FreeTools.{root_most, of_le, some_of, depth_over, more_of}
use Rattle.ngc_stock.specs.Below.{is_beside_any, is_over_any, box_of_two, depth_in, below_with, below_on, below_by, below_at, with_below, all_below, IsUnderStock, IsAboveOn, IsAbove, AllAbove}

-- ---- along an axis

least_first : (a b : ℤ) → int_min a b ≤ℤ a
least_first a b = omega (arith, ints, int_min_is)

least_second : (a b : ℤ) → int_min a b ≤ℤ b
least_second a b = omega (arith, ints, int_min_is)

most_first : (a b : ℤ) → a ≤ℤ int_max a b
most_first a b = omega (arith, ints, int_max_is)

most_second : (a b : ℤ) → b ≤ℤ int_max a b
most_second a b = omega (arith, ints, int_max_is)

-- ---- a point between two others, by its weights

apart_as : (n k a b q : ℤ) → (n *ℤ (q -ℤ a)) -ℤ (k *ℤ (b -ℤ a)) ≡ (n *ℤ q) -ℤ (((n -ℤ k) *ℤ a) +ℤ (k *ℤ b))
apart_as n k a b q = ring (n ∷ k ∷ a ∷ b ∷ q ∷ []) (L (P (V 0) (L (V 4) (V 2))) (P (V 1) (L (V 3) (V 2)))) (L (P (V 0) (V 4)) (S (P (L (V 0) (V 1)) (V 2)) (P (V 1) (V 3)))) refl

height_as : (n k a b t : ℤ) → (n *ℤ (a +ℤ t)) +ℤ (k *ℤ (b -ℤ a)) ≡ (((n -ℤ k) *ℤ a) +ℤ (k *ℤ b)) +ℤ (n *ℤ t)
height_as n k a b t = ring (n ∷ k ∷ a ∷ b ∷ t ∷ []) (S (P (V 0) (S (V 2) (V 4))) (P (V 1) (L (V 3) (V 2)))) (S (S (P (L (V 0) (V 1)) (V 2)) (P (V 1) (V 3))) (P (V 0) (V 4))) refl

of_weights : (n k x : ℤ) → ((n -ℤ k) *ℤ x) +ℤ (k *ℤ x) ≡ n *ℤ x
of_weights n k x = ring (n ∷ k ∷ x ∷ []) (S (P (L (V 0) (V 1)) (V 2)) (P (V 1) (V 2))) (P (V 0) (V 2)) refl

times_sum : (n x r : ℤ) → n *ℤ (x +ℤ r) ≡ (n *ℤ x) +ℤ (n *ℤ r)
times_sum n x r = ring (n ∷ x ∷ r ∷ []) (P (V 0) (S (V 1) (V 2))) (S (P (V 0) (V 1)) (P (V 0) (V 2))) refl

times_rest : (n x r : ℤ) → n *ℤ (x -ℤ r) ≡ (n *ℤ x) -ℤ (n *ℤ r)
times_rest n x r = ring (n ∷ x ∷ r ∷ []) (P (V 0) (L (V 1) (V 2))) (L (P (V 0) (V 1)) (P (V 0) (V 2))) refl

weighted_least : (n k a b low : ℤ) → pos 0 ≤ℤ k → k ≤ℤ n → low ≤ℤ a → low ≤ℤ b → (n *ℤ low) ≤ℤ (((n -ℤ k) *ℤ a) +ℤ (k *ℤ b))
weighted_least n k a b low least most la lb =
    let p = times_most (n -ℤ k) low a (omega (arith, ints, most)) la in
    let q = times_most k low b least lb in
    let e = of_weights n k low in
    omega (arith, ints, p, q, e)

weighted_most : (n k a b high : ℤ) → pos 0 ≤ℤ k → k ≤ℤ n → a ≤ℤ high → b ≤ℤ high → (((n -ℤ k) *ℤ a) +ℤ (k *ℤ b)) ≤ℤ (n *ℤ high)
weighted_most n k a b high least most ha hb =
    let p = times_most (n -ℤ k) a high (omega (arith, ints, most)) ha in
    let q = times_most k b high least hb in
    let e = of_weights n k high in
    omega (arith, ints, p, q, e)

-- what is at most r from a point between a and b
above_low : (n k a b q r low : ℤ) → pos 0 <ℤ n → (n *ℤ low) ≤ℤ (((n -ℤ k) *ℤ a) +ℤ (k *ℤ b)) →
    (pos 0 -ℤ (n *ℤ r)) ≤ℤ ((n *ℤ (q -ℤ a)) -ℤ (k *ℤ (b -ℤ a))) → (low -ℤ r) ≤ℤ q
above_low n k a b q r low some w h =
    let e = apart_as n k a b q in
    let d = times_rest n low r in
    times_out n (low -ℤ r) q some (omega (arith, ints, w, h, e, d))

below_high : (n k a b q r high : ℤ) → pos 0 <ℤ n → (((n -ℤ k) *ℤ a) +ℤ (k *ℤ b)) ≤ℤ (n *ℤ high) →
    ((n *ℤ (q -ℤ a)) -ℤ (k *ℤ (b -ℤ a))) ≤ℤ (n *ℤ r) → q ≤ℤ (high +ℤ r)
below_high n k a b q r high some w h =
    let e = apart_as n k a b q in
    let d = times_sum n high r in
    times_out n q (high +ℤ r) some (omega (arith, ints, w, h, e, d))

at_most : (n r : ℕ) (z : ℤ) → unsigned_abs z ≤ n * r → ((pos 0 -ℤ (pos n *ℤ pos r)) ≤ℤ z) × (z ≤ℤ (pos n *ℤ pos r))
at_most n r z h = (omega (arith, ints, h), omega (arith, ints, h))

beside : (corner low high q : ℤ) (half count i r : ℕ) → i < count → unsigned_abs (q -ℤ middle_of corner half i) ≤ half →
    ((low -ℤ pos r) ≤ℤ q) × (q ≤ℤ (high +ℤ pos r)) → is_beside_any corner half count r low high ≡ true
beside corner low high q half count i r less h near =
    let m = mul-le (2 * i + 2) half (2 * count) half (omega arith) (omega arith) in
    let e : (2 * i + 1) * half + half ≡ (2 * i + 2) * half = omega arith in
    let x = of_le (corner -ℤ pos r) high (omega (arith, ints, h, near)) in
    let y = of_le low (corner +ℤ pos (2 * count * half + r)) (omega (arith, ints, h, near, m, e)) in
    rw (x, y) refl

-- ---- a straight feed

along : (n k r : ℕ) (a b q : ℤ) → 0 < n → k ≤ n → square (ahead n k a b q) ≤ℤ pos ((n * r) * (n * r)) →
    ((int_min a b -ℤ pos r) ≤ℤ q) × (q ≤ℤ (int_max a b +ℤ pos r))
along n k r a b q some less h =
    let d = at_most n r (ahead n k a b q) (root_most (ahead n k a b q) (n * r) h) in
    let least : pos 0 ≤ℤ pos k = omega (arith, ints) in
    let most : pos k ≤ℤ pos n = omega (arith, ints, less) in
    let more : pos 0 <ℤ pos n = omega (arith, ints, some) in
    let low = weighted_least (pos n) (pos k) a b (int_min a b) least most (least_first a b) (least_second a b) in
    let high = weighted_most (pos n) (pos k) a b (int_max a b) least most (most_first a b) (most_second a b) in
    (above_low (pos n) (pos k) a b q (pos r) (int_min a b) more low d.0, below_high (pos n) (pos k) a b q (pos r) (int_max a b) more high d.1)

-- the cutter of a feed that cuts a point under the stock is over the cells somewhere in its box
over_cells : (s : Stock) (t : Tool) (a b q : Point3) → IsUnderStock s q → IsCutBy (lowest_part t) a b q → is_over_any s t (box_of_two a b) ≡ true
over_cells s t a b q under cut =
    let g = s.grid in
    let k = under.cell in
    let some = some_of g.columns g.rows k under.within in
    let sx = square_least (ahead cut.n cut.k a.x b.x q.x) in
    let sy = square_least (ahead cut.n cut.k a.y b.y q.y) in
    let x = along cut.n cut.k (radius (lowest_part t)) a.x b.x q.x cut.some cut.within (omega (arith, ints, cut.around, sy)) in
    let y = along cut.n cut.k (radius (lowest_part t)) a.y b.y q.y cut.some cut.within (omega (arith, ints, cut.around, sx)) in
    let i = beside g.corner.x (int_min a.x b.x) (int_max a.x b.x) q.x g.half g.columns (k % g.columns) (radius (lowest_part t)) (mod_below k g.columns some) under.in_cell.x x in
    let j = beside g.corner.y (int_min a.y b.y) (int_max a.y b.y) q.y g.half g.rows (k / g.columns) (radius (lowest_part t)) (div_below k g.columns g.rows some (omega (arith, under.within))) under.in_cell.y y in
    rw (i, j) refl

-- the tip is somewhere at most as high as the point
pub lowest_end : (n k a b t q low : ℤ) → pos 0 <ℤ n → (n *ℤ low) ≤ℤ (((n -ℤ k) *ℤ a) +ℤ (k *ℤ b)) →
    ((n *ℤ (a +ℤ t)) +ℤ (k *ℤ (b -ℤ a))) ≤ℤ (n *ℤ q) → (low +ℤ t) ≤ℤ q
lowest_end n k a b t q low some w h =
    let e = height_as n k a b t in
    let d = times_sum n low t in
    times_out n (low +ℤ t) q some (omega (arith, ints, w, h, e, d))

pub lower_weighted : (n k : ℕ) (a b : ℤ) → k ≤ n → (pos n *ℤ int_min a b) ≤ℤ (((pos n -ℤ pos k) *ℤ a) +ℤ (pos k *ℤ b))
lower_weighted n k a b h =
    weighted_least (pos n) (pos k) a b (int_min a b) (omega (arith, ints)) (omega (arith, ints, h)) (least_first a b) (least_second a b)

tip_most : (t : Tool) (a b q : Point3) → IsCutBy (lowest_part t) a b q → (int_min a.z b.z +ℤ t.bottom) ≤ℤ q.z
tip_most t a b q cut =
    let low = weighted_least (pos cut.n) (pos cut.k) a.z b.z (int_min a.z b.z) (omega (arith, ints)) (omega (arith, ints, cut.within)) (least_first a.z b.z) (least_second a.z b.z) in
    lowest_end (pos cut.n) (pos cut.k) a.z b.z t.bottom q.z (int_min a.z b.z) (omega (arith, ints, cut.some)) low cut.low

above_line : (s : Stock) (t : Tool) (a b q : Point3) → depth_in s t (box_of_two a b) ≡ 0 → IsUnderStock s q → ¬ (IsCutBy (lowest_part t) a b q)
above_line s t a b q h under = λ cut.
    let over = over_cells s t a b q under cut in
    let bottom = depth_over (is_over_any s t (box_of_two a b)) (s.bottom -ℤ (int_min a.z b.z +ℤ t.bottom)) over h in
    let low = tip_most t a b q cut in
    omega (arith, ints, bottom, low, under.under)

-- ---- a command

some_none : (x : Below) → Some x ≡ None → ⊥
some_none x h = cc

no_some : (b : Bool) (x : Below) (depth : ℕ) → (b ≡ false → depth ≡ 0) → cond b (Some x) None ≡ None → depth ≡ 0
no_some true x depth f h = absurd (some_none x h)
no_some false x depth f h = f refl

no_depth : (index line tool depth : ℕ) → below_with index line tool depth ≡ None → depth ≡ 0
no_depth index line tool depth h =
    no_some (ltb 0 depth) (record { command = index; line = line; tool = tool; depth = depth }) depth
    (λ e. let m = more_of 0 depth e in omega (arith, m)) h

above_on : (s : Stock) (t : Tool) (index line : ℕ) (way : Way) (pace : Pace) → below_on s t index line way pace ≡ None → IsAboveOn s t way pace
above_on s t index line (Line a b) (Feed f) h = λ q under. above_line s t a b q (no_depth index line t.number (depth_in s t (box_of_two a b)) h) under
above_on s t index line (Line a b) Rapid h = tt
above_on s t index line (Arc arc) Rapid h = tt
above_on s t index line (Arc arc) (Feed f) h = tt

above_by : (s : Stock) (tool : Option Tool) (index line : ℕ) (action : Action) → below_by s tool index line action ≡ None → IsAbove s tool action
above_by s None index line action h = tt
above_by s (Some t) index line (Move m) h = above_on s t index line m.way m.pace h
above_by s (Some t) index line (Mount next) h = tt
above_by s (Some t) index line (Dwell x) h = tt
above_by s (Some t) index line (Spindle x) h = tt
above_by s (Some t) index line (Coolant x) h = tt
above_by s (Some t) index line (Override x) h = tt
above_by s (Some t) index line Stop h = tt
above_by s (Some t) index line OptionalStop h = tt
above_by s (Some t) index line End h = tt

-- ---- a program

none_before : (before : Option AllBelow) (o : Option Below) → with_below before o ≡ None → (before ≡ None) × (o ≡ None)
none_before before None h = (h, refl)
none_before before (Some b) h = absurd (cc)

none_first : (s : Stock) (r : Reached) (index : ℕ) (commands : List Command) (before : Option AllBelow) → all_below s r index commands before ≡ None → before ≡ None
none_first s r index [] before h = h
none_first s r index (c ∷ cs) before h =
    (none_before before (below_at s r index c)
    (none_first s (after r c.action) (index + 1) cs (with_below before (below_at s r index c)) h)).0

above_in : (s : Stock) (r : Reached) (index : ℕ) (before later : List Command) (c : Command) (found : Option AllBelow) →
    all_below s r index (before ++ c ∷ later) found ≡ None → IsAbove s (after_all r before).tool c.action
above_in s r index [] later c found h =
    above_by s r.tool index c.line c.action
    (none_before found (below_at s r index c)
    (none_first s (after r c.action) (index + 1) later (with_below found (below_at s r index c)) h)).1
above_in s r index (b ∷ before) later c found h =
    above_in s (after r b.action) (index + 1) before later c (with_below found (below_at s r index b)) h

pub all_above : AllAbove
all_above s r before later c h = above_in s r 0 before later c None h
