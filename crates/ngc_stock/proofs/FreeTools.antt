-- A tool change that isn't reported is free of the stock.
use Rattle.std.proofs.Common.{◌≡◌, ℕ, zero, suc, ◌+◌, ◌*◌, ◌%◌, ◌/◌, ◌<◌, ◌≤◌, ℤ, pos, negsuc, ◌+ℤ◌, ◌-ℤ◌, ◌*ℤ◌, ◌≤ℤ◌, unsigned_abs, int_le, inl, inr, refl, ◌∙◌, ap, subst, arith, List, [], ◌∷◌, ◌++◌, Option, Some, None, Bool, true, false, cond}
use Rattle.std.proofs.Math.IntN.{*ℤ-zero}
use Rattle.std.proofs.lemmas.Bool.{cases_lt, ltb-true, lt-ltb}
use Rattle.std.proofs.Math.Dec.{ltb}
use Rattle.std.proofs.lemmas.Nat.{mul-le, mod_below, div_below}
use Rattle.std.proofs.lemmas.Int.{ints}
use Rattle.ngc_fixed_length.specs.declared.points.Point3.{Point3}
use Rattle.ngc_machine_files.specs.declared.tools.Tool.{Tool}
use Rattle.ngc_commands.specs.declared.command.Action.{Action}
use Rattle.ngc_commands.specs.declared.command.Action.TheVariants.{Move, Mount, Dwell, Spindle, Coolant, Override, Stop, OptionalStop, End}
use Rattle.ngc_commands.specs.declared.command.Command.{Command}
use Rattle.ngc_commands.specs.declared.reached.Reached.{Reached}
use Rattle.ngc_commands.specs.Reached.{after, after_all}
use Rattle.ngc_cells.specs.Stretches.{square, ahead}
use Rattle.ngc_cells.specs.Grids.{middle_of}
use Rattle.ngc_cells.proofs.Vectors.{from_squares, square_least, times_out}
use Rattle.ngc_stock.specs.declared.change.Change.{Change}
use Rattle.ngc_stock.specs.declared.stock.Stock.{Stock}
use Rattle.ngc_stock.specs.Stocks.{radius, lowest_part, flat, natural_of, IsInStock, IsCutBy}
use Rattle.ngc_stock.specs.Changes.{is_beside, is_over, depth_at, tool_number, change_with, change_from, change_on, change_at, with_change, changes, IsFree, IsFreeChange, FreeChange, FreeChanges}
use Rattle.ngc_stock.proofs.Distances.{point_around}

-- ---- along an axis

pub root_most : (z : ℤ) (m : ℕ) → square z ≤ℤ pos (m * m) → unsigned_abs z ≤ m
root_most (pos n) m h = from_squares n m (omega (arith, ints, h))
root_most (negsuc n) m h = let p = from_squares (n + 1) m (omega (arith, ints, h)) in omega (arith, ints, p)

at_one : (p q : ℤ) → (pos 1 *ℤ (q -ℤ p)) -ℤ (pos 1 *ℤ (p -ℤ p)) ≡ q -ℤ p
at_one p q = omega (arith, ints)

beside : (corner p q : ℤ) (half count i r : ℕ) → i < count → unsigned_abs (q -ℤ middle_of corner half i) ≤ half → unsigned_abs (q -ℤ p) ≤ r →
    ((corner -ℤ pos r) ≤ℤ p) × (p ≤ℤ (corner +ℤ pos (2 * count * half + r)))
beside corner p q half count i r less h near =
    let m = mul-le (2 * i + 2) half (2 * count) half (omega arith) (omega arith) in
    let e : (2 * i + 1) * half + half ≡ (2 * i + 2) * half = omega arith in
    (omega (arith, ints, h, near), omega (arith, ints, h, near, m, e))

pub of_le : (x y : ℤ) → x ≤ℤ y → int_le x y ≡ true
of_le x y h = grind (arith, ints)

is_beside_of : (corner p : ℤ) (half count r : ℕ) → ((corner -ℤ pos r) ≤ℤ p) × (p ≤ℤ (corner +ℤ pos (2 * count * half + r))) → is_beside corner half count r p ≡ true
is_beside_of corner p half count r h =
    let a = of_le (corner -ℤ pos r) p h.0 in
    let b = of_le p (corner +ℤ pos (2 * count * half + r)) h.1 in
    rw (a, b) refl

-- ---- a tool at a place

pub some_of : (w h k : ℕ) → k < w * h → 0 < w
some_of zero h k less = absurd (omega (arith, less))
some_of (suc w) h k less = omega arith

-- the cutter of a tool that is over a point of the stock is over the cells
over_cells : (s : Stock) (t : Tool) (p q : Point3) → IsInStock s q → IsCutBy (lowest_part t) p p q → is_over s t p ≡ true
over_cells s t p q stock cut =
    let g = s.grid in
    let k = stock.cell in
    let some = some_of g.columns g.rows k stock.within in
    let around = point_around cut.n cut.k (radius (lowest_part t)) (flat p) (flat p) (flat q) cut.some cut.around in
    let sx = square_least (ahead 1 1 p.x p.x q.x) in
    let sy = square_least (ahead 1 1 p.y p.y q.y) in
    let m : (1 * radius (lowest_part t)) * (1 * radius (lowest_part t)) ≡ radius (lowest_part t) * radius (lowest_part t) = omega arith in
    let dx = root_most (ahead 1 1 p.x p.x q.x) (radius (lowest_part t)) (omega (arith, ints, around, sy, m)) in
    let dy = root_most (ahead 1 1 p.y p.y q.y) (radius (lowest_part t)) (omega (arith, ints, around, sx, m)) in
    let nx : unsigned_abs (q.x -ℤ p.x) ≤ radius (lowest_part t) = subst (λ (z : ℤ). unsigned_abs z ≤ radius (lowest_part t)) (at_one p.x q.x) dx in
    let ny : unsigned_abs (q.y -ℤ p.y) ≤ radius (lowest_part t) = subst (λ (z : ℤ). unsigned_abs z ≤ radius (lowest_part t)) (at_one p.y q.y) dy in
    let x = is_beside_of g.corner.x p.x g.half g.columns (radius (lowest_part t)) (beside g.corner.x p.x q.x g.half g.columns (k % g.columns) (radius (lowest_part t)) (mod_below k g.columns some) stock.in_cell.x nx) in
    let y = is_beside_of g.corner.y p.y g.half g.rows (radius (lowest_part t)) (beside g.corner.y p.y q.y g.half g.rows (k / g.columns) (radius (lowest_part t)) (div_below k g.columns g.rows some (omega (arith, stock.within))) stock.in_cell.y ny) in
    rw (x, y) refl

no_climb : (k : ℕ) (z : ℤ) → pos k *ℤ (z -ℤ z) ≡ pos 0
no_climb k z = ap (λ (x : ℤ). pos k *ℤ x) (let e : z -ℤ z ≡ pos 0 = omega (arith, ints) in e) ∙ *ℤ-zero (pos k)

-- its tip is at most as high as the point
tip_most : (t : Tool) (p q : Point3) → IsCutBy (lowest_part t) p p q → (p.z +ℤ t.bottom) ≤ℤ q.z
tip_most t p q cut =
    let e = no_climb cut.k p.z in
    times_out (pos cut.n) (p.z +ℤ t.bottom) q.z (omega (arith, ints, cut.some)) (omega (arith, ints, e, cut.low))

pub none_left : (z : ℤ) → natural_of z ≡ 0 → z ≤ℤ pos 0
none_left (pos n) h = omega (arith, ints, h)
none_left (negsuc n) h = omega (arith, ints)

pub depth_over : (b : Bool) (z : ℤ) → b ≡ true → cond b (natural_of z) 0 ≡ 0 → z ≤ℤ pos 0
depth_over true z is h = none_left z h
depth_over false z is h = absurd (cc)

free_at : (s : Stock) (tool : Option Tool) (p : Point3) → depth_at s tool p ≡ 0 → IsFree s tool p
free_at s None p h = tt
free_at s (Some t) p h = λ q stock cut.
    let over = over_cells s t p q stock cut in
    let top = depth_over (is_over s t p) ((s.bottom +ℤ pos s.height) -ℤ (p.z +ℤ t.bottom)) over h in
    let low = tip_most t p q cut in
    omega (arith, ints, top, low, stock.top)

-- ---- a change

some_none : (x : Change) → Some x ≡ None → ⊥
some_none x h = cc

pub more_of : (m n : ℕ) → ltb m n ≡ false → n ≤ m
more_of m n e = elim (cases_lt m n) [ inl less ↦ absurd (let p = lt-ltb m n less in cc) | inr more ↦ more ]

no_some : (b : Bool) (x : Change) (depth : ℕ) → (b ≡ false → depth ≡ 0) → cond b (Some x) None ≡ None → depth ≡ 0
no_some true x depth f h = absurd (some_none x h)
no_some false x depth f h = f refl

no_depth : (index line : ℕ) (p : Point3) (tool : Option Tool) (depth : ℕ) → change_with index line p tool depth ≡ None → depth ≡ 0
no_depth index line p tool depth h =
    no_some (ltb 0 depth) (record { command = index; line = line; tool = tool_number tool; place = flat p; depth = depth }) depth
    (λ e. let m = more_of 0 depth e in omega (arith, m)) h

no_depths : (b : Bool) (index line : ℕ) (p : Point3) (tool next : Option Tool) (before later : ℕ) → (b ≡ true → before < later) → (b ≡ false → later ≤ before) →
    cond b (change_with index line p next later) (change_with index line p tool before) ≡ None → (before ≡ 0) × (later ≡ 0)
no_depths true index line p tool next before later less more h =
    let z = no_depth index line p next later h in let l = less refl in absurd (omega (arith, z, l))
no_depths false index line p tool next before later less more h =
    let z = no_depth index line p tool before h in let l = more refl in (z, omega (arith, z, l))

both_free : (s : Stock) (index line : ℕ) (p : Point3) (tool next : Option Tool) → change_from s index line p tool next ≡ None → IsFree s tool p × IsFree s next p
both_free s index line p tool next h =
    let before = depth_at s tool p in
    let later = depth_at s next p in
    let z = no_depths (ltb before later) index line p tool next before later (ltb-true before later) (more_of before later) h in
    (free_at s tool p z.0, free_at s next p z.1)

free_on : (s : Stock) (r : Reached) (index line : ℕ) (action : Action) → change_on s r index line action ≡ None → IsFreeChange s r action
free_on s r index line (Mount next) h = both_free s index line r.place r.tool next h
free_on s r index line (Move m) h = tt
free_on s r index line (Dwell x) h = tt
free_on s r index line (Spindle x) h = tt
free_on s r index line (Coolant x) h = tt
free_on s r index line (Override x) h = tt
free_on s r index line Stop h = tt
free_on s r index line OptionalStop h = tt
free_on s r index line End h = tt

pub free_change : FreeChange
free_change s r index c h = free_on s r index c.line c.action h

-- ---- a program

none_first : (o : Option Change) (later : List Change) → with_change o later ≡ [] → o ≡ None
none_first None later h = refl
none_first (Some x) later h = absurd (cc)

none_later : (o : Option Change) (later : List Change) → with_change o later ≡ [] → later ≡ []
none_later None later h = h
none_later (Some x) later h = absurd (cc)

free_in : (s : Stock) (r : Reached) (index : ℕ) (before later : List Command) (c : Command) → changes s r index (before ++ c ∷ later) ≡ [] → IsFreeChange s (after_all r before) c.action
free_in s r index [] later c h = free_change s r index c (none_first (change_at s r index c) (changes s (after r c.action) (index + 1) later) h)
free_in s r index (b ∷ before) later c h =
    free_in s (after r b.action) (index + 1) before later c
    (none_later (change_at s r index b) (changes s (after r b.action) (index + 1) (before ++ c ∷ later)) h)

pub free_changes : FreeChanges
free_changes s r before later c h = free_in s r 0 before later c h
