-- What a walk leaves, command by command, and what that means.
use Rattle.std.proofs.Common.{◌≡◌, ℕ, ◌+◌, ◌-◌, ◌<◌, ◌≤◌, inl, inr, sym, subst, refl, ap, ◌∙◌, append_assoc, append-nil, arith, List, [], ◌∷◌, ◌++◌, Bool, eq-eqb, length}
use Rattle.std.specs.Prelude.{◌==◌, if◌then◌else◌}
use Rattle.ngc_fixed_length.specs.declared.points.Point3.{Point3}
use Rattle.ngc_file_figures.specs.declared.limits.ToolLimits.{ToolLimits}
use Rattle.ngc_commands.specs.declared.command.Command.{Command}
use Rattle.ngc_commands.specs.declared.reached.Reached.{Reached}
use Rattle.ngc_commands.specs.Reached.{after}
use Rattle.ngc_cells.specs.Grids.{IsGrid}
use Rattle.ngc_stock.specs.declared.stock.Stock.{Stock}
use Rattle.ngc_stock.specs.Discs.{discs_in}
use Rattle.ngc_stock.specs.Stocks.{IsInStock}
use Rattle.ngc_stock.specs.Walk.{IsCutIn, IsCutInAny, uncut}
use Rattle.ngc_stock.proofs.Bounds.{AreBounds, fewer}
use Rattle.ngc_stock.proofs.Silences.{at_first, step_keeps}
use Rattle.ngc_material.specs.Remains.{AreLeft, Remains}
use Rattle.ngc_material.specs.Walks.{IsFollowed, as_feed, with_feeds}
use Rattle.ngc_material.specs.declared.walk.Found.{Found}
use Rattle.ngc_material.proofs.Reports.{fed_after, fed_step, no_commands, not_yet}

-- ---- one command more

-- the first of some traverses isn't before a command
abbrev pub AreFrom : ℕ → List Found → Type 0
AreFrom index [] = Unit {0}
AreFrom index (f ∷ fs) = index ≤ f.command

sooner : (index : ℕ) (found : List Found) → AreFrom (index + 1) found → AreFrom index found
sooner index [] h = tt
sooner index (f ∷ fs) h = let p : index + 1 ≤ f.command = h in let q : index ≤ f.command = omega (arith, p) in q

-- a command that isn't reported stays as it is
kept_command : (index : ℕ) (c : Command) (cs : List Command) (found : List Found) → AreFrom (index + 1) found →
    with_feeds index (c ∷ cs) found ≡ c ∷ with_feeds (index + 1) cs found
kept_command index c cs [] h = refl
kept_command index c cs (f ∷ fs) h =
    ap (λ (v : Bool). if v then record c { action = as_feed c.action } ∷ with_feeds (index + 1) cs fs else c ∷ with_feeds (index + 1) cs (f ∷ fs)) (not_yet f.command index h)

-- one that is reported is a feed
fed_command : (index : ℕ) (c : Command) (cs : List Command) (f : Found) (fs : List Found) → f.command ≡ index →
    with_feeds index (c ∷ cs) (f ∷ fs) ≡ record c { action = as_feed c.action } ∷ with_feeds (index + 1) cs fs
fed_command index c cs f fs e =
    ap (λ (v : Bool). if v then record c { action = as_feed c.action } ∷ with_feeds (index + 1) cs fs else c ∷ with_feeds (index + 1) cs (f ∷ fs)) (eq-eqb f.command index e)

one_left : (s : Stock) (table : List ToolLimits) (r : Reached) (old new last : List ℕ) (index : ℕ) (c : Command) (cs : List Command) (before later rest : List Found) →
    IsFollowed s (discs_in table r.tool) r.tool index c old new before later → AreFrom (index + 1) rest →
    AreLeft s table (after r c.action) new (with_feeds (index + 1) cs rest) last →
    (more : List Found) × (before ++ more ≡ later ++ rest) × AreFrom index more × AreLeft s table r old (with_feeds index (c ∷ cs) more) last
one_left s table r old new last index c cs before later rest (inl h) from left = (
  rest,
  ap (λ (xs : List Found). xs ++ rest) (sym h.1),
  sooner index rest from,
  subst (λ (l : List Command). AreLeft s table r old l last) (sym (kept_command index c cs rest from)) (new, h.0, left),
)
one_left s table r old new last index c cs before later rest (inr h) from left =
    let here : index ≤ h.0.command = omega (arith, h.2.command) in (
      h.0 ∷ rest,
      sym (ap (λ (xs : List Found). xs ++ rest) h.1 ∙ append_assoc before (h.0 ∷ []) rest),
      here,
      subst (λ (l : List Command). AreLeft s table r old l last) (sym (fed_command index c cs h.0 rest h.2.command)) (
        new,
        fed_step s (discs_in table r.tool) r.tool c.action old new h.0.part h.0.touch h.2.touch,
        subst (λ (x : Reached). AreLeft s table x new (with_feeds (index + 1) cs rest) last) (sym (fed_after r c.action)) left,
      ),
    )

-- what the remaining commands leave is what all leave, after one command more
pub kept_left : (s : Stock) (table : List ToolLimits) (first r next : Reached) (all left later : List Command) (c : Command) (old new : List ℕ) (found more : List Found) →
    left ≡ c ∷ later → length left ≤ length all → next ≡ after r c.action → IsFollowed s (discs_in table r.tool) r.tool (length all - length left) c old new found more →
    ((rest : List Found) (last : List ℕ) → AreFrom (length all - length left) rest → AreLeft s table r old (with_feeds (length all - length left) left rest) last →
    AreLeft s table first (uncut s) (with_feeds 0 all (found ++ rest)) last) →
    (rest : List Found) (last : List ℕ) → AreFrom (length all - length later) rest → AreLeft s table next new (with_feeds (length all - length later) later rest) last →
    AreLeft s table first (uncut s) (with_feeds 0 all (more ++ rest)) last
kept_left s table first r next all left later c old new found more e few n followed kept rest last from h =
    let size : length left ≡ length later + 1 = ap (λ (l : List Command). length l) e ∙ omega arith in
    let at : length all - length later ≡ (length all - length left) + 1 = omega (arith, size, few) in
    let i = subst (λ (x : Reached). AreLeft s table x new (with_feeds (length all - length later) later rest) last) n h in
    let j = subst (λ (k : ℕ). AreLeft s table (after r c.action) new (with_feeds k later rest) last) at i in
    let one = one_left s table r old new last (length all - length left) c later found more rest followed (subst (λ (k : ℕ). AreFrom k rest) at from) j in
    subst (λ (xs : List Found). AreLeft s table first (uncut s) (with_feeds 0 all xs) last) one.1
    (kept one.0 last one.2 (subst (λ (l : List Command). AreLeft s table r old (with_feeds (length all - length left) l one.0) last) (sym e) one.3))

-- once no commands remain
pub all_left : (s : Stock) (table : List ToolLimits) (first r : Reached) (all left : List Command) (heights : List ℕ) (index : ℕ) (found : List Found) → length left ≡ 0 →
    ((rest : List Found) (last : List ℕ) → AreFrom index rest → AreLeft s table r heights (with_feeds index left rest) last →
    AreLeft s table first (uncut s) (with_feeds 0 all (found ++ rest)) last) →
    AreLeft s table first (uncut s) (with_feeds 0 all found) heights
all_left s table first r all left heights index found e kept =
    subst (λ (xs : List Found). AreLeft s table first (uncut s) (with_feeds 0 all xs) heights) (append-nil found)
    (kept [] heights tt (subst (λ (l : List Command). AreLeft s table r heights (with_feeds index l []) heights) (sym (no_commands left e)) refl))

-- ---- what is left is below the heights

last_bounds : (s : Stock) (table : List ToolLimits) (grid : IsGrid s.grid) (commands : List Command) (r : Reached) (heights last : List ℕ) (Left : Point3 → Type 0) →
    ((q : Point3) → Left q → IsInStock s q) → AreBounds s heights Left → AreLeft s table r heights commands last →
    AreBounds s last (λ q. Left q × ¬ (IsCutInAny table r commands q))
last_bounds s table grid [] r heights last Left stock bounds left =
    subst (λ (l : List ℕ). AreBounds s l (λ q. Left q × ¬ (IsCutInAny table r [] q))) (sym left)
    (fewer s heights Left (λ q. Left q × ¬ (IsCutInAny table r [] q)) (λ q h. h.0) bounds)
last_bounds s table grid (c ∷ cs) r heights last Left stock bounds left =
    let Next : Point3 → Type 0 = λ q. Left q × ¬ (IsCutIn (discs_in table r.tool) r.tool c.action q) in
    let kept = step_keeps s (discs_in table r.tool) r.tool c.action grid heights left.0 Left stock left.1 bounds in
    let rest = last_bounds s table grid cs (after r c.action) left.0 last Next (λ q h. stock q h.0) kept left.2 in
    fewer s last (λ q. Next q × ¬ (IsCutInAny table (after r c.action) cs q)) (λ q. Left q × ¬ (IsCutInAny table r (c ∷ cs) q))
    (λ q h. ((h.0, λ i. h.1 (inl i)), λ i. h.1 (inr i))) rest

pub remains : Remains
remains s table r commands last k q grid left small cell is =
    (last_bounds s table grid commands r (uncut s) last (IsInStock s) (λ p h. h) (at_first s) left).each k small q (is.stock, is.uncut) cell
