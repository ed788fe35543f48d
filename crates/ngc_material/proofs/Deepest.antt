-- The deepest of the cells in the way of a traverse, found part by part.
use Rattle.std.proofs.Common.{◌≡◌, ℕ, ◌+◌, ◌*◌, ◌-◌, ◌≤◌, ◌⊎◌, pos, ◌+ℤ◌, inl, inr, subst, refl, ap, ◌∙◌, arith, List, get_or, Option, Some, None, Bool, true, false}
use Rattle.std.proofs.Math.Dec.{ltb}
use Rattle.std.proofs.lemmas.Bool.{cases_lt, ltb-true, lt-ltb}
use Rattle.std.specs.Prelude.{IfNone, IfSome, if◌then◌else◌}
use Rattle.ngc_fixed_length.specs.declared.points.Point3.{Point3}
use Rattle.ngc_cells.specs.declared.grid.Grid.{Grid}
use Rattle.ngc_cells.specs.declared.stretch.Stretch.{Stretch}
use Rattle.ngc_cells.specs.Grids.{AreBelow, IsPeak, centre}
use Rattle.ngc_cells.specs.declared.cells.Peak.{Peak}
use Rattle.ngc_stock.specs.declared.cylinder.Cylinder.{Cylinder}
use Rattle.ngc_stock.specs.declared.stock.Stock.{Stock}
use Rattle.ngc_stock.specs.Stocks.{radius, reduction, tolerance, rise, pieces, piece, point_at, lowest_tip, level_of}
use Rattle.ngc_stock.specs.Walk.{IsClear}
use Rattle.ngc_material.specs.Touches.{IsDeep, IsAtEnd, IsAtPiece, IsAtFirst, IsInWay, IsDeepest, deeper}
use Rattle.ngc_material.specs.declared.touch.Touch.{Touch}
use Rattle.ngc_material.specs.declared.touch.Probe.{Probe}

-- there are no such cells, or the touch names a deepest one
abbrev pub IsDeepestOf : Grid → (ℕ → ℕ → Type 0) → Option Touch → Type 0
IsDeepestOf g In None = (k d : ℕ) → ¬ (In k d)
IsDeepestOf g In (Some touch) = IsDeepest g In touch

pub none_deep : (g : Grid) (stretch : Stretch) (r limit tip : ℕ) (heights : List ℕ) → AreBelow g stretch r limit heights → (k d : ℕ) → ¬ (IsDeep g stretch r limit tip heights k d)
none_deep g stretch r limit tip heights below k d deep = let p = below k deep.within deep.near in absurd (omega (arith, p, deep.above))

pub below_deep : (g : Grid) (stretch : Stretch) (r limit tip : ℕ) (heights : List ℕ) → ((k d : ℕ) → ¬ (IsDeep g stretch r limit tip heights k d)) → AreBelow g stretch r limit heights
below_deep g stretch r limit tip heights none k less near =
    elim (cases_lt limit (get_or heights k 0)) [
      | inl above ↦ absurd (none k (get_or heights k 0 - tip) (record { within = less; near = near; above = above; depth = refl }))
      | inr below ↦ below
    ]

pub peak_deepest : (g : Grid) (stretch : Stretch) (r limit tip : ℕ) (heights : List ℕ) (p : Peak) (touch : Touch) → IsPeak g stretch r limit heights p →
    touch.place ≡ centre g p.cell → touch.depth ≡ p.height - tip → IsDeepest g (IsDeep g stretch r limit tip heights) touch
peak_deepest g stretch r limit tip heights p touch peak place depth = record {
  cell = p.cell;
  found = record {
    within = peak.found.cell;
    near = peak.found.near;
    above = omega (arith, peak.above, peak.found.height);
    depth = omega (arith, depth, peak.found.height);
  };
  place = place;
  greatest = λ k d deep. (let h = peak.greatest k deep.within deep.near in omega (arith, h, deep.depth, depth));
}

-- the deeper of two touches is a deepest one of both
deeper_some : (v : Bool) (g : Grid) (In Next : ℕ → ℕ → Type 0) (t u : Touch) → (v ≡ true → t.depth ≤ u.depth) → (v ≡ false → u.depth ≤ t.depth) →
    IsDeepest g In t → IsDeepest g Next u → IsDeepestOf g (λ k d. In k d ⊎ Next k d) (if v then Some u else Some t)
deeper_some true g In Next t u less more h i = record {
  cell = i.cell;
  found = inr i.found;
  place = i.place;
  greatest = λ k d e. elim e [ inl x ↦ (let p = h.greatest k d x in let q = less refl in omega (arith, p, q)) | inr y ↦ i.greatest k d y ];
}
deeper_some false g In Next t u less more h i = record {
  cell = h.cell;
  found = inl h.found;
  place = h.place;
  greatest = λ k d e. elim e [ inl x ↦ h.greatest k d x | inr y ↦ (let p = i.greatest k d y in let q = more refl in omega (arith, p, q)) ];
}

pub less_of : (m n : ℕ) → ltb m n ≡ true → m ≤ n
less_of m n e = let p = ltb-true m n e in omega (arith, p)

pub more_of : (m n : ℕ) → ltb m n ≡ false → n ≤ m
more_of m n e = elim (cases_lt m n) [ inl less ↦ absurd (let p = lt-ltb m n less in cc) | inr more ↦ more ]

pub deeper_of : (g : Grid) (In Next : ℕ → ℕ → Type 0) (one other : Option Touch) → IsDeepestOf g In one → IsDeepestOf g Next other →
    IsDeepestOf g (λ k d. In k d ⊎ Next k d) (deeper one other)
deeper_of g In Next None None h i = λ k d e. elim e [ inl x ↦ h k d x | inr y ↦ i k d y ]
deeper_of g In Next None (Some t) h i = record {
  cell = i.cell;
  found = inr i.found;
  place = i.place;
  greatest = λ k d e. elim e [ inl x ↦ absurd (h k d x) | inr y ↦ i.greatest k d y ];
}
deeper_of g In Next (Some t) None h i = record {
  cell = h.cell;
  found = inl h.found;
  place = h.place;
  greatest = λ k d e. elim e [ inl x ↦ h.greatest k d x | inr y ↦ absurd (i k d y) ];
}
deeper_of g In Next (Some t) (Some u) h i = deeper_some (ltb t.depth u.depth) g In Next t u (less_of t.depth u.depth) (more_of t.depth u.depth) h i

pub deepest_as : (g : Grid) (In Same : ℕ → ℕ → Type 0) (o : Option Touch) → ((k d : ℕ) → In k d → Same k d) → ((k d : ℕ) → Same k d → In k d) → IsDeepestOf g In o → IsDeepestOf g Same o
deepest_as g In Same None there back h = λ k d x. h k d (back k d x)
deepest_as g In Same (Some t) there back h = record { cell = h.cell; found = there h.cell t.depth h.found; place = h.place; greatest = λ k d x. h.greatest k d (back k d x) }

-- ---- what a probe finds

found_deepest : (g : Grid) (stretch : Stretch) (r limit tip : ℕ) (heights : List ℕ) (o : Option Touch) → IfNone o (AreBelow g stretch r limit heights) →
    IfSome o (IsDeepest g (IsDeep g stretch r limit tip heights)) → IsDeepestOf g (IsDeep g stretch r limit tip heights) o
found_deepest g stretch r limit tip heights None n s = none_deep g stretch r limit tip heights n
found_deepest g stretch r limit tip heights (Some t) n s = s

probe_deepest : (g : Grid) (p q : Probe) (heights : List ℕ) (o : Option Touch) → p ≡ q → IfNone o (AreBelow g p.stretch p.radius p.limit heights) →
    IfSome o (IsDeepest g (IsDeep g p.stretch p.radius p.limit p.tip heights)) → IsDeepestOf g (IsDeep g q.stretch q.radius q.limit q.tip heights) o
probe_deepest g p q heights o e n s =
    subst (λ (x : Probe). IsDeepestOf g (IsDeep g x.stretch x.radius x.limit x.tip heights) o) e (found_deepest g p.stretch p.radius p.limit p.tip heights o n s)

pub start_deepest : (s : Stock) (t : Cylinder) (a b : Point3) (heights : List ℕ) (tested : ℕ) (p : Probe) (o : Option Touch) → tested ≡ radius t - reduction s.grid →
    p ≡ record { stretch = point_at b; radius = tested; limit = level_of s ((b.z +ℤ t.bottom) +ℤ pos (tolerance s.grid)); tip = level_of s (b.z +ℤ t.bottom) } →
    IfNone o (AreBelow s.grid p.stretch p.radius p.limit heights) → IfSome o (IsDeepest s.grid (IsDeep s.grid p.stretch p.radius p.limit p.tip heights)) →
    IsDeepestOf s.grid (IsAtFirst s t a b 0 heights) o
start_deepest s t a b heights tested p o h e n m =
    let q = probe_deepest s.grid p (record { stretch = point_at b; radius = radius t - reduction s.grid; limit = level_of s ((b.z +ℤ t.bottom) +ℤ pos (tolerance s.grid)); tip = level_of s (b.z +ℤ t.bottom) })
    heights o (e ∙ ap (λ (r : ℕ). record { stretch = point_at b; radius = r; limit = level_of s ((b.z +ℤ t.bottom) +ℤ pos (tolerance s.grid)); tip = level_of s (b.z +ℤ t.bottom) }) h) n m in
    deepest_as s.grid (IsAtEnd s t b heights) (IsAtFirst s t a b 0 heights) o (λ k d x. inl x) (λ k d x. elim x [ inl y ↦ y | inr z ↦ absurd (omega (arith, z.1)) ]) q

last_or_first : (s : Stock) (t : Cylinder) (a b : Point3) (n : ℕ) (heights : List ℕ) (k d : ℕ) → IsAtFirst s t a b (n + 1) heights k d →
    IsAtFirst s t a b n heights k d ⊎ IsAtPiece s t a b n heights k d
last_or_first s t a b n heights k d x =
    elim x [
      | inl y ↦ inl (inl y)
      | inr z ↦ elim (cases_lt z.0 n) [
        | inl less ↦ inl (inr (z.0, less, z.2))
        | inr more ↦ inr (let e : z.0 ≡ n = omega (arith, z.1, more) in subst (λ (i : ℕ). IsAtPiece s t a b i heights k d) e z.2)
      ]
    ]

pub next_deepest : (s : Stock) (t : Cylinder) (a b : Point3) (i : ℕ) (heights : List ℕ) (tested : ℕ) (p : Probe) (one o : Option Touch) → tested ≡ radius t - reduction s.grid →
    p ≡ record { stretch = piece a b i; radius = tested; limit = level_of s (lowest_tip t a b i +ℤ pos (tolerance s.grid + 2 * rise a b)); tip = level_of s (lowest_tip t a b i) } →
    IfNone o (AreBelow s.grid p.stretch p.radius p.limit heights) → IfSome o (IsDeepest s.grid (IsDeep s.grid p.stretch p.radius p.limit p.tip heights)) →
    IsDeepestOf s.grid (IsAtFirst s t a b i heights) one → IsDeepestOf s.grid (IsAtFirst s t a b (i + 1) heights) (deeper one o)
next_deepest s t a b i heights tested p one o h e n m so_far =
    let q = probe_deepest s.grid p (record { stretch = piece a b i; radius = radius t - reduction s.grid; limit = level_of s (lowest_tip t a b i +ℤ pos (tolerance s.grid + 2 * rise a b)); tip = level_of s (lowest_tip t a b i) })
    heights o (e ∙ ap (λ (r : ℕ). record { stretch = piece a b i; radius = r; limit = level_of s (lowest_tip t a b i +ℤ pos (tolerance s.grid + 2 * rise a b)); tip = level_of s (lowest_tip t a b i) }) h) n m in
    deepest_as s.grid (λ k d. IsAtFirst s t a b i heights k d ⊎ IsAtPiece s t a b i heights k d) (IsAtFirst s t a b (i + 1) heights) (deeper one o)
    (λ k d x. elim x [ inl y ↦ elim y [ inl u ↦ inl u | inr v ↦ inr (v.0, omega (arith, v.1), v.2) ] | inr z ↦ inr (i, omega arith, z) ])
    (λ k d x. last_or_first s t a b i heights k d x)
    (deeper_of s.grid (IsAtFirst s t a b i heights) (IsAtPiece s t a b i heights) one o so_far q)

-- ---- what all parts find

pub clear_none : (s : Stock) (t : Cylinder) (a b : Point3) (heights : List ℕ) → ((k d : ℕ) → ¬ (IsInWay s t a b heights k d)) → IsClear s t a b heights
clear_none s t a b heights none = record {
  pieces = λ thick i less. below_deep s.grid (piece a b i) (radius t - reduction s.grid) (level_of s (lowest_tip t a b i +ℤ pos (tolerance s.grid + 2 * rise a b)))
      (level_of s (lowest_tip t a b i)) heights (λ k d x. none k d (record { thick = thick; part = inr (i, less, x) }));
  end = λ thick. below_deep s.grid (point_at b) (radius t - reduction s.grid) (level_of s ((b.z +ℤ t.bottom) +ℤ pos (tolerance s.grid)))
      (level_of s (b.z +ℤ t.bottom)) heights (λ k d x. none k d (record { thick = thick; part = inl x }));
}

pub none_clear : (s : Stock) (t : Cylinder) (a b : Point3) (heights : List ℕ) → IsClear s t a b heights → (k d : ℕ) → ¬ (IsInWay s t a b heights k d)
none_clear s t a b heights clear k d way =
    elim way.part [
      | inl x ↦ none_deep s.grid (point_at b) (radius t - reduction s.grid) (level_of s ((b.z +ℤ t.bottom) +ℤ pos (tolerance s.grid)))
          (level_of s (b.z +ℤ t.bottom)) heights (clear.end way.thick) k d x
      | inr y ↦ none_deep s.grid (piece a b y.0) (radius t - reduction s.grid) (level_of s (lowest_tip t a b y.0 +ℤ pos (tolerance s.grid + 2 * rise a b)))
          (level_of s (lowest_tip t a b y.0)) heights (clear.pieces way.thick y.0 y.1) k d y.2
    ]

pub all_none : (s : Stock) (t : Cylinder) (a b : Point3) (heights : List ℕ) (n : ℕ) (o : Option Touch) → n ≡ pieces a b →
    IsDeepestOf s.grid (IsAtFirst s t a b n heights) o → IfNone o (IsClear s t a b heights)
all_none s t a b heights n None e h = clear_none s t a b heights (λ k d way. subst (λ (m : ℕ). (k d : ℕ) → ¬ (IsAtFirst s t a b m heights k d)) e h k d way.part)
all_none s t a b heights n (Some touch) e h = tt

pub all_some : (s : Stock) (t : Cylinder) (a b : Point3) (heights : List ℕ) (n : ℕ) (o : Option Touch) → n ≡ pieces a b → reduction s.grid ≤ radius t →
    IsDeepestOf s.grid (IsAtFirst s t a b n heights) o → IfSome o (IsDeepest s.grid (IsInWay s t a b heights))
all_some s t a b heights n None e thick h = tt
all_some s t a b heights n (Some touch) e thick h =
    let i = subst (λ (m : ℕ). IsDeepest s.grid (IsAtFirst s t a b m heights) touch) e h in
    record { cell = i.cell; found = record { thick = thick; part = i.found }; place = i.place; greatest = λ k d way. i.greatest k d way.part }
