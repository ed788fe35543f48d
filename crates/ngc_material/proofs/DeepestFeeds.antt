-- The deepest feeds of a walk, one of each tool, and what that means.
use Rattle.std.proofs.Common.{◌≡◌, ℕ, suc, ◌+◌, ◌-◌, ◌≤◌, inl, inr, sym, subst, refl, ap, ◌∙◌, append_assoc, append-nil, arith, max, List, [], ◌∷◌, ◌++◌, Option, Some, None, Bool, true, false, not, cond, eq-eqb, length}
use Rattle.std.specs.Prelude.{◌==◌, if◌then◌else◌}
use Rattle.std.specs.List.{position_or_len}
use Rattle.std.proofs.Math.Dec.{ltb}
use Rattle.std.proofs.lemmas.Bool.{eqb-true, ltb-true, lt-ltb}
use Rattle.ngc_fixed_length.specs.declared.points.Point3.{Point3}
use Rattle.ngc_file_figures.specs.declared.limits.ToolLimits.{ToolLimits}
use Rattle.ngc_machine_files.specs.declared.tools.Tool.{Tool}
use Rattle.ngc_commands.specs.declared.command.Action.{Action}
use Rattle.ngc_commands.specs.declared.command.Action.TheVariants.{Move, Mount, Dwell, Spindle, Coolant, Override, Stop, OptionalStop, End}
use Rattle.ngc_commands.specs.declared.command.Command.{Command}
use Rattle.ngc_commands.specs.declared.movement.Way.{Way}
use Rattle.ngc_commands.specs.declared.movement.Way.TheVariants.{Line, Arc}
use Rattle.ngc_commands.specs.declared.movement.Pace.{Pace}
use Rattle.ngc_commands.specs.declared.movement.Pace.TheVariants.{Rapid, Feed}
use Rattle.ngc_commands.specs.declared.reached.Reached.{Reached}
use Rattle.ngc_commands.specs.Reached.{after, after_all}
use Rattle.ngc_cells.specs.Grids.{IsGrid}
use Rattle.ngc_stock.specs.declared.cut.Cut.{Cut}
use Rattle.ngc_stock.specs.declared.cylinder.Cylinder.{Cylinder}
use Rattle.ngc_stock.specs.declared.stock.Stock.{Stock}
use Rattle.ngc_stock.specs.Discs.{discs_in}
use Rattle.ngc_stock.specs.Changes.{tool_number}
use Rattle.ngc_stock.specs.Cuts.{is_with, deeper_cut, with_cut_at, with_cut, depth_for, lower_tip, IsDepthOf, IsShallowOn, IsShallow}
use Rattle.ngc_stock.specs.Feeds.{AreAfter}
use Rattle.ngc_stock.specs.Stocks.{lowest_part}
use Rattle.ngc_stock.specs.Walk.{IsStep, IsLeft, uncut}
use Rattle.ngc_stock.proofs.CutDepths.{all_higher, cut_depth}
use Rattle.ngc_material.specs.Cuts.{IsCutNext, AreCuts, DeepestCuts}
use Rattle.ngc_material.specs.Walks.{IsFollowed, as_feed, with_feeds}
use Rattle.ngc_material.specs.declared.walk.Found.{Found}
use Rattle.ngc_material.proofs.Deepest.{less_of, more_of}
use Rattle.ngc_material.proofs.Reports.{fed_step, fed_after, not_yet, tool_after, no_commands}

-- ---- the deepest of each tool

-- the first of some cuts is of the tool, or another one is
at_later : (b : Bool) (x : Cut) (xs : List Cut) (m : ℕ) (c : Cut) → with_cut_at (cond b (Some (suc m)) None) (x ∷ xs) c ≡ x ∷ with_cut_at (cond b (Some m) None) xs c
at_later true x xs m c = refl
at_later false x xs m c = refl

same_truth : (v w : Bool) → (v ≡ true → w ≡ true) → (w ≡ true → v ≡ true) → v ≡ w
same_truth true w f g = sym (f refl)
same_truth false true f g = g refl
same_truth false false f g = refl

one_less : (m n : ℕ) → ltb (suc m) (suc n) ≡ ltb m n
one_less m n = same_truth (ltb (suc m) (suc n)) (ltb m n)
    (λ e. let p = ltb-true (suc m) (suc n) e in lt-ltb m n (omega (arith, p)))
    (λ e. let p = ltb-true m n e in lt-ltb (suc m) (suc n) (omega (arith, p)))

first_by : (v : Bool) (x : Cut) (xs : List Cut) (c : Cut) →
    with_cut_at (cond (ltb (cond (not v) (suc (position_or_len (is_with c.tool) xs)) 0) (suc (length xs))) (Some (cond (not v) (suc (position_or_len (is_with c.tool) xs)) 0)) None) (x ∷ xs) c
    ≡ (if v then deeper_cut x c ∷ xs else x ∷ with_cut xs c)
first_by true x xs c =
    ap (λ (b : Bool). with_cut_at (cond b (Some 0) None) (x ∷ xs) c) (lt-ltb 0 (suc (length xs)) (omega arith))
first_by false x xs c =
    let m = position_or_len (is_with c.tool) xs in
    ap (λ (b : Bool). with_cut_at (cond b (Some (suc m)) None) (x ∷ xs) c) (one_less m (length xs)) ∙ at_later (ltb m (length xs)) x xs m c

first_or_later : (v : Bool) (x : Cut) (xs : List Cut) (c : Cut) (n k : ℕ) → n ≡ suc (position_or_len (is_with c.tool) xs) → k ≡ suc (length xs) →
    with_cut_at (cond (ltb (cond (not v) n 0) k) (Some (cond (not v) n 0)) None) (x ∷ xs) c ≡ (if v then deeper_cut x c ∷ xs else x ∷ with_cut xs c)
first_or_later v x xs c n k e f =
    subst (λ (a : ℕ). with_cut_at (cond (ltb (cond (not v) a 0) k) (Some (cond (not v) a 0)) None) (x ∷ xs) c ≡ (if v then deeper_cut x c ∷ xs else x ∷ with_cut xs c)) (sym e)
    (subst (λ (l : ℕ). with_cut_at (cond (ltb (cond (not v) (suc (position_or_len (is_with c.tool) xs)) 0) l) (Some (cond (not v) (suc (position_or_len (is_with c.tool) xs)) 0)) None) (x ∷ xs) c
    ≡ (if v then deeper_cut x c ∷ xs else x ∷ with_cut xs c)) (sym f) (first_by v x xs c))

cut_at_head : (x : Cut) (xs : List Cut) (c : Cut) → with_cut (x ∷ xs) c ≡ (if x.tool == c.tool then deeper_cut x c ∷ xs else x ∷ with_cut xs c)
cut_at_head x xs c = first_or_later (x.tool == c.tool) x xs c (1 + position_or_len (is_with c.tool) xs) (length (x ∷ xs)) (omega arith) (omega arith)

deeper_by : (v : Bool) (x c : Cut) → (v ≡ true → x.depth ≤ c.depth) → (v ≡ false → c.depth ≤ x.depth) →
    (x.depth ≤ (if v then c else x).depth) × (c.depth ≤ (if v then c else x).depth)
deeper_by true x c less more = (less refl, omega arith)
deeper_by false x c less more = (omega arith, more refl)

deeper_most : (x c : Cut) → (x.depth ≤ (deeper_cut x c).depth) × (c.depth ≤ (deeper_cut x c).depth)
deeper_most x c = deeper_by (ltb x.depth c.depth) x c (less_of x.depth c.depth) (more_of x.depth c.depth)

tool_by : (v : Bool) (x c : Cut) → x.tool ≡ c.tool → (if v then c else x).tool ≡ x.tool
tool_by true x c e = sym e
tool_by false x c e = refl

more_by : (v : Bool) (a b r : ℕ) → a ≤ b → (if v then max a r else r) ≤ (if v then max b r else r)
more_by true a b r h = omega (arith, h)
more_by false a b r h = omega arith

head_more : (x y : Cut) (xs : List Cut) (tool : ℕ) → y.tool ≡ x.tool → x.depth ≤ y.depth → depth_for (x ∷ xs) tool ≤ depth_for (y ∷ xs) tool
head_more x y xs tool e h =
    subst (λ (n : ℕ). depth_for (x ∷ xs) tool ≤ (if n == tool then max y.depth (depth_for xs tool) else depth_for xs tool)) (sym e)
    (more_by (x.tool == tool) x.depth y.depth (depth_for xs tool) h)

rest_by : (v : Bool) (a r q : ℕ) → r ≤ q → (if v then max a r else r) ≤ (if v then max a q else q)
rest_by true a r q h = omega (arith, h)
rest_by false a r q h = h

tail_more : (x : Cut) (xs ys : List Cut) (tool : ℕ) → depth_for xs tool ≤ depth_for ys tool → depth_for (x ∷ xs) tool ≤ depth_for (x ∷ ys) tool
tail_more x xs ys tool h = rest_by (x.tool == tool) x.depth (depth_for xs tool) (depth_for ys tool) h

in_tail_by : (v : Bool) (a r : ℕ) → r ≤ (if v then max a r else r)
in_tail_by true a r = omega arith
in_tail_by false a r = omega arith

in_tail : (x : Cut) (xs : List Cut) (tool : ℕ) → depth_for xs tool ≤ depth_for (x ∷ xs) tool
in_tail x xs tool = in_tail_by (x.tool == tool) x.depth (depth_for xs tool)

head_by : (v : Bool) (a r : ℕ) → v ≡ true → a ≤ (if v then max a r else r)
head_by true a r e = omega arith
head_by false a r e = absurd (cc e)

in_head : (x : Cut) (xs : List Cut) (tool : ℕ) → x.tool ≡ tool → x.depth ≤ depth_for (x ∷ xs) tool
in_head x xs tool e = head_by (x.tool == tool) x.depth (depth_for xs tool) (eq-eqb x.tool tool e)

-- one cut more: no tool's cut is less deep, and its own is at least as deep as it
kept_by : (v : Bool) (x : Cut) (xs : List Cut) (c : Cut) (tool : ℕ) → (v ≡ true → x.tool ≡ c.tool) → depth_for xs tool ≤ depth_for (with_cut xs c) tool →
    depth_for (x ∷ xs) tool ≤ depth_for (if v then deeper_cut x c ∷ xs else x ∷ with_cut xs c) tool
kept_by true x xs c tool same rest = head_more x (deeper_cut x c) xs tool (tool_by (ltb x.depth c.depth) x c (same refl)) (deeper_most x c).0
kept_by false x xs c tool same rest = tail_more x xs (with_cut xs c) tool rest

kept_cut : (xs : List Cut) (c : Cut) (tool : ℕ) → depth_for xs tool ≤ depth_for (with_cut xs c) tool
kept_cut [] c tool = omega arith
kept_cut (x ∷ xs) c tool =
    subst (λ (ys : List Cut). depth_for (x ∷ xs) tool ≤ depth_for ys tool) (sym (cut_at_head x xs c))
    (kept_by (x.tool == c.tool) x xs c tool (eqb-true x.tool c.tool) (kept_cut xs c tool))

new_by : (v : Bool) (x : Cut) (xs : List Cut) (c : Cut) → (v ≡ true → x.tool ≡ c.tool) → c.depth ≤ depth_for (with_cut xs c) c.tool →
    c.depth ≤ depth_for (if v then deeper_cut x c ∷ xs else x ∷ with_cut xs c) c.tool
new_by true x xs c same rest =
    let h = in_head (deeper_cut x c) xs c.tool (tool_by (ltb x.depth c.depth) x c (same refl) ∙ same refl) in
    let d = (deeper_most x c).1 in
    omega (arith, h, d)
new_by false x xs c same rest = let h = in_tail x (with_cut xs c) c.tool in omega (arith, h, rest)

new_cut : (xs : List Cut) (c : Cut) → c.depth ≤ depth_for (with_cut xs c) c.tool
new_cut [] c = in_head c [] c.tool refl
new_cut (x ∷ xs) c =
    subst (λ (ys : List Cut). c.depth ≤ depth_for ys c.tool) (sym (cut_at_head x xs c))
    (new_by (x.tool == c.tool) x xs c (eqb-true x.tool c.tool) (new_cut xs c))

kept_depth_by : (v : Bool) (xs : List Cut) (c : Cut) (tool : ℕ) → depth_for xs tool ≤ depth_for (if v then with_cut xs c else xs) tool
kept_depth_by true xs c tool = kept_cut xs c tool
kept_depth_by false xs c tool = omega arith

new_depth_by : (v : Bool) (xs : List Cut) (c : Cut) → (v ≡ false → c.depth ≤ 0) → c.depth ≤ depth_for (if v then with_cut xs c else xs) c.tool
new_depth_by true xs c none = new_cut xs c
new_depth_by false xs c none = let h = none refl in omega (arith, h)

-- ---- a walk

-- after a command no tool's cut is less deep, and its own is at least as deep as the command
next_depth : (s : Stock) (ds : List Cylinder) (tool : Option Tool) (index : ℕ) (c : Command) (heights : List ℕ) (before later : List Cut) (n : ℕ) → IsCutNext s ds tool index c heights before later →
    depth_for before n ≤ depth_for later n
next_depth s ds tool index c heights before later n (d, depth, e) =
    subst (λ (ys : List Cut). depth_for before n ≤ depth_for ys n) (sym e)
    (kept_depth_by (ltb 0 d) before (record { command = index; line = c.line; tool = tool_number tool; depth = d }) n)

own_depth : (s : Stock) (ds : List Cylinder) (tool : Option Tool) (index : ℕ) (c : Command) (heights : List ℕ) (before later : List Cut) (h : IsCutNext s ds tool index c heights before later) →
    h.0 ≤ depth_for later (tool_number tool)
own_depth s ds tool index c heights before later (d, depth, e) =
    subst (λ (ys : List Cut). d ≤ depth_for ys (tool_number tool)) (sym e)
    (new_depth_by (ltb 0 d) before (record { command = index; line = c.line; tool = tool_number tool; depth = d }) (more_of 0 d))

later_depth : (s : Stock) (table : List ToolLimits) (r : Reached) (heights : List ℕ) (index : ℕ) (commands : List Command) (found : List Found) (before cuts : List Cut) (n : ℕ) →
    AreCuts s table r heights index commands found before cuts → depth_for before n ≤ depth_for cuts n
later_depth s table r heights index [] found before cuts n h = subst (λ (ys : List Cut). depth_for before n ≤ depth_for ys n) (sym h.1) (omega arith)
later_depth s table r heights index (c ∷ cs) found before cuts n (next, between, cut, inl h) =
    let p = next_depth s (discs_in table r.tool) r.tool index c heights before between n cut in
    let q = later_depth s table (after r c.action) next (index + 1) cs found between cuts n h.1 in
    omega (arith, p, q)
later_depth s table r heights index (c ∷ cs) found before cuts n (next, between, cut, inr h) =
    let p = next_depth s (discs_in table r.tool) r.tool index c heights before between n cut in
    let q = later_depth s table (after r c.action) next (index + 1) cs h.1 between cuts n h.4 in
    omega (arith, p, q)

-- the first traverse that is reported isn't before the first command
first_index : (s : Stock) (table : List ToolLimits) (r : Reached) (heights : List ℕ) (index : ℕ) (commands : List Command) (f : Found) (fs : List Found) (before cuts : List Cut) →
    AreCuts s table r heights index commands (f ∷ fs) before cuts → index ≤ f.command
first_index s table r heights index [] f fs before cuts h = absurd (cc h.0)
first_index s table r heights index (c ∷ cs) f fs before cuts (next, between, cut, inl h) =
    let p = first_index s table (after r c.action) next (index + 1) cs f fs between cuts h.1 in omega (arith, p)
first_index s table r heights index (c ∷ cs) f fs before cuts (next, between, cut, inr h) =
    let e : f ≡ h.0 = cc h.2 in let p = ap (λ (x : Found). x.command) e in omega (arith, p, h.3.command)

-- a command after some others: its depth is that in what they leave, and its tool's cut is as deep
abbrev pub IsMet : Stock → List ToolLimits → Reached → List ℕ → List Command → Option Tool → Command → List Cut → Type 0
IsMet s table r heights before tool c cuts =
    (last : List ℕ) × (d : ℕ) × AreAfter s table r heights before last × IsDepthOf s (discs_in table tool) tool c.action last d × (d ≤ depth_for cuts (tool_number tool))

further : (s : Stock) (table : List ToolLimits) (r : Reached) (heights next : List ℕ) (b : Command) (before : List Command) (tool : Option Tool) (c : Command) (cuts : List Cut) →
    IsStep s (discs_in table r.tool) r.tool b.action heights next → IsMet s table (after r b.action) next before tool c cuts → IsMet s table r heights (b ∷ before) tool c cuts
further s table r heights next b before tool c cuts step (last, d, walk, depth, most) = (last, d, (next, step, walk), depth, most)

met_first : (s : Stock) (table : List ToolLimits) (r : Reached) (heights next : List ℕ) (index : ℕ) (c : Command) (later : List Command) (rest : List Found) (early between cuts : List Cut) →
    IsCutNext s (discs_in table r.tool) r.tool index c heights early between → AreCuts s table (after r c.action) next (index + 1) later rest between cuts → IsMet s table r heights [] r.tool c cuts
met_first s table r heights next index c later rest early between cuts cut h =
    let p = own_depth s (discs_in table r.tool) r.tool index c heights early between cut in
    let q = later_depth s table (after r c.action) next (index + 1) later rest between cuts (tool_number r.tool) h in
    (heights, cut.0, refl, cut.1, omega (arith, p, q))

met : (s : Stock) (table : List ToolLimits) (before later : List Command) (c : Command) (r : Reached) (heights : List ℕ) (index : ℕ) (found : List Found) (early cuts : List Cut) →
    AreCuts s table r heights index (before ++ c ∷ later) found early cuts → IsMet s table r heights (with_feeds index before found) (after_all r before).tool c cuts
met s table [] later c r heights index found early cuts (next, between, cut, inl h) = met_first s table r heights next index c later found early between cuts cut h.1
met s table [] later c r heights index found early cuts (next, between, cut, inr h) = met_first s table r heights next index c later h.1 early between cuts cut h.4
met s table (b ∷ before) later c r heights index [] early cuts (next, between, cut, inl h) =
    further s table r heights next b (with_feeds (index + 1) before []) (after_all (after r b.action) before).tool c cuts h.0
    (met s table before later c (after r b.action) next (index + 1) [] between cuts h.1)
met s table (b ∷ before) later c r heights index [] early cuts (next, between, cut, inr h) = absurd (cc h.2)
met s table (b ∷ before) later c r heights index (f ∷ fs) early cuts (next, between, cut, inl h) =
    let e = not_yet f.command index (first_index s table (after r b.action) next (index + 1) (before ++ c ∷ later) f fs between cuts h.1) in
    subst (λ (v : Bool). IsMet s table r heights (if v then record b { action = as_feed b.action } ∷ with_feeds (index + 1) before fs else b ∷ with_feeds (index + 1) before (f ∷ fs))
    (after_all (after r b.action) before).tool c cuts) (sym e)
    (further s table r heights next b (with_feeds (index + 1) before (f ∷ fs)) (after_all (after r b.action) before).tool c cuts h.0
    (met s table before later c (after r b.action) next (index + 1) (f ∷ fs) between cuts h.1))
met s table (b ∷ before) later c r heights index (f ∷ fs) early cuts (next, between, cut, inr h) =
    let same : f ≡ h.0 = cc h.2 in
    let tail : fs ≡ h.1 = cc h.2 in
    let e = eq-eqb f.command index (ap (λ (x : Found). x.command) same ∙ h.3.command) in
    let rest = subst (λ (xs : List Found). AreCuts s table (after r b.action) next (index + 1) (before ++ c ∷ later) xs between cuts) (sym tail) h.4 in
    let on = met s table before later c (after r b.action) next (index + 1) fs between cuts rest in
    let fed : Command = record b { action = as_feed b.action } in
    subst (λ (v : Bool). IsMet s table r heights (if v then record b { action = as_feed b.action } ∷ with_feeds (index + 1) before fs else b ∷ with_feeds (index + 1) before (f ∷ fs))
    (after_all (after r b.action) before).tool c cuts) (sym e)
    (further s table r heights next fed (with_feeds (index + 1) before fs) (after_all (after r b.action) before).tool c cuts
    (fed_step s (discs_in table r.tool) r.tool b.action heights next h.0.part h.0.touch h.3.touch)
    (subst (λ (x : Reached). IsMet s table x next (with_feeds (index + 1) before fs) (after_all (after r b.action) before).tool c cuts) (sym (fed_after r b.action)) on))

-- ---- a greater depth says less

shallow_way : (s : Stock) (Left : Point3 → Type 0) (ds : List Cylinder) (t : Tool) (way : Way) (pace : Pace) (d e : ℕ) → d ≤ e → IsShallowOn s Left ds t way pace d → IsShallowOn s Left ds t way pace e
shallow_way s Left ds t (Line a b) Rapid d e h shallow = tt
shallow_way s Left ds t (Line a b) (Feed f) d e h shallow = all_higher s Left a b (lower_tip (lowest_part t) a b) d e ds h shallow
shallow_way s Left ds t (Arc arc) pace d e h shallow = tt

shallow_more : (s : Stock) (Left : Point3 → Type 0) (ds : List Cylinder) (tool : Option Tool) (action : Action) (d e : ℕ) → d ≤ e → IsShallow s Left ds tool action d → IsShallow s Left ds tool action e
shallow_more s Left ds None action d e h shallow = tt
shallow_more s Left ds (Some t) (Move m) d e h shallow = shallow_way s Left ds t m.way m.pace d e h shallow
shallow_more s Left ds (Some t) (Mount x) d e h shallow = tt
shallow_more s Left ds (Some t) (Dwell x) d e h shallow = tt
shallow_more s Left ds (Some t) (Spindle x) d e h shallow = tt
shallow_more s Left ds (Some t) (Coolant x) d e h shallow = tt
shallow_more s Left ds (Some t) (Override x) d e h shallow = tt
shallow_more s Left ds (Some t) Stop d e h shallow = tt
shallow_more s Left ds (Some t) OptionalStop d e h shallow = tt
shallow_more s Left ds (Some t) End d e h shallow = tt

met_shallow : (s : Stock) (table : List ToolLimits) (r : Reached) (before : List Command) (c : Command) (cuts : List Cut) (tool : Option Tool) → IsGrid s.grid → tool ≡ (after_all r before).tool →
    IsMet s table r (uncut s) before tool c cuts → IsShallow s (IsLeft s table r before) (discs_in table tool) tool c.action (depth_for cuts (tool_number tool))
met_shallow s table r before c cuts tool grid e (last, d, walk, depth, most) =
    let own = subst (λ (x : Option Tool). IsDepthOf s (discs_in table x) x c.action last d) e depth in
    let shallow = cut_depth s table r before c last d grid walk own in
    shallow_more s (IsLeft s table r before) (discs_in table tool) tool c.action d (depth_for cuts (tool_number tool)) most
    (subst (λ (x : Option Tool). IsShallow s (IsLeft s table r before) (discs_in table x) x c.action d) (sym e) shallow)

pub deepest_cuts : DeepestCuts
deepest_cuts s table r found cuts before later c grid h =
    met_shallow s table r (with_feeds 0 before found) c cuts (after_all r before).tool grid (sym (ap (λ (x : Reached). x.tool) (tool_after before r 0 found)))
    (met s table before later c r (uncut s) 0 found [] cuts h)

-- ---- the loop

one_cut_more : (s : Stock) (table : List ToolLimits) (r : Reached) (old new : List ℕ) (index : ℕ) (c : Command) (cs : List Command) (before later rest : List Found) (early between cuts : List Cut) →
    IsFollowed s (discs_in table r.tool) r.tool index c old new before later → IsCutNext s (discs_in table r.tool) r.tool index c old early between → AreCuts s table (after r c.action) new (index + 1) cs rest between cuts →
    (more : List Found) × (before ++ more ≡ later ++ rest) × AreCuts s table r old index (c ∷ cs) more early cuts
one_cut_more s table r old new index c cs before later rest early between cuts (inl h) cut found =
    (rest, ap (λ (xs : List Found). xs ++ rest) (sym h.1), (new, between, cut, inl (h.0, found)))
one_cut_more s table r old new index c cs before later rest early between cuts (inr h) cut found =
    (h.0 ∷ rest, sym (ap (λ (xs : List Found). xs ++ rest) h.1 ∙ append_assoc before (h.0 ∷ []) rest), (new, between, cut, inr (h.0, rest, refl, h.2, found)))

cuts_from : (s : Stock) (table : List ToolLimits) (first r : Reached) (all left : List Command) (old : List ℕ) (index : ℕ) (found joined : List Found) (early cuts : List Cut) →
    ((rest : List Found) (last : List Cut) → AreCuts s table r old index left rest early last → AreCuts s table first (uncut s) 0 all (found ++ rest) [] last) →
    ((more : List Found) × (found ++ more ≡ joined) × AreCuts s table r old index left more early cuts) → AreCuts s table first (uncut s) 0 all joined [] cuts
cuts_from s table first r all left old index found joined early cuts kept (more, e, h) =
    subst (λ (xs : List Found). AreCuts s table first (uncut s) 0 all xs [] cuts) e (kept more cuts h)

-- the cuts with the remaining commands, after one command more
pub kept_cuts : (s : Stock) (table : List ToolLimits) (first r next : Reached) (all left later : List Command) (c : Command) (old new : List ℕ) (found more : List Found) (early between : List Cut) →
    left ≡ c ∷ later → length left ≤ length all → next ≡ after r c.action → IsFollowed s (discs_in table r.tool) r.tool (length all - length left) c old new found more →
    IsCutNext s (discs_in table r.tool) r.tool (length all - length left) c old early between →
    ((rest : List Found) (last : List Cut) → AreCuts s table r old (length all - length left) left rest early last → AreCuts s table first (uncut s) 0 all (found ++ rest) [] last) →
    (rest : List Found) (last : List Cut) → AreCuts s table next new (length all - length later) later rest between last → AreCuts s table first (uncut s) 0 all (more ++ rest) [] last
kept_cuts s table first r next all left later c old new found more early between e few n followed cut kept rest last h =
    let size : length left ≡ length later + 1 = ap (λ (l : List Command). length l) e ∙ omega arith in
    let at : length all - length later ≡ (length all - length left) + 1 = omega (arith, size, few) in
    let i = subst (λ (x : Reached). AreCuts s table x new (length all - length later) later rest between last) n h in
    let j = subst (λ (k : ℕ). AreCuts s table (after r c.action) new k later rest between last) at i in
    cuts_from s table first r all left old (length all - length left) found (more ++ rest) early last kept
    (subst (λ (l : List Command). (xs : List Found) × (found ++ xs ≡ more ++ rest) × AreCuts s table r old (length all - length left) l xs early last) (sym e)
    (one_cut_more s table r old new (length all - length left) c later found more rest early between last followed cut j))

-- the cuts once no commands remain
pub all_cuts : (s : Stock) (table : List ToolLimits) (first r : Reached) (all left : List Command) (heights : List ℕ) (index : ℕ) (found : List Found) (cuts : List Cut) → length left ≡ 0 →
    ((rest : List Found) (last : List Cut) → AreCuts s table r heights index left rest cuts last → AreCuts s table first (uncut s) 0 all (found ++ rest) [] last) →
    AreCuts s table first (uncut s) 0 all found [] cuts
all_cuts s table first r all left heights index found cuts e kept =
    subst (λ (xs : List Found). AreCuts s table first (uncut s) 0 all xs [] cuts) (append-nil found)
    (kept [] cuts (subst (λ (l : List Command). AreCuts s table r heights index l [] cuts cuts) (sym (no_commands left e)) (refl, refl)))
