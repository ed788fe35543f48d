-- What a walk reports, command by command, and what that means.
use Rattle.std.proofs.Common.{◌≡◌, ℕ, ◌+◌, ◌≤◌, inl, inr, sym, subst, refl, ap, ◌∙◌, append_assoc, append-nil, arith, List, [], ◌∷◌, ◌++◌, Option, Some, None, Bool, true, false, ◌&&◌, eq-eqb, length, ◌-◌}
use Rattle.std.specs.Prelude.{◌==◌, ◌⊎◌, if◌then◌else◌}
use Rattle.ngc_file_figures.specs.declared.limits.ToolLimits.{ToolLimits}
use Rattle.ngc_machine_files.specs.declared.tools.Tool.{Tool}
use Rattle.ngc_commands.specs.declared.command.Action.{Action}
use Rattle.ngc_commands.specs.declared.command.Action.TheVariants.{Move, Mount, Dwell, Spindle, Coolant, Override, Stop, OptionalStop, End}
use Rattle.ngc_commands.specs.declared.command.Command.{Command}
use Rattle.ngc_commands.specs.declared.movement.Way.{Way}
use Rattle.ngc_commands.specs.declared.movement.Way.TheVariants.{Line, Arc}
use Rattle.ngc_commands.specs.declared.movement.Feed.TheVariants.{PerMinute}
use Rattle.ngc_commands.specs.declared.movement.Pace.{Pace}
use Rattle.ngc_commands.specs.declared.movement.Pace.TheVariants.{Rapid, Feed}
use Rattle.ngc_commands.specs.declared.reached.Reached.{Reached}
use Rattle.ngc_commands.specs.Reached.{after, after_all}
use Rattle.ngc_cells.specs.Grids.{IsGrid}
use Rattle.ngc_fixed_length.specs.declared.points.Point3.{Point3}
use Rattle.ngc_stock.specs.declared.cylinder.Cylinder.{Cylinder}
use Rattle.ngc_stock.specs.declared.stock.Stock.{Stock}
use Rattle.ngc_stock.specs.Discs.{discs_in}
use Rattle.ngc_stock.specs.Feeds.{IsFeedClear, AreAfter, IsSafeFeedOn, IsSafeFeed}
use Rattle.ngc_stock.specs.Walk.{IsMotion, IsStep, IsSilent, IsLeft, uncut}
use Rattle.ngc_stock.proofs.ClearFeeds.{clear_feed}
use Rattle.ngc_stock.proofs.Silences.{silence}
use Rattle.ngc_material.specs.Heights.{is_action_reached, are_reached}
use Rattle.ngc_material.specs.Walks.{IsTouchedOn, IsTouched, IsFollowed, IsTested, IsNextFeed, AreFound, as_feed, with_feeds}
use Rattle.ngc_material.specs.Silences.{ClearFeeds, Nothing, Unreported}
use Rattle.ngc_material.specs.declared.touch.Touch.{Touch}
use Rattle.ngc_material.specs.declared.walk.Found.{Found}

-- ---- one command more

-- one tested feed more
next_feed : (s : Stock) (tool : Option Tool) (index : ℕ) (c : Command) (heights : List ℕ) (before later others : List Found) →
    IsTested s tool index c heights before later → (feeds : List Found) × (before ++ feeds ≡ later ++ others) × IsNextFeed s tool index c heights feeds others
next_feed s tool index c heights before later others (inl h) = (others, ap (λ (xs : List Found). xs ++ others) (sym h.1), inl (h.0, refl))
next_feed s tool index c heights before later others (inr h) =
    (h.0 ∷ others, sym (ap (λ (xs : List Found). xs ++ others) h.1 ∙ append_assoc before (h.0 ∷ []) others), inr (h.0, refl, h.2))

pub one_more : (s : Stock) (table : List ToolLimits) (r : Reached) (old new : List ℕ) (index : ℕ) (c : Command) (cs : List Command) (before later rest feeds others : List Found) →
    IsFollowed s (discs_in table r.tool) r.tool index c old new before later → IsNextFeed s r.tool index c new feeds others → AreFound s table (after r c.action) new (index + 1) cs rest others →
    (more : List Found) × (before ++ more ≡ later ++ rest) × AreFound s table r old index (c ∷ cs) more feeds
one_more s table r old new index c cs before later rest feeds others (inl h) next found =
    (rest, ap (λ (xs : List Found). xs ++ rest) (sym h.1), (new, others, next, inl (h.0, found)))
one_more s table r old new index c cs before later rest feeds others (inr h) next found =
    (h.0 ∷ rest, sym (ap (λ (xs : List Found). xs ++ rest) h.1 ∙ append_assoc before (h.0 ∷ []) rest), (new, others, next, inr (h.0, rest, refl, h.2, found)))

-- what is found with the remaining commands, after one command more
kept_from : (s : Stock) (table : List ToolLimits) (first r : Reached) (all left : List Command) (old : List ℕ) (index : ℕ) (found joined tested both feeds : List Found) →
    ((rest others : List Found) → AreFound s table r old index left rest others → AreFound s table first (uncut s) 0 all (found ++ rest) (tested ++ others)) →
    tested ++ feeds ≡ both → ((more : List Found) × (found ++ more ≡ joined) × AreFound s table r old index left more feeds) →
    AreFound s table first (uncut s) 0 all joined both
kept_from s table first r all left old index found joined tested both feeds kept same (more, e, h) =
    subst (λ (ys : List Found). AreFound s table first (uncut s) 0 all joined ys) same
    (subst (λ (xs : List Found). AreFound s table first (uncut s) 0 all xs (tested ++ feeds)) e (kept more feeds h))

pub kept_found : (s : Stock) (table : List ToolLimits) (first r next : Reached) (all left later : List Command) (c : Command) (old new : List ℕ) (found more tested longer : List Found) →
    left ≡ c ∷ later → length left ≤ length all → next ≡ after r c.action → IsFollowed s (discs_in table r.tool) r.tool (length all - length left) c old new found more →
    IsTested s r.tool (length all - length left) c new tested longer →
    ((rest others : List Found) → AreFound s table r old (length all - length left) left rest others → AreFound s table first (uncut s) 0 all (found ++ rest) (tested ++ others)) →
    (rest others : List Found) → AreFound s table next new (length all - length later) later rest others → AreFound s table first (uncut s) 0 all (more ++ rest) (longer ++ others)
kept_found s table first r next all left later c old new found more tested longer e few n followed is_tested kept rest others h =
    let size : length left ≡ length later + 1 = ap (λ (l : List Command). length l) e ∙ omega arith in
    let at : length all - length later ≡ (length all - length left) + 1 = omega (arith, size, few) in
    let i = subst (λ (x : Reached). AreFound s table x new (length all - length later) later rest others) n h in
    let j = subst (λ (k : ℕ). AreFound s table (after r c.action) new k later rest others) at i in
    let feed = next_feed s r.tool (length all - length left) c new tested longer others is_tested in
    kept_from s table first r all left old (length all - length left) found (more ++ rest) tested (longer ++ others) feed.0 kept feed.1
    (subst (λ (l : List Command). (xs : List Found) × (found ++ xs ≡ more ++ rest) × AreFound s table r old (length all - length left) l xs feed.0) (sym e)
    (one_more s table r old new (length all - length left) c later found more rest feed.0 others followed feed.2 j))

pub no_commands : (left : List Command) → length left ≡ 0 → left ≡ []
no_commands [] e = refl
no_commands (c ∷ cs) e = absurd (omega (arith, e))

-- what is found once no commands remain
pub all_found : (s : Stock) (table : List ToolLimits) (first r : Reached) (all left : List Command) (heights : List ℕ) (index : ℕ) (found feeds : List Found) → length left ≡ 0 →
    ((rest others : List Found) → AreFound s table r heights index left rest others → AreFound s table first (uncut s) 0 all (found ++ rest) (feeds ++ others)) →
    AreFound s table first (uncut s) 0 all found feeds
all_found s table first r all left heights index found feeds e kept =
    subst (λ (ys : List Found). AreFound s table first (uncut s) 0 all found ys) (append-nil feeds)
    (subst (λ (xs : List Found). AreFound s table first (uncut s) 0 all xs (feeds ++ [])) (append-nil found)
    (kept [] [] (subst (λ (l : List Command). AreFound s table r heights index l [] []) (sym (no_commands left e)) (refl, refl))))

second : (a b : Bool) → (a && b) ≡ true → b ≡ true
second true b e = e
second false b e = absurd (cc)

pub later_reached : (left later : List Command) (c : Command) → left ≡ c ∷ later → are_reached left ≡ true → are_reached later ≡ true
later_reached left later c e h = second (is_action_reached c.action) (are_reached later) (sym (ap are_reached e) ∙ h)

-- ---- reported traverses as feeds

fed_on : (s : Stock) (ds : List Cylinder) (t : Tool) (way : Way) (pace : Pace) (old new : List ℕ) (part : ℕ) (touch : Touch) → IsTouchedOn s ds t way pace old new part touch → IsMotion s ds t way (Feed (PerMinute 0)) old new
fed_on s ds t (Line a b) Rapid old new part touch h = h.1
fed_on s ds t (Line a b) (Feed f) old new part touch h = absurd h
fed_on s ds t (Arc arc) Rapid old new part touch h = absurd h
fed_on s ds t (Arc arc) (Feed f) old new part touch h = absurd h

pub fed_step : (s : Stock) (ds : List Cylinder) (tool : Option Tool) (action : Action) (old new : List ℕ) (part : ℕ) (touch : Touch) → IsTouched s ds tool action old new part touch → IsStep s ds tool (as_feed action) old new
fed_step s ds None action old new part touch h = absurd h
fed_step s ds (Some t) (Move m) old new part touch h = fed_on s ds t m.way m.pace old new part touch h
fed_step s ds (Some t) (Mount x) old new part touch h = absurd h
fed_step s ds (Some t) (Dwell x) old new part touch h = absurd h
fed_step s ds (Some t) (Spindle x) old new part touch h = absurd h
fed_step s ds (Some t) (Coolant x) old new part touch h = absurd h
fed_step s ds (Some t) (Override x) old new part touch h = absurd h
fed_step s ds (Some t) Stop old new part touch h = absurd h
fed_step s ds (Some t) OptionalStop old new part touch h = absurd h
fed_step s ds (Some t) End old new part touch h = absurd h

pub fed_after : (r : Reached) (action : Action) → after r (as_feed action) ≡ after r action
fed_after r (Move m) = refl
fed_after r (Mount x) = refl
fed_after r (Dwell x) = refl
fed_after r (Spindle x) = refl
fed_after r (Coolant x) = refl
fed_after r (Override x) = refl
fed_after r Stop = refl
fed_after r OptionalStop = refl
fed_after r End = refl

-- the first that is reported isn't before the first command
first_index : (s : Stock) (table : List ToolLimits) (r : Reached) (heights : List ℕ) (index : ℕ) (commands : List Command) (f : Found) (fs feeds : List Found) →
    AreFound s table r heights index commands (f ∷ fs) feeds → index ≤ f.command
first_index s table r heights index [] f fs feeds h = absurd (cc h.0)
first_index s table r heights index (c ∷ cs) f fs feeds (next, others, feed, inl h) = let p = first_index s table (after r c.action) next (index + 1) cs f fs others h.1 in omega (arith, p)
first_index s table r heights index (c ∷ cs) f fs feeds (next, others, feed, inr h) = let e : f ≡ h.0 = cc h.2 in let p = ap (λ (x : Found). x.command) e in omega (arith, p, h.3.command)

pub not_yet : (m n : ℕ) → n + 1 ≤ m → (m == n) ≡ false
not_yet m n h = grind arith

pub fed_silent : (s : Stock) (table : List ToolLimits) (r : Reached) (heights : List ℕ) (index : ℕ) (commands : List Command) (found feeds : List Found) →
    AreFound s table r heights index commands found feeds → IsSilent s table r heights (with_feeds index commands found)
fed_silent s table r heights index [] found feeds h = tt
fed_silent s table r heights index (c ∷ cs) [] feeds (next, others, feed, inl h) = (next, h.0, fed_silent s table (after r c.action) next (index + 1) cs [] others h.1)
fed_silent s table r heights index (c ∷ cs) [] feeds (next, others, feed, inr h) = absurd (cc h.2)
fed_silent s table r heights index (c ∷ cs) (f ∷ fs) feeds (next, others, feed, inl h) =
    let e = not_yet f.command index (first_index s table (after r c.action) next (index + 1) cs f fs others h.1) in
    subst (λ (v : Bool). IsSilent s table r heights (if v then record c { action = as_feed c.action } ∷ with_feeds (index + 1) cs fs else c ∷ with_feeds (index + 1) cs (f ∷ fs))) (sym e)
    (next, h.0, fed_silent s table (after r c.action) next (index + 1) cs (f ∷ fs) others h.1)
fed_silent s table r heights index (c ∷ cs) (f ∷ fs) feeds (next, others, feed, inr h) =
    let same : f ≡ h.0 = cc h.2 in
    let rest : fs ≡ h.1 = cc h.2 in
    let e = eq-eqb f.command index (ap (λ (x : Found). x.command) same ∙ h.3.command) in
    let later = subst (λ (xs : List Found). AreFound s table (after r c.action) next (index + 1) cs xs others) (sym rest) h.4 in
    subst (λ (v : Bool). IsSilent s table r heights (if v then record c { action = as_feed c.action } ∷ with_feeds (index + 1) cs fs else c ∷ with_feeds (index + 1) cs (f ∷ fs))) (sym e) (
      next,
      fed_step s (discs_in table r.tool) r.tool c.action heights next h.0.part h.0.touch h.3.touch,
      subst (λ (x : Reached). IsSilent s table x next (with_feeds (index + 1) cs fs)) (sym (fed_after r c.action)) (fed_silent s table (after r c.action) next (index + 1) cs fs others later),
    )

none_silent : (s : Stock) (table : List ToolLimits) (r : Reached) (heights : List ℕ) (index : ℕ) (commands : List Command) (feeds : List Found) →
    AreFound s table r heights index commands [] feeds → IsSilent s table r heights commands
none_silent s table r heights index [] feeds h = tt
none_silent s table r heights index (c ∷ cs) feeds (next, others, feed, inl h) = (next, h.0, none_silent s table (after r c.action) next (index + 1) cs others h.1)
none_silent s table r heights index (c ∷ cs) feeds (next, others, feed, inr h) = absurd (cc h.2)

pub nothing : Nothing
nothing s table r commands feeds h = none_silent s table r (uncut s) 0 commands feeds h

pub unreported : Unreported
unreported s table r commands found feeds before later c grid h e =
    silence s table r before later c grid (subst (λ (cs : List Command). IsSilent s table r (uncut s) cs) e (fed_silent s table r (uncut s) 0 commands found feeds h))

-- ---- feeds

-- a traverse that is reported is no feed
touched_way : (s : Stock) (ds : List Cylinder) (t : Tool) (way : Way) (pace : Pace) (old new : List ℕ) (part : ℕ) (touch : Touch) (Left : Point3 → Type 0) →
    IsTouchedOn s ds t way pace old new part touch → IsSafeFeedOn s Left t way pace
touched_way s ds t (Line a b) Rapid old new part touch Left h = tt
touched_way s ds t (Line a b) (Feed f) old new part touch Left h = absurd h
touched_way s ds t (Arc arc) Rapid old new part touch Left h = absurd h
touched_way s ds t (Arc arc) (Feed f) old new part touch Left h = absurd h

touched_feed : (s : Stock) (ds : List Cylinder) (tool : Option Tool) (action : Action) (old new : List ℕ) (part : ℕ) (touch : Touch) (Left : Point3 → Type 0) →
    IsTouched s ds tool action old new part touch → IsSafeFeed s Left tool action
touched_feed s ds None action old new part touch Left h = absurd h
touched_feed s ds (Some t) (Move m) old new part touch Left h = touched_way s ds t m.way m.pace old new part touch Left h
touched_feed s ds (Some t) (Mount x) old new part touch Left h = tt
touched_feed s ds (Some t) (Dwell x) old new part touch Left h = tt
touched_feed s ds (Some t) (Spindle x) old new part touch Left h = tt
touched_feed s ds (Some t) (Coolant x) old new part touch Left h = tt
touched_feed s ds (Some t) (Override x) old new part touch Left h = tt
touched_feed s ds (Some t) Stop old new part touch Left h = tt
touched_feed s ds (Some t) OptionalStop old new part touch Left h = tt
touched_feed s ds (Some t) End old new part touch Left h = tt

-- a command after some others is clear in what it leaves, or it is a reported traverse
abbrev pub IsReached : Stock → List ToolLimits → Reached → List ℕ → List Command → Option Tool → Command → Type 0
IsReached s table r heights before tool c =
    ((last : List ℕ) × AreAfter s table r heights (before ++ c ∷ []) last × IsFeedClear s tool c.action last)
    ⊎ ((old : List ℕ) × (new : List ℕ) × (part : ℕ) × (touch : Touch) × IsTouched s (discs_in table tool) tool c.action old new part touch)

clear_of : (s : Stock) (tool : Option Tool) (index : ℕ) (c : Command) (heights : List ℕ) (others : List Found) →
    IsNextFeed s tool index c heights [] others → IsFeedClear s tool c.action heights × (others ≡ [])
clear_of s tool index c heights others (inl h) = (h.0, sym h.1)
clear_of s tool index c heights others (inr h) = absurd (cc h.1)

further : (s : Stock) (table : List ToolLimits) (r : Reached) (heights next : List ℕ) (b : Command) (before : List Command) (tool : Option Tool) (c : Command) →
    IsStep s (discs_in table r.tool) r.tool b.action heights next → IsReached s table (after r b.action) next before tool c → IsReached s table r heights (b ∷ before) tool c
further s table r heights next b before tool c step (inl h) = inl (h.0, (next, step, h.1), h.2)
further s table r heights next b before tool c step (inr h) = inr h

reached : (s : Stock) (table : List ToolLimits) (before later : List Command) (c : Command) (r : Reached) (heights : List ℕ) (index : ℕ) (found : List Found) →
    AreFound s table r heights index (before ++ c ∷ later) found [] → IsReached s table r heights (with_feeds index before found) (after_all r before).tool c
reached s table [] later c r heights index found (next, others, feed, inl h) =
    inl (next, (next, h.0, refl), (clear_of s r.tool index c next others feed).0)
reached s table [] later c r heights index found (next, others, feed, inr h) = inr (heights, next, h.0.part, h.0.touch, h.3.touch)
reached s table (b ∷ before) later c r heights index [] (next, others, feed, inl h) =
    let none = (clear_of s r.tool index b next others feed).1 in
    let rest = subst (λ (xs : List Found). AreFound s table (after r b.action) next (index + 1) (before ++ c ∷ later) [] xs) none h.1 in
    further s table r heights next b (with_feeds (index + 1) before []) (after_all (after r b.action) before).tool c h.0
    (reached s table before later c (after r b.action) next (index + 1) [] rest)
reached s table (b ∷ before) later c r heights index [] (next, others, feed, inr h) = absurd (cc h.2)
reached s table (b ∷ before) later c r heights index (f ∷ fs) (next, others, feed, inl h) =
    let none = (clear_of s r.tool index b next others feed).1 in
    let rest = subst (λ (xs : List Found). AreFound s table (after r b.action) next (index + 1) (before ++ c ∷ later) (f ∷ fs) xs) none h.1 in
    let e = not_yet f.command index (first_index s table (after r b.action) next (index + 1) (before ++ c ∷ later) f fs [] rest) in
    subst (λ (v : Bool). IsReached s table r heights (if v then record b { action = as_feed b.action } ∷ with_feeds (index + 1) before fs else b ∷ with_feeds (index + 1) before (f ∷ fs))
    (after_all (after r b.action) before).tool c) (sym e)
    (further s table r heights next b (with_feeds (index + 1) before (f ∷ fs)) (after_all (after r b.action) before).tool c h.0
    (reached s table before later c (after r b.action) next (index + 1) (f ∷ fs) rest))
reached s table (b ∷ before) later c r heights index (f ∷ fs) (next, others, feed, inr h) =
    let none = (clear_of s r.tool index b next others feed).1 in
    let same : f ≡ h.0 = cc h.2 in
    let tail : fs ≡ h.1 = cc h.2 in
    let e = eq-eqb f.command index (ap (λ (x : Found). x.command) same ∙ h.3.command) in
    let rest = subst (λ (xs : List Found). AreFound s table (after r b.action) next (index + 1) (before ++ c ∷ later) xs []) (sym tail)
    (subst (λ (xs : List Found). AreFound s table (after r b.action) next (index + 1) (before ++ c ∷ later) h.1 xs) none h.4) in
    let on = reached s table before later c (after r b.action) next (index + 1) fs rest in
    let fed : Command = record b { action = as_feed b.action } in
    subst (λ (v : Bool). IsReached s table r heights (if v then record b { action = as_feed b.action } ∷ with_feeds (index + 1) before fs else b ∷ with_feeds (index + 1) before (f ∷ fs))
    (after_all (after r b.action) before).tool c) (sym e)
    (further s table r heights next fed (with_feeds (index + 1) before fs) (after_all (after r b.action) before).tool c
    (fed_step s (discs_in table r.tool) r.tool b.action heights next h.0.part h.0.touch h.3.touch)
    (subst (λ (x : Reached). IsReached s table x next (with_feeds (index + 1) before fs) (after_all (after r b.action) before).tool c) (sym (fed_after r b.action)) on))

-- the tool at a command is the same after reported traverses as feeds
tool_after_by : (v : Bool) (b : Command) (before : List Command) (r : Reached) (index : ℕ) (f : Found) (fs : List Found) →
    ((x : Reached) → after_all x (with_feeds index before fs) ≡ after_all x before) →
    ((x : Reached) → after_all x (with_feeds index before (f ∷ fs)) ≡ after_all x before) →
    after_all r (if v then record b { action = as_feed b.action } ∷ with_feeds index before fs else b ∷ with_feeds index before (f ∷ fs)) ≡ after_all (after r b.action) before
tool_after_by true b before r index f fs rest all = ap (λ (x : Reached). after_all x (with_feeds index before fs)) (fed_after r b.action) ∙ rest (after r b.action)
tool_after_by false b before r index f fs rest all = all (after r b.action)

pub tool_after : (before : List Command) (r : Reached) (index : ℕ) (found : List Found) → after_all r (with_feeds index before found) ≡ after_all r before
tool_after [] r index found = refl
tool_after (b ∷ before) r index [] = tool_after before (after r b.action) (index + 1) []
tool_after (b ∷ before) r index (f ∷ fs) =
    tool_after_by (f.command == index) b before r (index + 1) f fs
    (λ x. tool_after before x (index + 1) fs) (λ x. tool_after before x (index + 1) (f ∷ fs))

reached_safe : (s : Stock) (table : List ToolLimits) (r : Reached) (before : List Command) (c : Command) (tool : Option Tool) → IsGrid s.grid → tool ≡ (after_all r before).tool →
    IsReached s table r (uncut s) before tool c → IsSafeFeed s (IsLeft s table r (before ++ c ∷ [])) tool c.action
reached_safe s table r before c tool grid e (inl h) =
    subst (λ (x : Option Tool). IsSafeFeed s (IsLeft s table r (before ++ c ∷ [])) x c.action) (sym e)
    (clear_feed s table r before c h.0 grid h.1 (subst (λ (x : Option Tool). IsFeedClear s x c.action h.0) e h.2))
reached_safe s table r before c tool grid e (inr h) = touched_feed s (discs_in table tool) tool c.action h.0 h.1 h.2 h.3 (IsLeft s table r (before ++ c ∷ [])) h.4

pub clear_feeds : ClearFeeds
clear_feeds s table r found before later c grid h =
    reached_safe s table r (with_feeds 0 before found) c (after_all r before).tool grid (sym (ap (λ (x : Reached). x.tool) (tool_after before r 0 found)))
    (reached s table before later c r (uncut s) 0 found h)
