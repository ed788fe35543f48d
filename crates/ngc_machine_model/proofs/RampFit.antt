-- A tick of a ramp whose legs are the ring's motions, as a tick of the machine.
use Rattle.std.proofs.Common.{◌≡◌, ◌⊎◌, inl, inr, ℕ, suc, ◌+◌, ◌-◌, ◌*◌, ◌<◌, ◌≤◌, ◌==◌, min, ap, subst, sym, ◌∙◌, arith, refl, List, [], ◌∷◌, ◌++◌, length}
use Rattle.std.proofs.Common.{Bool, true, false, cond, None}
use Rattle.std.specs.Prelude.{nat_lt, not, ◌&&◌}
use Rattle.std.proofs.lemmas.Bool.{lt-ltb, le-ltb, true≢false, false≢true}
use Rattle.std.proofs.lemmas.Bool.Decides.{nat_tests}
use Rattle.std.proofs.lemmas.List.{append-nil}
use Rattle.std.specs.List.{All}
use Rattle.std.proofs.lemmas.List.Elements.{All-nil, All-cons}
use Rattle.std.proofs.Math.Nat.{le_of_mul-le-mul_left}
use Rattle.ngc_fixed_length.specs.LinePath.{point}
use Rattle.ngc_machine_files.specs.MachineRanges.{IsMachine}
use Rattle.ngc_braking.specs.declared.leg.Leg.{Leg}
use Rattle.ngc_braking.specs.Braking.{braking}
use Rattle.ngc_braking.specs.Leg.{tick_bound}
use Rattle.ngc_braking.specs.Work.{work, can_brake, work_ahead}
use Rattle.ngc_braking.specs.OneChange.{HasChange, IsLong}
use Rattle.ngc_braking.specs.Reach.{ahead, reach as ramp_reach}
use Rattle.ngc_braking.proofs.OneChangeLaws.{brakes_where_free, same_work_ahead}
use Rattle.ngc_planner.specs.ArcFeed.{target_on}
use Rattle.ngc_fixed_length.specs.Limits.{MILLION}
use Rattle.ngc_planner.specs.Bounds.{IsWithinBounds, IsMotion, bound_of, least_travel}
use Rattle.ngc_planner.specs.Joints.{joint_before}
use Rattle.ngc_planner.specs.Ramp.{RampState, MayTick, pace as ramp_pace, PassesInto as GoesOnLeg}
use Rattle.ngc_planner.proofs.ArcFeedLaws.{no_less_by_place}
use Rattle.ngc_planner.proofs.BoundLaws.{greatest_bound, may_travel_least}
use Rattle.ngc_planner.proofs.ComponentLaws.{one_change}
use Rattle.ngc_planner.proofs.RampLaws.{tick_bound_greatest}
use Rattle.ngc_machine_model.specs.State.{Job, Queued, State, path_steps, millionths, change_of, place_before, effective}
use Rattle.ngc_machine_model.specs.Reach.{stops, continues_into, leg_of, legs_after, rest, can_brake as can_brake_on}
use Rattle.ngc_machine_model.specs.RateRules.{PassesInto, MayTravel, AllBrakeByDistance, target, head_bound, pace}
use Rattle.ngc_machine_model.specs.Progress.{TravelsAtLeast}

-- ---- after a command that continues into nothing

none_left : (n : ℕ) → nat_lt 0 n ≡ false → n ≡ 0
none_left n h = grind (arith, nat_tests)

off_by : (b s c : Bool) → (b ≡ false) ⊎ (s ≡ true) → (b && (not s && c)) ≡ false
off_by false s c h = refl
off_by true true c h = refl
off_by true false c (inl h) = absurd (true≢false h)
off_by true false c (inr h) = absurd (false≢true h)

-- it has no path steps, or stops at its end
abbrev pub IsStop : Queued → Type 0
IsStop l = (path_steps l ≡ 0) ⊎ (stops l.command.action ≡ true)

-- so it continues into no command
pub flows_nowhere : (l m : Queued) → IsStop l → continues_into l m ≡ false
flows_nowhere l m (inl z) =
    off_by (nat_lt 0 (path_steps l)) (stops l.command.action) (nat_lt 0 (path_steps m)) (inl (le-ltb 0 (path_steps l) (omega (arith, z))))
flows_nowhere l m (inr s) = off_by (nat_lt 0 (path_steps l)) (stops l.command.action) (nat_lt 0 (path_steps m)) (inr s)

unjoined_by : (b : Bool) (x : Leg) (xs others : List Leg) → x.joined ≡ false → (b ≡ false → ahead others ≡ 0) → ahead (cond b (x ∷ xs) others) ≡ 0
unjoined_by true x xs others off none = ap (λ j. cond j (x.millionths + ahead xs) 0) off
unjoined_by false x xs others off none = none refl

-- and nothing is ahead of it
pub unjoined : (job : Job) (k : ℕ) (l : Queued) (ls : List Queued) → IsStop l → ahead (legs_after job k l ls) ≡ 0
unjoined job k l [] stop = refl
unjoined job k l (m ∷ ms) stop =
    let afterwards = legs_after job (suc k) m ms in
    unjoined_by (nat_lt 0 (path_steps m)) (leg_of job k (continues_into l m) m) afterwards afterwards (flows_nowhere l m stop)
    (λ b. unjoined job (suc k) m ms (inl (none_left (path_steps m) b)))

-- ---- into the next command

never_by : (b : Bool) (v : ℕ) (x : Leg) (xs others : List Leg) → x.joined ≡ false → (b ≡ false → GoesOnLeg v others → ⊥) →
    GoesOnLeg v (cond b (x ∷ xs) others) → ⊥
never_by true v x xs others off none h = true≢false (sym h.0 ∙ off)
never_by false v x xs others off none h = none refl h

-- no rate continues after a stop
never_goes_on : (job : Job) (k v : ℕ) (l : Queued) (ls : List Queued) → IsStop l → GoesOnLeg v (legs_after job k l ls) → ⊥
never_goes_on job k v l [] stop h = h
never_goes_on job k v l (m ∷ ms) stop h =
    let afterwards = legs_after job (suc k) m ms in
    never_by (nat_lt 0 (path_steps m)) v (leg_of job k (continues_into l m) m) afterwards afterwards (flows_nowhere l m stop)
    (λ b. never_goes_on job (suc k) v m ms (inl (none_left (path_steps m) b))) h

into_by : (b : Bool) (job : Job) (v : ℕ) (l m : Queued) (x : Leg) (xs others : List Leg) → IsMachine job.machine → x.joined ≡ continues_into l m →
    x.bound ≡ bound_of job.machine m.command.action (path_steps m) → (b ≡ false → GoesOnLeg v others → ⊥) → GoesOnLeg v (cond b (x ∷ xs) others) →
    (continues_into l m ≡ true) × IsWithinBounds job.machine m.command.action (path_steps m) v
into_by true job v l m x xs others machine on most none h =
    let low = h.1 in (sym on ∙ h.0, (greatest_bound job.machine m.command.action (path_steps m) v machine).0 (omega (arith, low, most)))
into_by false job v l m x xs others machine on most none h = absurd (none refl h)

-- a rate that continues into the next leg continues into the next command
pub goes_into : (job : Job) (k v : ℕ) (l : Queued) (ls : List Queued) → IsMachine job.machine → GoesOnLeg v (legs_after job k l ls) → PassesInto job v l ls
goes_into job k v l [] machine h = h
goes_into job k v l (m ∷ ms) machine h =
    let afterwards = legs_after job (suc k) m ms in
    into_by (nat_lt 0 (path_steps m)) job v l m (leg_of job k (continues_into l m) m) afterwards afterwards machine refl refl
    (λ b. never_goes_on job (suc k) v m ms (inl (none_left (path_steps m) b))) h

-- ---- a tick

-- nothing is travelled if all remains
same_test : (t r m : ℕ) → r ≡ m - t → t ≤ m → (t == 0) ≡ (r == m)
same_test t r m e f = grind (arith, nat_tests)

same_bound : (job : Job) (joined : Bool) (l : Queued) (s : State) (r : ℕ) → r ≡ rest l s → s.travelled ≤ millionths l →
    head_bound job l s ≡ tick_bound (leg_of job s.done joined l) r
same_bound job joined l s r left within =
    let bound = bound_of job.machine l.command.action (path_steps l) in
    let entry = joint_before job.machine job.commands s.done in
    ap (λ b. cond b (min bound entry) bound) (same_test s.travelled r (millionths l) left within)

entered : (bound entry r m v : ℕ) (b : Bool) → b ≡ (r == m) → r ≡ m → v ≤ cond b (min bound entry) bound → v ≤ entry
entered bound entry r m v true test all h = omega arith
entered bound entry r m v false test all h = absurd (grind (arith, nat_tests))

same_pace : (r a w b s c x d : ℕ) → r ≡ s → a ≡ c → w ≡ x → b ≡ d → min (min (r + a) w) b ≡ min (min (s + c) x) d
same_pace r a w b s c x d e f g h = cc

-- ---- on a machine without limits of each axis the ring's motions all have its change; and each has at
-- least one path step

all_by : (P : Leg → Type 0) (b : Bool) (x : Leg) (xs : List Leg) → (b ≡ true → P x) → All P xs → All P (cond b (x ∷ xs) xs)
all_by P true x xs first others = All-cons P x xs (first refl) others
all_by P false x xs first others = others

all_change : (job : Job) (k : ℕ) (l : Queued) (ls : List Queued) → job.machine.own ≡ None → All (HasChange job.machine.change) (legs_after job k l ls)
all_change job k l [] none = All-nil (HasChange job.machine.change)
all_change job k l (m ∷ ms) none =
    all_by (HasChange job.machine.change) (nat_lt 0 (path_steps m)) (leg_of job k (continues_into l m) m) (legs_after job (suc k) m ms)
    (λ some. one_change job.machine m.command.action (path_steps m) none) (all_change job (suc k) m ms none)

long : (n : ℕ) → nat_lt 0 n ≡ true → MILLION ≤ n * MILLION
long n h = let some : 0 < n = grind (arith, nat_tests) in omega (arith, some)

all_long : (job : Job) (k : ℕ) (l : Queued) (ls : List Queued) → All IsLong (legs_after job k l ls)
all_long job k l [] = All-nil IsLong
all_long job k l (m ∷ ms) = all_by IsLong (nat_lt 0 (path_steps m)) (leg_of job k (continues_into l m) m) (legs_after job (suc k) m ms)
    (λ some. long (path_steps m) some) (all_long job (suc k) m ms)

-- the work to brake ends on the known path: so does the braking distance
brakes_within : (a v d e : ℕ) (ls : List Leg) → 1 ≤ a → All (HasChange a) ls → a * braking v a ≤ a * d + work_ahead a e ls →
    braking v a ≤ ramp_reach d ls
brakes_within a v d e ls some all short =
    let is = same_work_ahead a e ls all in
    let sum : a * braking v a ≤ a * (d + ahead ls) = omega (arith, short, is) in
    le_of_mul-le-mul_left {k = a} sum (omega (arith, some))

-- whether a rate can brake doesn't depend on how the head was reached
any_joint : (w rest : ℕ) (job : Job) (k : ℕ) (joined : Bool) (l : Queued) (ls : List Leg) →
    can_brake w rest (leg_of job k false l) ls ≡ can_brake w rest (leg_of job k joined l) ls
any_joint w rest job k joined l [] = refl
any_joint w rest job k joined l (m ∷ ms) = refl

-- a rate that can brake on the motions can brake on the legs
brakes_on_legs : (job : Job) (l : Queued) (ls : List Queued) (s : State) (d p q : ℕ) (joined : Bool) → d ≡ rest l s → p ≡ q →
    can_brake_on job p l ls s ≡ true → can_brake q d (leg_of job s.done joined l) (legs_after job (suc s.done) l ls) ≡ true
brakes_on_legs job l ls s d p q joined left same can =
    let legs = legs_after job (suc s.done) l ls in
    subst (λ n. can_brake n d (leg_of job s.done joined l) legs ≡ true) same
    (subst (λ n. can_brake p n (leg_of job s.done joined l) legs ≡ true) (sym left)
    (sym (any_joint p (rest l s) job s.done joined l legs) ∙ can))

-- a ramp with the ring's motions as its legs travels at rates that the machine allows
pub may_travel : (job : Job) (l : Queued) (ls : List Queued) (s : State) (r : RampState) (joined : Bool) (wish v : ℕ) → IsMachine job.machine →
    1 ≤ path_steps l →
    r.last_change ≡ s.change → r.rate ≡ s.rate → r.rest ≡ rest l s → 1 ≤ r.rest → s.travelled ≤ millionths l → wish ≡ target job l s →
    MayTick r wish (leg_of job s.done joined l) (legs_after job (suc s.done) l ls) v → MayTravel job l ls s v
may_travel job l ls s r joined wish v machine some last rate left part within aim may =
    let leg = leg_of job s.done joined l in
    let legs = legs_after job (suc s.done) l ls in
    let bound : head_bound job l s ≡ tick_bound leg r.rest = same_bound job joined l s r.rest left within in
    let low = tick_bound_greatest leg r.rest in
    let same : pace job l s ≡ ramp_pace r wish leg =
    same_pace s.rate (change_of job l) (target job l s) (head_bound job l s) r.rate (change_of job l) wish (tick_bound leg r.rest)
    (sym rate) refl (sym aim) bound in
    record {
      rules = record {
        faster = omega (arith, may.faster, rate);
        slower = omega (arith, may.slower, rate, last);
        within = (greatest_bound job.machine l.command.action (path_steps l) v machine).0 (omega (arith, may.within, low));
        enters = λ none. entered leg.bound leg.entry r.rest leg.millionths v (r.rest == leg.millionths) refl (omega (arith, none, left)) may.within;
        leaves = λ ends. may.leaves (omega (arith, ends, left));
        goes_on = λ over. goes_into job (suc s.done) v l ls machine (may.goes_on (omega (arith, over, left)));
      };
      brakes = subst (λ n. work v (change_of job l) ≤ change_of job l * n + work_ahead (change_of job l) leg.exit legs) left may.brakes;
      aims = omega (arith, may.aims, rate, aim, last);
      keeps_pace = λ can. (
          let fast = may.keeps_pace (brakes_on_legs job l ls s r.rest (pace job l s) (ramp_pace r wish leg) joined left same can) in
          omega (arith, same, fast));
    }

-- ---- machines without limits of each axis

bounded : (b : Bool) (x y : ℕ) → cond b (min x y) x ≤ x
bounded true x y = omega arith
bounded false x y = omega arith

pace_small : (job : Job) (l : Queued) (s : State) → IsMachine job.machine → pace job l s ≤ MILLION
pace_small job l s machine =
    let bound = bound_of job.machine l.command.action (path_steps l) in
    let low : head_bound job l s ≤ bound = bounded (s.travelled == 0) bound (joint_before job.machine job.commands s.done) in
    let own = (greatest_bound job.machine l.command.action (path_steps l) bound machine).0 (omega arith) in
    omega (arith, low, own.greatest, machine.max_rate.greatest)

-- all motions have the machine's change there
pub all_by_distance : AllBrakeByDistance
all_by_distance job l ls s v machine none part may =
    let a = job.machine.change in
    let legs = legs_after job (suc s.done) l ls in
    let leg = leg_of job s.done false l in
    let same : change_of job l ≡ a = one_change job.machine l.command.action (path_steps l) none in
    let all = all_change job (suc s.done) l ls none in
    record {
      brakes = brakes_within a v (rest l s) leg.exit legs machine.change.least all
          (subst (λ c. work v c ≤ c * rest l s + work_ahead c leg.exit legs) same may.brakes);
      keeps_pace = λ short. may.keeps_pace
          (brakes_where_free (pace job l s) a (rest l s) leg legs (pace_small job l s machine) machine.change.least (omega (arith, part)) same all
          (all_long job (suc s.done) l ls) short);
    }

-- ---- the least distance of a tick

no_greater : (a b c : ℕ) → a ≤ b → b ≤ c → a ≤ c
no_greater a b c p q = omega arith

-- while the machine is free it travels at least the least travel of a motion, whatever follows it
pub travels_at_least : (job : Job) (l : Queued) (ls : List Queued) (s : State) (r : RampState) (joined : Bool) (wish v : ℕ) → IsMachine job.machine →
    IsMotion l.command.action → 1 ≤ path_steps l → r.rate ≡ s.rate → r.rest ≡ rest l s → s.travelled ≤ millionths l →
    wish ≡ target job l s → MayTick r wish (leg_of job s.done joined l) (legs_after job (suc s.done) l ls) v → TravelsAtLeast job (l ∷ ls) s v
travels_at_least job l ls s r joined wish v machine moves steps rate left within aim may = λ free some.
    let m = job.machine in
    let c = l.command in
    let n = path_steps l in
    let least = least_travel m c.action n in
    let own = may_travel_least m c.action job.commands s.done n (effective s) machine moves in
    let more = no_less_by_place m c.action n (effective s) (point l.path (place_before s)) in
    let aimed : least ≤ target_on m c.action n (effective s) (point l.path (place_before s)) = (
    let low = own.target free.some_override in no_greater least _ _ low more) in
    let wished : least ≤ wish = rw (aim, free.not_held) aimed in
    omega (arith, may.at_least, own.change, own.bound, own.entry, own.exit)

-- ---- a load

few_by : (b : Bool) (x : Leg) (xs : List Leg) (n : ℕ) → length xs ≤ n → length (cond b (x ∷ xs) xs) ≤ suc n
few_by true x xs n p = omega arith
few_by false x xs n p = omega arith

-- there are no more legs than commands
pub no_more_legs : (job : Job) (k : ℕ) (l : Queued) (ls : List Queued) → length (legs_after job k l ls) ≤ length ls
no_more_legs job k l [] = omega arith
no_more_legs job k l (m ∷ ms) =
    few_by (nat_lt 0 (path_steps m)) (leg_of job k (continues_into l m) m) (legs_after job (suc k) m ms) (length ms) (no_more_legs job (suc k) m ms)

-- the last of l and those after it
abbrev pub last_behind : Queued → List Queued → Queued
last_behind l [] = l
last_behind l (m ∷ ms) = last_behind m ms

more_by : (b : Bool) (x : Leg) (all some one : List Leg) → all ≡ some ++ one → cond b (x ∷ all) all ≡ cond b (x ∷ some) some ++ one
more_by true x all some one e = ap (λ xs. x ∷ xs) e
more_by false x all some one e = e

-- one more command adds its own leg, if it has one
pub legs_more : (job : Job) (k : ℕ) (l : Queued) (ls : List Queued) (q : Queued) →
    legs_after job k l (ls ++ q ∷ []) ≡ legs_after job k l ls ++ legs_after job (k + length ls) (last_behind l ls) (q ∷ [])
legs_more job k l [] q = let same : k ≡ k + 0 = omega arith in ap (λ n. legs_after job n l (q ∷ [])) same
legs_more job k l (m ∷ ms) q =
    let same : suc k + length ms ≡ k + length (m ∷ ms) = omega arith in
    let afterwards = legs_more job (suc k) m ms q ∙ ap (λ n. legs_after job (suc k) m ms ++ legs_after job n (last_behind m ms) (q ∷ [])) same in
    more_by (nat_lt 0 (path_steps m)) (leg_of job k (continues_into l m) m) (legs_after job (suc k) m (ms ++ q ∷ [])) (legs_after job (suc k) m ms)
    (legs_after job (k + length (m ∷ ms)) (last_behind l (m ∷ ms)) (q ∷ [])) afterwards

-- a motion with path steps has one
pub one_more : (job : Job) (k : ℕ) (l : Queued) (ls : List Queued) (q : Queued) → 1 ≤ path_steps q →
    legs_after job k l (ls ++ q ∷ []) ≡ legs_after job k l ls ++ leg_of job (k + length ls) (continues_into (last_behind l ls) q) q ∷ []
one_more job k l ls q some =
    let x = leg_of job (k + length ls) (continues_into (last_behind l ls) q) q in
    legs_more job k l ls q ∙ ap (λ b. legs_after job k l ls ++ cond b (x ∷ []) []) (lt-ltb 0 (path_steps q) (omega (arith, some)))

-- any other command has none
pub none_more : (job : Job) (k : ℕ) (l : Queued) (ls : List Queued) (q : Queued) → path_steps q ≡ 0 →
    legs_after job k l (ls ++ q ∷ []) ≡ legs_after job k l ls
none_more job k l ls q none =
    let x = leg_of job (k + length ls) (continues_into (last_behind l ls) q) q in
    legs_more job k l ls q ∙ ap (λ b. legs_after job k l ls ++ cond b (x ∷ []) []) (le-ltb 0 (path_steps q) (omega (arith, none)))
    ∙ append-nil (legs_after job k l ls)
