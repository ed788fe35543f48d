-- The positions of a run begin a path of the program, and when its end is reported they are a whole
-- one.
use Rattle.std.proofs.Common.{◌≡◌, ℕ, zero, suc, ◌+◌, ◌-◌, ◌/◌, ◌<◌, ◌≤◌, ◌⊎◌, inl, inr, ap, subst, sym, ◌∙◌, arith, refl, List, [], ◌∷◌, ◌++◌, length, take}
use Rattle.std.proofs.Common.{drop, Some, None, true, Ok}
use Rattle.std.specs.Prelude.{Contains, slice_get}
use Rattle.std.proofs.lemmas.Bool.{true≢false}
use Rattle.std.proofs.lemmas.List.{append_assoc}
use Rattle.ngc_fixed_length.specs.declared.points.Point3.{Point3}
use Rattle.ngc_fixed_length.specs.declared.points.StepPos.{StepPos}
use Rattle.ngc_fixed_length.specs.Length.{IsStep}
use Rattle.ngc_fixed_length.specs.Grid.{grid}
use Rattle.ngc_fixed_length.specs.LinePath.{point}
use Rattle.ngc_machine_files.specs.Machine.{MachineFile}
use Rattle.ngc_machine_files.specs.MachineRanges.{IsMachine}
use Rattle.ngc_commands.specs.declared.command.Command.{Command}
use Rattle.ngc_commands.specs.Movement.{actions_of, ways_of, start_of, end_of, AreJoined}
use Rattle.ngc_commands.specs.declared.movement.Way.{Way}
use Rattle.ngc_commands.specs.declared.command.Action.{Action}
use Rattle.ngc_commands.specs.declared.command.Action.TheVariants.{Move}
use Rattle.ngc_commands.specs.declared.command.Action.TheVariants as actions
use Rattle.ngc_commands.specs.Sequence.{IsLastIfEnd, EndIsLast}
use Rattle.ngc_commands.specs.ProgramPath.{IsPathOf, IsPathOfAll}
use Rattle.ngc_fixed_length.specs.Limits.{MILLION}
use Rattle.ngc_events.specs.declared.event.Event.{Event}
use Rattle.ngc_events.specs.declared.reply.Ending.TheVariants.{End}
use Rattle.ngc_events.specs.declared.reply.Reply.TheVariants.{Ticked}
use Rattle.ngc_machine_model.specs.State.{Job, Queued, State, opening, path_steps, millionths}
use Rattle.ngc_machine_model.specs.Step.{Outcome, MayTake}
use Rattle.ngc_machine_model.specs.Run.{Run, positions, position_in}
use Rattle.ngc_machine_model.specs.Safety.{start_of_job, AreWholePath, BeginPath}
use Rattle.ngc_machine_model.specs.Headline.{job_of}
use Rattle.ngc_machine_model.proofs.SafeRun.{RingFits, one_more, path_ends, ends_last, still_ends}
use Rattle.ngc_machine_model.proofs.RatesOfRun.{Fits, GoesOver, over_small, over_fits}
use Rattle.ngc_machine_model.proofs.Effects.{Spot, spot_of, spot, tells_end, ends_program, emitted, Effect, stands, grows, goes_on, arrives, passes, effect_of}
use Rattle.ngc_machine_model.proofs.Arcs.{AreArcs, arcs_left}
use Rattle.ngc_machine_model.proofs.MotionPaths.{begins_at, none_before, with_pulse, path_length, path_then, some_path}

-- ---- the invariant between two events

-- the position: on the head's path, or where the next motion begins
abbrev IsHere : Job → Point3 → List Queued → ℕ → StepPos → Type 0
IsHere job place [] travelled p = p ≡ grid job.machine.step place
IsHere job place (l ∷ ls) travelled p =
    (path_steps l ≡ 0 → p ≡ grid job.machine.step place) × (0 < path_steps l → p ≡ point l.path (travelled / MILLION))

record Walks (job : Job) (left : List Command) (ring : List Queued) (travelled : ℕ) (p : StepPos) : Type 0 where
  place : Point3
  joined : AreJoined place (ways_of (actions_of left))
  fits : RingFits job left ring
  short : Fits ring travelled
  here : IsHere job place ring travelled p

-- ---- the points that may follow

-- the points of the head's path from the position on, and then a path of the other motions
abbrev HeadWay : Job → Queued → Action → List Command → ℕ → StepPos → List StepPos → Type 0
HeadWay job l (Move m) cs travelled p points =
    (rest : List StepPos) × IsPathOfAll job.machine.step (point l.path (path_steps l)) (ways_of (actions_of cs)) rest ×
    (points ≡ drop (travelled / MILLION) (take (path_steps l) l.path) ++ rest)
HeadWay job l _ cs travelled p points = IsPathOfAll job.machine.step p (ways_of (actions_of cs)) points

abbrev WayFrom : Job → List Command → List Queued → ℕ → StepPos → List StepPos → Type 0
WayFrom job left [] travelled p points = IsPathOfAll job.machine.step p (ways_of (actions_of left)) points
WayFrom job [] (l ∷ ls) travelled p points = ⊥
WayFrom job (c ∷ cs) (l ∷ ls) travelled p points = HeadWay job l c.action cs travelled p points

-- ---- where motions begin

no_path : (l : Queued) → l.path ≡ [] → path_steps l ≡ 0
no_path l e = let n = ap length e in omega (arith, n)

first_point : (job : Job) (d : Action) (cs : List Command) (place : Point3) (path : List StepPos) → AreJoined place (ways_of (d ∷ actions_of cs)) →
    MayTake job d path →
    0 < length path - 1 → point path 0 ≡ grid job.machine.step place
first_point job (Move m) cs place path j may some = (path_ends job m.way path may).2 ∙ ap (grid job.machine.step) j.0
first_point job _ cs place path j may some = absurd (let e = ap length may in omega (arith, e, some))

begins_here : (job : Job) (left : List Command) (ring : List Queued) (place : Point3) (t : ℕ) (p : StepPos) → AreJoined place (ways_of (actions_of left)) →
    RingFits job left ring → t < MILLION → p ≡ grid job.machine.step place → IsHere job place ring t p
begins_here job left [] place t p j f small e = e
begins_here job [] (l ∷ ls) place t p j f small e = absurd f
begins_here job (c ∷ cs) (l ∷ ls) place t p j f small e =
    let first : 0 ≡ t / MILLION = omega (arith, small) in
    (λ z. e, λ some. e ∙ sym (first_point job c.action cs place l.path j f.1 some) ∙ ap (point l.path) first)

none_walked : (ring : List Queued) → Fits ring 0
none_walked [] = refl
none_walked (l ∷ ls) = omega arith

-- less than a path step of the head was travelled
begins : (job : Job) (left : List Command) (ring : List Queued) (place : Point3) (t : ℕ) (p : StepPos) → AreJoined place (ways_of (actions_of left)) →
    RingFits job left ring → Fits ring t → t < MILLION → p ≡ grid job.machine.step place → Walks job left ring t p
begins job left ring place t p j f short small e =
    record { place = place; joined = j; fits = f; short = short; here = begins_here job left ring place t p j f small e }

-- ---- each case keeps the invariant

more_walked : (ring : List Queued) (l : Queued) (t : ℕ) → Fits ring t → Fits (ring ++ l ∷ []) t
more_walked [] l t f = omega (arith, f)
more_walked (k ∷ ks) l t f = f

first_loaded : (job : Job) (left : List Command) (l : Queued) (place : Point3) (t : ℕ) (p : StepPos) → AreJoined place (ways_of (actions_of left)) →
    RingFits job left (l ∷ []) →
    t ≡ 0 → p ≡ grid job.machine.step place → IsHere job place (l ∷ []) t p
first_loaded job left l place t p j f z e = begins_here job left (l ∷ []) place t p j f (omega (arith, z)) e

still_here : (job : Job) (left : List Command) (ring : List Queued) (l : Queued) (place : Point3) (t : ℕ) (p : StepPos) →
    AreJoined place (ways_of (actions_of left)) →
    RingFits job left (ring ++ l ∷ []) → Fits ring t → IsHere job place ring t p → IsHere job place (ring ++ l ∷ []) t p
still_here job left [] l place t p j f z e = first_loaded job left l place t p j f z e
still_here job left (k ∷ ks) l place t p j f z e = e

walks_grown : (job : Job) (left : List Command) (ring : List Queued) (t : ℕ) (p : StepPos) (c : Command) (path : List StepPos) → Walks job left ring t p →
    slice_get left (length ring) ≡ Some c → MayTake job c.action path → Walks job left (ring ++ record { command = c; path = path } ∷ []) t p
walks_grown job left ring t p c path w e may =
    let f = one_more job left ring c path w.fits e may in
    let l : Queued = record { command = c; path = path } in
    record {
      place = w.place;
      joined = w.joined;
      fits = f;
      short = more_walked ring l t w.short;
      here = still_here job left ring l w.place t p w.joined f w.short w.here;
    }

walks_on : (job : Job) (left : List Command) (l : Queued) (ls : List Queued) (t v : ℕ) (p : StepPos) → Walks job left (l ∷ ls) t p → 0 < path_steps l →
    t + v < millionths l →
    Walks job left (l ∷ ls) (t + v) (point l.path ((t + v) / MILLION))
walks_on job left l ls t v p w some short =
    record { place = w.place; joined = w.joined; fits = w.fits; short = omega (arith, short); here = (λ z. absurd (omega (arith, z, some)), λ s. refl) }

-- the command after the head
walks_arrived : (job : Job) (d : Action) (cs : List Command) (l : Queued) (ls : List Queued) (place : Point3) (over : ℕ) →
    AreJoined place (ways_of (d ∷ actions_of cs)) →
    MayTake job d l.path → RingFits job cs ls → 0 < path_steps l → GoesOver l ls over → Walks job cs ls over (point l.path (path_steps l))
walks_arrived job (Move m) cs l ls place over j may f some g =
    begins job cs ls (end_of m.way) over (point l.path (path_steps l)) j.1 f (over_fits l ls over g) (over_small l ls over g) (ends_last job m.way l.path may)
walks_arrived job _ cs l ls place over j may f some g = absurd (let e = ap length may in omega (arith, e, some))

walks_passed : (job : Job) (d : Action) (cs : List Command) (l : Queued) (ls : List Queued) (place : Point3) (p : StepPos) →
    AreJoined place (ways_of (d ∷ actions_of cs)) →
    MayTake job d l.path → RingFits job cs ls → path_steps l ≡ 0 → p ≡ grid job.machine.step place → Walks job cs ls 0 p
walks_passed job (Move m) cs l ls place p j may f z e =
    begins job cs ls (end_of m.way) 0 p j.1 f (none_walked ls) (omega arith) (e ∙ ap (grid job.machine.step) (sym j.0) ∙ still_ends job m.way l.path may z)
walks_passed job _ cs l ls place p j may f z e = begins job cs ls place 0 p j f (none_walked ls) (omega arith) e

-- ---- from the remaining path of the next state to that of this one

zero_or_some : (n : ℕ) → (n ≡ 0) ⊎ (0 < n)
zero_or_some zero = inl refl
zero_or_some (suc n) = inr (omega arith)

-- the position on the path of a motion at the head
on_path : (job : Job) (way : Way) (l : Queued) (ls : List Queued) (place : Point3) (t : ℕ) (p : StepPos) → start_of way ≡ place →
    IsPathOf job.machine.step way l.path →
    t ≤ millionths l → IsHere job place (l ∷ ls) t p → p ≡ point l.path (t / MILLION)
on_path job way l ls place t p j may short here =
    elim (zero_or_some (path_steps l)) [
      | inl z ↦
          let k : 0 ≡ t / MILLION = omega (arith, z, short) in
          here.0 z ∙ ap (grid job.machine.step) (sym j) ∙ sym (path_ends job way l.path may).2 ∙ ap (point l.path) k
      | inr some ↦ here.1 some
    ]

all_head : (job : Job) (d : Action) (cs : List Command) (l : Queued) (ls : List Queued) (place : Point3) (t : ℕ) (p : StepPos) (points : List StepPos) →
    t < MILLION → t ≤ millionths l → AreJoined place (ways_of (d ∷ actions_of cs)) → MayTake job d l.path → IsHere job place (l ∷ ls) t p →
    HeadWay job l d cs t p points → IsPathOfAll job.machine.step p (ways_of (d ∷ actions_of cs)) points
all_head job (Move m) cs l ls place t p points small short j may here w =
    let first : t / MILLION ≡ 0 = omega (arith, small) in
    let starts : point l.path 0 ≡ p = ap (point l.path) (sym first) ∙ sym (on_path job m.way l ls place t p j.0 may short here) in
    path_then job m.way (ways_of (actions_of cs)) p l.path w.0 points may starts w.1 (w.2 ∙ ap (λ k. drop k (take (path_steps l) l.path) ++ w.0) first)
all_head job _ cs l ls place t p points small short j may here w = w

-- if less than a path step of the head was travelled, the remaining path is a path of all remaining
-- motions
all_way : (job : Job) (left : List Command) (ring : List Queued) (t : ℕ) (p : StepPos) (points : List StepPos) → t < MILLION → Walks job left ring t p →
    WayFrom job left ring t p points → IsPathOfAll job.machine.step p (ways_of (actions_of left)) points
all_way job left [] t p points small w way = way
all_way job [] (l ∷ ls) t p points small w way = absurd way
all_way job (c ∷ cs) (l ∷ ls) t p points small w way =
    let short = w.short in all_head job c.action cs l ls w.place t p points small (omega (arith, short)) w.joined w.fits.1 w.here way

back_grown : (job : Job) (left : List Command) (ring : List Queued) (l : Queued) (t : ℕ) (p : StepPos) (points : List StepPos) → Fits ring t →
    Walks job left (ring ++ l ∷ []) t p →
    WayFrom job left (ring ++ l ∷ []) t p points → WayFrom job left ring t p points
back_grown job left [] l t p points z w way = all_way job left (l ∷ []) t p points (omega (arith, z)) w way
back_grown job [] (k ∷ ks) l t p points z w way = absurd way
back_grown job (c ∷ cs) (k ∷ ks) l t p points z w way = way

back_on : (job : Job) (d : Action) (cs : List Command) (l : Queued) (t v : ℕ) (p : StepPos) (tail : List StepPos) → MayTake job d l.path → 0 < path_steps l →
    v ≤ MILLION →
    t + v ≤ millionths l → p ≡ point l.path (t / MILLION) →
    HeadWay job l d cs (t + v) (point l.path ((t + v) / MILLION)) (point l.path ((t + v) / MILLION) ∷ tail) →
    HeadWay job l d cs t p (p ∷ (emitted l.path (t / MILLION) ((t + v) / MILLION) ++ tail))
back_on job (Move m) cs l t v p tail may some small short at w = (
  w.0,
  w.1,
  with_pulse l.path (path_steps l) (t / MILLION) ((t + v) / MILLION) p (point l.path ((t + v) / MILLION)) tail w.0 (path_length job m.way l.path may)
      (omega arith) (omega (arith, small)) (omega (arith, short)) at refl w.2,
)
back_on job _ cs l t v p tail may some small short at w = absurd (let e = ap length may in omega (arith, e, some))

back_arrived : (job : Job) (d : Action) (cs : List Command) (l : Queued) (t : ℕ) (p : StepPos) (tail : List StepPos) → MayTake job d l.path → 0 < path_steps l →
    t ≤ millionths l → path_steps l ≤ t / MILLION + 1 → p ≡ point l.path (t / MILLION) →
    IsPathOfAll job.machine.step (point l.path (path_steps l)) (ways_of (actions_of cs)) (point l.path (path_steps l) ∷ tail) →
    HeadWay job l d cs t p (p ∷ (emitted l.path (t / MILLION) (path_steps l) ++ tail))
back_arrived job (Move m) cs l t p tail may some short near at w =
    let q = point l.path (path_steps l) in (
      q ∷ tail,
      w,
      with_pulse l.path (path_steps l) (t / MILLION) (path_steps l) p q tail (q ∷ tail) (path_length job m.way l.path may)
          (omega (arith, short)) near (omega arith) at refl (ap (λ xs. xs ++ q ∷ tail) (sym (none_before l.path (path_steps l) (path_steps l) (omega arith)))),
    )
back_arrived job _ cs l t p tail may some short near at w = absurd (let e = ap length may in omega (arith, e, some))

back_passed : (job : Job) (d : Action) (cs : List Command) (l : Queued) (ls : List Queued) (place : Point3) (t : ℕ) (p : StepPos) (tail : List StepPos) →
    AreJoined place (ways_of (d ∷ actions_of cs)) → MayTake job d l.path → IsHere job place (l ∷ ls) t p → t ≤ millionths l → path_steps l ≡ 0 →
    IsPathOfAll job.machine.step p (ways_of (actions_of cs)) (p ∷ tail) → HeadWay job l d cs t p (p ∷ tail)
back_passed job (Move m) cs l ls place t p tail j may here short z w =
    let k : t / MILLION ≡ path_steps l = omega (arith, z, short) in
    let at : p ≡ point l.path (path_steps l) = on_path job m.way l ls place t p j.0 may short here ∙ ap (point l.path) k in (
      p ∷ tail,
      subst (λ q. IsPathOfAll job.machine.step q (ways_of (actions_of cs)) (p ∷ tail)) at w,
      ap (λ xs. xs ++ p ∷ tail) (sym (none_before l.path (path_steps l) (t / MILLION) (omega (arith, k)))),
    )
back_passed job _ cs l ls place t p tail j may here short z w = w

-- from a point of the head's path there is a remaining path
way_ahead : (job : Job) → IsStep job.machine.step → (d : Action) (cs : List Command) (l : Queued) (ls : List Queued) (place : Point3) (t : ℕ) (p : StepPos) →
    AreArcs (ways_of (d ∷ actions_of cs)) → AreJoined place (ways_of (d ∷ actions_of cs)) → MayTake job d l.path → t ≤ millionths l →
    IsHere job place (l ∷ ls) t p →
    (later : List StepPos) × HeadWay job l d cs t p (p ∷ later)
way_ahead job s (Move m) cs l ls place t p arcs j may short here =
    let n = path_steps l in
    let others = some_path job s (ways_of (actions_of cs)) (end_of m.way) (point l.path n) arcs.1 j.1 (ends_last job m.way l.path may) in
    let b = begins_at l.path n (t / MILLION) p others.0 (path_length job m.way l.path may) (omega (arith, short))
    (on_path job m.way l ls place t p j.0 may short here) in
    (b.0, (point l.path n ∷ others.0, others.1, sym b.1))
way_ahead job s _ cs l ls place t p arcs j may short here = some_path job s (ways_of (actions_of cs)) place p arcs j (here.0 (no_path l may))

some_way : (job : Job) → IsStep job.machine.step → (left : List Command) (ring : List Queued) (t : ℕ) (p : StepPos) → AreArcs (ways_of (actions_of left)) →
    Walks job left ring t p →
    (later : List StepPos) × WayFrom job left ring t p (p ∷ later)
some_way job s left [] t p arcs w = some_path job s (ways_of (actions_of left)) w.place p arcs w.joined w.here
some_way job s [] (l ∷ ls) t p arcs w = absurd w.fits
some_way job s (c ∷ cs) (l ∷ ls) t p arcs w =
    let short = w.short in way_ahead job s c.action cs l ls w.place t p arcs w.joined w.fits.1 (omega (arith, short)) w.here

-- if nothing remains, the position alone is the remaining path
no_way : (job : Job) (left : List Command) (ring : List Queued) (t : ℕ) (p : StepPos) → left ≡ [] → Walks job left ring t p → WayFrom job left ring t p (p ∷ [])
no_way job [] [] t p e w = refl
no_way job [] (l ∷ ls) t p e w = absurd w.fits
no_way job (c ∷ cs) ring t p e w = absurd (let n = ap length e in omega (arith, n))

-- ---- all cases

next_left : {X : Type 0} (n : ℕ) (xs : List X) → drop (suc n) xs ≡ drop 1 (drop n xs)
next_left zero xs = refl
next_left (suc n) [] = refl
next_left (suc n) (x ∷ xs) = next_left n xs

get_left : {X : Type 0} (n k : ℕ) (xs : List X) → slice_get xs (n + k) ≡ slice_get (drop n xs) k
get_left zero k xs = ap (slice_get xs) (omega arith)
get_left (suc n) k [] = refl
get_left (suc n) k (x ∷ xs) = let e : suc n + k ≡ suc (n + k) = omega arith in ap (slice_get (x ∷ xs)) e ∙ get_left n k xs

abbrev left_of : Job → ℕ → List Command
left_of job done = drop done job.commands

abbrev WalksIn : Job → Spot → Type 0
WalksIn job s = Walks job (left_of job s.done) s.ring s.travelled s.position

abbrev WayIn : Job → Spot → List StepPos → Type 0
WayIn job s points = WayFrom job (left_of job s.done) s.ring s.travelled s.position points

after_arrival : (job : Job) (left next : List Command) (l : Queued) (ls : List Queued) (t over : ℕ) (p : StepPos) → next ≡ drop 1 left → 0 < path_steps l →
    GoesOver l ls over → Walks job left (l ∷ ls) t p → Walks job next ls over (point l.path (path_steps l))
after_arrival job [] next l ls t over p e some g w = absurd w.fits
after_arrival job (c ∷ cs) next l ls t over p e some g w =
    subst (λ n. Walks job n ls over (point l.path (path_steps l))) (sym e) (walks_arrived job c.action cs l ls w.place over w.joined w.fits.1 w.fits.2 some g)

after_pass : (job : Job) (left next : List Command) (l : Queued) (ls : List Queued) (t : ℕ) (p : StepPos) → next ≡ drop 1 left → path_steps l ≡ 0 →
    Walks job left (l ∷ ls) t p → Walks job next ls 0 p
after_pass job [] next l ls t p e z w = absurd w.fits
after_pass job (c ∷ cs) next l ls t p e z w =
    subst (λ n. Walks job n ls 0 p) (sym e) (walks_passed job c.action cs l ls w.place p w.joined w.fits.1 w.fits.2 z (w.here.0 z))

before_on : (job : Job) (left : List Command) (l : Queued) (ls : List Queued) (t v : ℕ) (p : StepPos) (tail : List StepPos) → 0 < path_steps l → v ≤ MILLION →
    t + v < millionths l →
    Walks job left (l ∷ ls) t p → WayFrom job left (l ∷ ls) (t + v) (point l.path ((t + v) / MILLION)) (point l.path ((t + v) / MILLION) ∷ tail) →
    WayFrom job left (l ∷ ls) t p (p ∷ (emitted l.path (t / MILLION) ((t + v) / MILLION) ++ tail))
before_on job [] l ls t v p tail some small short w way = absurd way
before_on job (c ∷ cs) l ls t v p tail some small short w way =
    back_on job c.action cs l t v p tail w.fits.1 some small (omega (arith, short)) (w.here.1 some) way

before_arrival : (job : Job) (left next : List Command) (l : Queued) (ls : List Queued) (t over : ℕ) (p : StepPos) (tail : List StepPos) →
    next ≡ drop 1 left → 0 < path_steps l →
    GoesOver l ls over → path_steps l ≤ t / MILLION + 1 → Walks job left (l ∷ ls) t p →
    WayFrom job next ls over (point l.path (path_steps l)) (point l.path (path_steps l) ∷ tail) →
    WayFrom job left (l ∷ ls) t p (p ∷ (emitted l.path (t / MILLION) (path_steps l) ++ tail))
before_arrival job [] next l ls t over p tail e some g near w way = absurd w.fits
before_arrival job (c ∷ cs) next l ls t over p tail e some g near w way =
    let q = point l.path (path_steps l) in
    let short = w.short in
    back_arrived job c.action cs l t p tail w.fits.1 some (omega (arith, short)) near (w.here.1 some)
    (subst (λ n. IsPathOfAll job.machine.step q (ways_of (actions_of n)) (q ∷ tail)) e
    (all_way job next ls over q (q ∷ tail) (over_small l ls over g) (after_arrival job (c ∷ cs) next l ls t over p e some g w) way))

before_pass : (job : Job) (left next : List Command) (l : Queued) (ls : List Queued) (t : ℕ) (p : StepPos) (tail : List StepPos) → next ≡ drop 1 left →
    path_steps l ≡ 0 →
    Walks job left (l ∷ ls) t p → WayFrom job next ls 0 p (p ∷ tail) → WayFrom job left (l ∷ ls) t p (p ∷ tail)
before_pass job [] next l ls t p tail e z w way = absurd w.fits
before_pass job (c ∷ cs) next l ls t p tail e z w way =
    let short = w.short in
    back_passed job c.action cs l ls w.place t p tail w.joined w.fits.1 w.here (omega (arith, short)) z
    (subst (λ n. IsPathOfAll job.machine.step p (ways_of (actions_of n)) (p ∷ tail)) e
    (all_way job next ls 0 p (p ∷ tail) (omega arith) (after_pass job (c ∷ cs) next l ls t p e z w) way))

kept : (job : Job) (old new : Spot) (o : Outcome) → Effect job old new o → WalksIn job old → WalksIn job new
kept job old new o (stands e) w = subst (WalksIn job) (sym e.same) w
kept job old new o (grows e) w =
    subst (WalksIn job) (sym e.is)
    (walks_grown job (left_of job old.done) old.ring old.travelled old.position e.command e.path w
    (sym (get_left old.done (length old.ring) job.commands) ∙ e.next) e.takes)
kept job old new o (goes_on e) w =
    subst (WalksIn job) (sym e.is)
    (walks_on job (left_of job old.done) e.head e.others old.travelled e.rate old.position (subst (WalksIn job) e.was w) e.some e.short)
kept job old new o (arrives e) w =
    subst (WalksIn job) (sym e.is)
    (after_arrival job (left_of job old.done) (left_of job (suc old.done)) e.head e.others old.travelled e.over old.position (next_left old.done job.commands)
    e.some e.beyond (subst (WalksIn job) e.was w))
kept job old new o (passes e) w =
    subst (WalksIn job) (sym e.is)
    (after_pass job (left_of job old.done) (left_of job (suc old.done)) e.head e.others old.travelled old.position (next_left old.done job.commands) e.none
    (subst (WalksIn job) e.was w))

-- the remaining path of the next state begins with its position
abbrev WayOn : Job → List StepPos → Spot → Type 0
WayOn job tail s = WayIn job s (s.position ∷ tail)

back : (job : Job) (old new : Spot) (o : Outcome) (tail : List StepPos) → Effect job old new o → WalksIn job old → WayOn job tail new →
    WayOn job (position_in o ++ tail) old
back job old new o tail (stands e) w way =
    subst (λ out. WayOn job (out ++ tail) old) (sym e.silent) (subst (WayOn job tail) e.same way)
back job old new o tail (grows e) w way =
    subst (λ out. WayOn job (out ++ tail) old) (sym e.silent)
    (back_grown job (left_of job old.done) old.ring (record { command = e.command; path = e.path }) old.travelled old.position (old.position ∷ tail) w.short
    (subst (WalksIn job) e.is (kept job old new o (grows e) w)) (subst (WayOn job tail) e.is way))
back job old new o tail (goes_on e) w way =
    subst (WayOn job (position_in o ++ tail)) (sym e.was)
    (subst (λ out. WayOn job (out ++ tail) (spot_of old.done (e.head ∷ e.others) old.travelled old.position)) (sym e.emits)
    (before_on job (left_of job old.done) e.head e.others old.travelled e.rate old.position tail e.some e.small e.short
    (subst (WalksIn job) e.was w) (subst (WayOn job tail) e.is way)))
back job old new o tail (arrives e) w way =
    subst (WayOn job (position_in o ++ tail)) (sym e.was)
    (subst (λ out. WayOn job (out ++ tail) (spot_of old.done (e.head ∷ e.others) old.travelled old.position)) (sym e.emits)
    (before_arrival job (left_of job old.done) (left_of job (suc old.done)) e.head e.others old.travelled e.over old.position tail
    (next_left old.done job.commands) e.some e.beyond e.near
    (subst (WalksIn job) e.was w) (subst (WayOn job tail) e.is way)))
back job old new o tail (passes e) w way =
    subst (WayOn job (position_in o ++ tail)) (sym e.was)
    (subst (λ out. WayOn job (out ++ tail) (spot_of old.done (e.head ∷ e.others) old.travelled old.position)) (sym e.silent)
    (before_pass job (left_of job old.done) (left_of job (suc old.done)) e.head e.others old.travelled old.position tail
    (next_left old.done job.commands) e.none
    (subst (WalksIn job) e.was w) (subst (WayOn job tail) e.is way)))

-- ---- the end

last_of : (a : Action) (cs : List Command) → ends_program a ≡ true → IsLastIfEnd a cs → cs ≡ []
last_of actions.End cs h last = last
last_of _ cs h last = absurd (true≢false (sym h))

end_is_last : (n : ℕ) (cs : List Command) → EndIsLast cs → EndIsLast (drop n cs)
end_is_last zero cs h = h
end_is_last (suc n) [] h = tt
end_is_last (suc n) (c ∷ cs) h = end_is_last n cs h.1

nothing_left : (job : Job) (left next : List Command) (l : Queued) (ls : List Queued) → next ≡ drop 1 left → EndIsLast left → RingFits job left (l ∷ ls) →
    ends_program l.command.action ≡ true → next ≡ []
nothing_left job [] next l ls e last f h = absurd f
nothing_left job (c ∷ cs) next l ls e last f h = e ∙ last_of c.action cs (sym (ap (λ (k : Command). ends_program k.action) f.0) ∙ h) last.0

done_grows : (n : ℕ) (cs : List Command) → drop n cs ≡ [] → drop (suc n) cs ≡ []
done_grows n cs e = next_left n cs ∙ ap (drop 1) e

stays_over : (job : Job) (old new : Spot) (o : Outcome) → Effect job old new o → left_of job old.done ≡ [] → left_of job new.done ≡ []
stays_over job old new o (stands e) h = ap (λ (s : Spot). left_of job s.done) e.same ∙ h
stays_over job old new o (grows e) h = ap (λ (s : Spot). left_of job s.done) e.is ∙ h
stays_over job old new o (goes_on e) h = ap (λ (s : Spot). left_of job s.done) e.is ∙ h
stays_over job old new o (arrives e) h = ap (λ (s : Spot). left_of job s.done) e.is ∙ done_grows old.done job.commands h
stays_over job old new o (passes e) h = ap (λ (s : Spot). left_of job s.done) e.is ∙ done_grows old.done job.commands h

is_over : (job : Job) (old new : Spot) (o : Outcome) → EndIsLast job.commands → WalksIn job old → Effect job old new o → tells_end o ≡ true →
    left_of job new.done ≡ []
is_over job old new o last w (stands e) h = absurd (true≢false (sym h ∙ e.no_end))
is_over job old new o last w (grows e) h = absurd (true≢false (sym h ∙ e.no_end))
is_over job old new o last w (goes_on e) h = absurd (true≢false (sym h ∙ e.no_end))
is_over job old new o last w (arrives e) h =
    ap (λ (s : Spot). left_of job s.done) e.is
    ∙ nothing_left job (left_of job old.done) (left_of job (suc old.done)) e.head e.others (next_left old.done job.commands)
    (end_is_last old.done job.commands last)
    (subst (WalksIn job) e.was w).fits (e.ends h)
is_over job old new o last w (passes e) h =
    ap (λ (s : Spot). left_of job s.done) e.is
    ∙ nothing_left job (left_of job old.done) (left_of job (suc old.done)) e.head e.others (next_left old.done job.commands)
    (end_is_last old.done job.commands last)
    (subst (WalksIn job) e.was w).fits (e.ends h)

-- ---- runs

begun : (job : Job) (old : State) (es : List Event) (os : List Outcome) (states : List State) → IsMachine job.machine →
    AreArcs (ways_of (actions_of job.commands)) →
    WalksIn job (spot old) → Run job old es os states →
    (later : List StepPos) × WayOn job (positions os ++ later) (spot old)
begun job old [] [] [] m arcs w r = some_way job m.step (left_of job old.done) old.ring old.travelled old.position (arcs_left old.done job.commands arcs) w
begun job old [] [] (new ∷ states) m arcs w r = absurd r
begun job old [] (o ∷ os) states m arcs w r = absurd r
begun job old (e ∷ es) [] states m arcs w r = absurd r
begun job old (e ∷ es) (o ∷ os) [] m arcs w r = absurd r
begun job old (e ∷ es) (o ∷ os) (new ∷ states) m arcs w r =
    let x = effect_of job old e o new m w.short r.0 in
    let next = begun job new es os states m arcs (kept job (spot old) (spot new) o x w) r.1 in (
      next.0,
      subst (λ tail. WayOn job tail (spot old)) (sym (append_assoc (position_in o) (positions os) next.0))
          (back job (spot old) (spot new) o (positions os ++ next.0) x w next.1),
    )

abbrev the_end : Outcome
the_end = Ok (Ticked None (Some End))

first_or_later : (o : Outcome) (os : List Outcome) → Contains (o ∷ os) the_end → (tells_end o ≡ true) ⊎ Contains os the_end
first_or_later o os (zero, l, e) = inl (ap tells_end e)
first_or_later o os (suc k, l, e) = inr (k, omega (arith, l), e)

-- a run after which nothing remains
ended : (job : Job) (old : State) (es : List Event) (os : List Outcome) (states : List State) → IsMachine job.machine → EndIsLast job.commands →
    WalksIn job (spot old) →
    Run job old es os states → (left_of job old.done ≡ []) ⊎ Contains os the_end → WayOn job (positions os) (spot old)
ended job old [] [] [] m last w r (inl over) = no_way job (left_of job old.done) old.ring old.travelled old.position over w
ended job old [] [] [] m last w r (inr c) = absurd (omega (arith, c.1))
ended job old [] [] (new ∷ states) m last w r end = absurd r
ended job old [] (o ∷ os) states m last w r end = absurd r
ended job old (e ∷ es) [] states m last w r end = absurd r
ended job old (e ∷ es) (o ∷ os) [] m last w r end = absurd r
ended job old (e ∷ es) (o ∷ os) (new ∷ states) m last w r end =
    let x = effect_of job old e o new m w.short r.0 in
    let on = kept job (spot old) (spot new) o x w in
    let later : (left_of job new.done ≡ []) ⊎ Contains os the_end = goes_over job (spot old) (spot new) o os last w x end in
    back job (spot old) (spot new) o (positions os) x w (ended job new es os states m last on r.1 later)
  where
    goes_over : (job : Job) (old new : Spot) (o : Outcome) (os : List Outcome) → EndIsLast job.commands → WalksIn job old → Effect job old new o →
        (left_of job old.done ≡ []) ⊎ Contains (o ∷ os) the_end → (left_of job new.done ≡ []) ⊎ Contains os the_end
    goes_over job old new o os last w x (inl over) = inl (stays_over job old new o x over)
    goes_over job old new o os last w x (inr c) = elim (first_or_later o os c) [ inl now ↦ inl (is_over job old new o last w x now) | inr later ↦ inr later ]

-- ---- from the opening state

opens : (machine : MachineFile) (commands : List Command) → AreJoined machine.start (ways_of (actions_of commands)) →
    WalksIn (job_of machine commands) (spot (opening machine))
opens machine commands j = begins (job_of machine commands) commands [] machine.start 0 (start_of_job (job_of machine commands)) j tt refl (omega arith) refl

-- The positions of a run begin a path of the program.
pub way_begins : (machine : MachineFile) (commands : List Command) → IsMachine machine → AreArcs (ways_of (actions_of commands)) →
    AreJoined machine.start (ways_of (actions_of commands)) →
    (events : List Event) (outcomes : List Outcome) (states : List State) → Run (job_of machine commands) (opening machine) events outcomes states →
    BeginPath (job_of machine commands) (start_of_job (job_of machine commands) ∷ positions outcomes)
way_begins machine commands m arcs j events outcomes states r =
    begun (job_of machine commands) (opening machine) events outcomes states m arcs (opens machine commands j) r

-- When the end is reported they are a whole path.
pub way_ended : (machine : MachineFile) (commands : List Command) → IsMachine machine → AreJoined machine.start (ways_of (actions_of commands)) →
    EndIsLast commands →
    (events : List Event) (outcomes : List Outcome) (states : List State) → Run (job_of machine commands) (opening machine) events outcomes states →
    Contains outcomes (Ok (Ticked None (Some End))) → AreWholePath (job_of machine commands) (start_of_job (job_of machine commands) ∷ positions outcomes)
way_ended machine commands m j last events outcomes states r end =
    ended (job_of machine commands) (opening machine) events outcomes states m last (opens machine commands j) r (inr end)
