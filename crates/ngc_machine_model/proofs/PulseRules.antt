-- The ticks of a run follow the joined paths of its motions: each path step is a million that the
-- travelled millionths fill.
use Rattle.std.proofs.Common.{◌≡◌, ℕ, zero, suc, ◌+◌, ◌-◌, ◌*◌, ◌/◌, ◌<◌, ◌≤◌, inl, inr, ap, subst, sym, ◌∙◌, arith, refl, List, [], ◌∷◌, ◌++◌, length, drop}
use Rattle.std.proofs.Common.{Some, None, true, false, Bool, cond, ℤ}
use Rattle.std.specs.Prelude.{Option, MatchBool, nat_lt, nat_le, slice_get, take, unsigned_abs, ◌-ℤ◌, ◌||◌}
use Rattle.std.proofs.lemmas.Bool.{cases_lt, cases_Bool, or_parts, or_from, ltb-false, le-ltb, false≢true}
use Rattle.std.proofs.lemmas.Bool.Decides.{nat_tests}
use Rattle.std.proofs.lemmas.Int.{ints}
use Rattle.ngc_fixed_length.specs.declared.points.StepPos.{StepPos}
use Rattle.ngc_fixed_length.specs.declared.points.Point3.{Point3}
use Rattle.ngc_fixed_length.specs.Grid.{grid}
use Rattle.ngc_fixed_length.specs.LinePath.{point, IsUnitMove}
use Rattle.ngc_commands.specs.declared.command.Command.{Command}
use Rattle.ngc_commands.specs.Movement.{actions_of, ways_of, end_of, AreJoined}
use Rattle.ngc_commands.specs.declared.command.Action.{Action}
use Rattle.ngc_commands.specs.declared.command.Action.TheVariants.{Move}
use Rattle.ngc_fixed_length.specs.Limits.{MILLION}
use Rattle.ngc_planner.specs.Pulses.{is_stepping, is_path_step}
use Rattle.ngc_events.specs.declared.event.Event.{Event}
use Rattle.ngc_events.specs.declared.event.Event.TheVariants.{Load, Tick, Hold, Resume, Override, StopSwitch, Start}
use Rattle.ngc_machine_model.specs.State.{Job, Queued, State, opening, loaded, command_at, path_steps, millionths}
use Rattle.ngc_machine_model.specs.Step.{Outcome, Step, LoadCommand, MayTake, Rests, Finishes, Dwells, Serves, Travels, HeadTick, TickBy, without_head, after}
use Rattle.ngc_machine_model.specs.Step.{place_after, ticks_of}
use Rattle.ngc_machine_model.specs.Run.{Run, step_to, pulses}
use Rattle.ngc_machine_model.specs.Safety.{TickKeeps, KeepRates}
use Rattle.ngc_machine_model.specs.Progress.{is_tick}
use Rattle.ngc_machine_model.proofs.TestCases.{match_with}
use Rattle.ngc_machine_model.proofs.SafeRun.{RingFits, one_more}
use Rattle.ngc_machine_model.proofs.Heads.{next_at, has_ends}
use Rattle.ngc_machine_model.proofs.RatesOfRun.{Fits, GoesOver, after_stays, event_keeps, flows_some, goes_over, over_small, none_over}
use Rattle.ngc_machine_model.proofs.Travel.{moved}
use Rattle.ngc_machine_model.proofs.Windows.{ArePaced}

-- ---- path steps

same_axis : (a b : ℤ) → is_stepping (b -ℤ a) ≡ false → a ≡ b
same_axis a b h = let l : unsigned_abs (b -ℤ a) ≤ 0 = ltb-false 0 (unsigned_abs (b -ℤ a)) h in omega (arith, ints, l)

pub still_axis : (a : ℤ) → is_stepping (a -ℤ a) ≡ false
still_axis a = le-ltb 0 (unsigned_abs (a -ℤ a)) (omega (arith, ints))

abbrev made : ℤ → ℤ → ℤ → StepPos
made x y z = record { x = x; y = y; z = z }

same_place : (p q : StepPos) → p.x ≡ q.x → p.y ≡ q.y → p.z ≡ q.z → p ≡ q
same_place p q x y z = ap (λ t. made t p.y p.z) x ∙ ap (λ t. made q.x t p.z) y ∙ ap (λ t. made q.x q.y t) z

no_step : (p q : StepPos) → is_path_step (step_to p q) ≡ false → p ≡ q
no_step p q h =
    let a = or_parts (is_stepping (q.x -ℤ p.x)) (is_stepping (q.y -ℤ p.y) || is_stepping (q.z -ℤ p.z)) h in
    let b = or_parts (is_stepping (q.y -ℤ p.y)) (is_stepping (q.z -ℤ p.z)) a.1 in
    same_place p q (same_axis p.x q.x a.0) (same_axis p.y q.y b.0) (same_axis p.z q.z b.1)

still_step : (p : StepPos) → is_path_step (step_to p p) ≡ false
still_step p = or_from (is_stepping (p.x -ℤ p.x)) (is_stepping (p.y -ℤ p.y) || is_stepping (p.z -ℤ p.z)) (still_axis p.x)
    (or_from (is_stepping (p.y -ℤ p.y)) (is_stepping (p.z -ℤ p.z)) (still_axis p.y) (still_axis p.z))

unit_step : (p q : StepPos) → IsUnitMove p q → is_path_step (step_to p q) ≡ true
unit_step p q u = elim (cases_Bool (is_path_step (step_to p q))) [
  | inl h ↦ h
  | inr h ↦ absurd (u.moves (no_step p q h))
]

-- ---- the state between two events

-- on the path of the head
abbrev pub IsOnHead : List Queued → ℕ → StepPos → Type 0
IsOnHead [] travelled position = ⊥
IsOnHead (l ∷ ls) travelled position = position ≡ point l.path (travelled / MILLION)

-- the remaining commands, and the position where the first of their motions begins
pub record Walks (job : Job) (done : ℕ) (ring : List Queued) (travelled : ℕ) (position : StepPos) : Type 0 where
  pub left : List Command
  pub place : Point3
  pub at : (k : ℕ) → command_at job (done + k) ≡ slice_get left k
  pub joined : AreJoined place (ways_of (actions_of left))
  pub fits : RingFits job left ring
  pub begins : travelled ≡ 0 → position ≡ grid job.machine.step place
  pub goes_on : 0 < travelled → IsOnHead ring travelled position

abbrev pub WalksIn : Job → State → Type 0
WalksIn job s = Walks job s.done s.ring s.travelled s.position

-- the head is a motion, if it has path steps
begins_at : (job : Job) (d : Action) (actions : List Action) (path : List StepPos) (place : Point3) → AreJoined place (ways_of (d ∷ actions)) →
    MayTake job d path →
    0 < length path - 1 → point path 0 ≡ grid job.machine.step place
begins_at job (Move m) actions path place joined take p = (has_ends job m.way path take).starts ∙ ap (grid job.machine.step) joined.0
begins_at job _ actions path place joined take p = absurd (let e = ap length take in omega (arith, e, p))

unit_at : (job : Job) (d : Action) (path : List StepPos) (k : ℕ) → MayTake job d path → k < length path - 1 → IsUnitMove (point path k) (point path (k + 1))
unit_at job (Move m) path k take h = (has_ends job m.way path take).unit_moves k h
unit_at job _ path k take h = absurd (let e = ap length take in omega (arith, e, h))

-- the next motion begins where the head's path ends
abbrev Continues : Job → List Action → StepPos → Type 0
Continues job actions p = (next : Point3) × AreJoined next (ways_of actions) × (p ≡ grid job.machine.step next)

ends_at_next : (job : Job) (d : Action) (actions : List Action) (path : List StepPos) (place : Point3) → AreJoined place (ways_of (d ∷ actions)) →
    MayTake job d path →
    0 < length path - 1 → Continues job actions (point path (length path - 1))
ends_at_next job (Move m) actions path place joined take p = (end_of m.way, joined.1, (has_ends job m.way path take).ends)
ends_at_next job _ actions path place joined take p = absurd (let e = ap length take in omega (arith, e, p))

stays_at_next : (job : Job) (d : Action) (actions : List Action) (path : List StepPos) (place : Point3) (p : StepPos) →
    AreJoined place (ways_of (d ∷ actions)) → MayTake job d path →
    length path - 1 ≡ 0 → p ≡ grid job.machine.step place → Continues job actions p
stays_at_next job (Move m) actions path place p joined take z e =
    let h = has_ends job m.way path take in
    (end_of m.way, joined.1, e ∙ ap (grid job.machine.step) (sym joined.0) ∙ sym h.starts ∙ ap (point path) (sym z) ∙ h.ends)
stays_at_next job _ actions path place p joined take z e = (place, joined, e)

-- ---- a tick

-- the position after a tick, the million that it fills, and the whole millions that end with a motion
pub record Advances (old new : State) : Type 0 where
  pub counts : cond (is_path_step (step_to old.position new.position)) 1 0 + old.travelled / MILLION ≡ (old.travelled + new.rate) / MILLION
  pub whole : ℕ
  pub goes_on : whole * MILLION + new.travelled ≡ old.travelled + new.rate

abbrev pub Both : Job → State → State → Type 0
Both job old new = Advances old new × WalksIn job new

abbrev passes : Bool → ℕ
passes b = cond b 1 0

-- nothing moves
still_advances : (old new : State) → new.position ≡ old.position → new.rate ≡ 0 → new.travelled ≡ old.travelled → Advances old new
still_advances old new p r t =
    let s : is_path_step (step_to old.position new.position) ≡ false =
    subst (λ q. is_path_step (step_to old.position q) ≡ false) (sym p) (still_step old.position) in
    let c : passes (is_path_step (step_to old.position new.position)) ≡ 0 = ap passes s in
    record { counts = omega (arith, c, r); whole = 0; goes_on = omega (arith, r, t) }

-- from point k of a path to point j, the same or the next
path_advances : (old new : State) (path : List StepPos) → old.position ≡ point path (old.travelled / MILLION) →
    new.position ≡ point path ((old.travelled + new.rate) / MILLION) → new.rate ≤ MILLION →
    ((old.travelled / MILLION) < ((old.travelled + new.rate) / MILLION) →
    IsUnitMove (point path (old.travelled / MILLION)) (point path (old.travelled / MILLION + 1))) →
    cond (is_path_step (step_to old.position new.position)) 1 0 + old.travelled / MILLION ≡ (old.travelled + new.rate) / MILLION
path_advances old new path at there small unit =
    elim (cases_lt (old.travelled / MILLION) ((old.travelled + new.rate) / MILLION)) [
      | inl h ↦
          let k : (old.travelled + new.rate) / MILLION ≡ old.travelled / MILLION + 1 = omega (arith, h, small) in
          let u : IsUnitMove old.position new.position = subst (λ p. IsUnitMove p new.position) (sym at)
          (subst (IsUnitMove (point path (old.travelled / MILLION))) (sym (there ∙ ap (point path) k)) (unit h)) in
          let c : passes (is_path_step (step_to old.position new.position)) ≡ 1 = ap passes (unit_step old.position new.position u) in
          omega (arith, c, k)
      | inr h ↦
          let k : (old.travelled + new.rate) / MILLION ≡ old.travelled / MILLION = omega (arith, h) in
          let e : new.position ≡ old.position = there ∙ ap (point path) k ∙ sym at in
          let s : is_path_step (step_to old.position new.position) ≡ false =
          subst (λ q. is_path_step (step_to old.position q) ≡ false) (sym e) (still_step old.position) in
          let c : passes (is_path_step (step_to old.position new.position)) ≡ 0 = ap passes s in
          omega (arith, c, k)
    ]

at_state : (job : Job) (s : State) (done : ℕ) (ring : List Queued) (travelled : ℕ) (position : StepPos) → s.done ≡ done → s.ring ≡ ring →
    s.travelled ≡ travelled →
    s.position ≡ position → Walks job done ring travelled position → WalksIn job s
at_state job s done ring travelled position d r t p w =
    subst (λ x. Walks job x s.ring s.travelled s.position) (sym d)
    (subst (λ x. Walks job done x s.travelled s.position) (sym r)
    (subst (λ x. Walks job done ring x s.position) (sym t)
    (subst (λ x. Walks job done ring travelled x) (sym p) w)))

-- the distance beyond the path of l stays at the first point of the next one
on_next : (job : Job) (l : Queued) (ring : List Queued) (over : ℕ) (position : StepPos) (cs : List Command) (place : Point3) →
    AreJoined place (ways_of (actions_of cs)) →
    RingFits job cs ring → position ≡ grid job.machine.step place → GoesOver l ring over → 0 < over → IsOnHead ring over position
on_next job l [] over position cs place joined fits e g h = absurd (omega (arith, g, h))
on_next job l (k ∷ ks) over position [] place joined fits e g h = absurd fits
on_next job l (k ∷ ks) over position (c ∷ cs) place joined fits e g h =
    let into = g h in
    let small = into.1 in
    let first : 0 ≡ over / MILLION = omega (arith, small) in
    e ∙ sym (begins_at job c.action (actions_of cs) k.path place joined fits.1 (flows_some l k into.0)) ∙ ap (point k.path) first

next_walks : (job : Job) (done : ℕ) (l : Queued) (ring : List Queued) (over : ℕ) (position : StepPos) (cs : List Command) →
    ((k : ℕ) → command_at job (done + k) ≡ slice_get cs k) → RingFits job cs ring → Continues job (actions_of cs) position → GoesOver l ring over →
    Walks job done ring over position
next_walks job done l ring over position cs at fits c g = record {
  left = cs;
  place = c.0;
  at = at;
  joined = c.1;
  fits = fits;
  begins = λ e. c.2;
  goes_on = λ h. on_next job l ring over position cs c.0 c.1 fits c.2 g h;
}

pub head_path : (job : Job) (l : Queued) (ls : List Queued) (left : List Command) (place : Point3) (travelled : ℕ) (position : StepPos) →
    AreJoined place (ways_of (actions_of left)) → RingFits job left (l ∷ ls) → 0 < path_steps l → (travelled ≡ 0 → position ≡ grid job.machine.step place) →
    (0 < travelled → position ≡ point l.path (travelled / MILLION)) → position ≡ point l.path (travelled / MILLION)
head_path job l ls [] place travelled position joined fits p begins goes_on = absurd fits
head_path job l ls (c ∷ cs) place zero position joined fits p begins goes_on =
    let z : zero / MILLION ≡ 0 = omega arith in
    begins refl ∙ sym (begins_at job c.action (actions_of cs) l.path place joined fits.1 p) ∙ ap (point l.path) (sym z)
head_path job l ls (c ∷ cs) place (suc n) position joined fits p begins goes_on = goes_on (omega arith)

head_units : (job : Job) (l : Queued) (ls : List Queued) (left : List Command) (k : ℕ) → RingFits job left (l ∷ ls) → k < path_steps l →
    IsUnitMove (point l.path k) (point l.path (k + 1))
head_units job l ls [] k fits h = absurd fits
head_units job l ls (c ∷ cs) k fits h = unit_at job c.action l.path k fits.1 h

travel_advances : (job : Job) (l : Queued) (ls : List Queued) (old : State) (o : Outcome) (new : State) → old.ring ≡ l ∷ ls → old.travelled ≤ millionths l - 1 →
    new.rate ≤ MILLION → 0 < path_steps l → WalksIn job old → Travels job l ls old o new → Advances old new
travel_advances job l ls old o new e f small p walks t =
    let m = moved job l ls old o new t in
    let over = over_small l ls (old.travelled + new.rate - millionths l) (goes_over job l ls old o new small p f t) in
    let place : place_after l old new.rate ≡ (old.travelled + new.rate) / MILLION = omega (arith, over) in
    let fits : RingFits job walks.left (l ∷ ls) = subst (RingFits job walks.left) e walks.fits in
    let at = head_path job l ls walks.left walks.place old.travelled old.position walks.joined fits p walks.begins
    (λ h. subst (λ r. IsOnHead r old.travelled old.position) e (walks.goes_on h)) in
    let c = path_advances old new l.path at (m.position ∙ ap (point l.path) place) small
    (λ h. head_units job l ls walks.left (old.travelled / MILLION) fits (omega (arith, p, f))) in
    elim (m.state) [
      | inl s ↦ let full = s.0 in let left = s.3 in record { counts = c; whole = path_steps l; goes_on = omega (arith, full, left) }
      | inr s ↦ record { counts = c; whole = 0; goes_on = omega (arith, s.2) }
    ]

travel_walks : (job : Job) (l : Queued) (ls : List Queued) (old : State) (o : Outcome) (new : State) → old.ring ≡ l ∷ ls → old.travelled ≤ millionths l - 1 →
    new.rate ≤ MILLION → 0 < path_steps l → (left : List Command) (place : Point3) → ((k : ℕ) → command_at job (old.done + k) ≡ slice_get left k) →
    AreJoined place (ways_of (actions_of left)) → RingFits job left (l ∷ ls) → Travels job l ls old o new → WalksIn job new
travel_walks job l ls old o new e f small p [] place at joined fits t = absurd fits
travel_walks job l ls old o new e f small p (c ∷ cs) place at joined fits t =
    let m = moved job l ls old o new t in
    let over = old.travelled + new.rate - millionths l in
    elim (m.state) [
      | inl s ↦
          let full = s.0 in
          let k : place_after l old new.rate ≡ path_steps l = omega (arith, full) in
          at_state job new (suc old.done) ls over (point l.path (path_steps l)) s.1 (s.2 ∙ ap (drop 1) e) s.3 (m.position ∙ ap (point l.path) k)
          (next_walks job (suc old.done) l ls over (point l.path (path_steps l)) cs (next_at job old.done c cs at) fits.2
          (ends_at_next job c.action (actions_of cs) l.path place joined fits.1 p) (goes_over job l ls old o new small p f t))
      | inr s ↦
          let short = s.3 in
          let k : place_after l old new.rate ≡ (old.travelled + new.rate) / MILLION = omega (arith, short) in
          at_state job new old.done (l ∷ ls) (old.travelled + new.rate) (point l.path ((old.travelled + new.rate) / MILLION)) s.0 (s.1 ∙ e) s.2
          (m.position ∙ ap (point l.path) k) (record {
            left = c ∷ cs;
            place = place;
            at = at;
            joined = joined;
            fits = fits;
            begins = λ z. let k : (old.travelled + new.rate) / MILLION ≡ 0 = omega (arith, z) in
                ap (point l.path) k ∙ begins_at job c.action (actions_of cs) l.path place joined fits.1 p;
            goes_on = λ h. refl;
          })
    ]

finish_walks : (job : Job) (l : Queued) (ls : List Queued) (done : ℕ) (travelled : ℕ) (position : StepPos) → path_steps l ≡ 0 → travelled ≡ 0 →
    (left : List Command) (place : Point3) → ((k : ℕ) → command_at job (done + k) ≡ slice_get left k) → AreJoined place (ways_of (actions_of left)) →
    RingFits job left (l ∷ ls) → position ≡ grid job.machine.step place → Walks job (suc done) ls 0 position
finish_walks job l ls done travelled position z t [] place at joined fits b = absurd fits
finish_walks job l ls done travelled position z t (c ∷ cs) place at joined fits b =
    next_walks job (suc done) l ls 0 position cs (next_at job done c cs at) fits.2
    (stays_at_next job c.action (actions_of cs) l.path place position joined fits.1 z b) (none_over l ls)

finish_both : (job : Job) (l : Queued) (ls : List Queued) (old new : State) → old.ring ≡ l ∷ ls → old.travelled ≤ millionths l - 1 → path_steps l ≡ 0 →
    WalksIn job old →
    new ≡ after l.command.action (record (without_head 0 old) { rate = 0 }) → Both job old new
finish_both job l ls old new e f z walks n =
    let a = after_stays l.command.action (record (without_head 0 old) { rate = 0 }) in
    let t : old.travelled ≡ 0 = omega (arith, f, z) in
    let done : new.done ≡ suc old.done = ap (λ (s : State). s.done) n ∙ a.0 in
    let ring : new.ring ≡ ls = ap (λ (s : State). s.ring) n ∙ a.1 ∙ ap (drop 1) e in
    let travelled : new.travelled ≡ 0 = ap (λ (s : State). s.travelled) n ∙ a.2 in
    let position : new.position ≡ old.position = ap (λ (s : State). s.position) n ∙ a.3 in
    let rate : new.rate ≡ 0 = ap (λ (s : State). s.rate) n ∙ a.4 in (
      still_advances old new position rate (travelled ∙ sym t),
      at_state job new (suc old.done) ls 0 old.position done ring travelled position
          (finish_walks job l ls old.done old.travelled old.position z t walks.left walks.place walks.at walks.joined
          (subst (RingFits job walks.left) e walks.fits) (walks.begins t)),
    )

rest_both : (job : Job) (old new : State) → WalksIn job old → new ≡ record old { rate = 0 } → Both job old new
rest_both job old new walks n = subst (Both job old) (sym n) (still_advances old (record old { rate = 0 }) refl refl refl, walks)

head_both : (job : Job) (l : Queued) (ls : List Queued) (old : State) (o : Outcome) (new : State) → old.ring ≡ l ∷ ls → old.travelled ≤ millionths l - 1 →
    new.rate ≤ MILLION →
    WalksIn job old → HeadTick job l ls old o new → Both job old new
head_both job l ls old o new e f small walks t =
    elim (match_with (nat_lt 0 (path_steps l)) (Travels job l ls old o new)
    (MatchBool old.held (Rests old o new) (Serves job l.command.action old o new)) t) [
      | inl u ↦
          let p : 0 < path_steps l = let b = u.0 in grind (arith, nat_tests) in (
            travel_advances job l ls old o new e f small p walks u.1,
            travel_walks job l ls old o new e f small p walks.left walks.place walks.at walks.joined (subst (RingFits job walks.left) e walks.fits) u.1,
          )
      | inr u ↦ elim (match_with old.held (Rests old o new) (Serves job l.command.action old o new) u.1) [
        | inl r ↦ rest_both job old new walks r.1.stands
        | inr r ↦ elim (match_with (nat_lt (suc old.dwelt) (ticks_of job l.command.action)) (Dwells old o new)
            (Finishes l.command.action old o new) r.1) [
              | inl d ↦ subst (Both job old) (sym d.1.counts) (still_advances old (record old { rate = 0; dwelt = suc old.dwelt }) refl refl refl, walks)
              | inr d ↦ finish_both job l ls old new e f (let b = u.0 in grind (arith, nat_tests)) walks d.1.goes_on
            ]
      ]
    ]

pub tick_both : (job : Job) (stopped : Bool) (ring : List Queued) (old : State) (o : Outcome) (new : State) → old.ring ≡ ring → Fits ring old.travelled →
    new.rate ≤ MILLION →
    WalksIn job old → TickBy job stopped ring old o new → Both job old new
tick_both job true ring old o new e f small walks t = rest_both job old new walks t.stands
tick_both job false [] old o new e f small walks t = rest_both job old new walks t.stands
tick_both job false (l ∷ ls) old o new e f small walks t = head_both job l ls old o new e f small walks t

-- ---- other events

still_on : (ring : List Queued) (l : Queued) (travelled : ℕ) (position : StepPos) → IsOnHead ring travelled position →
    IsOnHead (ring ++ l ∷ []) travelled position
still_on [] l travelled position h = absurd h
still_on (k ∷ ks) l travelled position h = h

load_walks : (job : Job) (old : State) (next : Option Command) (o : Outcome) (new : State) → command_at job (loaded old) ≡ next → WalksIn job old →
    LoadCommand job old next o new → WalksIn job new
load_walks job old None o new e walks t = subst (WalksIn job) (sym t.1) walks
load_walks job old (Some c) o new e walks t =
    elim (match_with (nat_lt (length old.ring) job.machine.ring) _ _ t) [
      | inl u ↦
          let l : Queued = record { command = c; path = u.1.0 } in
          subst (WalksIn job) (sym u.1.3)
          (record {
            left = walks.left;
            place = walks.place;
            at = walks.at;
            joined = walks.joined;
            fits = one_more job walks.left old.ring c u.1.0 walks.fits (sym (walks.at (length old.ring)) ∙ e) u.1.1;
            begins = walks.begins;
            goes_on = λ h. still_on old.ring l old.travelled old.position (walks.goes_on h);
          })
      | inr u ↦ subst (WalksIn job) (sym u.1.1) walks
    ]

-- ---- runs

-- the greatest rate of a tick
pub rate_most : (job : Job) (ring : List Queued) (old : State) (v : ℕ) → TickKeeps job ring old v → v ≤ job.machine.max_rate
rate_most job [] old v k = let z = k.0 in omega (arith, z)
rate_most job (l ∷ ls) old v k = k.within.greatest

-- the rates at which a list of ticks continues from a state
abbrev pub Goes : Job → ℕ → State → List StepPos → Type 0
Goes job q s ticks = (vs : List ℕ) × ArePaced is_path_step job.machine.change (q * MILLION + s.travelled) s.rate vs ticks

-- an event that isn't a tick
abbrev pub Waits : Job → State → State → Type 0
Waits job old new = WalksIn job new × (new.travelled ≡ old.travelled) × (new.rate ≡ old.rate)

load_waits : (job : Job) (old : State) (next : Option Command) (o : Outcome) (new : State) → LoadCommand job old next o new →
    (new.travelled ≡ old.travelled) × (new.rate ≡ old.rate)
load_waits job old None o new t = (ap (λ (s : State). s.travelled) t.1, ap (λ (s : State). s.rate) t.1)
load_waits job old (Some c) o new t =
    elim (match_with (nat_lt (length old.ring) job.machine.ring) _ _ t) [
      | inl u ↦ (ap (λ (s : State). s.travelled) u.1.3, ap (λ (s : State). s.rate) u.1.3)
      | inr u ↦ (ap (λ (s : State). s.travelled) u.1.1, ap (λ (s : State). s.rate) u.1.1)
    ]

goes_on_from : (job : Job) (q : ℕ) (old new : State) (ticks : List StepPos) → Waits job old new → Goes job q new ticks → Goes job q old ticks
goes_on_from job q old new ticks w g = (
  g.0,
  subst (λ t. ArePaced is_path_step job.machine.change (q * MILLION + t) old.rate g.0 ticks) w.1
      (subst (λ r. ArePaced is_path_step job.machine.change (q * MILLION + new.travelled) r g.0 ticks) w.2 g.1),
)

pub waits : (job : Job) (old : State) (e : Event) (o : Outcome) (new : State) → is_tick e ≡ false → WalksIn job old → Step job old e o new → Waits job old new
waits job old Tick o new n walks t = absurd (false≢true (sym n))
waits job old Load o new n walks t =
    let w = load_waits job old (command_at job (loaded old)) o new t in
    (load_walks job old (command_at job (loaded old)) o new refl walks t, w.0, w.1)
waits job old Hold o new n walks t = subst (Waits job old) (sym t.1) (walks, refl, refl)
waits job old Resume o new n walks t = subst (Waits job old) (sym t.1) (walks, refl, refl)
waits job old Start o new n walks t = subst (Waits job old) (sym t.1) (walks, refl, refl)
waits job old (StopSwitch on) o new n walks t = subst (Waits job old) (sym t.1) (walks, refl, refl)
waits job old (Override n) o new z walks t = elim (match_with (nat_le n 200) _ _ t) [
  | inl u ↦ subst (Waits job old) (sym u.1.1) (walks, refl, refl)
  | inr u ↦ subst (Waits job old) (sym u.1.1) (walks, refl, refl)
]

pub run_goes : (job : Job) (q : ℕ) (old : State) (es : List Event) (os : List Outcome) (states : List State) → job.machine.max_rate ≤ MILLION →
    Fits old.ring old.travelled →
    WalksIn job old → KeepRates job old es states → Run job old es os states → Goes job q old (pulses old.position es states)
run_goes job q old [] os states m f w keeps r = ([], tt)
run_goes job q old (e ∷ es) os [] m f w keeps r = ([], tt)
run_goes job q old (e ∷ es) [] (new ∷ states) m f w keeps r = absurd r
run_goes job q old (Tick ∷ es) (o ∷ os) (new ∷ states) m f w keeps r =
    let k = event_keeps job old Tick o new m f r.0 in
    let most = rate_most job old.ring old new.rate k.0 in
    let near = keeps.1 in
    let t = tick_both job old.stopped old.ring old o new refl f (omega (arith, most, m)) w r.0 in
    let c = t.0.counts in let g = t.0.goes_on in
    let i = run_goes job (q + t.0.whole) new es os states m k.1 t.1 keeps.2 r.1 in
    let s : (q + t.0.whole) * MILLION + new.travelled ≡ q * MILLION + old.travelled + new.rate = omega (arith, g) in (
      new.rate ∷ i.0,
      (
        record { faster = near.faster; slower = near.slower; counts = omega (arith, c) },
        subst (λ x. ArePaced is_path_step job.machine.change x new.rate i.0 (pulses new.position es states)) s i.1,
      ),
    )
run_goes job q old (Load ∷ es) (o ∷ os) (new ∷ states) m f w keeps r =
    let n = waits job old Load o new refl w r.0 in let k = event_keeps job old Load o new m f r.0 in
    goes_on_from job q old new (pulses new.position es states) n (run_goes job q new es os states m k.1 n.0 keeps.2 r.1)
run_goes job q old (Hold ∷ es) (o ∷ os) (new ∷ states) m f w keeps r =
    let n = waits job old Hold o new refl w r.0 in let k = event_keeps job old Hold o new m f r.0 in
    goes_on_from job q old new (pulses new.position es states) n (run_goes job q new es os states m k.1 n.0 keeps.2 r.1)
run_goes job q old (Resume ∷ es) (o ∷ os) (new ∷ states) m f w keeps r =
    let n = waits job old Resume o new refl w r.0 in let k = event_keeps job old Resume o new m f r.0 in
    goes_on_from job q old new (pulses new.position es states) n (run_goes job q new es os states m k.1 n.0 keeps.2 r.1)
run_goes job q old (Start ∷ es) (o ∷ os) (new ∷ states) m f w keeps r =
    let n = waits job old Start o new refl w r.0 in let k = event_keeps job old Start o new m f r.0 in
    goes_on_from job q old new (pulses new.position es states) n (run_goes job q new es os states m k.1 n.0 keeps.2 r.1)
run_goes job q old (StopSwitch on ∷ es) (o ∷ os) (new ∷ states) m f w keeps r =
    let n = waits job old (StopSwitch on) o new refl w r.0 in let k = event_keeps job old (StopSwitch on) o new m f r.0 in
    goes_on_from job q old new (pulses new.position es states) n (run_goes job q new es os states m k.1 n.0 keeps.2 r.1)
run_goes job q old (Override p ∷ es) (o ∷ os) (new ∷ states) m f w keeps r =
    let n = waits job old (Override p) o new refl w r.0 in let k = event_keeps job old (Override p) o new m f r.0 in
    goes_on_from job q old new (pulses new.position es states) n (run_goes job q new es os states m k.1 n.0 keeps.2 r.1)

pub opening_walks : (job : Job) → AreJoined job.machine.start (ways_of (actions_of job.commands)) → WalksIn job (opening job.machine)
opening_walks job joined = record {
  left = job.commands;
  place = job.machine.start;
  at = λ k. let e : 0 + k ≡ k = omega arith in ap (command_at job) e;
  joined = joined;
  fits = tt;
  begins = λ e. refl;
  goes_on = λ h. absurd (omega (arith, h));
}
