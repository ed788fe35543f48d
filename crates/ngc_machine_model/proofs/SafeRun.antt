-- Every state of a run is safe if a certificate is valid for the commands.
use Rattle.std.proofs.Common.{◌≡◌, ℕ, suc, ◌+◌, ◌-◌, ◌*◌, ◌<◌, ◌≤◌, inl, inr, ap, subst, sym, ◌∙◌, arith, refl, List, [], ◌∷◌, ◌++◌, length, drop, Some, None}
use Rattle.std.proofs.Common.{true, false, pos, ◌≤ℤ◌}
use Rattle.std.specs.Prelude.{if◌then◌else◌, Option, Bool, MatchBool, nat_lt, nat_le, slice_get}
use Rattle.std.proofs.lemmas.Bool.Decides.{nat_tests}
use Rattle.ngc_fixed_length.specs.declared.points.StepPos.{StepPos}
use Rattle.ngc_fixed_length.specs.declared.points.Point3.{Point3}
use Rattle.ngc_fixed_length.specs.Grid.{grid, greatest_distance}
use Rattle.ngc_fixed_length.specs.LinePath.{point}
use Rattle.ngc_commands.specs.declared.command.Command.{Command}
use Rattle.ngc_machine_files.specs.declared.tools.Tool.{Tool}
use Rattle.ngc_commands.specs.Sequence.{HaveEvenRadii}
use Rattle.ngc_commands.specs.Movement.{actions_of, ways_of, start_of, end_of, AreJoined}
use Rattle.ngc_commands.specs.declared.movement.Way.{Way}
use Rattle.ngc_commands.specs.declared.movement.Way.TheVariants.{Line, Arc}
use Rattle.ngc_commands.specs.declared.command.Action.{Action}
use Rattle.ngc_commands.specs.declared.command.Action.TheVariants.{Move, Mount}
use Rattle.ngc_commands.specs.ProgramPath.{IsPathOf}
use Rattle.ngc_collision.specs.Body.{IsSafe, IsClearAt}
use Rattle.ngc_certificate_text.specs.Certificate.{Entry}
use Rattle.ngc_certificate.specs.Valid.{AreClearFrom}
use Rattle.ngc_certificate.proofs.SafeOnPath.{safe_on_path}
use Rattle.ngc_events.specs.declared.event.Event.{Event}
use Rattle.ngc_events.specs.declared.event.Event.TheVariants.{Load, Tick, Hold, Resume, Override, StopSwitch, Start}
use Rattle.ngc_machine_model.specs.State.{Job, Queued, State, loaded, command_at, path_steps, millionths, change_of}
use Rattle.ngc_machine_model.specs.Step.{Outcome, Step, LoadCommand, MayTake, Rests, Finishes, Dwells, Serves, Travels, HeadTick, TickBy, without_head, after}
use Rattle.ngc_machine_model.specs.Step.{place_after, ticks_of}
use Rattle.ngc_machine_model.specs.Run.{Run}
use Rattle.ngc_machine_model.specs.Safety.{AreSafe}
use Rattle.ngc_machine_model.proofs.TestCases.{match_with}
use Rattle.ngc_machine_model.proofs.Heads.{next_at}

-- the loaded commands begin the remaining ones, each with a path that it may take
abbrev pub RingFits : Job → List Command → List Queued → Type 0
RingFits job cs [] = Unit {0}
RingFits job [] (l ∷ ls) = ⊥
RingFits job (c ∷ cs) (l ∷ ls) = (l.command ≡ c) × MayTake job c.action l.path × RingFits job cs ls

-- the head, if there is one, has no path steps
abbrev pub NoSteps : List Queued → Type 0
NoSteps [] = Unit {0}
NoSteps (l ∷ ls) = path_steps l ≡ 0

-- the invariant between two events: the remaining commands and entries, and the position where the
-- next motion begins
pub record Holds (job : Job) (done : ℕ) (ring : List Queued) (position : StepPos) (tool : Option Tool) : Type 0 where
  pub left : List Command
  pub entries : List Entry
  pub place : Point3
  pub at : (k : ℕ) → command_at job (done + k) ≡ slice_get left k
  pub clear : AreClearFrom job.machine tool place (actions_of left) entries
  pub joined : AreJoined place (ways_of (actions_of left))
  pub even : HaveEvenRadii (ways_of (actions_of left))
  pub fits : RingFits job left ring
  pub safe : IsSafe job.machine tool position
  pub stands : NoSteps ring → position ≡ grid job.machine.step place

abbrev pub HoldsIn : Job → State → Type 0
HoldsIn job s = Holds job s.done s.ring s.position s.tool

pub path_ends : (job : Job) (way : Way) (path : List StepPos) → IsPathOf job.machine.step way path →
    (n : ℕ) × (length path ≡ n + 1) × (point path 0 ≡ grid job.machine.step (start_of way)) × (point path n ≡ grid job.machine.step (end_of way))
path_ends job (Line b e) path w =
    (greatest_distance (grid job.machine.step b) (grid job.machine.step e), w.count, w.starts, w.ends)
path_ends job (Arc a) path w = (w.0, w.1.weak.count, w.1.weak.starts, w.1.weak.ends)

pub ends_last : (job : Job) (way : Way) (path : List StepPos) → IsPathOf job.machine.step way path →
    point path (length path - 1) ≡ grid job.machine.step (end_of way)
ends_last job way path w = let e = path_ends job way path w in
    let i : length path - 1 ≡ e.0 = omega (arith, e.1) in ap (point path) i ∙ e.3

pub still_ends : (job : Job) (way : Way) (path : List StepPos) → IsPathOf job.machine.step way path → length path - 1 ≡ 0 →
    grid job.machine.step (start_of way) ≡ grid job.machine.step (end_of way)
still_ends job way path w z = let e = path_ends job way path w in
    let i : 0 ≡ e.0 = omega (arith, e.1, z) in sym e.2 ∙ ap (point path) i ∙ e.3

-- ---- the head is done, at a position p

abbrev tool_after : Action → Option Tool → Option Tool
tool_after (Mount new) tool = new
tool_after _ tool = tool

-- a head without path steps
served : (job : Job) (done : ℕ) (l : Queued) (ls : List Queued) (p : StepPos) (tool : Option Tool) (d : Action) (cs : List Command) (entries : List Entry)
    (place : Point3) →
    ((k : ℕ) → command_at job (suc done + k) ≡ slice_get cs k) →
    AreClearFrom job.machine tool place (d ∷ actions_of cs) entries → AreJoined place (ways_of (d ∷ actions_of cs)) →
    HaveEvenRadii (ways_of (d ∷ actions_of cs)) → MayTake job d l.path → RingFits job cs ls →
    IsSafe job.machine tool p → path_steps l ≡ 0 → p ≡ grid job.machine.step place → Holds job (suc done) ls p (tool_after d tool)
served job done l ls p tool (Mount new) cs entries place at clear joined even take fits safe z stands = record {
  left = cs;
  entries = entries;
  place = place;
  at = at;
  clear = clear.1;
  joined = joined;
  even = even;
  fits = fits;
  safe = record { inside = safe.inside; clear = subst (IsClearAt job.machine new) (sym stands) clear.0 };
  stands = λ n. stands;
}
served job done l ls p tool (Move m) cs [] place at clear joined even take fits safe z stands = absurd clear
served job done l ls p tool (Move m) cs (entry ∷ entries) place at clear joined even take fits safe z stands = record {
  left = cs;
  entries = entries;
  place = end_of m.way;
  at = at;
  clear = clear.1;
  joined = joined.1;
  even = even.1;
  fits = fits;
  safe = safe;
  stands = λ n. stands ∙ ap (grid job.machine.step) (sym joined.0) ∙ still_ends job m.way l.path take z;
}
served job done l ls p tool _ cs entries place at clear joined even take fits safe z stands = record {
  left = cs;
  entries = entries;
  place = place;
  at = at;
  clear = clear;
  joined = joined;
  even = even;
  fits = fits;
  safe = safe;
  stands = λ n. stands;
}

-- a head with path steps: each of its points is safe
on_way : (job : Job) (l : Queued) (tool : Option Tool) (place : Point3) (d : Action) (actions : List Action) (entries : List Entry) (k : ℕ) →
    pos 1 ≤ℤ job.machine.step →
    AreClearFrom job.machine tool place (d ∷ actions) entries → HaveEvenRadii (ways_of (d ∷ actions)) → MayTake job d l.path → 0 < path_steps l →
    k ≤ path_steps l → IsSafe job.machine tool (point l.path k)
on_way job l tool place (Move m) actions [] k s clear even take p i = absurd clear
on_way job l tool place (Move m) actions (entry ∷ entries) k s clear even take p i =
    safe_on_path job.machine tool m.way entry.pieces l.path k s even.0 clear.0 take (omega (arith, p, i))
on_way job l tool place _ actions entries k s clear even take p i = absurd (let e = ap length take in omega (arith, e, p))

-- and when it is done, the next motion begins at its end
arrived : (job : Job) (done : ℕ) (l : Queued) (ls : List Queued) (tool : Option Tool) (d : Action) (cs : List Command) (entries : List Entry) (place : Point3) →
    pos 1 ≤ℤ job.machine.step →
    ((k : ℕ) → command_at job (suc done + k) ≡ slice_get cs k) →
    AreClearFrom job.machine tool place (d ∷ actions_of cs) entries → AreJoined place (ways_of (d ∷ actions_of cs)) →
    HaveEvenRadii (ways_of (d ∷ actions_of cs)) → MayTake job d l.path → RingFits job cs ls →
    0 < path_steps l → Holds job (suc done) ls (point l.path (path_steps l)) tool
arrived job done l ls tool (Move m) cs [] place s at clear joined even take fits p = absurd clear
arrived job done l ls tool (Move m) cs (entry ∷ entries) place s at clear joined even take fits p = record {
  left = cs;
  entries = entries;
  place = end_of m.way;
  at = at;
  clear = clear.1;
  joined = joined.1;
  even = even.1;
  fits = fits;
  safe = safe_on_path job.machine tool m.way entry.pieces l.path (path_steps l) s even.0 clear.0 take (omega (arith, p));
  stands = λ n. ends_last job m.way l.path take;
}
arrived job done l ls tool _ cs entries place s at clear joined even take fits p = absurd (let e = ap length take in omega (arith, e, p))

-- ---- a tick

after_keeps : (job : Job) (a : Action) (s : State) → Holds job s.done s.ring s.position (tool_after a s.tool) → HoldsIn job (after a s)
after_keeps job (Move m) s h = h
after_keeps job _ s h = h

if_holds : (P : State → Type 0) (b : Bool) (x y : State) → (b ≡ true → P x) → (b ≡ false → P y) → P (if b then x else y)
if_holds P true x y f g = f refl
if_holds P false x y f g = g refl

whole_way : (l : Queued) (s : State) (v : ℕ) → nat_le (millionths l) (s.travelled + v) ≡ true → place_after l s v ≡ path_steps l
whole_way l s v h = let i : path_steps l * 1000000 ≤ s.travelled + v = grind (arith, nat_tests) in omega (arith, i)

part_way : (l : Queued) (s : State) (v : ℕ) → place_after l s v ≤ path_steps l
part_way l s v = omega arith

on_head : (job : Job) (l : Queued) (ls : List Queued) (old : State) (o : Outcome) (new : State) → old.ring ≡ l ∷ ls → pos 1 ≤ℤ job.machine.step →
    HoldsIn job old →
    (left : List Command) (entries : List Entry) (place : Point3) → ((k : ℕ) → command_at job (old.done + k) ≡ slice_get left k) →
    AreClearFrom job.machine old.tool place (actions_of left) entries → AreJoined place (ways_of (actions_of left)) →
    HaveEvenRadii (ways_of (actions_of left)) → RingFits job left (l ∷ ls) →
    (path_steps l ≡ 0 → old.position ≡ grid job.machine.step place) → HeadTick job l ls old o new → HoldsIn job new
on_head job l ls old o new e s whole [] entries place at clear joined even fits stands t = absurd fits
on_head job l ls old o new e s whole (c ∷ cs) entries place at clear joined even fits stands t =
    elim (match_with (nat_lt 0 (path_steps l)) (Travels job l ls old o new)
    (MatchBool old.held (Rests old o new) (Serves job l.command.action old o new)) t) [
      | inl u ↦
          let p : 0 < path_steps l = let b = u.0 in grind (arith, nat_tests) in
          subst (HoldsIn job) (sym u.1.goes_on)
          (if_holds (HoldsIn job) (nat_le (millionths l) (old.travelled + new.rate))
          (without_head (old.travelled + new.rate - millionths l)
          (record old { rate = new.rate; change = change_of job l; position = point l.path (place_after l old new.rate) }))
          (record old {
            rate = new.rate;
            change = change_of job l;
            position = point l.path (place_after l old new.rate);
            travelled = old.travelled + new.rate;
          })
          (λ b. subst (λ k. Holds job (suc old.done) (drop 1 old.ring) (point l.path k) old.tool) (sym (whole_way l old new.rate b))
          (subst (λ ring. Holds job (suc old.done) (drop 1 ring) (point l.path (path_steps l)) old.tool) (sym e)
          (arrived job old.done l ls old.tool c.action cs entries place s (next_at job old.done c cs at) clear joined even fits.1 fits.2 p)))
          (λ b. record {
            left = c ∷ cs;
            entries = entries;
            place = place;
            at = at;
            clear = clear;
            joined = joined;
            even = even;
            fits = subst (RingFits job (c ∷ cs)) (sym e) fits;
            safe = on_way job l old.tool place c.action (actions_of cs) entries (place_after l old new.rate) s clear even fits.1 p (part_way l old new.rate);
            stands = λ n. absurd (let z = subst NoSteps e n in omega (arith, z, p));
          }))
      | inr u ↦ elim (match_with old.held (Rests old o new) (Serves job l.command.action old o new) u.1) [
        | inl r ↦ subst (HoldsIn job) (sym r.1.stands) whole
        | inr r ↦ elim (match_with (nat_lt (suc old.dwelt) (ticks_of job l.command.action)) (Dwells old o new)
            (Finishes l.command.action old o new) r.1) [
              | inl d ↦ subst (HoldsIn job) (sym d.1.counts) whole
              | inr d ↦
                  let z : path_steps l ≡ 0 = let b = u.0 in grind (arith, nat_tests) in
                  subst (HoldsIn job) (sym d.1.goes_on)
                  (after_keeps job l.command.action (record (without_head 0 old) { rate = 0 })
                  (subst (λ ring. Holds job (suc old.done) (drop 1 ring) old.position (tool_after l.command.action old.tool)) (sym e)
                  (subst (λ (k : Command). Holds job (suc old.done) ls old.position (tool_after k.action old.tool)) (sym fits.0)
                  (served job old.done l ls old.position old.tool c.action cs entries place
                  (next_at job old.done c cs at) clear joined even fits.1 fits.2 whole.safe z (stands z)))))
            ]
      ]
    ]

on_tick : (job : Job) (stopped : Bool) (ring : List Queued) (old : State) (o : Outcome) (new : State) → old.ring ≡ ring → pos 1 ≤ℤ job.machine.step →
    HoldsIn job old →
    TickBy job stopped ring old o new → HoldsIn job new
on_tick job true ring old o new e s h t = subst (HoldsIn job) (sym t.stands) h
on_tick job false [] old o new e s h t = subst (HoldsIn job) (sym t.stands) h
on_tick job false (l ∷ ls) old o new e s h t =
    on_head job l ls old o new e s h h.left h.entries h.place h.at h.clear h.joined h.even (subst (RingFits job h.left) e h.fits)
    (λ z. h.stands (subst NoSteps (sym e) z)) t

-- ---- a load

no_steps : (ring : List Queued) (l : Queued) → NoSteps (ring ++ l ∷ []) → NoSteps ring
no_steps [] l n = tt
no_steps (k ∷ ks) l n = n

pub one_more : (job : Job) (left : List Command) (ring : List Queued) (c : Command) (path : List StepPos) → RingFits job left ring →
    slice_get left (length ring) ≡ Some c →
    MayTake job c.action path → RingFits job left (ring ++ record { command = c; path = path } ∷ [])
one_more job [] [] c path f e take = absurd (none_some c e)
  where
    none_some : (c : Command) → None ≡ Some c → ⊥
    none_some c h = cc
one_more job (x ∷ xs) [] c path f e take = (same_some c x (sym e), subst (λ (k : Command). MayTake job k.action path) (same_some c x (sym e)) take, tt)
  where
    same_some : (c x : Command) → Some c ≡ Some x → c ≡ x
    same_some c x h = cc
one_more job [] (l ∷ ls) c path f e take = absurd f
one_more job (x ∷ xs) (l ∷ ls) c path f e take = (f.0, f.1, one_more job xs ls c path f.2 e take)

on_load : (job : Job) (old : State) (next : Option Command) (o : Outcome) (new : State) → command_at job (loaded old) ≡ next → HoldsIn job old →
    LoadCommand job old next o new → HoldsIn job new
on_load job old None o new e h t = subst (HoldsIn job) (sym t.1) h
on_load job old (Some c) o new e h t =
    elim (match_with (nat_lt (length old.ring) job.machine.ring) _ _ t) [
      | inl u ↦ subst (HoldsIn job) (sym u.1.3)
          (record {
            left = h.left;
            entries = h.entries;
            place = h.place;
            at = h.at;
            clear = h.clear;
            joined = h.joined;
            even = h.even;
            safe = h.safe;
            fits = one_more job h.left old.ring c u.1.0 h.fits (sym (h.at (length old.ring)) ∙ e) u.1.1;
            stands = λ n. h.stands (no_steps old.ring (record { command = c; path = u.1.0 }) n);
          })
      | inr u ↦ subst (HoldsIn job) (sym u.1.1) h
    ]

-- ---- all events, and runs

pub on_event : (job : Job) (old : State) (e : Event) (o : Outcome) (new : State) → pos 1 ≤ℤ job.machine.step → HoldsIn job old → Step job old e o new →
    HoldsIn job new
on_event job old Load o new s h t = on_load job old (command_at job (loaded old)) o new refl h t
on_event job old Tick o new s h t = on_tick job old.stopped old.ring old o new refl s h t
on_event job old Hold o new s h t = subst (HoldsIn job) (sym t.1) h
on_event job old Resume o new s h t = subst (HoldsIn job) (sym t.1) h
on_event job old Start o new s h t = subst (HoldsIn job) (sym t.1) h
on_event job old (StopSwitch on) o new s h t = subst (HoldsIn job) (sym t.1) h
on_event job old (Override n) o new s h t =
    elim (match_with (nat_le n 200) _ _ t) [
      | inl u ↦ subst (HoldsIn job) (sym u.1.1) h
      | inr u ↦ subst (HoldsIn job) (sym u.1.1) h
    ]

pub safe_run : (job : Job) (old : State) (es : List Event) (os : List Outcome) (states : List State) → pos 1 ≤ℤ job.machine.step → HoldsIn job old →
    Run job old es os states → AreSafe job.machine states
safe_run job old [] [] [] s h r = tt
safe_run job old [] [] (new ∷ states) s h r = absurd r
safe_run job old [] (o ∷ os) states s h r = absurd r
safe_run job old (e ∷ es) [] states s h r = absurd r
safe_run job old (e ∷ es) (o ∷ os) [] s h r = absurd r
safe_run job old (e ∷ es) (o ∷ os) (new ∷ states) s h r =
    let k = on_event job old e o new s h r.0 in (k.safe, safe_run job new es os states s k r.1)
