-- The effect of an event on the remaining path: five cases.
use Rattle.std.proofs.Common.{◌≡◌, ℕ, suc, ◌+◌, ◌-◌, ◌/◌, ◌<◌, ◌≤◌, inl, inr, ap, sym, ◌∙◌, arith, refl, List, [], ◌∷◌, ◌++◌, length, drop, Some, None, true}
use Rattle.std.proofs.Common.{false, Ok, Err}
use Rattle.std.specs.Prelude.{if◌then◌else◌, Option, Bool, MatchBool, nat_lt, nat_le}
use Rattle.std.proofs.lemmas.Bool.{true≢false}
use Rattle.std.proofs.lemmas.Bool.Decides.{nat_tests}
use Rattle.ngc_fixed_length.specs.declared.points.StepPos.{StepPos}
use Rattle.ngc_fixed_length.specs.LinePath.{point}
use Rattle.ngc_machine_files.specs.MachineRanges.{IsMachine}
use Rattle.ngc_commands.specs.declared.command.Action.{Action}
use Rattle.ngc_commands.specs.declared.command.Action.TheVariants as actions
use Rattle.ngc_commands.specs.declared.command.Command.{Command}
use Rattle.ngc_fixed_length.specs.Limits.{MILLION}
use Rattle.ngc_events.specs.declared.event.Event.{Event}
use Rattle.ngc_events.specs.declared.event.Event.TheVariants.{Load, Tick, Hold, Resume, Override, StopSwitch, Start}
use Rattle.ngc_events.specs.declared.reply.Ending.{Ending}
use Rattle.ngc_events.specs.declared.reply.Ending.TheVariants.{Done, Stopped, End}
use Rattle.ngc_events.specs.declared.reply.Reply.TheVariants.{Loaded, Ticked, Held, Resumed, Overridden, Switched, Started}
use Rattle.ngc_machine_model.specs.State.{Job, Queued, State, loaded, command_at, path_steps, millionths, change_of, place_before}
use Rattle.ngc_machine_model.specs.Step.{Outcome, Step, LoadCommand, MayTake, Rests, Finishes, Dwells, Serves, Travels, HeadTick, TickBy, without_head, after}
use Rattle.ngc_machine_model.specs.Step.{ending, ends_at, pulse, place_after, ticks_of}
use Rattle.ngc_machine_model.specs.Run.{position_in}
use Rattle.ngc_machine_model.proofs.TestCases.{match_with}
use Rattle.ngc_machine_model.proofs.RatesOfRun.{Fits, GoesOver, goes_over, travel_small}

-- the part of a state on which the remaining path depends
pub record Spot : Type 0 where
  pub done : ℕ
  pub ring : List Queued
  pub travelled : ℕ
  pub position : StepPos

abbrev pub spot_of : ℕ → List Queued → ℕ → StepPos → Spot
spot_of done ring travelled position = record { done = done; ring = ring; travelled = travelled; position = position }

abbrev pub spot : State → Spot
spot s = spot_of s.done s.ring s.travelled s.position

abbrev pub is_end : Ending → Bool
is_end End = true
is_end (Done k) = false
is_end (Stopped k) = false

abbrev pub tells_end : Outcome → Bool
tells_end (Ok (Ticked p (Some e))) = is_end e
tells_end (Ok (Ticked p None)) = false
tells_end (Ok (Loaded k)) = false
tells_end (Ok Held) = false
tells_end (Ok Resumed) = false
tells_end (Ok (Overridden n)) = false
tells_end (Ok (Switched on)) = false
tells_end (Ok Started) = false
tells_end (Err e) = false

abbrev pub ends_program : Action → Bool
ends_program actions.End = true
ends_program _ = false

-- the position of a pulse from point j to point k of a path
abbrev pub emitted : List StepPos → ℕ → ℕ → List StepPos
emitted path j k = if nat_lt j k then point path k ∷ [] else []

pub record Stands (old new : Spot) (o : Outcome) : Type 0 where
  pub same : new ≡ old
  pub silent : position_in o ≡ []
  pub no_end : tells_end o ≡ false

pub record Grows (job : Job) (old new : Spot) (o : Outcome) : Type 0 where
  pub command : Command
  pub path : List StepPos
  pub next : command_at job (old.done + length old.ring) ≡ Some command
  pub takes : MayTake job command.action path
  pub is : new ≡ spot_of old.done (old.ring ++ record { command = command; path = path } ∷ []) old.travelled old.position
  pub silent : position_in o ≡ []
  pub no_end : tells_end o ≡ false

pub record GoesOn (old new : Spot) (o : Outcome) : Type 0 where
  pub head : Queued
  pub others : List Queued
  pub rate : ℕ
  pub was : old ≡ spot_of old.done (head ∷ others) old.travelled old.position
  pub is : new ≡ spot_of old.done (head ∷ others) (old.travelled + rate) (point head.path ((old.travelled + rate) / MILLION))
  pub some : 0 < path_steps head
  pub small : rate ≤ MILLION
  pub short : old.travelled + rate < millionths head
  pub emits : position_in o ≡ emitted head.path (old.travelled / MILLION) ((old.travelled + rate) / MILLION)
  pub no_end : tells_end o ≡ false

-- with the rest travelled on the next
pub record Arrives (old new : Spot) (o : Outcome) : Type 0 where
  pub head : Queued
  pub others : List Queued
  pub over : ℕ
  pub was : old ≡ spot_of old.done (head ∷ others) old.travelled old.position
  pub is : new ≡ spot_of (suc old.done) others over (point head.path (path_steps head))
  pub some : 0 < path_steps head
  pub beyond : GoesOver head others over
  pub near : path_steps head ≤ old.travelled / MILLION + 1
  pub emits : position_in o ≡ emitted head.path (old.travelled / MILLION) (path_steps head)
  pub ends : tells_end o ≡ true → ends_program head.command.action ≡ true

pub record Passes (old new : Spot) (o : Outcome) : Type 0 where
  pub head : Queued
  pub others : List Queued
  pub was : old ≡ spot_of old.done (head ∷ others) old.travelled old.position
  pub is : new ≡ spot_of (suc old.done) others 0 old.position
  pub none : path_steps head ≡ 0
  pub silent : position_in o ≡ []
  pub ends : tells_end o ≡ true → ends_program head.command.action ≡ true

pub data Effect (job : Job) (old new : Spot) (o : Outcome) : Type 0 where
  stands : Stands old new o → Effect job old new o
  grows : Grows job old new o → Effect job old new o
  goes_on : GoesOn old new o → Effect job old new o
  arrives : Arrives old new o → Effect job old new o
  passes : Passes old new o → Effect job old new o

-- ---- the effects at an end

by_test : (b : Bool) (e f : Ending) → is_end e ≡ false → is_end f ≡ false → is_end (if b then e else f) ≡ false
by_test true e f x y = x
by_test false e f x y = y

only_end : (a : Action) (s : State) → is_end (ending a s) ≡ true → ends_program a ≡ true
only_end actions.End s h = refl
only_end actions.OptionalStop s h =
    absurd (true≢false (sym h ∙ by_test s.stop_switch (Stopped s.done) (Done s.done) refl refl))
only_end _ s h = h

-- ---- a tick on the path

said_position : (b : Bool) (p : StepPos) (e : Option Ending) → position_in (Ok (Ticked (if b then Some p else None) e)) ≡ (if b then p ∷ [] else [])
said_position true p e = refl
said_position false p e = refl

said_end : (p : Option StepPos) (b : Bool) (e : Ending) → b ≡ true → tells_end (Ok (Ticked p (if b then Some e else None))) ≡ is_end e
said_end p true e h = refl
said_end p false e h = absurd (true≢false (sym h))

said_none : (p : Option StepPos) (b : Bool) (e : Ending) → b ≡ false → tells_end (Ok (Ticked p (if b then Some e else None))) ≡ false
said_none p true e h = absurd (true≢false h)
said_none p false e h = refl

chosen : (b : Bool) (x y : State) → b ≡ true → (if b then x else y) ≡ x
chosen true x y h = refl
chosen false x y h = absurd (true≢false (sym h))

other : (b : Bool) (x y : State) → b ≡ false → (if b then x else y) ≡ y
other true x y h = absurd (true≢false h)
other false x y h = refl

two_cases : (b : Bool) (E : Type 0) → (b ≡ true → E) → (b ≡ false → E) → E
two_cases true E f g = f refl
two_cases false E f g = g refl

on_way : (job : Job) (l : Queued) (ls : List Queued) (old : State) (o : Outcome) (new : State) → IsMachine job.machine → old.ring ≡ l ∷ ls → 0 < path_steps l →
    old.travelled ≤ millionths l - 1 → Travels job l ls old o new → Effect job (spot old) (spot new) o
on_way job l ls old o new m e some f t =
    let t0 = old.travelled in
    let v = new.rate in
    let slow : v ≤ MILLION = travel_small job l ls old o new m.max_rate.greatest t in
    let over = t0 + v - millionths l in
    let was : spot old ≡ spot_of old.done (l ∷ ls) t0 old.position = ap (λ r. spot_of old.done r t0 old.position) e in
    let done = without_head over (record old { rate = v; change = change_of job l; position = point l.path (place_after l old v) }) in
    let on : State = record old { rate = v; change = change_of job l; position = point l.path (place_after l old v); travelled = t0 + v } in
    let says = ap position_in t.says ∙ said_position (nat_lt (place_before old) (place_after l old v)) (point l.path (place_after l old v)) (ends_at l old v) in
    two_cases (nat_le (millionths l) (t0 + v)) (Effect job (spot old) (spot new) o)
    (λ b.
    let full : millionths l ≤ t0 + v = grind (arith, nat_tests) in
    let whole : place_after l old v ≡ path_steps l = omega (arith, full) in
    let rest : drop 1 old.ring ≡ ls = ap (drop 1) e in
    let is : spot new ≡ spot_of (suc old.done) ls over (point l.path (path_steps l)) =
    ap spot (t.goes_on ∙ chosen (nat_le (millionths l) (t0 + v)) done on b)
    ∙ ap (λ r. spot_of (suc old.done) r over (point l.path (place_after l old v))) rest
    ∙ ap (λ k. spot_of (suc old.done) ls over (point l.path k)) whole in
    arrives (record {
      head = l;
      others = ls;
      over = over;
      was = was;
      is = is;
      some = some;
      beyond = goes_over job l ls old o new slow some f t;
      near = omega (arith, full, slow);
      emits = says ∙ ap (emitted l.path (t0 / MILLION)) whole;
      ends = λ h. only_end l.command.action old
          (sym (ap tells_end t.says ∙ said_end (pulse l old v) (nat_le (millionths l) (t0 + v)) (ending l.command.action old) b) ∙ h);
    }))
    (λ b.
    let short : t0 + v < millionths l = grind (arith, nat_tests) in
    let part : place_after l old v ≡ (t0 + v) / MILLION = omega (arith, short) in
    let is : spot new ≡ spot_of old.done (l ∷ ls) (t0 + v) (point l.path ((t0 + v) / MILLION)) =
    ap spot (t.goes_on ∙ other (nat_le (millionths l) (t0 + v)) done on b)
    ∙ ap (λ r. spot_of old.done r (t0 + v) (point l.path (place_after l old v))) e
    ∙ ap (λ k. spot_of old.done (l ∷ ls) (t0 + v) (point l.path k)) part in
    goes_on (record {
      head = l;
      others = ls;
      rate = v;
      was = was;
      is = is;
      some = some;
      small = slow;
      short = short;
      emits = says ∙ ap (emitted l.path (t0 / MILLION)) part;
      no_end = ap tells_end t.says ∙ said_none (pulse l old v) (nat_le (millionths l) (t0 + v)) (ending l.command.action old) b;
    }))

-- ---- a tick without travel

same_spot : (a : Action) (s : State) → spot (after a s) ≡ spot s
same_spot (actions.Move m) s = refl
same_spot _ s = refl

resting : (job : Job) (old : State) (o : Outcome) (new : State) → Rests old o new → Effect job (spot old) (spot new) o
resting job old o new r = stands (record { same = ap spot r.stands; silent = ap position_in r.quiet; no_end = ap tells_end r.quiet })

finished : (job : Job) (l : Queued) (ls : List Queued) (old : State) (o : Outcome) (new : State) → old.ring ≡ l ∷ ls → path_steps l ≡ 0 →
    Finishes l.command.action old o new → Effect job (spot old) (spot new) o
finished job l ls old o new e z f = passes (record {
  head = l;
  others = ls;
  was = ap (λ r. spot_of old.done r old.travelled old.position) e;
  is = ap spot f.goes_on ∙ same_spot l.command.action (record (without_head 0 old) { rate = 0 }) ∙ ap (λ r. spot_of (suc old.done) (drop 1 r) 0 old.position) e;
  none = z;
  silent = ap position_in f.says;
  ends = λ h. only_end l.command.action old (sym (ap tells_end f.says) ∙ h);
})

on_head : (job : Job) (l : Queued) (ls : List Queued) (old : State) (o : Outcome) (new : State) → IsMachine job.machine → old.ring ≡ l ∷ ls →
    old.travelled ≤ millionths l - 1 → HeadTick job l ls old o new → Effect job (spot old) (spot new) o
on_head job l ls old o new m e f t =
    elim (match_with (nat_lt 0 (path_steps l)) (Travels job l ls old o new)
    (MatchBool old.held (Rests old o new) (Serves job l.command.action old o new)) t) [
      | inl u ↦ on_way job l ls old o new m e (let b = u.0 in grind (arith, nat_tests)) f u.1
      | inr u ↦ elim (match_with old.held (Rests old o new) (Serves job l.command.action old o new) u.1) [
        | inl r ↦ resting job old o new r.1
        | inr r ↦ elim (match_with (nat_lt (suc old.dwelt) (ticks_of job l.command.action)) (Dwells old o new)
            (Finishes l.command.action old o new) r.1) [
              | inl d ↦ stands (record { same = ap spot d.1.counts; silent = ap position_in d.1.quiet; no_end = ap tells_end d.1.quiet })
              | inr d ↦ finished job l ls old o new e (let b = u.0 in grind (arith, nat_tests)) d.1
            ]
      ]
    ]

on_tick : (job : Job) (stopped : Bool) (ring : List Queued) (old : State) (o : Outcome) (new : State) → IsMachine job.machine → old.ring ≡ ring →
    Fits ring old.travelled → TickBy job stopped ring old o new → Effect job (spot old) (spot new) o
on_tick job true ring old o new m e f t = resting job old o new t
on_tick job false [] old o new m e f t = resting job old o new t
on_tick job false (l ∷ ls) old o new m e f t = on_head job l ls old o new m e f t

-- ---- a load, and all events

on_load : (job : Job) (old : State) (next : Option Command) (o : Outcome) (new : State) → command_at job (loaded old) ≡ next →
    LoadCommand job old next o new → Effect job (spot old) (spot new) o
on_load job old None o new e t = stands (record { same = ap spot t.1; silent = ap position_in t.0; no_end = ap tells_end t.0 })
on_load job old (Some c) o new e t =
    elim (match_with (nat_lt (length old.ring) job.machine.ring) _ _ t) [
      | inl u ↦ grows (record {
        command = c;
        path = u.1.0;
        next = e;
        takes = u.1.1;
        is = ap spot u.1.3;
        silent = ap position_in u.1.2;
        no_end = ap tells_end u.1.2;
      })
      | inr u ↦ stands (record { same = ap spot u.1.1; silent = ap position_in u.1.0; no_end = ap tells_end u.1.0 })
    ]

pub effect_of : (job : Job) (old : State) (e : Event) (o : Outcome) (new : State) → IsMachine job.machine → Fits old.ring old.travelled → Step job old e o new →
    Effect job (spot old) (spot new) o
effect_of job old Load o new m f t = on_load job old (command_at job (loaded old)) o new refl t
effect_of job old Tick o new m f t = on_tick job old.stopped old.ring old o new m refl f t
effect_of job old Hold o new m f t = stands (record { same = ap spot t.1; silent = ap position_in t.0; no_end = ap tells_end t.0 })
effect_of job old Resume o new m f t = stands (record { same = ap spot t.1; silent = ap position_in t.0; no_end = ap tells_end t.0 })
effect_of job old Start o new m f t = stands (record { same = ap spot t.1; silent = ap position_in t.0; no_end = ap tells_end t.0 })
effect_of job old (StopSwitch on) o new m f t = stands (record { same = ap spot t.1; silent = ap position_in t.0; no_end = ap tells_end t.0 })
effect_of job old (Override n) o new m f t =
    elim (match_with (nat_le n 200) _ _ t) [
      | inl u ↦ stands (record { same = ap spot u.1.1; silent = ap position_in u.1.0; no_end = ap tells_end u.1.0 })
      | inr u ↦ stands (record { same = ap spot u.1.1; silent = ap position_in u.1.0; no_end = ap tells_end u.1.0 })
    ]
