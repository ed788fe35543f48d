-- The invariant of a controller's fields.
use Rattle.std.proofs.Common.{◌≡◌, ℕ, suc, ◌+◌, ◌/◌, ◌≤◌, ◌<◌, nat_lt, List, [], ◌∷◌, ◌++◌, length, drop, Option, Some, Bool, true, false, refl, ap, ap₂, sym}
use Rattle.std.proofs.Common.{subst, ◌∙◌, length-drop, length-append, MatchBool, arith}
use Rattle.std.proofs.lemmas.Bool.{lt-ltb, le-ltb}
use Rattle.std.specs.Prelude.{Ok, Err}
use Rattle.ngc_fixed_length.specs.declared.points.StepPos.{StepPos}
use Rattle.ngc_machine_files.specs.Machine.{MachineFile}
use Rattle.ngc_machine_files.specs.MachineRanges.{IsMachine}
use Rattle.ngc_machine_files.specs.declared.tools.Tool.{Tool}
use Rattle.ngc_commands.specs.declared.command.Command.{Command}
use Rattle.ngc_commands.specs.declared.command.Action.{Action}
use Rattle.ngc_commands.specs.declared.command.Action.TheVariants.{Move}
use Rattle.ngc_fixed_length.specs.Limits.{MILLION}
use Rattle.ngc_planner.specs.Trail.{JointsData, joints_before}
use Rattle.ngc_planner.specs.Ramp.{RampState, IsRest, next_rest}
use Rattle.ngc_events.specs.declared.reply.Reply.TheVariants.{Loaded}
use Rattle.ngc_events.specs.declared.event_fault.EventFault.TheVariants.{RingFull}
use Rattle.ngc_machine_model.specs.Headline.{job_of}
use Rattle.ngc_machine_model.specs.State.{Job, Queued, State, command_at}
use Rattle.ngc_machine_model.specs.Step.{Outcome, MayTake, LoadCommand, Dwells, Finishes, Serves, after, without_head, ticks_of}
use Rattle.ngc_controller.specs.declared.drive.Drive.{Drive}
use Rattle.ngc_controller.specs.declared.panel.Panel.{Panel}
use Rattle.ngc_controller.specs.Drive.{continues_travel, last_flows_on, legs_of, with_one_more, IsTarget}
use Rattle.ngc_controller.specs.Fields.{travelled_of, state_of, DWELL_LIMIT, IsInOrder, IsServed, panel_after, tool_after}
use Rattle.ngc_controller.specs.Panel.{effective_at}
use Rattle.ngc_controller.specs.Ring.{RingData, IsMoving}
use Rattle.ngc_controller.proofs.LegLaws.{still_legs, behind_is, travelled_over, few_legs, last_of_rest, last_of_more, legs_of_more, has_one_more}
use Rattle.ngc_controller.proofs.LegLaws.{travelled_more}

-- the invariant of the ramp
pub record IsLeft (job : Job) (done : ℕ) (ring : List Queued) (ramp : RampState) : Type 0 where
  pub places : ramp.room ≡ job.machine.ring
  pub legs : (joined : Bool) × (ramp.legs ≡ legs_of job done joined ring)
  pub left : IsRest ramp.rest ramp.legs
  pub slow : (IsMoving ring → ⊥) → ramp.rate ≤ ramp.last_change
  pub whole : (IsMoving ring → ⊥) → ramp.rest ≡ next_rest 0 ramp.legs

-- ---- the head leaves, and the next command is the head

pub same_ring : (r : RingData) (xs : List Queued) (p n : ℕ) → r.loaded ≡ xs → r.place ≡ p → r.room ≡ n → r ≡ record { loaded = xs; place = p; room = n }
same_ring r xs p n e f k =
    ap₂ (λ (ys : List Queued) (q : ℕ). record { loaded = ys; place = q; room = r.room }) e f ∙ ap (λ m. record { loaded = xs; place = p; room = m }) k

pub same_drive : {A : Type 0} (d : Drive A) (r : RampState) (b : Bool) (j : JointsData) → d.ramp ≡ r → d.continues_travel ≡ b → d.joints ≡ j →
    d ≡ record { ramp = r; target = d.target; joints = j; continues_travel = b }
same_drive d r b j e f k =
    ap₂ (λ (x : RampState) (y : Bool). record { ramp = x; target = d.target; joints = d.joints; continues_travel = y }) e f
    ∙ ap (λ (i : JointsData). record { ramp = r; target = d.target; joints = i; continues_travel = b }) k

last_of_drop : (b : Bool) (ring : List Queued) → b ≡ last_flows_on b ring → b ≡ last_flows_on b (drop 1 ring)
last_of_drop b [] h = refl
last_of_drop b (l ∷ ls) h = last_of_rest b l ls h

pub left_order : {A : Type 0} (job : Job) (done : ℕ) (ring : List Queued) (ramp : RampState) (on : Bool) (panel : Panel) (next : ℕ) (after : RingData) (new : Drive A)
    (dwelt : ℕ) (joints : JointsData) →
    IsMachine job.machine → IsLeft job (suc done) (drop 1 ring) ramp → travelled_of (drop 1 ring) ramp.rest / MILLION ≡ 0 → on ≡ last_flows_on on ring →
    (panel.stopped ≡ true → ramp.rate ≡ 0) →
    done + length ring ≤ length job.commands → 1 ≤ length ring →
    after.loaded ≡ drop 1 ring → after.place ≡ 0 → after.room ≡ job.machine.ring → next ≡ done + 1 → dwelt ≡ 0 → new.ramp ≡ ramp → new.continues_travel ≡ on →
    IsTarget job.machine (effective_at panel) after.loaded after.place new.target →
    joints ≡ joints_before job.machine job.commands (done + length ring) → new.joints ≡ joints →
    IsInOrder job next after new dwelt panel
left_order {A = A} job done ring ramp on panel next after new dwelt joints machine o zero last still few some queue place room more brief same flows target joint kept =
    let shorter = length-drop 1 ring in
    let then : next ≡ suc done = omega arith in
    let order : IsInOrder {A = A} job (suc done) (record { loaded = drop 1 ring; place = 0; room = job.machine.ring })
    (record { ramp = ramp; target = new.target; joints = joints; continues_travel = on }) 0 panel =
    record {
      machine = machine;
      room = refl;
      places = o.places;
      legs = o.legs;
      left = o.left;
      slow = o.slow;
      whole = o.whole;
      joints = (let afterwards : done + length ring ≡ suc done + length (drop 1 ring) = omega arith in joint ∙ ap (λ k. joints_before job.machine job.commands k) afterwards);
      continues_travel = last_of_drop on ring last;
      place = sym zero;
      target = subst (λ xs. IsTarget job.machine (effective_at panel) xs 0 new.target) queue
          (subst (λ k. IsTarget job.machine (effective_at panel) after.loaded k new.target) place target);
      few = omega arith;
      brief = omega arith;
      still = still;
    } in
    rw (then, brief, same_ring after (drop 1 ring) 0 job.machine.ring queue place room, same_drive new ramp on joints same flows kept) order

pub target_as : (machine asked : MachineFile) (percent counted : ℕ) (ring : List Queued) (place target : ℕ) → IsTarget asked counted ring place target →
    asked ≡ machine → counted ≡ percent → IsTarget machine percent ring place target
target_as machine asked percent counted ring place target h e f = rw (sym e, sym f) h

-- ---- a command without travel

pub served_still : (ring : List Queued) (a : Action) → IsServed ring a → IsMoving ring → ⊥
served_still [] a served moves = moves
served_still (l ∷ ls) a served moves = omega (arith, served.1, moves)

remaining_after : (job : Job) (done : ℕ) (ring : List Queued) (ramp : RampState) (a : Action) → IsServed ring a →
    ramp.room ≡ job.machine.ring →
    (joined : Bool) → ramp.legs ≡ legs_of job done joined ring → IsRest ramp.rest ramp.legs → ramp.rest ≡ next_rest 0 ramp.legs →
    IsLeft job (suc done) (drop 1 ring) (record ramp { rate = 0 }) × (travelled_of (drop 1 ring) ramp.rest ≡ 0)
remaining_after job done [] ramp a served places joined legs left whole = elim served [ ]
remaining_after job done (l ∷ ls) ramp a served places joined legs left whole =
    let b = behind_is job (suc done) l ls in
    let are : ramp.legs ≡ legs_of job (suc done) b.0 ls = legs ∙ still_legs job done joined l ls (omega (arith, served.1)) ∙ b.1 in (
      record { places = places; legs = (b.0, are); left = left; slow = λ still. omega arith; whole = λ still. whole },
      travelled_over job (suc done) b.0 ls (record ramp { rate = 0 }) 0 are whole (omega arith) (λ still. refl),
    )

pub rests_still : {A : Type 0} (job : Job) (done : ℕ) (ring : RingData) (drive new : Drive A) (dwelt n : ℕ) (panel : Panel) → IsInOrder job done ring drive dwelt panel →
    new ≡ record drive { ramp = record drive.ramp { rate = 0 } } → n ≤ DWELL_LIMIT → IsInOrder job done ring new n panel
rests_still job done ring drive new dwelt n panel o is brief =
    let here : IsInOrder job done ring (record drive { ramp = record drive.ramp { rate = 0 } }) n panel = record {
      machine = o.machine;
      room = o.room;
      places = o.places;
      legs = o.legs;
      left = o.left;
      slow = λ still. omega arith;
      whole = o.whole;
      joints = o.joints;
      continues_travel = o.continues_travel;
      place = o.place;
      target = o.target;
      few = o.few;
      brief = brief;
      still = λ stopped. refl;
    } in
    rw is here

pub served_left : {A : Type 0} (job : Job) (done : ℕ) (ring : RingData) (drive : Drive A) (dwelt : ℕ) (panel : Panel) (a : Action) →
    IsInOrder job done ring drive dwelt panel → IsServed ring.loaded a →
    IsLeft job (suc done) (drop 1 ring.loaded) (record drive.ramp { rate = 0 }) × (travelled_of (drop 1 ring.loaded) drive.ramp.rest ≡ 0)
served_left job done ring drive dwelt panel a o served =
    remaining_after job done ring.loaded drive.ramp a served o.places o.legs.0 o.legs.1 o.left (o.whole (served_still ring.loaded a served))

pub served_some : (ring : List Queued) (a : Action) → IsServed ring a → 1 ≤ length ring
served_some [] a served = elim served [ ]
served_some (l ∷ ls) a served = omega arith

abbrev pub with_panel : State → Option Tool → Panel → State
with_panel s tool panel = record s {
  tool = tool;
  percent = panel.percent;
  overrides = panel.overrides;
  held = panel.held;
  stopped = panel.stopped;
  stop_switch = panel.stop_switch;
}

after_by : (a : Action) (s : State) (tool : Option Tool) (panel : Panel) →
    with_panel s (tool_after a tool) (panel_after a panel) ≡ after a (with_panel s tool panel)
after_by (Move m) s tool panel = refl
after_by _ s tool panel = refl

pub finished : (a : Action) (s : State) (tool mounted : Option Tool) (panel set : Panel) (k : ℕ) (xs : List Queued) (w c t d : ℕ) →
    k ≡ suc s.done → xs ≡ drop 1 s.ring → w ≡ 0 → c ≡ s.change → t ≡ 0 → d ≡ 0 → mounted ≡ tool_after a tool → set ≡ panel_after a panel →
    with_panel (record s { done = k; ring = xs; rate = w; change = c; travelled = t; dwelt = d }) mounted set
    ≡ after a (record (without_head 0 (with_panel s tool panel)) { rate = 0 })
finished a s tool mounted panel set k xs w c t d e1 e2 e3 same e4 e5 e6 e7 =
    let whole : with_panel (record s { done = k; ring = xs; rate = w; change = c; travelled = t; dwelt = d }) mounted set
    ≡ with_panel (record s { done = suc s.done; ring = drop 1 s.ring; rate = 0; travelled = 0; dwelt = 0 }) (tool_after a tool) (panel_after a panel) =
    cc in
    whole ∙ after_by a (record s { done = suc s.done; ring = drop 1 s.ring; rate = 0; travelled = 0; dwelt = 0 }) tool panel

pub serves_done : (job : Job) (a : Action) (old new : State) (outcome : Outcome) → nat_lt (suc old.dwelt) (ticks_of job a) ≡ false →
    Finishes a old outcome new → Serves job a old outcome new
serves_done job a old new outcome over h = subst (λ t. MatchBool t (Dwells old outcome new) (Finishes a old outcome new)) (sym over) h

pub serves_more : (job : Job) (a : Action) (old new : State) (outcome : Outcome) → nat_lt (suc old.dwelt) (ticks_of job a) ≡ true →
    Dwells old outcome new → Serves job a old outcome new
serves_more job a old new outcome more h = subst (λ t. MatchBool t (Dwells old outcome new) (Finishes a old outcome new)) (sym more) h

-- ---- one more command

pub few_on : {A : Type 0} (job : Job) (done : ℕ) (ring : RingData) (drive : Drive A) (dwelt : ℕ) (panel : Panel) → IsInOrder job done ring drive dwelt panel →
    length ring.loaded < job.machine.ring → length drive.ramp.legs < drive.ramp.room
few_on job done ring drive dwelt panel o room =
    let few = few_legs job done o.legs.0 ring.loaded in
    omega (arith, few, ap length o.legs.1, o.places, room)

-- the joints before the first command
pub first_joints : (machine : MachineFile) (commands : List Command) (done : ℕ) (joints : JointsData) (ring : List Queued) →
    joints ≡ joints_before machine commands 0 → done ≡ 0 → ring ≡ [] → joints ≡ joints_before machine commands (done + length ring)
first_joints machine commands done joints ring e f k = rw (e, f, k) refl

pub joints_as : (machine asked : MachineFile) (commands given : List Command) (k : ℕ) (joints : JointsData) → joints ≡ joints_before asked given k → asked ≡ machine →
    given ≡ commands → joints ≡ joints_before machine commands k
joints_as machine asked commands given k joints h e f = rw (sym e, sym f) h

pub joints_of : (machine asked : MachineFile) (commands given : List Command) (k : ℕ) (joints : JointsData) → joints ≡ joints_before machine commands k → asked ≡ machine →
    given ≡ commands → joints ≡ joints_before asked given k
joints_of machine asked commands given k joints h e f = rw (e, f) h

pub more_as : (machine asked : MachineFile) (commands given : List Command) (k : ℕ) (on : Bool) (q : Queued) (old new : RampState) →
    new ≡ with_one_more (job_of asked given) k on q old → asked ≡ machine → given ≡ commands → new ≡ with_one_more (job_of machine commands) k on q old
more_as machine asked commands given k on q old new h e f = rw (sym e, sym f) h

still_before : (ring : List Queued) (q : Queued) → (IsMoving (ring ++ q ∷ []) → ⊥) → IsMoving ring → ⊥
still_before [] q still moves = moves
still_before (l ∷ ls) q still moves = still moves

pub loaded_order : {A : Type 0} (job : Job) (done : ℕ) (ring : RingData) (drive : Drive A) (dwelt : ℕ) (panel : Panel) (q : Queued) (k : ℕ) (after : RingData) (d : Drive A)
    (n : ℕ) → IsInOrder job done ring drive dwelt panel →
    d.ramp ≡ with_one_more job (done + length ring.loaded) drive.continues_travel q drive.ramp → d.continues_travel ≡ continues_travel q →
    d.joints ≡ joints_before job.machine job.commands (done + length ring.loaded + 1) →
    IsTarget job.machine (effective_at panel) after.loaded after.place d.target →
    done + length ring.loaded < length job.commands → k ≡ done → n ≡ dwelt → after.loaded ≡ ring.loaded ++ q ∷ [] → after.place ≡ ring.place → after.room ≡ ring.room →
    IsInOrder job k after d n panel
loaded_order job done ring drive dwelt panel q k after d n o is flows joint target less same brief queue place room =
    let all = ring.loaded ++ q ∷ [] in
    let more = length-append ring.loaded (q ∷ []) in
    let has = has_one_more job (done + length ring.loaded) drive.continues_travel q drive.ramp d.ramp is in
    let legs = legs_of_more job done o.legs.0 drive.continues_travel ring.loaded q drive.ramp o.legs.1 o.continues_travel in
    let far = travelled_more job done (done + length ring.loaded) o.legs.0 drive.continues_travel ring.loaded q drive.ramp d.ramp o.legs.1 is in
    let here : IsInOrder job done (record { loaded = all; place = ring.place; room = ring.room }) d dwelt panel = record {
      machine = o.machine;
      room = o.room;
      places = has.places ∙ o.places;
      legs = (legs.0, ap (λ (x : RampState). x.legs) is ∙ legs.1);
      left = has.left o.left;
      slow = λ still. (let slow = o.slow (still_before ring.loaded q still) in omega (arith, has.rate, has.last, slow));
      whole = λ still. has.whole (o.whole (still_before ring.loaded q still));
      joints = (let afterwards : done + length ring.loaded + 1 ≡ done + length all = omega (arith, more) in
          joint ∙ ap (λ k. joints_before job.machine job.commands k) afterwards);
      continues_travel = flows ∙ sym (last_of_more d.continues_travel ring.loaded q);
      place = o.place ∙ ap (λ x. x / MILLION) (sym far);
      target = subst (λ xs. IsTarget job.machine (effective_at panel) xs ring.place d.target) queue
          (subst (λ k. IsTarget job.machine (effective_at panel) after.loaded k d.target) place target);
      few = omega arith;
      brief = o.brief;
      still = λ stopped. has.rate ∙ o.still stopped;
    } in
    rw (same, brief, same_ring after all ring.place ring.room queue place room) here

-- the state after a load
pub loads : {A : Type 0} (job : Job) (done : ℕ) (ring : RingData) (drive : Drive A) (dwelt : ℕ) (position : StepPos) (tool : Option Tool) (panel : Panel) (c : Command)
    (q : Queued) (k : ℕ) (after : RingData) (d : Drive A) (n : ℕ) →
    IsInOrder job done ring drive dwelt panel → command_at job (done + length ring.loaded) ≡ Some c → length ring.loaded < job.machine.ring → q.command ≡ c →
    MayTake job c.action q.path →
    d.ramp ≡ with_one_more job (done + length ring.loaded) drive.continues_travel q drive.ramp → k ≡ done → n ≡ dwelt → after.loaded ≡ ring.loaded ++ q ∷ [] →
    LoadCommand job (state_of done ring drive dwelt position tool panel) (command_at job (done + length ring.loaded)) (Ok (Loaded (done + length ring.loaded)))
    (state_of k after d n position tool panel)
loads job done ring drive dwelt position tool panel c q k after d n o found room same takes is more brief queue =
    let old = state_of done ring drive dwelt position tool panel in
    let new = state_of k after d n position tool panel in
    let out : Outcome = Ok (Loaded (done + length ring.loaded)) in
    let has = has_one_more job (done + length ring.loaded) drive.continues_travel q drive.ramp d.ramp is in
    let far : travelled_of after.loaded d.ramp.rest ≡ travelled_of ring.loaded drive.ramp.rest =
    ap (λ xs. travelled_of xs d.ramp.rest) queue ∙ travelled_more job done
    (done + length ring.loaded) o.legs.0 drive.continues_travel ring.loaded q drive.ramp d.ramp o.legs.1 is in
    let rate = has.rate in
    let last = has.last in
    let own : after.loaded ≡ ring.loaded ++ record { command = c; path = q.path } ∷ [] =
    queue ∙ ap (λ x. ring.loaded ++ record { command = x; path = q.path } ∷ []) same in
    let whole : new ≡ record old { ring = ring.loaded ++ record { command = c; path = q.path } ∷ [] } = cc in
    subst (λ found. LoadCommand job old found out new) (sym found)
    (subst (λ b. MatchBool b ((path : List StepPos) × MayTake job c.action path × (out ≡ Ok (Loaded (done + length ring.loaded))) ×
    (new ≡ record old { ring = ring.loaded ++ record { command = c; path = path } ∷ [] })) ((out ≡ Err RingFull) × (new ≡ old)))
    (sym (lt-ltb (length ring.loaded) job.machine.ring room))
    (q.path, takes, refl, whole))

-- if the ring is full
pub loads_not : (job : Job) (old new : State) (c : Command) (found : Option Command) → found ≡ Some c → job.machine.ring ≤ length old.ring → new ≡ old →
    LoadCommand job old found (Err RingFull) new
loads_not job old new c found is full same =
    let out : Outcome = Err RingFull in
    subst (λ f. LoadCommand job old f out new) (sym is)
    (subst (λ b. MatchBool b ((path : List StepPos) × MayTake job c.action path × (out ≡ Ok (Loaded (old.done + length old.ring))) ×
    (new ≡ record old { ring = old.ring ++ record { command = c; path = path } ∷ [] })) ((out ≡ Err RingFull) × (new ≡ old)))
    (sym (le-ltb (length old.ring) job.machine.ring full))
    (refl, same))
