-- Each position of a run is safe, from the opening state on, if the certificate is valid for the
-- commands.
use Rattle.std.proofs.Common.{◌≡◌, ℕ, zero, suc, ◌+◌, ◌*◌, ◌/◌, ◌<◌, ap, subst, sym, ◌∙◌, arith, refl, List, ◌∷◌, ℤ, pos, negsuc, ◌*ℤ◌, ◌≤ℤ◌, neg_ℤ}
use Rattle.std.specs.Prelude.{IsTrue, ◌&&◌, int_div, int_rem, int_le, slice_get}
use Rattle.std.proofs.lemmas.Int.{ints, quot-rem}
use Rattle.std.proofs.lemmas.Nat.{div-mul-add}
use Rattle.ngc_fixed_length.specs.Boxes.{only}
use Rattle.ngc_fixed_length.specs.declared.points.Point3.{Point3}
use Rattle.ngc_fixed_length.specs.Grid.{grid}
use Rattle.ngc_fixed_length.specs.Rounding.{nearest, nearest_size}
use Rattle.ngc_commands.specs.declared.command.Command.{Command}
use Rattle.ngc_commands.specs.Sequence.{HaveEvenRadii}
use Rattle.ngc_commands.specs.Movement.{actions_of, ways_of, AreJoined}
use Rattle.ngc_machine_files.specs.Machine.{MachineFile}
use Rattle.ngc_machine_files.specs.MachineRanges.{IsMachine}
use Rattle.ngc_machine_files.specs.Ranges.{IsAtMost}
use Rattle.ngc_collision.specs.Body.{is_in_travel, is_below, nanometres_of}
use Rattle.ngc_certificate_text.specs.Certificate.{Entry}
use Rattle.ngc_certificate.specs.Valid.{IsValid}
use Rattle.ngc_certificate.proofs.TrueTests.{and, le_test}
use Rattle.ngc_events.specs.declared.event.Event.{Event}
use Rattle.ngc_machine_model.specs.State.{State, opening}
use Rattle.ngc_machine_model.specs.Step.{Outcome}
use Rattle.ngc_machine_model.specs.Run.{Run}
use Rattle.ngc_machine_model.specs.Safety.{AreSafe}
use Rattle.ngc_machine_model.specs.Headline.{job_of}
use Rattle.ngc_machine_model.proofs.SafeRun.{HoldsIn, safe_run}

whole_nearest : (m g : ℕ) → 0 < g → nearest_size (m * g) g ≡ m
whole_nearest m g p = let e : 2 * (m * g) + g ≡ m * (2 * g) + g = omega arith in ap (λ t. t / (2 * g)) e ∙ div-mul-add m (2 * g) g (omega arith)

-- a multiple of the step is its own grid point
nearest_multiple : (q : ℤ) (g : ℕ) → nearest (q *ℤ pos (suc g)) (pos (suc g)) ≡ q
nearest_multiple (pos m) g = ap pos (whole_nearest m (suc g) (omega arith))
nearest_multiple (negsuc m) g =
    let e : suc m * suc g ≡ suc (m * suc g + g) = omega arith in
    let a : nearest (negsuc m *ℤ pos (suc g)) (pos (suc g)) ≡ nearest (negsuc (m * suc g + g)) (pos (suc g)) =
    ap (λ t. nearest (neg_ℤ (pos t)) (pos (suc g))) e in
    let b : nearest_size (suc (m * suc g + g)) (suc g) ≡ suc m = ap (λ t. nearest_size t (suc g)) (sym e) ∙ whole_nearest (suc m) (suc g) (omega arith) in
    a ∙ ap (λ t. neg_ℤ (pos t)) b

on_grid : (step c : ℤ) → pos 1 ≤ℤ step → int_rem c step ≡ pos 0 → nearest c step *ℤ step ≡ c
on_grid (pos zero) c p z = absurd (omega (arith, ints, p))
on_grid (negsuc g) c p z = absurd (omega (arith, ints, p))
on_grid (pos (suc g)) c p z =
    let q = quot-rem c (pos (suc g)) in
    let e : int_div c (pos (suc g)) *ℤ pos (suc g) ≡ c = omega (arith, ints, q, z) in
    subst (λ t. nearest t (pos (suc g)) *ℤ pos (suc g) ≡ t) e (ap (λ t. t *ℤ pos (suc g)) (nearest_multiple (int_div c (pos (suc g))) g))

abbrev made : ℤ → ℤ → ℤ → Point3
made x y z = record { x = x; y = y; z = z }

same_point : {a b c d e f : ℤ} → a ≡ d → b ≡ e → c ≡ f → made a b c ≡ made d e f
same_point {a} {b} {c} {d} {e} {f} x y z = ap (λ t. made t b c) x ∙ ap (λ t. made d t c) y ∙ ap (λ t. made d e t) z

pub one_step : (machine : MachineFile) → IsMachine machine → pos 1 ≤ℤ machine.step
one_step machine m = let i = m.step.least in omega (arith, ints, i)

start_exact : (machine : MachineFile) → IsMachine machine → nanometres_of machine.step (grid machine.step machine.start) ≡ machine.start
start_exact machine m =
    let s = one_step machine m in
    let g = m.travel.start_on_grid in
    same_point (on_grid machine.step machine.start.x s g.x) (on_grid machine.step machine.start.y s g.y) (on_grid machine.step machine.start.z s g.z)

tested : (p q : Point3) → IsAtMost p q → IsTrue (is_below p q)
tested p q h =
    and (int_le p.x q.x) (int_le p.y q.y && int_le p.z q.z) (le_test p.x q.x h.x)
    (and (int_le p.y q.y) (int_le p.z q.z) (le_test p.y q.y h.y) (le_test p.z q.z h.z))

start_inside : (machine : MachineFile) → IsMachine machine → IsTrue (is_in_travel machine (only (grid machine.step machine.start)))
start_inside machine m = and _ _
    (subst (λ p. IsTrue (is_below machine.low p)) (sym (start_exact machine m)) (tested machine.low machine.start m.travel.start_above))
    (subst (λ p. IsTrue (is_below p machine.high)) (sym (start_exact machine m)) (tested machine.start machine.high m.travel.start_below))

pub opening_holds : (machine : MachineFile) (commands : List Command) (entries : List Entry) → IsMachine machine → IsValid machine commands entries →
    AreJoined machine.start (ways_of (actions_of commands)) → HaveEvenRadii (ways_of (actions_of commands)) →
    HoldsIn (job_of machine commands) (opening machine)
opening_holds machine commands entries m v j even = record {
  left = commands;
  entries = entries;
  place = machine.start;
  at = λ k. ap (slice_get commands) (omega arith);
  clear = v.clear;
  joined = j;
  even = even;
  fits = tt;
  safe = record { inside = start_inside machine m; clear = v.start };
  stands = λ n. refl;
}

-- each state of each run is safe
pub positions_safe : (machine : MachineFile) (commands : List Command) (entries : List Entry) → IsMachine machine → IsValid machine commands entries →
    AreJoined machine.start (ways_of (actions_of commands)) → HaveEvenRadii (ways_of (actions_of commands)) →
    (events : List Event) (outcomes : List Outcome) (states : List State) → Run (job_of machine commands) (opening machine) events outcomes states →
    AreSafe machine (opening machine ∷ states)
positions_safe machine commands entries m v j even events outcomes states r =
    let h = opening_holds machine commands entries m v j even in
    (h.safe, safe_run (job_of machine commands) (opening machine) events outcomes states (one_step machine m) h r)
