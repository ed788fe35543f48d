-- Hardware reads the pulses from samples.
use Rattle.std.proofs.Common.{◌≡◌, ◌+◌, ◌*◌, ◌≤◌, ◌/◌, ◌%◌, ℕ, zero, suc, ℤ, pos, negsuc, List, [], ◌∷◌, ◌++◌, length, Bool, true, false, refl, ap, sym, ◌∙◌, arith}
use Rattle.std.specs.Prelude.{if◌then◌else◌, bit_xor, nat_eq, nat_abs}
use Rattle.std.specs.Int.Bits.{xor_assoc, xor_self, xor_zero_r}
use Rattle.std.specs.List.{AllByRecursion}
use Rattle.ngc_fixed_length.specs.declared.points.StepPos.{StepPos}
use Rattle.ngc_pulses.specs.declared.axis_step.AxisStep.{AxisStep}
use Rattle.ngc_pulses.specs.declared.axis_step.Steps.{Steps}
use Rattle.ngc_pulses.specs.declared.samples.Levels.{Levels}
use Rattle.ngc_pulses.specs.declared.samples.Switch.{Switch}
use Rattle.ngc_pulses.specs.Vcd.{axis_step, steps_of}
use Rattle.ngc_pulses.specs.Samples.{bit, has_bit, moved_by, move_in, moves_in, IsPathStep, ReadBack, level_bits, step_bits, levels_in, samples_from, all_off}

-- ---- bits

abbrev as_number : Bool → ℕ
as_number true = 1
as_number false = 0

small : (b : Bool) → as_number b ≤ 1
small true = omega arith
small false = omega arith

valued : (v : ℕ) (b : Bool) → bit v b ≡ v * as_number b
valued v true = omega arith
valued v false = omega arith

is_bit : (n : ℕ) (b : Bool) → n ≡ as_number b → nat_eq n 1 ≡ b
is_bit n true e = ap (λ k. nat_eq k 1) e
is_bit n false e = ap (λ k. nat_eq k 1) e

-- the bits of a byte are those from which it is made
record AreBits (byte : ℕ) (xs xd ys yd zs zd : Bool) : Type 0 where
  x_step : has_bit 1 byte ≡ xs
  x_up : has_bit 2 byte ≡ xd
  y_step : has_bit 4 byte ≡ ys
  y_up : has_bit 8 byte ≡ yd
  z_step : has_bit 16 byte ≡ zs
  z_up : has_bit 32 byte ≡ zd

byte_bits : (byte : ℕ) (xs xd ys yd zs zd on flows : Bool) →
    byte ≡ (bit 2 xd + (bit 8 yd + (bit 32 zd + (bit 64 on + bit 128 flows)))) + (bit 1 xs + (bit 4 ys + bit 16 zs)) → AreBits byte xs xd ys yd zs zd
byte_bits byte xs xd ys yd zs zd on flows e =
    let a = small xs in let b = small xd in let c = small ys in let d = small yd in let f = small zs in let g = small zd in
    let i = valued 1 xs in let j = valued 2 xd in let k = valued 4 ys in let l = valued 8 yd in let m = valued 16 zs in let n = valued 32 zd in
    let o = valued 64 on in let p = valued 128 flows in
    record {
      x_step = is_bit (byte / 1 % 2) xs (omega (arith, e, a, b, c, d, f, g, i, j, k, l, m, n, o, p));
      x_up = is_bit (byte / 2 % 2) xd (omega (arith, e, a, b, c, d, f, g, i, j, k, l, m, n, o, p));
      y_step = is_bit (byte / 4 % 2) ys (omega (arith, e, a, b, c, d, f, g, i, j, k, l, m, n, o, p));
      y_up = is_bit (byte / 8 % 2) yd (omega (arith, e, a, b, c, d, f, g, i, j, k, l, m, n, o, p));
      z_step = is_bit (byte / 16 % 2) zs (omega (arith, e, a, b, c, d, f, g, i, j, k, l, m, n, o, p));
      z_up = is_bit (byte / 32 % 2) zd (omega (arith, e, a, b, c, d, f, g, i, j, k, l, m, n, o, p));
    }

-- ---- a tick

axis_read : (up : Bool) (d : ℤ) → nat_abs d ≤ 1 → moved_by (axis_step up d).steps (axis_step up d).up ≡ d
axis_read up (pos zero) h = refl
axis_read up (pos (suc zero)) h = refl
axis_read up (pos (suc (suc n))) h = absurd (omega (arith, h))
axis_read up (negsuc zero) h = refl
axis_read up (negsuc (suc n)) h = absurd (omega (arith, h))

abbrev place : ℤ → ℤ → ℤ → StepPos
place x y z = record { x = x; y = y; z = z }

by_bits : (byte : ℕ) (s : Steps) → AreBits byte s.x.steps s.x.up s.y.steps s.y.up s.z.steps s.z.up →
    move_in byte ≡ place (moved_by s.x.steps s.x.up) (moved_by s.y.steps s.y.up) (moved_by s.z.steps s.z.up)
by_bits byte s h =
    let X : ℤ = moved_by (has_bit 1 byte) (has_bit 2 byte) in
    let Y : ℤ = moved_by (has_bit 4 byte) (has_bit 8 byte) in
    let Z : ℤ = moved_by (has_bit 16 byte) (has_bit 32 byte) in
    let x : X ≡ moved_by s.x.steps s.x.up = ap (λ b. moved_by b (has_bit 2 byte)) h.x_step ∙ ap (moved_by s.x.steps) h.x_up in
    let y : Y ≡ moved_by s.y.steps s.y.up = ap (λ b. moved_by b (has_bit 8 byte)) h.y_step ∙ ap (moved_by s.y.steps) h.y_up in
    let z : Z ≡ moved_by s.z.steps s.z.up = ap (λ b. moved_by b (has_bit 32 byte)) h.z_step ∙ ap (moved_by s.z.steps) h.z_up in
    ap (λ k. place k Y Z) x ∙ ap (λ k. place (moved_by s.x.steps s.x.up) k Z) y ∙ ap (λ k. place (moved_by s.x.steps s.x.up) (moved_by s.y.steps s.y.up) k) z

unmasked : (byte mask : ℕ) → bit_xor (bit_xor byte mask) mask ≡ byte
unmasked byte mask = xor_assoc byte mask mask ∙ ap (bit_xor byte) (xor_self mask) ∙ xor_zero_r byte

tick_read : (mask : ℕ) (l : Levels) (p : StepPos) (w : Switch) → IsPathStep p →
    move_in (bit_xor (bit_xor (level_bits (levels_in l (steps_of l.directions p) w) + step_bits (steps_of l.directions p)) mask) mask) ≡ p
tick_read mask l p w h =
    let s : Steps = steps_of l.directions p in
    let now : Levels = levels_in l s w in
    let byte : ℕ = level_bits now + step_bits s in
    ap move_in (unmasked byte mask)
    ∙ by_bits byte s (byte_bits byte s.x.steps s.x.up s.y.steps s.y.up s.z.steps s.z.up now.spindle now.coolant refl)
    ∙ ap (λ k. place k (moved_by s.y.steps s.y.up) (moved_by s.z.steps s.z.up)) (axis_read l.directions.x p.x h.x)
    ∙ ap (λ k. place p.x k (moved_by s.z.steps s.z.up)) (axis_read l.directions.y p.y h.y)
    ∙ ap (λ k. place p.x p.y k) (axis_read l.directions.z p.z h.z)

-- ---- all ticks

all_read : (mask : ℕ) (l : Levels) (ps : List StepPos) (ws : List Switch) → AllByRecursion IsPathStep ps → length ws ≡ length ps →
    moves_in mask (samples_from mask l ps ws) ≡ ps
all_read mask l [] ws h e = refl
all_read mask l (p ∷ ps) [] h e = absurd (omega (arith, e))
all_read mask l (p ∷ ps) (w ∷ ws) h e =
    let s : Steps = steps_of l.directions p in
    let now : Levels = levels_in l s w in
    let rest : List StepPos = moves_in mask (samples_from mask now ps ws) in
    ap (λ (q : StepPos). q ∷ rest) (tick_read mask l p w h.0) ∙ ap (λ (qs : List StepPos). p ∷ qs) (all_read mask now ps ws h.1 (omega (arith, e)))

pub read_back : ReadBack
read_back mask pulses switches h e = all_read mask all_off pulses switches h e
