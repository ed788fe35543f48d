-- The boxes of a path rise with its ends.
use Rattle.std.proofs.Common.{ℕ, ◌*◌, ◌<◌, ◌≤◌, ℤ, pos, negsuc, ◌≤ℤ◌, arith}
use Rattle.std.specs.Int.{int_min, int_max}
use Rattle.std.proofs.lemmas.Int.{ints, clamps}
use Rattle.ngc_fixed_length.specs.Rounding.{nearest}
use Rattle.ngc_fixed_length.specs.Grid.{grid}
use Rattle.ngc_fixed_length.specs.Length.{IsStep}
use Rattle.ngc_fixed_length.specs.Boxes.{only}
use Rattle.ngc_fixed_length.specs.declared.points.Point3.{Point3}
use Rattle.ngc_fixed_length.specs.declared.points.StepPos.{StepPos}
use Rattle.ngc_fixed_length.specs.declared.points.GridBox.{GridBox}
use Rattle.ngc_machine_files.specs.Ranges.{IsAtMost}
use Rattle.ngc_arc_geometry.specs.Swept.{swept_box}
use Rattle.ngc_commands.specs.declared.movement.Way.{Way}
use Rattle.ngc_commands.specs.declared.movement.Way.TheVariants.{Line, Arc}
use Rattle.ngc_certificate.specs.DerivedBox.{cut_at, low_between, high_between, line_box}
use Rattle.ngc_place.specs.Holds.{over}
use Rattle.ngc_place.proofs.Rounded.{nearest_up, below_up, above_up, cut_up}
use Rattle.ngc_place.proofs.ClearBoxes.{IsWithin}

-- on each axis p is at most q
pub record IsUnder (p q : StepPos) : Type 0 where
  pub x : p.x ≤ℤ q.x
  pub y : p.y ≤ℤ q.y
  pub z : p.z ≤ℤ q.z

-- no corner of a box falls
pub record Rises (a b : GridBox) : Type 0 where
  pub low : IsUnder a.low b.low
  pub high : IsUnder a.high b.high

pub within_over : (a b c d : GridBox) → Rises a b → Rises c d → IsWithin (over a d) (over b c)
within_over a b c d h i = record {
  x_low = h.low.x;
  x_high = i.high.x;
  y_low = h.low.y;
  y_high = i.high.y;
  z_low = h.low.z;
  z_high = i.high.z;
}

pub stays : (a : GridBox) → Rises a a
stays a = record {
  low = record { x = omega (arith, ints); y = omega (arith, ints); z = omega (arith, ints) };
  high = record { x = omega (arith, ints); y = omega (arith, ints); z = omega (arith, ints) };
}

-- ---- grid points

grid_up : (k : ℕ) (p q : Point3) → 0 < k → IsAtMost p q → IsUnder (grid (pos k) p) (grid (pos k) q)
grid_up k p q some h = record { x = nearest_up p.x q.x k some h.x; y = nearest_up p.y q.y k some h.y; z = nearest_up p.z q.z k some h.z }

pub place_rises : (step : ℤ) (p q : Point3) → IsStep step → IsAtMost p q → Rises (only (grid step p)) (only (grid step q))
place_rises (pos k) p q range h =
    let up = grid_up k p q (omega (arith, ints, range.least)) h in
    record { low = up; high = up }
place_rises (negsuc k) p q range h = absurd (omega (arith, ints, range.least))

-- ---- lines

pub least_up : (x y z w : ℤ) → x ≤ℤ z → y ≤ℤ w → int_min x y ≤ℤ int_min z w
least_up x y z w h i = omega (arith, ints, clamps, h, i)

pub greatest_up : (x y z w : ℤ) → x ≤ℤ z → y ≤ℤ w → int_max x y ≤ℤ int_max z w
greatest_up x y z w h i = omega (arith, ints, clamps, h, i)

low_cut_up : (k : ℕ) (b e c d : ℤ) (s t : ℕ) → 0 < k → s ≤ 65536 → t ≤ 65536 → b ≤ℤ c → e ≤ℤ d →
    low_between (pos k) b e s t ≤ℤ low_between (pos k) c d s t
low_cut_up k b e c d s t some hs ht h i =
    let m = least_up (cut_at b e s) (cut_at b e t) (cut_at c d s) (cut_at c d t) (cut_up b e c d s hs h i) (cut_up b e c d t ht h i) in
    above_up _ _ (k * 65536) (omega (arith, some)) (omega (arith, ints, m))

high_cut_up : (k : ℕ) (b e c d : ℤ) (s t : ℕ) → 0 < k → s ≤ 65536 → t ≤ 65536 → b ≤ℤ c → e ≤ℤ d →
    high_between (pos k) b e s t ≤ℤ high_between (pos k) c d s t
high_cut_up k b e c d s t some hs ht h i =
    let m = greatest_up (cut_at b e s) (cut_at b e t) (cut_at c d s) (cut_at c d t) (cut_up b e c d s hs h i) (cut_up b e c d t ht h i) in
    below_up _ _ (k * 65536) (omega (arith, some)) (omega (arith, ints, m))

low_up : (k : ℕ) (b e c d : ℤ) (s t : ℕ) → 0 < k → s ≤ 65536 → t ≤ 65536 → b ≤ℤ c → e ≤ℤ d →
    int_max (low_between (pos k) b e s t) (int_min (nearest b (pos k)) (nearest e (pos k)))
    ≤ℤ int_max (low_between (pos k) c d s t) (int_min (nearest c (pos k)) (nearest d (pos k)))
low_up k b e c d s t some hs ht h i =
    greatest_up _ _ _ _ (low_cut_up k b e c d s t some hs ht h i) (least_up _ _ _ _ (nearest_up b c k some h) (nearest_up e d k some i))

high_up : (k : ℕ) (b e c d : ℤ) (s t : ℕ) → 0 < k → s ≤ 65536 → t ≤ 65536 → b ≤ℤ c → e ≤ℤ d →
    int_min (high_between (pos k) b e s t) (int_max (nearest b (pos k)) (nearest e (pos k)))
    ≤ℤ int_min (high_between (pos k) c d s t) (int_max (nearest c (pos k)) (nearest d (pos k)))
high_up k b e c d s t some hs ht h i =
    least_up _ _ _ _ (high_cut_up k b e c d s t some hs ht h i) (greatest_up _ _ _ _ (nearest_up b c k some h) (nearest_up e d k some i))

pub line_rises : (step : ℤ) (p q u v : Point3) (s t : ℕ) → IsStep step → s ≤ 65536 → t ≤ 65536 → IsAtMost p u → IsAtMost q v →
    Rises (line_box step p q s t) (line_box step u v s t)
line_rises (pos k) p q u v s t range hs ht h i =
    let some : 0 < k = omega (arith, ints, range.least) in
    record {
      low = record {
        x = low_up k p.x q.x u.x v.x s t some hs ht h.x i.x;
        y = low_up k p.y q.y u.y v.y s t some hs ht h.y i.y;
        z = low_up k p.z q.z u.z v.z s t some hs ht h.z i.z;
      };
      high = record {
        x = high_up k p.x q.x u.x v.x s t some hs ht h.x i.x;
        y = high_up k p.y q.y u.y v.y s t some hs ht h.y i.y;
        z = high_up k p.z q.z u.z v.z s t some hs ht h.z i.z;
      };
    }
line_rises (negsuc k) p q u v s t range hs ht h i = absurd (omega (arith, ints, range.least))

-- ---- paths of one kind

abbrev pub WayRises : ℤ → Way → Way → Type 0
WayRises step (Line p q) (Line u v) = IsAtMost p u × IsAtMost q v
WayRises step (Arc a) (Arc b) = Rises (swept_box step a) (swept_box step b)
WayRises step _ _ = ⊥
