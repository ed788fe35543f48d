-- Tests of whole numbers.
use Rattle.std.proofs.Common.{◌≡◌, ◌∙◌, ap, refl, sym, arith, true, false, ℤ, pos, ◌-ℤ◌, ◌*ℤ◌, ◌≤ℤ◌}
use Rattle.std.specs.Prelude.{Bool, ◌&&◌, ◌||◌, int_le}
use Rattle.std.specs.Int.{int_max}
use Rattle.std.proofs.lemmas.Int.{ints, clamps}
use Rattle.ngc_findings.specs.Gaps.{GapIsReported}
use Rattle.ngc_findings.specs.Margins.{narrower, TightestIsReported}
use Rattle.ngc_findings.specs.Rooms.{SpaceIsReported}
use Rattle.ngc_findings.specs.declared.margins.Margin.{Margin}

pub le_of : (a b : ℤ) → int_le a b ≡ true → a ≤ℤ b
le_of a b h = grind (arith, ints)

pub le_test : (a b : ℤ) → a ≤ℤ b → int_le a b ≡ true
le_test a b h = grind (arith, ints)

pub same : (p q : Bool) → (p ≡ true → q ≡ true) → (q ≡ true → p ≡ true) → p ≡ q
same true q f g = sym (f refl)
same false true f g = g refl
same false false f g = refl

le_sub : (a b : ℤ) → int_le (pos 0) (a -ℤ b) ≡ int_le b a
le_sub a b =
    same _ _ (λ h. let e = le_of (pos 0) (a -ℤ b) h in le_test b a (omega (arith, ints, e)))
    (λ h. let e = le_of b a h in le_test (pos 0) (a -ℤ b) (omega (arith, ints, e)))

le_max : (a b : ℤ) → int_le (pos 0) (int_max a b) ≡ (int_le (pos 0) a || int_le (pos 0) b)
le_max a b = grind (arith, ints, clamps)

pairs : (p q r s t u : Bool) → ((p && q) && ((r && s) && (t && u))) ≡ ((p && (r && t)) && (q && (s && u)))
pairs false q r s t u = refl
pairs true q false s t u = grind (arith)
pairs true false true s t u = grind (arith)
pairs true true true false t u = grind (arith)
pairs true true true true t u = refl

flat : (p q r s t u : Bool) → ((p || q) || ((r || s) || (t || u))) ≡ (p || (q || (r || (s || (t || u)))))
flat true q r s t u = refl
flat false true r s t u = refl
flat false false true s t u = refl
flat false false false true t u = refl
flat false false false false t u = refl

pub room_law : SpaceIsReported
room_law m b =
    simp le_sub
    (pairs (int_le m.low.x (b.low.x *ℤ m.step)) (int_le (b.high.x *ℤ m.step) m.high.x) (int_le m.low.y (b.low.y *ℤ m.step))
    (int_le (b.high.y *ℤ m.step) m.high.y)
    (int_le m.low.z (b.low.z *ℤ m.step)) (int_le (b.high.z *ℤ m.step) m.high.z))

pub gap_law : GapIsReported
gap_law f b =
    simp (le_max, le_sub)
    (flat (int_le b.high.x f.low.x) (int_le f.high.x b.low.x) (int_le b.high.y f.low.y) (int_le f.high.y b.low.y) (int_le b.high.z f.low.z)
    (int_le f.high.z b.low.z))

-- the lesser of two isn't below 0 exactly if both aren't
least_left : (m n : Margin) → int_le (pos 0) (narrower m n).left ≡ (int_le (pos 0) m.left && int_le (pos 0) n.left)
least_left m n = grind (arith, ints)

triples : (p q r s t u : Bool) → ((p && q) && ((r && s) && (t && u))) ≡ (((p && q) && (r && s)) && (t && u))
triples false q r s t u = refl
triples true false r s t u = refl
triples true true r s t u = refl

pub tightest_law : TightestIsReported
tightest_law r =
    simp least_left
    (triples (int_le (pos 0) r.x.below) (int_le (pos 0) r.x.above) (int_le (pos 0) r.y.below) (int_le (pos 0) r.y.above) (int_le (pos 0) r.z.below)
    (int_le (pos 0) r.z.above))

-- if the first of two tests holds, both hold exactly if the second does
pub both_hold : (p q r : Bool) → p ≡ true → r ≡ q → r ≡ (p && q)
both_hold p q r holds is = is ∙ ap (λ (b : Bool). b && q) (sym holds)
