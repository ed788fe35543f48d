-- Steps that fit in 32 bits, and boxes of six of them.
use Rattle.std.proofs.Common.{◌≡◌, ◌<◌, ◌≤◌, ap, Bool, true, false, Result, Ok, List, [], ◌∷◌, length, get_or, refl, sym, ◌∙◌, w32, w64, to_z, of_z, SFits}
use Rattle.std.proofs.Common.{arith}
use Rattle.std.specs.Prelude.{ℤ, pos, negsuc, ◌&&◌, nat_le}
use Rattle.std.proofs.lemmas.Bool.{and_from, and_parts}
use Rattle.std.proofs.lemmas.Bool.Decides.{nat_tests}
use Rattle.std.proofs.lemmas.Int.{to_z-of_z}
use Rattle.ngc_fixed_length.specs.declared.points.StepPos.{StepPos}
use Rattle.ngc_certificate_text.specs.declared.lines.LineFlaw.{LineFlaw}
use Rattle.ngc_fixed_length.specs.declared.points.GridBox.{GridBox}
use Rattle.ngc_fixed_length.specs.Boxes.{is_below}
use Rattle.ngc_certificate_text.specs.Lines.{is_step, are_steps, ranged}
use Rattle.ngc_certificate_text.specs.Parts.{parsed_box, box_between}

step_fits : (z : ℤ) → is_step z ≡ true → SFits w32 z
step_fits (pos n) h = let p = and_parts true (nat_le n 2147483647) h in record { sfits = grind (arith, nat_tests, p.1) }
step_fits (negsuc n) h = let p = and_parts (nat_le n 2147483647) true h in record { sfits = grind (arith, nat_tests, p.0) }

pub held_step : (z : ℤ) → SFits w64 z → is_step z ≡ true → to_z w32 (of_z w32 (to_z w64 (of_z w64 z))) ≡ z
held_step z fits h = ap (λ (y : ℤ). to_z w32 (of_z w32 y)) (to_z-of_z w64 z fits) ∙ to_z-of_z w32 z (step_fits z h)

abbrev pub point : ℤ → ℤ → ℤ → StepPos
point x y z = record { x = x; y = y; z = z }

pub is_step_held : (z : ℤ) (b : Bool) → SFits w64 z → b ≡ is_step (to_z w64 (of_z w64 z)) → b ≡ true → is_step z ≡ true
is_step_held z b fits e h = ap is_step (sym (to_z-of_z w64 z fits)) ∙ sym e ∙ h

ranged_in : (b : Bool) (p : StepPos) → b ≡ true → Ok p ≡ ranged b p
ranged_in b p e = rw e refl

pub held_corner : (x y z a b c : ℤ) → a ≡ x → b ≡ y → c ≡ z → is_step x ≡ true → is_step y ≡ true → is_step z ≡ true →
    Ok (point a b c) ≡ ranged (are_steps (point x y z)) (point x y z)
held_corner x y z a b c ea eb ec hx hy hz =
    let p : point a b c ≡ point x y z = rw (ea, eb, ec) refl in
    ap (λ (q : StepPos). ok_point q) p ∙ ranged_in (are_steps (point x y z)) (point x y z) (and_from _ _ hx (and_from _ _ hy hz)) where
      ok_point : StepPos → Result StepPos LineFlaw
      ok_point q = Ok q

abbrev box_at : StepPos → StepPos → GridBox
box_at low high = record { low = low; high = high }

box_parts : (p q : Bool) (low high : StepPos) → box_between (ranged p low) (ranged q high) ≡ ranged (p && (q && is_below low high)) (box_at low high)
box_parts true true low high = refl
box_parts true false low high = refl
box_parts false q low high = refl

six_said : (xs : List ℤ) (a b c d e f : ℤ) → 6 ≤ length xs → length xs < 7 → a ≡ get_or xs 0 (pos 0) → b ≡ get_or xs 1 (pos 0) → c ≡ get_or xs 2 (pos 0)
    → d ≡ get_or xs 3 (pos 0) → e ≡ get_or xs 4 (pos 0) → f ≡ get_or xs 5 (pos 0)
    → box_between (ranged (are_steps (point a b c)) (point a b c)) (ranged (are_steps (point d e f)) (point d e f)) ≡ parsed_box xs
six_said [] a b c d e f low high ea eb ec ed ee ef = absurd (omega (arith, low))
six_said (x0 ∷ []) a b c d e f low high ea eb ec ed ee ef = absurd (omega (arith, low))
six_said (x0 ∷ x1 ∷ []) a b c d e f low high ea eb ec ed ee ef = absurd (omega (arith, low))
six_said (x0 ∷ x1 ∷ x2 ∷ []) a b c d e f low high ea eb ec ed ee ef = absurd (omega (arith, low))
six_said (x0 ∷ x1 ∷ x2 ∷ x3 ∷ []) a b c d e f low high ea eb ec ed ee ef = absurd (omega (arith, low))
six_said (x0 ∷ x1 ∷ x2 ∷ x3 ∷ x4 ∷ []) a b c d e f low high ea eb ec ed ee ef = absurd (omega (arith, low))
six_said (x0 ∷ x1 ∷ x2 ∷ x3 ∷ x4 ∷ x5 ∷ []) a b c d e f low high ea eb ec ed ee ef =
    let p : point a b c ≡ point x0 x1 x2 = rw (ea, eb, ec) refl in
    let q : point d e f ≡ point x3 x4 x5 = rw (ed, ee, ef) refl in
    ap (λ (s : StepPos). box_between (ranged (are_steps s) s) (ranged (are_steps (point d e f)) (point d e f))) p
    ∙ ap (λ (s : StepPos). box_between (ranged (are_steps (point x0 x1 x2)) (point x0 x1 x2)) (ranged (are_steps s) s)) q
    ∙ box_parts (are_steps (point x0 x1 x2)) (are_steps (point x3 x4 x5)) (point x0 x1 x2) (point x3 x4 x5)
six_said (x0 ∷ x1 ∷ x2 ∷ x3 ∷ x4 ∷ x5 ∷ x6 ∷ xs) a b c d e f low high ea eb ec ed ee ef = absurd (omega (arith, high))

pub box_is_said : (xs : List ℤ) (a b c d e f : ℤ) (low high : Result StepPos LineFlaw) (found : Result GridBox LineFlaw) → 6 ≤ length xs → length xs < 7
    → a ≡ get_or xs 0 (pos 0) → b ≡ get_or xs 1 (pos 0) → c ≡ get_or xs 2 (pos 0) → d ≡ get_or xs 3 (pos 0) → e ≡ get_or xs 4 (pos 0) → f ≡ get_or xs 5 (pos 0)
    → low ≡ ranged (are_steps (point a b c)) (point a b c) → high ≡ ranged (are_steps (point d e f)) (point d e f) → found ≡ box_between low high →
    found ≡ parsed_box xs
box_is_said xs a b c d e f low high found some few ea eb ec ed ee ef is_low is_high is =
    is ∙ ap (λ (l : Result StepPos LineFlaw). box_between l high) is_low
    ∙ ap (λ (h : Result StepPos LineFlaw). box_between (ranged (are_steps (point a b c)) (point a b c)) h) is_high
    ∙ six_said xs a b c d e f some few ea eb ec ed ee ef
