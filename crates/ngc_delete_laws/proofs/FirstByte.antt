-- If a line doesn't begin with `/`, no block delete is read of it.
use Rattle.std.proofs.Common.{◌≡◌, ◌≢◌, ◌⊎◌, ℕ, ◌==◌, Bool, true, false, List, [], ◌∷◌, ◌++◌, length, Result, Ok, Err, IfOk, refl, sym, ◌∙◌, ap, subst, inl, inr, arith}
use Rattle.std.specs.Prelude.{nat_le, not, ◌-◌, ◌&&◌, if◌then◌else◌, Option, Some, None}
use Rattle.std.proofs.lemmas.Bool.Decides.{eqb_tells, nat_tests}
use Rattle.ngc_line_reader.specs.Scan.{begins}
use Rattle.ngc_dialect_names.specs.declared.dialect.Dialect.{Dialect}
use Rattle.ngc_dialect_reader.specs.declared.fault.LineFault.{LineFault}
use Rattle.ngc_dialect_reader.specs.declared.part.Part.{Part}
use Rattle.ngc_dialect_reader.specs.declared.switches.Switches.{Switches}
use Rattle.ngc_dialect_reader.specs.Line.{line_of, located, located_fault, text_at}
use Rattle.ngc_dialect_reader.specs.Steps.{Answer}
use Rattle.ngc_dialect_reader.specs.Table.{switches_of}
use Rattle.ngc_dialect_reader.specs.Text.{fault_in, text, upper}
use Rattle.ngc_dialect_execution.specs.Text.{begins_with_slash}
use Rattle.ngc_delete_laws.proofs.FirstPart.{Stays, stays_without_slash}

-- ---- the first byte of the text

remarks : (s : List ℕ) → text (59 ∷ s) ≡ []
remarks [] = refl
remarks (b ∷ s) = remarks s

-- no letter becomes `/` in upper case
no_slash : (b : ℕ) → (b == 47) ≡ false → (upper b == 47) ≡ false
no_slash b e = by (nat_le 97 b && nat_le b 122) refl where
  by : (small : Bool) → (nat_le 97 b && nat_le b 122) ≡ small → ((if small then b - 32 else b) == 47) ≡ false
  by true s = grind (arith, nat_tests)
  by false s = e

abbrev Begins : List ℕ → Type 0
Begins line = begins_with_slash line ≡ false → begins 47 (text line) ≡ false

-- a carriage return is white space at the line's end, and a byte of the text before
returned : (rest : List ℕ) → Begins rest → Begins (13 ∷ rest)
returned rest next h = by (length rest == 0) refl where
  by : (last : Bool) → (length rest == 0) ≡ last → begins 47 (text (13 ∷ rest)) ≡ false
  by true e = rw e (next h)
  by false e = rw e refl

-- a byte that is neither white space nor the begin of a comment up to the line's end
visible : (b : ℕ) (rest : List ℕ) → (b == 32) ≡ false → (b == 9) ≡ false → (b == 13) ≡ false → (b == 59) ≡ false → Begins (b ∷ rest)
visible b rest s t r m h =
    let is : begins_with_slash (b ∷ rest) ≡ (b == 47) = rw (s, t, r) refl in
    let first : begins 47 (text (b ∷ rest)) ≡ (upper b == 47) = rw (s, t, r, m) refl in
    first ∙ no_slash b (sym is ∙ h)

one_byte : (b : ℕ) (rest : List ℕ) → Begins rest → Begins (b ∷ rest)
one_byte b rest next = at_space (eqb_tells b 32) where
  at_remark : (b == 32) ≡ false → (b == 9) ≡ false → (b == 13) ≡ false → (((b == 59) ≡ true) × (b ≡ 59)) ⊎ (((b == 59) ≡ false) × (b ≢ 59)) → Begins (b ∷ rest)
  at_remark s t r (inl e) = subst (λ (c : ℕ). Begins (c ∷ rest)) (sym e.1) (λ h. ap (begins 47) (remarks rest))
  at_remark s t r (inr e) = visible b rest s t r e.0

  at_return : (b == 32) ≡ false → (b == 9) ≡ false → (((b == 13) ≡ true) × (b ≡ 13)) ⊎ (((b == 13) ≡ false) × (b ≢ 13)) → Begins (b ∷ rest)
  at_return s t (inl e) = subst (λ (c : ℕ). Begins (c ∷ rest)) (sym e.1) (returned rest next)
  at_return s t (inr e) = at_remark s t e.0 (eqb_tells b 59)

  at_tab : (b == 32) ≡ false → (((b == 9) ≡ true) × (b ≡ 9)) ⊎ (((b == 9) ≡ false) × (b ≢ 9)) → Begins (b ∷ rest)
  at_tab s (inl e) = subst (λ (c : ℕ). Begins (c ∷ rest)) (sym e.1) next
  at_tab s (inr e) = at_return s e.0 (eqb_tells b 13)

  at_space : (((b == 32) ≡ true) × (b ≡ 32)) ⊎ (((b == 32) ≡ false) × (b ≢ 32)) → Begins (b ∷ rest)
  at_space (inl e) = subst (λ (c : ℕ). Begins (c ∷ rest)) (sym e.1) next
  at_space (inr e) = at_tab e.0 (eqb_tells b 9)

text_begins : (line : List ℕ) → Begins line
text_begins [] h = refl
text_begins (b ∷ rest) h = one_byte b rest (text_begins rest) h

-- ---- the parts of the line

stay_located : (line : List ℕ) (r : Answer) → IfOk r (λ x. Stays x.0) → IfOk (located line r) Stays
stay_located line (Ok x) h = h
stay_located line (Err r) h = tt

stay_unless : (d : Switches) (line : List ℕ) (fault : Option LineFault) → IfOk (located line (text_at d (text line))) Stays → IfOk (located_fault d line fault) Stays
stay_unless d line (Some fault) h = tt
stay_unless d line None h = h

either : (b : Bool) (x y : Result (List Part) LineFault) → IfOk x Stays → IfOk y Stays → IfOk (if b then x else y) Stays
either true x y h k = h
either false x y h k = k

pub line_stays : (d : Dialect) (line : List ℕ) → begins_with_slash line ≡ false → IfOk (line_of d line) Stays
line_stays d line h =
    let switches : Switches = switches_of d in
    either (not (nat_le (length line) 256)) _ _ tt
    (stay_unless switches line (fault_in switches.closed_comments line)
    (stay_located line (text_at switches (text line)) (stays_without_slash switches (text line) (text_begins line h))))
