-- Words whose value is a number, done without the stack; one more part of a line.
use Rattle.std.proofs.Common.{◌≡◌, ℕ, ℤ, ◌+◌, ◌-◌, ◌≤◌, Bool, false, List, [], ◌∷◌, ◌++◌, length, take, drop, get_or, Option, Some, Result, Ok, Err, IfOk, refl, ap, sym, subst, ◌∙◌, arith}
use Rattle.std.specs.Prelude.{slice_get}
use Rattle.std.proofs.Math.Seq.{take-append_seam, take-length}
use Rattle.std.proofs.lemmas.List.{length_push, length-drop}
use Rattle.std.proofs.lemmas.Result.{IfOk-at_ok}
use Rattle.ngc_line_reader.specs.Scan.{Gives, ◌>>=◌}
use Rattle.ngc_dialect_reader.specs.declared.part.Part.{Part}
use Rattle.ngc_dialect_reader.specs.declared.part.Literal.{Literal}
use Rattle.ngc_dialect_numbers.specs.Numbers.{limited}
use Rattle.ngc_dialect_parameters.specs.declared.fault.Cause.{Cause}
use Rattle.ngc_dialect_parameters.specs.declared.fault.EvaluationFault.{EvaluationFault}
use Rattle.ngc_dialect_parameters.specs.declared.statement.Statement.TheVariants as statements
use Rattle.ngc_dialect_parameters.specs.Operations.{valued}
use Rattle.ngc_dialect_parameters.specs.Known.{Known}
use Rattle.ngc_dialect_parameters.specs.Evaluation.{Sums, or_empty, push, say, word, literal, step, is_stopped, located, run}
use Rattle.ngc_dialect_parameters.specs.Heights.{taken, put}
use Rattle.ngc_dialect_parameters.specs.NumberWords.{BeginWord, number_said}
use Rattle.ngc_dialect_parameters.proofs.Steps.{Grows, said, step_grows, put_most}

last : (xs : List (Option ℤ)) (v : Option ℤ) → slice_get (xs ++ v ∷ []) (length xs) ≡ Some v
last [] v = refl
last (x ∷ xs) v = last xs v

less : (xs : List (Option ℤ)) (v : Option ℤ) → length (xs ++ v ∷ []) - 1 ≡ length xs
less xs v = let e = length_push xs v in omega (arith, e)

pushed_top : (xs : List (Option ℤ)) (v : Option ℤ) → or_empty (slice_get (xs ++ v ∷ []) (length (xs ++ v ∷ []) - 1)) ≡ v
pushed_top xs v =
    let n : length (xs ++ v ∷ []) - 1 ≡ length xs = less xs v in
    ap (λ (i : ℕ). or_empty (slice_get (xs ++ v ∷ []) i)) n ∙ ap or_empty (last xs v)

pushed_rest : (xs : List (Option ℤ)) (v : Option ℤ) → take (length (xs ++ v ∷ []) - 1) (xs ++ v ∷ []) ≡ xs
pushed_rest xs v =
    let n : length (xs ++ v ∷ []) - 1 ≡ length xs = less xs v in
    ap (λ (i : ℕ). take i (xs ++ v ∷ [])) n ∙ take-append_seam xs (v ∷ [])

pub word_pushed : (letter : ℕ) (z : ℤ) (point : Bool) (s : Sums) → word letter (push (Some z) point s) ≡
    say (statements.Word (record { letter = letter; value = z; point = point })) (record { stack = s.stack; done = s.done; point = point })
word_pushed letter z point s = rw (pushed_top s.stack (Some z), pushed_rest s.stack (Some z)) refl

-- a word of a number at the front, done at once
number_run : (k : Known) (text : List ℕ) (p : Part) (parts : List Part) (l : Literal) (letter : ℕ) (s : Sums) → BeginWord l letter (p ∷ parts) →
    run k text (p ∷ parts) s ≡ (located p.left (number_said l letter s) >>= λ t. run k text (drop 1 parts) t)
number_run k text p [] l letter s h = absurd h
number_run k text p (q ∷ parts) l letter s h = rw (h.0, h.1) (go (literal l s)) where
  go : (r : Result Sums Cause) → (located p.left r >>= λ t. run k text parts (word letter t))
      ≡ (located p.left (r >>= λ t. Ok (word letter t)) >>= λ t. run k text parts t)
  go (Ok t) = refl
  go (Err e) = refl

-- a step from some parts to those after them
record Goes (k : Known) (text : List ℕ) (parts rest : List Part) (s t : Sums) : Type 0 where
  pub run : run k text rest t ≡ run k text parts s
  pub stack : length t.stack + length rest ≤ length s.stack + length parts
  pub done : length t.done + length rest ≤ length s.done + length parts

number_grows : (l : Literal) (letter : ℕ) (s : Sums) → IfOk (number_said l letter s) (Grows 0 0 s)
number_grows l letter s = go (valued (limited l.value)) where
  go : (r : Result ℤ Cause) → IfOk ((r >>= λ z. Ok (push (Some z) l.point s)) >>= λ t. Ok (word letter t)) (Grows 0 0 s)
  go (Err e) = tt
  go (Ok z) = let grows = said (statements.Word (record { letter = letter; value = z; point = l.point })) (record { stack = s.stack; done = s.done; point = l.point }) in
      let stack = grows.stack in
      let done = grows.done in
      rw (word_pushed letter z l.point s) (record { stack = stack; done = done })

number_goes : (k : Known) (text : List ℕ) (p : Part) (parts : List Part) (l : Literal) (letter : ℕ) (s t : Sums) → BeginWord l letter (p ∷ parts) →
    number_said l letter s ≡ Ok t → Goes k text (p ∷ parts) (drop 1 parts) s t
number_goes k text p parts l letter s t h e =
    let grows : Grows 0 0 s t = IfOk-at_ok (Grows 0 0 s) e (number_grows l letter s) in
    let stack = grows.stack in
    let done = grows.done in
    let less : length (drop 1 parts) ≡ length parts - 1 = length-drop 1 parts in
    record {
      run = sym (number_run k text p parts l letter s h ∙ rw e refl);
      stack = omega (arith, stack, less);
      done = shorter parts h done;
    } where
      shorter : (parts : List Part) → BeginWord l letter (p ∷ parts) → length t.done ≤ length s.done + 1
          → length t.done + length (drop 1 parts) ≤ length s.done + length (p ∷ parts)
      shorter [] h done = absurd h
      shorter (q ∷ parts) h done = omega (arith, done)

part_goes : (k : Known) (text : List ℕ) (p : Part) (parts : List Part) (s t : Sums) → is_stopped p.kind s ≡ false → step k text p.kind s ≡ Ok t →
    Goes k text (p ∷ parts) parts s t
part_goes k text p parts s t f g =
    let grows : Grows (taken p.kind) (put p.kind) s t = IfOk-at_ok (Grows (taken p.kind) (put p.kind) s) g (step_grows k text p.kind s) in
    let stack = grows.stack in
    let done = grows.done in
    let most = put_most p.kind in
    record {
      run = sym (rw (f, g) refl);
      stack = omega (arith, stack, most);
      done = omega (arith, done);
    }

-- what a step that succeeded gives
pub given : {X Y E : Type 0} (t : Y) (r : Result X E) (x : X) (says : Result Y E) → r ≡ Ok x → Gives (λ (y : X). t) r says → says ≡ Ok t
given t r x says e h = subst (λ q. Gives (λ y. t) q says) e h

pub whole_tail : (parts : List Part) → take (length parts - 1) (drop 1 parts) ≡ drop 1 parts
whole_tail [] = refl
whole_tail (p ∷ parts) =
    let e : length (p ∷ parts) - 1 ≡ length parts = omega arith in
    ap (λ (n : ℕ). take n parts) e ∙ take-length parts

-- what holds of the parts that are left
pub record Holds (k : Known) (text : List ℕ) (whole : Result Sums EvaluationFault) (parts : List Part) (s : Sums) : Type 0 where
  pub rest : run k text parts s ≡ whole
  pub stack : length s.stack + length parts ≤ 128
  pub done : length s.done + length parts ≤ 128

after_goes : (k : Known) (text : List ℕ) (whole : Result Sums EvaluationFault) (parts to rest : List Part) (s t u : Sums) → Goes k text parts to s t
    → rest ≡ to → u ≡ t → run k text parts s ≡ whole → length s.stack + length parts ≤ 128 → length s.done + length parts ≤ 128 → Holds k text whole rest u
after_goes k text whole parts to rest s t u g e f r a b =
    let stack = g.stack in
    let done = g.done in
    rw (e, f) (record { rest = g.run ∙ r; stack = omega (arith, stack, a); done = omega (arith, done, b) })

pub after_number : (k : Known) (text : List ℕ) (whole : Result Sums EvaluationFault) (parts rest : List Part) (l : Literal) (letter : ℕ) (s t u : Sums)
    → BeginWord l letter parts → number_said l letter s ≡ Ok t → rest ≡ drop 1 (drop 1 parts) → u ≡ t
    → run k text parts s ≡ whole → length s.stack + length parts ≤ 128 → length s.done + length parts ≤ 128 → Holds k text whole rest u
after_number k text whole [] rest l letter s t u h e same = absurd h
after_number k text whole (p ∷ parts) rest l letter s t u h e same =
    after_goes k text whole (p ∷ parts) (drop 1 parts) rest s t u (number_goes k text p parts l letter s t h e) same

pub after_part : (k : Known) (text : List ℕ) (whole : Result Sums EvaluationFault) (parts rest : List Part) (d : Part) (s t u : Sums)
    → 1 ≤ length parts → is_stopped (get_or parts 0 d).kind s ≡ false → step k text (get_or parts 0 d).kind s ≡ Ok t → rest ≡ drop 1 parts → u ≡ t
    → run k text parts s ≡ whole → length s.stack + length parts ≤ 128 → length s.done + length parts ≤ 128 → Holds k text whole rest u
after_part k text whole [] rest d s t u h f g same = absurd (omega (arith, h))
after_part k text whole (p ∷ parts) rest d s t u h f g same =
    after_goes k text whole (p ∷ parts) parts rest s t u (part_goes k text p parts s t f g) same
