-- One more part of a line, and how it changes the number of values and statements.
use Rattle.std.proofs.Common.{◌≡◌, ℕ, ℤ, suc, ◌+◌, ◌-◌, ◌<◌, ◌≤◌, Bool, true, false, List, ◌∷◌, length, take, drop, get_or, Option, Some, None, Result, Ok, Err, IfOk, refl, ap, sym, ◌∙◌, arith}
use Rattle.std.specs.Prelude.{if◌then◌else◌}
use Rattle.std.proofs.Math.Seq.{drop-cons}
use Rattle.std.proofs.lemmas.List.{length-take, length_push}
use Rattle.std.proofs.lemmas.Result.{IfOk-at_ok}
use Rattle.ngc_line_reader.specs.Scan.{◌>>=◌}
use Rattle.ngc_dialect_reader.specs.declared.part.Part.{Part}
use Rattle.ngc_dialect_reader.specs.declared.part.PartKind.{PartKind}
use Rattle.ngc_dialect_reader.specs.declared.part.PartKind.TheVariants as kinds
use Rattle.ngc_dialect_reader.specs.Line.{name_of}
use Rattle.ngc_dialect_numbers.specs.Numbers.{limited}
use Rattle.ngc_dialect_parameters.specs.declared.statement.Statement.{Statement}
use Rattle.ngc_dialect_parameters.specs.Index.{index_of}
use Rattle.ngc_dialect_parameters.specs.Operations.{valued, applied, operated}
use Rattle.ngc_dialect_parameters.specs.Known.{Known, value, found, settable, is_settable}
use Rattle.ngc_dialect_parameters.specs.Evaluation.{Sums, top, pop, push, say, step, named, word_with, top_number, is_stopped, located, run}
use Rattle.ngc_dialect_parameters.specs.Heights.{taken, put}

-- the part at an index, and the parts after it
pub run_step : (k : Known) (text : List ℕ) (parts : List Part) (i : ℕ) (d p : Part) (s : Sums) → i < length parts → p ≡ get_or parts i d →
    run k text (drop i parts) s ≡ (if is_stopped p.kind s then Ok (pop s)
    else (located p.left (step k text p.kind s) >>= λ t. run k text (drop (i + 1) parts) t))
run_step k text parts i d p s h e =
    let one : i + 1 ≡ suc i = omega arith in
    let whole : drop i parts ≡ p ∷ drop (i + 1) parts = drop-cons parts i d h ∙ ap (λ (q : Part). q ∷ drop (suc i) parts) (sym e)
    ∙ ap (λ (n : ℕ). p ∷ drop n parts) (sym one) in
    ap (λ (ps : List Part). run k text ps s) whole

-- how a part changes the number of values and statements
pub record Grows (taken put : ℕ) (s t : Sums) : Type 0 where
  pub stack : length t.stack ≡ length s.stack - taken + put
  pub done : length t.done ≤ length s.done + 1

popped : (xs : List (Option ℤ)) → length (take (length xs - 1) xs) ≡ length xs - 1
popped xs = let e = length-take (length xs - 1) xs in omega (arith, e)

bind_ok : {A B E : Type 0} (r : Result A E) (f : A → Result B E) (Q : B → Type 0) → ((a : A) → IfOk (f a) Q) → IfOk (r >>= f) Q
bind_ok (Ok a) f Q h = h a
bind_ok (Err e) f Q h = tt

if_ok : {X E : Type 0} (b : Bool) (x y : Result X E) (Q : X → Type 0) → IfOk x Q → IfOk y Q → IfOk (if b then x else y) Q
if_ok true x y Q g h = g
if_ok false x y Q g h = h

pushed : (v : Option ℤ) (point : Bool) (s : Sums) → Grows 0 1 s (push v point s)
pushed v point s = let e = length_push s.stack v in record { stack = omega (arith, e); done = omega arith }

pushed_one : (v : Option ℤ) (point : Bool) (s : Sums) → Grows 1 1 s (push v point (pop s))
pushed_one v point s =
    let e = length_push (pop s).stack v in
    let f = popped s.stack in
    record { stack = omega (arith, e, f); done = omega arith }

pushed_two : (v : Option ℤ) (point : Bool) (s : Sums) → Grows 2 1 s (push v point (pop (pop s)))
pushed_two v point s =
    let e = length_push (pop (pop s)).stack v in
    let f = popped s.stack in
    let g = popped (pop s).stack in
    record { stack = omega (arith, e, f, g); done = omega arith }

pub said : (statement : Statement) (s : Sums) → Grows 0 0 s (say statement s)
said statement s = let e = length_push s.done statement in record { stack = omega arith; done = omega (arith, e) }

said_one : (statement : Statement) (s : Sums) → Grows 1 0 s (say statement (pop s))
said_one statement s =
    let e = length_push s.done statement in
    let f = popped s.stack in
    record { stack = omega (arith, f); done = omega (arith, e) }

said_two : (statement : Statement) (s : Sums) → Grows 2 0 s (say statement (pop (pop s)))
said_two statement s =
    let e = length_push s.done statement in
    let f = popped s.stack in
    let g = popped (pop s).stack in
    record { stack = omega (arith, f, g); done = omega (arith, e) }

popped_one : (s : Sums) → Grows 1 0 s (pop s)
popped_one s = let f = popped s.stack in record { stack = omega (arith, f); done = omega arith }

worded : (letter : ℕ) (point : Bool) (v : Option ℤ) (s : Sums) → Grows 1 0 s (word_with letter point v (pop s))
worded letter point None s = popped_one s
worded letter point (Some z) s = said_one _ s

named_grows : (v : Option ℤ) (s : Sums) → IfOk (named v s) (Grows 0 1 s)
named_grows None s = tt
named_grows (Some z) s = pushed (Some z) true s

pub step_grows : (k : Known) (text : List ℕ) (kind : PartKind) (s : Sums) → IfOk (step k text kind s) (Grows (taken kind) (put kind) s)
step_grows k text (kinds.Number l) s = bind_ok (valued (limited l.value)) _ _ (λ z. pushed (Some z) l.point s)
step_grows k text kinds.Parameter s =
    bind_ok (index_of k.dialect (top_number s)) _ _ (λ n. bind_ok (value k s.done n) _ _ (λ v. pushed_one v true s))
step_grows k text (kinds.Named name) s = named_grows (found k (name_of text name)) s
step_grows k text (kinds.Exists name) s = pushed _ true s
step_grows k text kinds.Negate s = pushed_one _ true s
step_grows k text (kinds.Apply f) s = bind_ok (applied f (top_number s)) _ _ (λ z. pushed_one (Some z) true s)
step_grows k text kinds.ArcTangent s = pushed_two _ true s
step_grows k text (kinds.Operate o) s = bind_ok (operated o (top (pop s)) (top s)) _ _ (λ z. pushed_two (Some z) true s)
step_grows k text (kinds.Word letter) s = worded letter s.point (top s) s
step_grows k text kinds.Set s =
    bind_ok (index_of k.dialect (top_number (pop s))) _ _ (λ n. bind_ok (settable k n) _ _ (λ m. said_two _ s))
step_grows k text (kinds.SetNamed name) s = if_ok (is_settable k (name_of text name)) _ _ _ (said_one _ s) tt
step_grows k text (kinds.Delete level) s = said _ s
step_grows k text kinds.LineNumber s = said_one _ s
step_grows k text kinds.Percent s = said _ s
step_grows k text kinds.Home s = said _ s
step_grows k text kinds.Label s = said_one _ s
step_grows k text (kinds.LabelNamed name) s = said _ s
step_grows k text (kinds.Flow keyword count) s = said _ s
step_grows k text kinds.When s = popped_one s
step_grows k text kinds.GoTo s = said_one _ s
step_grows k text kinds.Loop s = said_two _ s
step_grows k text kinds.EndLoop s = said_one _ s

pub put_most : (kind : PartKind) → put kind ≤ 1
put_most (kinds.Delete level) = omega arith
put_most kinds.LineNumber = omega arith
put_most kinds.Percent = omega arith
put_most kinds.Home = omega arith
put_most (kinds.Number l) = omega arith
put_most kinds.Parameter = omega arith
put_most (kinds.Named name) = omega arith
put_most (kinds.Exists name) = omega arith
put_most kinds.Negate = omega arith
put_most (kinds.Apply f) = omega arith
put_most kinds.ArcTangent = omega arith
put_most (kinds.Operate o) = omega arith
put_most (kinds.Word letter) = omega arith
put_most kinds.Set = omega arith
put_most (kinds.SetNamed name) = omega arith
put_most kinds.Label = omega arith
put_most (kinds.LabelNamed name) = omega arith
put_most (kinds.Flow keyword count) = omega arith
put_most kinds.When = omega arith
put_most kinds.GoTo = omega arith
put_most kinds.Loop = omega arith
put_most kinds.EndLoop = omega arith

-- a part that is done
pub record Done (k : Known) (text : List ℕ) (parts : List Part) (i : ℕ) (s t : Sums) : Type 0 where
  pub rest : run k text (drop (i + 1) parts) t ≡ run k text (drop i parts) s
  pub stack : length t.stack ≤ length s.stack + 1
  pub statements : length t.done ≤ length s.done + 1

pub part_done : (k : Known) (text : List ℕ) (parts : List Part) (i : ℕ) (d p : Part) (s t : Sums) → i < length parts → p ≡ get_or parts i d →
    is_stopped p.kind s ≡ false → step k text p.kind s ≡ Ok t → Done k text parts i s t
part_done k text parts i d p s t h e f g =
    let grows : Grows (taken p.kind) (put p.kind) s t = IfOk-at_ok (Grows (taken p.kind) (put p.kind) s) g (step_grows k text p.kind s) in
    let stack = grows.stack in
    let most = put_most p.kind in
    record {
      rest = sym (run_step k text parts i d p s h e ∙ rw (f, g) refl);
      stack = omega (arith, stack, most);
      statements = grows.done;
    }
