-- A return goes to the line after its call.
use Rattle.std.proofs.Common.{◌≡◌, ℕ, ℤ, ◌+◌, ◌-◌, nat_le, List, [], ◌∷◌, ◌++◌, length, take, slice_get, Option, Some, None, Result, Ok, Err, IfOk, subst, refl, ap, sym, ◌∙◌, arith}
use Rattle.std.proofs.Math.Seq.{take-append_seam}
use Rattle.std.proofs.lemmas.List.{length_push}
use Rattle.ngc_dialect_flow.specs.declared.effect.Effect.{Effect}
use Rattle.ngc_dialect_flow.specs.declared.fault.Cause.{Cause}
use Rattle.ngc_dialect_flow.specs.declared.search.Search.TheVariants as searches
use Rattle.ngc_dialect_flow.specs.declared.state.Call.{Call}
use Rattle.ngc_dialect_flow.specs.declared.state.CallKind.{CallKind}
use Rattle.ngc_dialect_flow.specs.declared.state.CallKind.TheVariants as callers
use Rattle.ngc_dialect_flow.specs.Places.{Plan}
use Rattle.ngc_dialect_flow.specs.State.{Flow, depth, after}
use Rattle.ngc_dialect_flow.specs.Loops.{last_of, without_last}
use Rattle.ngc_dialect_flow.specs.Words.{Values, label_in, word_in}
use Rattle.ngc_dialect_flow.specs.Calls.{line_with, enter, leave, leave_to, call_at, return_with, return_at, m99_with, m99_at}
use Rattle.ngc_dialect_flow.proofs.FuelLaws.{bind, after_any, if_ok}

one_fewer : {X : Type 0} (xs : List X) (x : X) → length (xs ++ (x ∷ [])) - 1 ≡ length xs
one_fewer xs x = let e = length_push xs x in omega (arith, e)

got : {X : Type 0} (xs : List X) (x : X) → slice_get (xs ++ (x ∷ [])) (length xs) ≡ Some x
got [] x = refl
got (y ∷ xs) x = got xs x

pub last_snoc : {X : Type 0} (xs : List X) (x : X) → last_of (xs ++ (x ∷ [])) ≡ Some x
last_snoc xs x = ap (λ (n : ℕ). slice_get (xs ++ (x ∷ [])) n) (one_fewer xs x) ∙ got xs x

pub front_snoc : {X : Type 0} (xs : List X) (x : X) → without_last (xs ++ (x ∷ [])) ≡ xs
front_snoc xs x = ap (λ (n : ℕ). take n (xs ++ (x ∷ []))) (one_fewer xs x) ∙ take-append_seam xs (x ∷ [])

abbrev new_call : CallKind → ℕ → Flow → Call
new_call kind n s = record { kind = kind; back = after s.line; entry = n; left = 0 }

-- the flow is at the line after that of s, with the calls of s
abbrev Returned : Flow → Flow × Effect → Type 0
Returned s y = (y.0.line ≡ after s.line) × (y.0.calls ≡ s.calls)

entered : (kind : CallKind) (n : ℕ) (s : Flow) → IfOk (enter kind n 0 s) (λ x. x.calls ≡ s.calls ++ (new_call kind n s ∷ []))
entered kind n s = if_ok (nat_le 10 (depth s)) _ _ (λ x. x.calls ≡ s.calls ++ (new_call kind n s ∷ [])) tt refl

returned : (n : ℕ) (s t : Flow) (w : Values) → t.calls ≡ s.calls ++ (new_call callers.Sub n s ∷ []) → IfOk (return_at w t) (Returned s)
returned n s t w e =
    let k = new_call callers.Sub n s in
    subst (λ (o : Option Call). IfOk (return_with o w t) (Returned s)) (sym (ap last_of e ∙ last_snoc s.calls k)) (refl, ap without_last e ∙ front_snoc s.calls k)

-- RETURN or ENDSUB goes to the line after CALL
pub returns_after : (plan : Plan) (v : Values) (s : Flow) →
    IfOk (call_at plan v s) (λ x. (t : Flow) (w : Values) → t.calls ≡ x.0.calls → IfOk (return_at w t) (λ y. (y.0.line ≡ after s.line) × (y.0.calls ≡ s.calls)))
returns_after plan v s = after_any (line_with plan v.text searches.Sub (label_in v.statements)) _ _
    (λ n. bind (enter callers.Sub (after n) 0 s) _ (λ x. x.calls ≡ s.calls ++ (new_call callers.Sub (after n) s ∷ [])) _ (entered callers.Sub (after n) s)
    (λ x g t w e. returned (after n) s t w (e ∙ g)))

m99_returned : (plan : Plan) (n : ℕ) (s t : Flow) (w : Values) → word_in 80 w.statements ≡ None → t.calls ≡ s.calls ++ (new_call callers.Program n s ∷ []) → IfOk (m99_at plan w t) (Returned s)
m99_returned plan n s t w none e =
    let k = new_call callers.Program n s in
    subst (λ (o : Option Call). IfOk (m99_with o plan w t) (Returned s)) (sym (ap last_of e ∙ last_snoc s.calls k))
    (bind (leave_to plan w.text (word_in 80 w.statements) k t) _ (λ y. y ≡ leave k t) (Returned s)
    (subst (λ (p : Option ℤ). IfOk (leave_to plan w.text p k t) (λ y. y ≡ leave k t)) (sym none) refl)
    (λ y h. (ap (λ (u : Flow). u.line) h, ap (λ (u : Flow). u.calls) h ∙ (ap without_last e ∙ front_snoc s.calls k))))

-- M99 without P goes to the line after an M98 that calls once
pub m99_returns_after : (plan : Plan) (n : ℕ) (s : Flow) →
    IfOk (enter callers.Program n 0 s) (λ x. (t : Flow) (w : Values) → word_in 80 w.statements ≡ None → t.calls ≡ x.calls →
    IfOk (m99_at plan w t) (λ y. (y.0.line ≡ after s.line) × (y.0.calls ≡ s.calls)))
m99_returns_after plan n s = bind_last (enter callers.Program n 0 s) (entered callers.Program n s) where
  bind_last : (r : Result Flow Cause) → IfOk r (λ x. x.calls ≡ s.calls ++ (new_call callers.Program n s ∷ [])) →
      IfOk r (λ x. (t : Flow) (w : Values) → word_in 80 w.statements ≡ None → t.calls ≡ x.calls → IfOk (m99_at plan w t) (λ y. (y.0.line ≡ after s.line) × (y.0.calls ≡ s.calls)))
  bind_last (Ok x) g = λ t w none e. m99_returned plan n s t w none (e ∙ g)
  bind_last (Err e) g = tt
