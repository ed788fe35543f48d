-- Each step takes one unit of fuel.
use Rattle.std.proofs.Common.{◌≡◌, ℕ, ℤ, ◌||◌, nat_le, take, slice_get, zero, suc, ◌+◌, ◌-◌, ◌==◌, Bool, true, false, List, [], ◌∷◌, length, Option, Some, None, Result, Ok, Err, IfOk, true≢false, refl, ap, ◌∙◌, arith}
use Rattle.std.specs.Prelude.{if◌then◌else◌}
use Rattle.std.specs.List.{list_all}
use Rattle.std.proofs.lemmas.Result.{IfOk-weaker}
use Rattle.ngc_line_reader.specs.Scan.{◌>>=◌}
use Rattle.ngc_dialect_reader.specs.declared.part.Keyword.{Keyword}
use Rattle.ngc_dialect_reader.specs.declared.part.Keyword.TheVariants as words
use Rattle.ngc_dialect_flow.specs.declared.effect.Effect.{Effect}
use Rattle.ngc_dialect_flow.specs.declared.fault.Cause.{Cause}
use Rattle.ngc_dialect_flow.specs.declared.mark.LineKind.{LineKind}
use Rattle.ngc_dialect_flow.specs.declared.mark.LineKind.TheVariants as kinds
use Rattle.ngc_dialect_flow.specs.declared.state.Loop.{Loop}
use Rattle.ngc_dialect_flow.specs.declared.state.LoopKind.{LoopKind}
use Rattle.ngc_dialect_flow.specs.declared.state.LoopKind.TheVariants as loops
use Rattle.ngc_dialect_flow.specs.declared.state.Call.{Call}
use Rattle.ngc_dialect_flow.specs.declared.state.CallKind.{CallKind}
use Rattle.ngc_dialect_flow.specs.declared.state.CallKind.TheVariants as callers
use Rattle.ngc_dialect_flow.specs.declared.table.Row.{Row}
use Rattle.ngc_dialect_flow.specs.Places.{Plan}
use Rattle.ngc_dialect_flow.specs.State.{Flow, depth, after, go, burnt, burn}
use Rattle.ngc_dialect_flow.specs.Loops as l
use Rattle.ngc_dialect_flow.specs.Words.{Values, holds, argument, or_zero, loop_holds, jump_in, label_in, word_in, only_word, has_m, needed}
use Rattle.ngc_dialect_flow.specs.Marks.{whole_of, number_label}
use Rattle.ngc_dialect_flow.specs.declared.search.Search.TheVariants as searches
use Rattle.ngc_dialect_flow.specs.declared.mark.Label.TheVariants as labels
use Rattle.ngc_dialect_flow.specs.declared.fault.Cause.TheVariants as causes
use Rattle.ngc_dialect_reader.specs.Table.{switches_of}
use Rattle.ngc_dialect_flow.specs.Calls as c
use Rattle.ngc_dialect_flow.specs.Next as n

pub bind : {A B E : Type 0} (r : Result A E) (f : A → Result B E) (P : A → Type 0) (Q : B → Type 0) → IfOk r P → ((a : A) → P a → IfOk (f a) Q) → IfOk (r >>= f) Q
bind (Ok a) f P Q g h = h a g
bind (Err e) f P Q g h = tt

pub after_any : {A B E : Type 0} (r : Result A E) (f : A → Result B E) (Q : B → Type 0) → ((a : A) → IfOk (f a) Q) → IfOk (r >>= f) Q
after_any (Ok a) f Q h = h a
after_any (Err e) f Q h = tt

pub if_ok : {X E : Type 0} (b : Bool) (x y : Result X E) (Q : X → Type 0) → IfOk x Q → IfOk y Q → IfOk (if b then x else y) Q
if_ok true x y Q g h = g
if_ok false x y Q g h = h

if_same : (b : Bool) (s t u : Flow) → t.fuel ≡ s.fuel → u.fuel ≡ s.fuel → (if b then t else u).fuel ≡ s.fuel
if_same true s t u g h = g
if_same false s t u g h = h

abbrev Kept : Flow → Flow → Type 0
Kept s t = t.fuel ≡ s.fuel

abbrev BothKept : Flow → Flow × Effect → Type 0
BothKept s x = x.0.fuel ≡ s.fuel

past_keeps : (end : Option ℕ) (s : Flow) → IfOk (l.past end s) (Kept s)
past_keeps None s = tt
past_keeps (Some e) s = refl

opened_keeps : (kind : LoopKind) (e : ℕ) (s : Flow) → IfOk (l.opened kind e s) (Kept s)
opened_keeps kind e s = if_ok (l.is_open e s) _ _ (Kept s) tt (if_ok (nat_le 32 (length s.loops)) _ _ (Kept s) tt refl)

begin_keeps : (end : Option ℕ) (holds : Bool) (s : Flow) → IfOk (l.begin_while end holds s) (Kept s)
begin_keeps None holds s = tt
begin_keeps (Some e) holds s = if_ok holds _ _ (Kept s) (opened_keeps loops.While e s) refl

while_of_keeps : (kind : LoopKind) (x : Loop) (end : Option ℕ) (holds : Bool) (s : Flow) → IfOk (l.while_of kind x end holds s) (Kept s)
while_of_keeps loops.Do x end holds s = if_same holds s (go x.first s) (l.on s) refl refl
while_of_keeps loops.While x end holds s = begin_keeps end holds s
while_of_keeps (loops.Repeat n) x end holds s = begin_keeps end holds s

while_keeps : (x : Option Loop) (end : Option ℕ) (holds : Bool) (s : Flow) → IfOk (l.while_with x end holds s) (Kept s)
while_keeps None end holds s = begin_keeps end holds s
while_keeps (Some x) end holds s = while_of_keeps x.kind x end holds s

do_keeps : (end : Option ℕ) (s : Flow) → IfOk (l.do_at end s) (Kept s)
do_keeps None s = tt
do_keeps (Some e) s = opened_keeps loops.Do e s

back_of_keeps : (kind : LoopKind) (x : Loop) (s : Flow) → IfOk (l.back_of kind x s) (Kept s)
back_of_keeps loops.While x s = refl
back_of_keeps loops.Do x s = tt
back_of_keeps (loops.Repeat n) x s = tt

back_keeps : (x : Option Loop) (s : Flow) → IfOk (l.back_with x s) (Kept s)
back_keeps None s = tt
back_keeps (Some x) s = back_of_keeps x.kind x s

repeat_keeps : (end : Option ℕ) (count : ℤ) (s : Flow) → IfOk (l.repeat_at end count s) (Kept s)
repeat_keeps None count s = tt
repeat_keeps (Some e) count s = if_ok (l.rounds count == 0) _ _ (Kept s) refl (opened_keeps (loops.Repeat (l.rounds count - 1)) e s)

again_of_keeps : (kind : LoopKind) (x : Loop) (s : Flow) → IfOk (l.again_of kind x s) (Kept s)
again_of_keeps loops.While x s = tt
again_of_keeps loops.Do x s = tt
again_of_keeps (loops.Repeat n) x s = if_ok (n == 0) _ _ (Kept s) refl refl

again_keeps : (x : Option Loop) (s : Flow) → IfOk (l.again_with x s) (Kept s)
again_keeps None s = tt
again_keeps (Some x) s = again_of_keeps x.kind x s

break_keeps : (end : Option ℕ) (s : Flow) → IfOk (l.break_at end s) (Kept s)
break_keeps None s = tt
break_keeps (Some e) s = if_ok (l.is_open e s) _ _ (Kept s) refl tt

continue_keeps : (end : Option ℕ) (s : Flow) → IfOk (l.continue_at end s) (Kept s)
continue_keeps None s = tt
continue_keeps (Some e) s = if_ok (l.is_open e s) _ _ (Kept s) refl tt

found_keeps : (branch : Option ℕ) (s : Flow) → IfOk (n.seek_found branch s) (Kept s)
found_keeps None s = tt
found_keeps (Some b) s = refl

test_keeps : (branch : Option ℕ) (holds : Bool) (s : Flow) → IfOk (n.test_at branch holds s) (Kept s)
test_keeps branch holds s = if_ok holds _ _ (Kept s) refl (found_keeps branch s)

turn_keeps : (k : Keyword) (row : Row) (v : Values) (s : Flow) → IfOk (n.turn k row v s) (Kept s)
turn_keeps words.Sub row v s = past_keeps row.end s
turn_keeps words.EndSub row v s = refl
turn_keeps words.Call row v s = refl
turn_keeps words.Return row v s = refl
turn_keeps words.If row v s = if_ok s.seeking _ _ (Kept s) tt (test_keeps row.branch (holds v) s)
turn_keeps words.ElseIf row v s = if_ok s.seeking _ _ (Kept s) (test_keeps row.branch (holds v) s) (found_keeps row.end s)
turn_keeps words.Else row v s = if_ok s.seeking _ _ (Kept s) refl (found_keeps row.end s)
turn_keeps words.EndIf row v s = refl
turn_keeps words.While row v s = while_keeps (l.ending s) row.end (holds v) s
turn_keeps words.EndWhile row v s = back_keeps (l.ending s) s
turn_keeps words.Do row v s = do_keeps row.end s
turn_keeps words.Repeat row v s = repeat_keeps row.end (or_zero (argument v)) s
turn_keeps words.EndRepeat row v s = again_keeps (l.ending s) s
turn_keeps words.Break row v s = break_keeps row.end s
turn_keeps words.Continue row v s = continue_keeps row.end s

plainly_keeps : (r : Result Flow Cause) (s : Flow) → IfOk r (Kept s) → IfOk (n.plainly r) (BothKept s)
plainly_keeps r s h = bind r _ (Kept s) (BothKept s) h (λ t g. g)

enter_keeps : (kind : CallKind) (e left : ℕ) (s : Flow) → IfOk (c.enter kind e left s) (Kept s)
enter_keeps kind e left s = if_ok (nat_le 10 (depth s)) _ _ (Kept s) tt refl

call_keeps : (plan : Plan) (v : Values) (s : Flow) → IfOk (c.call_at plan v s) (BothKept s)
call_keeps plan v s = after_any (c.line_with plan v.text searches.Sub (label_in v.statements)) _ (BothKept s)
    (λ x. bind (c.enter callers.Sub (after x) 0 s) _ (Kept s) (BothKept s) (enter_keeps callers.Sub (after x) 0 s) (λ t g. g))

return_of_keeps : (kind : CallKind) (x : Call) (v : Values) (s : Flow) → IfOk (c.return_of kind x v s) (BothKept s)
return_of_keeps callers.Sub x v s = refl
return_of_keeps callers.Program x v s = tt

return_keeps : (x : Option Call) (v : Values) (s : Flow) → IfOk (c.return_with x v s) (BothKept s)
return_keeps None v s = tt
return_keeps (Some x) v s = return_of_keeps x.kind x v s

o_word_keeps : (k : Keyword) (plan : Plan) (row : Row) (v : Values) (s : Flow) → IfOk (n.o_word k plan row v s) (BothKept s)
o_word_keeps words.Sub plan row v s = plainly_keeps (n.turn words.Sub row v s) s (turn_keeps words.Sub row v s)
o_word_keeps words.EndSub plan row v s = return_keeps (c.last_call s) v s
o_word_keeps words.Call plan row v s = call_keeps plan v s
o_word_keeps words.Return plan row v s = return_keeps (c.last_call s) v s
o_word_keeps words.If plan row v s = plainly_keeps (n.turn words.If row v s) s (turn_keeps words.If row v s)
o_word_keeps words.ElseIf plan row v s = plainly_keeps (n.turn words.ElseIf row v s) s (turn_keeps words.ElseIf row v s)
o_word_keeps words.Else plan row v s = plainly_keeps (n.turn words.Else row v s) s (turn_keeps words.Else row v s)
o_word_keeps words.EndIf plan row v s = plainly_keeps (n.turn words.EndIf row v s) s (turn_keeps words.EndIf row v s)
o_word_keeps words.While plan row v s = plainly_keeps (n.turn words.While row v s) s (turn_keeps words.While row v s)
o_word_keeps words.EndWhile plan row v s = plainly_keeps (n.turn words.EndWhile row v s) s (turn_keeps words.EndWhile row v s)
o_word_keeps words.Do plan row v s = plainly_keeps (n.turn words.Do row v s) s (turn_keeps words.Do row v s)
o_word_keeps words.Repeat plan row v s = plainly_keeps (n.turn words.Repeat row v s) s (turn_keeps words.Repeat row v s)
o_word_keeps words.EndRepeat plan row v s = plainly_keeps (n.turn words.EndRepeat row v s) s (turn_keeps words.EndRepeat row v s)
o_word_keeps words.Break plan row v s = plainly_keeps (n.turn words.Break row v s) s (turn_keeps words.Break row v s)
o_word_keeps words.Continue plan row v s = plainly_keeps (n.turn words.Continue row v s) s (turn_keeps words.Continue row v s)

jump_to_keeps : (plan : Plan) (text : List ℕ) (z : ℤ) (r s : Flow) → r.fuel ≡ s.fuel → IfOk (c.jump_to plan text z r) (Kept s)
jump_to_keeps plan text z r s e = after_any (c.line_with plan text searches.LineNumber (number_label (whole_of z))) _ (Kept s) (λ x. e)

leave_to_keeps : (plan : Plan) (text : List ℕ) (p : Option ℤ) (x : Call) (s : Flow) → IfOk (c.leave_to plan text p x s) (Kept s)
leave_to_keeps plan text None x s = refl
leave_to_keeps plan text (Some p) x s = if_ok ((switches_of plan.dialect).macros) _ _ (Kept s) (jump_to_keeps plan text p (c.leave x s) s refl) refl

m99_from_keeps : (plan : Plan) (v : Values) (x : Call) (s : Flow) → IfOk (c.m99_from plan v x s) (Kept s)
m99_from_keeps plan v x s = if_ok (x.left == 0) _ _ (Kept s) (leave_to_keeps plan v.text (word_in 80 v.statements) x s) refl

m99_of_keeps : (kind : CallKind) (plan : Plan) (v : Values) (x : Call) (s : Flow) → IfOk (c.m99_of kind plan v x s) (BothKept s)
m99_of_keeps callers.Sub plan v x s = tt
m99_of_keeps callers.Program plan v x s = bind (c.m99_from plan v x s) _ (Kept s) (BothKept s) (m99_from_keeps plan v x s) (λ t g. g)

m99_keeps : (x : Option Call) (plan : Plan) (v : Values) (s : Flow) → IfOk (c.m99_with x plan v s) (BothKept s)
m99_keeps None plan v s = refl
m99_keeps (Some x) plan v s = m99_of_keeps x.kind plan v x s

call_times_keeps : (plan : Plan) (v : Values) (s : Flow) (x : ℕ × ℕ) → IfOk (c.call_times plan v s x) (BothKept s)
call_times_keeps plan v s x = after_any (c.line_with plan v.text searches.Program (Some (labels.Number x.0))) _ (BothKept s)
    (λ e. if_ok (x.1 == 0) _ _ (BothKept s) refl
    (bind (c.enter callers.Program (after e) (x.1 - 1) s) _ (Kept s) (BothKept s) (enter_keeps callers.Program (after e) (x.1 - 1) s) (λ t g. g)))

m98_keeps : (plan : Plan) (v : Values) (s : Flow) → IfOk (c.m98_at plan v s) (BothKept s)
m98_keeps plan v s =
    after_any (only_word 80 v.statements) _ (BothKept s) (λ program.
    after_any (only_word 76 v.statements) _ (BothKept s) (λ count.
    after_any (needed program) _ (BothKept s) (λ p.
    after_any (c.times plan.dialect p count) _ (BothKept s) (λ x. call_times_keeps plan v s x))))

jump_keeps : (z : Option ℤ) (plan : Plan) (v : Values) (s : Flow) → IfOk (n.jump_with z plan v s) (Kept s)
jump_keeps None plan v s = refl
jump_keeps (Some z) plan v s = jump_to_keeps plan v.text z s s refl

plain_keeps : (plan : Plan) (v : Values) (s : Flow) → IfOk (n.plain plan v s) (BothKept s)
plain_keeps plan v s = if_ok (has_m 98 v) _ _ (BothKept s) (m98_keeps plan v s)
    (if_ok (has_m 99 v) _ _ (BothKept s) (m99_keeps (c.last_call s) plan v s)
    (if_ok (has_m 2 v || has_m 30 v) _ _ (BothKept s) refl (plainly_keeps (n.jump_at plan v s) s (jump_keeps (jump_in v.statements) plan v s))))

kind_keeps : (kind : LineKind) (plan : Plan) (row : Row) (v : Values) (s : Flow) → IfOk (n.by_kind kind plan row v s) (BothKept s)
kind_keeps kinds.Blank plan row v s = refl
kind_keeps kinds.Plain plan row v s = plain_keeps plan v s
kind_keeps kinds.Percent plan row v s = refl
kind_keeps kinds.Program plan row v s = refl
kind_keeps (kinds.Word k) plan row v s = o_word_keeps k plan row v s
kind_keeps kinds.Loop plan row v s = plainly_keeps (l.begin_while row.end (loop_holds v.statements) s) s (begin_keeps row.end (loop_holds v.statements) s)
kind_keeps kinds.EndLoop plan row v s = plainly_keeps (l.end_while_at s) s (back_keeps (l.ending s) s)

row_keeps : (row : Option Row) (plan : Plan) (v : Values) (s : Flow) → IfOk (n.at_row row plan v s) (BothKept s)
row_keeps None plan v s = refl
row_keeps (Some row) plan v s = kind_keeps row.kind plan row v s

one_less : (f : ℕ) → (f == 0) ≡ false → f - 1 + 1 ≡ f
one_less zero e = absurd (true≢false e)
one_less (suc f) e = omega arith

burn_takes_one : (s : Flow) → IfOk (burn s) (λ t. t.fuel + 1 ≡ s.fuel)
burn_takes_one s = by (s.fuel == 0) refl where
  by : (b : Bool) → (s.fuel == 0) ≡ b → IfOk (if b then Err causes.TooManyLines else Ok (burnt s)) (λ t. t.fuel + 1 ≡ s.fuel)
  by true e = tt
  by false e = one_less s.fuel e

-- a step takes one unit of fuel
pub fuel_falls : (plan : Plan) (v : Values) (s : Flow) → IfOk (n.next plan v s) (λ x. x.0.fuel + 1 ≡ s.fuel)
fuel_falls plan v s = bind (burn s) _ (λ t. t.fuel + 1 ≡ s.fuel) (λ x. x.0.fuel + 1 ≡ s.fuel) (burn_takes_one s)
    (λ t g. IfOk-weaker (n.at_row (slice_get plan.rows t.line) plan v t) (BothKept t) (λ x. x.0.fuel + 1 ≡ s.fuel)
    (λ x h. ap (λ (f : ℕ). f + 1) h ∙ g) (row_keeps (slice_get plan.rows t.line) plan v t))

-- each run of steps is at most as long as its fuel
pub runs_end : (plan : Plan) (vs : List Values) (s : Flow) → IfOk (n.run plan vs s) (λ t. t.fuel + length vs ≡ s.fuel)
runs_end plan [] s = omega arith
runs_end plan (v ∷ vs) s = bind (n.next plan v s) _ (λ x. x.0.fuel + 1 ≡ s.fuel) (λ t. t.fuel + length (v ∷ vs) ≡ s.fuel) (fuel_falls plan v s)
    (λ x g. IfOk-weaker (n.run plan vs x.0) (λ t. t.fuel + length vs ≡ x.0.fuel) (λ t. t.fuel + length (v ∷ vs) ≡ s.fuel) (λ t h. omega (arith, g, h)) (runs_end plan vs x.0))
