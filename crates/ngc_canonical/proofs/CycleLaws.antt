-- Moves in order.
use Rattle.std.proofs.Common.{◌≡◌, ℕ, suc, ◌+◌, ◌-◌, ◌<◌, ◌≤◌, List, [], ◌∷◌, ◌++◌, Result, Ok, Err, refl, ap, sym, ◌∙◌, arith}
use Rattle.ngc_canned_cycles.specs.declared.cycle.Cycle.{Cycle}
use Rattle.ngc_canned_cycles.specs.declared.cycle.Start.{Start}
use Rattle.ngc_canned_cycles.specs.declared.fault.CycleFault.{CycleFault}
use Rattle.ngc_canned_cycles.specs.Faults.{◌>>◌}
use Rattle.ngc_canned_cycles.specs.Moves.{repeat_moves, expand}
use Rattle.ngc_canned_cycles.specs.Refusals.{check}
use Rattle.ngc_canned_cycles.specs.declared.cycle.CycleMove.{CycleMove}
use Rattle.ngc_canonical.specs.declared.fault.Fault.{Fault}
use Rattle.ngc_canonical.specs.Steps.{◌>>=◌}
use Rattle.ngc_canonical.specs.declared.state.LineRefusal.{LineRefusal}
use Rattle.ngc_canonical.specs.declared.state.LineRefusal.TheVariants.{Breaks, Memory}
use Rattle.ngc_canonical.specs.Interpreter.{Becomes}
use Rattle.ngc_canonical.specs.State.{State}
use Rattle.ngc_canonical.specs.Cycles.{make_move, make_moves, moves_from}

-- a step, and then the result of two steps together
chained : (r : Result State Fault) (f g h : State → Result State Fault) → ((t : State) → f t ≡ (g t >>= h)) → (r >>= f) ≡ ((r >>= g) >>= h)
chained (Ok t) f g h same = same t
chained (Err e) f g h same = refl

-- some moves, and then others
pub moves_after : (xs ys : List CycleMove) (s : State) → make_moves (xs ++ ys) s ≡ (make_moves xs s >>= make_moves ys)
unfolding make_moves
moves_after [] ys s = refl
moves_after (x ∷ xs) ys s = chained (make_move x s) (make_moves (xs ++ ys)) (make_moves xs) (make_moves ys) (λ t. moves_after xs ys t)

-- repeat i + 1 of n, and the repeats after it
next_moves : (c : Cycle) (start : Start) (i n : ℕ) → i < n → moves_from c start (i + 1) (n - i)
    ≡ repeat_moves c start (i + 1) ++ moves_from c start (i + 1 + 1) (n - (i + 1))
next_moves c start i n h =
    let e : n - i ≡ suc (n - (i + 1)) = omega (arith, h) in
    ap (λ (k : ℕ). moves_from c start (i + 1) k) e

same_moves : (x y : List CycleMove) → (let a : Result (List CycleMove) CycleFault = Ok x in let b : Result (List CycleMove) CycleFault = Ok y in a ≡ b) → x ≡ y
same_moves x y e = cc

-- the moves of a repeat
filled : (c : Cycle) (start : Start) (j : ℕ) (items : List CycleMove) → check c start ≡ Ok tt → expand c start j ≡ Ok items → repeat_moves c start j ≡ items
filled c start j items checked is = let e : (check c start >> Ok (repeat_moves c start j)) ≡ Ok items = is in same_moves _ _ (rw checked at e)

-- the repeat was made, and the rest continues from there
pub went_on : (c : Cycle) (start : Start) (i n : ℕ) (items : List CycleMove) (s t : State) → i < n → check c start ≡ Ok tt → expand c start (i + 1) ≡ Ok items →
    make_moves items s ≡ Ok t
    → make_moves (moves_from c start (i + 1) (n - i)) s ≡ make_moves (moves_from c start (i + 1 + 1) (n - (i + 1))) t
went_on c start i n items s t h checked is made =
    let rest = moves_from c start (i + 1 + 1) (n - (i + 1)) in
    ap (λ (l : List CycleMove). make_moves l s) (next_moves c start i n h ∙ ap (λ (l : List CycleMove). l ++ rest) (filled c start (i + 1) items checked is))
    ∙ moves_after items rest s ∙ ap (λ (r : Result State Fault). r >>= make_moves rest) made

-- the repeat was refused, and so are all of them
went_wrong : (c : Cycle) (start : Start) (i n : ℕ) (items : List CycleMove) (s : State) (e : Fault) → i < n → check c start ≡ Ok tt →
    expand c start (i + 1) ≡ Ok items → make_moves items s ≡ Err e
    → make_moves (moves_from c start (i + 1) (n - i)) s ≡ Err e
went_wrong c start i n items s e h checked is made =
    let rest = moves_from c start (i + 1 + 1) (n - (i + 1)) in
    ap (λ (l : List CycleMove). make_moves l s) (next_moves c start i n h ∙ ap (λ (l : List CycleMove). l ++ rest) (filled c start (i + 1) items checked is))
    ∙ moves_after items rest s ∙ ap (λ (r : Result State Fault). r >>= make_moves rest) made

-- after the last repeat no moves are left
pub no_more : (c : Cycle) (start : Start) (i n : ℕ) (s : State) → n ≤ i → make_moves (moves_from c start (i + 1) (n - i)) s ≡ Ok s
unfolding make_moves
no_more c start i n s h =
    let e : n - i ≡ 0 = omega (arith, h) in
    ap (λ (k : ℕ). make_moves (moves_from c start (i + 1) k) s) e

pub refused : (c : Cycle) (start : Start) (i n : ℕ) (items : List CycleMove) (s new : State) (refusal : LineRefusal) (whole : Result State Fault) → i < n →
    check c start ≡ Ok tt → expand c start (i + 1) ≡ Ok items
    → make_moves (moves_from c start (i + 1) (n - i)) s ≡ whole → Becomes (Err refusal) new (make_moves items s) → Becomes (Err refusal) new whole
refused c start i n items s new (Breaks e) whole h checked is leads made = sym leads ∙ went_wrong c start i n items s e h checked is made
refused c start i n items s new Memory whole h checked is leads made = tt
