-- Heights that are added in order to the lowest so far.
use Rattle.std.proofs.Common.{◌≡◌, ◌⊎◌, inl, inr, ℕ, suc, ◌+◌, Bool, true, false, cond, List, [], ◌∷◌, length, ℤ, refl, ap, ◌∙◌, sym, subst, ⊎_elim, arith, one-add, Option, Some, None}
use Rattle.std.specs.Prelude.{◌==◌, ◌&&◌, ◌||◌, not, nat_lt, int_lt, if◌then◌else◌}
use Rattle.std.specs.List.{list_any, prefix_len, cons_option}
use Rattle.std.proofs.lemmas.Bool.Decides.{nat_tests}
use Rattle.ngc_commands.specs.declared.command.Command.{Command}
use Rattle.ngc_frames.specs.InForce.{frame_at}
use Rattle.ngc_frames.specs.declared.change.FrameChange.{FrameChange}
use Rattle.ngc_frames.specs.declared.frame.Frame.{Frame}
use Rattle.ngc_offsets.specs.Frames.{index}
use Rattle.ngc_machine_files.specs.declared.tools.Tool.{Tool}
use Rattle.ngc_lowest_tips.specs.Tips.{tool_after, tip_of, is_same_tool, is_same_pair, lower, with_new_at, with_new, with_tip, tips_from, lowest_tips}
use Rattle.ngc_lowest_tips.specs.declared.tip.LowestTip.{LowestTip}
use Rattle.ngc_lowest_laws.specs.Lowest.{heights_from, IsAmong, reaches, is_once, LowestOfEach}

-- ---- pairs

same_number : (n m : ℕ) → (n == m) ≡ true → n ≡ m
same_number n m h = grind (arith, nat_tests)

number_same : (n : ℕ) → (n == n) ≡ true
number_same n = grind (arith, nat_tests)

and_parts : (a b : Bool) → (a && b) ≡ true → (a ≡ true) × (b ≡ true)
and_parts true b h = (refl, h)
and_parts false b h = absurd cc

both : (a b : Bool) → a ≡ true → b ≡ true → (a && b) ≡ true
both true true e h = refl
both true false e h = absurd cc
both false b e h = absurd cc

tool_same : (a : Option ℕ) → is_same_tool a a ≡ true
tool_same None = refl
tool_same (Some n) = number_same n

tools_are : (a b : Option ℕ) → is_same_tool a b ≡ true → a ≡ b
tools_are None None h = refl
tools_are (Some n) (Some m) h = ap Some (same_number n m h)
tools_are None (Some m) h = absurd cc
tools_are (Some n) None h = absurd cc

pair_same : (t : LowestTip) → is_same_pair t t ≡ true
pair_same t = both (index t.system == index t.system) (is_same_tool t.tool t.tool) (number_same (index t.system)) (tool_same t.tool)

-- two of one pair are of the pair of a third, or both aren't
pair_like : (a b c : LowestTip) → is_same_pair a b ≡ true → is_same_pair a c ≡ is_same_pair b c
pair_like a b c h =
    let parts = and_parts (index a.system == index b.system) (is_same_tool a.tool b.tool) h in
    ap (λ (n : ℕ). (n == index c.system) && is_same_tool a.tool c.tool) (same_number (index a.system) (index b.system) parts.0)
    ∙ ap (λ (o : Option ℕ). (index b.system == index c.system) && is_same_tool o c.tool) (tools_are a.tool b.tool parts.1)

-- ---- one more height

abbrev added : List LowestTip → LowestTip → List LowestTip
added [] new = new ∷ []
added (t ∷ ts) new = if is_same_pair t new then lower t new ∷ ts else t ∷ added ts new

some_left : (n : ℕ) → nat_lt 0 (suc n) ≡ true
some_left n = grind (arith, nat_tests)

both_less : (k n : ℕ) → nat_lt (suc k) (suc n) ≡ nat_lt k n
both_less k n = grind (arith, nat_tests)

further : (t new : LowestTip) (ts : List LowestTip) (k : ℕ) (c : Bool)
    → with_new_at (cond c (Some (suc k)) None) (t ∷ ts) new ≡ t ∷ with_new_at (cond c (Some k) None) ts new
further t new ts k true = refl
further t new ts k false = refl

at_head : (t new : LowestTip) (ts : List LowestTip) (b : Bool) → is_same_pair t new ≡ b → with_new ts new ≡ added ts new
    → with_new (t ∷ ts) new ≡ (if b then lower t new ∷ ts else t ∷ added ts new)
at_head t new ts true e h =
    let k = prefix_len (λ x. not (is_same_pair x new)) ts in
    let none : prefix_len (λ x. not (is_same_pair x new)) (t ∷ ts) ≡ 0 = ap (λ (c : Bool). cond (not c) (1 + k) 0) e in
    ap (λ (n : ℕ). with_new_at (cond (nat_lt n (length (t ∷ ts))) (Some n) None) (t ∷ ts) new) none
    ∙ ap (λ (c : Bool). with_new_at (cond c (Some 0) None) (t ∷ ts) new) (some_left (length ts))
at_head t new ts false e h =
    let k = prefix_len (λ x. not (is_same_pair x new)) ts in
    let next : prefix_len (λ x. not (is_same_pair x new)) (t ∷ ts) ≡ suc k = ap (λ (c : Bool). cond (not c) (1 + k) 0) e ∙ one-add k in
    ap (λ (n : ℕ). with_new_at (cond (nat_lt n (length (t ∷ ts))) (Some n) None) (t ∷ ts) new) next
    ∙ ap (λ (c : Bool). with_new_at (cond c (Some (suc k)) None) (t ∷ ts) new) (both_less k (length ts))
    ∙ further t new ts k (nat_lt k (length ts))
    ∙ ap (λ (l : List LowestTip). t ∷ l) h

-- adding by a search is adding from the head
with_is : (ts : List LowestTip) (new : LowestTip) → with_new ts new ≡ added ts new
with_is [] new = refl
with_is (t ∷ ts) new = at_head t new ts (is_same_pair t new) refl (with_is ts new)

-- ---- what stays

not_below : (z : ℤ) → not (int_lt z z) ≡ true
not_below z = grind (arith, nat_tests)

below : (t new had : ℤ) → int_lt new had ≡ true → not (int_lt t had) ≡ true → not (int_lt t new) ≡ true
below t new had e h = grind (arith, nat_tests)

-- the lower of two has the pair of both, and is one of them
lower_pair : (t new : LowestTip) (b : Bool) → is_same_pair t new ≡ true → is_same_pair (if b then new else t) new ≡ true
lower_pair t new true h = pair_same new
lower_pair t new false h = h

lower_reaches : (had new t : LowestTip) (b : Bool) → int_lt new.height had.height ≡ b → is_same_pair had new ≡ true
    → (is_same_pair had t && not (int_lt t.height had.height)) ≡ true
    → (is_same_pair (if b then new else had) t && not (int_lt t.height (if b then new else had).height)) ≡ true
lower_reaches had new t false e pair h = h
lower_reaches had new t true e pair h =
    let parts = and_parts (is_same_pair had t) (not (int_lt t.height had.height)) h in
    both (is_same_pair new t) (not (int_lt t.height new.height)) (sym (pair_like had new t pair) ∙ parts.0) (below t.height new.height had.height e parts.1)

lower_new : (had new : LowestTip) (b : Bool) → int_lt new.height had.height ≡ b → is_same_pair had new ≡ true
    → (is_same_pair (if b then new else had) new && not (int_lt new.height (if b then new else had).height)) ≡ true
lower_new had new true e pair = both (is_same_pair new new) (not (int_lt new.height new.height)) (pair_same new) (not_below new.height)
lower_new had new false e pair = both (is_same_pair had new) (not (int_lt new.height had.height)) pair (ap not e)

or_left : (a b : Bool) → a ≡ true → (a || b) ≡ true
or_left true b h = refl
or_left false b h = absurd cc

or_right : (a b : Bool) → b ≡ true → (a || b) ≡ true
or_right true b h = refl
or_right false b h = h

or_either : (a b : Bool) → (a || b) ≡ true → (a ≡ true) ⊎ (b ≡ true)
or_either true b h = inl refl
or_either false b h = inr h

-- the new height is reached
new_by : (had new : LowestTip) (ts : List LowestTip) (b : Bool) → is_same_pair had new ≡ b → reaches (added ts new) new ≡ true
    → reaches (if b then lower had new ∷ ts else had ∷ added ts new) new ≡ true
new_by had new ts true e h = or_left _ _ (lower_new had new (int_lt new.height had.height) refl e)
new_by had new ts false e h = or_right _ _ h

new_reached : (ts : List LowestTip) (new : LowestTip) → reaches (added ts new) new ≡ true
new_reached [] new = or_left _ _ (both (is_same_pair new new) (not (int_lt new.height new.height)) (pair_same new) (not_below new.height))
new_reached (had ∷ ts) new = new_by had new ts (is_same_pair had new) refl (new_reached ts new)

-- and so is each that was
still_by : (had new t : LowestTip) (ts : List LowestTip) (b : Bool) → is_same_pair had new ≡ b → (reaches ts t ≡ true → reaches (added ts new) t ≡ true)
    → reaches (had ∷ ts) t ≡ true → reaches (if b then lower had new ∷ ts else had ∷ added ts new) t ≡ true
still_by had new t ts true e f h =
    ⊎_elim (λ here. or_left _ _ (lower_reaches had new t (int_lt new.height had.height) refl e here)) (λ there. or_right _ _ there)
    (or_either (is_same_pair had t && not (int_lt t.height had.height)) (reaches ts t) h)
still_by had new t ts false e f h =
    ⊎_elim (λ here. or_left _ _ here) (λ there. or_right _ _ (f there))
    (or_either (is_same_pair had t && not (int_lt t.height had.height)) (reaches ts t) h)

still_reached : (ts : List LowestTip) (new t : LowestTip) → reaches ts t ≡ true → reaches (added ts new) t ≡ true
still_reached [] new t h = absurd cc
still_reached (had ∷ ts) new t h = still_by had new t ts (is_same_pair had new) refl (still_reached ts new t) h

-- ---- no pair twice

or_parts : (a b : Bool) → (a || b) ≡ false → (a ≡ false) × (b ≡ false)
or_parts true b h = absurd cc
or_parts false b h = (refl, h)

neither : (a b : Bool) → a ≡ false → b ≡ false → (a || b) ≡ false
neither true b e h = absurd cc
neither false b e h = h

denied : (b : Bool) → not b ≡ true → b ≡ false
denied true h = absurd cc
denied false h = refl

equal_both : (n m : ℕ) → (n == m) ≡ (m == n)
equal_both n m = grind (arith, nat_tests)

tools_both : (a b : Option ℕ) → is_same_tool a b ≡ is_same_tool b a
tools_both None None = refl
tools_both (Some n) (Some m) = equal_both n m
tools_both None (Some m) = refl
tools_both (Some n) None = refl

pair_both : (a b : LowestTip) → is_same_pair a b ≡ is_same_pair b a
pair_both a b =
    ap (λ (c : Bool). c && is_same_tool a.tool b.tool) (equal_both (index a.system) (index b.system))
    ∙ ap (λ (c : Bool). (index b.system == index a.system) && c) (tools_both a.tool b.tool)

pair_right : (m a b : LowestTip) → is_same_pair a b ≡ true → is_same_pair m a ≡ is_same_pair m b
pair_right m a b h = pair_both m a ∙ pair_like a b m h ∙ pair_both b m

none_like : (a b : LowestTip) (ts : List LowestTip) → is_same_pair a b ≡ true
    → list_any (λ m. is_same_pair m a) ts ≡ false → list_any (λ m. is_same_pair m b) ts ≡ false
none_like a b [] e h = refl
none_like a b (t ∷ ts) e h =
    let parts = or_parts (is_same_pair t a) (list_any (λ m. is_same_pair m a) ts) h in
    neither (is_same_pair t b) (list_any (λ m. is_same_pair m b) ts) (sym (pair_right t a b e) ∙ parts.0) (none_like a b ts e parts.1)

lower_other : (had new l : LowestTip) (b : Bool) → is_same_pair had l ≡ false → is_same_pair new l ≡ false → is_same_pair (if b then new else had) l ≡ false
lower_other had new l true e h = h
lower_other had new l false e h = e

none_by : (had new l : LowestTip) (ts : List LowestTip) (b : Bool) → is_same_pair new l ≡ false → list_any (λ m. is_same_pair m l) (had ∷ ts) ≡ false
    → list_any (λ m. is_same_pair m l) (added ts new) ≡ false → list_any (λ m. is_same_pair m l) (if b then lower had new ∷ ts else had ∷ added ts new) ≡ false
none_by had new l ts true e h f =
    let parts = or_parts (is_same_pair had l) (list_any (λ m. is_same_pair m l) ts) h in
    neither (is_same_pair (lower had new) l) (list_any (λ m. is_same_pair m l) ts) (lower_other had new l (int_lt new.height had.height) parts.0 e) parts.1
none_by had new l ts false e h f =
    let parts = or_parts (is_same_pair had l) (list_any (λ m. is_same_pair m l) ts) h in
    neither (is_same_pair had l) (list_any (λ m. is_same_pair m l) (added ts new)) parts.0 f

none_added : (ts : List LowestTip) (new l : LowestTip) → is_same_pair new l ≡ false → list_any (λ m. is_same_pair m l) ts ≡ false
    → list_any (λ m. is_same_pair m l) (added ts new) ≡ false
none_added [] new l e h = neither (is_same_pair new l) false e refl
none_added (had ∷ ts) new l e h =
    let parts = or_parts (is_same_pair had l) (list_any (λ m. is_same_pair m l) ts) h in
    none_by had new l ts (is_same_pair had new) e h (none_added ts new l e parts.1)

lower_once : (had new : LowestTip) (ts : List LowestTip) (b : Bool) → is_same_pair had new ≡ true → list_any (λ m. is_same_pair m had) ts ≡ false
    → list_any (λ m. is_same_pair m (if b then new else had)) ts ≡ false
lower_once had new ts true e h = none_like had new ts e h
lower_once had new ts false e h = h

once_by : (had new : LowestTip) (ts : List LowestTip) (b : Bool) → is_same_pair had new ≡ b → is_once (had ∷ ts) ≡ true → is_once (added ts new) ≡ true
    → is_once (if b then lower had new ∷ ts else had ∷ added ts new) ≡ true
once_by had new ts true e h f =
    let parts = and_parts (not (list_any (λ m. is_same_pair m had) ts)) (is_once ts) h in
    both (not (list_any (λ m. is_same_pair m (lower had new)) ts)) (is_once ts)
    (ap not (lower_once had new ts (int_lt new.height had.height) e (denied (list_any (λ m. is_same_pair m had) ts) parts.0))) parts.1
once_by had new ts false e h f =
    let parts = and_parts (not (list_any (λ m. is_same_pair m had) ts)) (is_once ts) h in
    both (not (list_any (λ m. is_same_pair m had) (added ts new))) (is_once (added ts new))
    (ap not (none_added ts new had (pair_both new had ∙ e) (denied (list_any (λ m. is_same_pair m had) ts) parts.0))) f

once_added : (ts : List LowestTip) (new : LowestTip) → is_once ts ≡ true → is_once (added ts new) ≡ true
once_added [] new h = refl
once_added (had ∷ ts) new h =
    once_by had new ts (is_same_pair had new) refl h
    (once_added ts new (and_parts (not (list_any (λ m. is_same_pair m had) ts)) (is_once ts) h).1)

-- ---- each is one of the heights

lower_found : (x had new : LowestTip) (b : Bool) → x ≡ (if b then new else had) → (x ≡ had) ⊎ (x ≡ new)
lower_found x had new true e = inr e
lower_found x had new false e = inl e

found_by : (x had new : LowestTip) (ts : List LowestTip) (b : Bool) → (IsAmong x (added ts new) → IsAmong x ts ⊎ (x ≡ new))
    → IsAmong x (if b then lower had new ∷ ts else had ∷ added ts new) → IsAmong x (had ∷ ts) ⊎ (x ≡ new)
found_by x had new ts true f (inl e) = ⊎_elim (λ h. inl (inl h)) (λ h. inr h) (lower_found x had new (int_lt new.height had.height) e)
found_by x had new ts true f (inr h) = inl (inr h)
found_by x had new ts false f (inl e) = inl (inl e)
found_by x had new ts false f (inr h) = ⊎_elim (λ g. inl (inr g)) (λ g. inr g) (f h)

found_added : (x : LowestTip) (ts : List LowestTip) (new : LowestTip) → IsAmong x (added ts new) → IsAmong x ts ⊎ (x ≡ new)
found_added x [] new (inl e) = inr e
found_added x [] new (inr h) = inl h
found_added x (had ∷ ts) new h = found_by x had new ts (is_same_pair had new) (found_added x ts new) h

-- ---- all heights in order

abbrev all_added : List LowestTip → List LowestTip → List LowestTip
all_added ts [] = ts
all_added ts (new ∷ more) = all_added (added ts new) more

still_all : (more ts : List LowestTip) (t : LowestTip) → reaches ts t ≡ true → reaches (all_added ts more) t ≡ true
still_all [] ts t h = h
still_all (new ∷ more) ts t h = still_all more (added ts new) t (still_reached ts new t h)

all_reached : (more ts : List LowestTip) (t : LowestTip) → IsAmong t more → reaches (all_added ts more) t ≡ true
all_reached [] ts t h = absurd h
all_reached (new ∷ more) ts t (inl e) = still_all more (added ts new) t (ap (reaches (added ts new)) e ∙ new_reached ts new)
all_reached (new ∷ more) ts t (inr h) = all_reached more (added ts new) t h

all_once : (more ts : List LowestTip) → is_once ts ≡ true → is_once (all_added ts more) ≡ true
all_once [] ts h = h
all_once (new ∷ more) ts h = all_once more (added ts new) (once_added ts new h)

found_next : (x new : LowestTip) (ts more : List LowestTip) → IsAmong x (added ts new) ⊎ IsAmong x more → IsAmong x ts ⊎ IsAmong x (new ∷ more)
found_next x new ts more (inl h) = ⊎_elim (λ g. inl g) (λ e. inr (inl e)) (found_added x ts new h)
found_next x new ts more (inr h) = inr (inr h)

all_found : (x : LowestTip) (more ts : List LowestTip) → IsAmong x (all_added ts more) → IsAmong x ts ⊎ IsAmong x more
all_found x [] ts h = inl h
all_found x (new ∷ more) ts h = found_next x new ts more (all_found x more (added ts new) h)

from_none : (x : LowestTip) (more : List LowestTip) → IsAmong x [] ⊎ IsAmong x more → IsAmong x more
from_none x more (inl h) = absurd h
from_none x more (inr h) = h

tips_next : (tools : List Tool) (start : Frame) (changes : List FrameChange) (k : ℕ) (tool : Option Tool) (tips : List LowestTip) (o : Option LowestTip) (cs : List Command)
    → ((ts : List LowestTip) → tips_from tools start changes k tool ts cs ≡ all_added ts (heights_from tools start changes k tool cs))
    → tips_from tools start changes k tool (with_tip tips o) cs ≡ all_added tips (cons_option o (heights_from tools start changes k tool cs))
tips_next tools start changes k tool tips None cs f = f tips
tips_next tools start changes k tool tips (Some new) cs f =
    ap (λ (ts : List LowestTip). tips_from tools start changes k tool ts cs) (with_is tips new) ∙ f (added tips new)

tips_are : (tools : List Tool) (start : Frame) (changes : List FrameChange) (cs : List Command) (k : ℕ) (tool : Option Tool) (tips : List LowestTip)
    → tips_from tools start changes k tool tips cs ≡ all_added tips (heights_from tools start changes k tool cs)
tips_are tools start changes [] k tool tips = refl
tips_are tools start changes (c ∷ cs) k tool tips =
    tips_next tools start changes (k + 1) (tool_after tool c.action) tips (tip_of tools (frame_at start changes k) tool c.line c.action) cs
    (λ ts. tips_are tools start changes cs (k + 1) (tool_after tool c.action) ts)

-- the lowest heights of a program
pub lowest_of_each : LowestOfEach
lowest_of_each tools start changes commands =
    let heights = heights_from tools start changes 0 None commands in
    let e : lowest_tips tools start changes commands ≡ all_added [] heights = tips_are tools start changes commands 0 None [] in
    record {
      found = λ l h. from_none l heights (all_found l heights [] (subst (IsAmong l) e h));
      least = λ t h. ap (λ (ts : List LowestTip). reaches ts t) e ∙ all_reached heights [] t h;
      once = ap is_once e ∙ all_once heights [] refl;
    }
