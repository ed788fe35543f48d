-- The state before each command, and the contacts of the traverses that were found.
use Rattle.std.proofs.Common.{◌≡◌, ℕ, zero, suc, ◌+◌, ◌*◌, ◌<◌, ◌≤◌, ◌⊎◌, inl, inr, refl, sym, ◌∙◌, ap, subst, arith, List, [], ◌∷◌, ◌++◌, length, take, get_or, Option, Some, None, Bool, true, false, ◌&&◌}
use Rattle.std.specs.Prelude.{slice_get, slice_index, IfOk, IfSome, Result, Ok, Err}
use Rattle.std.proofs.lemmas.List.{get_or-replicate, length-replicate, take_more, take_all}
use Rattle.std.proofs.lemmas.Option.{same_Some}
use Rattle.std.proofs.lemmas.Bool.{false≢true}
use Rattle.ngc_fixed_length.specs.declared.points.Point3.{Point3}
use Rattle.ngc_file_figures.specs.declared.limits.ToolLimits.{ToolLimits}
use Rattle.ngc_machine_files.specs.declared.tools.Tool.{Tool}
use Rattle.ngc_commands.specs.declared.command.Action.{Action}
use Rattle.ngc_commands.specs.declared.command.Action.TheVariants.{Move, Mount, Dwell, Spindle, Coolant, Override, Stop, OptionalStop, End}
use Rattle.ngc_commands.specs.declared.command.Command.{Command}
use Rattle.ngc_commands.specs.declared.movement.Way.{Way}
use Rattle.ngc_commands.specs.declared.movement.Way.TheVariants.{Line, Arc}
use Rattle.ngc_commands.specs.declared.movement.Pace.{Pace}
use Rattle.ngc_commands.specs.declared.movement.Pace.TheVariants.{Rapid, Feed}
use Rattle.ngc_commands.specs.declared.reached.Reached.{Reached}
use Rattle.ngc_commands.specs.Reached.{after, after_all}
use Rattle.ngc_stock.specs.declared.cylinder.Cylinder.{Cylinder}
use Rattle.ngc_stock.specs.declared.stock.Stock.{Stock}
use Rattle.ngc_stock.specs.Stocks.{IsInStock}
use Rattle.ngc_stock.specs.Walk.{uncut}
use Rattle.ngc_material.specs.Heights.{is_action_reached, are_reached}
use Rattle.ngc_material.specs.declared.walk.Found.{Found}
use Rattle.ngc_sure_contacts.specs.declared.contact.Contact.{Contact}
use Rattle.ngc_sure_contacts.specs.declared.contact.FoundTraverse.{FoundTraverse}
use Rattle.ngc_sure_contacts.specs.Contacts.{IsThrough, IsThroughByAny, IsThroughOn, IsThroughIn, IsContactWith, IsContact, AreContacts, at_place, inside}
use Rattle.ngc_sure_contacts.specs.Maps.{IsBefore, IsUnder, AreSwept}
use Rattle.ngc_sure_contacts.specs.Swept.{IsSweptIn, IsSweptInAny, IsUnswept}
use Rattle.ngc_sure_contacts.proofs.Sinking.{under_before}
use Rattle.ngc_sure_contacts.proofs.Seeing.{some_as}

-- ---- one command more

pub take_get : {X : Type 0} (xs : List X) (i : ℕ) (x : X) → slice_get xs i ≡ Some x → take (i + 1) xs ≡ take i xs ++ x ∷ []
take_get [] i x e = absurd (cc e)
take_get (y ∷ ys) zero x e = ap (λ z. z ∷ []) (same_Some _ _ e)
take_get (y ∷ ys) (suc i) x e = let f : suc i + 1 ≡ suc (i + 1) = omega arith in rw f (ap (λ zs. y ∷ zs) (take_get ys i x e))

after_one : (r : Reached) (cs : List Command) (c : Command) → after_all r (cs ++ c ∷ []) ≡ after (after_all r cs) c.action
after_one r [] c = refl
after_one r (x ∷ xs) c = after_one (after r x.action) xs c

swept_one : (r : Reached) (cs : List Command) (c : Command) (q : Point3) → IsSweptInAny r (cs ++ c ∷ []) q →
    IsSweptInAny r cs q ⊎ IsSweptIn (after_all r cs).tool c.action q
swept_one r [] c q (inl h) = inr h
swept_one r [] c q (inr h) = absurd h
swept_one r (x ∷ xs) c q (inl h) = inl (inl h)
swept_one r (x ∷ xs) c q (inr h) = elim (swept_one (after r x.action) xs c q h) [ inl early ↦ inl (inr early) | inr last ↦ inr last ]

pub first_before : (s : Stock) (start : Reached) (commands : List Command) (reached : Reached) (heights : List ℕ) → reached ≡ start → IsBefore s start commands 0 reached heights
first_before s start commands reached heights e = record { state = e; unswept = λ q u h. h }

pub next_before : (s : Stock) (start : Reached) (commands : List Command) (p : ℕ) (c : Command) (reached next : Reached) (old new : List ℕ) → length old ≡ s.grid.columns * s.grid.rows →
    Some c ≡ slice_get commands p → next ≡ after reached c.action → AreSwept s (IsSweptIn reached.tool c.action) old new → IsBefore s start commands p reached old →
    IsBefore s start commands (p + 1) next new
next_before s start commands p c reached next old new size at moved swept before =
    let cs = take p commands in
    let more = take_get commands p c (sym at) in
    record {
      state = moved ∙ ap (λ (r : Reached). after r c.action) before.state ∙ sym (after_one start cs c) ∙ ap (λ (xs : List Command). after_all start xs) (sym more);
      unswept = λ q u h.
          elim (swept_one start cs c q (subst (λ (xs : List Command). IsSweptInAny start xs q) more h)) [
            | inl early ↦ before.unswept q (under_before s old new q size swept.kept u) early
            | inr last ↦ swept.each q u (subst (λ (r : Reached). IsSweptIn r.tool c.action q) (sym before.state) last)
          ];
    }

and_first : (a b : Bool) → (a && b) ≡ true → a ≡ true
and_first true b h = refl
and_first false b h = h

and_second : (a b : Bool) → (a && b) ≡ true → b ≡ true
and_second true b h = h
and_second false b h = absurd (false≢true h)

pub reached_at : (cs : List Command) (i : ℕ) (c : Command) → are_reached cs ≡ true → slice_get cs i ≡ Some c → is_action_reached c.action ≡ true
reached_at [] i c all e = absurd (cc e)
reached_at (x ∷ xs) zero c all e = subst (λ (y : Command). is_action_reached y.action ≡ true) (same_Some _ _ e) (and_first (is_action_reached x.action) (are_reached xs) all)
reached_at (x ∷ xs) (suc i) c all e = reached_at xs i c (and_second (is_action_reached x.action) (are_reached xs) all) e

-- ---- what is there

through_as : (s : Stock) (There Also : Point3 → Type 0) (t : Cylinder) (a b : Point3) (c : Contact) → ((q : Point3) → There q → Also q) → IsThrough s There t a b c → IsThrough s Also t a b c
through_as s There Also t a b c f h = record {
  n = h.n;
  k = h.k;
  height = h.height;
  some = h.some;
  within = h.within;
  over = h.over;
  whole = λ z low below. f (at_place c.place z) (h.whole z low below);
  least = h.least;
  high = h.high;
  deep = h.deep;
}

any_as : (s : Stock) (There Also : Point3 → Type 0) (ts : List Cylinder) (a b : Point3) (c : Contact) → ((q : Point3) → There q → Also q) →
    IsThroughByAny s There ts a b c → IsThroughByAny s Also ts a b c
any_as s There Also [] a b c f h = h
any_as s There Also (t ∷ ts) a b c f (inl h) = inl (through_as s There Also t a b c f h)
any_as s There Also (t ∷ ts) a b c f (inr h) = inr (any_as s There Also ts a b c f h)

on_as : (s : Stock) (There Also : Point3 → Type 0) (ts : List Cylinder) (way : Way) (pace : Pace) (c : Contact) → ((q : Point3) → There q → Also q) →
    IsThroughOn s There ts way pace c → IsThroughOn s Also ts way pace c
on_as s There Also ts (Line a b) Rapid c f h = any_as s There Also ts a b c f h
on_as s There Also ts (Line a b) (Feed x) c f h = h
on_as s There Also ts (Arc arc) pace c f h = h

in_as : (s : Stock) (There Also : Point3 → Type 0) (table : List ToolLimits) (tool : Option Tool) (action : Action) (part : ℕ) (c : Contact) → ((q : Point3) → There q → Also q) →
    IsThroughIn s There table tool action part c → IsThroughIn s Also table tool action part c
in_as s There Also table None action part c f h = h
in_as s There Also table (Some t) (Move m) part c f h = on_as s There Also (inside table t part) m.way m.pace c f h
in_as s There Also table (Some t) (Mount x) part c f h = h
in_as s There Also table (Some t) (Dwell x) part c f h = h
in_as s There Also table (Some t) (Spindle x) part c f h = h
in_as s There Also table (Some t) (Coolant x) part c f h = h
in_as s There Also table (Some t) (Override x) part c f h = h
in_as s There Also table (Some t) Stop part c f h = h
in_as s There Also table (Some t) OptionalStop part c f h = h
in_as s There Also table (Some t) End part c f h = h

in_stock : (s : Stock) (heights : List ℕ) (q : Point3) → IsUnder s heights q → IsInStock s q
in_stock s heights q u = record { cell = u.cell; within = u.within; in_cell = u.in_cell; bottom = u.bottom; top = u.top }

-- a contact in the state before the traverse's command
contact_before : (s : Stock) (table : List ToolLimits) (start : Reached) (commands : List Command) (p : ℕ) (reached : Reached) (heights : List ℕ) (f : Found) (c : Contact) →
    IsBefore s start commands p reached heights → f.command ≡ p → IsContactWith s (IsUnder s heights) table reached.tool commands f c → IsContact s table start commands f c
contact_before s table start commands p reached heights f c before e h =
    let known : IsBefore s start commands f.command reached heights = rw e before in
    record {
      command = h.command;
      at = h.at;
      through = in_as s (IsUnder s heights) (IsUnswept s start (take f.command commands)) table (after_all start (take f.command commands)).tool h.command.action f.part c
          (λ q u. record { stock = in_stock s heights q u; unswept = known.unswept q u })
          (subst (λ (r : Reached). IsThroughIn s (IsUnder s heights) table r.tool h.command.action f.part c) known.state h.through);
    }

pub some_contact : (s : Stock) (table : List ToolLimits) (start : Reached) (commands : List Command) (p : ℕ) (reached : Reached) (heights : List ℕ) (f : Found) (o : Option Contact) →
    IsBefore s start commands p reached heights → IfSome o (λ c. f.command ≡ p) → IfSome o (IsContactWith s (IsUnder s heights) table reached.tool commands f) →
    IfSome o (IsContact s table start commands f)
some_contact s table start commands p reached heights f None before here h = h
some_contact s table start commands p reached heights f (Some c) before here h = contact_before s table start commands p reached heights f c before here h

-- ---- one traverse more

one_contact : (s : Stock) (table : List ToolLimits) (start : Reached) (commands : List Command) (fs : List Found) (f : Found) (ts : List FoundTraverse) (t : FoundTraverse) →
    AreContacts s table start commands fs ts → t.found ≡ f → IfSome t.contact (IsContact s table start commands f) → AreContacts s table start commands (fs ++ f ∷ []) (ts ++ t ∷ [])
one_contact s table start commands [] f [] t h e i = (e, i, tt)
one_contact s table start commands [] f (x ∷ xs) t h e i = absurd h
one_contact s table start commands (g ∷ gs) f [] t h e i = absurd h
one_contact s table start commands (g ∷ gs) f (x ∷ xs) t h e i = (h.0, h.1, one_contact s table start commands gs f xs t h.2 e i)

pub next_contact : (s : Stock) (table : List ToolLimits) (start : Reached) (commands : List Command) (fs : List Found) (i : ℕ) (f : Found) (ts later : List FoundTraverse) (t : FoundTraverse) →
    i < length fs → f ≡ get_or fs i f → later ≡ ts ++ t ∷ [] → AreContacts s table start commands (take i fs) ts → t.found ≡ f → IfSome t.contact (IsContact s table start commands f) →
    AreContacts s table start commands (take (i + 1) fs) later
next_contact s table start commands fs i f ts later t less found e h same j =
    subst (λ (xs : List FoundTraverse). AreContacts s table start commands (take (i + 1) fs) xs) (sym e)
    (subst (λ (gs : List Found). AreContacts s table start commands gs (ts ++ t ∷ [])) (ap (λ (g : Found). take i fs ++ g ∷ []) found ∙ sym (take_more fs i f less))
    (one_contact s table start commands (take i fs) f ts t h same j))

pub all_contacts : (s : Stock) (table : List ToolLimits) (start : Reached) (commands : List Command) (fs : List Found) (i : ℕ) (ts : List FoundTraverse) → length fs ≤ i →
    AreContacts s table start commands (take i fs) ts → AreContacts s table start commands fs ts
all_contacts s table start commands fs i ts ends h = subst (λ (gs : List Found). AreContacts s table start commands gs ts) (take_all i fs ends) h

-- ---- one of them

of_some : (o : Option Contact) (c : Contact) (Is : Contact → Type 0) → o ≡ Some c → IfSome o Is → Is c
of_some None c Is e h = absurd (cc e)
of_some (Some d) c Is e h = subst Is (same_Some _ _ e) h

pub contact_in : (s : Stock) (table : List ToolLimits) (start : Reached) (commands : List Command) (fs : List Found) (ts : List FoundTraverse) (i : ℕ) (t : FoundTraverse) (c : Contact) →
    AreContacts s table start commands fs ts → slice_get ts i ≡ Some t → t.contact ≡ Some c → IsContact s table start commands t.found c
contact_in s table start commands [] [] i t c h at has = absurd (cc at)
contact_in s table start commands (f ∷ fs) [] i t c h at has = absurd h
contact_in s table start commands [] (x ∷ xs) i t c h at has = absurd h
contact_in s table start commands (f ∷ fs) (x ∷ xs) zero t c h at has =
    let e : x ≡ t = same_Some _ _ at in
    let same : f ≡ t.found = sym h.0 ∙ ap (λ (y : FoundTraverse). y.found) e in
    of_some t.contact c (IsContact s table start commands t.found) has
    (subst (λ (g : Found). IfSome t.contact (IsContact s table start commands g)) same
    (subst (λ (y : FoundTraverse). IfSome y.contact (IsContact s table start commands f)) e h.1))
contact_in s table start commands (f ∷ fs) (x ∷ xs) (suc i) t c h at has = contact_in s table start commands fs xs i t c h.2 at has

pub none_found : (s : Stock) (table : List ToolLimits) (start : Reached) (commands : List Command) (fs : List Found) → length fs ≡ 0 → AreContacts s table start commands fs []
none_found s table start commands [] e = tt
none_found s table start commands (f ∷ fs) e = absurd (omega (arith, e))

pub no_contacts : (s : Stock) (table : List ToolLimits) (start : Reached) (commands : List Command) (fs : List Found) (ts : List FoundTraverse) → ts ≡ [] →
    AreContacts s table start commands (take 0 fs) ts
no_contacts s table start commands fs ts e = subst (λ (xs : List FoundTraverse). AreContacts s table start commands [] xs) (sym e) tt

-- ---- the command of a traverse

with_command : (s : Stock) (There : Point3 → Type 0) (table : List ToolLimits) (tool : Option Tool) (commands : List Command) (f : Found) (command : Command) (o : Option Contact) →
    slice_get commands f.command ≡ Some command → IfSome o (IsThroughIn s There table tool command.action f.part) → IfSome o (IsContactWith s There table tool commands f)
with_command s There table tool commands f command None at h = h
with_command s There table tool commands f command (Some c) at h = record { command = command; at = at; through = h }

pub contact_ok : {E : Type 0} (s : Stock) (There : Point3 → Type 0) (table : List ToolLimits) (tool : Option Tool) (commands : List Command) (f : Found) (p : ℕ) (command : Command)
    (r : Result (Option Contact) E) → p ≡ f.command → Some command ≡ slice_get commands p → IfOk r (λ o. IfSome o (IsThroughIn s There table tool command.action f.part)) →
    IfOk r (λ o. IfSome o (IsContactWith s There table tool commands f))
contact_ok s There table tool commands f p command (Ok o) e at h =
    with_command s There table tool commands f command o (subst (λ (n : ℕ). slice_get commands n ≡ Some command) e (sym at)) h
contact_ok s There table tool commands f p command (Err x) e at h = h

here : (f : Found) (p : ℕ) (o : Option Contact) → p ≡ f.command → IfSome o (λ c. f.command ≡ p)
here f p None e = tt
here f p (Some c) e = sym e

pub contact_here : {E : Type 0} (f : Found) (p : ℕ) (r : Result (Option Contact) E) → p ≡ f.command → IfOk r (λ o. IfSome o (λ c. f.command ≡ p))
contact_here f p (Ok o) e = here f p o e
contact_here f p (Err x) e = tt
