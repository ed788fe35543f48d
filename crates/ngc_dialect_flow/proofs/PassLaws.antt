-- One more line of the pass over a program's lines, from the last to the first.
use Rattle.std.proofs.Common.{◌≡◌, ℕ, suc, ◌+◌, ◌<◌, List, [], ◌∷◌, ◌++◌, length, map, drop, reverse, get_or, ◌≤◌, Option, Result, Ok, Err, OnOk, subst, ap, sym, ◌∙◌, arith}
use Rattle.std.proofs.Math.Path.{fun_ext}
use Rattle.std.proofs.Math.Seq.{drop-cons}
use Rattle.std.proofs.lemmas.List.{drop-map, reverse-append, reverse-reverse}
use Rattle.ngc_dialect_names.specs.declared.dialect.Dialect.{Dialect}
use Rattle.ngc_dialect_flow.specs.declared.mark.Mark.{Mark}
use Rattle.ngc_dialect_flow.specs.declared.table.Place.{Place}
use Rattle.ngc_dialect_flow.specs.declared.table.Row.{Row}
use Rattle.ngc_dialect_flow.specs.declared.table.Table.{Table}
use Rattle.ngc_dialect_flow.specs.Marks.{Line, line_in}
use Rattle.ngc_dialect_flow.specs.Places.{Plan, lines_in, placed_by, place_in, plan_in, row_of, rows_in, place_of, rows_of, dialect_of, Covers}

-- the line at an index, and the lines after it
pub dropped : {R : Type 0} (d : Dialect) (now : R → List ℕ) (xs : List R) (i : ℕ) (x e : R) → i < length xs → x ≡ get_or xs i e →
    drop i (lines_in d (map now xs)) ≡ line_in d (now x) ∷ drop (i + 1) (lines_in d (map now xs))
dropped {R} d now xs i x e h f =
    let one : i + 1 ≡ suc i = omega arith in
    let whole : drop i xs ≡ x ∷ drop (i + 1) xs = drop-cons xs i e h ∙ ap (λ (y : R). y ∷ drop (suc i) xs) (sym f)
    ∙ ap (λ (n : ℕ). x ∷ drop n xs) (sym one) in
    drop-map (line_in d) i (map now xs) ∙ ap (map (line_in d)) (drop-map now i xs ∙ ap (map now) whole)
    ∙ ap (λ (ys : List Line). line_in d (now x) ∷ ys) (sym (drop-map (line_in d) (i + 1) (map now xs) ∙ ap (map (line_in d)) (drop-map now (i + 1) xs)))

pub covers_more : {A : Type 0} (old new : Table A) (l : Line) (i : ℕ) →
    ((q : List ℕ) → place_of new q ≡ placed_by l i q (place_of old q)) →
    ((ls : List Line) (n : ℕ) → ((q : List ℕ) → place_of old q ≡ place_in ls n q) → rows_of new ≡ rows_of old ++ (row_of l ls n ∷ [])) →
    (ls : List Line) → Covers old ls (i + 1) → Covers new (l ∷ ls) i
covers_more old new l i places rows ls c = record {
  places = λ q. places q ∙ ap (placed_by l i q) (c.places q);
  rows = rows ls (i + 1) c.places ∙ ap (λ (rs : List Row). rs ++ (row_of l ls (i + 1) ∷ [])) c.rows
      ∙ sym (reverse-append (row_of l ls (i + 1) ∷ []) (rows_in ls (i + 1)));
}

-- the same for what was read of the line
pub covers_read : {A : Type 0} (old new : Table A) (l k : Line) (i : ℕ) → k ≡ l →
    ((q : List ℕ) → place_of new q ≡ placed_by k i q (place_of old q)) →
    ((ls : List Line) (n : ℕ) → ((q : List ℕ) → place_of old q ≡ place_in ls n q) → rows_of new ≡ rows_of old ++ (row_of k ls n ∷ [])) →
    (ls : List Line) → Covers old ls (i + 1) → Covers new (l ∷ ls) i
covers_read old new l k i e places rows = subst (λ (m : Line). (ls : List Line) → Covers old ls (i + 1) → Covers new (m ∷ ls) i) e (covers_more old new k i places rows)

pub same_line : (mark : Mark) (text : List ℕ) (l : Line) → mark ≡ l.mark → text ≡ l.text → record { mark = mark; text = text } ≡ l
same_line mark text l e f = ap (λ (m : Mark). record { mark = m; text = text }) e ∙ ap (λ (t : List ℕ). record { mark = l.mark; text = t }) f

pub on_ok : {X E : Type 0} (r : Result X E) (P Q R : Type 0) → (P → Q → R) → OnOk r P → OnOk r Q → OnOk r R
on_ok (Ok x) P Q R f p q = f p q
on_ok (Err e) P Q R f p q = tt

-- the lines from an index on, once more
pub covers_next : {A R : Type 0} (t u : Table A) (d k : Dialect) (now : R → List ℕ) (xs : List R) (i : ℕ) (x e : R) → i < length xs → x ≡ get_or xs i e → k ≡ d →
    Covers t (drop (i + 1) (lines_in d (map now xs))) (i + 1) →
    ((ls : List Line) → Covers t ls (i + 1) → Covers u (line_in k (now x) ∷ ls) i) → Covers u (drop i (lines_in d (map now xs))) i
covers_next {A} t u d k now xs i x e h f g c more =
    let rest = drop (i + 1) (lines_in d (map now xs)) in
    subst (λ (ls : List Line). Covers u ls i) (sym (dropped d now xs i x e h f))
    (subst (λ (y : Dialect). Covers u (line_in y (now x) ∷ rest) i) g (more rest c))

abbrev made : Dialect → List Row → (List ℕ → Option Place) → Plan
made d rows place = record { dialect = d; rows = rows; place = place }

-- the plan of a table that covers all lines, with its rows in order
pub plan_made : {A : Type 0} (t : Table A) (d : Dialect) (texts : List (List ℕ)) (i : ℕ) (rows : List Row) → dialect_of t ≡ d → i ≤ 0
    → Covers t (drop i (lines_in d texts)) i → rows ≡ reverse (rows_of t) → made (dialect_of t) rows (place_of t) ≡ plan_in d texts
plan_made t d texts i rows is first covers order =
    let zero : i ≡ 0 = omega (arith, first) in
    let whole : Covers t (lines_in d texts) 0 = subst (λ (n : ℕ). Covers t (drop n (lines_in d texts)) n) zero covers in
    ap (λ (x : Dialect). made x rows (place_of t)) is
    ∙ ap (λ (rs : List Row). made d rs (place_of t)) (order ∙ ap reverse whole.rows ∙ reverse-reverse (rows_in (lines_in d texts) 0))
    ∙ ap (λ (f : List ℕ → Option Place). made d (rows_in (lines_in d texts) 0) f) (fun_ext whole.places)
