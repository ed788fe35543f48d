-- Where the lines are for which the flow searches.
use Rattle.std.specs.Prelude.{ℕ, ◌≡◌, ◌+◌, reverse, List, [], ◌∷◌, map, Option, Some, None, option_map, is_some, if◌then◌else◌}
use Rattle.std.specs.Str.{bytes_eq}
use Rattle.std.specs.Ordering.{nat_cmp}
use Rattle.std.specs.Cmp.Lexicographic.{slice_cmp}
use Rattle.std.specs.BTreeMap.{get_by}
use Rattle.ngc_dialect_names.specs.declared.dialect.Dialect.{Dialect}
use Rattle.ngc_dialect_flow.specs.declared.mark.Label.{Label}
use Rattle.ngc_dialect_flow.specs.declared.mark.Label.TheVariants as labels
use Rattle.ngc_dialect_flow.specs.declared.search.Search.{Search}
use Rattle.ngc_dialect_flow.specs.declared.search.Search.TheVariants as searches
use Rattle.ngc_dialect_flow.specs.declared.table.Place.{Place}
use Rattle.ngc_dialect_flow.specs.declared.table.Row.{Row}
use Rattle.ngc_dialect_flow.specs.declared.table.Table.{Table}
use Rattle.ngc_dialect_flow.specs.Marks.{Line, line_in, number_label}
use Rattle.ngc_dialect_flow.specs.Searches.{found_by, also_found_by, end_of, branch_of, key_of}

abbrev pub lines_in : Dialect → List (List ℕ) → List Line
lines_in d texts = map (line_in d) texts

-- the key of a search, if the search and the label are known
abbrev pub key_with : List ℕ → Option Search → Option Label → Option (List ℕ)
key_with text None label = None
key_with text (Some search) None = None
key_with text (Some search) (Some label) = Some (key_of text search label)

-- the place of key q if line n has this key, by its place in the lines after n
abbrev pub placed : ℕ → Option (List ℕ) → List ℕ → Option Place → Option Place
placed n None q later = later
placed n (Some key) q later = if bytes_eq q key then Some (record { line = n; again = is_some later }) else later

-- the same for a line and its three keys
abbrev pub placed_by : Line → ℕ → List ℕ → Option Place → Option Place
placed_by l n q later =
    placed n (key_with l.text (found_by l.mark.kind) l.mark.label) q (
    placed n (key_with l.text (also_found_by l.mark.kind) l.mark.label) q (
    placed n (key_with l.text (Some searches.LineNumber) (number_label l.mark.number)) q later))

-- The place of key q in lines of which the first is line n: the first line that has it, and whether
-- another one has it too.
abbrev pub place_in : List Line → ℕ → List ℕ → Option Place
place_in [] n q = None
place_in (l ∷ ls) n q = placed_by l n q (place_in ls (n + 1) q)

abbrev pub line_at : Option Place → Option ℕ
line_at place = option_map (λ p. p.line) place

-- the first of the lines ls with this key; line n is the first of them
abbrev pub target : Option (List ℕ) → List Line → ℕ → Option ℕ
target None ls n = None
target (Some key) ls n = line_at (place_in ls n key)

-- what the flow needs to know of line l; ls are those after it, and line n is the first of them
abbrev pub row_of : Line → List Line → ℕ → Row
row_of l ls n = record {
  kind = l.mark.kind;
  branch = target (key_with l.text (branch_of l.mark.kind) l.mark.label) ls n;
  end = target (key_with l.text (end_of l.mark.kind) l.mark.label) ls n;
}

abbrev pub rows_in : List Line → ℕ → List Row
rows_in [] n = []
rows_in (l ∷ ls) n = row_of l ls (n + 1) ∷ rows_in ls (n + 1)

-- what the flow of a program needs to know
pub record Plan : Type 0 where
  pub dialect : Dialect
  pub rows : List Row
  pub place : List ℕ → Option Place

-- the plan of a program's lines, without their line feeds
abbrev pub plan_in : Dialect → List (List ℕ) → Plan
plan_in d texts = record {
  dialect = d;
  rows = rows_in (lines_in d texts) 0;
  place = place_in (lines_in d texts) 0;
}

-- the place that a table has for a key
abbrev pub place_of : {A : Type 0} → Table A → List ℕ → Option Place
place_of t q = get_by (λ key. slice_cmp nat_cmp q key.items) t.places

abbrev pub rows_of : {A : Type 0} → Table A → List Row
rows_of t = t.rows.items

abbrev pub dialect_of : {A : Type 0} → Table A → Dialect
dialect_of t = t.dialect

-- the table so far is that of lines of which the first is line n; its rows are in reverse order
pub record Covers {A : Type 0} (t : Table A) (ls : List Line) (n : ℕ) : Type 0 where
  pub places : (q : List ℕ) → place_of t q ≡ place_in ls n q
  pub rows : rows_of t ≡ reverse (rows_in ls n)

abbrev pub plan_of : {A : Type 0} → Table A → Plan
plan_of t = record { dialect = t.dialect; rows = t.rows.items; place = place_of t }
