-- TOML values and tables, and the trees that they represent.
use Rattle.std.proofs.Common.{◌≡◌, ℕ, ◌+◌, ◌<◌, ◌≤◌, List, [], ◌∷◌, ◌++◌, length, take, drop, get_or, Bool, true, false, cond, ◌&&◌, string_bytes, Option, Some}
use Rattle.std.proofs.Common.{None, option_map, IfSome, suc, refl, ◌∙◌, ap, sym, arith, rules, append_assoc}
use Rattle.std.specs.List.{list_all}
use Rattle.std.proofs.Math.ListN.{set}
use Rattle.std.proofs.lemmas.List.{append-nil, drop_all, drop_more, take_all, take_more_set}
use Rattle.std.proofs.lemmas.Bool.Decides.{nat_tests}
use Rattle.std.specs.Str.{IsUtf8, is_utf8}
use Rattle.std.proofs.lemmas.Str.{IsUtf8-from_is_utf8, is_utf8-from_IsUtf8}
use Rattle.std.specs.Map.{keys_of}
use Rattle.toml.specs.Data.{Data, string, integer, float, boolean, datetime, array, table, Members, as_array, as_table}
use Rattle.toml.specs.Parse.{parse_document}
use Rattle.toml.specs.View.{view, items_view, members_view}
use Rattle.toml.specs.declared.value.Value.{Value}
use Rattle.toml.proofs.Views.{Entry}
use Rattle.ngc_machine_files.specs.Tree.{tree_of, is_one_of, only, has_only, coordinates, each, ◌>>=◌}
use Rattle.ngc_machine_files.specs.MachineText.{nine, nine_coordinates}
use Rattle.ngc_machine_files.specs.declared.machine_contents.Coordinates.{Coordinates}

only-members : (keys : List (List ℕ)) (es : List Entry) → list_all (λ k. is_one_of keys (string_bytes k)) (keys_of es) ≡ only keys (members_view es)
only-members keys [] = refl
only-members keys (e ∷ es) = ap (λ b. is_one_of keys (string_bytes e.0) && b) (only-members keys es)

-- the keys of a table's map are those of its members
pub has_only-keys : (keys : List (List ℕ)) (d : Data) (es : List Entry) → Some (members_view es) ≡ as_table d →
    list_all (λ k. is_one_of keys (string_bytes k)) (keys_of es) ≡ has_only keys d
has_only-keys keys (table members) es h = let e : members ≡ members_view es = cc in rw e (only-members keys es)
has_only-keys keys (string _) es h = cc
has_only-keys keys (integer _) es h = cc
has_only-keys keys (float _) es h = cc
has_only-keys keys (boolean _) es h = cc
has_only-keys keys (datetime _) es h = cc
has_only-keys keys (array _) es h = cc

coordinates-items : (vs : List Value) → (length vs ≡ 3 → ⊥) → None ≡ coordinates (array (items_view vs))
coordinates-items [] h = refl
coordinates-items (a ∷ []) h = refl
coordinates-items (a ∷ b ∷ []) h = refl
coordinates-items (a ∷ b ∷ c ∷ []) h = absurd (h refl)
coordinates-items (a ∷ b ∷ c ∷ d ∷ vs) h = refl

-- an array of a length other than 3
pub coordinates-length : (d : Data) (vs : List Value) → Some (items_view vs) ≡ as_array d → (length vs ≡ 3 → ⊥) → None ≡ coordinates d
coordinates-length (array items) vs h n = let e : items ≡ items_view vs = cc in rw e (coordinates-items vs n)
coordinates-length (string _) vs h n = refl
coordinates-length (integer _) vs h n = refl
coordinates-length (float _) vs h n = refl
coordinates-length (boolean _) vs h n = refl
coordinates-length (datetime _) vs h n = refl
coordinates-length (table _) vs h n = refl

-- one more entry in front of the others
pub added_before : {A : Type 0} (done : List A) (x : A) (rest : Option (List A)) →
    option_map (λ xs. done ++ xs) (rest >>= (λ xs. Some (x ∷ xs))) ≡ option_map (λ xs. (done ++ x ∷ []) ++ xs) rest
added_before done x None = refl
added_before done x (Some xs) = ap Some (search (rules, append_assoc))

-- the tree of bytes that are a document
pub tree_of-parsed : (bytes : List ℕ) (ms : Members) → IsUtf8 bytes → parse_document bytes ≡ Some ms → tree_of bytes ≡ Some (table ms)
tree_of-parsed bytes ms u p = rw (is_utf8-from_IsUtf8 bytes u, p)

unread : (b : Bool) (tree : Option Members) → (b ≡ true → tree ≡ None) → (cond b tree None >>= (λ members. Some (table members))) ≡ None
unread true tree h = rw (h refl)
unread false tree h = refl

-- bytes that are not a document have no tree
pub tree_of-refused : (bytes : List ℕ) → (IsUtf8 bytes → parse_document bytes ≡ None) → tree_of bytes ≡ None
tree_of-refused bytes h = unread (is_utf8 bytes) (parse_document bytes) (λ e. h (IsUtf8-from_is_utf8 bytes e))

longer : {A : Type 0} (n : ℕ) (r : Option A) (rest : Option (List A)) → IfSome rest (λ xs. length xs ≡ n) →
    IfSome (r >>= (λ x. rest >>= (λ xs. Some (x ∷ xs)))) (λ xs. length xs ≡ suc n)
longer n None rest h = tt
longer n (Some x) None h = tt
longer n (Some x) (Some xs) h = ap suc h

-- there are as many entries as items
pub each-length : {A : Type 0} (read : Data → Option A) (vs : List Value) → IfSome (each read (items_view vs)) (λ xs. length xs ≡ length vs)
each-length read [] = refl
each-length read (v ∷ vs) = longer (length vs) (read (view v)) (each read (items_view vs)) (each-length read vs)

wrong_length : (n : ℕ) (r : Option (List Coordinates)) → IfSome r (λ xs. length xs ≡ n) → (n ≡ 9 → ⊥) → (r >>= nine) ≡ None
wrong_length n None h e = refl
wrong_length n (Some xs) h e = grind (arith, nat_tests)

-- origins whose number isn't nine
pub nine_coordinates-length : (vs : List Value) → (length vs ≡ 9 → ⊥) → None ≡ nine_coordinates (items_view vs)
nine_coordinates-length vs e = sym (wrong_length (length vs) (each coordinates (items_view vs)) (each-length coordinates vs) e)

-- reading one more entry
pub each-more : {A : Type 0} (read : Data → Option A) (vs : List Value) (i : ℕ) (v : Value) (x : A) → i < length vs → v ≡ get_or vs i v →
    Some x ≡ read (view v) → each read (items_view (drop i vs)) ≡ (each read (items_view (drop (i + 1) vs)) >>= (λ xs. Some (x ∷ xs)))
each-more read vs i v x h at e = rw (drop_more vs i v h, ← at, ← e)

pub nine-more : (vs : List Value) (done : List Coordinates) (i : ℕ) (v : Value) (x : Coordinates) → i < length vs → i < length done → v ≡ get_or vs i v →
    Some x ≡ coordinates (view v)
    → each coordinates (items_view vs) ≡ option_map (λ ps. take i done ++ ps) (each coordinates (items_view (drop i vs)))
    → each coordinates (items_view vs) ≡ option_map (λ ps. take (i + 1) (set done i x) ++ ps) (each coordinates (items_view (drop (i + 1) vs)))
nine-more vs done i v x h k at e inv =
    rw take_more_set (inv ∙ ap (option_map (λ ps. take i done ++ ps)) (each-more coordinates vs i v x h at e)
    ∙ added_before (take i done) x (each coordinates (items_view (drop (i + 1) vs))))

pub nine-all : (vs : List Value) (done : List Coordinates) (i : ℕ) → length vs ≤ i → length vs ≡ 9 → length done ≡ 9
    → each coordinates (items_view vs) ≡ option_map (λ ps. take i done ++ ps) (each coordinates (items_view (drop i vs)))
    → Some done ≡ nine_coordinates (items_view vs)
nine-all vs done i h e d inv =
    let none : drop i vs ≡ [] = drop_all i vs h in
    let whole : take i done ≡ done = take_all i done (omega arith) in
    let all : each coordinates (items_view vs) ≡ Some done = rw (none, whole, append-nil) at inv in
    rw (all, d)

-- the loops that read entries: one more entry
pub entries-more : {A : Type 0} (read : Data → Option A) (vs : List Value) (done : List A) (i : ℕ) (v : Value) (x : A) → i < length vs → v ≡ get_or vs i v →
    Some x ≡ read (view v)
    → each read (items_view vs) ≡ option_map (λ xs. done ++ xs) (each read (items_view (drop i vs)))
    → each read (items_view vs) ≡ option_map (λ xs. (done ++ x ∷ []) ++ xs) (each read (items_view (drop (i + 1) vs)))
entries-more read vs done i v x h at e inv =
    inv ∙ ap (option_map (λ xs. done ++ xs)) (each-more read vs i v x h at e) ∙ added_before done x (each read (items_view (drop (i + 1) vs)))

-- an entry that is wrong
pub entries-none : {A : Type 0} (read : Data → Option A) (vs : List Value) (done : List A) (i : ℕ) (v : Value) → i < length vs → v ≡ get_or vs i v →
    None ≡ read (view v)
    → each read (items_view vs) ≡ option_map (λ xs. done ++ xs) (each read (items_view (drop i vs)))
    → None ≡ each read (items_view vs)
entries-none read vs done i v h at e inv =
    let none : each read (items_view (drop i vs)) ≡ None = rw (drop_more vs i v h, ← at, ← e) in
    rw (inv, none)

-- all entries
pub entries-all : {A : Type 0} (read : Data → Option A) (vs : List Value) (done : List A) (i : ℕ) → length vs ≤ i
    → each read (items_view vs) ≡ option_map (λ xs. done ++ xs) (each read (items_view (drop i vs)))
    → Some done ≡ each read (items_view vs)
entries-all read vs done i h inv =
    let none : drop i vs ≡ [] = drop_all i vs h in
    rw (inv, none, append-nil done)
