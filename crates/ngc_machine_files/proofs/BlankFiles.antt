-- Files that consist of white space and comments only.
use Rattle.std.proofs.Common.{◌≡◌, ℕ, List, Bool, true, false, cond, Option, Some, None, IsSome, Result, Ok, Err, IfErr, IsOk, refl}
use Rattle.std.specs.Str.{is_utf8}
use Rattle.toml.specs.Data.{Data, table, Members, no_members, get}
use Rattle.toml.specs.Errors.{IsBlank}
use Rattle.toml.specs.Parse.{lines, parse_document}
use Rattle.ngc_machine_files.specs.Tree.{tree_of, ◌>>=◌}
use Rattle.ngc_machine_files.specs.MachineText as machine
use Rattle.ngc_machine_files.specs.ToolText as tools

-- a blank document is an empty table
parse_document-blank : (bytes : List ℕ) → IsBlank bytes → parse_document bytes ≡ Some no_members
unfolding parse_document lines
parse_document-blank bytes blank = rw blank

-- which is without keys
keyless : (b : Bool) (members : Option Members) (tree : Data) (key : List ℕ) → members ≡ Some no_members →
    Some tree ≡ (cond b members None >>= (λ ms. Some (table ms))) → get key tree ≡ None
keyless true None tree key e same = cc
keyless true (Some ms) tree key e same = let t : tree ≡ table no_members = cc in rw t
keyless false members tree key e same = cc

keyed-blank : (bytes : List ℕ) (tree : Data) (key : List ℕ) → Some tree ≡ tree_of bytes → IsBlank bytes → get key tree ≡ None
keyed-blank bytes tree key same blank = keyless (is_utf8 bytes) (parse_document bytes) tree key (parse_document-blank bytes blank) same

-- what allocates only for a key allocates nothing for a blank document
pub read-blank : {T E : Type 0} (r : Result T E) (bytes : List ℕ) (tree : Data) (key : List ℕ) → Some tree ≡ tree_of bytes →
    IfErr r (λ _. IsSome (get key tree)) → IsBlank bytes → IsOk r
read-blank (Ok x) bytes tree key same h blank = refl
read-blank (Err e) bytes tree key same h blank =
    let none : get key tree ≡ None = keyed-blank bytes tree key same blank in
    rw none at h

no_machine : (b : Bool) (members : Option Members) → members ≡ Some no_members →
    (cond b members None >>= (λ ms. Some (table ms)) >>= machine.machine_values) ≡ None
no_machine true members e = rw e
no_machine false members e = refl

no_table : (b : Bool) (members : Option Members) → members ≡ Some no_members → (cond b members None >>= (λ ms. Some (table ms)) >>= tools.table_values) ≡ None
no_table true members e = rw e
no_table false members e = refl

pub machine-blank : (bytes : List ℕ) → IsBlank bytes → machine.values_in bytes ≡ None
machine-blank bytes blank = no_machine (is_utf8 bytes) (parse_document bytes) (parse_document-blank bytes blank)

pub table-blank : (bytes : List ℕ) → IsBlank bytes → tools.values_in bytes ≡ None
table-blank bytes blank = no_table (is_utf8 bytes) (parse_document bytes) (parse_document-blank bytes blank)
