-- What is written of a stop, as a text for some stop.
use Rattle.std.proofs.Common.{◌≡◌, ◌⊎◌, inl, inr, ℕ, ◌≤◌, List, [], length, Option, Some, None, Result, Ok, Err, subst, sym, arith}
use Rattle.std.specs.Prelude.{OnOk, OnErr}
use Rattle.std.specs.Io.KnownBytes.{Appends, Keeps}
use Rattle.toml.specs.Data.{Data}
use Rattle.ngc_text.specs.Written.{AppendsPrefix}
use Rattle.ngc_text.specs.declared.writing.WriteFault.{WriteFault}
use Rattle.ngc_file_lines.specs.Places.{Place, place_after}
use Rattle.ngc_machine_files.specs.Tree.{tree_of}
use Rattle.ngc_refused_files.specs.Stops.{Stop, StopsWhere, text_at, stop_text}

pub stops_ok : (name bytes why : List ℕ) (at : ℕ) (place : Place) → at ≤ length bytes → place ≡ place_after at bytes
    → (r : Result (Unit {0}) WriteFault) (old new : Option (List ℕ)) → OnOk r (Appends old new (text_at name why place))
    → OnOk r (StopsWhere bytes (λ stop. Appends old new (stop_text name bytes stop)))
stops_ok name bytes why at place inside is (Ok u) old new told =
    record { stop = record { at = at; why = why }; inside = inside; holds = subst (λ (p : Place). Appends old new (text_at name why p)) is told }
stops_ok name bytes why at place inside is (Err e) old new told = tt

pub stops_fault : (name bytes why : List ℕ) (at : ℕ) (place : Place) → at ≤ length bytes → place ≡ place_after at bytes
    → (r : Result (Unit {0}) WriteFault) (old new : Option (List ℕ)) → OnErr r (AppendsPrefix old new (text_at name why place))
    → OnErr r (StopsWhere bytes (λ stop. AppendsPrefix old new (stop_text name bytes stop)))
stops_fault name bytes why at place inside is (Ok u) old new told = tt
stops_fault name bytes why at place inside is (Err e) old new told =
    record { stop = record { at = at; why = why }; inside = inside; holds = subst (λ (p : Place). AppendsPrefix old new (text_at name why p)) is told }

-- ---- a text that has a stop only where there is no document

abbrev nowhere : Stop
nowhere = record { at = 0; why = [] }

-- a document: any stop will do
pub read_ok : (bytes : List ℕ) (text : Stop → Option Data → List ℕ) (tree : Data) → tree_of bytes ≡ Some tree
    → (r : Result (Unit {0}) WriteFault) (old new : Option (List ℕ)) → OnOk r (Appends old new (text nowhere (Some tree)) ⊎ Keeps old new)
    → OnOk r (StopsWhere bytes (λ stop. Appends old new (text stop (tree_of bytes))) ⊎ Keeps old new)
read_ok bytes text tree is (Ok u) old new (inl told) =
    inl (record { stop = nowhere; inside = omega arith; holds = subst (λ (t : Option Data). Appends old new (text nowhere t)) (sym is) told })
read_ok bytes text tree is (Ok u) old new (inr kept) = inr kept
read_ok bytes text tree is (Err e) old new told = tt

pub read_whole : (bytes : List ℕ) (text : Stop → Option Data → List ℕ) (tree : Data) → tree_of bytes ≡ Some tree
    → (r : Result (Unit {0}) WriteFault) (old new : Option (List ℕ)) → OnOk r (Appends old new (text nowhere (Some tree)))
    → OnOk r (StopsWhere bytes (λ stop. Appends old new (text stop (tree_of bytes))))
read_whole bytes text tree is (Ok u) old new told =
    record { stop = nowhere; inside = omega arith; holds = subst (λ (t : Option Data). Appends old new (text nowhere t)) (sym is) told }
read_whole bytes text tree is (Err e) old new told = tt

pub read_fault : (bytes : List ℕ) (text : Stop → Option Data → List ℕ) (tree : Data) → tree_of bytes ≡ Some tree
    → (r : Result (Unit {0}) WriteFault) (old new : Option (List ℕ)) → OnErr r (AppendsPrefix old new (text nowhere (Some tree)))
    → OnErr r (StopsWhere bytes (λ stop. AppendsPrefix old new (text stop (tree_of bytes))))
read_fault bytes text tree is (Ok u) old new told = tt
read_fault bytes text tree is (Err e) old new told =
    record { stop = nowhere; inside = omega arith; holds = subst (λ (t : Option Data). AppendsPrefix old new (text nowhere t)) (sym is) told }

-- no document
pub unread_ok : (bytes : List ℕ) (text : Stop → Option Data → List ℕ) → tree_of bytes ≡ None
    → (r : Result (Unit {0}) WriteFault) (old new : Option (List ℕ)) → OnOk r (StopsWhere bytes (λ stop. Appends old new (text stop None)))
    → OnOk r (StopsWhere bytes (λ stop. Appends old new (text stop (tree_of bytes))))
unread_ok bytes text is r old new told =
    subst (λ (t : Option Data). OnOk r (StopsWhere bytes (λ stop. Appends old new (text stop t)))) (sym is) told

pub unread_either : (bytes : List ℕ) (text : Stop → Option Data → List ℕ) → tree_of bytes ≡ None
    → (r : Result (Unit {0}) WriteFault) (old new : Option (List ℕ)) → OnOk r (StopsWhere bytes (λ stop. Appends old new (text stop None)))
    → OnOk r (StopsWhere bytes (λ stop. Appends old new (text stop (tree_of bytes))) ⊎ Keeps old new)
unread_either bytes text is (Ok u) old new told = inl (unread_ok bytes text is (Ok u) old new told)
unread_either bytes text is (Err e) old new told = tt

pub unread_fault : (bytes : List ℕ) (text : Stop → Option Data → List ℕ) → tree_of bytes ≡ None
    → (r : Result (Unit {0}) WriteFault) (old new : Option (List ℕ)) → OnErr r (StopsWhere bytes (λ stop. AppendsPrefix old new (text stop None)))
    → OnErr r (StopsWhere bytes (λ stop. AppendsPrefix old new (text stop (tree_of bytes))))
unread_fault bytes text is r old new told =
    subst (λ (t : Option Data). OnErr r (StopsWhere bytes (λ stop. AppendsPrefix old new (text stop t)))) (sym is) told
