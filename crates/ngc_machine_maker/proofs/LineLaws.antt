-- The lines of a dump, in order.
use Rattle.std.proofs.Common.{◌≡◌, ℕ, ◌+◌, List, ◌∷◌, length, refl, arith}
use Rattle.std.specs.Prelude.{true, false, ◌==◌, Bool, Ok, None}
use Rattle.std.proofs.lemmas.Bool.Decides.{nat_tests}
use Rattle.ngc_grbl_lines.proofs.LineLaws.{no_lines}
use Rattle.ngc_grbl_lines.specs.Entries.{setting_value, place_values}
use Rattle.ngc_grbl_lines.specs.Lines.{lines_of}
use Rattle.ngc_machine_maker.specs.declared.refusal.Stored.{Stored}
use Rattle.ngc_machine_maker.specs.Grbl.{setting_in, has_setting, value_in}
use Rattle.ngc_machine_maker.specs.declared.figures.PlaceForm.{PlaceForm}
use Rattle.ngc_machine_maker.specs.Stored.{place_from, is_at, stored_by, stored_in}

-- the first line has the setting
pub setting_found : (number places at : ℕ) (text line : List ℕ) (rest : List (List ℕ)) → lines_of text ≡ line ∷ rest → has_setting number line ≡ true
    → setting_in number places at (lines_of text) ≡ value_in number places at (setting_value line)
setting_found number places at text line rest e h = rw (e, h) refl

-- a later line may have it
pub setting_later : (number places at : ℕ) (text line : List ℕ) (rest : List (List ℕ)) → lines_of text ≡ line ∷ rest → has_setting number line ≡ false
    → setting_in number places at (lines_of text) ≡ setting_in number places (at + 1) rest
setting_later number places at text line rest e h = rw (e, h) refl

-- no line remains
pub setting_end : (number places at : ℕ) (text : List ℕ) → length text ≡ 0 → setting_in number places at (lines_of text) ≡ Ok None
setting_end number places at text h = rw (no_lines text h) refl

-- the same of a place
pub place_found : (form : PlaceForm) (stored : Stored) (at : ℕ) (text line : List ℕ) (rest : List (List ℕ)) → lines_of text ≡ line ∷ rest → is_at stored line ≡ true
    → place_from form stored at (lines_of text) ≡ stored_by form.far stored at (stored_in form (place_values line))
place_found form stored at text line rest e h = rw (e, h) refl

pub place_later : (form : PlaceForm) (stored : Stored) (at : ℕ) (text line : List ℕ) (rest : List (List ℕ)) → lines_of text ≡ line ∷ rest → is_at stored line ≡ false
    → place_from form stored at (lines_of text) ≡ place_from form stored (at + 1) rest
place_later form stored at text line rest e h = rw (e, h) refl

pub place_end : (form : PlaceForm) (stored : Stored) (at : ℕ) (text : List ℕ) → length text ≡ 0 → place_from form stored at (lines_of text) ≡ Ok None
place_end form stored at text h = rw (no_lines text h) refl

pub no_bytes : (n : ℕ) → true ≡ (n == 0) → n ≡ 0
no_bytes n e = grind (arith, nat_tests)
