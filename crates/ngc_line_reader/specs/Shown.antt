-- The contents of a line in words, settings and tokens (NISTIR 6556, 3.3.6). How lines are stored
-- is our own.
use Rattle.std.specs.Prelude.{ℕ, ◌≡◌, List, Bool}
use Rattle.ngc_line_reader.specs.declared.line.LineView.{LineView}
use Rattle.ngc_line_reader.specs.declared.line.RawWord.{RawWord}
use Rattle.ngc_line_reader.specs.declared.line.RawSetting.{RawSetting}
use Rattle.ngc_line_reader.specs.declared.token.Symbol.{Symbol}
use Rattle.ngc_line_reader.specs.Tokens.{symbols}
use Rattle.ngc_line_reader.specs.Text.{columns, place_in}
use Rattle.ngc_line_reader.specs.Grammar.{Reading, Reads, optional_part}
use Rattle.ngc_line_reader.specs.Held.{words_from, settings_from, all_tokens, AllWithinLimit}
use Rattle.ngc_line_reader.specs.ScanLine.{Parts}

abbrev pub view_parts : LineView → Parts
view_parts line =
    record { words = line.words.now; settings = line.settings.now; tokens = line.tokens.now }

-- words, settings and the symbols of values
pub record Items : Type 0 where
  pub words : List RawWord
  pub settings : List RawSetting
  pub symbols : List Symbol

-- the contents of words, settings and tokens, without the tokens' columns
abbrev pub items_of : Parts → Items
items_of p = record { words = p.words; settings = p.settings; symbols = symbols p.tokens }

-- the words, settings and symbols of a reading of these bytes
abbrev pub parsed_items : List ℕ → Reading → Items
parsed_items bytes r = record {
  words = words_from (place_in (columns bytes)) 0 r.items (optional_part 59 r.remark);
  settings = settings_from (place_in (columns bytes)) 0 r.items (optional_part 59 r.remark);
  symbols = symbols (all_tokens (place_in (columns bytes)) r.items (optional_part 59 r.remark));
}

-- these are the contents of a reading of these bytes
pub record Shows (bytes : List ℕ) (deleted : Bool) (parts : Parts) (r : Reading) : Type 0 where
  pub deletes : deleted ≡ r.deleted
  pub says : items_of parts ≡ parsed_items bytes r

-- The bytes have a reading, its numbers are in range, and these are its contents.
pub record ShowsReading (bytes : List ℕ) (deleted : Bool) (parts : Parts) : Type 0 where
  pub reading : Reading
  pub reads : Reads bytes reading
  pub limit : AllWithinLimit reading.items
  pub shows : Shows bytes deleted parts reading
