-- The storage of the words, settings and tokens of lines: in order, with the positions of each
-- line's own.
use Rattle.std.specs.Prelude.{ℕ, ℤ, pos, ◌+◌, ◌≤◌, ◌≡◌, List, [], ◌∷◌, length, slice_range, map, Bool}
use Rattle.std.specs.Prelude.{◌==◌, ◌&&◌, if◌then◌else◌, Option, Some, None, Result, Ok, Err}
use Rattle.std.specs.List.{AllByRecursion}
use Rattle.ngc_line_reader.specs.declared.fault.LineFault.{LineFault}
use Rattle.ngc_line_reader.specs.declared.line.RawWord.{RawWord}
use Rattle.ngc_line_reader.specs.declared.line.RawSetting.{RawSetting}
use Rattle.ngc_line_reader.specs.declared.program.parts.Kind.{Kind}
use Rattle.ngc_line_reader.specs.declared.program.parts.Kept.{Kept}
use Rattle.ngc_line_reader.specs.declared.program.parts.Kept.TheVariants as places
use Rattle.ngc_line_reader.specs.declared.program.parts.SymbolParts.{SymbolParts}
use Rattle.ngc_line_reader.specs.declared.token.Symbol.{Symbol}
use Rattle.ngc_line_reader.specs.declared.token.Symbol.TheVariants as marks
use Rattle.ngc_line_reader.specs.declared.token.Token.{Token}
use Rattle.ngc_line_reader.specs.declared.word.Word.{Word}
use Rattle.ngc_line_reader.specs.Tokens.{symbols as marks_of}
use Rattle.ngc_line_reader.specs.Symbols.{kind_of, numbers_of}
use Rattle.ngc_line_reader.specs.declared.program.parts.PartLists.{PartLists}
use Rattle.ngc_line_reader.specs.declared.program.stored.LineEnd.{LineEnd}
use Rattle.ngc_line_reader.specs.Program.{Line}
use Rattle.ngc_line_reader.specs.ReadLine.{line_read}
use Rattle.ngc_line_reader.specs.ScanLine.{Parts, ParsedLine}

-- the stored contents of a line whose words have other values than numbers, or that has settings:
-- words, settings, the kinds of symbols, and numbers
pub record SymbolsKept : Type 0 where
  pub words : List RawWord
  pub settings : List RawSetting
  pub kinds : List Kind
  pub numbers : List ℤ

-- the stored contents of a line: its words with the numbers that are their values, or with the
-- symbols of their values
pub data StoredLine : Type 0 where
  by_numbers : List Word → StoredLine
  by_symbols : SymbolsKept → StoredLine

-- the number of a symbol, or 0
abbrev pub number_in : Symbol → ℤ
number_in (marks.Number x) = x
number_in marks.Parameter = pos 0
number_in marks.Open = pos 0
number_in marks.Close = pos 0
number_in (marks.Operator o) = pos 0

-- words with the numbers of the same number of tokens
abbrev pub numbered_words : List RawWord → List Token → List Word
numbered_words [] ts = []
numbered_words (w ∷ ws) [] = []
numbered_words (w ∷ ws) (t ∷ ts) =
    record { letter = w.letter; value = number_in t.symbol } ∷ numbered_words ws ts

-- there is no setting, and each word has one token, which is then a number
abbrev pub is_numbered : Parts → Bool
is_numbered p = (length p.settings == 0) && (length p.tokens == length p.words)

abbrev pub symbols_kept_of : Parts → SymbolsKept
symbols_kept_of p = record {
  words = p.words;
  settings = p.settings;
  kinds = map kind_of (marks_of p.tokens);
  numbers = numbers_of (marks_of p.tokens);
}

-- the stored contents for words, settings and tokens
abbrev pub stored_contents : Parts → StoredLine
stored_contents p = if is_numbered p then by_numbers (numbered_words p.words p.tokens)
    else by_symbols (symbols_kept_of p)

-- the stored contents of all lines
pub record AllKept : Type 0 where
  pub numbered : List Word
  pub words : List RawWord
  pub settings : List RawSetting
  pub kinds : List Kind
  pub numbers : List ℤ

abbrev pub no_kept : AllKept
no_kept = record { numbered = []; words = []; settings = []; kinds = []; numbers = [] }

abbrev pub parts_in : {A : Type 0} → PartLists A → AllKept
parts_in l = record {
  numbered = l.numbered.items;
  words = l.words.items;
  settings = l.settings.items;
  kinds = l.kinds.items;
  numbers = l.numbers.items;
}

abbrev pub symbols_at : AllKept → SymbolParts → SymbolsKept
symbols_at all p = record {
  words = slice_range all.words p.words (p.words + p.word_count);
  settings = slice_range all.settings p.settings (p.settings + p.setting_count);
  kinds = slice_range all.kinds p.kinds (p.kinds + p.kind_count);
  numbers = slice_range all.numbers p.numbers (p.numbers + p.number_count);
}

-- the contents at a position
abbrev pub parts_at : AllKept → Kept → StoredLine
parts_at all (places.Numbers first count) =
    by_numbers (slice_range all.numbered first (first + count))
parts_at all (places.Symbols p) = by_symbols (symbols_at all p)

-- the positions are within the stored contents, and there are no more than a line may have
pub record IsWithin (all : AllKept) (p : SymbolParts) : Type 0 where
  pub words : p.words + p.word_count ≤ length all.words
  pub settings : p.settings + p.setting_count ≤ length all.settings
  pub kinds : p.kinds + p.kind_count ≤ length all.kinds
  pub numbers : p.numbers + p.number_count ≤ length all.numbers
  pub few_words : p.word_count ≤ 64
  pub few_settings : p.setting_count ≤ 64
  pub few_kinds : p.kind_count ≤ 256

-- the end of numbered words, and the position of symbols, if there are any
abbrev pub numbered_end : Kept → ℕ
numbered_end (places.Numbers first count) = first + count
numbered_end (places.Symbols p) = 0

abbrev pub symbol_parts : Kept → SymbolParts
symbol_parts (places.Numbers first count) = record {
  words = 0;
  settings = 0;
  kinds = 0;
  numbers = 0;
  kind_count = 0;
  number_count = 0;
  word_count = 0;
  setting_count = 0;
}
symbol_parts (places.Symbols p) = p

abbrev pub LiesWithin : AllKept → Kept → Type 0
LiesWithin all k = (numbered_end k ≤ length all.numbered) × IsWithin all (symbol_parts k)

-- stored contents stay unchanged
abbrev pub Keeps : AllKept → AllKept → Type 0
Keeps old new =
    (k : Kept) → LiesWithin old k → LiesWithin new k × (parts_at new k ≡ parts_at old k)

abbrev pub AreWithin : AllKept → List LineEnd → Type 0
AreWithin all ends = AllByRecursion (λ e. LiesWithin all e.parts.kept) ends

-- whether block delete skips a line, and its stored contents
abbrev pub parsed_in : Result ParsedLine LineFault → Option (Bool × StoredLine)
parsed_in (Ok said) = Some (said.deleted, stored_contents said.parts)
parsed_in (Err fault) = None

abbrev pub parsed_line : Line → Option (Bool × StoredLine)
parsed_line line = parsed_in (line_read line.bytes)

-- the stored contents of a line
abbrev pub line_kept : AllKept → LineEnd → Option (Bool × StoredLine)
line_kept all e = Some (e.parts.deleted, parts_at all e.parts.kept)

-- the contents of each line are stored
abbrev pub AreKept : AllKept → List Line → List LineEnd → Type 0
AreKept all lines ends = map parsed_line lines ≡ map (line_kept all) ends
