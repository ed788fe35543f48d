-- The text of an unknown key: its first 40 bytes. Our own.
use Rattle.std.specs.Prelude.{ℕ, ◌-◌, min, List, ◌++◌, length, take, replicate}
use Rattle.ngc_machine_figures.specs.declared.key_word.KeyWord.{KeyWord}

-- a text of at most 40 bytes, with zeros after it
abbrev pub padded : List ℕ → KeyWord
padded text = record { bytes = text ++ replicate (40 - length text) 0; count = length text }

abbrev pub key_word : List ℕ → KeyWord
key_word key = padded (take 40 key)

abbrev pub bytes_of : KeyWord → List ℕ
bytes_of word = take (min word.count 40) word.bytes
