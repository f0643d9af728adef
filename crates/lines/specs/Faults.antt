-- Why the bytes of a line cannot be read.
use Rattle.std.specs.Prelude.{◌≡◌, ℕ, Bool, true, false, List, [], ◌∷◌, is_some, None, codes}
use Rattle.lines.specs.declared.words.LineFault.{LineFault}
use Rattle.lines.specs.declared.words.LineFault.TheVariants.{NotAByte, Memory}
use Rattle.lines.specs.Words.{words_of}
use Rattle.lines.specs.Bytes.{byte_of, bytes_of}

-- whether the first of some words is a byte
abbrev pub first_is_byte : List (List ℕ) → Bool
first_is_byte [] = false
first_is_byte (w ∷ ws) = is_some (byte_of w)

-- what a fault says of the line: a word is not a byte, or the first word is one and memory ran out
abbrev pub Faulty : LineFault → List ℕ → Type 0
Faulty NotAByte line = bytes_of line ≡ None
Faulty Memory line = first_is_byte (words_of line) ≡ true

-- a fault as it is printed
abbrev pub fault_text : LineFault → List ℕ
fault_text NotAByte = codes "not a byte"
fault_text Memory = codes "no memory"
