-- Why a line is not answered.
use Rattle.std.specs.Prelude.{◌≡◌, ℕ, Bool, true, false, List, None}
use Rattle.lines.specs.declared.words.LineFault.{LineFault}
use Rattle.lines.specs.declared.words.LineFault.TheVariants as fault
use Rattle.lines.specs.Words.{words_of}
use Rattle.lines.specs.Bytes.{bytes_of}
use Rattle.lines.specs.Faults.{first_is_byte}
use Rattle.commands.specs.declared.fault.Misread.TheVariants.{NotAByte}
use Rattle.commands.specs.declared.fault.LineError.{LineError}
use Rattle.commands.specs.declared.fault.LineError.TheVariants.{Misread, Failed}

-- whether the program ends
abbrev pub ends : LineError → Bool
ends (Misread m) = false
ends (Failed e) = true

-- a word that is not a byte is misread, and without memory the program ends
abbrev pub Gives : LineFault → LineError → Type 0
Gives fault.NotAByte r = r ≡ Misread NotAByte
Gives fault.Memory r = ends r ≡ true

-- what an error says of a line of bytes: a word is not a byte, or the first word is one and memory ran out
abbrev pub Erring : LineError → List ℕ → Type 0
Erring (Misread m) line = (m ≡ NotAByte) × (bytes_of line ≡ None)
Erring (Failed e) line = first_is_byte (words_of line) ≡ true
