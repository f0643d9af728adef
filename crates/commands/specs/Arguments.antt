-- The words of a line, one after the other.
use Rattle.std.specs.Prelude.{ℕ, ◌+◌, List, Option}
use Rattle.std.specs.Option.{option_and_then, option_map_or}
use Rattle.lines.specs.Decimals.{decimal_of}
use Rattle.lines.specs.Words.{next_word}
use Rattle.commands.specs.Numbers.{below}

-- what the first word of a line stands for
abbrev pub first_by : {T : Type 0} → (List ℕ → Option T) → List ℕ → Option T
first_by value line = option_and_then (λ q. value q.0) (next_word line)

-- the line behind its first word
abbrev pub behind_first : List ℕ → List ℕ
behind_first line = option_map_or (λ q. q.1) (next_word line) line

-- the number of at most so much that decimal digits stand for
abbrev pub number_of : ℕ → List ℕ → Option ℕ
number_of most word = below (most + 1) (decimal_of word)
