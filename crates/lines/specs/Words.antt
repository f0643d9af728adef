-- The words of a line.
use Rattle.std.specs.Prelude.{◌≡◌, ℕ, ◌<◌, Bool, true, false, cond, List, [], ◌∷◌, ◌++◌, length, replicate, Some, None, filter, Option, MatchOption, ◌==◌, ◌≢◌, slice_index}
use Rattle.std.specs.Borrow.{Bor}
use Rattle.std.specs.List.{AllByRecursion}
use Rattle.lines.specs.declared.words.Words.{Words}
use Rattle.lines.specs.Cuts.{before, from, pieces}

-- a line without the spaces at its front
abbrev pub past_spaces : List ℕ → List ℕ
past_spaces [] = []
past_spaces (x ∷ xs) = cond (x == 32) (past_spaces xs) (x ∷ xs)

-- the word at the front of a line, and what stands behind it
abbrev pub word_at : List ℕ → Option (List ℕ × List ℕ)
word_at [] = None
word_at (x ∷ xs) = Some (before 32 (x ∷ xs), from 32 (x ∷ xs))

-- the first word of a line, and what stands behind it
abbrev pub next_word : List ℕ → Option (List ℕ × List ℕ)
next_word line = word_at (past_spaces line)

-- whether a piece holds a byte
abbrev pub some : List ℕ → Bool
some [] = false
some (x ∷ xs) = true

-- all words of a line: the pieces between spaces that are not empty
abbrev pub words_of : List ℕ → List (List ℕ)
words_of line = filter some (pieces 32 line)

-- the word is the first of the line, and the rest is what stands behind it
pub record WordOf (line word rest : List ℕ) : Type 0 where
  -- how many spaces stand in front of the word
  pub spaces : ℕ
  -- nothing is lost
  pub whole : replicate spaces 32 ++ (word ++ rest) ≡ line
  -- the word is not empty and holds no space
  pub filled : 0 < length word
  pub solid : AllByRecursion (λ x. x ≢ 32) word
  -- a space stands behind the word, or nothing does
  pub parted : 0 < length rest → slice_index rest 0 ≡ 32
  pub shorter : length rest < length line

-- a call of `next` at s that gives r and leaves t
abbrev pub word_steps : Words → Option (Bor (List ℕ)) → Words → Type 0
word_steps s r t = MatchOption r (words_of s.rest.now ≡ []) (λ w. words_of s.rest.now ≡ w.now ∷ words_of t.rest.now)
