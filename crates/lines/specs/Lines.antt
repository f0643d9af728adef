-- The lines of a text.
use Rattle.std.specs.Prelude.{◌≡◌, ℕ, ◌<◌, Bool, false, cond, List, [], ◌∷◌, ◌++◌, length, drop, Some, None, Option, MatchOption, ◌==◌, ◌≢◌}
use Rattle.std.specs.Borrow.{Bor}
use Rattle.std.specs.List.{AllByRecursion}
use Rattle.lines.specs.declared.text.Lines.{Lines}
use Rattle.lines.specs.Cuts.{before, from, pieces}

-- a line without one carriage return at its end
abbrev pub without_return : List ℕ → List ℕ
without_return [] = []
without_return (x ∷ []) = cond (x == 13) [] (x ∷ [])
without_return (x ∷ y ∷ ys) = x ∷ without_return (y ∷ ys)

-- the first line of a text, without its end, and the text behind its line feed
abbrev pub next_line : List ℕ → Option (List ℕ × List ℕ)
next_line [] = None
next_line (x ∷ xs) = Some (without_return (before 10 (x ∷ xs)), drop 1 (from 10 (x ∷ xs)))

-- the lines that pieces between line feeds are: an empty last piece is none
abbrev pub ended : List (List ℕ) → List (List ℕ)
ended [] = []
ended ([] ∷ []) = []
ended ((x ∷ xs) ∷ []) = without_return (x ∷ xs) ∷ []
ended (p ∷ q ∷ ps) = without_return p ∷ ended (q ∷ ps)

-- all lines of a text
abbrev pub lines_of : List ℕ → List (List ℕ)
lines_of text = ended (pieces 10 text)

-- the line is the first of the text, and the rest is what stands behind it
pub record LineOf (text line rest : List ℕ) : Type 0 where
  -- whether a carriage return stands behind the line, and whether a line feed does
  pub return : Bool
  pub feed : Bool
  -- nothing is lost
  pub whole : line ++ (cond return (13 ∷ []) [] ++ (cond feed (10 ∷ []) [] ++ rest)) ≡ text
  -- only the last line may lack a line feed
  pub last : feed ≡ false → rest ≡ []
  -- the line holds no line feed
  pub one_line : AllByRecursion (λ x. x ≢ 10) line
  -- a carriage return at the end is no part of the line
  pub bare : return ≡ false → (front : List ℕ) → line ≢ front ++ 13 ∷ []
  pub shorter : length rest < length text

-- a call of `next` at s that gives r and leaves t
abbrev pub line_steps : Lines → Option (Bor (List ℕ)) → Lines → Type 0
line_steps s r t = MatchOption r (lines_of s.rest.now ≡ []) (λ l. lines_of s.rest.now ≡ l.now ∷ lines_of t.rest.now)
