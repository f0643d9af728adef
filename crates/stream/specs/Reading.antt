-- Reading a whole list of bytes: the frames that it takes, the bytes that it drops, and what is left.
use Rattle.std.specs.Prelude.{◌≡◌, ℕ, zero, suc, ◌-◌, ◌<◌, cond, List, [], ◌∷◌, ◌++◌, map, length, take, drop, Some, None, Option, MatchOption, ◌==◌, nat_lt, slice_index}
use Rattle.std.specs.Borrow.{Bor}
use Rattle.std.specs.List.{flat_map}
use Rattle.xbus.specs.declared.front.Front.{Front}
use Rattle.xbus.specs.declared.front.Front.TheVariants.{Whole, Waits, Wrong}
use Rattle.stream.specs.declared.reading.Piece.TheVariants as code
use Rattle.stream.specs.declared.reading.Piece.{Piece as CodePiece}
use Rattle.stream.specs.declared.reading.Pieces.{Pieces}
use Rattle.xbus.specs.Front.{front_of}
use Rattle.xbus.specs.Frames.{Frame, Begins, Starts, Neither}
use Rattle.stream.specs.Settling.{dropped}

-- what reading comes to, in the order of the bytes
pub data Piece : Type 0 where
  -- a frame that is taken
  frame : List ℕ → Piece
  -- a byte that is dropped
  stray : ℕ → Piece
  -- what is left at the end
  left : List ℕ → Piece

-- the pieces of xs, by what stands at its front; `behind n` are those behind its first n bytes
abbrev pub pieces_by : Front → List ℕ → (ℕ → List Piece) → List Piece
pieces_by (Whole n) xs behind = frame (take n xs) ∷ behind n
pieces_by Waits xs behind = left xs ∷ []
pieces_by Wrong xs behind = stray (slice_index xs 0) ∷ behind 1

-- the pieces behind the first k bytes
unfoldable pub read_from : ℕ → List ℕ → List Piece
read_from k [] = []
read_from (suc k) (x ∷ xs) = read_from k xs
read_from zero (x ∷ xs) = pieces_by (front_of (x ∷ xs)) (x ∷ xs) (λ n. read_from (n - 1) xs)

-- the pieces of a list of bytes
unfoldable pub read_of : List ℕ → List Piece
read_of xs = read_from 0 xs

-- reading in the words of the protocol
pub data Reads : List ℕ → List Piece → Type 0 where
  ends : Reads [] []
  waits : {xs : List ℕ} → 0 < length xs → Starts xs → Reads xs (left xs ∷ [])
  takes : {xs : List ℕ} {ps : List Piece} {n : ℕ} → Begins xs n → Reads (drop n xs) ps → Reads xs (frame (take n xs) ∷ ps)
  drops : {x : ℕ} {xs : List ℕ} {ps : List Piece} → Neither (x ∷ xs) → Reads xs ps → Reads (x ∷ xs) (stray x ∷ ps)

-- the bytes of a piece
abbrev pub piece_bytes : Piece → List ℕ
piece_bytes (frame xs) = xs
piece_bytes (stray x) = x ∷ []
piece_bytes (left xs) = xs

-- each element is a frame
abbrev pub EachFrame : List (List ℕ) → Type 0
EachFrame [] = Unit {0}
EachFrame (f ∷ fs) = Frame f × EachFrame fs

-- frames one behind the other are read as exactly those frames
abbrev pub FramesAreRead : Type 0
FramesAreRead = (fs : List (List ℕ)) → EachFrame fs → read_of (flat_map (λ f. f) fs) ≡ map frame fs

-- what is said of reading xs
pub record ReadingSaid (xs : List ℕ) : Type 0 where
  pub reads : Reads xs (read_of xs)
  pub only : (ps : List Piece) → Reads xs ps → ps ≡ read_of xs
  pub kept : flat_map piece_bytes (read_of xs) ≡ xs

-- ---- as the code hands it out: bytes that are dropped one behind the other come at once

abbrev pub shown : CodePiece → List Piece
shown (code.Frame s) = frame s.now ∷ []
shown (code.Dropped s) = map stray s.now
shown (code.Left s) = left s.now ∷ []

abbrev pub seen_next : CodePiece × Bor (List ℕ) → List Piece × List ℕ
seen_next q = (shown q.0, q.1.now)

-- what is handed out next where no byte is dropped, by what stands at the front
abbrev pub next_by : Front → List ℕ → Option (List Piece × List ℕ)
next_by (Whole n) xs = Some (frame (take n xs) ∷ [], drop n xs)
next_by Waits xs = cond (length xs == 0) None (Some (left xs ∷ [], []))
next_by Wrong xs = None

-- what is handed out next, and what is behind it
abbrev pub next_of : List ℕ → Option (List Piece × List ℕ)
next_of xs =
    cond (nat_lt 0 (dropped xs)) (Some (map stray (take (dropped xs) xs), drop (dropped xs) xs)) (next_by (front_of xs) xs)

-- a call of `next` at s that gives r and leaves t
abbrev pub piece_steps : Pieces → Option CodePiece → Pieces → Type 0
piece_steps s r t = MatchOption r (read_of s.rest.now ≡ []) (λ p. read_of s.rest.now ≡ shown p ++ read_of t.rest.now)
