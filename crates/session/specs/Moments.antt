-- What happened in a session, as it is seen from outside: the calls that were accepted, with the frames that reading takes
-- from the bytes taken, what was written, and the unit's core before and after each.
use Rattle.std.specs.Prelude.{ℕ, cond, List, [], ◌∷◌, ◌++◌, Some, None, Ok, Err, Option, Result}
use Rattle.xbus.specs.Parts.{Parts, parts_of}
use Rattle.stream.specs.Reading.{Piece, frame, stray, left, read_of}
use Rattle.session.specs.declared.answers.Fed.{Fed}
use Rattle.session.specs.declared.answers.Refusal.{Refusal}
use Rattle.session.specs.Model.{Core, Model, World, making}
use Rattle.session.specs.Sessions.{Entry, Power, Feed, Tick, next, output, bytes_taken}

-- the frames that reading takes, and what it leaves

abbrev pub frames_of : List Piece → List (List ℕ)
frames_of [] = []
frames_of (frame f ∷ ps) = f ∷ frames_of ps
frames_of (stray x ∷ ps) = frames_of ps
frames_of (left xs ∷ ps) = frames_of ps

abbrev pub left_of : List Piece → List ℕ
left_of [] = []
left_of (frame f ∷ ps) = left_of ps
left_of (stray x ∷ ps) = left_of ps
left_of (left xs ∷ ps) = xs

unfoldable pub frames_in : List ℕ → List (List ℕ)
frames_in xs = frames_of (read_of xs)

unfoldable pub left_in : List ℕ → List ℕ
left_in xs = left_of (read_of xs)

-- power, a frame that is served, a tick
pub data Happening : Type 0 where
  powers : Happening
  serves : Parts → Happening
  ticks : Happening

pub record Moment : Type 0 where
  pub before : Core
  pub what : Happening
  pub wrote : List ℕ
  pub after : Core

-- of the frames that are still to be served, the first
abbrev pub first_served : List (List ℕ) → Option Happening
first_served [] = None
first_served (f ∷ fs) = Some (serves (parts_of f))

abbrev pub behind_first : List (List ℕ) → List (List ℕ)
behind_first [] = []
behind_first (f ∷ fs) = fs

abbrev pub accepted : {A : Type 0} → Happening → Result A Refusal → Option Happening
accepted h (Ok a) = Some h
accepted h (Err e) = None

abbrev pub fed_frame : List (List ℕ) → Result Fed Refusal → Option Happening
fed_frame fs (Ok f) = cond f.served (first_served fs) None
fed_frame fs (Err e) = None

abbrev pub fed_rest : List (List ℕ) → Result Fed Refusal → List (List ℕ)
fed_rest fs (Ok f) = cond f.served (behind_first fs) fs
fed_rest fs (Err e) = fs

-- what a call was, by its answer, where these frames are still to be served
abbrev pub happening : List (List ℕ) → Entry → Option Happening
happening fs (Power n o a) = accepted powers a
happening fs (Feed bs n o a) = fed_frame fs a
happening fs (Tick n o a) = accepted ticks a

-- the frames that are to be served after it
abbrev pub unserved : List (List ℕ) → Entry → List (List ℕ)
unserved fs (Power n o a) = fs
unserved fs (Feed bs n o a) = fed_rest fs a
unserved fs (Tick n o a) = fs

abbrev pub moment_by : Option Happening → Core → List ℕ → Core → List Moment
moment_by None b o a = []
moment_by (Some h) b o a = record { before = b; what = h; wrote = o; after = a } ∷ []

unfoldable pub moments_from : Model → List (List ℕ) → List Entry → List Moment
moments_from m fs [] = []
moments_from m fs (e ∷ es) =
    moment_by (happening fs e) m.core (output e) (next m e).core ++ moments_from (next m e) (unserved fs e) es

-- the moments of a session of a unit made from w
unfoldable pub moments : World → List Entry → List Moment
moments w es = moments_from (making w) (frames_in (bytes_taken es)) es
