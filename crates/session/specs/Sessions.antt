-- Sessions: any calls on a unit from its making on, refused ones included.
use Rattle.std.specs.Prelude.{◌≡◌, ℕ, ◌+◌, cond, List, [], ◌∷◌, ◌++◌, map, take, Ok, Err, Result}
use Rattle.session.specs.declared.answers.Fed.{Fed}
use Rattle.session.specs.declared.answers.Refusal.{Refusal}
use Rattle.session.specs.Model.{Model}
use Rattle.session.specs.Calls.{power_call, feed_call, tick_call}

-- a call with the length of its tray, then the bytes that it wrote, and its answer
pub data Entry : Type 0 where
  Power : ℕ → List ℕ → Result ℕ Refusal → Entry
  Feed : List ℕ → ℕ → List ℕ → Result Fed Refusal → Entry
  Tick : ℕ → List ℕ → Result ℕ Refusal → Entry

-- the unit behind a call
unfoldable pub next : Model → Entry → Model
next m (Power n o a) = (power_call m n).0
next m (Feed bs n o a) = (feed_call m bs n).0
next m (Tick n o a) = (tick_call m n).0

-- the call wrote and answered what it does at that unit
abbrev pub Fair : Model → Entry → Type 0
Fair m (Power n o a) = (o ≡ (power_call m n).1) × (a ≡ (power_call m n).2)
Fair m (Feed bs n o a) = (o ≡ (feed_call m bs n).1) × (a ≡ (feed_call m bs n).2)
Fair m (Tick n o a) = (o ≡ (tick_call m n).1) × (a ≡ (tick_call m n).2)

-- from the unit m the calls lead to k
unfoldable pub Session : Model → List Entry → Model → Type 0
Session m [] k = m ≡ k
Session m (e ∷ es) k = Fair m e × Session (next m e) es k

-- the joined output

abbrev pub output : Entry → List ℕ
output (Power n o a) = o
output (Feed bs n o a) = o
output (Tick n o a) = o

unfoldable pub written : List Entry → List ℕ
written [] = []
written (e ∷ es) = output e ++ written es

-- the joined bytes taken

abbrev pub taken_by : List ℕ → Result Fed Refusal → List ℕ
taken_by bs (Ok f) = take f.taken bs
taken_by bs (Err e) = []

abbrev pub taken_in : Entry → List ℕ
taken_in (Power n o a) = []
taken_in (Feed bs n o a) = taken_by bs a
taken_in (Tick n o a) = []

unfoldable pub bytes_taken : List Entry → List ℕ
bytes_taken [] = []
bytes_taken (e ∷ es) = taken_in e ++ bytes_taken es

-- the feeds that say that they served a frame

abbrev pub served_by : Result Fed Refusal → ℕ
served_by (Ok f) = cond f.served 1 0
served_by (Err e) = 0

abbrev pub served_in : Entry → ℕ
served_in (Power n o a) = 0
served_in (Feed bs n o a) = served_by a
served_in (Tick n o a) = 0

unfoldable pub frames_served : List Entry → ℕ
frames_served [] = 0
frames_served (e ∷ es) = served_in e + frames_served es

-- the tape: the accepted power, the bytes taken and the accepted ticks, in order

pub data Event : Type 0 where
  Powered : Event
  Byte : ℕ → Event
  Ticked : Event

abbrev pub if_accepted : {A : Type 0} → Event → Result A Refusal → List Event
if_accepted v (Ok a) = v ∷ []
if_accepted v (Err e) = []

abbrev pub events : Entry → List Event
events (Power n o a) = if_accepted Powered a
events (Feed bs n o a) = map Byte (taken_by bs a)
events (Tick n o a) = if_accepted Ticked a

unfoldable pub tape : List Entry → List Event
tape [] = []
tape (e ∷ es) = events e ++ tape es
