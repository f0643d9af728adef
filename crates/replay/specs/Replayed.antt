-- Calls played on a unit that was made for them.
use Rattle.std.specs.Prelude.{◌≡◌, ℕ, List, [], ◌∷◌, ◌++◌, map}
use Rattle.store.specs.declared.port.Store as store
use Rattle.sensor.specs.declared.sensors.Sensor as sensor
use Rattle.session.specs.Model.{Model, World, Kept, Meaning, making}
use Rattle.session.specs.Sessions.{Entry, Session, output, written}
use Rattle.session.specs.Laws.{Lawful, Extends}
use Rattle.unit.specs.Of.{kept_of}
use Rattle.replay.specs.declared.calls.Call.{Call}
use Rattle.replay.specs.declared.calls.Answer.{Answer}
use Rattle.replay.specs.declared.calls.Replay.{Replay}
use Rattle.replay.specs.Calls.{Asked, asked, asked_in, answer_in}

-- one call that asks q leads from m to k, answers a and writes o
pub record Step (m k : Model) (q : Asked) (a : Answer) (o : List ℕ) : Type 0 where
  pub entry : Entry
  pub asks : asked_in entry ≡ q
  pub answers : a ≡ answer_in entry
  pub writes : o ≡ output entry
  pub extends : Extends m entry k

-- the same, where answer and output are added
pub record Added (m k : Model) (q : Asked) (before after : List Answer) (was is : List ℕ) : Type 0 where
  pub answer : Answer
  pub wrote : List ℕ
  pub step : Step m k q answer wrote
  pub answers : after ≡ before ++ (answer ∷ [])
  pub output : is ≡ was ++ wrote

-- a unit made from w plays exactly these calls, with these answers and this joined output, and becomes k
pub record Played (w : World) (calls : List Call) (answers : List Answer) (out : List ℕ) (k : Model) : Type 0 where
  pub entries : List Entry
  pub session : Session (making w) entries k
  pub lawful : Lawful w entries k
  pub asks : map asked_in entries ≡ map asked calls
  pub answered : answers ≡ map answer_in entries
  pub output : out ≡ written entries

-- what is left of a unit that played calls: answers, joined output, and what store and sensor mean
pub record Outcome : Type 0 where
  pub answers : List Answer
  pub output : List ℕ
  pub store : Kept
  pub meaning : Meaning

abbrev pub outcome_of : {S T : Type 0} → store.Ghosts S → sensor.Ghosts T → Replay S T → Outcome
outcome_of g h r = record { answers = r.answers.items; output = r.output.items; store = kept_of g r.store; meaning = h.meaning r.sensor }

-- a unit made from w played exactly these calls, and this is left of it
pub record Replayed (w : World) (calls : List Call) (r : Outcome) : Type 0 where
  pub after : Model
  pub played : Played w calls r.answers r.output after
  pub store : r.store ≡ after.core.store
  pub meaning : r.meaning ≡ after.meaning
