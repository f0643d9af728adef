-- Bytes fed again and again until a feed serves no frame.
use Rattle.std.specs.Prelude.{◌≡◌, ℕ, ◌+◌, false, List, [], ◌∷◌, ◌++◌, length, drop, Ok, Err, Result, IsOk}
use Rattle.std.specs.List.{flat_map}
use Rattle.session.specs.declared.answers.Fed.{Fed}
use Rattle.session.specs.declared.answers.Refusal.{Refusal}
use Rattle.session.specs.Model.{Model, World, making}
use Rattle.session.specs.Filling.{is_whole}
use Rattle.session.specs.Calls.{Called, feed_call}
use Rattle.session.specs.Sessions.{Entry, Power, Feed, Tick, Session, written, taken_in, bytes_taken, frames_served}
use Rattle.session.specs.Laws.{Lawful}
use Rattle.replay.specs.declared.feeding.FeedError.{FeedError}
use Rattle.replay.specs.declared.feeding.FeedError.TheVariants.{Refused, Memory}

-- each session that leads to m leads, with the calls ds behind it, to k, and is lawful
abbrev pub Continues : Model → List Entry → Model → Type 0
Continues m ds k =
    (w : World) (es : List Entry) → Session (making w) es m → Session (making w) (es ++ ds) k × Lawful w (es ++ ds) k

-- some calls lead from m to k, and every session stays lawful
abbrev pub Lawfully : Model → Model → Type 0
Lawfully m k = (ds : List Entry) × Continues m ds k

-- a feed of the bytes bs that was accepted with a tray of n bytes
abbrev pub Feeds : ℕ → List ℕ → Entry → Type 0
Feeds n bs (Power k o a) = ⊥
Feeds n bs (Feed xs k o a) = (xs ≡ bs) × (k ≡ n) × IsOk a
Feeds n bs (Tick k o a) = ⊥

-- feeds of bs one behind the other: each of the bytes that those before it have not taken
abbrev pub FeedsOn : ℕ → List ℕ → List Entry → Type 0
FeedsOn n bs [] = Unit {0}
FeedsOn n bs (e ∷ es) = Feeds n bs e × FeedsOn n (drop (length (taken_in e)) bs) es

-- the answers of accepted feeds

abbrev pub fed_by : Result Fed Refusal → List Fed
fed_by (Ok f) = f ∷ []
fed_by (Err e) = []

abbrev pub fed_in : Entry → List Fed
fed_in (Power n o a) = []
fed_in (Feed bs n o a) = fed_by a
fed_in (Tick n o a) = []

abbrev pub fed_answers : List Entry → List Fed
fed_answers es = flat_map fed_in es

-- one feed of bs with a tray of n bytes, accepted by f, that leads from m to k; the answer and what was written are added
pub record FedOnce (m k : Model) (bs : List ℕ) (n : ℕ) (before after : List Fed) (was is : List ℕ) (f : Fed) : Type 0 where
  pub wrote : List ℕ
  pub call : ◌≡◌ {A = Called Fed} (k, wrote, Ok f) (feed_call m bs n)
  pub continues : Continues m (Feed bs n wrote (Ok f) ∷ []) k
  pub answers : after ≡ before ++ (f ∷ [])
  pub output : is ≡ was ++ wrote

-- feeds of bs with trays of n bytes that lead from m to k, until no frame is served; answers and output are added
pub record FedAll (m k : Model) (bs : List ℕ) (n : ℕ) (before after : List Fed) (was is : List ℕ) : Type 0 where
  pub entries : List Entry
  pub continues : Continues m entries k
  pub feeds : FeedsOn n bs entries
  -- all feeds but one served a frame
  pub until : length entries ≡ frames_served entries + 1
  pub taken : bytes_taken entries ≡ bs
  pub none_waits : is_whole k.waiting ≡ false
  pub answers : after ≡ before ++ fed_answers entries
  pub output : is ≡ was ++ written entries

-- P of the refusal, if that is why it ended
abbrev pub IfRefused : FeedError → (Refusal → Type 0) → Type 0
IfRefused (Refused r) P = P r
IfRefused Memory P = Unit {0}
