-- What holds of every session.
use Rattle.std.specs.Prelude.{◌≡◌, ℕ, ◌+◌, ◌%◌, ◌^◌, ◌<◌, Bool, true, false, ◌||◌, ◌⊎◌, List, [], ◌∷◌, ◌++◌, map, length, drop, Ok}
use Rattle.std.specs.List.{flat_map, AllByRecursion}
use Rattle.mti.specs.declared.channel.Channel.{Channel}
use Rattle.mti.specs.Table.{Row}
use Rattle.xbus.specs.Parts.{Parts}
use Rattle.xbus.specs.Frames.{encoded}
use Rattle.sensor.specs.Questions.{count_of}
use Rattle.stream.specs.Reading.{frame, read_of}
use Rattle.session.specs.declared.answers.Fed.{Fed}
use Rattle.session.specs.Model.{Core, Model, World, Meaning, making, end_of}
use Rattle.session.specs.Sending.{wake_up}
use Rattle.session.specs.Waking.{woken}
use Rattle.session.specs.Serving.{served}
use Rattle.session.specs.Ticking.{tick}
use Rattle.session.specs.Filling.{is_whole}
use Rattle.session.specs.Sessions.{Entry, Feed, Fair, next, Session, written, bytes_taken, tape, frames_served}
use Rattle.session.specs.Moments.{Happening, powers, serves, ticks, Moment, frames_in, left_in, moments}
use Rattle.session.specs.Counting.{acknowledged, is_power, is_served, is_request, is_reset, is_wake_up, is_passage, is_sample, is_stored, count, last_image}
use Rattle.session.specs.Moves.{Moved, Ended}

-- two sensors mean the same: at the channels of the table, the indices of their data and ticks below 2^32
abbrev pub SameMeaning : Meaning → Meaning → Type 0
SameMeaning f g =
    (ch : Channel) (k t : ℕ) → Row ch → k < count_of ch.kind → t < 2 ^ 32 → f ch.identifier k t ≡ g ch.identifier k t

-- worlds that a unit cannot tell apart
pub record Alike (v w : World) : Type 0 where
  pub product : v.product ≡ w.product
  pub device_id : v.device_id ≡ w.device_id
  pub store : v.store ≡ w.store
  pub meaning : SameMeaning v.meaning w.meaning

-- each moment begins where the one before ended: nothing else alters state, settings, counts or store
abbrev pub Linked : Core → List Moment → Core → Type 0
Linked c [] d = c ≡ d
Linked c (m ∷ ms) d = (m.before ≡ c) × Linked m.after ms d

-- what power, a frame or a tick does at a core, and writes
abbrev pub does : World → Happening → Core → Core × List ℕ
does w powers c = (woken c, wake_up)
does w (serves p) c = served w.device_id p c
does w ticks c = tick w.device_id w.meaning c

abbrev pub Done : World → Moment → Type 0
Done w m = (m.after, m.wrote) ≡ does w m.what m.before

-- a reply to p: its address, and its identifier and 1 or Error
pub record ReplyTo (p : Parts) (xs : List ℕ) : Type 0 where
  pub identifier : ℕ
  pub content : List ℕ
  pub is : xs ≡ encoded p.address identifier content
  pub names : (identifier ≡ (p.identifier + 1) % 256) ⊎ (identifier ≡ 0x42)

-- nothing, WakeUp, or Configuration
abbrev pub Unasked : List ℕ → Type 0
Unasked xs = (xs ≡ []) ⊎ ((xs ≡ wake_up) ⊎ ((d : List ℕ) × (xs ≡ encoded 0xFF 0x0D d)))

-- what is written to a frame: a request gets exactly one reply, and only an acknowledged Reset or message 10 has more
-- behind it; every other frame gets nothing
pub record Replied (p : Parts) (m : Moment) : Type 0 where
  pub request : is_request m ≡ true
      → (r : List ℕ) × (u : List ℕ) × (m.wrote ≡ r ++ u) × ReplyTo p r × Unasked u × ((is_wake_up m || is_passage m) ≡ false → u ≡ [])
  pub other : is_request m ≡ false → m.wrote ≡ []
  -- an Error leaves state, settings, counts and store
  pub error : is_request m ≡ true → acknowledged m ≡ false → m.after ≡ m.before

-- the settings are loaded, or a change of them is stored
abbrev pub keeps : Moment → Bool
keeps m = is_power m.what || is_stored m

-- what is said of every session es of a unit made from w that leads to k
pub record Lawful (w : World) (es : List Entry) (k : Model) : Type 0 where
  -- alike sessions agree, whatever their cuts, trays and refused calls
  pub alike : (v : World) (ds : List Entry) (j : Model) → Alike v w → Session (making v) ds j → tape ds ≡ tape es
      → is_whole j.waiting ≡ false → is_whole k.waiting ≡ false → (written ds ≡ written es) × (end_of j ≡ end_of k)
  -- of the frames that reading takes from the bytes taken, the first are served, each in a moment of its own, and the
  -- others wait; nothing else of the bytes is kept
  pub in_order : drop (frames_served es) (frames_in (bytes_taken es)) ≡ frames_in k.waiting
  pub none_lost : length (frames_in (bytes_taken es)) ≡ frames_served es + length (frames_in k.waiting)
  pub each_served : count is_served (moments w es) ≡ frames_served es
  pub left : left_in (bytes_taken es) ≡ left_in k.waiting
  -- so all are served when none waits
  pub all_served : is_whole k.waiting ≡ false → (frames_served es ≡ length (frames_in (bytes_taken es))) × (left_in (bytes_taken es) ≡ k.waiting)
  -- and none waits right after a feed that served none
  pub served_at_once : (ds : List Entry) (bs : List ℕ) (n : ℕ) (o : List ℕ) (f : Fed) → es ≡ ds ++ (Feed bs n o (Ok f) ∷ [])
      → f.served ≡ false → is_whole k.waiting ≡ false
  -- the moments are all that happened: they lead from the making to k, and what they wrote is the output
  pub linked : Linked (making w).core (moments w es) k.core
  pub outputs : flat_map (λ m. m.wrote) (moments w es) ≡ written es
  -- in each, power, the frame or the tick did what is defined, and frames got their replies
  pub done : AllByRecursion (Done w) (moments w es)
  pub replied : AllByRecursion (λ m. (p : Parts) → m.what ≡ serves p → Replied p m) (moments w es)
  -- and nothing else moved than what may
  pub moved : AllByRecursion Moved (moments w es)
  -- Reset restores what was stored: right after an acknowledged Reset the settings are those right after the last
  -- stored change, or those that power loaded; and one of these is always there
  pub restores : (a b c : List Moment) (x r : Moment) → moments w es ≡ a ++ (x ∷ (b ++ (r ∷ c))) → keeps x ≡ true
      → AllByRecursion (λ y. keeps y ≡ false) b → is_reset r ≡ true → r.after.settings ≡ x.after.settings
  pub restorable : (a c : List Moment) (r : Moment) → moments w es ≡ a ++ (r ∷ c) → is_reset r ≡ true
      → (d : List Moment) × (x : Moment) × (b : List Moment) × (a ≡ d ++ (x ∷ b)) × (keeps x ≡ true) × AllByRecursion (λ y. keeps y ≡ false) b
  -- every byte is in a counted frame: reading takes frames from the output, drops nothing and leaves nothing
  pub all_frames : read_of (written es) ≡ map frame (frames_in (written es))
  pub counted : length (frames_in (written es))
      ≡ count is_request (moments w es) + count is_wake_up (moments w es) + count is_passage (moments w es)
      + count (is_sample w.meaning) (moments w es)
  -- storing costs exactly one write, and nothing else alters the store
  pub cost : w.store.left ≡ k.core.store.left + count is_stored (moments w es)
  pub held : k.core.store.held ≡ last_image w.store.held (moments w es)
  -- what is so at the end: valid settings, settled bytes, counts in range; without power the unit is as it was made
  pub ended : Ended w k

-- each session that leads to m, with the call e behind it, is a session that leads to k, and lawful
abbrev pub Extends : Model → Entry → Model → Type 0
Extends m e k =
    (w : World) (es : List Entry) → Session (making w) es m → Session (making w) (es ++ (e ∷ [])) k × Lawful w (es ++ (e ∷ [])) k

-- the empty session is one, and lawful
abbrev pub Begins : Type 0
Begins = (w : World) → Session (making w) [] (making w) × Lawful w [] (making w)

-- every call extends every session, with what it writes and answers
abbrev pub Extended : Type 0
Extended = (m : Model) (e : Entry) → Fair m e → Extends m e (next m e)
