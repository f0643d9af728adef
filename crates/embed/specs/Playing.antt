-- The calls of a script, played on a unit one by one up to the first that is refused.
use Rattle.std.specs.Prelude.{◌≡◌, ℕ, ◌+◌, ◌-◌, cond, List, [], ◌∷◌, Ok, Err, Result, MatchResult, Some, None, Option, nat_lt}
use Rattle.std.specs.Option.{option_map_or}
use Rattle.store.specs.declared.port.Store.{Ghosts}
use Rattle.store.specs.Slots.{held_in, left_in}
use Rattle.mti.specs.declared.product.Product.TheVariants.{Mti3}
use Rattle.sensor.specs.Ramps.{ramp_of}
use Rattle.settings.specs.Image.{image_of}
use Rattle.session.specs.declared.answers.Refusal.{Refusal}
use Rattle.session.specs.Answers.{number_of}
use Rattle.session.specs.Deeds.{written_by}
use Rattle.session.specs.Model.{Core, Model, World, making}
use Rattle.session.specs.Sessions.{Entry, Power, Feed, Tick, next, Fair, Session, output, written}
use Rattle.session.specs.Laws.{Lawful}
use Rattle.unit.specs.declared.device.Device.{Device}
use Rattle.replay.specs.Calls as replay
use Rattle.embed.specs.declared.Played.{Played as Answer}
use Rattle.embed.specs.Scripts.{Call, power, feed, tick, calls_of}

-- a call with a tray of n bytes
abbrev pub asked : Call → ℕ → replay.Asked
asked power n = replay.power n
asked (feed bs) n = replay.feed bs n
asked tick n = replay.tick n

-- how many bytes a call wrote, or why it was refused
abbrev pub answer_in : Entry → Result ℕ Refusal
answer_in (Power n o a) = a
answer_in (Feed bs n o a) = written_by a
answer_in (Tick n o a) = a

-- these are the calls of a script, each with what is left of n bytes as its tray, up to the first that is refused
abbrev pub Plays : ℕ → List Call → List Entry → Type 0
Plays n [] [] = Unit {0}
Plays n [] (e ∷ es) = ⊥
Plays n (c ∷ cs) [] = ⊥
Plays n (c ∷ cs) (e ∷ es) =
    (replay.asked_in e ≡ asked c n) × MatchResult (answer_in e) (λ k. Plays (n - k) cs es) (λ _. es ≡ [])

-- how many calls were accepted

abbrev pub accepted_by : Result ℕ Refusal → ℕ
accepted_by (Ok n) = 1
accepted_by (Err r) = 0

abbrev pub accepted : List Entry → ℕ
accepted [] = 0
accepted (e ∷ es) = accepted_by (answer_in e) + accepted es

-- the first refusal

abbrev pub refusal_by : Result ℕ Refusal → Option Refusal → Option Refusal
refusal_by (Ok n) o = o
refusal_by (Err r) o = Some r

abbrev pub refusal_of : List Entry → Option Refusal
refusal_of [] = None
refusal_of (e ∷ es) = refusal_by (answer_in e) (refusal_of es)

-- what a save of an image makes of the bytes that a store was lent
abbrev pub Saving : Type 0
Saving = List ℕ → List ℕ → List ℕ

-- the bytes that a store was lent
abbrev pub memory_of : {S T : Type 0} → Ghosts S → Device S T → List ℕ
memory_of g d = g.memory d.core.store

-- those bytes behind a call: a write that was spent stored the settings' image

abbrev pub memory_by : Saving → Core → Core → List ℕ → List ℕ
memory_by f c d bs = cond (nat_lt d.store.left c.store.left) (f (image_of d.settings) bs) bs

abbrev pub memory_next : Saving → Model → Entry → List ℕ → List ℕ
memory_next f m (Power n o a) bs = bs
memory_next f m (Feed xs n o a) bs = memory_by f m.core (next m (Feed xs n o a)).core bs
memory_next f m (Tick n o a) bs = bs

-- and behind calls on a unit that is m at first
abbrev pub memory_behind : Saving → Model → List Entry → List ℕ → List ℕ
memory_behind f m [] bs = bs
memory_behind f m (e ∷ es) bs = memory_behind f (next m e) es (memory_next f m e bs)

-- a call that asks q leads from m to k, writes o, answers a, and makes `is` of the bytes that the store was lent
pub record Called (f : Saving) (m k : Model) (q : replay.Asked) (o : List ℕ) (a : Result ℕ Refusal) (was is : List ℕ) : Type 0 where
  pub entry : Entry
  pub fair : Fair m entry
  pub leads : next m entry ≡ k
  pub asks : replay.asked_in entry ≡ q
  pub writes : o ≡ output entry
  pub answers : a ≡ answer_in entry
  pub memory : is ≡ memory_next f m entry was

-- calls with n bytes of room lead from m to k, and their joined output is o; i were accepted, up to the refusal r, if any
pub record CallsPlayed (f : Saving) (m k : Model) (calls : List Call) (n : ℕ) (o : List ℕ) (i : ℕ) (r : Option Refusal) (was is : List ℕ) : Type 0 where
  pub entries : List Entry
  pub session : Session m entries k
  pub plays : Plays n calls entries
  pub output : o ≡ written entries
  pub accepts : i ≡ accepted entries
  pub refusal : r ≡ refusal_of entries
  pub memory : is ≡ memory_behind f m entries was

-- an MTi-3 over the ramp and a page of these bytes
abbrev pub world : ℕ → List ℕ → World
world id page = record {
  product = Mti3;
  device_id = id;
  store = record { held = held_in page; left = left_in page };
  meaning = ramp_of;
}

-- a unit made from w played a script with n bytes of room; the joined output is o, and this is answered
pub record ScriptPlayed (w : World) (script : List ℕ) (n : ℕ) (o : List ℕ) (r : Answer) : Type 0 where
  pub entries : List Entry
  pub after : Model
  pub session : Session (making w) entries after
  pub lawful : Lawful w entries after
  pub plays : Plays n (calls_of script) entries
  pub output : o ≡ written entries
  pub accepts : r.calls ≡ accepted entries
  pub refusal : r.refusal ≡ option_map_or number_of (refusal_of entries) 0
  pub left : r.left ≡ after.core.store.left
