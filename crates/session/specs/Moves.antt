-- What a moment moves of state, settings, counts and store, in words; and what is so at the end of every session.
use Rattle.std.specs.Prelude.{◌≡◌, ℕ, ◌+◌, ◌%◌, ◌^◌, ◌<◌, ◌≤◌, Bool, true, false, ◌&&◌, ◌||◌, List, [], length, is_some, Some, None, Ok, ◌≢◌, ◌==◌, bit_and, nat_eq, nat_le}
use Rattle.xbus.specs.declared.front.Front.TheVariants.{Wrong}
use Rattle.xbus.specs.Parts.{Parts}
use Rattle.xbus.specs.Front.{front_of}
use Rattle.decision.specs.declared.states.State.TheVariants.{WakeUp, Config, Measurement}
use Rattle.decision.specs.Asked.{Changing, Set}
use Rattle.decision.specs.Decided.{decided}
use Rattle.settings.specs.Values.{Values}
use Rattle.settings.specs.Valid.{valid}
use Rattle.settings.specs.Image.{image_of}
use Rattle.settings.specs.Factory.{factory_of}
use Rattle.config.specs.Changed.{changed_of}
use Rattle.session.specs.declared.counts.Counts.{Counts}
use Rattle.session.specs.Model.{Core, Kept, Model, World}
use Rattle.session.specs.Moments.{serves, ticks, Moment}
use Rattle.session.specs.Counting.{acknowledged, in_wake_up, wakes, changes, of_served, of_tick, is_power, is_served, is_reset, is_wake_up, is_passage}

-- ticks in WakeUp, messages sent, tick number, phase, seconds
abbrev pub five : ℕ → ℕ → ℕ → ℕ → ℕ → Counts
five w s n p t = record { wake_ticks = w; sent = s; number = n; phase = p; seconds = t }

-- an accepted WakeUpAck
abbrev pub is_wake_up_ack : Moment → Bool
is_wake_up_ack m = of_served m.what (λ p. (p.address == 0x01 || p.address == 0xFF) && wakes m.before p)

-- an acknowledged GoToConfig
abbrev pub is_go_to_config : Moment → Bool
is_go_to_config m = of_served m.what (λ p. nat_eq p.identifier 0x30) && acknowledged m

-- the thousandth tick in WakeUp, with flag 02 set
abbrev pub is_timeout_to_config : Moment → Bool
is_timeout_to_config m =
    of_tick m.what (in_wake_up m.before.state && (nat_le 999 m.before.counts.wake_ticks && bit_and m.before.settings.flags 0x02 == 0x02))

-- the three ways to Config
abbrev pub is_to_config : Moment → Bool
is_to_config m = is_wake_up_ack m || (is_go_to_config m || is_timeout_to_config m)

-- an acknowledged change
abbrev pub is_change : Moment → Bool
is_change m = of_served m.what changes && acknowledged m

-- t is what is in force after the change that p asks for
pub record AfterChange (c : Core) (p : Parts) (t : Values) : Type 0 where
  pub changing : Changing
  -- the unit is in Config
  pub state : c.state ≡ Some Config
  -- where the message asks for this change
  pub asks : decided Config c.settings.product p.identifier p.content ≡ Ok (Set changing)
  -- which makes t of the settings before
  pub gives : changed_of c.settings changing ≡ Some t

-- flag 01 is clear: a change is stored
abbrev pub is_storing : Values → Bool
is_storing s = bit_and s.flags 0x01 == 0

-- a save of the settings t
pub record Saved (k n : Kept) (t : Values) : Type 0 where
  pub held : n.held ≡ Some (image_of t)
  pub left : k.left ≡ n.left + 1

-- a tick in Measurement, which wrote these bytes, takes the counts from n to k
pub record AfterTick (n k : Counts) (wrote : List ℕ) : Type 0 where
  -- the ticks in WakeUp stay
  pub wake_ticks : k.wake_ticks ≡ n.wake_ticks
  -- the tick number and the phase grow by one
  pub number : k.number ≡ (n.number + 1) % 2 ^ 32
  pub phase : k.phase ≡ (n.phase + 1) % 2000
  -- the seconds grow by one where the phase comes to 0, and there alone
  pub next_second : k.phase ≡ 0 → k.seconds ≡ (n.seconds + 1) % 2 ^ 32
  pub same_second : 0 < k.phase → k.seconds ≡ n.seconds
  -- the messages sent grow by one where something is written, and there alone
  pub sent : 0 < length wrote → k.sent ≡ (n.sent + 1) % 65536
  pub silent : wrote ≡ [] → k.sent ≡ n.sent

pub record Moved (m : Moment) : Type 0 where
  -- power comes to a dark unit
  pub dark : is_power m.what ≡ true → m.before.state ≡ None
  -- a frame or a tick comes to one with power on
  pub powered : is_power m.what ≡ false → is_some m.before.state ≡ true
  -- power and an acknowledged Reset lead to WakeUp
  pub to_wake_up : is_wake_up m ≡ true → m.after.state ≡ Some WakeUp
  -- an accepted WakeUpAck, an acknowledged GoToConfig, and the thousandth tick with flag 02 set lead to Config
  pub to_config : is_to_config m ≡ true → m.after.state ≡ Some Config
  -- a passage leads to Measurement
  pub to_measurement : is_passage m ≡ true → m.after.state ≡ Some Measurement
  -- nothing else moves the state
  pub stays : (is_wake_up m || (is_to_config m || is_passage m)) ≡ false → m.after.state ≡ m.before.state
  -- an acknowledged change makes the settings what the message asks for
  pub changed : is_change m ≡ true → (p : Parts) → m.what ≡ serves p → AfterChange m.before p m.after.settings
  -- only power, Reset and a change move the settings
  pub kept : (is_wake_up m || is_change m) ≡ false → m.after.settings ≡ m.before.settings
  -- power and an acknowledged Reset take all counts to 0
  pub zeros : is_wake_up m ≡ true → m.after.counts ≡ five 0 0 0 0 0
  -- in Measurement tick number, phase and seconds start at 0, and the messages sent go on
  pub starts : is_passage m ≡ true
      → m.after.counts ≡ five m.after.counts.wake_ticks m.before.counts.sent 0 0 0
  -- a frame that is no Reset leaves the ticks in WakeUp
  pub served : is_served m ≡ true → is_reset m ≡ false → m.after.counts.wake_ticks ≡ m.before.counts.wake_ticks
  -- and all five, unless it leads to Measurement
  pub answered : is_served m ≡ true → (is_reset m || is_passage m) ≡ false → m.after.counts ≡ m.before.counts
  -- each tick in WakeUp is counted, also the thousandth, and nothing else is
  pub waking : m.what ≡ ticks → m.before.state ≡ Some WakeUp → m.after.counts ≡ five (m.before.counts.wake_ticks + 1) 0 0 0 0
  -- a tick in Config leaves the counts
  pub idle : m.what ≡ ticks → m.before.state ≡ Some Config → m.after.counts ≡ m.before.counts
  -- a tick in Measurement is counted, and so is what it writes
  pub sampled : m.what ≡ ticks → m.before.state ≡ Some Measurement → AfterTick m.before.counts m.after.counts m.wrote
  -- a change with flag 01 clear after it is saved
  pub saved : is_change m ≡ true → is_storing m.after.settings ≡ true → Saved m.before.store m.after.store m.after.settings
  -- nothing else moves the store
  pub unsaved : (is_change m && is_storing m.after.settings) ≡ false → m.after.store ≡ m.before.store

-- in WakeUp fewer than 1,000 ticks are counted, and nothing else
pub record Early (n : Counts) : Type 0 where
  pub ticks : n.wake_ticks < 1000
  pub only : n ≡ five n.wake_ticks 0 0 0 0

-- counts that have not run over
pub record InRange (n : Counts) : Type 0 where
  pub wake_ticks : n.wake_ticks ≤ 1000
  pub sent : n.sent < 65536
  pub number : n.number < 2 ^ 32
  pub phase : n.phase < 2000
  pub seconds : n.seconds < 2 ^ 32

-- what a unit is without power: as it was made
pub record Unpowered (w : World) (k : Model) : Type 0 where
  pub settings : k.core.settings ≡ factory_of w.product
  pub counts : k.core.counts ≡ five 0 0 0 0 0
  pub store : k.core.store ≡ w.store
  pub waiting : k.waiting ≡ []

-- what is so of every unit k that was made from w
pub record Ended (w : World) (k : Model) : Type 0 where
  -- the device ID is that of the making
  pub device_id : k.device_id ≡ w.device_id
  -- the sensor means what it did
  pub meaning : k.meaning ≡ w.meaning
  -- the settings in force are valid for their product
  pub fit : valid k.core.settings ≡ true
  -- which is that of the making
  pub product : k.core.settings.product ≡ w.product
  -- at most 2,055 bytes wait
  pub few : length k.waiting ≤ 2055
  -- a whole frame stands at their front, or they wait for more
  pub settled : front_of k.waiting ≢ Wrong
  -- no count has run over
  pub in_range : InRange k.core.counts
  -- in WakeUp only its ticks are counted
  pub early : k.core.state ≡ Some WakeUp → Early k.core.counts
  -- without power the unit is as it was made
  pub dark : k.core.state ≡ None → Unpowered w k
