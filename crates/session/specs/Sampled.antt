-- What a tick in Measurement sends and counts, in words.
use Rattle.std.specs.Prelude.{◌≡◌, ℕ, suc, ◌+◌, ◌*◌, ◌/◌, ◌%◌, ◌^◌, ◌<◌, true, false, List, [], ◌∷◌, length, ℤ, Some, None, Decides, Option, slice_index_or}
use Rattle.std.specs.List.{flat_map}
use Rattle.xbus.specs.Numbers.{be}
use Rattle.mti.specs.declared.channel.Kind.TheVariants.{Real, Whole}
use Rattle.mti.specs.declared.output.Output.{Output}
use Rattle.mti.specs.Exactly.{Exactly}
use Rattle.mti.specs.Identifiers.{Known}
use Rattle.numbers.specs.Encoding.{encoded, twos}
use Rattle.mtdata2.specs.Packets.{Item, item_of}
use Rattle.sensor.specs.Questions.{made_by_unit, count_of}
use Rattle.settings.specs.declared.record.Entry.{Entry}
use Rattle.session.specs.declared.counts.Counts.{Counts}
use Rattle.session.specs.Model.{Meaning}
use Rattle.session.specs.Sampling.{due, data_of, packets}
use Rattle.session.specs.Ticking.{ticked}

-- the ticks from one sample of an entry to the next
abbrev pub interval : Entry → ℕ
interval e = 2000 / e.frequency

-- the phase is a multiple of the interval
abbrev pub Due : ℕ → Entry → Type 0
Due phase e = (k : ℕ) × (phase ≡ k * interval e)

-- n readings are there, and are these
pub record Present (readings : ℕ → Option ℤ) (n : ℕ) (vs : List ℤ) : Type 0 where
  pub many : length vs ≡ n
  pub each : (k : ℕ) (d : ℤ) → k < n → readings k ≡ Some (slice_index_or vs k d)

-- xs are the data of an output
pub data Data (f : Meaning) (n : Counts) (o : Output) (xs : List ℕ) : Type 0 where
  -- the messages sent before; the time in units of 0.1 ms; the seconds
  counter : o.channel.identifier ≡ 0x1020 → xs ≡ be 2 n.sent → Data f n o xs
  fine_time : o.channel.identifier ≡ 0x1060 → xs ≡ be 4 (5 * n.number % 2 ^ 32) → Data f n o xs
  coarse_time : o.channel.identifier ≡ 0x1070 → xs ≡ be 4 n.seconds → Data f n o xs
  -- the low byte of the status word
  status_byte : (v : ℤ) → o.channel.identifier ≡ 0xE010 → f 0xE020 0 n.number ≡ Some v → xs ≡ be 1 (twos 1 v) → Data f n o xs
  -- the real numbers at all indices, each in the output's precision, or the whole number
  reals : (k : ℕ) (vs : List ℤ) → made_by_unit o.channel.identifier ≡ false → o.channel.kind ≡ Real k
      → Present (λ j. f o.channel.identifier j n.number) k vs → xs ≡ flat_map (encoded o.precision) vs → Data f n o xs
  whole : (w : ℕ) (v : ℤ) → made_by_unit o.channel.identifier ≡ false → o.channel.kind ≡ Whole w
      → f o.channel.identifier 0 n.number ≡ Some v → xs ≡ be w (twos w v) → Data f n o xs

-- a reading that the data need is absent
pub data Absent (f : Meaning) (n : Counts) (o : Output) : Type 0 where
  no_status : o.channel.identifier ≡ 0xE010 → f 0xE020 0 n.number ≡ None → Absent f n o
  no_number : (k : ℕ) → made_by_unit o.channel.identifier ≡ false → k < count_of o.channel.kind
      → f o.channel.identifier k n.number ≡ None → Absent f n o

-- the entries give these packets, in list order: one that is not due, names nothing or has an absent reading gives none
pub data Gives (f : Meaning) (n : Counts) : List Entry → List Item → Type 0 where
  ends : Gives f n [] []
  rests : {e : Entry} {es : List Entry} {is : List Item} → (Due n.phase e → ⊥) → Gives f n es is → Gives f n (e ∷ es) is
  unknown : {e : Entry} {es : List Entry} {is : List Item} → ((o : Output) → Known e.identifier o → ⊥) → Gives f n es is
      → Gives f n (e ∷ es) is
  omits : {e : Entry} {es : List Entry} {is : List Item} (o : Output) → Known e.identifier o → Absent f n o → Gives f n es is
      → Gives f n (e ∷ es) is
  sends : {e : Entry} {es : List Entry} {is : List Item} (o : Output) (xs : List ℕ) → Due n.phase e → Known e.identifier o
      → Data f n o xs → Gives f n es is → Gives f n (e ∷ es) (item_of e.identifier xs ∷ is)

-- ticks one after the other, each with its packets
abbrev pub ticked_by : List (List Item) → Counts → Counts
ticked_by [] n = n
ticked_by (is ∷ iss) n = ticked_by iss (ticked is n)

-- a tick without packets sends no message
abbrev pub messages : List (List Item) → ℕ
messages [] = 0
messages ([] ∷ iss) = messages iss
messages ((i ∷ is) ∷ iss) = suc (messages iss)

-- m counts so many ticks and messages more than n
pub record Advanced (n : Counts) (ticks said : ℕ) (m : Counts) : Type 0 where
  pub sent : m.sent ≡ (n.sent + said) % 65536
  pub number : m.number ≡ (n.number + ticks) % 2 ^ 32
  pub phase : m.phase ≡ (n.phase + ticks) % 2000
  pub seconds : m.seconds ≡ (n.seconds + (n.phase + ticks) / 2000) % 2 ^ 32

-- counts that have not run over
pub record Within (n : Counts) : Type 0 where
  pub sent : n.sent < 65536
  pub number : n.number < 2 ^ 32
  pub phase : n.phase < 2000
  pub seconds : n.seconds < 2 ^ 32

pub record SampledSaid : Type 0 where
  -- an entry is due once in each interval; in a second as often as its frequency says, so at 2000 Hz at each tick and at
  -- 1 Hz at the first alone
  pub due_at : (phase : ℕ) (e : Entry) → Decides (due phase e) (Due phase e)
  pub in_second : (phase : ℕ) (e : Entry) → 2000 % e.frequency ≡ 0 → phase < 2000
      → Decides (due phase e) ((k : ℕ) × (k < e.frequency) × (phase ≡ k * interval e))
  pub fastest : (phase : ℕ) (e : Entry) → e.frequency ≡ 2000 → due phase e ≡ true
  pub slowest : (phase : ℕ) (e : Entry) → e.frequency ≡ 1 → phase < 2000 → Decides (due phase e) (phase ≡ 0)
  -- an output has its data, or a reading is absent
  pub data_are : (f : Meaning) (n : Counts) (o : Output) → Exactly (Data f n o) (data_of f n o)
  pub no_data : (f : Meaning) (n : Counts) (o : Output) → data_of f n o ≡ None → Absent f n o
  pub absent : (f : Meaning) (n : Counts) (o : Output) → Absent f n o → data_of f n o ≡ None
  -- a tick gives these packets and no others
  pub gives : (f : Meaning) (n : Counts) (es : List Entry) → Gives f n es (packets f n es)
  pub only : (f : Meaning) (n : Counts) (es : List Entry) (is : List Item) → Gives f n es is → is ≡ packets f n es
  -- number, phase and seconds count the ticks, and only what is sent counts as a message
  pub counts : (iss : List (List Item)) (n : Counts) → Within n → Advanced n (length iss) (messages iss) (ticked_by iss n)
  pub within : (is : List Item) (n : Counts) → Within n → Within (ticked is n)
