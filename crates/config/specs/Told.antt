-- What holds of the answers.
use Rattle.std.specs.Prelude.{◌≡◌, ℕ, ◌+◌, ◌/◌, ◌%◌, ◌^◌, ◌<◌, ◌≤◌, true, List, [], ◌∷◌, ◌++◌, length, take, drop, Some, ◌≢◌, slice_index}
use Rattle.std.specs.List.{flat_map}
use Rattle.mti.specs.declared.product.Product.{Product}
use Rattle.mti.specs.declared.product.Product.TheVariants.{Mti3, Mti30, Mti300, MtiG710}
use Rattle.xbus.specs.Numbers.{Bytes, be, number_of}
use Rattle.settings.specs.declared.record.Entry.{Entry}
use Rattle.settings.specs.Values.{Values}
use Rattle.settings.specs.Valid.{valid}
use Rattle.decision.specs.Asked.{Changing, Baud, ErrorMode, Location, Profile, Flags, Outputs, Factory}
use Rattle.decision.specs.declared.actions.Question.{Question}
use Rattle.decision.specs.declared.actions.Question.TheVariants as question
use Rattle.config.specs.Changed.{changed_of}
use Rattle.config.specs.After.{Flagged, Lists}
use Rattle.config.specs.Answered.{data_bytes, configuration_of, answer_of}

-- the number in so many bytes from a place on
abbrev pub number_at : List ℕ → ℕ → ℕ → ℕ
number_at xs at width = number_of (take width (drop at xs))

-- k is not one of so many places
abbrev pub Beside : ℕ → ℕ → ℕ → Type 0
Beside at width k = at ≤ k → k < at + width → ⊥

-- the Configuration message has the device ID twice, 0001 and the size of all data, and else zeros
pub record ConfigurationSaid : Type 0 where
  pub size : (id : ℕ) (c : Values) → length (configuration_of id c) ≡ 118
  pub device : (id : ℕ) (c : Values) → id < 2 ^ 32 → number_at (configuration_of id c) 0 4 ≡ id
  pub devices : (id : ℕ) (c : Values) → number_at (configuration_of id c) 96 2 ≡ 1
  pub device_again : (id : ℕ) (c : Values) → id < 2 ^ 32 → number_at (configuration_of id c) 98 4 ≡ id
  pub all_data : (id : ℕ) (c : Values) → valid c ≡ true → number_at (configuration_of id c) 102 2 ≡ data_bytes c.entries
  pub zeros : (id : ℕ) (c : Values) (k : ℕ) → Beside 0 4 k → Beside 96 2 k → Beside 98 4 k → Beside 102 2 k
      → slice_index (configuration_of id c) k ≡ 0

-- every answer for valid settings has at most 128 bytes
pub record AnswerBound : Type 0 where
  pub few : (id : ℕ) (c : Values) (q : Question) → valid c ≡ true → length (answer_of id c q) ≤ 128
  pub bytes : (id : ℕ) (c : Values) (q : Question) → valid c ≡ true → Bytes (answer_of id c q)

-- the name in ASCII
abbrev pub spelled : Product → List ℕ
spelled Mti3 = 0x4D ∷ 0x54 ∷ 0x69 ∷ 0x2D ∷ 0x33 ∷ []
spelled Mti30 = 0x4D ∷ 0x54 ∷ 0x69 ∷ 0x2D ∷ 0x33 ∷ 0x30 ∷ []
spelled Mti300 = 0x4D ∷ 0x54 ∷ 0x69 ∷ 0x2D ∷ 0x33 ∷ 0x30 ∷ 0x30 ∷ []
spelled MtiG710 = 0x4D ∷ 0x54 ∷ 0x69 ∷ 0x2D ∷ 0x47 ∷ 0x2D ∷ 0x37 ∷ 0x31 ∷ 0x30 ∷ []

-- an entry as it is sent: the identifier and the frequency
abbrev pub entry_sent : Entry → List ℕ
entry_sent e = be 2 e.identifier ++ be 2 e.frequency

-- the question asks for nothing that the change sets; Configuration has the size of the data of all outputs
abbrev pub Apart : Changing → Question → Type 0
Apart (Baud v) q = q ≢ question.Baud
Apart (ErrorMode v) q = q ≢ question.ErrorMode
Apart (Location v) q = q ≢ question.Location
Apart (Profile v) q = q ≢ question.Profile
Apart (Flags s k) q = q ≢ question.Flags
Apart (Outputs xs) q = (q ≢ question.Outputs) × (q ≢ question.Configuration)
Apart Factory q = ⊥

-- what a unit says of itself, and, where a change is allowed, that asking for what was set gives what was set
pub record AskedSaid : Type 0 where
  pub device_id : (id : ℕ) (c : Values) → answer_of id c question.DeviceId
      ≡ id / 16777216 % 256 ∷ id / 65536 % 256 ∷ id / 256 % 256 ∷ id % 256 ∷ []
  pub name : (id : ℕ) (c : Values) → answer_of id c question.Name ≡ spelled c.product
  pub firmware : (id : ℕ) (c : Values) → answer_of id c question.Firmware ≡ 1 ∷ 0 ∷ 0 ∷ 0 ∷ 0 ∷ 0 ∷ 0 ∷ 0 ∷ 0 ∷ 0 ∷ 0 ∷ []
  pub baud : (id v : ℕ) (c d : Values) → changed_of c (Baud v) ≡ Some d → answer_of id d question.Baud ≡ v ∷ []
  pub error_mode : (id v : ℕ) (c d : Values) → changed_of c (ErrorMode v) ≡ Some d → answer_of id d question.ErrorMode ≡ be 2 v
  pub location : (id v : ℕ) (c d : Values) → changed_of c (Location v) ≡ Some d → answer_of id d question.Location ≡ be 2 v
  pub profile : (id v : ℕ) (c d : Values) → changed_of c (Profile v) ≡ Some d → answer_of id d question.Profile ≡ 0x01 ∷ v ∷ []
  -- the flags that were, without Clear, and then Set
  pub flags : (id set clear : ℕ) (c d : Values) → valid c ≡ true → clear < 2 ^ 32 → changed_of c (Flags set clear) ≡ Some d
      → (n : ℕ) × Flagged c.flags set clear n × (answer_of id d question.Flags ≡ be 4 n)
  -- the list that is used
  pub outputs : (id : ℕ) (xs : List ℕ) (c d : Values) → changed_of c (Outputs xs) ≡ Some d
      → (es : List Entry) × Lists xs es × (answer_of id d question.Outputs ≡ flat_map entry_sent es)
  -- every other answer stays
  pub stays : (id : ℕ) (c d : Values) (x : Changing) (q : Question) → changed_of c x ≡ Some d → Apart x q → answer_of id d q ≡ answer_of id c q
