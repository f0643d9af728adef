-- The messages that a unit knows, as a table to hold beside the protocol, and what it says of the decision.
use Rattle.std.specs.Prelude.{◌≡◌, ℕ, ◌*◌, ◌^◌, ◌<◌, ◌≤◌, List, [], ◌∷◌, ◌++◌, length, Ok, Err, ◌≢◌}
use Rattle.std.specs.List.{Contains}
use Rattle.mti.specs.declared.product.Product.{Product}
use Rattle.mti.specs.declared.product.Product.TheVariants.{Mti3}
use Rattle.xbus.specs.Numbers.{Bytes, be}
use Rattle.decision.specs.declared.states.State.{State}
use Rattle.decision.specs.declared.states.State.TheVariants.{WakeUp, Config, Measurement}
use Rattle.decision.specs.declared.actions.Question.{Question}
use Rattle.decision.specs.declared.actions.Question.TheVariants as question
use Rattle.decision.specs.declared.deciding.MessageError.TheVariants.{NotAllowed, WrongLength}
use Rattle.decision.specs.Asked.{Asked, Changing, Baud, ErrorMode, Location, Profile, Flags, Outputs, Factory, Wake, Configure, Measure, Reset, Ask, Set}
use Rattle.decision.specs.Decided.{decided}

-- what a message carries: nothing; or nothing to ask, and a value to set: a number in so many bytes, Set and Clear in four
-- bytes each, or 1 to 32 entries of four bytes
pub data Carries : Type 0 where
  Nothing : Asked → Carries
  Number : Question → ℕ → (ℕ → Changing) → Carries
  SetAndClear : Carries
  Entries : Carries

-- a message: its identifier, the states that allow it, what it carries
pub record Message : Type 0 where
  pub identifier : ℕ
  pub states : List State
  pub carries : Carries

abbrev message : ℕ → List State → Carries → Message
message i s c = record { identifier = i; states = s; carries = c }

abbrev pub messages : List Message
messages =
    message 0x3F (WakeUp ∷ []) (Nothing Wake)
    ∷ message 0x30 (Config ∷ Measurement ∷ []) (Nothing Configure)
    ∷ message 0x10 (Config ∷ []) (Nothing Measure)
    ∷ message 0x40 (Config ∷ Measurement ∷ []) (Nothing Reset)
    ∷ message 0x0E (Config ∷ []) (Nothing (Set Factory))
    ∷ message 0x00 (Config ∷ []) (Nothing (Ask question.DeviceId))
    ∷ message 0x1C (Config ∷ []) (Nothing (Ask question.Name))
    ∷ message 0x12 (Config ∷ []) (Nothing (Ask question.Firmware))
    ∷ message 0x0C (Config ∷ []) (Nothing (Ask question.Configuration))
    ∷ message 0x18 (Config ∷ []) (Number question.Baud 1 Baud)
    ∷ message 0xDA (Config ∷ []) (Number question.ErrorMode 2 ErrorMode)
    ∷ message 0x84 (Config ∷ []) (Number question.Location 2 Location)
    ∷ message 0x64 (Config ∷ []) (Number question.Profile 2 Profile)
    ∷ message 0x48 (Config ∷ []) SetAndClear
    ∷ message 0xC0 (Config ∷ []) Entries
    ∷ []

-- the unit of the product in the state allows the message; error modes are not the MTi-3's
pub record Allows (s : State) (p : Product) (i : ℕ) (m : Message) : Type 0 where
  pub row : Contains messages m
  pub identifier : m.identifier ≡ i
  pub state : Contains m.states s
  pub product : i ≡ 0xDA → p ≢ Mti3

-- the data, and what the message asks for with them
pub data Says : Carries → List ℕ → Asked → Type 0 where
  nothing : {a : Asked} → Says (Nothing a) [] a
  number_asked : {q : Question} {n : ℕ} {f : ℕ → Changing} → Says (Number q n f) [] (Ask q)
  number : {q : Question} {n : ℕ} {f : ℕ → Changing} {v : ℕ} → v < 256 ^ n → Says (Number q n f) (be n v) (Set (f v))
  flags_asked : Says SetAndClear [] (Ask question.Flags)
  flags : {s c : ℕ} → s < 256 ^ 4 → c < 256 ^ 4 → Says SetAndClear (be 4 s ++ be 4 c) (Set (Flags s c))
  entries_asked : Says Entries [] (Ask question.Outputs)
  entries : {xs : List ℕ} {n : ℕ} → length xs ≡ 4 * n → 1 ≤ n → n ≤ 32 → Says Entries xs (Set (Outputs xs))

-- in words, for data of bytes: a message is not allowed exactly if no row of the table allows it; its length is wrong
-- exactly if a row allows it and no data of that length say anything; and it asks for what its row says
pub record DecisionSaid : Type 0 where
  pub asks : (s : State) (p : Product) (i : ℕ) (xs : List ℕ) (a : Asked) → Bytes xs
      → decided s p i xs ≡ Ok a → (m : Message) × Allows s p i m × Says m.carries xs a
  pub is_asked : (s : State) (p : Product) (i : ℕ) (xs : List ℕ) (a : Asked) (m : Message) → Bytes xs
      → Allows s p i m → Says m.carries xs a → decided s p i xs ≡ Ok a
  pub not_allowed : (s : State) (p : Product) (i : ℕ) (xs : List ℕ)
      → decided s p i xs ≡ Err NotAllowed → (m : Message) → Allows s p i m → ⊥
  pub is_not_allowed : (s : State) (p : Product) (i : ℕ) (xs : List ℕ)
      → ((m : Message) → Allows s p i m → ⊥) → decided s p i xs ≡ Err NotAllowed
  pub wrong_length : (s : State) (p : Product) (i : ℕ) (xs : List ℕ)
      → decided s p i xs ≡ Err WrongLength
      → ((m : Message) × Allows s p i m) × ((m : Message) (ys : List ℕ) (a : Asked) → Allows s p i m → length ys ≡ length xs → Says m.carries ys a → ⊥)
  pub is_wrong_length : (s : State) (p : Product) (i : ℕ) (xs : List ℕ) (m : Message) → Bytes xs
      → Allows s p i m → ((ys : List ℕ) (a : Asked) → length ys ≡ length xs → Says m.carries ys a → ⊥)
      → decided s p i xs ≡ Err WrongLength
