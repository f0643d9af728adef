-- Frames in the words of the protocol, and what stands at the front of a list of bytes in these words.
use Rattle.std.specs.Prelude.{◌≡◌, ℕ, ◌-◌, ◌%◌, ◌<◌, ◌≤◌, cond, ◌⊎◌, List, [], ◌∷◌, ◌++◌, length, take, ◌≢◌, nat_lt}
use Rattle.xbus.specs.declared.front.Front.TheVariants.{Whole, Waits, Wrong}
use Rattle.xbus.specs.Numbers.{Bytes, be}
use Rattle.xbus.specs.Front.{total, front_of}

-- a length of n: one byte, or FF and two bytes
abbrev pub length_bytes : ℕ → List ℕ
length_bytes n = cond (nat_lt n 255) (n ∷ []) (0xFF ∷ be 2 n)

-- what stands between FA and the data
abbrev pub header_of : ℕ → ℕ → ℕ → List ℕ
header_of address identifier n = address ∷ identifier ∷ length_bytes n

-- the byte that takes the sum to 0 modulo 256
abbrev pub checksum : List ℕ → ℕ
checksum xs = (256 - total xs % 256) % 256

-- FA, the bytes, and their checksum
abbrev pub enclosed : List ℕ → List ℕ
enclosed xs = 0xFA ∷ (xs ++ (checksum xs ∷ []))

-- the bytes of a frame
abbrev pub encoded : ℕ → ℕ → List ℕ → List ℕ
encoded address identifier content = enclosed (header_of address identifier (length content) ++ content)

-- xs is a frame of some address, identifier and data
pub record Frame (xs : List ℕ) : Type 0 where
  pub address : ℕ
  pub identifier : ℕ
  pub content : List ℕ
  pub address_byte : address < 256
  pub identifier_byte : identifier < 256
  pub content_bytes : Bytes content
  pub content_short : length content ≤ 2048
  pub is : xs ≡ encoded address identifier content

-- the first n bytes of xs are a frame
abbrev pub Begins : List ℕ → ℕ → Type 0
Begins xs n = (n ≤ length xs) × Frame (take n xs)

-- xs is empty, or a proper start of some frame
abbrev pub Starts : List ℕ → Type 0
Starts xs = (xs ≡ []) ⊎ ((ys : List ℕ) × (0 < length ys) × Frame (xs ++ ys))

-- xs is neither
abbrev pub Neither : List ℕ → Type 0
Neither xs = (((n : ℕ) × Begins xs n) ⊎ Starts xs) → ⊥

-- the three cases, each exactly when the protocol's words hold
pub record FrontSaid (xs : List ℕ) : Type 0 where
  pub whole : (n : ℕ) → front_of xs ≡ Whole n → Begins xs n
  pub is_whole : (n : ℕ) → Begins xs n → front_of xs ≡ Whole n
  pub waits : front_of xs ≡ Waits → Starts xs
  pub is_waits : Starts xs → front_of xs ≡ Waits
  pub wrong : front_of xs ≡ Wrong → Neither xs
  pub is_wrong : Neither xs → front_of xs ≡ Wrong

-- only what waits can change: a whole frame or a wrong front stays so under more bytes
abbrev pub Stays : List ℕ → Type 0
Stays xs = (ys : List ℕ) → (front_of xs ≢ Waits) → front_of (xs ++ ys) ≡ front_of xs

-- what waits is shorter than the longest frame, and a whole frame is no longer than that and lies within the list
pub record Bounded (xs : List ℕ) : Type 0 where
  pub waits : front_of xs ≡ Waits → length xs ≤ 2054
  pub whole : (n : ℕ) → front_of xs ≡ Whole n → (5 ≤ n) × (n ≤ 2055) × (n ≤ length xs)
