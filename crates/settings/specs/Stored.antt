-- What stands where in an image; and what is stored and what is loaded are each other's inverse.
use Rattle.std.specs.Prelude.{◌≡◌, ℕ, ◌+◌, ◌*◌, ◌<◌, ◌≤◌, true, List, length, Some, None, slice_index, slice_index_or}
use Rattle.mti.specs.declared.product.Product.{Product}
use Rattle.xbus.specs.Numbers.{Bytes}
use Rattle.store.specs.Meaning.{image_size}
use Rattle.settings.specs.declared.record.Entry.{Entry}
use Rattle.settings.specs.Values.{Values}
use Rattle.settings.specs.Valid.{valid}
use Rattle.settings.specs.Image.{image_of, load_of}

-- the number of the two, or four, bytes from a place on, the highest first

abbrev pub two_at : List ℕ → ℕ → ℕ
two_at xs k = slice_index xs k * 256 + slice_index xs (k + 1)

abbrev pub four_at : List ℕ → ℕ → ℕ
four_at xs k = two_at xs k * 65536 + two_at xs (k + 2)

-- xs has what c holds, each in its place, and 0 in the places that no entry has
pub record Placed (c : Values) (xs : List ℕ) : Type 0 where
  pub size : length xs ≡ 140
  pub first : slice_index xs 0 ≡ 0x0A
  pub count : slice_index xs 1 ≡ length c.entries
  pub baud : slice_index xs 2 ≡ c.baud
  pub profile : slice_index xs 3 ≡ c.profile
  pub error_mode : two_at xs 4 ≡ c.error_mode
  pub location : two_at xs 6 ≡ c.location
  pub flags : four_at xs 8 ≡ c.flags
  pub identifier : (i : ℕ) (d : Entry) → i < length c.entries → two_at xs (12 + 2 * i) ≡ (slice_index_or c.entries i d).identifier
  pub frequency : (i : ℕ) (d : Entry) → i < length c.entries → two_at xs (76 + 2 * i) ≡ (slice_index_or c.entries i d).frequency
  pub no_identifier : (k : ℕ) → 12 + 2 * length c.entries ≤ k → k < 76 → slice_index xs k ≡ 0
  pub no_frequency : (k : ℕ) → 76 + 2 * length c.entries ≤ k → k < 140 → slice_index xs k ≡ 0

-- an image has all of valid settings, each in its place
abbrev pub ImageSaid : Type 0
ImageSaid = (c : Values) → valid c ≡ true → Placed c (image_of c)

-- the bytes are the image of valid settings of the product
pub record ImageOf (p : Product) (c : Values) (xs : List ℕ) : Type 0 where
  pub product : c.product ≡ p
  pub valid : valid c ≡ true
  pub image : xs ≡ image_of c

pub record StoredSaid : Type 0 where
  -- an image has the size that stores take
  pub size : (c : Values) → length (image_of c) ≡ image_size
  pub bytes : (c : Values) → Bytes (image_of c)
  -- what is loaded is what was stored, and nothing else is loaded
  pub back : (p : Product) (c : Values) (xs : List ℕ) → ImageOf p c xs → load_of p xs ≡ Some c
  pub exact : (p : Product) (c : Values) (xs : List ℕ) → load_of p xs ≡ Some c → ImageOf p c xs
  -- nothing is loaded exactly from what is no valid settings' image
  pub none : (p : Product) (xs : List ℕ) → load_of p xs ≡ None → (c : Values) → ImageOf p c xs → ⊥
  pub is_none : (p : Product) (xs : List ℕ) → ((c : Values) → ImageOf p c xs → ⊥) → load_of p xs ≡ None
