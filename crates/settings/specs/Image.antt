-- The image under which settings are stored: 140 bytes.
use Rattle.std.specs.Prelude.{ℕ, zero, suc, ◌+◌, ◌*◌, cond, ◌&&◌, List, [], ◌∷◌, ◌++◌, map, length, take, drop, Some, None, Option, slice_index_or}
use Rattle.std.specs.Str.{bytes_eq}
use Rattle.mti.specs.declared.product.Product.{Product}
use Rattle.xbus.specs.Numbers.{be, number_of}
use Rattle.settings.specs.declared.record.Entry.{Entry}
use Rattle.settings.specs.Values.{Values, entry}
use Rattle.settings.specs.Valid.{valid}

-- n numbers of two bytes: the first of vs, and 0 where vs has no more
unfoldable pub places : ℕ → List ℕ → List ℕ
places zero vs = []
places (suc n) vs = places n vs ++ be 2 (slice_index_or vs n 0)

-- the two sizes, then ten bytes: baud code, profile, error mode, location, flags
unfoldable pub fields_of : Values → List ℕ
fields_of c =
    be 1 0x0A ++ be 1 (length c.entries) ++ be 1 c.baud ++ be 1 c.profile ++ be 2 c.error_mode
    ++ be 2 c.location ++ be 4 c.flags

-- then 32 identifiers and 32 frequencies
unfoldable pub image_of : Values → List ℕ
image_of c =
    fields_of c ++ places 32 (map (λ e. e.identifier) c.entries) ++ places 32 (map (λ e. e.frequency) c.entries)

-- the number in so many bytes from a place on
abbrev pub number_at : List ℕ → ℕ → ℕ → ℕ
number_at xs at width = number_of (take width (drop at xs))

abbrev pub entry_at : List ℕ → ℕ → Entry
entry_at xs i = entry (number_at xs (12 + 2 * i) 2) (number_at xs (76 + 2 * i) 2)

unfoldable pub entries_at : List ℕ → ℕ → List Entry
entries_at xs zero = []
entries_at xs (suc n) = entries_at xs n ++ (entry_at xs n ∷ [])

-- the values that the bytes spell out
unfoldable pub read_of : Product → List ℕ → Values
read_of p xs = record {
  product = p;
  baud = number_at xs 2 1;
  profile = number_at xs 3 1;
  error_mode = number_at xs 4 2;
  location = number_at xs 6 2;
  flags = number_at xs 8 4;
  entries = entries_at xs (number_at xs 1 1);
}

-- what the bytes store: the settings whose image they are, if these are valid. `Stored` says the same in words.
unfoldable pub load_of : Product → List ℕ → Option Values
load_of p xs = cond (valid (read_of p xs) && bytes_eq (image_of (read_of p xs)) xs) (Some (read_of p xs)) None
