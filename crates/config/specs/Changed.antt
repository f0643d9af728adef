-- What a change makes of the settings, as it is computed. `After` says the same in words.
use Rattle.std.specs.Prelude.{ℕ, ◌+◌, ◌-◌, ◌*◌, Bool, cond, List, [], ◌∷◌, map, length, Some, None, Option, bit_and, bit_or}
use Rattle.std.specs.Str.{bytes_eq}
use Rattle.mti.specs.declared.output.Output.{Output}
use Rattle.mti.specs.Identifiers.{known_of}
use Rattle.settings.specs.declared.record.Entry.{Entry}
use Rattle.settings.specs.Values.{Values, entry}
use Rattle.settings.specs.Rates.{largest_divisor}
use Rattle.settings.specs.Factory.{factory_of}
use Rattle.settings.specs.View.{checked_of}
use Rattle.decision.specs.Asked.{Changing, Baud, ErrorMode, Location, Profile, Flags, Outputs, Factory}
use Rattle.decision.specs.Decided.{fits_entries}

-- one value is new, the others stay

abbrev pub with_baud : Values → ℕ → Values
with_baud c v = record {
  product = c.product;
  baud = v;
  profile = c.profile;
  error_mode = c.error_mode;
  location = c.location;
  flags = c.flags;
  entries = c.entries;
}

abbrev pub with_profile : Values → ℕ → Values
with_profile c v = record {
  product = c.product;
  baud = c.baud;
  profile = v;
  error_mode = c.error_mode;
  location = c.location;
  flags = c.flags;
  entries = c.entries;
}

abbrev pub with_error_mode : Values → ℕ → Values
with_error_mode c v = record {
  product = c.product;
  baud = c.baud;
  profile = c.profile;
  error_mode = v;
  location = c.location;
  flags = c.flags;
  entries = c.entries;
}

abbrev pub with_location : Values → ℕ → Values
with_location c v = record {
  product = c.product;
  baud = c.baud;
  profile = c.profile;
  error_mode = c.error_mode;
  location = v;
  flags = c.flags;
  entries = c.entries;
}

abbrev pub with_flags : Values → ℕ → Values
with_flags c v = record {
  product = c.product;
  baud = c.baud;
  profile = c.profile;
  error_mode = c.error_mode;
  location = c.location;
  flags = v;
  entries = c.entries;
}

abbrev pub with_entries : Values → List Entry → Values
with_entries c es = record {
  product = c.product;
  baud = c.baud;
  profile = c.profile;
  error_mode = c.error_mode;
  location = c.location;
  flags = c.flags;
  entries = es;
}

-- the flags without those of Clear, then with those of Set
abbrev pub new_flags : ℕ → ℕ → ℕ → ℕ
new_flags old set clear = bit_or (bit_and old (0xFFFF_FFFF - clear)) set

-- four bytes for each entry: the identifier and the frequency
abbrev pub entries_in : List ℕ → List Entry
entries_in [] = []
entries_in (a ∷ []) = []
entries_in (a ∷ b ∷ []) = []
entries_in (a ∷ b ∷ c ∷ []) = []
entries_in (a ∷ b ∷ c ∷ d ∷ xs) = entry (a * 256 + b) (c * 256 + d) ∷ entries_in xs

-- the frequency becomes one that the channel is sent at
abbrev pub used_of : Option Output → Entry → Entry
used_of None e = e
used_of (Some o) e = entry e.identifier (largest_divisor o.channel.max_hz e.frequency)

unfoldable pub used : Entry → Entry
used e = used_of (known_of e.identifier) e

-- four zeros ask for the empty list
abbrev pub empties : List ℕ → Bool
empties xs = bytes_eq xs (0 ∷ 0 ∷ 0 ∷ 0 ∷ [])

-- the outputs that the bytes ask for
unfoldable pub asked_outputs : List ℕ → Option (List Entry)
asked_outputs xs = cond (fits_entries (length xs)) (Some (cond (empties xs) [] (map used (entries_in xs)))) None

abbrev pub checked_outputs : Values → Option (List Entry) → Option Values
checked_outputs c None = None
checked_outputs c (Some es) = checked_of (with_entries c es)

-- the settings after the change, if they are valid
unfoldable pub changed_of : Values → Changing → Option Values
changed_of c (Baud v) = checked_of (with_baud c v)
changed_of c (ErrorMode v) = checked_of (with_error_mode c v)
changed_of c (Location v) = checked_of (with_location c v)
changed_of c (Profile v) = checked_of (with_profile c v)
changed_of c (Flags s k) = checked_of (with_flags c (new_flags c.flags s k))
changed_of c (Outputs xs) = checked_outputs c (asked_outputs xs)
changed_of c Factory = Some (factory_of c.product)
