-- Which settings a product can have, as tests. `Rules` says the same in words.
use Rattle.std.specs.Prelude.{ℕ, ◌+◌, ◌%◌, Bool, true, false, not, ◌&&◌, ◌||◌, List, [], ◌∷◌, length, Some, None, Option, ◌==◌, bit_and, nat_le, nat_lt}
use Rattle.std.specs.List.{list_all}
use Rattle.mti.specs.declared.product.Product.{Product}
use Rattle.mti.specs.declared.product.Product.TheVariants.{Mti3, Mti30, Mti300, MtiG710}
use Rattle.mti.specs.declared.output.Output.{Output}
use Rattle.mti.specs.Channels.{offered_by}
use Rattle.mti.specs.Identifiers.{plain, known_of}
use Rattle.settings.specs.declared.record.Entry.{Entry}
use Rattle.settings.specs.Values.{Values}

-- baud codes 00 to 0B, and 80
abbrev pub valid_baud : ℕ → Bool
valid_baud b = nat_le b 0x0B || b == 0x80

-- the first of a product's five filter profiles
abbrev pub first_profile : Product → ℕ
first_profile Mti3 = 50
first_profile Mti30 = 39
first_profile Mti300 = 39
first_profile MtiG710 = 1

abbrev pub valid_profile : Product → ℕ → Bool
valid_profile p f = nat_le (first_profile p) f && nat_le f (first_profile p + 4)

-- the flag bits of a product
abbrev pub flag_bits : Product → ℕ
flag_bits Mti3 = 0x01 + 0x02 + 0x10 + 0x80
flag_bits Mti30 = 0x10 + 0x80
flag_bits Mti300 = 0x10 + 0x80
flag_bits MtiG710 = 0x04 + 0x10 + 0x80

-- no bit that is not the product's
abbrev pub valid_flags : Product → ℕ → Bool
valid_flags p f = bit_and f (flag_bits p) == f

-- a channel of the product, at a frequency that divides its maximum
abbrev pub suits : Product → ℕ → Option Output → Bool
suits p f None = false
suits p f (Some o) = offered_by o.channel.availability p && (nat_lt 0 f && o.channel.max_hz % f == 0)

unfoldable pub valid_entry : Product → Entry → Bool
valid_entry p e = suits p e.frequency (known_of e.identifier)

-- no entry is of the channel
abbrev pub unlisted : ℕ → List Entry → Bool
unlisted channel es = list_all (λ e. not (plain e.identifier == channel)) es

-- each entry is valid, and no two are of one channel
abbrev pub valid_entries : Product → List Entry → Bool
valid_entries p [] = true
valid_entries p (e ∷ es) = valid_entry p e && (unlisted (plain e.identifier) es && valid_entries p es)

unfoldable pub valid : Values → Bool
valid c =
    valid_baud c.baud
    && (valid_profile c.product c.profile
    && (nat_le c.error_mode 3
    && (nat_lt c.location 65536
    && (valid_flags c.product c.flags
    && (nat_le (length c.entries) 32 && valid_entries c.product c.entries)))))
