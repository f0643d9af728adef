-- A hash over bytes, FNV-1a with 64 bits, and a row of numbers that look random.
use Rattle.std.specs.Prelude.{ℕ, ◌+◌, ◌*◌, ◌%◌, ◌^◌, List, fold, bit_xor}

-- the hash of no bytes
abbrev pub hash_of_none : ℕ
hash_of_none = 14_695_981_039_346_656_037

-- a hash with one byte more
abbrev pub hash_next : ℕ → ℕ → ℕ
hash_next h b = (bit_xor h b * 1_099_511_628_211) % 2 ^ 64

-- a hash with bytes more
abbrev pub hash_with : ℕ → List ℕ → ℕ
hash_with h bs = fold hash_next h bs

-- the number behind x in the row
abbrev pub number_behind : ℕ → ℕ
number_behind x = (x * 6_364_136_223_846_793_005 + 1_442_695_040_888_963_407) % 2 ^ 64
