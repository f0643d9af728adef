-- What reading a data message comes to, in the words of the protocol: accepted, or which fault.
use Rattle.std.specs.Prelude.{◌≡◌, ℕ, ◌+◌, ◌-◌, ◌*◌, ◌%◌, ◌<◌, ◌≤◌, ◌⊎◌, List, [], ◌∷◌, ◌++◌, length, drop, Some, Ok, Err, ◌≢◌, slice_index}
use Rattle.std.specs.List.{flat_map}
use Rattle.xbus.specs.Front.{total}
use Rattle.xbus.specs.Frames.{header_of, encoded}
use Rattle.mti.specs.Identifiers.{data_size_of}
use Rattle.mtdata2.specs.declared.fault.Layer.{Layer}
use Rattle.mtdata2.specs.declared.fault.Layer.TheVariants as layer
use Rattle.mtdata2.specs.Faults.{Report}
use Rattle.mtdata2.specs.Packets.{Item, packet_bytes, EachWellFormed}
use Rattle.mtdata2.specs.Reading.{read_of}

-- ---- accepted

-- xs is the data message of these packets: at least one, all well-formed, and not too long for a frame
pub record MessageOf (xs : List ℕ) (items : List Item) : Type 0 where
  pub some : 0 < length items
  pub well_formed : EachWellFormed items
  pub short : length (flat_map packet_bytes items) ≤ 2048
  pub is : xs ≡ encoded 0xFF 0x36 (flat_map packet_bytes items)

-- ---- faults

abbrev pub report : ℕ → Layer → ℕ → Report
report n l p = record { number = n; layer = l; place = p }

-- xs begins with FA, and its header is cut: fewer than four bytes, or FF as the fourth and fewer than six
abbrev pub HeaderCut : List ℕ → Type 0
HeaderCut xs = (0 < length xs) × (slice_index xs 0 ≡ 0xFA) × ((length xs < 4) ⊎ ((slice_index xs 3 ≡ 0xFF) × (length xs < 6)))

-- where the data of a frame start
abbrev pub data_start : ℕ → ℕ → ℕ → ℕ
data_start address identifier n = length (0xFA ∷ header_of address identifier n)

-- xs has a complete header, which announces n data bytes from `start` on
pub record Announces (xs : List ℕ) (start n : ℕ) : Type 0 where
  pub address : ℕ
  pub identifier : ℕ
  pub behind : List ℕ
  pub short : n ≤ 2048
  pub is : xs ≡ 0xFA ∷ (header_of address identifier n ++ behind)
  pub starts : start ≡ data_start address identifier n

-- xs is a data message whose data are well-formed packets and then, at the place p, the rest
pub record Behind (xs : List ℕ) (rest : List ℕ) (p : ℕ) : Type 0 where
  pub items : List Item
  pub well_formed : EachWellFormed items
  pub short : length (flat_map packet_bytes items ++ rest) ≤ 2048
  pub is : xs ≡ encoded 0xFF 0x36 (flat_map packet_bytes items ++ rest)
  pub place : p ≡ data_start 0xFF 0x36 (length (flat_map packet_bytes items ++ rest)) + length (flat_map packet_bytes items)

-- which fault comes
pub data Tells (xs : List ℕ) : Report → Type 0 where
  -- the input is empty, or does not begin with FA
  empty : xs ≡ [] → Tells xs (report 14 layer.Frame 0)
  other_start : (0 < length xs) → (slice_index xs 0 ≢ 0xFA) → Tells xs (report 14 layer.Frame 0)
  -- the header is cut
  header_cut : HeaderCut xs → Tells xs (report 15 layer.Frame (length xs))
  -- the two-byte length is ruled out
  length_ruled_out : (a i h l : ℕ) (rest : List ℕ) → xs ≡ 0xFA ∷ a ∷ i ∷ 0xFF ∷ h ∷ l ∷ rest → (h * 256 + l < 255) ⊎ (2048 < h * 256 + l) → Tells xs (report 16 layer.Frame 4)
  -- the input is shorter or longer than its frame
  other_length : (start n : ℕ) → Announces xs start n → (length xs ≢ start + n + 1) → Tells xs (report 15 layer.Frame (length xs))
  -- the bytes behind FA do not sum to 0
  wrong_checksum : (start n : ℕ) → Announces xs start n → length xs ≡ start + n + 1 → (total (drop 1 xs) % 256 ≢ 0) → Tells xs (report 17 layer.Frame (length xs - 1))
  -- a frame of another address, or of another identifier
  other_address : (a i : ℕ) (d : List ℕ) → xs ≡ encoded a i d → length d ≤ 2048 → (a ≢ 0xFF) → Tells xs (report 18 layer.Message 1)
  other_identifier : (i : ℕ) (d : List ℕ) → xs ≡ encoded 0xFF i d → length d ≤ 2048 → (i ≢ 0x36) → Tells xs (report 18 layer.Message 2)
  -- no data
  no_packet : xs ≡ encoded 0xFF 0x36 [] → Tells xs (report 19 layer.Message 4)
  -- behind well-formed packets, the next one's header is cut, its data are cut, or its size is wrong
  packet_cut : (rest : List ℕ) (p : ℕ) → Behind xs rest p → 0 < length rest → length rest < 3 → Tells xs (report 20 layer.Packet p)
  content_cut : (h l n : ℕ) (rest : List ℕ) (p : ℕ) → Behind xs (h ∷ l ∷ n ∷ rest) p → length rest < n → Tells xs (report 21 layer.Packet (p + 2))
  wrong_size : (h l n : ℕ) (rest : List ℕ) (p s : ℕ) → Behind xs (h ∷ l ∷ n ∷ rest) p → n ≤ length rest → data_size_of (h * 256 + l) ≡ Some s → (n ≢ s) → Tells xs (report 22 layer.Packet (p + 2))

-- a message is accepted exactly if it is that of some packets, and then these are read; a fault comes exactly if the input
-- tells it, so that an input tells one fault at most
pub record ReadSaid (xs : List ℕ) : Type 0 where
  pub accepted : (items : List Item) → read_of xs ≡ Ok items → MessageOf xs items
  pub accepts : (items : List Item) → MessageOf xs items → read_of xs ≡ Ok items
  pub refused : (f : Report) → read_of xs ≡ Err f → Tells xs f
  pub refuses : (f : Report) → Tells xs f → read_of xs ≡ Err f
