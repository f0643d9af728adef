-- Memory that is cut into slots: a mark byte and an image. Bytes past the last slot are in none.
use Rattle.std.specs.Prelude.{◌≡◌, ℕ, ◌+◌, ◌-◌, ◌*◌, ◌/◌, ◌<◌, ◌≤◌, Bool, cond, List, ◌∷◌, ◌++◌, length, take, drop, Some, None, Option, ◌==◌, ◌≢◌, nat_lt, slice_index, slice_set}
use Rattle.std.specs.List.{prefix_len}
use Rattle.std.specs.Simd.{first_chunks}
use Rattle.store.specs.Meaning.{image_size, memory_after}

-- the bytes of a slot
abbrev pub slot_size : ℕ
slot_size = image_size + 1

-- how many slots there are
abbrev pub slots : List ℕ → ℕ
slots bs = length bs / slot_size

-- the mark of slot k, and its image
abbrev pub mark_at : List ℕ → ℕ → ℕ
mark_at bs k = slice_index bs (slot_size * k)

abbrev pub image_at : List ℕ → ℕ → List ℕ
image_at bs k = take image_size (drop (slot_size * k + 1) bs)

-- the slots, each a mark and an image
abbrev pub slots_of : List ℕ → List (List ℕ)
slots_of bs = first_chunks slot_size (slots bs) bs

abbrev pub is_used : List ℕ → Bool
is_used slot = slice_index slot 0 == 0

-- the used slots; `LongestRun` says the same in words
unfoldable pub used : List ℕ → ℕ
used bs = prefix_len is_used (slots_of bs)

-- the last used slot holds the image, and each slot not used is a write left
unfoldable pub held_in : List ℕ → Option (List ℕ)
held_in bs = cond (used bs == 0) None (Some (image_at bs (used bs - 1)))

abbrev pub left_in : List ℕ → ℕ
left_in bs = slots bs - used bs

-- slot j, if there is one, gets the mark FF
abbrev pub end_marked : List ℕ → ℕ → List ℕ
end_marked bs j = cond (nat_lt j (slots bs)) (slice_set bs (slot_size * j) 0xFF) bs

-- slot k gets an image and the mark 00
abbrev pub filled : List ℕ → ℕ → List ℕ → List ℕ
filled bs k xs = take (slot_size * k) bs ++ ((0 ∷ xs) ++ drop (slot_size * k + slot_size) bs)

-- the memory after a save that is not refused: the slot behind the next one is marked as not used, and the next one filled
unfoldable pub saved : List ℕ → List ℕ → List ℕ
saved xs bs = filled (end_marked bs (used bs + 1)) (used bs) xs

-- the memory after any save
abbrev pub bytes_after : List ℕ → List ℕ → List ℕ
bytes_after xs bs = memory_after saved xs (left_in bs) bs

-- the bytes in no slot
abbrev pub rest : List ℕ → List ℕ
rest bs = drop (slot_size * slots bs) bs

-- n slots are the longest run from the front with mark 00
pub record LongestRun (bs : List ℕ) (n : ℕ) : Type 0 where
  pub within : n ≤ slots bs
  pub marked : (k : ℕ) → k < n → mark_at bs k ≡ 0
  pub ends : n < slots bs → mark_at bs n ≢ 0

-- the used slots are that run, and no other number of slots is
pub record UsedSaid (bs : List ℕ) : Type 0 where
  pub run : LongestRun bs (used bs)
  pub only : (n : ℕ) → LongestRun bs n → n ≡ used bs
