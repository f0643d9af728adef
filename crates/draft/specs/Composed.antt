-- A draft of a data message, and the tray that is lent to its calls.
use Rattle.std.specs.Prelude.{◌≡◌, ℕ, ◌+◌, ◌-◌, ◌<◌, cond, not, ◌&&◌, List, [], ◌∷◌, ◌++◌, length, take, drop, Ok, Err, Result, ◌==◌, nat_le, nat_lt}
use Rattle.std.proofs.Math.Seq.{paste}
use Rattle.std.specs.List.{flat_map}
use Rattle.xbus.specs.declared.data_len.DataLen.{DataLen}
use Rattle.xbus.specs.Frames.{encoded}
use Rattle.xbus.specs.Writing.{frame_size, content_start}
use Rattle.mtdata2.specs.Packets.{Item, item_of, size_fits, packet_bytes, EachWellFormed}
use Rattle.mtdata2.specs.Reading.{read_of}
use Rattle.mtdata2.specs.Words.{MessageOf}
use Rattle.draft.specs.declared.draft.Draft.{Draft}
use Rattle.draft.specs.declared.refusal.Refusal.{Refusal}
use Rattle.draft.specs.declared.refusal.Refusal.TheVariants.{NoPacket, PastBytes, WrongSize, TooLong, NoRoom}

-- the frame of the packets so far: nothing before the first
abbrev pub frame_so_far : List Item → List ℕ
frame_so_far [] = []
frame_so_far (i ∷ is) = encoded 0xFF 0x36 (flat_map packet_bytes (i ∷ is))

-- the packet that a record asks for: its data are the part of the bytes from its place on
abbrev pub asked : List ℕ → ℕ → ℕ → ℕ → Item
asked bytes identifier place size = item_of identifier (take size (drop place bytes))

-- the data bytes with one packet more
abbrev pub grown : ℕ → ℕ → ℕ
grown n size = n + (3 + size)

-- the data bytes with one packet more, of so many data bytes, for a draft that has `have` of them, or why it is refused
abbrev pub sized : ℕ → ℕ → ℕ → Result ℕ Refusal
sized identifier size have =
    cond (not (nat_le size 255 && size_fits identifier size)) (Err WrongSize)
    (cond (nat_lt 2048 (grown have size)) (Err TooLong) (Ok (grown have size)))

abbrev pub and_then : Result ℕ Refusal → (ℕ → Result ℕ Refusal) → Result ℕ Refusal
and_then (Ok n) f = f n
and_then (Err e) f = Err e

-- the answer to a record, of n source bytes, for a draft that began at `start` and has `have` data bytes, in a tray of `room` bytes
abbrev pub judged : ℕ → ℕ → ℕ → ℕ → ℕ → ℕ → ℕ → Result ℕ Refusal
judged n identifier place size start have room =
    cond (nat_lt n (place + size)) (Err PastBytes)
    (and_then (sized identifier size have) (λ g. cond (nat_lt room (start + frame_size g)) (Err NoRoom) (Ok g)))

-- as the code has it
abbrev pub counted : Result DataLen Refusal → Result ℕ Refusal
counted (Ok n) = Ok n.len
counted (Err e) = Err e

-- the same without the number
abbrev pub answered : Result ℕ Refusal → Result (Unit {0}) Refusal
answered (Ok n) = Ok tt
answered (Err e) = Err e

-- the data bytes that stand in the tray for a draft that began at `start` and has n of them
abbrev pub content_in : List ℕ → ℕ → ℕ → List ℕ
content_in tray start n = take n (drop (start + content_start n) tray)

-- the tray after an accepted record: behind the start stands the whole frame of the data so far and the packet,
-- and every other byte is as it was
abbrev pub laid : List ℕ → ℕ → ℕ → Item → List ℕ
laid tray start n i =
    paste tray start (encoded 0xFF 0x36 (content_in tray start n ++ packet_bytes i)) (frame_size (grown n (length i.bytes)))

-- the tray holds the frame of these packets behind the draft's start, and the mark stands behind it
pub record Holding (items : List Item) (tray : List ℕ) (d : Draft) : Type 0 where
  pub well_formed : EachWellFormed items
  pub sized : d.extent.size.len ≡ length (flat_map packet_bytes items)
  pub there : take (length (frame_so_far items)) (drop d.extent.start tray) ≡ frame_so_far items
  pub marked : d.mark.now ≡ d.extent.start + length (frame_so_far items)

-- an accepted record: from the draft d and the tray t to e and u
pub record Added (d e : Draft) (t u : List ℕ) (i : Item) : Type 0 where
  pub size : e.extent.size.len ≡ grown d.extent.size.len (length i.bytes)
  pub mark : e.mark.now ≡ d.extent.start + frame_size (grown d.extent.size.len (length i.bytes))
  pub tray : u ≡ laid t d.extent.start d.extent.size.len i
  pub holds : (items : List Item) → Holding items t d → Holding (items ++ (i ∷ [])) u e

-- the answer to closing a draft with n data bytes
abbrev pub closing : ℕ → Result (Unit {0}) Refusal
closing n = cond (n == 0) (Err NoPacket) (Ok tt)

-- a draft d that held these packets in this tray was closed with the answer r: accepted exactly if there is a packet,
-- and then the bytes from its start to its mark are the message of these packets, and read back as exactly them
pub record Closed (items : List Item) (tray : List ℕ) (d : Draft) (r : Result (Unit {0}) Refusal) : Type 0 where
  pub refused : items ≡ [] → r ≡ Err NoPacket
  pub accepted : 0 < length items → r ≡ Ok tt
  pub message : 0 < length items → MessageOf (take (d.mark.now - d.extent.start) (drop d.extent.start tray)) items
  pub reads : 0 < length items → read_of (take (d.mark.now - d.extent.start) (drop d.extent.start tray)) ≡ Ok items
