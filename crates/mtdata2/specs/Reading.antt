-- Reading one data message that is handed in whole.
use Rattle.std.specs.Prelude.{ℕ, ◌+◌, ◌-◌, ◌*◌, ◌%◌, cond, ◌&&◌, List, [], ◌∷◌, length, take, drop, Ok, Err, Result, ◌==◌, nat_le}
use Rattle.xbus.specs.Front.{total}
use Rattle.mtdata2.specs.declared.fault.Fault.{Fault}
use Rattle.mtdata2.specs.declared.frame.Body.{Body}
use Rattle.mtdata2.specs.declared.message.Message.{Message}
use Rattle.mtdata2.specs.Faults.{Report, reported, frame_fault, message_fault, and_then}
use Rattle.mtdata2.specs.Packets.{Item, packets_from, handed_out}

-- a frame's address, identifier, where its data start, and its data
pub record Parts : Type 0 where
  pub address : ℕ
  pub identifier : ℕ
  pub start : ℕ
  pub content : List ℕ

-- ---- the frame

-- by its header, xs has n data bytes from `start` on
abbrev pub body_of : ℕ → ℕ → ℕ → ℕ → List ℕ → Result Parts Report
body_of a i start n xs =
    cond (length xs == start + n + 1)
    (cond (total (drop 1 xs) % 256 == 0)
    (Ok (record { address = a; identifier = i; start = start; content = take n (drop start xs) }))
    (frame_fault 17 (length xs - 1)))
    (frame_fault 15 (length xs))

-- the frame that xs is, where the first list is what follows FA, an address, an identifier and FF
abbrev pub extended_of : ℕ → ℕ → List ℕ → List ℕ → Result Parts Report
extended_of a i [] xs = frame_fault 15 (length xs)
extended_of a i (h ∷ []) xs = frame_fault 15 (length xs)
extended_of a i (h ∷ l ∷ rest) xs =
    cond (nat_le 255 (h * 256 + l) && nat_le (h * 256 + l) 2048) (body_of a i 6 (h * 256 + l) xs) (frame_fault 16 4)

-- the frame that xs is, where the first list is what follows FA
abbrev pub started_of : List ℕ → List ℕ → Result Parts Report
started_of [] xs = frame_fault 15 (length xs)
started_of (a ∷ []) xs = frame_fault 15 (length xs)
started_of (a ∷ i ∷ []) xs = frame_fault 15 (length xs)
started_of (a ∷ i ∷ n ∷ rest) xs = cond (nat_le 255 n) (extended_of a i rest xs) (body_of a i 4 n xs)

-- the frame that xs is, or its first fault
abbrev pub frame_of : List ℕ → Result Parts Report
frame_of [] = frame_fault 14 0
frame_of (x ∷ rest) = cond (x == 0xFA) (started_of rest (x ∷ rest)) (frame_fault 14 0)

-- ---- the message

-- a data message has the address FF, the identifier 36 and data
abbrev pub addressed : Parts → Result Parts Report
addressed b =
    cond (b.address == 0xFF)
    (cond (b.identifier == 0x36) (cond (length b.content == 0) (message_fault 19 b.start) (Ok b)) (message_fault 18 2))
    (message_fault 18 1)

-- the data message that xs is, or its first fault
abbrev pub message_of : List ℕ → Result Parts Report
message_of xs = and_then (frame_of xs) addressed

-- the packets of a data message, or its first fault
abbrev pub read_of : List ℕ → Result (List Item) Report
read_of xs = and_then (message_of xs) (λ m. packets_from (length m.content) m.start m.content)

-- ---- as the code has it

abbrev pub parts : Body → Parts
parts b = record { address = b.header.address; identifier = b.header.identifier; start = b.start; content = b.content.now }

abbrev pub seen_body : Result Body Fault → Result Parts Report
seen_body (Ok b) = Ok (parts b)
seen_body (Err e) = Err (reported e)

abbrev pub seen_message : Result Message Fault → Result (List Item) Report
seen_message (Ok m) = Ok (handed_out m.content.now)
seen_message (Err e) = Err (reported e)
