-- The packets of a data message.
use Rattle.std.specs.Prelude.{◌≡◌, ℕ, zero, suc, ◌+◌, ◌-◌, ◌*◌, ◌<◌, ◌≤◌, Bool, true, cond, List, [], ◌∷◌, ◌++◌, length, take, drop, Some, None, Ok, Err, Option, Result, MatchOption, ◌==◌, nat_lt}
use Rattle.std.specs.Borrow.{Bor}
use Rattle.xbus.specs.Numbers.{Bytes, be}
use Rattle.mti.specs.declared.channel.Kind.TheVariants as channel
use Rattle.mti.specs.declared.output.Output.{Output}
use Rattle.mti.specs.Identifiers.{known_of, data_size_of}
use Rattle.mtdata2.specs.declared.fault.Fault.{Fault}
use Rattle.mtdata2.specs.declared.packet.Packet.{Packet}
use Rattle.mtdata2.specs.declared.packet.Packet.TheVariants as code
use Rattle.mtdata2.specs.declared.packet.Packets.{Packets}
use Rattle.mtdata2.specs.Faults.{Report, reported, packet_fault, and_then}

-- what a packet holds
pub data Content : Type 0 where
  real : Content
  whole : Content
  unknown : Content

-- a packet: what it holds, its identifier and its data
pub record Item : Type 0 where
  pub holds : Content
  pub identifier : ℕ
  pub bytes : List ℕ

abbrev pub holds_by : Option Output → Content
holds_by None = unknown
holds_by (Some o) = elim o.channel.kind [ channel.Real n ↦ real | channel.Whole w ↦ whole ]

-- what a packet of this identifier holds: after its channel, or unknown
abbrev pub holds_of : ℕ → Content
holds_of i = holds_by (known_of i)

abbrev pub fits_by : Option ℕ → ℕ → Bool
fits_by None n = true
fits_by (Some s) n = n == s

-- whether a packet of this identifier may have n data bytes: a known one has its data size
abbrev pub size_fits : ℕ → ℕ → Bool
size_fits i n = fits_by (data_size_of i) n

abbrev pub item_of : ℕ → List ℕ → Item
item_of i xs = record { holds = holds_of i; identifier = i; bytes = xs }

-- the packet of the identifier i and the size n in front of xs, behind whose header it begins, and what is behind it;
-- its header stands at the place p
abbrev pub cut_by : ℕ → ℕ → ℕ → List ℕ → Result (Item × List ℕ) Report
cut_by p i n xs =
    cond (nat_lt (length xs) n) (packet_fault 21 (p + 2))
    (cond (size_fits i n) (Ok (item_of i (take n xs), drop n xs)) (packet_fault 22 (p + 2)))

-- the packet at the front of xs, which stands at the place p, and what is behind it
abbrev pub cut_of : ℕ → List ℕ → Result (Item × List ℕ) Report
cut_of p [] = packet_fault 20 p
cut_of p (h ∷ []) = packet_fault 20 p
cut_of p (h ∷ l ∷ []) = packet_fault 20 p
cut_of p (h ∷ l ∷ n ∷ xs) = cut_by p (h * 256 + l) n xs

-- the packets of xs, of which the first stands at the place p, at most k
abbrev pub packets_from : ℕ → ℕ → List ℕ → Result (List Item) Report
packets_from k p [] = Ok []
packets_from zero p (x ∷ xs) = Ok []
packets_from (suc k) p (x ∷ xs) =
    and_then (cut_of p (x ∷ xs))
    (λ q. and_then (packets_from k (p + (length (x ∷ xs) - length q.1)) q.1) (λ items. Ok (q.0 ∷ items)))

-- ---- in the words of the protocol

-- an identifier, a size and as many data bytes
abbrev pub packet_bytes : Item → List ℕ
packet_bytes i = be 2 i.identifier ++ (length i.bytes ∷ i.bytes)

-- a packet holds what its identifier says, and its size is a byte, and the data size of a known identifier
pub record WellFormed (i : Item) : Type 0 where
  pub holds : i.holds ≡ holds_of i.identifier
  pub identifier : i.identifier < 65536
  pub bytes : Bytes i.bytes
  pub short : length i.bytes ≤ 255
  pub size : (n : ℕ) → data_size_of i.identifier ≡ Some n → length i.bytes ≡ n

abbrev pub EachWellFormed : List Item → Type 0
EachWellFormed [] = Unit {0}
EachWellFormed (i ∷ is) = WellFormed i × EachWellFormed is

-- ---- as the code hands them out

-- a packet of the code, without references
abbrev pub item : Packet → Item
item (code.Real i d) = record { holds = real; identifier = i; bytes = d.now }
item (code.Whole i d) = record { holds = whole; identifier = i; bytes = d.now }
item (code.Unknown i d) = record { holds = unknown; identifier = i; bytes = d.now }

abbrev pub cut_seen : Packet × Bor (List ℕ) → Item × List ℕ
cut_seen q = (item q.0, q.1.now)

abbrev pub seen_cut : Result (Packet × Bor (List ℕ)) Fault → Result (Item × List ℕ) Report
seen_cut (Ok q) = Ok (cut_seen q)
seen_cut (Err e) = Err (reported e)

abbrev pub done : Result (List Item) Report → Result (Unit {0}) Report
done (Ok items) = Ok tt
done (Err e) = Err e

abbrev pub seen_done : Result (Unit {0}) Fault → Result (Unit {0}) Report
seen_done (Ok x) = Ok x
seen_done (Err e) = Err (reported e)

abbrev pub handed_by : Result (Item × List ℕ) Report → (List ℕ → List Item) → List Item
handed_by (Ok q) f = q.0 ∷ f q.1
handed_by (Err e) f = []

-- the packets that are handed out of xs, one by one from the front, at most k
abbrev pub handed : ℕ → List ℕ → List Item
handed zero xs = []
handed (suc k) xs = handed_by (cut_of 0 xs) (handed k)

abbrev pub handed_out : List ℕ → List Item
handed_out xs = handed (length xs) xs

abbrev pub ok_of : {A : Type 0} → Result A Report → Option A
ok_of (Ok x) = Some x
ok_of (Err e) = None

-- a call of `next` at s that gives r and leaves t
abbrev pub packet_steps : Packets → Option Packet → Packets → Type 0
packet_steps s r t =
    MatchOption r (handed_out s.rest.now ≡ []) (λ p. handed_out s.rest.now ≡ item p ∷ handed_out t.rest.now)
