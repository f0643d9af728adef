-- What a tick in Measurement sends.
use Rattle.std.specs.Prelude.{ℕ, zero, suc, ◌+◌, ◌*◌, ◌/◌, ◌%◌, Bool, cond, List, [], ◌∷◌, ◌++◌, ℤ, Some, None, Option, ◌==◌}
use Rattle.std.specs.Option.{option_map}
use Rattle.xbus.specs.Numbers.{be}
use Rattle.mti.specs.declared.channel.Kind.{Kind}
use Rattle.mti.specs.declared.channel.Kind.TheVariants.{Real, Whole}
use Rattle.mti.specs.declared.precision.Precision.{Precision}
use Rattle.mti.specs.declared.output.Output.{Output}
use Rattle.mti.specs.Identifiers.{known_of}
use Rattle.numbers.specs.Encoding.{encoded, twos}
use Rattle.mtdata2.specs.Packets.{Item, item_of}
use Rattle.settings.specs.declared.record.Entry.{Entry}
use Rattle.session.specs.declared.counts.Counts.{Counts}
use Rattle.session.specs.Model.{Meaning}

-- an entry is due at each phase that its interval divides
abbrev pub due : ℕ → Entry → Bool
due phase e = phase % (2000 / e.frequency) == 0

-- the real numbers at n indices from k on, one behind the other; none if one is absent
abbrev pub appended : List ℕ → Option (List ℕ) → Option (List ℕ)
appended xs None = None
appended xs (Some ys) = Some (xs ++ ys)

abbrev pub reals_by : Precision → Option ℤ → Option (List ℕ) → Option (List ℕ)
reals_by p None rest = None
reals_by p (Some v) rest = appended (encoded p v) rest

abbrev pub reals_from : (ℕ → Option ℤ) → Precision → ℕ → ℕ → Option (List ℕ)
reals_from readings p k zero = Some []
reals_from readings p k (suc n) = reals_by p (readings k) (reals_from readings p (k + 1) n)

-- a whole number in so many bytes
abbrev pub whole_bytes : ℕ → ℤ → List ℕ
whole_bytes w v = be w (twos w v)

-- the data of a channel that is measured, by the readings at its indices
abbrev pub measured : (ℕ → Option ℤ) → Precision → Kind → Option (List ℕ)
measured readings p (Real n) = reals_from readings p 0 n
measured readings p (Whole w) = option_map (whole_bytes w) (readings 0)

-- the data of an output: the unit counts 1020 (messages sent before), 1060 (time in units of 0.1 ms) and 1070 (seconds)
-- itself, and E010 is the low byte of E020
unfoldable pub data_of : Meaning → Counts → Output → Option (List ℕ)
data_of m n o =
    cond (o.channel.identifier == 0x1020) (Some (be 2 n.sent))
    (cond (o.channel.identifier == 0x1060) (Some (be 4 (5 * n.number)))
    (cond (o.channel.identifier == 0x1070) (Some (be 4 n.seconds))
    (cond (o.channel.identifier == 0xE010) (option_map (whole_bytes 1) (m 0xE020 0 n.number))
    (measured (λ k. m o.channel.identifier k n.number) o.precision o.channel.kind))))

abbrev pub data_by : Meaning → Counts → Option Output → Option (List ℕ)
data_by m n None = None
data_by m n (Some o) = data_of m n o

-- the packets of the entries that are due, in list order; a channel that is absent is omitted
abbrev pub packet_by : ℕ → Option (List ℕ) → List Item → List Item
packet_by i None rest = rest
packet_by i (Some xs) rest = item_of i xs ∷ rest

unfoldable pub packets : Meaning → Counts → List Entry → List Item
packets m n [] = []
packets m n (e ∷ es) =
    cond (due n.phase e) (packet_by e.identifier (data_by m n (known_of e.identifier)) (packets m n es)) (packets m n es)
