-- The sizes of data, and bytes written entry after entry.
use Rattle.std.proofs.Common.{◌≡◌, ℕ, ◌+◌, ◌*◌, ◌<◌, ◌≤◌, List, [], ◌∷◌, ◌++◌, length, replicate, get_or, take, Some, None, Option, sym, refl, ap, ◌∙◌, append-nil, ◌/◌, ◌%◌, arith}
use Rattle.std.specs.List.{sum_by, flat_map}
use Rattle.std.proofs.lemmas.List.Sums.{sum_by-cons}
use Rattle.std.proofs.lemmas.List.{take_more, take_more_set}
use Rattle.std.proofs.lemmas.List.Concat.{flat_map-append}
use Rattle.std.proofs.Math.ListN.{set}
use Rattle.mti.specs.Identifiers.{data_size_of, Bounded}
use Rattle.mti.proofs.Named.{size_bounded}
use Rattle.xbus.specs.Numbers.{be}
use Rattle.xbus.proofs.Widths.{two_bytes, four_bytes}
use Rattle.settings.specs.declared.record.Entry.{Entry}
use Rattle.settings.specs.Values.{entry}
use Rattle.config.specs.Answered.{configured, packet_bytes, data_bytes, output_bytes}

packet_bounded : (r : Option ℕ) → Bounded r → packet_bytes r ≤ 75
packet_bounded None b = omega arith
packet_bounded (Some n) b = omega arith

packet_few : (i : ℕ) → packet_bytes (data_size_of i) ≤ 75
packet_few i = packet_bounded (data_size_of i) (size_bounded i (data_size_of i) refl)

pub data_few : (es : List Entry) → data_bytes es ≤ 75 * length es
data_few [] = omega arith
data_few (e ∷ es) = omega (arith, packet_few e.identifier, data_few es)

output_push : (es : List Entry) (e : Entry) → output_bytes (es ++ (e ∷ [])) ≡ output_bytes es ++ (be 2 e.identifier ++ be 2 e.frequency)
output_push [] e = append-nil _
output_push (x ∷ es) e = ap (λ (ys : List ℕ). be 2 x.identifier ++ be 2 x.frequency ++ ys) (output_push es e)

-- one entry more is written
pub written_more : (es : List Entry) (i : ℕ) (out : List (List ℕ)) (four : List ℕ) → i < length es → i < length out
    → flat_map (λ bytes. bytes) (take i out) ≡ output_bytes (take i es)
    → four ≡ be 2 (get_or es i (entry 0 0)).identifier ++ be 2 (get_or es i (entry 0 0)).frequency
    → flat_map (λ bytes. bytes) (take (i + 1) (set out i four)) ≡ output_bytes (take (i + 1) es)
written_more es i out four h room inv e =
    ap (flat_map (λ bytes. bytes)) (take_more_set out i four room)
    ∙ flat_map-append (λ bytes. bytes) (take i out) (four ∷ [])
    ∙ (λ t. inv t ++ (append-nil four ∙ e) t)
    ∙ sym (ap output_bytes (take_more es i (entry 0 0) h) ∙ output_push (take i es) (get_or es i (entry 0 0)))

pub configured_is : (id size : ℕ)
    → (id / 16777216 % 256 ∷ id / 65536 % 256 ∷ id / 256 % 256 ∷ id % 256 ∷ []) ++ replicate 92 0
    ++ (0 ∷ 1 ∷ id / 16777216 % 256 ∷ id / 65536 % 256 ∷ id / 256 % 256 ∷ id % 256 ∷ size / 256 % 256 ∷ size % 256 ∷ [])
    ++ replicate 14 0
    ≡ configured id size
configured_is id size =
    λ t. four_bytes id t ++ replicate 92 0 ++ (0 ∷ 1 ∷ []) ++ four_bytes id t ++ two_bytes size t ++ replicate 14 0

abbrev pub entry_bytes : Entry → ℕ
entry_bytes e = packet_bytes (data_size_of e.identifier)

pub data_sum : (es : List Entry) → sum_by entry_bytes es ≡ data_bytes es
data_sum [] = refl
data_sum (e ∷ es) = sum_by-cons entry_bytes e es ∙ ap (λ n. entry_bytes e + n) (data_sum es)
