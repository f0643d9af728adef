-- The packets of a tick: their sizes, their bytes, and that they are well-formed.
use Rattle.std.proofs.Common.{◌≡◌, ℕ, zero, suc, ◌+◌, ◌*◌, ◌<◌, ◌≤◌, false, eqb, List, [], ◌∷◌, length, ℤ, IfSome, Some, None, Option, sym, refl, ap, ◌∙◌, arith}
use Rattle.std.specs.List.{flat_map, AllByRecursion}
use Rattle.std.specs.Option.{option_map}
use Rattle.std.proofs.lemmas.List.{length-append}
use Rattle.std.proofs.lemmas.Bool.{cond_both, eqb-true, or_from}
use Rattle.xbus.specs.Numbers.{Bytes, be}
use Rattle.xbus.proofs.Bytes.{bytes_append, bytes_be}
use Rattle.xbus.proofs.Widths.{length_be}
use Rattle.mti.specs.declared.channel.Channel.{Channel}
use Rattle.mti.specs.declared.channel.Kind.{Kind}
use Rattle.mti.specs.declared.channel.Kind.TheVariants.{Real, Whole}
use Rattle.mti.specs.declared.output.Output.{Output}
use Rattle.mti.specs.declared.precision.Precision.{Precision}
use Rattle.mti.specs.Channels.{channel_of}
use Rattle.mti.specs.Identifiers.{known_of, bytes_of, size_of}
use Rattle.mti.specs.Precisions.{width_of}
use Rattle.mti.specs.Table.{Row}
use Rattle.mti.proofs.Exact.{none_not_some}
use Rattle.mti.proofs.Rows.{channel_of_row}
use Rattle.mti.proofs.Named.{known_sound, known_size_bounded}
use Rattle.numbers.specs.Encoding.{encoded, twos}
use Rattle.numbers.proofs.Bytes.{encoded_length, encoded_bytes}
use Rattle.mtdata2.specs.Packets.{Item, item_of, packet_bytes, EachWellFormed}
use Rattle.sensor.specs.Questions.{made_by_unit}
use Rattle.settings.specs.declared.record.Entry.{Entry}
use Rattle.session.specs.declared.counts.Counts.{Counts}
use Rattle.session.specs.Model.{Meaning}
use Rattle.session.specs.Sampling.{due, reals_by, reals_from, whole_bytes, measured, data_of, data_by, packet_by, packets}

-- ---- what is said of the data, if there are any

abbrev IfThere : (List ℕ → Type 0) → Option (List ℕ) → Type 0
IfThere P r = IfSome r P

there : (P : List ℕ → Type 0) (r : Option (List ℕ)) (xs : List ℕ) → IfThere P r → r ≡ Some xs → P xs
there P None xs h e = absurd (none_not_some xs e)
there P (Some ys) xs h e = let same : ys ≡ xs = cc in rw (sym same) h

mapped_there : (P : List ℕ → Type 0) (w : ℕ) (r : Option ℤ) → ((v : ℤ) → P (whole_bytes w v)) → IfThere P (option_map (whole_bytes w) r)
mapped_there P w None h = tt
mapped_there P w (Some v) h = h v

-- the data are one of five
pub data_by_lem : (f : Meaning) (n : Counts) (o : Output) (P : Option (List ℕ) → Type 0)
    → (o.channel.identifier ≡ 0x1020 → P (Some (be 2 n.sent)))
    → (o.channel.identifier ≡ 0x1060 → P (Some (be 4 (5 * n.number))))
    → (o.channel.identifier ≡ 0x1070 → P (Some (be 4 n.seconds)))
    → (o.channel.identifier ≡ 0xE010 → P (option_map (whole_bytes 1) (f 0xE020 0 n.number)))
    → (made_by_unit o.channel.identifier ≡ false
    → P (measured (λ k. f o.channel.identifier k n.number) o.precision o.channel.kind))
    → P (data_of f n o)
unfolding data_of
data_by_lem f n o P sent time seconds status other =
    let i : ℕ = o.channel.identifier in
    cond_both (eqb i 0x1020) _ _ P (λ t. sent (eqb-true _ _ t))
    (λ a. cond_both (eqb i 0x1060) _ _ P (λ t. time (eqb-true _ _ t))
    (λ b. cond_both (eqb i 0x1070) _ _ P (λ t. seconds (eqb-true _ _ t))
    (λ c. cond_both (eqb i 0xE010) _ _ P (λ t. status (eqb-true _ _ t))
    (λ d. other (or_from (eqb i 0x1020) _ a (or_from (eqb i 0x1060) _ b (or_from (eqb i 0x1070) _ c d)))))))

-- ---- sizes

-- the table has one row under an identifier
one_row : (i : ℕ) (c d : Channel) → Row c → c.identifier ≡ i → channel_of i ≡ Some d → c ≡ d
one_row i c d r e f = let g = channel_of_row c r in let h = ap channel_of e in cc

-- the bytes of the data under an identifier of the table
pub size_at : (i w : ℕ) (d : Channel) (o : Output) → Row o.channel → o.channel.identifier ≡ i → channel_of i ≡ Some d → d.kind ≡ Whole w
    → size_of o ≡ w
size_at i w d o r e f k =
    ap (λ (c : Channel). bytes_of c.kind o.precision) (one_row i o.channel d r e f)
    ∙ ap (λ (x : Kind). bytes_of x o.precision) k

reals_size : (readings : ℕ → Option ℤ) (p : Precision) (k n : ℕ) → IfThere (λ xs. length xs ≡ n * width_of p) (reals_from readings p k n)
reals_size readings p k zero = omega arith
reals_size readings p k (suc n) = by (readings k) (reals_from readings p (k + 1) n) (reals_size readings p (k + 1) n)
  where
    by : (v : Option ℤ) (r : Option (List ℕ)) → IfThere (λ xs. length xs ≡ n * width_of p) r
        → IfThere (λ xs. length xs ≡ suc n * width_of p) (reals_by p v r)
    by None r h = tt
    by (Some v) None h = tt
    by (Some v) (Some ys) h = omega (arith, length-append (encoded p v) ys, encoded_length p v)

measured_size : (readings : ℕ → Option ℤ) (p : Precision) (k : Kind) → IfThere (λ xs. length xs ≡ bytes_of k p) (measured readings p k)
measured_size readings p (Real n) = reals_size readings p 0 n
measured_size readings p (Whole w) = mapped_there _ w (readings 0) (λ v. length_be w (twos w v))

pub data_size_lem : (f : Meaning) (n : Counts) (i : ℕ) (o : Output) (xs : List ℕ) → known_of i ≡ Some o → data_of f n o ≡ Some xs
    → length xs ≡ size_of o
unfolding channel_of
data_size_lem f n i o xs e d =
    let r = (known_sound i o e).row in
    let P : List ℕ → Type 0 = λ ys. length ys ≡ size_of o in
    there P (data_of f n o) xs
    (data_by_lem f n o (IfThere P)
    (λ h. sym (size_at 0x1020 2 _ o r h refl refl))
    (λ h. sym (size_at 0x1060 4 _ o r h refl refl))
    (λ h. sym (size_at 0x1070 4 _ o r h refl refl))
    (λ h. mapped_there P 1 _ (λ v. sym (size_at 0xE010 1 _ o r h refl refl)))
    (λ u. measured_size _ o.precision o.channel.kind))
    d

-- ---- bytes

reals_bytes : (readings : ℕ → Option ℤ) (p : Precision) (k n : ℕ) → IfThere Bytes (reals_from readings p k n)
reals_bytes readings p k zero = tt
reals_bytes readings p k (suc n) = by (readings k) (reals_from readings p (k + 1) n) (reals_bytes readings p (k + 1) n)
  where
    by : (v : Option ℤ) (r : Option (List ℕ)) → IfThere Bytes r → IfThere Bytes (reals_by p v r)
    by None r h = tt
    by (Some v) None h = tt
    by (Some v) (Some ys) h = bytes_append (encoded p v) ys (encoded_bytes p v) h

measured_bytes : (readings : ℕ → Option ℤ) (p : Precision) (k : Kind) → IfThere Bytes (measured readings p k)
measured_bytes readings p (Real n) = reals_bytes readings p 0 n
measured_bytes readings p (Whole w) = mapped_there Bytes w (readings 0) (λ v. bytes_be w (twos w v))

-- whatever the output
pub data_bytes_lem : (f : Meaning) (n : Counts) (o : Output) (xs : List ℕ) → data_of f n o ≡ Some xs → Bytes xs
data_bytes_lem f n o xs d =
    there Bytes (data_of f n o) xs
    (data_by_lem f n o (IfThere Bytes) (λ h. bytes_be 2 _) (λ h. bytes_be 4 _) (λ h. bytes_be 4 _)
    (λ h. mapped_there Bytes 1 _ (λ v. bytes_be 1 _)) (λ u. measured_bytes _ o.precision o.channel.kind))
    d

-- ---- packets

-- an entry adds nothing, or one packet of the data of what it names
pub packets_by_lem : (f : Meaning) (n : Counts) (e : Entry) (es : List Entry) (P : List Item → Type 0) → P (packets f n es)
    → ((o : Output) (xs : List ℕ) → known_of e.identifier ≡ Some o → data_of f n o ≡ Some xs
    → P (item_of e.identifier xs ∷ packets f n es))
    → P (packets f n (e ∷ es))
unfolding packets
packets_by_lem f n e es P none some = cond_both (due n.phase e) _ _ P (λ _. known (known_of e.identifier) refl) (λ _. none)
  where
    given : (o : Output) → known_of e.identifier ≡ Some o → (r : Option (List ℕ)) → data_of f n o ≡ r
        → P (packet_by e.identifier r (packets f n es))
    given o k None d = none
    given o k (Some xs) d = some o xs k d

    known : (r : Option Output) → known_of e.identifier ≡ r → P (packet_by e.identifier (data_by f n r) (packets f n es))
    known None k = none
    known (Some o) k = given o k (data_of f n o) refl

-- the data of a packet are at most 72 bytes
data_short : (f : Meaning) (n : Counts) (i : ℕ) (o : Output) (xs : List ℕ) → known_of i ≡ Some o → data_of f n o ≡ Some xs → length xs ≤ 72
data_short f n i o xs k d = omega (arith, data_size_lem f n i o xs k d, (known_size_bounded i o (known_sound i o k)).1)

pub packets_bytes : (f : Meaning) (n : Counts) (es : List Entry) → Bytes (flat_map packet_bytes (packets f n es))
unfolding packets
packets_bytes f n [] = tt
packets_bytes f n (e ∷ es) =
    packets_by_lem f n e es (λ is. Bytes (flat_map packet_bytes is)) (packets_bytes f n es)
    (λ o xs k d.
    let s = data_short f n e.identifier o xs k d in
    bytes_append (packet_bytes (item_of e.identifier xs)) (flat_map packet_bytes (packets f n es))
    (bytes_append (be 2 e.identifier) (length xs ∷ xs) (bytes_be 2 e.identifier) (omega arith, data_bytes_lem f n o xs d))
    (packets_bytes f n es))

pub packets_formed : (f : Meaning) (n : Counts) (es : List Entry) → AllByRecursion (λ e. e.identifier < 65536) es → EachWellFormed (packets f n es)
unfolding packets
packets_formed f n [] a = tt
packets_formed f n (e ∷ es) a =
    packets_by_lem f n e es EachWellFormed (packets_formed f n es a.1)
    (λ o xs k d.
    let s = data_short f n e.identifier o xs k d in (
      record {
        holds = refl;
        identifier = a.0;
        bytes = data_bytes_lem f n o xs d;
        short = omega arith;
        size = λ z q.
            let g = data_size_lem f n e.identifier o xs k d in
            let h = ap (λ (x : Option Output). option_map size_of x) k in
            cc;
      },
      packets_formed f n es a.1,
    ))

-- each has at most 72 data bytes, and there are no more than entries
pub packets_sizes : (f : Meaning) (n : Counts) (es : List Entry)
    → AllByRecursion (λ i. length i.bytes ≤ 72) (packets f n es) × (length (packets f n es) ≤ length es)
unfolding packets
packets_sizes f n [] = (tt, omega arith)
packets_sizes f n (e ∷ es) =
    let h = packets_sizes f n es in
    packets_by_lem f n e es (λ is. AllByRecursion (λ i. length i.bytes ≤ 72) is × (length is ≤ suc (length es))) (h.0, omega arith)
    (λ o xs k d. ((data_short f n e.identifier o xs k d, h.0), omega arith))
