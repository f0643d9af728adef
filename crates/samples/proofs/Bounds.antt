-- A tick's data are at most 412 bytes: one packet for each of the nineteen channels, all real numbers doubles.
use Rattle.std.proofs.Common.{◌≡◌, ℕ, zero, suc, ◌+◌, ◌≤◌, ◌<◌, true, false, not, eqb, ◌≢◌, List, [], ◌∷◌, length, get_or, Some, None, Option, sym, refl, ap, ◌∙◌, subst, inl, inr, arith}
use Rattle.std.specs.List.{flat_map, AllByRecursion}
use Rattle.std.proofs.lemmas.List.{length-append}
use Rattle.std.proofs.lemmas.Bool.{and_parts, not-true, eqb-false, le-ltb}
use Rattle.mti.specs.declared.channel.Channel.{Channel}
use Rattle.mti.specs.declared.channel.Kind.{Kind}
use Rattle.mti.specs.declared.channel.Kind.TheVariants.{Real, Whole}
use Rattle.mti.specs.declared.output.Output.{Output}
use Rattle.mti.specs.declared.precision.Precision.{Precision}
use Rattle.mti.specs.declared.precision.Precision.TheVariants.{Single, Fixed32, Fixed48, Double}
use Rattle.mti.specs.declared.product.Product.{Product}
use Rattle.mti.specs.Channels.{channels, channel_of}
use Rattle.mti.specs.Identifiers.{plain, bytes_of, size_of, Known}
use Rattle.mti.proofs.Digits.{digit_small}
use Rattle.mti.proofs.Named.{known_sound}
use Rattle.mti.proofs.Rows.{orderly_table, channel_of_row}
use Rattle.mtdata2.specs.Packets.{item_of, packet_bytes}
use Rattle.settings.specs.declared.record.Entry.{Entry}
use Rattle.settings.specs.Values.{Values}
use Rattle.settings.specs.Valid.{unlisted, valid_entry, valid_entries, valid}
use Rattle.settings.specs.Rules.{Offered}
use Rattle.settings.proofs.Judged.{valid_passed}
use Rattle.settings.proofs.Worded.{entries_each}
use Rattle.decision.specs.declared.states.State.{State}
use Rattle.decision.specs.declared.states.State.TheVariants.{WakeUp, Config, Measurement}
use Rattle.session.specs.declared.counts.Counts.{Counts}
use Rattle.session.specs.Model.{Meaning, Model}
use Rattle.session.specs.Sampling.{packets}
use Rattle.session.specs.Ticking.{packets_by, packets_at}
use Rattle.session.specs.Calls.{too_long}
use Rattle.session.proofs.Packed.{data_size_lem, packets_by_lem}
use Rattle.samples.proofs.Weights.{In, Apart, total, weighs_no_more}

-- ---- what an entry weighs

-- the bytes of a channel's packet in double precision
abbrev most_of : Option Channel → ℕ
most_of None = 0
most_of (Some c) = 3 + bytes_of c.kind Double

abbrev weight : ℕ → ℕ
weight i = most_of (channel_of i)

abbrev keys : List Entry → List ℕ
keys [] = []
keys (e ∷ es) = plain e.identifier ∷ keys es

bytes_most : (k : Kind) (p : Precision) → bytes_of k p ≤ bytes_of k Double
bytes_most (Real n) Single = omega arith
bytes_most (Real n) Fixed32 = omega arith
bytes_most (Real n) Fixed48 = omega arith
bytes_most (Real n) Double = omega arith
bytes_most (Whole w) p = omega arith

plain_known : (i : ℕ) (o : Output) → Known i o → plain i ≡ o.channel.identifier
plain_known i o k =
    let z = (orderly_table.regular o.channel k.row).format_0 in
    let s = digit_small o.precision in
    omega (arith, k.spelt)

weight_known : (i : ℕ) (o : Output) → Known i o → 3 + size_of o ≤ weight (plain i)
weight_known i o k =
    let e : channel_of (plain i) ≡ Some o.channel = ap channel_of (plain_known i o k) ∙ channel_of_row o.channel k.row in
    rw e (omega (arith, bytes_most o.channel.kind o.precision))

packets_weigh : (f : Meaning) (n : Counts) (es : List Entry) → length (flat_map packet_bytes (packets f n es)) ≤ total weight (keys es)
unfolding packets
packets_weigh f n [] = omega arith
packets_weigh f n (e ∷ es) =
    let h = packets_weigh f n es in
    packets_by_lem f n e es (λ is. length (flat_map packet_bytes is) ≤ weight (plain e.identifier) + total weight (keys es)) (omega arith)
    (λ o xs k d.
    omega (
      arith,
      length-append (packet_bytes (item_of e.identifier xs)) (flat_map packet_bytes (packets f n es)),
      data_size_lem f n e.identifier o xs k d,
      weight_known e.identifier o (known_sound e.identifier o k),
    ))

-- ---- valid entries are of channels of the table, and no two of one

abbrev identifiers : List Channel → List ℕ
identifiers [] = []
identifiers (c ∷ cs) = c.identifier ∷ identifiers cs

in_by : (cs : List Channel) (c : Channel) (k : ℕ) → k < length cs → get_or cs k c ≡ c → In c.identifier (identifiers cs)
in_by [] c k h e = absurd (omega arith)
in_by (x ∷ cs) c zero h e = inl (ap (λ (y : Channel). y.identifier) (sym e))
in_by (x ∷ cs) c (suc k) h e = inr (in_by cs c k (omega arith) e)

offered_in : (p : Product) (es : List Entry) → AllByRecursion (Offered p) es → AllByRecursion (λ k. In k (identifiers channels)) (keys es)
offered_in p [] a = tt
offered_in p (e ∷ es) a =
    let o = a.0.output in
    let r = a.0.known.row in
    let at : In o.channel.identifier (identifiers channels) = in_by channels o.channel r.0 r.1 r.2 in
    (subst (λ k. In k (identifiers channels)) (sym (plain_known e.identifier o a.0.known)) at, offered_in p es a.1)

unlisted_apart : (k : ℕ) (es : List Entry) → unlisted k es ≡ true → AllByRecursion (λ j. j ≢ k) (keys es)
unlisted_apart k [] v = tt
unlisted_apart k (e ∷ es) v =
    let p = and_parts (not (eqb (plain e.identifier) k)) (unlisted k es) v in
    (eqb-false _ _ (not-true _ p.0), unlisted_apart k es p.1)

entries_apart : (p : Product) (es : List Entry) → valid_entries p es ≡ true → Apart (keys es)
entries_apart p [] v = tt
entries_apart p (e ∷ es) v =
    let a = and_parts (valid_entry p e) _ v in
    let b = and_parts (unlisted (plain e.identifier) es) _ a.1 in
    (unlisted_apart (plain e.identifier) es b.0, entries_apart p es b.1)

-- ---- the bound

table_weighs : total weight (identifiers channels) ≡ 412
unfolding channel_of
table_weighs = refl

pub entries_few : (f : Meaning) (n : Counts) (p : Product) (es : List Entry) → valid_entries p es ≡ true
    → length (flat_map packet_bytes (packets f n es)) ≤ 412
entries_few f n p es v =
    omega (
      arith,
      packets_weigh f n es,
      weighs_no_more weight (identifiers channels) (keys es) (entries_apart p es v) (offered_in p es (entries_each p es v)),
      table_weighs,
    )

pub data_few : (f : Meaning) (n : Counts) (c : Values) → valid c ≡ true → length (flat_map packet_bytes (packets f n c.entries)) ≤ 412
data_few f n c v = entries_few f n c.product c.entries (valid_passed c v).entries

-- no tick of a unit with valid settings is refused for its length
pub never_too_long : (m : Model) → valid m.core.settings ≡ true → too_long m ≡ false
unfolding packets_at
never_too_long m v = le-ltb 2048 _ (by m.core.state)
  where
    by : (s : Option State) → length (flat_map packet_bytes (packets_by m.meaning s m.core)) ≤ 2048
    by None = omega arith
    by (Some WakeUp) = omega arith
    by (Some Config) = omega arith
    by (Some Measurement) = omega (arith, data_few m.meaning m.core.counts m.core.settings v)
