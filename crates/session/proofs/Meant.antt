-- A tick does the same with sensors that mean the same.
use Rattle.std.proofs.Common.{◌≡◌, ℕ, zero, suc, ◌+◌, ◌^◌, ◌<◌, cond, List, [], ◌∷◌, ℤ, Some, None, Option, refl, ap, ◌∙◌, arith}
use Rattle.std.specs.Option.{option_map}
use Rattle.mti.specs.declared.channel.Kind.{Kind}
use Rattle.mti.specs.declared.channel.Kind.TheVariants.{Real, Whole}
use Rattle.mti.specs.declared.output.Output.{Output}
use Rattle.mti.specs.declared.precision.Precision.{Precision}
use Rattle.mti.specs.Channels.{channel_of}
use Rattle.mti.specs.Identifiers.{known_of}
use Rattle.mti.specs.Table.{Row}
use Rattle.mti.proofs.Named.{known_sound}
use Rattle.mti.proofs.Rows.{row_of_channel}
use Rattle.sensor.specs.Questions.{count_of}
use Rattle.decision.specs.declared.states.State.{State}
use Rattle.decision.specs.declared.states.State.TheVariants.{WakeUp, Config, Measurement}
use Rattle.settings.specs.declared.record.Entry.{Entry}
use Rattle.session.specs.declared.counts.Counts.{Counts}
use Rattle.session.specs.Model.{Meaning, Core, World}
use Rattle.session.specs.Sampling.{due, reals_by, reals_from, whole_bytes, measured, data_of, data_by, packet_by, packets}
use Rattle.session.specs.Serving.{served}
use Rattle.session.specs.Ticking.{packets_by, packets_at, tick_by, tick}
use Rattle.session.specs.Moments.{Happening, powers, serves, ticks}
use Rattle.session.specs.Laws.{SameMeaning, Alike, does}

-- the readings agree at the indices of the data
reals_same : (r s : ℕ → Option ℤ) (p : Precision) (k n : ℕ) → ((j : ℕ) → j < k + n → r j ≡ s j) → reals_from r p k n ≡ reals_from s p k n
reals_same r s p k zero h = refl
reals_same r s p k (suc n) h =
    let here = h k (omega arith) in
    let rest = reals_same r s p (k + 1) n (λ j l. h j (omega arith)) in
    λ i. reals_by p (here i) (rest i)

measured_same : (r s : ℕ → Option ℤ) (p : Precision) (kind : Kind) → ((j : ℕ) → j < count_of kind → r j ≡ s j)
    → measured r p kind ≡ measured s p kind
measured_same r s p (Real n) h = reals_same r s p 0 n (λ j l. h j (omega arith))
measured_same r s p (Whole w) h = ap (option_map (whole_bytes w)) (h 0 (omega arith))

module _ (f g : Meaning) (n : Counts) (same : SameMeaning f g) (small : n.number < 2 ^ 32) where
  -- the status word, of which the status byte is a part, stands in the table too
  status_same : f 0xE020 0 n.number ≡ g 0xE020 0 n.number
  unfolding channel_of
  status_same = same _ 0 n.number (row_of_channel 0xE020 _ refl).0 (omega arith) small

  data_meant : (o : Output) → Row o.channel → data_of f n o ≡ data_of g n o
  unfolding data_of
  data_meant o r =
      let others = measured_same (λ k. f o.channel.identifier k n.number) (λ k. g o.channel.identifier k n.number) o.precision
      o.channel.kind (λ j l. same o.channel j n.number r l small) in
      rw (status_same, others)

  by_meant : (r : Option Output) (i : ℕ) → known_of i ≡ r → data_by f n r ≡ data_by g n r
  by_meant None i k = refl
  by_meant (Some o) i k = data_meant o (known_sound i o k).row

  all_meant : (es : List Entry) → packets f n es ≡ packets g n es
  unfolding packets
  all_meant [] = refl
  all_meant (e ∷ es) =
      let here = by_meant (known_of e.identifier) e.identifier refl in
      let rest = all_meant es in
      λ i. cond (due n.phase e) (packet_by e.identifier (here i) (rest i)) (rest i)

pub packets_meant : (f g : Meaning) (n : Counts) (es : List Entry) → SameMeaning f g → n.number < 2 ^ 32 → packets f n es ≡ packets g n es
packets_meant f g n es same small = all_meant f g n same small es

pub at_meant : (f g : Meaning) (c : Core) → SameMeaning f g → c.counts.number < 2 ^ 32 → packets_at f c ≡ packets_at g c
unfolding packets_at
at_meant f g c same small = by c.state
  where
    by : (s : Option State) → packets_by f s c ≡ packets_by g s c
    by None = refl
    by (Some WakeUp) = refl
    by (Some Config) = refl
    by (Some Measurement) = packets_meant f g c.counts c.settings.entries same small

tick_meant : (id : ℕ) (f g : Meaning) (c : Core) → SameMeaning f g → c.counts.number < 2 ^ 32 → tick id f c ≡ tick id g c
unfolding tick
tick_meant id f g c same small = ap (λ is. tick_by id is c.state c) (at_meant f g c same small)

pub does_meant : (v w : World) (h : Happening) (c : Core) → Alike v w → c.counts.number < 2 ^ 32 → does v h c ≡ does w h c
does_meant v w powers c a small = refl
does_meant v w (serves p) c a small = ap (λ id. served id p c) a.device_id
does_meant v w ticks c a small =
    ap (λ id. tick id v.meaning c) a.device_id ∙ tick_meant w.device_id v.meaning w.meaning c a.meaning small
