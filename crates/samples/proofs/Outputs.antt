-- Bytes that are the data of an output: a whole number that a sensor gives, and what a unit makes itself.
use Rattle.std.proofs.Common.{◌≡◌, ℕ, ◌*◌, List, ℤ, pos, Some, None, Option, sym, refl, ap, ◌∙◌, ◌≢◌, arith}
use Rattle.std.specs.Option.{option_map}
use Rattle.std.proofs.lemmas.Bool.{ne_eqb}
use Rattle.xbus.specs.Numbers.{be}
use Rattle.mti.specs.declared.channel.Kind.{Kind}
use Rattle.mti.specs.declared.channel.Kind.TheVariants.{Whole}
use Rattle.mti.specs.declared.output.Output.{Output}
use Rattle.mti.specs.declared.precision.Precision.{Precision}
use Rattle.mti.specs.declared.channel.Availability.TheVariants.{All}
use Rattle.mti.specs.Channels.{row, channel_of}
use Rattle.mti.specs.Identifiers.{bytes_of, size_of}
use Rattle.mti.specs.Table.{Row}
use Rattle.session.specs.declared.counts.Counts.{Counts}
use Rattle.session.specs.Model.{Meaning}
use Rattle.session.specs.Sampling.{whole_bytes, measured, data_of}
use Rattle.session.proofs.Packed.{size_at}
use Rattle.session.proofs.OutputData.{low_bytes}
use Rattle.samples.proofs.Readings.{SendsWhole}

-- a whole number in its lowest bytes
whole_is : (w v : ℕ) (r : Option ℤ) → Some (pos v) ≡ r → option_map (whole_bytes w) r ≡ Some (be w v)
whole_is w v r e = ap (option_map (whole_bytes w)) (sym e) ∙ ap (λ (xs : List ℕ). Some xs) (low_bytes w v)

pub whole_measured : (readings : ℕ → Option ℤ) (p : Precision) (kind : Kind) (w v len : ℕ) (out : List ℕ) → kind ≡ Whole w
    → Some (pos v) ≡ readings 0 → len ≡ bytes_of kind p → out ≡ be len v → measured readings p kind ≡ Some out
whole_measured readings p kind w v len out k e size is =
    let width : len ≡ w = size ∙ ap (λ (x : Kind). bytes_of x p) k in
    ap (measured readings p) k ∙ whole_is w v (readings 0) e
    ∙ ap (λ (xs : List ℕ). Some xs) (sym (is ∙ ap (λ (x : ℕ). be x v) width))

-- the status word's channel
pub sends_status : SendsWhole 0xE020
sends_status = (row 0xE020 (Whole 4) 2000 All, (4, (((18, omega arith, refl), refl), refl)))

module _ (f : Meaning) (n : Counts) (o : Output) (r : Row o.channel) (len : ℕ) (out : List ℕ) (size : len ≡ size_of o) where
  -- so many bytes of a number, under an identifier whose data are as long
  own : (w v u : ℕ) → size_of o ≡ w → u ≡ v → out ≡ be len u → data_of f n o ≡ Some (be w v) → data_of f n o ≡ Some out
  own w v u s e is d = d ∙ ap (λ (xs : List ℕ). Some xs) ((λ t. be (sym (size ∙ s) t) (sym e t)) ∙ sym is)

  pub counter : (u : ℕ) → o.channel.identifier ≡ 0x1020 → u ≡ n.sent → out ≡ be len u → data_of f n o ≡ Some out
  unfolding data_of channel_of
  counter u i e is = own 2 n.sent u (size_at 0x1020 2 _ o r i refl refl) e is (rw i refl)

  pub fine_time : (u : ℕ) → o.channel.identifier ≡ 0x1060 → u ≡ 5 * n.number → out ≡ be len u → data_of f n o ≡ Some out
  unfolding data_of channel_of
  fine_time u i e is = own 4 (5 * n.number) u (size_at 0x1060 4 _ o r i refl refl) e is (rw i refl)

  pub coarse_time : (u : ℕ) → o.channel.identifier ≡ 0x1070 → u ≡ n.seconds → out ≡ be len u → data_of f n o ≡ Some out
  unfolding data_of channel_of
  coarse_time u i e is = own 4 n.seconds u (size_at 0x1070 4 _ o r i refl refl) e is (rw i refl)

  pub status_byte : (u v : ℕ) → o.channel.identifier ≡ 0xE010 → u ≡ v → Some (pos v) ≡ f 0xE020 0 n.number → out ≡ be len u → data_of f n o ≡ Some out
  unfolding data_of channel_of
  status_byte u v i e reads is = own 1 v u (size_at 0xE010 1 _ o r i refl refl) e is (rw i (whole_is 1 v _ reads))

pub no_status : (f : Meaning) (n : Counts) (o : Output) → o.channel.identifier ≡ 0xE010 → None ≡ f 0xE020 0 n.number → data_of f n o ≡ None
unfolding data_of
no_status f n o i e = rw i (ap (option_map (whole_bytes 1)) (sym e))

-- the others are measured
pub others : (f : Meaning) (n : Counts) (o : Output) → o.channel.identifier ≢ 0x1020 → o.channel.identifier ≢ 0x1060
    → o.channel.identifier ≢ 0x1070 → o.channel.identifier ≢ 0xE010
    → data_of f n o ≡ measured (λ k. f o.channel.identifier k n.number) o.precision o.channel.kind
unfolding data_of
others f n o a b c d =
    rw (ne_eqb _ 0x1020 a, ne_eqb _ 0x1060 b, ne_eqb _ 0x1070 c, ne_eqb _ 0xE010 d) refl
