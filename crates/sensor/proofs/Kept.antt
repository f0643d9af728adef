-- The ramp and recorded rows keep to the ranges.
use Rattle.std.proofs.Common.{◌≡◌, ℕ, ◌+◌, ◌*◌, ◌%◌, ◌^◌, ◌<◌, ltb, List, ℤ, Some, None, Option, sym, refl, ap, ◌∙◌, subst, arith}
use Rattle.std.specs.Option.{option_map, option_flatten}
use Rattle.std.proofs.lemmas.Bool.{cond_both}
use Rattle.std.proofs.lemmas.Int.{ints}
use Rattle.mti.specs.declared.channel.Channel.{Channel}
use Rattle.mti.specs.declared.channel.Kind.{Kind}
use Rattle.mti.specs.declared.channel.Kind.TheVariants.{Real, Whole}
use Rattle.mti.specs.Channels.{channel_of}
use Rattle.mti.specs.Table.{Bearer}
use Rattle.mti.proofs.Exact.{none_not_some}
use Rattle.mti.proofs.Rows.{channel_of_row}
use Rattle.sensor.specs.declared.records.Row.{Row}
use Rattle.sensor.specs.Questions.{made_by_unit, count_of, kind_at, asked_of}
use Rattle.sensor.specs.Ranges.{clamped_of, Within, Ranged}
use Rattle.sensor.specs.Ramps.{ramp_at, ramp_of}
use Rattle.sensor.specs.Records.{last_of, number_at, number_of, replayed_at, recorded_of}

-- at a channel of the table a sensor is asked for a number of its kind, or for none
asked_by : (c k : ℕ) (ch : Channel) (P : Option Kind → Type 0) → Bearer c ch → P None → P (Some ch.kind) → P (asked_of c k)
unfolding asked_of
asked_by c k ch P b none some =
    let found : channel_of c ≡ Some ch = ap channel_of (sym b.1) ∙ channel_of_row ch b.0 in
    let Q : Option Channel → Type 0 = λ o. P (kind_at k o) in
    cond_both (made_by_unit c) None (channel_of c) Q (λ _. none)
    (λ _. subst Q (sym found) (cond_both (ltb k (count_of ch.kind)) (Some ch.kind) None P (λ _. some) (λ _. none)))

-- a sensor with no number where it is not asked, and one within the range where it is, is in range everywhere
pub kept_ranged : (f : ℕ → ℕ → ℕ → Option Kind → Option ℤ) → ((c k t : ℕ) → f c k t None ≡ None)
    → ((c k t : ℕ) (kind : Kind) (v : ℤ) → t < 2 ^ 32 → f c k t (Some kind) ≡ Some v → Within kind v)
    → Ranged (λ c k t. f c k t (asked_of c k))
kept_ranged f none some = record {
  in_range = λ c k t h ch v b l.
      asked_by c k ch (λ o. f c k t o ≡ Some v → Within ch.kind v) b (λ e. absurd (none_not_some v (sym (none c k t) ∙ e)))
      (some c k t ch.kind v h);
}

ramp_within : (k t : ℕ) (kind : Kind) → t < 2 ^ 32 → Within kind (ramp_at k t kind)
ramp_within k t (Real n) h =
    let s : (k + 1) * t % 65536 < 65536 = omega arith in
    (omega (arith, ints), omega (arith, ints))
ramp_within k t (Whole w) h = (omega (arith, ints), omega (arith, ints))

pub ramp_ranged : Ranged ramp_of
unfolding ramp_of
ramp_ranged =
    kept_ranged (λ c k t. option_map (ramp_at k t)) (λ c k t. refl)
    (λ c k t kind v h e. let same : ramp_at k t kind ≡ v = cc in subst (Within kind) same (ramp_within k t kind h))

pub clamped_within : (kind : Kind) (v : ℤ) → Within kind (clamped_of kind v)
clamped_within (Real n) v = (grind (arith, ints), grind (arith, ints))
clamped_within (Whole w) v = (grind (arith, ints), grind (arith, ints))

replayed_within : (kind : Kind) (k : ℕ) (o : Option Row) (v : ℤ) → option_map (number_of kind k) o ≡ Some v → Within kind v
replayed_within kind k None v e = absurd (none_not_some v e)
replayed_within kind k (Some r) v e =
    let same : number_of kind k r ≡ v = cc in
    subst (Within kind) same (clamped_within kind (number_at k r))

pub recorded_ranged : (rows : List Row) → Ranged (recorded_of rows)
unfolding recorded_of
recorded_ranged rows =
    kept_ranged (λ c k t o. option_flatten (option_map (replayed_at rows c k t) o)) (λ c k t. refl)
    (λ c k t kind v h. replayed_within kind k (last_of c t rows) v)
