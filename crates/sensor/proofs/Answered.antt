-- What a sensor is asked for, in the words of the table.
use Rattle.std.proofs.Common.{◌≡◌, ℕ, ◌<◌, false, eqb, ltb, Some, None, Option, sym, refl, ap, ◌∙◌, subst, arith}
use Rattle.std.proofs.lemmas.Bool.{cond_both, cond-true, cond-false, or_parts, or_from, eqb-false, ne_eqb, ltb-true, lt-ltb}
use Rattle.mti.specs.declared.channel.Channel.{Channel}
use Rattle.mti.specs.declared.channel.Kind.{Kind}
use Rattle.mti.specs.declared.channel.Kind.TheVariants.{Real, Whole}
use Rattle.mti.specs.Channels.{channel_of}
use Rattle.mti.specs.Exactly.{Exactly}
use Rattle.mti.specs.Table.{Bearer, Moderate}
use Rattle.mti.proofs.Exact.{exactly, none_not_some}
use Rattle.mti.proofs.Rows.{orderly_table, channel_of_row, row_of_channel}
use Rattle.sensor.specs.Questions.{made_by_unit, measured_of, count_of, kind_at, asked_of, Asked, Few}

kind_parts : (k : ℕ) (o : Option Channel) (kind : Kind) → kind_at k o ≡ Some kind
    → (ch : Channel) × (o ≡ Some ch) × (ch.kind ≡ kind) × (k < count_of kind)
kind_parts k None kind e = absurd (none_not_some kind e)
kind_parts k (Some ch) kind e =
    let P : Option Kind → Type 0 = λ r. r ≡ Some kind → (x : Channel) × (Some ch ≡ Some x) × (x.kind ≡ kind) × (k < count_of kind) in
    cond_both (ltb k (count_of ch.kind)) (Some ch.kind) None P
    (λ t f.
    let same : ch.kind ≡ kind = cc in
    (ch, refl, same, subst (λ (x : Kind). k < count_of x) same (ltb-true _ _ t)))
    (λ t f. absurd (none_not_some kind f))
    e

measured_parts : (c : ℕ) (ch : Channel) → measured_of c ≡ Some ch → (made_by_unit c ≡ false) × (channel_of c ≡ Some ch)
measured_parts c ch e =
    let P : Option Channel → Type 0 = λ r. r ≡ Some ch → (made_by_unit c ≡ false) × (channel_of c ≡ Some ch) in
    cond_both (made_by_unit c) None (channel_of c) P (λ t f. absurd (none_not_some ch f)) (λ t f. (t, f)) e

pub asked_sound : (c k : ℕ) (kind : Kind) → asked_of c k ≡ Some kind → Asked c k kind
unfolding asked_of
asked_sound c k kind e =
    let p = kind_parts k (measured_of c) kind e in
    let q = measured_parts c p.0 p.1 in
    let a = or_parts (eqb c 0x1020) _ q.0 in
    let b = or_parts (eqb c 0x1060) _ a.1 in
    let d = or_parts (eqb c 0x1070) _ b.1 in
    record {
      channel = p.0;
      bears = row_of_channel c p.0 q.1;
      kind_is = p.2;
      not_counter = eqb-false _ _ a.0;
      not_fine_time = eqb-false _ _ b.0;
      not_coarse_time = eqb-false _ _ d.0;
      not_status_byte = eqb-false _ _ d.1;
      in_data = p.3;
    }

channel_of_bearer : (c : ℕ) (ch : Channel) → Bearer c ch → channel_of c ≡ Some ch
channel_of_bearer c ch b = ap channel_of (sym b.1) ∙ channel_of_row ch b.0

pub asked_complete : (c k : ℕ) (kind : Kind) → Asked c k kind → asked_of c k ≡ Some kind
unfolding asked_of
asked_complete c k kind a =
    let ch = a.channel in
    let own =
    or_from (eqb c 0x1020) _ (ne_eqb _ _ a.not_counter)
    (or_from (eqb c 0x1060) _ (ne_eqb _ _ a.not_fine_time)
    (or_from (eqb c 0x1070) _ (ne_eqb _ _ a.not_coarse_time) (ne_eqb _ _ a.not_status_byte))) in
    let found = cond-false (made_by_unit c) None (channel_of c) own ∙ channel_of_bearer c ch a.bears in
    let few = subst (λ (x : Kind). k < count_of x) (sym a.kind_is) a.in_data in
    ap (kind_at k) found ∙ cond-true _ _ _ (lt-ltb _ _ few) ∙ ap (λ (x : Kind). Some x) a.kind_is

pub asked_exactly : (c k : ℕ) (r : Option Kind) → r ≡ asked_of c k → Exactly (Asked c k) r
asked_exactly c k r e =
    exactly (Asked c k) r (λ x f. asked_sound c k x (sym e ∙ f)) (λ x a. e ∙ asked_complete c k x a)

few_in_data : (kind : Kind) (k : ℕ) → Moderate kind → k < count_of kind → k < 9
few_in_data (Real n) k m h = omega arith
few_in_data (Whole w) k m h = omega arith

pub asked_few : (c k : ℕ) (r : Option Kind) → r ≡ asked_of c k → Few k r
asked_few c k None e = tt
asked_few c k (Some kind) e =
    let a = asked_sound c k kind (sym e) in
    let m = (orderly_table.regular a.channel a.bears.0).moderate in
    few_in_data kind k (subst Moderate a.kind_is m) a.in_data
