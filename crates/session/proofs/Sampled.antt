-- What a tick in Measurement sends and counts is as it is said in words.
use Rattle.std.proofs.Common.{◌≡◌, ℕ, suc, ◌+◌, ◌*◌, ◌/◌, ◌%◌, ◌^◌, ◌<◌, true, eqb, List, [], ◌∷◌, length, Some, None, Decides, Option, sym, refl, ap, ◌∙◌, subst, mul_comm, lt_of_mul-lt-mul_right, div-add-mod', arith}
use native.Mathlib.Nat.{mul-mod_left, div-mul_cancel, dvd_of_mod-eq-zero}
use Rattle.std.proofs.lemmas.Bool.{cond_both, cond-true, eqb-true, eqb-false, eq-eqb}
use Rattle.std.proofs.lemmas.Bool.Decides.{not_from_Decides}
use Rattle.mti.specs.declared.output.Output.{Output}
use Rattle.mti.specs.Identifiers.{known_of, Known}
use Rattle.mti.proofs.Exact.{exactly, none_not_some}
use Rattle.mti.proofs.Named.{known_sound, known_complete}
use Rattle.mtdata2.specs.Packets.{Item, item_of}
use Rattle.settings.specs.declared.record.Entry.{Entry}
use Rattle.session.specs.declared.counts.Counts.{Counts}
use Rattle.session.specs.Model.{Meaning}
use Rattle.session.specs.Sampling.{due, data_of, data_by, packet_by, packets}
use Rattle.session.specs.Ticking.{ticked, sent_by}
use Rattle.session.specs.Sampled.{interval, Due, Data, Gives, ends, rests, unknown, omits, sends, ticked_by, messages, Advanced, Within, SampledSaid}
use Rattle.session.proofs.OutputData.{data_there, data_absent, data_sound, no_data}

-- ---- when an entry is due

pub due_at : (phase : ℕ) (e : Entry) → Decides (due phase e) (Due phase e)
due_at phase e = (
  λ t. (phase / interval e, omega (arith, div-add-mod' phase (interval e), eqb-true (phase % interval e) 0 t)),
  λ d. eq-eqb _ 0 (ap (λ (x : ℕ). x % interval e) d.1 ∙ mul-mod_left d.0 (interval e)),
)

due_in_second : (phase : ℕ) (e : Entry) → 2000 % e.frequency ≡ 0 → phase < 2000
    → Decides (due phase e) ((k : ℕ) × (k < e.frequency) × (phase ≡ k * interval e))
due_in_second phase e divides h = (
  λ t.
      let d = (due_at phase e).0 t in
      let all = div-mul_cancel e.frequency (dvd_of_mod-eq-zero e.frequency {n = 2000} divides) in
      let below : phase < e.frequency * interval e = omega (arith, mul_comm e.frequency (interval e)) in
      (d.0, lt_of_mul-lt-mul_right (interval e) (subst (λ (x : ℕ). x < e.frequency * interval e) d.1 below), d.1),
  λ d. (due_at phase e).1 (d.0, d.2),
)

due_fastest : (phase : ℕ) (e : Entry) → e.frequency ≡ 2000 → due phase e ≡ true
due_fastest phase e f = (due_at phase e).1 (phase, rw f (omega arith))

due_slowest : (phase : ℕ) (e : Entry) → e.frequency ≡ 1 → phase < 2000 → Decides (due phase e) (phase ≡ 0)
due_slowest phase e f h = (
  λ t. let d = (due_at phase e).0 t in let i : phase ≡ d.0 * 2000 = d.1 ∙ ap (λ (x : ℕ). d.0 * (2000 / x)) f in omega arith,
  λ z. (due_at phase e).1 (0, omega arith),
)

-- ---- the packets of a tick

known_none : (i : ℕ) → ((o : Output) → Known i o → ⊥) → known_of i ≡ None
known_none i h = by (known_of i) refl
  where
    by : (r : Option Output) → known_of i ≡ r → r ≡ None
    by None e = refl
    by (Some o) e = absurd (h o (known_sound i o e))

unknown_is : (i : ℕ) → known_of i ≡ None → (o : Output) → Known i o → ⊥
unknown_is i e o k = none_not_some o (sym e ∙ known_complete i o k)

module _ (f : Meaning) (n : Counts) where
  -- an entry that is due, with what the others give
  gives_due : (e : Entry) (es : List Entry) → due n.phase e ≡ true → Gives f n es (packets f n es)
      → Gives f n (e ∷ es) (packet_by e.identifier (data_by f n (known_of e.identifier)) (packets f n es))
  gives_due e es t g = known (known_of e.identifier) refl
    where
      given : (o : Output) → Known e.identifier o → (r : Option (List ℕ)) → data_of f n o ≡ r
          → Gives f n (e ∷ es) (packet_by e.identifier r (packets f n es))
      given o k None d = omits o k (no_data f n o d) g
      given o k (Some xs) d = sends o xs ((due_at n.phase e).0 t) k (data_sound f n o xs d) g

      known : (r : Option Output) → known_of e.identifier ≡ r
          → Gives f n (e ∷ es) (packet_by e.identifier (data_by f n r) (packets f n es))
      known None k = unknown (unknown_is e.identifier k) g
      known (Some o) k = given o (known_sound e.identifier o k) (data_of f n o) refl

  gives_packets : (es : List Entry) → Gives f n es (packets f n es)
  unfolding packets
  gives_packets [] = ends
  gives_packets (e ∷ es) =
      cond_both (due n.phase e) _ _ (Gives f n (e ∷ es)) (λ t. gives_due e es t (gives_packets es))
      (λ t. rests (not_from_Decides (due n.phase e) (due_at n.phase e) t) (gives_packets es))

  -- an entry without data adds nothing, due or not
  skips : (e : Entry) (es : List Entry) → data_by f n (known_of e.identifier) ≡ None → packets f n (e ∷ es) ≡ packets f n es
  unfolding packets
  skips e es d =
      cond_both (due n.phase e) _ _ (λ is. is ≡ packets f n es)
      (λ t. ap (λ (r : Option (List ℕ)). packet_by e.identifier r (packets f n es)) d) (λ t. refl)

  gives_only : {es : List Entry} {is : List Item} → Gives f n es is → is ≡ packets f n es
  unfolding packets
  gives_only ends = refl
  gives_only (rests {e} {es} {is} r g) =
      gives_only g
      ∙ cond_both (due n.phase e) _ _ (λ js. packets f n es ≡ js) (λ t. absurd (r ((due_at n.phase e).0 t))) (λ t. refl)
  gives_only (unknown {e} {es} {is} h g) = gives_only g ∙ sym (skips e es (ap (data_by f n) (known_none e.identifier h)))
  gives_only (omits {e} {es} {is} o k a g) =
      gives_only g ∙ sym (skips e es (ap (data_by f n) (known_complete e.identifier o k) ∙ data_absent f n o a))
  gives_only (sends {e} {es} {is} o xs d k x g) =
      let here = ap (data_by f n) (known_complete e.identifier o k) ∙ data_there f n o xs x in
      ap (λ (js : List Item). item_of e.identifier xs ∷ js) (gives_only g)
      ∙ sym (ap (λ (r : Option (List ℕ)). packet_by e.identifier r (packets f n es)) here)
      ∙ sym (cond-true (due n.phase e) _ _ ((due_at n.phase e).1 d))

-- ---- counting

tick_within : (is : List Item) (n : Counts) → Within n → Within (ticked is n)
tick_within is n w = record {
  sent = by is;
  number = omega arith;
  phase = omega arith;
  seconds = cond_both (eqb ((n.phase + 1) % 2000) 0) _ _ (λ s. s < 2 ^ 32) (λ t. omega arith) (λ t. w.seconds);
}
  where
    by : (is : List Item) → sent_by is n.sent < 65536
    by [] = w.sent
    by (i ∷ is) = omega arith

none_more : (n : Counts) → Within n → Advanced n 0 0 n
none_more n w =
    let a = w.sent in
    let b = w.number in
    let c = w.phase in
    let d = w.seconds in
    record { sent = omega arith; number = omega arith; phase = omega arith; seconds = omega arith }

-- one tick and then others
one_more : (n : Counts) (is : List Item) (t k : ℕ) (m : Counts) → Within n → Advanced (ticked is n) t k m
    → Advanced n (suc t) (messages (is ∷ []) + k) m
one_more n is t k m w a =
    let c = w.phase in
    record {
      sent = by is a.sent;
      number = omega (arith, a.number);
      phase = omega (arith, a.phase);
      seconds = a.seconds ∙ cond_both (eqb ((n.phase + 1) % 2000) 0) _ _
          (λ s. (s + ((n.phase + 1) % 2000 + t) / 2000) % 2 ^ 32 ≡ (n.seconds + (n.phase + suc t) / 2000) % 2 ^ 32)
          (λ z. omega (arith, eqb-true _ _ z)) (λ z. omega (arith, eqb-false _ _ z));
    }
  where
    by : (is : List Item) → m.sent ≡ (sent_by is n.sent + k) % 65536 → m.sent ≡ (n.sent + (messages (is ∷ []) + k)) % 65536
    by [] e = omega arith
    by (i ∷ is) e = omega arith

messages_more : (is : List Item) (iss : List (List Item)) → messages (is ∷ iss) ≡ messages (is ∷ []) + messages iss
messages_more [] iss = omega arith
messages_more (i ∷ is) iss = omega arith

ticks_counted : (iss : List (List Item)) (n : Counts) → Within n → Advanced n (length iss) (messages iss) (ticked_by iss n)
ticks_counted [] n w = none_more n w
ticks_counted (is ∷ iss) n w =
    let a = one_more n is (length iss) (messages iss) (ticked_by iss (ticked is n)) w (ticks_counted iss (ticked is n) (tick_within is n w)) in
    subst (λ (k : ℕ). Advanced n (suc (length iss)) k (ticked_by iss (ticked is n))) (sym (messages_more is iss)) a

pub sampled_said : SampledSaid
sampled_said = record {
  due_at = due_at;
  in_second = due_in_second;
  fastest = due_fastest;
  slowest = due_slowest;
  data_are = λ f n o. exactly (Data f n o) (data_of f n o) (data_sound f n o) (data_there f n o);
  no_data = no_data;
  absent = data_absent;
  gives = gives_packets;
  only = λ f n es is g. gives_only f n g;
  counts = ticks_counted;
  within = tick_within;
}
