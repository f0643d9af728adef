-- The tests of settings say what the words say.
use Rattle.std.proofs.Common.{◌≡◌, ℕ, zero, suc, ◌<◌, true, not, eqb, ltb, leb, List, [], ◌∷◌, length, get_or, Some, None, Option, sym, refl, ◌∙◌, inl, inr, ⊎_elim, arith}
use Rattle.std.specs.List.{Contains, AllByRecursion}
use Rattle.std.proofs.lemmas.List.Elements.{All-contains, All-from_recursion}
use Rattle.std.proofs.lemmas.Bool.{and_parts, and_from, or_cases, or_left, or_right, leb-true, ltb-true, eqb-true, eqb-false, le-leb, lt-ltb, eq-eqb, ne_eqb, not-true, not_from_false, false≢true}
use Rattle.mti.specs.declared.product.Product.{Product}
use Rattle.mti.specs.declared.output.Output.{Output}
use Rattle.mti.specs.Channels.{offered_by}
use Rattle.mti.specs.Identifiers.{known_of, plain}
use Rattle.mti.proofs.Named.{known_sound, known_complete}
use Rattle.mti.proofs.Rows.{orderly_table}
use Rattle.settings.specs.declared.record.Entry.{Entry}
use Rattle.settings.specs.Values.{Values, entry}
use Rattle.settings.specs.Valid.{first_profile, flag_bits, suits, valid_entry, unlisted, valid_entries, valid}
use Rattle.settings.specs.Rules.{Offered, Valid, ValidSaid}
use Rattle.settings.proofs.Divisors.{divides_from, divides_mod, divisor_pos}
use Rattle.settings.proofs.Flags.{bits_within, within_bits}
use Rattle.settings.proofs.Judged.{valid_passed, framed_valid, entry_test}

-- ---- one entry

suits_offered : (p : Product) (e : Entry) (o : Option Output) → known_of e.identifier ≡ o → suits p e.frequency o ≡ true → Offered p e
suits_offered p e None k v = absurd (false≢true v)
suits_offered p e (Some o) k v =
    let a = and_parts (offered_by o.channel.availability p) _ v in
    let b = and_parts (ltb 0 e.frequency) _ a.1 in
    record {
      output = o;
      known = known_sound e.identifier o k;
      offered = a.0;
      divides = divides_from o.channel.max_hz e.frequency (eqb-true _ _ b.1);
    }

entry_offered : (p : Product) (e : Entry) → valid_entry p e ≡ true → Offered p e
entry_offered p e v = suits_offered p e (known_of e.identifier) refl (entry_test p e (known_of e.identifier) refl ∙ v)

offered_entry : (p : Product) (e : Entry) → Offered p e → valid_entry p e ≡ true
offered_entry p e w =
    let o = w.output in
    let hz = (orderly_table.regular o.channel w.known.row).some_hz in
    sym (entry_test p e (Some o) (sym (known_complete e.identifier o w.known)))
    ∙ and_from _ _ w.offered
    (and_from _ _ (lt-ltb 0 e.frequency (divisor_pos o.channel.max_hz e.frequency hz w.divides))
    (eq-eqb _ _ (divides_mod o.channel.max_hz e.frequency w.divides)))

-- ---- the entries

-- each is valid
pub entries_each : (p : Product) (es : List Entry) → valid_entries p es ≡ true → AllByRecursion (Offered p) es
entries_each p [] v = tt
entries_each p (x ∷ es) v =
    let a = and_parts (valid_entry p x) _ v in
    let b = and_parts (unlisted (plain x.identifier) es) _ a.1 in
    (entry_offered p x a.0, entries_each p es b.1)

unlisted_at : (channel : ℕ) (es : List Entry) → unlisted channel es ≡ true → (j : ℕ) (d : Entry) → j < length es
    → plain (get_or es j d).identifier ≡ channel → ⊥
unlisted_at channel [] v j d h e = absurd (omega arith)
unlisted_at channel (x ∷ es) v zero d h e =
    eqb-false _ _ (not-true _ (and_parts (not (eqb (plain x.identifier) channel)) (unlisted channel es) v).0) e
unlisted_at channel (x ∷ es) v (suc j) d h e =
    unlisted_at channel es (and_parts (not (eqb (plain x.identifier) channel)) (unlisted channel es) v).1 j d (omega arith) e

-- no two are of one channel
abbrev Apart : List Entry → Type 0
Apart es = (i j : ℕ) (d : Entry) → i < j → j < length es → plain (get_or es i d).identifier ≡ plain (get_or es j d).identifier → ⊥

entries_apart : (p : Product) (es : List Entry) → valid_entries p es ≡ true → Apart es
entries_apart p [] v i j d lt h e = absurd (omega arith)
entries_apart p (x ∷ es) v i zero d lt h e = absurd (omega arith)
entries_apart p (x ∷ es) v zero (suc j) d lt h e =
    let a = and_parts (valid_entry p x) _ v in
    unlisted_at (plain x.identifier) es (and_parts (unlisted (plain x.identifier) es) _ a.1).0 j d (omega arith) (sym e)
entries_apart p (x ∷ es) v (suc i) (suc j) d lt h e =
    let a = and_parts (valid_entry p x) _ v in
    entries_apart p es (and_parts (unlisted (plain x.identifier) es) _ a.1).1 i j d (omega arith) (omega arith) e

unlisted_from : (channel : ℕ) (es : List Entry)
    → ((j : ℕ) → j < length es → plain (get_or es j (entry 0 0)).identifier ≡ channel → ⊥) → unlisted channel es ≡ true
unlisted_from channel [] h = refl
unlisted_from channel (x ∷ es) h =
    and_from _ _ (not_from_false _ (ne_eqb _ _ (h 0 (omega arith)))) (unlisted_from channel es (λ j l. h (suc j) (omega arith)))

entries_from : (p : Product) (es : List Entry) → ((e : Entry) → Contains es e → Offered p e) → Apart es → valid_entries p es ≡ true
entries_from p [] each apart = refl
entries_from p (x ∷ es) each apart =
    and_from _ _ (offered_entry p x (each x (0, omega arith, refl)))
    (and_from _ _
    (unlisted_from (plain x.identifier) es (λ j l e. apart 0 (suc j) (entry 0 0) (omega arith) (omega arith) (sym e)))
    (entries_from p es (λ e h. each e (suc h.0, omega (arith, h.1), h.2))
    (λ i j d lt l e. apart (suc i) (suc j) d (omega arith) (omega arith) e)))

-- ---- the settings

sound : (c : Values) → valid c ≡ true → Valid c
sound c v =
    let p = valid_passed c v in
    let f = p.framed in
    let r = and_parts (leb (first_profile c.product) c.profile) _ f.profile in
    record {
      baud =
          ⊎_elim (λ e. inl (leb-true c.baud 0x0B e)) (λ e. inr (eqb-true c.baud 0x80 e))
          (or_cases (leb c.baud 0x0B) (eqb c.baud 0x80) f.baud);
      profile = (leb-true _ _ r.0, leb-true _ _ r.1);
      error_mode = leb-true _ _ f.error_mode;
      location = ltb-true _ _ f.location;
      flags = bits_within c.flags (flag_bits c.product) (eqb-true _ _ f.flags);
      few = leb-true _ _ f.few;
      each = λ e h. All-contains (Offered c.product) c.entries e (All-from_recursion (Offered c.product) c.entries (entries_each c.product c.entries p.entries)) h;
      apart = entries_apart c.product c.entries p.entries;
    }

complete : (c : Values) → Valid c → valid c ≡ true
complete c w =
    sym (framed_valid c
    (record {
      baud =
          ⊎_elim (λ h. or_left (leb c.baud 0x0B) (eqb c.baud 0x80) (le-leb _ _ h))
          (λ e. or_right (leb c.baud 0x0B) (eqb c.baud 0x80) (eq-eqb _ _ e)) w.baud;
      profile = and_from _ _ (le-leb _ _ w.profile.0) (le-leb _ _ w.profile.1);
      error_mode = le-leb _ _ w.error_mode;
      location = lt-ltb _ _ w.location;
      flags = eq-eqb _ _ (within_bits c.flags (flag_bits c.product) w.flags);
      few = le-leb _ _ w.few;
    }))
    ∙ entries_from c.product c.entries w.each w.apart

pub valid_said : ValidSaid
valid_said = record { sound = sound; complete = complete }
