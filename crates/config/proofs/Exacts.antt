-- A change gives exactly what the words say.
use Rattle.std.proofs.Common.{◌≡◌, ℕ, ◌^◌, ◌<◌, true, ◌∷◌, ◌++◌, Some, sym, ap, ◌∙◌, ⊎_elim, arith}
use Rattle.mti.specs.declared.product.Product.{Product}
use Rattle.mti.specs.Exactly.{Exactly}
use Rattle.mti.proofs.Exact.{exactly}
use Rattle.settings.specs.Values.{Values}
use Rattle.settings.specs.Valid.{valid}
use Rattle.settings.specs.Factory.{factory_of}
use Rattle.settings.specs.View.{checked_of}
use Rattle.settings.proofs.FromFactory.{factory_valid}
use Rattle.settings.proofs.Bounds.{fits}
use Rattle.decision.specs.Asked.{Changing, Baud, ErrorMode, Location, Profile, Flags, Outputs, Factory}
use Rattle.config.specs.Changed.{with_baud, with_profile, with_error_mode, with_location, with_flags, new_flags, changed_of}
use Rattle.config.specs.After.{After, Small, ChangedSaid}
use Rattle.config.proofs.Flagging.{flagged, same_bits}
use Rattle.config.proofs.Edits.{checked_some, checked_is, checked_exactly}
use Rattle.config.proofs.Fittings.{lists_by, offered, outputs_sound, outputs_exactly, zero_spelt}

-- ---- flags

flags_exactly : (c : Values) (s k : ℕ) → valid c ≡ true → k < 2 ^ 32
    → Exactly (λ d. After c (Flags s k) d × (valid d ≡ true)) (changed_of c (Flags s k))
unfolding changed_of
flags_exactly c s k v h =
    let n = new_flags c.flags s k in
    let is = flagged c.flags s k (omega (arith, (fits c v).flags)) h in
    exactly _ (checked_of (with_flags c n))
    (λ d e. let p = checked_some (with_flags c n) d e in ((n, is, p.0), p.1))
    (λ d p.
    let m = p.0.0 in
    let fl = p.0.1 in
    let same = same_bits m n (λ j b. (is j).1 ((fl j).0 b)) (λ j b. (fl j).1 ((is j).0 b)) in
    checked_is (with_flags c n) d (p.0.2 ∙ ap (with_flags c) same) p.1)

-- ---- the theorem

exact : (c : Values) (x : Changing) → valid c ≡ true → Small x → Exactly (λ d. After c x d × (valid d ≡ true)) (changed_of c x)
unfolding changed_of
exact c (Baud v) t s = checked_exactly (with_baud c v)
exact c (ErrorMode v) t s = checked_exactly (with_error_mode c v)
exact c (Location v) t s = checked_exactly (with_location c v)
exact c (Profile v) t s = checked_exactly (with_profile c v)
exact c (Flags a b) t s = flags_exactly c a b t s
exact c (Outputs xs) t s = outputs_exactly c xs
exact c Factory t s =
    let f = factory_of c.product in
    exactly _ (Some f) (λ d e. let same : d ≡ f = cc in (same, ap valid same ∙ factory_valid c.product)) (λ d h. ap (λ (w : Values). Some w) (sym h.0))

abbrev product_of : Values → Product
product_of c = c.product

product_stays : (c d : Values) (x : Changing) → changed_of c x ≡ Some d → d.product ≡ c.product
unfolding changed_of factory_of
product_stays c d (Baud v) e = ap product_of (checked_some (with_baud c v) d e).0
product_stays c d (ErrorMode v) e = ap product_of (checked_some (with_error_mode c v) d e).0
product_stays c d (Location v) e = ap product_of (checked_some (with_location c v) d e).0
product_stays c d (Profile v) e = ap product_of (checked_some (with_profile c v) d e).0
product_stays c d (Flags a b) e = ap product_of (checked_some (with_flags c (new_flags c.flags a b)) d e).0
product_stays c d (Outputs xs) e = ap product_of (outputs_sound c xs d e).0.2
product_stays c d Factory e = let same : d ≡ factory_of c.product = cc in ap product_of same

pub changed_said : ChangedSaid
changed_said = record {
  exact = exact;
  product = product_stays;
  zero = λ c before after n a b e no.
      (outputs_exactly c (before ++ (a ∷ b ∷ 0 ∷ 0 ∷ after))).none
      (λ d h.
      ⊎_elim (λ z. no z.0)
      (λ z. zero_spelt c.product n before after a b e z.1 (offered c d h.0.0 h.0.2 h.1))
      (lists_by h.0.1));
}
