-- What every moment keeps: valid settings, the product, the bound of the tick number, and that the unit is powered.
use Rattle.std.proofs.Common.{◌≡◌, ℕ, ◌^◌, ◌<◌, true, false, List, is_some, Some, None, Option, unwrap_or, refl, arith}
use Rattle.mti.specs.declared.product.Product.{Product}
use Rattle.xbus.specs.Parts.{Parts}
use Rattle.settings.specs.Values.{Values}
use Rattle.settings.specs.Valid.{valid}
use Rattle.settings.specs.Factory.{factory_of}
use Rattle.settings.specs.Image.{load_of}
use Rattle.decision.specs.Asked.{Changing}
use Rattle.config.specs.Changed.{changed_of}
use Rattle.config.proofs.Exacts.{changed_said}
use Rattle.session.specs.Model.{World, Core, Model}
use Rattle.session.specs.Waking.{loaded, woken}
use Rattle.session.specs.Serving.{Step, served}
use Rattle.session.specs.Calls.{powered}
use Rattle.session.specs.Moments.{Happening, serves, Moment}
use Rattle.session.specs.Counting.{is_power}
use Rattle.session.proofs.Below.{changed_valid, factory_valid, factory_product, loaded_valid, loaded_product}
use Rattle.session.proofs.Ways.{Way, does_way, powering, silent, waking, refused, configuring, measured, resetting, asking, saving, changing, sleeping, pausing, passing, idle, sampling}
use Rattle.session.proofs.Happens.{Happens, happens_way}

-- what a store gives is valid and of the product

pub record Fits (p : Product) (s : Values) : Type 0 where
  pub sound : valid s ≡ true
  pub product : s.product ≡ p

factory_fits : (p : Product) → Fits p (factory_of p)
factory_fits p = record { sound = factory_valid p; product = factory_product p }

value_fits : (p : Product) (xs : List ℕ) (o : Option Values) → load_of p xs ≡ o → Fits p (unwrap_or o (factory_of p))
value_fits p xs None e = factory_fits p
value_fits p xs (Some s) e = record { sound = loaded_valid p xs s e; product = loaded_product p xs s e }

pub loaded_fits : (p : Product) (o : Option (List ℕ)) → Fits p (loaded p o)
loaded_fits p None = factory_fits p
loaded_fits p (Some xs) = value_fits p xs (load_of p xs) refl

-- so are the settings after each way

woken_fits : (c : Core) → Fits c.settings.product (woken c).settings
unfolding woken
woken_fits c = loaded_fits c.settings.product c.store.held

same_fits : (s : Values) → valid s ≡ true → Fits s.product s
same_fits s v = record { sound = v; product = refl }

changed_fits : (s t : Values) (ch : Changing) → changed_of s ch ≡ Some t → Fits s.product t
changed_fits s t ch e = record { sound = changed_valid s t ch e; product = changed_said.product s t ch e }

module _ {w : World} {c : Core} where
  way_fits : {h : Happening} {s : Step} → Way w c h s → valid c.settings ≡ true → Fits c.settings.product s.0.settings
  way_fits powering v = woken_fits c
  way_fits (silent _) v = same_fits c.settings v
  way_fits (waking _) v = same_fits c.settings v
  way_fits (refused _ _ _ _ _) v = same_fits c.settings v
  way_fits (configuring _) v = same_fits c.settings v
  way_fits (measured _) v = same_fits c.settings v
  way_fits (resetting _) v = woken_fits c
  way_fits (asking _ _) v = same_fits c.settings v
  way_fits (saving ch s _ e _ _) v = changed_fits c.settings s ch e
  way_fits (changing ch s _ e _) v = changed_fits c.settings s ch e
  way_fits (sleeping _ _) v = same_fits c.settings v
  way_fits (pausing _ _ _) v = same_fits c.settings v
  way_fits (passing _ _ _) v = same_fits c.settings v
  way_fits (idle _) v = same_fits c.settings v
  way_fits (sampling _) v = same_fits c.settings v

  way_number : {h : Happening} {s : Step} → Way w c h s → c.counts.number < 2 ^ 32 → s.0.counts.number < 2 ^ 32
  unfolding woken
  way_number powering n = omega arith
  way_number (silent _) n = n
  way_number (waking _) n = n
  way_number (refused _ _ _ _ _) n = n
  way_number (configuring _) n = n
  way_number (measured _) n = omega arith
  way_number (resetting _) n = omega arith
  way_number (asking _ _) n = n
  way_number (saving _ _ _ _ _ _) n = n
  way_number (changing _ _ _ _ _) n = n
  way_number (sleeping _ _) n = n
  way_number (pausing _ _ _) n = n
  way_number (passing _ _ _) n = omega arith
  way_number (idle _) n = n
  way_number (sampling _) n = omega arith

  way_powered : {h : Happening} {s : Step} → Way w c h s → (is_power h ≡ false → is_some c.state ≡ true) → is_some s.0.state ≡ true
  unfolding woken
  way_powered powering l = refl
  way_powered (silent _) l = l refl
  way_powered (waking _) l = refl
  way_powered (refused _ _ _ _ _) l = l refl
  way_powered (configuring _) l = refl
  way_powered (measured _) l = refl
  way_powered (resetting _) l = refl
  way_powered (asking _ _) l = l refl
  way_powered (saving _ _ _ _ _ _) l = l refl
  way_powered (changing _ _ _ _ _) l = l refl
  way_powered (sleeping _ _) l = l refl
  way_powered (pausing _ _ _) l = refl
  way_powered (passing _ _ _) l = refl
  way_powered (idle _) l = l refl
  way_powered (sampling _) l = l refl

-- a powered unit stays powered when it serves a frame
pub served_powered : (m : Model) (p : Parts) → powered m ≡ true → is_some (served m.device_id p m.core).0.state ≡ true
served_powered m p on =
    let w : World = record { product = m.core.settings.product; device_id = m.device_id; store = m.core.store; meaning = m.meaning } in
    way_powered (does_way w m.core (serves p) (λ _. on)) (λ _. on)

module _ (w : World) (m : Moment) (h : Happens w m) where
  pub happens_sound : valid m.after.settings ≡ true
  happens_sound = (way_fits (happens_way w m h) h.sound).sound

  pub happens_product : m.after.settings.product ≡ m.before.settings.product
  happens_product = (way_fits (happens_way w m h) h.sound).product

  pub happens_number : m.before.counts.number < 2 ^ 32 → m.after.counts.number < 2 ^ 32
  happens_number = way_number (happens_way w m h)

  pub happens_powered : is_some m.after.state ≡ true
  happens_powered = way_powered (happens_way w m h) h.powered
