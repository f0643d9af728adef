-- The store: what a moment costs and leaves, and which settings it gives back.
use Rattle.std.proofs.Common.{◌≡◌, ◌+◌, Bool, true, false, cond, ◌||◌, Some, Option, unwrap_or, sym, refl, ap, ◌∙◌, ap₂, arith}
use Rattle.std.proofs.lemmas.Bool.{eqb-false, false≢true, or_parts, cond-false}
use Rattle.settings.specs.Values.{Values}
use Rattle.settings.specs.Valid.{valid}
use Rattle.settings.specs.Factory.{factory_of}
use Rattle.settings.specs.Image.{image_of}
use Rattle.session.specs.Model.{World, Core}
use Rattle.session.specs.Waking.{loaded, woken}
use Rattle.session.specs.Serving.{Step}
use Rattle.session.specs.Moments.{Happening, Moment}
use Rattle.session.specs.Counting.{one_if, is_power, is_reset, is_stored}
use Rattle.session.specs.Laws.{keeps}
use Rattle.session.proofs.Below.{changed_valid, load_back}
use Rattle.session.proofs.Ways.{Way, powering, silent, waking, refused, configuring, measured, resetting, asking, saving, changing, sleeping, pausing, passing, idle, sampling}
use Rattle.session.proofs.Happens.{Happens, happens_way}
use Rattle.session.proofs.Sound.{loaded_fits, happens_product}
use Rattle.session.proofs.Told.{row_of, way_told}

-- the settings that the store gives back
abbrev pub stored_settings : Core → Values
stored_settings c = loaded c.settings.product c.store.held

loads_back : (s : Values) → valid s ≡ true → loaded s.product (Some (image_of s)) ≡ s
loads_back s v = ap (λ (o : Option Values). unwrap_or o (factory_of s.product)) (load_back s v)

module _ {w : World} {c : Core} where
  way_left : {h : Happening} {s : Step} (g : Way w c h s) → c.store.left ≡ s.0.store.left + one_if (row_of g).stored
  unfolding woken
  way_left powering = omega arith
  way_left (silent _) = omega arith
  way_left (waking _) = omega arith
  way_left (refused _ _ _ _ _) = omega arith
  way_left (configuring _) = omega arith
  way_left (measured _) = omega arith
  way_left (resetting _) = omega arith
  way_left (asking _ _) = omega arith
  way_left (saving _ _ _ _ _ n) = let z = eqb-false c.store.left 0 n in omega arith
  way_left (changing _ _ _ _ _) = omega arith
  way_left (sleeping _ _) = omega arith
  way_left (pausing _ _ _) = omega arith
  way_left (passing _ _ _) = omega arith
  way_left (idle _) = omega arith
  way_left (sampling _) = omega arith

  way_held : {h : Happening} {s : Step} (g : Way w c h s)
      → s.0.store.held ≡ cond (row_of g).stored (Some (image_of s.0.settings)) c.store.held
  unfolding woken
  way_held powering = refl
  way_held (silent _) = refl
  way_held (waking _) = refl
  way_held (refused _ _ _ _ _) = refl
  way_held (configuring _) = refl
  way_held (measured _) = refl
  way_held (resetting _) = refl
  way_held (asking _ _) = refl
  way_held (saving _ _ _ _ _ _) = refl
  way_held (changing _ _ _ _ _) = refl
  way_held (sleeping _ _) = refl
  way_held (pausing _ _ _) = refl
  way_held (passing _ _ _) = refl
  way_held (idle _) = refl
  way_held (sampling _) = refl

  way_keeps : {h : Happening} {s : Step} (g : Way w c h s) → (is_power h || (row_of g).stored) ≡ true → stored_settings s.0 ≡ s.0.settings
  unfolding woken
  way_keeps powering k =
      ap (λ p. loaded p c.store.held) (loaded_fits c.settings.product c.store.held).product
  way_keeps (silent _) k = absurd (false≢true k)
  way_keeps (waking _) k = absurd (false≢true k)
  way_keeps (refused _ _ _ _ _) k = absurd (false≢true k)
  way_keeps (configuring _) k = absurd (false≢true k)
  way_keeps (measured _) k = absurd (false≢true k)
  way_keeps (resetting _) k = absurd (false≢true k)
  way_keeps (asking _ _) k = absurd (false≢true k)
  way_keeps (saving ch s _ e _ _) k = loads_back s (changed_valid c.settings s ch e)
  way_keeps (changing _ _ _ _ _) k = absurd (false≢true k)
  way_keeps (sleeping _ _) k = absurd (false≢true k)
  way_keeps (pausing _ _ _) k = absurd (false≢true k)
  way_keeps (passing _ _ _) k = absurd (false≢true k)
  way_keeps (idle _) k = absurd (false≢true k)
  way_keeps (sampling _) k = absurd (false≢true k)

  way_resets : {h : Happening} {s : Step} (g : Way w c h s) → (row_of g).reset ≡ true → s.0.settings ≡ stored_settings c
  unfolding woken
  way_resets powering k = absurd (false≢true k)
  way_resets (silent _) k = absurd (false≢true k)
  way_resets (waking _) k = absurd (false≢true k)
  way_resets (refused _ _ _ _ _) k = absurd (false≢true k)
  way_resets (configuring _) k = absurd (false≢true k)
  way_resets (measured _) k = absurd (false≢true k)
  way_resets (resetting _) k = refl
  way_resets (asking _ _) k = absurd (false≢true k)
  way_resets (saving _ _ _ _ _ _) k = absurd (false≢true k)
  way_resets (changing _ _ _ _ _) k = absurd (false≢true k)
  way_resets (sleeping _ _) k = absurd (false≢true k)
  way_resets (pausing _ _ _) k = absurd (false≢true k)
  way_resets (passing _ _ _) k = absurd (false≢true k)
  way_resets (idle _) k = absurd (false≢true k)
  way_resets (sampling _) k = absurd (false≢true k)

module _ (w : World) (m : Moment) (h : Happens w m) where
  abbrev way : Way w m.before m.what (m.after, m.wrote)
  way = happens_way w m h

  abbrev stored : is_stored m ≡ (row_of way).stored
  stored = (way_told w m.before way).stored

  pub happens_left : m.before.store.left ≡ m.after.store.left + one_if (is_stored m)
  happens_left = rw stored (way_left way)

  pub happens_held : m.after.store.held ≡ cond (is_stored m) (Some (image_of m.after.settings)) m.before.store.held
  happens_held = rw stored (way_held way)

  pub happens_keeps : keeps m ≡ true → stored_settings m.after ≡ m.after.settings
  happens_keeps k = way_keeps way (sym (ap (λ (b : Bool). is_power m.what || b) stored) ∙ k)

  pub happens_stays : keeps m ≡ false → stored_settings m.after ≡ stored_settings m.before
  happens_stays k =
      ap₂ loaded (happens_product w m h)
      (happens_held ∙ cond-false (is_stored m) _ _ (or_parts (is_power m.what) (is_stored m) k).1)

  pub happens_resets : is_reset m ≡ true → m.after.settings ≡ stored_settings m.before
  happens_resets k = way_resets way (sym (way_told w m.before way).reset ∙ k)
