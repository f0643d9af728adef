-- What a unit made from w always is, at the making and behind a moment.
use Rattle.std.proofs.Common.{◌≡◌, ℕ, ◌≤◌, true, false, List, length, Some, is_some, sym, refl, ap, ◌∙◌, arith}
use Rattle.std.proofs.lemmas.Bool.{true≢false}
use Rattle.decision.specs.declared.states.State.TheVariants.{WakeUp}
use Rattle.settings.specs.Valid.{valid}
use Rattle.session.specs.Model.{Core, Model, World, making}
use Rattle.session.specs.Serving.{Step}
use Rattle.session.specs.Calls.{powered, fill}
use Rattle.session.specs.Moments.{Happening, Moment}
use Rattle.session.specs.Moves.{Early, InRange, Unpowered, Ended}
use Rattle.session.proofs.Below.{factory_valid, factory_product}
use Rattle.session.proofs.Readings.{Settled, settled_none, settled_filled, few_filled}
use Rattle.session.proofs.Happens.{Happens}
use Rattle.session.proofs.Sound.{happens_sound, happens_product, happens_powered}
use Rattle.session.proofs.Ranges.{zeros_early, zeros_in_range, happens_early, happens_in_range}

pub record Inv (w : World) (m : Model) : Type 0 where
  pub device_id : m.device_id ≡ w.device_id
  pub meaning : m.meaning ≡ w.meaning
  pub sound : valid m.core.settings ≡ true
  pub product : m.core.settings.product ≡ w.product
  pub in_range : InRange m.core.counts
  pub early : m.core.state ≡ Some WakeUp → Early m.core.counts
  pub settled : Settled m.waiting
  pub few : length m.waiting ≤ 2055
  pub dark : powered m ≡ false → m ≡ making w

pub inv_making : (w : World) → Inv w (making w)
unfolding making
inv_making w = record {
  device_id = refl;
  meaning = refl;
  sound = factory_valid w.product;
  product = factory_product w.product;
  in_range = zeros_in_range;
  early = λ _. zeros_early;
  settled = settled_none;
  few = omega arith;
  dark = λ _. refl;
}

abbrev pub moment : Core → Happening → Step → Moment
moment c h s = record { before = c; what = h; wrote = s.1; after = s.0 }

module _ (w : World) (m : Model) (i : Inv w m) where
  -- bytes are taken
  pub inv_filled : (bs : List ℕ) → powered m ≡ true → Inv w (fill m bs)
  inv_filled bs d = record {
    device_id = i.device_id;
    meaning = i.meaning;
    sound = i.sound;
    product = i.product;
    in_range = i.in_range;
    early = i.early;
    settled = settled_filled bs m.waiting i.settled;
    few = few_filled bs m.waiting i.settled i.few;
    dark = λ f. absurd (true≢false (sym d ∙ f));
  }

  -- the core behind a moment keeps what a unit always is
  pub inv_after : (h : Happening) (s : Step) (v : List ℕ) → Happens w (moment m.core h s) → Settled v → length v ≤ 2055
      → Inv w (record { device_id = m.device_id; meaning = m.meaning; core = s.0; waiting = v })
  inv_after h s v x r l = record {
    device_id = i.device_id;
    meaning = i.meaning;
    sound = happens_sound w (moment m.core h s) x;
    product = happens_product w (moment m.core h s) x ∙ i.product;
    in_range = happens_in_range w (moment m.core h s) x i.in_range;
    early = happens_early w (moment m.core h s) x;
    settled = r;
    few = l;
    dark = λ d. absurd (true≢false (sym (happens_powered w (moment m.core h s) x) ∙ d));
  }

-- ---- so it is at the end of every session

unpowered : (w : World) (k : Model) → k ≡ making w → Unpowered w k
unfolding making
unpowered w k e = record {
  settings = ap (λ (x : Model). x.core.settings) e;
  counts = ap (λ (x : Model). x.core.counts) e;
  store = ap (λ (x : Model). x.core.store) e;
  waiting = ap (λ (x : Model). x.waiting) e;
}

pub inv_ended : (w : World) (k : Model) → Inv w k → Ended w k
inv_ended w k i = record {
  device_id = i.device_id;
  meaning = i.meaning;
  fit = i.sound;
  product = i.product;
  few = i.few;
  settled = i.settled;
  in_range = i.in_range;
  early = i.early;
  dark = λ e. unpowered w k (i.dark (ap is_some e));
}
