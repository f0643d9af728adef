-- What a moment moves, by the way that it went.
use Rattle.std.proofs.Common.{◌≡◌, ℕ, ◌+◌, ◌%◌, ◌<◌, Bool, true, false, ◌&&◌, ◌||◌, List, [], ◌∷◌, length, Some, sym, refl, ap, subst, ◌∙◌, ap₂, arith}
use Rattle.std.proofs.lemmas.Bool.{leb-true, eqb-false, both_ways, cond-true, cond-false, eq-eqb, ne_eqb, false≢true, true≢false}
use Rattle.xbus.specs.Parts.{Parts}
use Rattle.mtdata2.specs.Packets.{Item}
use Rattle.draft.specs.Composed.{frame_so_far}
use Rattle.decision.specs.declared.states.State.TheVariants.{WakeUp, Config, Measurement}
use Rattle.session.specs.declared.counts.Counts.{Counts}
use Rattle.session.specs.Model.{World, Core}
use Rattle.session.specs.Waking.{woken}
use Rattle.session.specs.Serving.{Step}
use Rattle.session.specs.Ticking.{sent_by, ticked, packets_at}
use Rattle.session.specs.Moments.{Happening, serves, ticks, Moment}
use Rattle.session.specs.Counting.{of_served}
use Rattle.session.specs.Moves.{five, is_storing, Saved, AfterChange, AfterTick, Moved, Early}
use Rattle.session.proofs.Ways.{Way, powering, waking, configuring, measured, resetting, saving, changing, sleeping, pausing, passing, idle, sampling}
use Rattle.session.proofs.Happens.{Happens, happens_way}
use Rattle.session.proofs.Told.{row_of, way_told}

-- a tick in Measurement with these packets
after_tick : (is : List Item) (n : Counts) → AfterTick n (ticked is n) (frame_so_far is)
after_tick is n = record {
  wake_ticks = refl;
  number = refl;
  phase = refl;
  next_second = λ e. cond-true _ _ _ (eq-eqb _ _ e);
  same_second = λ l. cond-false _ _ _ (ne_eqb _ _ (λ (e : (n.phase + 1) % 2000 ≡ 0). omega arith));
  sent = sends is n.sent;
  silent = says_nothing is n.sent;
}
  where
    sends : (is : List Item) (k : ℕ) → 0 < length (frame_so_far is) → sent_by is k ≡ (k + 1) % 65536
    sends [] k l = absurd (omega arith)
    sends (i ∷ is) k l = refl

    says_nothing : (is : List Item) (k : ℕ) → frame_so_far is ≡ [] → sent_by is k ≡ k
    says_nothing [] k e = refl
    says_nothing (i ∷ is) k e = let z : ◌≡◌ {A = ℕ} 0 1 = cc in absurd (omega arith)

module _ {w : World} {c : Core} where
  -- the state
  way_to_wake_up : {h : Happening} {s : Step} (g : Way w c h s) → (row_of g).wake_up_lem ≡ true → s.0.state ≡ Some WakeUp
  unfolding woken
  way_to_wake_up powering k = refl
  way_to_wake_up (resetting _) k = refl
  way_to_wake_up _ k = absurd (false≢true k)

  way_to_config : {h : Happening} {s : Step} (g : Way w c h s) → (row_of g).config ≡ true → s.0.state ≡ Some Config
  way_to_config (waking _) k = refl
  way_to_config (configuring _) k = refl
  way_to_config (pausing _ _ _) k = refl
  way_to_config _ k = absurd (false≢true k)

  way_to_measurement : {h : Happening} {s : Step} (g : Way w c h s) → (row_of g).passage ≡ true → s.0.state ≡ Some Measurement
  way_to_measurement (measured _) k = refl
  way_to_measurement (passing _ _ _) k = refl
  way_to_measurement _ k = absurd (false≢true k)

  way_stays : {h : Happening} {s : Step} (g : Way w c h s)
      → ((row_of g).wake_up_lem || ((row_of g).config || (row_of g).passage)) ≡ false → s.0.state ≡ c.state
  way_stays powering k = absurd (true≢false k)
  way_stays (resetting _) k = absurd (true≢false k)
  way_stays (waking _) k = absurd (true≢false k)
  way_stays (configuring _) k = absurd (true≢false k)
  way_stays (pausing _ _ _) k = absurd (true≢false k)
  way_stays (measured _) k = absurd (true≢false k)
  way_stays (passing _ _ _) k = absurd (true≢false k)
  way_stays _ k = refl

  -- the settings
  way_changed : {h : Happening} {s : Step} (g : Way w c h s) → (row_of g).change ≡ true → (p : Parts) → h ≡ serves p → AfterChange c p s.0.settings
  way_changed (saving {p = q} ch s f e _ _) k p t =
      let z : q ≡ p = cc in
      subst (λ (x : Parts). AfterChange c x s) z (record { changing = ch; state = f.state; asks = f.asks; gives = e })
  way_changed (changing {p = q} ch s f e _) k p t =
      let z : q ≡ p = cc in
      subst (λ (x : Parts). AfterChange c x s) z (record { changing = ch; state = f.state; asks = f.asks; gives = e })
  way_changed _ k p t = absurd (false≢true k)

  way_kept : {h : Happening} {s : Step} (g : Way w c h s) → ((row_of g).wake_up_lem || (row_of g).change) ≡ false → s.0.settings ≡ c.settings
  way_kept powering k = absurd (true≢false k)
  way_kept (resetting _) k = absurd (true≢false k)
  way_kept (saving _ _ _ _ _ _) k = absurd (true≢false k)
  way_kept (changing _ _ _ _ _) k = absurd (true≢false k)
  way_kept _ k = refl

  -- the counts
  way_zeros : {h : Happening} {s : Step} (g : Way w c h s) → (row_of g).wake_up_lem ≡ true → s.0.counts ≡ five 0 0 0 0 0
  unfolding woken
  way_zeros powering k = refl
  way_zeros (resetting _) k = refl
  way_zeros _ k = absurd (false≢true k)

  way_starts : {h : Happening} {s : Step} (g : Way w c h s) → (row_of g).passage ≡ true
      → s.0.counts ≡ five s.0.counts.wake_ticks c.counts.sent 0 0 0
  way_starts (measured _) k = refl
  way_starts (passing _ _ _) k = refl
  way_starts _ k = absurd (false≢true k)

  way_served : {h : Happening} {s : Step} (g : Way w c h s) → of_served h (λ _. true) ≡ true → (row_of g).reset ≡ false
      → s.0.counts.wake_ticks ≡ c.counts.wake_ticks
  way_served powering y k = absurd (false≢true y)
  way_served (resetting _) y k = absurd (true≢false k)
  way_served (sleeping _ _) y k = absurd (false≢true y)
  way_served (pausing _ _ _) y k = absurd (false≢true y)
  way_served (passing _ _ _) y k = absurd (false≢true y)
  way_served _ y k = refl

  way_answered : {h : Happening} {s : Step} (g : Way w c h s) → of_served h (λ _. true) ≡ true
      → ((row_of g).reset || (row_of g).passage) ≡ false → s.0.counts ≡ c.counts
  way_answered powering y k = absurd (false≢true y)
  way_answered (measured _) y k = absurd (true≢false k)
  way_answered (resetting _) y k = absurd (true≢false k)
  way_answered (sleeping _ _) y k = absurd (false≢true y)
  way_answered (pausing _ _ _) y k = absurd (false≢true y)
  way_answered (passing _ _ _) y k = absurd (false≢true y)
  way_answered (sampling _) y k = absurd (false≢true y)
  way_answered _ y k = refl

  -- the counts at a tick
  way_waking : {h : Happening} {s : Step} → Way w c h s → h ≡ ticks → c.state ≡ Some WakeUp → Early c.counts
      → s.0.counts ≡ five (c.counts.wake_ticks + 1) 0 0 0 0
  way_waking (sleeping _ _) t e l = rw l.only
  way_waking (pausing _ f _) t e l =
      let q = leb-true 999 c.counts.wake_ticks f in
      let d = l.ticks in
      let z : 1000 ≡ c.counts.wake_ticks + 1 = omega arith in
      rw (l.only, z)
  way_waking (passing _ f _) t e l =
      let q = leb-true 999 c.counts.wake_ticks f in
      let d = l.ticks in
      let z : 1000 ≡ c.counts.wake_ticks + 1 = omega arith in
      rw (l.only, z)
  way_waking (idle f) t e l = let z : ◌≡◌ {A = ℕ} 0 1 = cc in absurd (omega arith)
  way_waking (sampling f) t e l = let z : ◌≡◌ {A = ℕ} 0 1 = cc in absurd (omega arith)
  way_waking _ t e l = let z : ◌≡◌ {A = ℕ} 0 1 = cc in absurd (omega arith)

  way_idle : {h : Happening} {s : Step} → Way w c h s → h ≡ ticks → c.state ≡ Some Config → s.0.counts ≡ c.counts
  way_idle (sleeping f _) t e = let z : ◌≡◌ {A = ℕ} 0 1 = cc in absurd (omega arith)
  way_idle (pausing f _ _) t e = let z : ◌≡◌ {A = ℕ} 0 1 = cc in absurd (omega arith)
  way_idle (passing f _ _) t e = let z : ◌≡◌ {A = ℕ} 0 1 = cc in absurd (omega arith)
  way_idle (idle f) t e = refl
  way_idle (sampling f) t e = let z : ◌≡◌ {A = ℕ} 0 1 = cc in absurd (omega arith)
  way_idle _ t e = let z : ◌≡◌ {A = ℕ} 0 1 = cc in absurd (omega arith)

  way_sampled : {h : Happening} {s : Step} → Way w c h s → h ≡ ticks → c.state ≡ Some Measurement → AfterTick c.counts s.0.counts s.1
  way_sampled (sleeping f _) t e = let z : ◌≡◌ {A = ℕ} 0 1 = cc in absurd (omega arith)
  way_sampled (pausing f _ _) t e = let z : ◌≡◌ {A = ℕ} 0 1 = cc in absurd (omega arith)
  way_sampled (passing f _ _) t e = let z : ◌≡◌ {A = ℕ} 0 1 = cc in absurd (omega arith)
  way_sampled (idle f) t e = let z : ◌≡◌ {A = ℕ} 0 1 = cc in absurd (omega arith)
  way_sampled (sampling f) t e = after_tick (packets_at w.meaning c) c.counts
  way_sampled _ t e = let z : ◌≡◌ {A = ℕ} 0 1 = cc in absurd (omega arith)

-- the store
module _ {w : World} {c : Core} where
  way_saved : {h : Happening} {s : Step} (g : Way w c h s) → (row_of g).change ≡ true → is_storing s.0.settings ≡ true
      → Saved c.store s.0.store s.0.settings
  way_saved (saving _ _ _ _ _ n) k e = let z = eqb-false c.store.left 0 n in record { held = refl; left = omega arith }
  way_saved (changing _ _ _ _ off) k e = absurd (both_ways _ off e)
  way_saved _ k e = absurd (false≢true k)

  way_unsaved : {h : Happening} {s : Step} (g : Way w c h s) → ((row_of g).change && is_storing s.0.settings) ≡ false → s.0.store ≡ c.store
  unfolding woken
  way_unsaved (saving _ _ _ _ on _) e = absurd (both_ways _ e on)
  way_unsaved _ e = refl

pub happens_moved : (w : World) (m : Moment) → Happens w m → Moved m
happens_moved w m h =
    let g = happens_way w m h in
    let t = way_told w m.before g in
    record {
      dark = h.dark;
      powered = h.powered;
      to_wake_up = λ k. way_to_wake_up g (sym t.wake_up_lem ∙ k);
      to_config = λ k. way_to_config g (sym t.config ∙ k);
      to_measurement = λ k. way_to_measurement g (sym t.passage ∙ k);
      stays = λ k. way_stays g (ap₂ ◌||◌ (sym t.wake_up_lem) (ap₂ ◌||◌ (sym t.config) (sym t.passage)) ∙ k);
      changed = λ k p e. way_changed g (sym t.change ∙ k) p e;
      kept = λ k. way_kept g (ap₂ ◌||◌ (sym t.wake_up_lem) (sym t.change) ∙ k);
      zeros = λ k. way_zeros g (sym t.wake_up_lem ∙ k);
      starts = λ k. way_starts g (sym t.passage ∙ k);
      served = λ y k. way_served g y (sym t.reset ∙ k);
      answered = λ y k. way_answered g y (ap₂ ◌||◌ (sym t.reset) (sym t.passage) ∙ k);
      waking = λ e s. way_waking g e s (h.early s);
      idle = λ e s. way_idle g e s;
      sampled = λ e s. way_sampled g e s;
      saved = λ k e. way_saved g (sym t.change ∙ k) e;
      unsaved = λ k. way_unsaved g (ap (λ (b : Bool). b && is_storing m.after.settings) (sym t.change) ∙ k);
    }
