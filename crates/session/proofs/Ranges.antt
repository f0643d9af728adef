-- What every moment keeps of the counts: they are in range, and in WakeUp only its ticks are counted.
use Rattle.std.proofs.Common.{◌≡◌, ℕ, ◌+◌, ◌%◌, ◌^◌, ◌<◌, false, eqb, leb, List, [], ◌∷◌, Some, refl, arith}
use Rattle.std.proofs.lemmas.Bool.{leb-false, cond_both}
use Rattle.decision.specs.declared.states.State.TheVariants.{WakeUp}
use Rattle.mtdata2.specs.Packets.{Item}
use Rattle.session.specs.declared.counts.Counts.{Counts}
use Rattle.session.specs.Model.{World, Core}
use Rattle.session.specs.Waking.{woken}
use Rattle.session.specs.Serving.{Step}
use Rattle.session.specs.Ticking.{sent_by, ticked}
use Rattle.session.specs.Moments.{Happening, Moment}
use Rattle.session.specs.Moves.{Early, InRange}
use Rattle.session.proofs.Ways.{Way, powering, waking, configuring, measured, resetting, sleeping, pausing, passing, sampling}
use Rattle.session.proofs.Happens.{Happens, happens_way}

pub zeros_early : Early (record { wake_ticks = 0; sent = 0; number = 0; phase = 0; seconds = 0 })
zeros_early = record { ticks = omega arith; only = refl }

pub zeros_in_range : InRange (record { wake_ticks = 0; sent = 0; number = 0; phase = 0; seconds = 0 })
zeros_in_range =
    record { wake_ticks = omega arith; sent = omega arith; number = omega arith; phase = omega arith; seconds = omega arith }

one_more : (n : Counts) → Early n → leb 999 n.wake_ticks ≡ false
    → Early (record { wake_ticks = n.wake_ticks + 1; sent = n.sent; number = n.number; phase = n.phase; seconds = n.seconds })
one_more n e t =
    let l : n.wake_ticks < 999 = leb-false 999 n.wake_ticks t in
    record { ticks = omega arith; only = rw e.only }

sent_in_range : (is : List Item) (n : ℕ) → n < 65536 → sent_by is n < 65536
sent_in_range [] n l = l
sent_in_range (i ∷ is) n l = omega arith

ticked_in_range : (is : List Item) (n : Counts) → InRange n → InRange (ticked is n)
ticked_in_range is n r = record {
  wake_ticks = r.wake_ticks;
  sent = sent_in_range is n.sent r.sent;
  number = omega arith;
  phase = omega arith;
  seconds = cond_both (eqb ((n.phase + 1) % 2000) 0) ((n.seconds + 1) % 2 ^ 32) n.seconds (λ (s : ℕ). s < 2 ^ 32) (λ _. omega arith) (λ _. r.seconds);
}

module _ {w : World} {c : Core} where
  way_early : {h : Happening} {s : Step} → Way w c h s → (c.state ≡ Some WakeUp → Early c.counts) → s.0.state ≡ Some WakeUp → Early s.0.counts
  unfolding woken
  way_early powering l e = zeros_early
  way_early (resetting _) l e = zeros_early
  way_early (waking _) l e = let z : ◌≡◌ {A = ℕ} 0 1 = cc in absurd (omega arith)
  way_early (configuring _) l e = let z : ◌≡◌ {A = ℕ} 0 1 = cc in absurd (omega arith)
  way_early (measured _) l e = let z : ◌≡◌ {A = ℕ} 0 1 = cc in absurd (omega arith)
  way_early (sleeping e t) l _ = one_more c.counts (l e) t
  way_early (pausing _ _ _) l e = let z : ◌≡◌ {A = ℕ} 0 1 = cc in absurd (omega arith)
  way_early (passing _ _ _) l e = let z : ◌≡◌ {A = ℕ} 0 1 = cc in absurd (omega arith)
  way_early (sampling f) l e = let z : ◌≡◌ {A = ℕ} 0 1 = cc in absurd (omega arith)
  way_early _ l e = l e

  way_in_range : {h : Happening} {s : Step} → Way w c h s → (c.state ≡ Some WakeUp → Early c.counts) → InRange c.counts → InRange s.0.counts
  unfolding woken
  way_in_range powering l r = zeros_in_range
  way_in_range (resetting _) l r = zeros_in_range
  way_in_range (measured _) l r =
      record { wake_ticks = r.wake_ticks; sent = r.sent; number = omega arith; phase = omega arith; seconds = omega arith }
  way_in_range (sleeping e t) l r =
      let q = (l e).ticks in
      record { wake_ticks = omega arith; sent = r.sent; number = r.number; phase = r.phase; seconds = r.seconds }
  way_in_range (pausing _ _ _) l r =
      record { wake_ticks = omega arith; sent = r.sent; number = r.number; phase = r.phase; seconds = r.seconds }
  way_in_range (passing _ _ _) l r =
      record { wake_ticks = omega arith; sent = r.sent; number = omega arith; phase = omega arith; seconds = omega arith }
  way_in_range (sampling _) l r = ticked_in_range _ c.counts r
  way_in_range _ l r = r

module _ (w : World) (m : Moment) (h : Happens w m) where
  pub happens_early : m.after.state ≡ Some WakeUp → Early m.after.counts
  happens_early = way_early (happens_way w m h) h.early

  pub happens_in_range : InRange m.before.counts → InRange m.after.counts
  happens_in_range = way_in_range (happens_way w m h) h.early
