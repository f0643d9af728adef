-- What the tests of a moment say, by the way that it went.
use Rattle.std.proofs.Common.{◌≡◌, ℕ, ◌+◌, ◌%◌, Bool, true, false, not, ◌&&◌, ◌||◌, eqb, ltb, List, ◌∷◌, length, Some, Option, sym, refl, ap, ◌∙◌, ap₂, arith}
use Rattle.std.proofs.Math.Bool.{or-false}
use Rattle.std.proofs.lemmas.Bool.{and_from, and_left, and_right, or_from, lt-ltb, not_from_true, not_from_false}
use Rattle.xbus.specs.Parts.{Parts}
use Rattle.decision.specs.declared.states.State.{State}
use Rattle.decision.specs.declared.states.State.TheVariants.{WakeUp, Config, Measurement}
use Rattle.session.specs.Model.{World, Core}
use Rattle.session.specs.Waking.{woken}
use Rattle.session.specs.Serving.{Step, addressed, storing}
use Rattle.session.specs.Ticking.{packets_at, packets_by, thousandth, configures}
use Rattle.session.specs.Moments.{Happening, serves, ticks, Moment}
use Rattle.session.specs.Counting.{acknowledged, in_wake_up, wakes, is_request, is_reset, is_wake_up, is_passage, is_sample, is_stored}
use Rattle.session.specs.Moves.{is_to_config, is_change}
use Rattle.session.proofs.Ways.{Allowed, Way, powering, silent, waking, refused, configuring, measured, resetting, asking, saving, changing, sleeping, pausing, passing, idle, sampling}

-- the moment at c in which h came to s
abbrev pub moment_of : Core → Happening → Step → Moment
moment_of c h s = record { before = c; what = h; wrote = s.1; after = s.0 }

-- what the tests say
pub record Row : Type 0 where
  pub request : Bool
  pub reset : Bool
  pub wake_up_lem : Bool
  pub passage : Bool
  pub sample : Bool
  pub stored : Bool
  pub config : Bool
  pub change : Bool

pub record Told (w : World) (m : Moment) (r : Row) : Type 0 where
  pub request : is_request m ≡ r.request
  pub reset : is_reset m ≡ r.reset
  pub wake_up_lem : is_wake_up m ≡ r.wake_up_lem
  pub passage : is_passage m ≡ r.passage
  pub sample : is_sample w.meaning m ≡ r.sample
  pub stored : is_stored m ≡ r.stored
  pub config : is_to_config m ≡ r.config
  pub change : is_change m ≡ r.change

-- of a frame that is no more than answered, by whether it is a request and whether it leads to Config; of one that is
-- done; of a tick
abbrev pub served_row : Bool → Bool → Row
served_row q g =
    record { request = q; reset = false; wake_up_lem = false; passage = false; sample = false; stored = false; config = g; change = false }

abbrev pub done_row : Bool → Bool → Bool → Bool → Bool → Row
done_row g r m ch k =
    record { request = true; reset = r; wake_up_lem = r; passage = m; sample = false; stored = k; config = g; change = ch }

abbrev pub tick_row : Bool → Bool → Bool → Row
tick_row g m s =
    record { request = false; reset = false; wake_up_lem = false; passage = m; sample = s; stored = false; config = g; change = false }

abbrev pub row_of : {w : World} {c : Core} {h : Happening} {s : Step} → Way w c h s → Row
row_of powering =
    record { request = false; reset = false; wake_up_lem = true; passage = false; sample = false; stored = false; config = false; change = false }
row_of (silent _) = served_row false false
row_of (waking _) = served_row false true
row_of (refused _ _ _ _ _) = served_row true false
row_of (configuring _) = done_row true false false false false
row_of (measured _) = done_row false false true false false
row_of (resetting _) = done_row false true false false false
row_of (asking _ _) = done_row false false false false false
row_of (saving _ _ _ _ _ _) = done_row false false false true true
row_of (changing _ _ _ _ _) = done_row false false false true false
row_of (sleeping _ _) = tick_row false false false
row_of (pausing _ _ _) = tick_row true false false
row_of (passing _ _ _) = tick_row false true false
row_of (idle _) = tick_row false false false
row_of {w} {c} (sampling _) = tick_row false false (ltb 0 (length (packets_at w.meaning c)))

-- a frame is acknowledged unless its third byte says Error
pub acknowledges : (c d : Core) (h : Happening) (a i : ℕ) (xs : List ℕ) (b : Bool) → eqb i 0x42 ≡ b
    → acknowledged (moment_of c h (d, 0xFA ∷ a ∷ i ∷ xs)) ≡ not b
acknowledges c d h a i xs b e = ap₂ (λ (x y : Bool). x && not y) (lt-ltb 0 (length (0xFA ∷ a ∷ i ∷ xs)) (omega arith)) e

module _ {w : World} {c : Core} {p : Parts} where
  -- without a reply, or with Error
  told_quiet : (s : Step) (q g : Bool) → acknowledged (moment_of c (serves p) s) ≡ false → (addressed p && not (wakes c p)) ≡ q
      → (addressed p && wakes c p) ≡ g → Told w (moment_of c (serves p) s) (served_row q g)
  told_quiet s q g e r a = record {
    request = r;
    reset = and_right _ _ e;
    wake_up_lem = and_right _ _ e;
    passage = or_from _ _ (and_right _ _ e) refl;
    sample = refl;
    stored = and_right _ _ (and_left _ _ e);
    config = ap₂ ◌||◌ a (or_from _ _ (and_right _ _ e) refl) ∙ or-false g;
    change = and_right _ _ e;
  }

  told_error : (d : Core) (a : ℕ) (xs : List ℕ) → addressed p ≡ true → wakes c p ≡ false
      → Told w (moment_of c (serves p) (d, 0xFA ∷ a ∷ 0x42 ∷ xs)) (served_row true false)
  told_error d a xs h e =
      told_quiet (d, 0xFA ∷ a ∷ 0x42 ∷ xs) true false (acknowledges c d (serves p) a 0x42 xs true refl) (and_from _ _ h (not_from_false _ e))
      (and_right _ _ e)

  -- with another reply
  told_allowed : (d : Core) (a i : ℕ) (xs : List ℕ) (g r m k t : Bool) → Allowed c p g r m k → i ≡ (p.identifier + 1) % 256 → storing d.settings ≡ t
      → Told w (moment_of c (serves p) (d, 0xFA ∷ a ∷ i ∷ xs)) (done_row ((g && true) || false) (r && true) ((m && true) || false) (k && true) (k && t))
  told_allowed d a i xs g r m k t f n on =
      let e = acknowledges c d (serves p) a i xs false (rw n f.signs.reply) in
      record {
        request = and_from _ _ f.here (not_from_false _ f.signs.asleep);
        reset = ap₂ ◌&&◌ f.signs.reset e;
        wake_up_lem = ap₂ ◌&&◌ f.signs.reset e;
        passage = ap₂ (λ (x y : Bool). (x && y) || false) f.signs.passage e;
        sample = refl;
        stored = ap₂ ◌&&◌ f.signs.changing (ap₂ ◌&&◌ e on);
        config = ap₂ ◌||◌ (and_right _ _ f.signs.asleep) (ap₂ (λ (x y : Bool). (x && y) || false) f.signs.configures e);
        change = ap₂ ◌&&◌ f.signs.changing e;
      }

module _ (w : World) (c : Core) where
  told_tick : (s : Step) (o : Option State) (g m n : Bool) → c.state ≡ o
      → (in_wake_up o && (thousandth c.counts && configures c.settings)) ≡ g
      → (in_wake_up o && (thousandth c.counts && not (configures c.settings))) ≡ m
      → ltb 0 (length (packets_by w.meaning o c)) ≡ n → Told w (moment_of c ticks s) (tick_row g m n)
  unfolding packets_at
  told_tick s o g m n e a f b = record {
    request = refl;
    reset = refl;
    wake_up_lem = refl;
    passage = rw e f;
    sample = ap (λ (q : Option State). ltb 0 (length (packets_by w.meaning q c))) e ∙ b;
    stored = refl;
    config = rw e a;
    change = refl;
  }

  pub way_told : {h : Happening} {s : Step} (g : Way w c h s) → Told w (moment_of c h s) (row_of g)
  unfolding woken packets_at
  way_told powering =
      record { request = refl; reset = refl; wake_up_lem = refl; passage = refl; sample = refl; stored = refl; config = refl; change = refl }
  way_told (silent e) = told_quiet _ false false refl (and_left _ _ e) (and_left _ _ e)
  way_told (waking e) = told_quiet _ false true refl (and_right _ _ (not_from_true _ e.wakes_lem)) (and_from _ _ e.here e.wakes_lem)
  way_told (refused xs h e _ _) = told_error _ _ _ h e
  way_told (configuring f) = told_allowed _ _ _ _ true false false false _ f refl refl
  way_told (measured f) = told_allowed _ _ _ _ false false true false _ f refl refl
  way_told (resetting f) = told_allowed _ _ _ _ false true false false _ f refl refl
  way_told (asking q f) = told_allowed _ _ _ _ false false false false _ f refl refl
  way_told (saving ch s f _ on _) = told_allowed _ _ _ _ false false false true true f.allowed refl on
  way_told (changing ch s f _ off) = told_allowed _ _ _ _ false false false true false f.allowed refl off
  way_told (sleeping e t) = told_tick _ (Some WakeUp) false false false e (and_left _ _ t) (and_left _ _ t) refl
  way_told (pausing e t f) =
      told_tick _ (Some WakeUp) true false false e (and_from _ _ t f) (and_right _ _ (not_from_true _ f)) refl
  way_told (passing e t f) =
      told_tick _ (Some WakeUp) false true false e (and_right _ _ f) (and_from _ _ t (not_from_false _ f)) refl
  way_told (idle e) = told_tick _ (Some Config) false false false e refl refl refl
  way_told (sampling e) =
      told_tick _ (Some Measurement) false false _ e refl refl (ap (λ (o : Option State). ltb 0 (length (packets_by w.meaning o c))) (sym e))
