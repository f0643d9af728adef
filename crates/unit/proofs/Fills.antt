-- Bytes are taken one by one until a whole frame waits.
use Rattle.std.proofs.Common.{◌≡◌, ℕ, ◌+◌, ◌<◌, true, false, List, length, drop, get_or, Ok, Err, is_err, sym, refl, ap, ◌∙◌, arith}
use Rattle.std.proofs.lemmas.List.{drop_more}
use Rattle.std.proofs.Math.ListN.{drop_of_length-le}
use Rattle.xbus.specs.declared.front.Front.{Front}
use Rattle.xbus.specs.declared.front.Front.TheVariants.{Whole, Waits, Wrong}
use Rattle.xbus.specs.Front.{front_of}
use Rattle.stream.specs.Waiting.{if_whole, taking, took}
use Rattle.stream.specs.declared.waiting.FrameWaits.{FrameWaits}
use Rattle.session.specs.Filling.{is_whole, fills, filled}
use Rattle.session.proofs.Readings.{is_whole_lem, fills_whole, fills_more, fills_none, filled_whole, filled_more, filled_none}

refused_front : (f : Front) → is_err {E = FrameWaits} (if_whole f (λ _. Err (record {})) (Ok (tt {0}))) ≡ if_whole f (λ _. true) false
refused_front (Whole n) = refl
refused_front Waits = refl
refused_front Wrong = refl

-- a byte is refused exactly if a whole frame waits
pub refused_whole : (w : List ℕ) → is_err (taking w) ≡ is_whole w
refused_whole w = refused_front (front_of w)

pub took_whole : (w : List ℕ) (b : ℕ) → is_whole w ≡ true → took w b ≡ w
took_whole w b e = let q = is_whole_lem w e in rw q.1 refl

-- i of the bytes bs were taken since v waited, and w waits now
pub record Taken (v bs : List ℕ) (i : ℕ) (w : List ℕ) : Type 0 where
  pub count : fills v bs ≡ i + fills w (drop i bs)
  pub after : filled v bs ≡ filled w (drop i bs)

pub taken_none : (v bs : List ℕ) → Taken v bs 0 v
taken_none v bs = record { count = omega arith; after = refl }

module _ (v bs : List ℕ) (i : ℕ) (w : List ℕ) (so_far : Taken v bs i w) where
  pub taken_one : i < length bs → is_whole w ≡ false → Taken v bs (i + 1) (took w (get_or bs i 0))
  taken_one l e =
      let s = drop_more bs i 0 l in
      let n = ap (fills w) s ∙ fills_more w (drop (i + 1) bs) (get_or bs i 0) e in
      let c : fills v bs ≡ i + 1 + fills (took w (get_or bs i 0)) (drop (i + 1) bs) = omega (arith, so_far.count, n) in
      record {
        count = c;
        after = so_far.after ∙ ap (filled w) s ∙ filled_more w (drop (i + 1) bs) (get_or bs i 0) e;
      }

  pub taken_stop : is_whole w ≡ true → (i ≡ fills v bs) × (took w (get_or bs i 0) ≡ filled v bs)
  taken_stop e =
      let c = so_far.count ∙ ap (λ n. i + n) (fills_whole w (drop i bs) e) in
      (omega (arith, c), took_whole w (get_or bs i 0) e ∙ sym (so_far.after ∙ filled_whole w (drop i bs) e))

  pub taken_all : i ≡ length bs → (length bs ≡ fills v bs) × (w ≡ filled v bs)
  taken_all e =
      let s = drop_of_length-le bs (omega (arith, e)) in
      let c = so_far.count ∙ ap (λ x. i + fills w x) s ∙ ap (λ n. i + n) (fills_none w) in
      let a = so_far.after ∙ ap (filled w) s ∙ filled_none w in
      (omega (arith, c, e), sym a)
