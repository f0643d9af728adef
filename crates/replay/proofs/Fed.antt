-- What a feed says of what it took and left.
use Rattle.std.proofs.Common.{◌≡◌, ℕ, ◌+◌, ◌<◌, ◌≤◌, true, false, ltb, List, length, drop, Ok, Err, Option, Result, MatchResult, sym, ◌∙◌, subst, ⊎_elim, length-drop, arith}
use Rattle.std.proofs.lemmas.Bool.{cases_Bool, cond_both, ltb-true, ltb-false, true≢false, false≢true}
use Rattle.xbus.specs.declared.front.Front.TheVariants.{Whole}
use Rattle.xbus.specs.Front.{front_of}
use Rattle.xbus.specs.Parts.{Parts, first_parts}
use Rattle.session.specs.declared.answers.Fed.{Fed}
use Rattle.session.specs.declared.answers.Refusal.{Refusal}
use Rattle.session.specs.Model.{Model}
use Rattle.session.specs.Serving.{served}
use Rattle.session.specs.Filling.{is_whole, fills, filled}
use Rattle.session.specs.Calls.{Called, powered, least_tray, takes, serves, feed_by, fill, feed_call}
use Rattle.session.proofs.Sound.{served_powered}
use Rattle.session.proofs.Readings.{is_whole_lem, parts_whole, parts_none}
use Rattle.replay.proofs.Lengths.{filled_length, fills_within, fills_quiet, passed_length}

-- an accepted feed of bs with a tray of n bytes led from m to k
pub record Accepted (m : Model) (bs : List ℕ) (n : ℕ) (k : Model) (f : Fed) : Type 0 where
  pub on : powered k ≡ true
  pub long : 2055 ≤ n
  pub taken : f.taken ≤ length bs
  -- where no frame was served, all bytes were taken, and none waits
  pub quiet : f.served ≡ false → (f.taken ≡ length bs) × (is_whole k.waiting ≡ false)
  -- where one was, fewer bytes are left
  pub fewer : f.served ≡ true → length (drop f.taken bs) + length k.waiting < length bs + length m.waiting

-- what holds of a feed's outcome
abbrev pub Says : Model → List ℕ → ℕ → Called Fed → Type 0
Says m bs n c = MatchResult c.2 (λ f. Accepted m bs n c.0 f) (λ _. powered m ≡ true → 2055 ≤ n → ⊥)

module _ (m : Model) (bs : List ℕ) (n : ℕ) where
  abbrev w : List ℕ
  w = filled m.waiting bs

  quiet_says : powered m ≡ true → 2055 ≤ n → is_whole w ≡ false → Says m bs n (takes (fills m.waiting bs) (fill m bs))
  quiet_says d l q =
      let t = fills_quiet bs m.waiting q in
      record { on = d; long = l; taken = fills_within bs m.waiting; quiet = λ _. (t, q); fewer = λ e. absurd (false≢true e) }

  serves_says : (p : Parts) (k : ℕ) → powered m ≡ true → 2055 ≤ n → front_of w ≡ Whole k
      → Says m bs n (serves (fills m.waiting bs) (fill m bs) (served m.device_id p m.core))
  serves_says p k d l e =
      let f = filled_length bs m.waiting in
      let t = fills_within bs m.waiting in
      let s = passed_length w k e in
      record {
        on = served_powered m p d;
        long = l;
        taken = t;
        quiet = λ h. absurd (true≢false h);
        fewer = λ _. omega (arith, length-drop (fills m.waiting bs) bs);
      }

  front_says : powered m ≡ true → 2055 ≤ n → Says m bs n (feed_by (fills m.waiting bs) (fill m bs) (first_parts w))
  front_says d l =
      let Q : Option Parts → Type 0 = λ o. Says m bs n (feed_by (fills m.waiting bs) (fill m bs) o) in
      ⊎_elim
      (λ (e : is_whole w ≡ true). let q = is_whole_lem w e in subst Q (sym (parts_whole w q.0 q.1)) (serves_says _ q.0 d l q.1))
      (λ (e : is_whole w ≡ false). subst Q (sym (parts_none w e)) (quiet_says d l e))
      (cases_Bool (is_whole w))

  pub feed_says : Says m bs n (feed_call m bs n)
  unfolding feed_call
  feed_says =
      cond_both (powered m) _ _ (Says m bs n)
      (λ d. cond_both (ltb n least_tray) _ _ (Says m bs n)
      (λ s. λ _ l. absurd (omega (arith, ltb-true n 2055 s)))
      (λ s. front_says d (ltb-false n 2055 s)))
      (λ d. λ l _. absurd (true≢false (sym l ∙ d)))

  pub fed_accepted : (k : Model) (o : List ℕ) (f : Fed) → ◌≡◌ {A = Called Fed} (k, o, Ok f) (feed_call m bs n) → Accepted m bs n k f
  fed_accepted k o f e = subst (Says m bs n) (sym e) feed_says

  -- a powered unit refuses no feed with room in its tray
  pub fed_refused : (r : Refusal) → Err r ≡ (feed_call m bs n).2 → powered m ≡ true → 2055 ≤ n → ⊥
  fed_refused r e = subst (λ (a : Result Fed Refusal). MatchResult a (λ f. Accepted m bs n (feed_call m bs n).0 f) (λ _. powered m ≡ true → 2055 ≤ n → ⊥)) (sym e) feed_says
