-- What the facts of the waiting buffer say of the bytes that it holds, and its steps.
use Rattle.std.proofs.Common.{◌≡◌, ℕ, ◌+◌, ◌<◌, ◌≤◌, true, false, eqb, List, [], ◌∷◌, ◌++◌, length, take, drop, set, is_some, Some, None, Option, Ok, Err, Result, sym, refl, ap, ◌∙◌, arith}
use Rattle.std.proofs.lemmas.List.{length-take-le, append-nil, append_assoc, take-take, take_more_set}
use Rattle.std.proofs.lemmas.Bool.{true≢false, ne_eqb, cond-false}
use Rattle.stream.specs.declared.buffer.Waiting.{Waiting}
use Rattle.stream.specs.declared.waiting.FrameWaits.{FrameWaits}
use Rattle.xbus.specs.declared.front.Front.TheVariants.{Whole, Waits, Wrong}
use Rattle.xbus.specs.Front.{front_of}
use Rattle.xbus.specs.Parts.{Parts, split_of, whole_parts, first_parts}
use Rattle.stream.specs.Settling.{unless_wrong, settled, front_by, is_front_by}
use Rattle.stream.specs.Waiting.{held, if_whole, taking, took, passed}
use Rattle.xbus.proofs.Fronts.{whole_not_waits, front_bounded}
use Rattle.xbus.proofs.Splits.{split_whole}
use Rattle.stream.proofs.Settles.{is_front_by_lem, front_by_is, settled_waits}

module _ (w : Waiting) where
  pub held_front : front_of (held w) ≡ front_by w.whole
  held_front = is_front_by_lem (front_of (held w)) w.whole w.front

  pub held_length : length (held w) ≡ w.len
  held_length = length-take-le w.len w.bytes (omega (arith, w.size, w.fits))

  pub held_whole : (n : ℕ) → w.whole ≡ Some n → front_of (held w) ≡ Whole n
  held_whole n e = held_front ∙ ap front_by e

  pub held_waits : false ≡ is_some w.whole → front_of (held w) ≡ Waits
  held_waits e = held_front ∙ none w.whole e
    where
      none : (o : Option ℕ) → false ≡ is_some o → front_by o ≡ Waits
      none (Some n) e = absurd (true≢false (sym e))
      none None e = refl

  -- where no whole frame waits there is room for a byte
  pub room_more : w.whole ≡ None → w.len < 2055
  room_more e = omega (arith, (front_bounded (held w)).waits (held_front ∙ ap front_by e), held_length)

  pub whole_within : (n : ℕ) → w.whole ≡ Some n → n ≤ w.len
  whole_within n e = let b = ((front_bounded (held w)).whole n (held_whole n e)).2 in omega (arith, held_length)

  -- where too few bytes are there, no whole frame waits
  pub few_none : w.len < w.until → w.whole ≡ None
  few_none few =
      none w.whole (sym held_front ∙ ap front_of (sym (append-nil (held w))) ∙ is_front_by_lem _ None (w.waits [] (omega arith)))
    where
      none : (o : Option ℕ) → front_by o ≡ Waits → o ≡ None
      none (Some n) e = absurd (whole_not_waits n e)
      none None e = refl

  -- a byte behind the others
  pub held_more : (b : ℕ) → w.len < 2055 → take (w.len + 1) (set w.bytes w.len b) ≡ held w ++ (b ∷ [])
  held_more b room = take_more_set w.bytes w.len b (omega (arith, w.size))

  -- while too few bytes are there, one more changes nothing
  more_waits : (b : ℕ) → w.len + 1 < w.until → front_of (held w ++ (b ∷ [])) ≡ Waits
  more_waits b few = is_front_by_lem _ None (w.waits (b ∷ []) (omega arith))

  more_settled : (b : ℕ) → w.len + 1 < w.until → settled (held w ++ (b ∷ [])) ≡ held w ++ (b ∷ [])
  more_settled b few = settled_waits _ (more_waits b few)

  pub more_front : (b : ℕ) → w.whole ≡ None → w.len + 1 < w.until → is_front_by (front_of (take (w.len + 1) (set w.bytes w.len b))) w.whole ≡ true
  more_front b e few = front_by_is _ w.whole (ap front_of (held_more b (room_more e)) ∙ more_waits b few ∙ sym (ap front_by e))

  pub still_waits : (b : ℕ) → w.whole ≡ None → (ys : List ℕ) → w.len + 1 + length ys < w.until → is_front_by (front_of (take (w.len + 1) (set w.bytes w.len b) ++ ys)) None ≡ true
  still_waits b e ys few =
      ap (λ l. is_front_by (front_of (l ++ ys)) None) (held_more b (room_more e))
      ∙ ap (λ l. is_front_by (front_of l) None) (append_assoc (held w) (b ∷ []) ys)
      ∙ w.waits (b ∷ ys) (omega arith)

  pub more_held : (b : ℕ) → w.whole ≡ None → w.len + 1 < w.until → take (w.len + 1) (set w.bytes w.len b) ≡ settled (held w ++ (b ∷ []))
  more_held b e few = held_more b (room_more e) ∙ sym (more_settled b few)

  pub more_kept : (b : ℕ) (after : List ℕ) → w.whole ≡ None → after ≡ settled (take (w.len + 1) (set w.bytes w.len b)) → after ≡ settled (held w ++ (b ∷ []))
  more_kept b after e a = a ∙ ap settled (held_more b (room_more e))

  -- what is said of a byte
  pub taking_some : true ≡ is_some w.whole → ◌≡◌ {A = Result (Unit {0}) FrameWaits} (Err (record {})) (taking (held w))
  taking_some e = some w.whole e ∙ ap (λ f. if_whole f (λ _. Err (record {})) (Ok tt)) (sym held_front)
    where
      some : (o : Option ℕ) → true ≡ is_some o → ◌≡◌ {A = Result (Unit {0}) FrameWaits} (Err (record {})) (if_whole (front_by o) (λ _. Err (record {})) (Ok tt))
      some (Some n) e = refl
      some None e = absurd (true≢false e)

  pub taking_none : false ≡ is_some w.whole → ◌≡◌ {A = Result (Unit {0}) FrameWaits} (Ok tt) (taking (held w))
  taking_none e = ap (λ f. if_whole f (λ _. Err (record {})) (Ok tt)) (sym (held_waits e))

  -- the frame at the front has the size that is noted
  pub parts_some : (n : ℕ) (r : Option Parts) → w.whole ≡ Some n → r ≡ split_of (take n w.bytes) → r ≡ first_parts (held w)
  parts_some n r e s =
      let front = held_whole n e in
      let same : take n (held w) ≡ take n w.bytes = take-take n w.len w.bytes (whole_within n e) in
      s ∙ ap split_of (sym same) ∙ split_whole (held w) n front ∙ ap (λ f. whole_parts f (held w)) (sym front)

  pub parts_none : w.whole ≡ None → ◌≡◌ {A = Option Parts} None (first_parts (held w))
  parts_none e = ap (λ f. whole_parts f (held w)) (sym (held_front ∙ ap front_by e))

  pub passed_some : (n : ℕ) (after : List ℕ) → w.whole ≡ Some n → after ≡ settled (drop n (held w)) → after ≡ passed (held w)
  passed_some n after e a = a ∙ ap (λ f. if_whole f (λ k. settled (drop k (held w))) (held w)) (sym (held_whole n e))

  pub took_byte : (b : ℕ) (after : List ℕ) → false ≡ is_some w.whole → after ≡ settled (held w ++ (b ∷ [])) → after ≡ took (held w) b
  took_byte b after e a = a ∙ ap (λ f. if_whole f (λ _. held w) (settled (held w ++ (b ∷ [])))) (sym (held_waits e))

  -- where nothing waits, only FA is kept
  pub took_none : (b : ℕ) → w.len ≡ 0 → (b ≡ 0xFA → ⊥) → held w ≡ took (held w) b
  took_none b z n =
      let none : held w ≡ [] = ap (λ k. take k w.bytes) z in
      let wrong : front_of (b ∷ []) ≡ Wrong = cond-false (eqb b 0xFA) _ Wrong (ne_eqb b 0xFA n) in
      none ∙ ap (λ f. drop (unless_wrong f 0 1) (b ∷ [])) (sym wrong) ∙ ap (λ l. took l b) (sym none)
