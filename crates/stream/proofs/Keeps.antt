-- What the buffer holds when the settled rest of a part has moved to its front.
use Rattle.std.proofs.Common.{◌≡◌, ℕ, ◌+◌, ◌-◌, ◌<◌, ◌≤◌, true, List, ◌++◌, length, take, drop, None, Option, sym, ap, ◌∙◌, arith}
use lib.Seq.{paste}
use Rattle.std.proofs.lemmas.List.{take_at, length-take-le, length-append, length-drop, drop-drop}
use Rattle.std.proofs.lemmas.Slice.{between_is}
use Rattle.xbus.specs.Front.{front_of}
use Rattle.stream.specs.Settling.{dropped, settled, front_by, is_front_by}
use Rattle.stream.specs.Until.{until}
use Rattle.stream.proofs.Settles.{front_by_is, not_wrong}
use Rattle.stream.proofs.Untils.{until_waits}

moved : (xs : List ℕ) (start end : ℕ) → start ≤ end → end ≤ length xs → take (end - start) (paste xs 0 (drop start xs) (end - start)) ≡ drop start (take end xs)
moved xs start end h k =
    take_at (take (end - start) (drop start xs)) (drop (0 + (end - start)) xs) (end - start)
    (length-take-le (end - start) (drop start xs) (omega (arith, length-drop start xs)))
    ∙ between_is xs start end

-- the part from `from` to `end` of the buffer before, and the buffer after
module _ (before after : List ℕ) (from end d : ℕ)
    (within : from + d ≤ end) (room : end ≤ length before)
    (is-dropped : d ≡ dropped (take (end - from) (drop from before)))
    (is-after : after ≡ paste before 0 (drop (from + d) before) (end - (from + d)))
  where
    pub kept : take (end - (from + d)) after ≡ settled (drop from (take end before))
    kept =
        let xs : List ℕ = drop from (take end before) in
        let same : d ≡ dropped xs = is-dropped ∙ ap dropped (between_is before from end) in
        ap (take (end - (from + d))) is-after ∙ moved before (from + d) end within room
        ∙ sym (drop-drop d from (take end before)) ∙ ap (λ k. drop k xs) same

    module _ (whole : Option ℕ) (is-front : front_by whole ≡ front_of (settled (take (end - from) (drop from before)))) where
      kept_by : front_of (take (end - (from + d)) after) ≡ front_by whole
      kept_by = ap front_of (kept ∙ ap settled (sym (between_is before from end))) ∙ sym is-front

      pub kept_front : is_front_by (front_of (take (end - (from + d)) after)) whole ≡ true
      kept_front = front_by_is _ whole kept_by

      -- with fewer bytes than it waits for, it waits
      pub kept_waits : (u : ℕ) → length after ≡ length before → u ≡ until (take (end - (from + d)) after) → (ys : List ℕ) → end - (from + d) + length ys < u → is_front_by (front_of (take (end - (from + d)) after ++ ys)) None ≡ true
      kept_waits u long is ys few =
          let xs : List ℕ = take (end - (from + d)) after in
          let l : length xs ≡ end - (from + d) = length-take-le (end - (from + d)) after (omega arith) in
          front_by_is _ None (until_waits xs ys (λ z. not_wrong whole (sym kept_by ∙ z)) (omega (arith, length-append xs ys)))
