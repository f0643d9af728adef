-- How many bytes a feed takes, and how many wait then.
use Rattle.std.proofs.Common.{◌≡◌, ℕ, ◌+◌, ◌≤◌, Bool, true, false, cond, List, [], ◌∷◌, ◌++◌, length, drop, sym, refl, ap, ◌∙◌, length-append, length-drop, arith}
use Rattle.std.proofs.lemmas.Bool.{true≢false}
use Rattle.xbus.specs.declared.front.Front.{Front}
use Rattle.xbus.specs.declared.front.Front.TheVariants.{Whole, Waits, Wrong}
use Rattle.xbus.specs.Front.{front_of}
use Rattle.xbus.proofs.Fronts.{front_bounded}
use Rattle.stream.specs.Settling.{dropped, settled}
use Rattle.stream.specs.Waiting.{if_whole, took, passed}
use Rattle.session.specs.Filling.{is_whole, fills, filled}

settled_length : (xs : List ℕ) → length (settled xs) ≤ length xs
settled_length xs = omega (arith, length-drop (dropped xs) xs)

took_length : (w : List ℕ) (b : ℕ) → length (took w b) ≤ length w + 1
took_length w b = by (front_of w)
  where
    more : length (settled (w ++ (b ∷ []))) ≤ length w + 1
    more = omega (arith, settled_length (w ++ (b ∷ [])), length-append w (b ∷ []))

    by : (f : Front) → length (if_whole f (λ _. w) (settled (w ++ (b ∷ [])))) ≤ length w + 1
    by (Whole n) = omega arith
    by Waits = more
    by Wrong = more

-- what waits after a feed is no more than what waited and what was taken
pub filled_length : (bs w : List ℕ) → length (filled w bs) ≤ length w + fills w bs
unfolding filled fills
filled_length [] w = omega arith
filled_length (b ∷ bs) w = by (is_whole w) (filled_length bs (took w b))
  where
    by : (t : Bool) → length (filled (took w b) bs) ≤ length (took w b) + fills (took w b) bs
        → length (cond t w (filled (took w b) bs)) ≤ length w + cond t 0 (1 + fills (took w b) bs)
    by true h = omega arith
    by false h = omega (arith, took_length w b)

pub fills_within : (bs w : List ℕ) → fills w bs ≤ length bs
unfolding fills
fills_within [] w = omega arith
fills_within (b ∷ bs) w = by (is_whole w) (fills_within bs (took w b))
  where
    by : (t : Bool) → fills (took w b) bs ≤ length bs → cond t 0 (1 + fills (took w b) bs) ≤ length (b ∷ bs)
    by true h = omega arith
    by false h = omega arith

-- where no frame is whole then, all bytes are taken
pub fills_quiet : (bs w : List ℕ) → is_whole (filled w bs) ≡ false → fills w bs ≡ length bs
unfolding filled fills
fills_quiet [] w q = omega arith
fills_quiet (b ∷ bs) w q = by (is_whole w) refl (fills_quiet bs (took w b)) q
  where
    by : (t : Bool) → is_whole w ≡ t → (is_whole (filled (took w b) bs) ≡ false → fills (took w b) bs ≡ length bs)
        → is_whole (cond t w (filled (took w b) bs)) ≡ false → cond t 0 (1 + fills (took w b) bs) ≡ length (b ∷ bs)
    by true e h q = absurd (true≢false (sym e ∙ q))
    by false e h q = omega (arith, h q)

-- to pass a whole frame takes five bytes at least
pub passed_length : (xs : List ℕ) (n : ℕ) → front_of xs ≡ Whole n → length (passed xs) + 5 ≤ length xs
passed_length xs n e =
    let s : passed xs ≡ settled (drop n xs) = ap (λ (f : Front). if_whole f (λ k. settled (drop k xs)) xs) e in
    let b = (front_bounded xs).whole n e in
    omega (arith, ap length s, settled_length (drop n xs), length-drop n xs, b.0, b.2)
