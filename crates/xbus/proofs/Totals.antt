-- The sum of bytes: over two lists, and one element on.
use Rattle.std.proofs.Common.{◌≡◌, ℕ, ◌+◌, ◌<◌, List, [], ◌∷◌, ◌++◌, length, get_or, take, sym, ap, ◌∙◌, add_assoc, zero-add, arith}
use Rattle.std.proofs.lemmas.List.{take_more}
use Rattle.xbus.specs.Front.{total}

pub total_append : (xs ys : List ℕ) → total (xs ++ ys) ≡ total xs + total ys
total_append [] ys = sym (zero-add (total ys))
total_append (x ∷ xs) ys = ap (λ n. x + n) (total_append xs ys) ∙ sym (add_assoc x (total xs) (total ys))

pub total_more : (xs : List ℕ) (i : ℕ) → i < length xs → total (take (i + 1) xs) ≡ total (take i xs) + get_or xs i 0
total_more xs i h = let e = ap total (take_more xs i 0 h) ∙ total_append (take i xs) (get_or xs i 0 ∷ []) in omega arith
