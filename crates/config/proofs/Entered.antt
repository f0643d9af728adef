-- Entries as they are read, four bytes after four.
use Rattle.std.proofs.Common.{◌≡◌, ℕ, zero, suc, ◌+◌, ◌*◌, ◌/◌, ◌<◌, ◌≤◌, Bool, true, cond, List, [], ◌∷◌, map, length, get_or, Some, sym, refl, ap, ◌∙◌, arith}
use Rattle.std.specs.Simd.{first_chunks}
use Rattle.std.proofs.lemmas.Bool.{cond-true}
use Rattle.std.proofs.lemmas.List.{length-map}
use Rattle.settings.specs.declared.record.Entry.{Entry}
use Rattle.settings.specs.Values.{entry}
use Rattle.decision.specs.Decided.{fits_entries}
use Rattle.config.specs.Changed.{entries_in, used, empties, asked_outputs}

-- what becomes of the entry in the first four bytes
abbrev pub used_first : List ℕ → Entry
used_first xs = used (entry (get_or xs 0 0 * 256 + get_or xs 1 0) (get_or xs 2 0 * 256 + get_or xs 3 0))

pub entries_none : (xs : List ℕ) → length xs < 4 → entries_in xs ≡ []
entries_none [] h = refl
entries_none (a ∷ []) h = refl
entries_none (a ∷ b ∷ []) h = refl
entries_none (a ∷ b ∷ c ∷ []) h = refl
entries_none (a ∷ b ∷ c ∷ d ∷ xs) h = absurd (omega arith)

pub entries_few : (xs : List ℕ) → 4 * length (entries_in xs) ≤ length xs
entries_few [] = omega arith
entries_few (a ∷ []) = omega arith
entries_few (a ∷ b ∷ []) = omega arith
entries_few (a ∷ b ∷ c ∷ []) = omega arith
entries_few (a ∷ b ∷ c ∷ d ∷ xs) = omega (arith, entries_few xs)

-- the entries are those of the chunks of four bytes
used_cut : (n : ℕ) (xs : List ℕ) → length xs / 4 ≡ n → map used_first (first_chunks 4 n xs) ≡ map used (entries_in xs)
used_cut zero xs e = ap (map used) (sym (entries_none xs (omega arith)))
used_cut (suc n) [] e = absurd (omega arith)
used_cut (suc n) (a ∷ []) e = absurd (omega arith)
used_cut (suc n) (a ∷ b ∷ []) e = absurd (omega arith)
used_cut (suc n) (a ∷ b ∷ c ∷ []) e = absurd (omega arith)
used_cut (suc n) (a ∷ b ∷ c ∷ d ∷ xs) e =
    ap (λ (es : List Entry). used (entry (a * 256 + b) (c * 256 + d)) ∷ es) (used_cut n xs (omega arith))

module _ (xs : List ℕ) (fours : List (List ℕ)) (cut : fours ≡ first_chunks 4 (length xs / 4) xs) where
  pub fours_used : map used_first fours ≡ map used (entries_in xs)
  fours_used = ap (map used_first) cut ∙ used_cut (length xs / 4) xs refl

  -- no more fours than entries
  pub fours_few : length (entries_in xs) ≤ 32 → length fours ≤ 32
  fours_few few = omega (arith, ap length fours_used, length-map fours used_first, length-map (entries_in xs) used)

pub outputs_asked : (xs : List ℕ) (b : Bool) → fits_entries (length xs) ≡ true → empties xs ≡ b
    → Some (cond b [] (map used (entries_in xs))) ≡ asked_outputs xs
unfolding asked_outputs
outputs_asked xs b f e =
    ap (λ (t : Bool). Some (cond t [] (map used (entries_in xs)))) (sym e) ∙ sym (cond-true (fits_entries (length xs)) _ _ f)
