-- The used slots are the longest run from the front with mark 00.
use Rattle.std.proofs.Common.{◌≡◌, ℕ, ◌<◌, eqb, List, [], get_or, sym, ap, ◌∙◌, arith}
use Rattle.std.proofs.lemmas.List.Sums.{prefix_len_is, prefix_len_passes, prefix_len_stops}
use Rattle.std.proofs.lemmas.Bool.{eqb-true, eqb-false, eq-eqb, ne_eqb}
use Rattle.store.specs.Slots.{slot_size, slots, mark_at, slots_of, is_used, used, LongestRun, UsedSaid}
use Rattle.store.proofs.Held.{length_cut, used_within}
use Rattle.store.proofs.Cut.{get_cut, mark_in_front}

-- a slot is used if its mark is 00
used_by_mark : (bs : List ℕ) (k : ℕ) → k < slots bs → is_used (get_or (slots_of bs) k []) ≡ eqb (mark_at bs k) 0
used_by_mark bs k h = ap is_used (get_cut (slots bs) k bs h) ∙ ap (λ m. eqb m 0) (mark_in_front bs k)

pub used_run : (bs : List ℕ) → LongestRun bs (used bs)
unfolding used
used_run bs = record {
  within = used_within bs;
  marked = λ k h. eqb-true (mark_at bs k) 0 (sym (used_by_mark bs k (omega (arith, used_within bs))) ∙ prefix_len_passes is_used (slots_of bs) k [] h);
  ends = λ h.
      eqb-false (mark_at bs (used bs)) 0
      (sym (used_by_mark bs (used bs) h) ∙ prefix_len_stops is_used (slots_of bs) [] (omega (arith, length_cut slot_size (slots bs) bs)));
}

pub used_only : (bs : List ℕ) (n : ℕ) → LongestRun bs n → n ≡ used bs
unfolding used
used_only bs n r =
    let l = length_cut slot_size (slots bs) bs in
    sym (prefix_len_is is_used (slots_of bs) n [] (omega (arith, l, r.within))
    (λ k h. used_by_mark bs k (omega (arith, r.within)) ∙ eq-eqb (mark_at bs k) 0 (r.marked k h))
    (λ h. let m : n < slots bs = omega (arith, l) in used_by_mark bs n m ∙ ne_eqb (mark_at bs n) 0 (r.ends m)))

pub used_said : (bs : List ℕ) → UsedSaid bs
used_said bs = record { run = used_run bs; only = used_only bs }
