-- Composing the packets of a message one after the other.
use Rattle.std.proofs.Common.{◌≡◌, ℕ, zero, suc, ◌+◌, ◌-◌, ◌*◌, ◌<◌, ◌≤◌, Bool, true, false, cond, ltb, List, [], ◌∷◌, ◌++◌, length, take, drop, Ok, Err, Result, sym, refl, ap, ◌∙◌, subst, arith}
use lib.Seq.{paste}
use Rattle.std.specs.List.{flat_map}
use Rattle.std.proofs.lemmas.List.Edits.{paste_none, length-paste, take-paste, drop-paste}
use Rattle.std.proofs.lemmas.List.{append_assoc, length-append, length-take-le, take_all, take_at, take-take, drop-drop, flat_map_more}
use Rattle.std.proofs.lemmas.Bool.{ltb-true}
use Rattle.xbus.specs.Writing.{frame_size}
use Rattle.xbus.proofs.Writes.{encoded_size}
use Rattle.mti.specs.Identifiers.{data_size_of}
use Rattle.mtdata2.specs.Faults.{Report}
use Rattle.mtdata2.specs.Packets.{Item, item_of, size_fits, packet_bytes, WellFormed, EachWellFormed, handed, handed_by, handed_out}
use Rattle.mtdata2.specs.Words.{MessageOf}
use Rattle.mtdata2.proofs.Cuts.{size_fits_lem}
use Rattle.draft.specs.declared.draft.Draft.{Draft}
use Rattle.draft.specs.declared.refusal.Refusal.{Refusal}
use Rattle.draft.specs.declared.refusal.Refusal.TheVariants.{NoRoom}
use Rattle.draft.specs.Composed.{frame_so_far, asked, grown, judged, answered, Holding, Added}
use Rattle.draft.specs.Round.{Recomposed}
use Rattle.draft.proofs.Extends.{size_grows}
use Rattle.draft.proofs.Holds.{frame_grows}
use Rattle.draft.proofs.Judges.{accepted_inside, judged_room}

-- of `all` packets those in `left` are still to come; the others stand in the tray at m, which was t
pub record Progress (all : List Item) (m : ℕ) (t tray : List ℕ) (d : Draft) (left : List Item) : Type 0 where
  pub done : List Item
  pub split : done ++ left ≡ all
  pub holding : Holding done tray d
  pub start : d.extent.start ≡ m
  pub tray_is : tray ≡ paste t m (frame_so_far done) (length (frame_so_far done))
  pub fits : 0 < length done → m + length (frame_so_far done) ≤ length t

pub progress_none : (all : List Item) (m : ℕ) (t : List ℕ) (d : Draft) (left : List Item) → Holding [] t d → d.extent.start ≡ m → left ≡ all → Progress all m t t d left
progress_none all m t d left h s e = record {
  done = [];
  split = e;
  holding = h;
  start = s;
  tray_is = paste_none t m [];
  fits = λ l. absurd (omega arith);
}

-- ---- the tray

-- a longer write at the same place covers a shorter one
paste_over : (t xs ys : List ℕ) (s n k : ℕ) → s ≤ length t → length xs ≡ n → n ≤ k → paste (paste t s xs n) s ys k ≡ paste t s ys k
paste_over t xs ys s n k h l le =
    let u : List ℕ = paste t s xs n in
    let front : take s u ≡ take s t =
    sym (take-take s (s + n) u (omega arith)) ∙ ap (take s) (take-paste t s xs n h (omega arith))
    ∙ take_at (take s t) (take n xs) s (length-take-le s t h) in
    let e : s + n + (k - n) ≡ s + k = omega arith in
    let back : drop (s + k) u ≡ drop (s + k) t =
    ap (λ j. drop j u) (sym e) ∙ sym (drop-drop (k - n) (s + n) u) ∙ ap (drop (k - n)) (drop-paste t s xs n h (omega arith))
    ∙ drop-drop (k - n) (s + n) t ∙ ap (λ j. drop j t) e in
    λ i. (front i ++ take k ys) ++ back i

tray_length : (done : List Item) (m : ℕ) (t : List ℕ) → (0 < length done → m + length (frame_so_far done) ≤ length t) → length (paste t m (frame_so_far done) (length (frame_so_far done))) ≡ length t
tray_length [] m t fits = ap length (sym (paste_none t m []))
tray_length (i ∷ is) m t fits = length-paste t m (frame_so_far (i ∷ is)) _ (fits (omega arith)) (omega arith)

so_far_longer : (done : List Item) (i : Item) → length (flat_map packet_bytes (done ++ (i ∷ []))) ≤ 2048 → length (frame_so_far done) ≤ length (frame_so_far (done ++ (i ∷ [])))
so_far_longer [] i h = omega arith
so_far_longer (j ∷ js) i h =
    let old : List ℕ = flat_map packet_bytes (j ∷ js) in
    let new : List ℕ = flat_map packet_bytes ((j ∷ js) ++ (i ∷ [])) in
    let more : length new ≡ length old + length (packet_bytes i) =
    ap length (sym (flat_map_more packet_bytes [] (j ∷ js) i)) ∙ length-append old (packet_bytes i) in
    omega (arith, encoded_size 0xFF 0x36 old (omega arith), encoded_size 0xFF 0x36 new h, size_grows (length old) (length new) (omega arith))

-- ---- one packet more

module _ (all : List Item) (m : ℕ) (t tray u : List ℕ) (d e : Draft) (i : Item) (left : List Item)
    (p : Progress all m t tray d (i ∷ left)) (a : Added d e tray u i) (same : e.extent.start ≡ d.extent.start)
    (room : d.extent.start + frame_size (grown d.extent.size.len (length i.bytes)) ≤ length tray)
  where
    pub progress_more : Progress all m t u e left
    progress_more =
        let done = p.done in
        let new : List Item = done ++ (i ∷ []) in
        let h = p.holding in
        let h' = a.holds done h in
        let n : ℕ = frame_size (grown d.extent.size.len (length i.bytes)) in
        let ln : length (frame_so_far new) ≡ n = omega (arith, h'.marked, a.mark, same) in
        let lt : length tray ≡ length t = ap length p.tray_is ∙ tray_length done m t p.fits in
        let longer = so_far_longer done i (omega (arith, h'.sized, e.extent.size.most)) in
        let start = p.start in
        record {
          done = new;
          split = append_assoc done (i ∷ []) left ∙ p.split;
          holding = h';
          start = same ∙ p.start;
          tray_is =
              a.tray ∙ (λ k. paste (p.tray_is k) (p.start k) (frame_grows done tray d i h k) n)
              ∙ paste_over t (frame_so_far done) (frame_so_far new) m (length (frame_so_far done)) n (omega arith) refl (omega arith)
              ∙ ap (paste t m (frame_so_far new)) (sym ln);
          fits = λ _. omega arith;
        }

-- ---- a packet that is handed out

shape_by : (s t : Bool) (a b : Report) (j : ℕ) (zs ws : List ℕ) (f : List ℕ → List Item) (i : Item) (is : List Item) → handed_by (cond s (Err a) (cond t (Ok (item_of j zs, ws)) (Err b))) f ≡ i ∷ is → i ≡ item_of i.identifier i.bytes
shape_by true t a b j zs ws f i is e = let z : ◌≡◌ {A = ℕ} 0 1 = cc in absurd (omega arith)
shape_by false true a b j zs ws f i is e = let same : item_of j zs ≡ i = cc in subst (λ x. x ≡ item_of x.identifier x.bytes) same refl
shape_by false false a b j zs ws f i is e = let z : ◌≡◌ {A = ℕ} 0 1 = cc in absurd (omega arith)

shape_handed : (k : ℕ) (xs : List ℕ) (i : Item) (is : List Item) → handed k xs ≡ i ∷ is → i ≡ item_of i.identifier i.bytes
shape_handed zero xs i is e = let z : ◌≡◌ {A = ℕ} 0 1 = cc in absurd (omega arith)
shape_handed (suc k) [] i is e = let z : ◌≡◌ {A = ℕ} 0 1 = cc in absurd (omega arith)
shape_handed (suc k) (h ∷ []) i is e = let z : ◌≡◌ {A = ℕ} 0 1 = cc in absurd (omega arith)
shape_handed (suc k) (h ∷ l ∷ []) i is e = let z : ◌≡◌ {A = ℕ} 0 1 = cc in absurd (omega arith)
shape_handed (suc k) (h ∷ l ∷ n ∷ ys) i is e =
    shape_by (ltb (length ys) n) (size_fits (h * 256 + l) n) _ _ (h * 256 + l) (take n ys) (drop n ys) (handed k) i is e

-- the record made of a packet that is handed out asks for that packet
pub handed_asked : (xs : List ℕ) (i : Item) (is : List Item) (content : List ℕ) (identifier : ℕ) → handed_out xs ≡ i ∷ is → identifier ≡ i.identifier → content ≡ i.bytes → asked content identifier 0 (length content) ≡ i
handed_asked xs i is content identifier e f g =
    ap (item_of identifier) (take_all (length content) content (omega arith))
    ∙ (λ k. item_of (f k) (g k)) ∙ sym (shape_handed (length xs) xs i is e)

answered_ok : (x : Unit {0}) (j : Result ℕ Refusal) → ◌≡◌ {A = Result (Unit {0}) Refusal} (Ok x) (answered j) → (g : ℕ) × (Ok g ≡ j)
answered_ok x (Ok g) e = (g, refl)
answered_ok x (Err f) e = let z : ◌≡◌ {A = ℕ} 0 1 = cc in absurd (omega arith)

-- the record of a packet that was handed out was accepted
pub progress_added : (all : List Item) (m : ℕ) (t tray u : List ℕ) (d e : Draft) (i : Item) (left : List Item) (content : List ℕ) (identifier : ℕ) (x : Unit {0}) → Progress all m t tray d (i ∷ left) → asked content identifier 0 (length content) ≡ i → Added d e tray u (asked content identifier 0 (length content)) → e.extent.start ≡ d.extent.start → Ok x ≡ answered (judged (length content) identifier 0 (length content) d.extent.start d.extent.size.len (length tray)) → Progress all m t u e left
progress_added all m t tray u d e i left content identifier x p is a same says =
    let o = answered_ok x (judged (length content) identifier 0 (length content) d.extent.start d.extent.size.len (length tray)) says in
    let q = accepted_inside (length content) identifier 0 (length content) d.extent.start d.extent.size.len (length tray) o.0 (omega arith) o.1 in
    let lc : length content ≡ length i.bytes = sym (ap length (take_all (length content) content (omega arith))) ∙ ap (λ j. length j.bytes) is in
    let g : o.0 ≡ grown d.extent.size.len (length i.bytes) = q.is ∙ ap (grown d.extent.size.len) lc in
    progress_more all m t tray u d e i left p (subst (Added d e tray u) is a) same (subst (λ k. d.extent.start + frame_size k ≤ length tray) g q.fits)

-- ---- refused

well_formed_at : (done : List Item) (i : Item) (left : List Item) → EachWellFormed (done ++ (i ∷ left)) → WellFormed i
well_formed_at [] i left w = w.0
well_formed_at (j ∷ js) i left w = well_formed_at js i left w.1

joined_split : (done : List Item) (i : Item) (left : List Item) → length (flat_map packet_bytes (done ++ (i ∷ left))) ≡ length (flat_map packet_bytes done) + (3 + length i.bytes) + length (flat_map packet_bytes left)
joined_split [] i left = omega (arith, length-append i.bytes (flat_map packet_bytes left))
joined_split (j ∷ js) i left =
    let r = joined_split js i left in
    omega (arith, length-append (packet_bytes j) (flat_map packet_bytes (js ++ (i ∷ left))), length-append (packet_bytes j) (flat_map packet_bytes js))

only_no_room : (b : Bool) (n : ℕ) (e : Refusal) → ◌≡◌ {A = Result (Unit {0}) Refusal} (Err e) (answered (cond b (Err NoRoom) (Ok n))) → (b ≡ true) × (e ≡ NoRoom)
only_no_room true n e p = (refl, cc)
only_no_room false n e p = let z : ◌≡◌ {A = ℕ} 0 1 = cc in absurd (omega arith)

-- a packet of an accepted message is refused for want of room alone
refused_packet : (input : List ℕ) (all : List Item) (m : ℕ) (t tray u : List ℕ) (d : Draft) (i : Item) (left : List Item) (content : List ℕ) (e : Refusal) (k : ℕ) → MessageOf input all → Progress all m t tray d (i ∷ left) → content ≡ i.bytes → Err e ≡ answered (judged (length content) i.identifier 0 (length content) d.extent.start d.extent.size.len (length tray)) → k ≡ d.extent.start → Recomposed input m t (Err e) k u
refused_packet input all m t tray u d i left content e k msg p c says back =
    let w = well_formed_at p.done i left (subst EachWellFormed (sym p.split) msg.well_formed) in
    let lc : length content ≡ length i.bytes = ap length c in
    let total : length (flat_map packet_bytes all) ≡ length (flat_map packet_bytes p.done) + (3 + length i.bytes) + length (flat_map packet_bytes left) =
    ap (λ l. length (flat_map packet_bytes l)) (sym p.split) ∙ joined_split p.done i left in
    let n : ℕ = grown d.extent.size.len (length content) in
    let short : n ≤ length (flat_map packet_bytes all) = omega (arith, p.holding.sized) in
    let right : size_fits i.identifier (length content) ≡ true = ap (size_fits i.identifier) lc ∙ size_fits_lem (data_size_of i.identifier) (length i.bytes) w.size in
    let j = judged_room (length content) i.identifier 0 (length content) d.extent.start d.extent.size.len (length tray) (omega arith) (omega (arith, w.short)) right (omega (arith, msg.short)) in
    let r = only_no_room (ltb (length tray) (d.extent.start + frame_size n)) n e (says ∙ ap answered j) in
    let less = ltb-true _ _ r.0 in
    let lt : length tray ≡ length t = ap length p.tray_is ∙ tray_length p.done m t p.fits in
    let li : length input ≡ frame_size (length (flat_map packet_bytes all)) = ap length msg.is ∙ encoded_size 0xFF 0x36 (flat_map packet_bytes all) msg.short in
    let grows = size_grows n (length (flat_map packet_bytes all)) short in
    record {
      room = λ h. absurd (omega (arith, p.start));
      no_room = λ h. (ap Err r.1, back ∙ p.start);
    }

-- ---- as the code has it: the mark began at n, and the answer came by `?`

module _ (input : List ℕ) (all : List Item) (m n : ℕ) (t tray : List ℕ) (d : Draft) (msg : MessageOf input all) (begun : m ≡ n) where
  pub refused_at : (u : List ℕ) (i : Item) (left : List Item) (content : List ℕ) (e : Refusal) (r : Result (Unit {0}) Refusal) (k : ℕ) → Progress all m t tray d (i ∷ left) → content ≡ i.bytes → Err e ≡ answered (judged (length content) i.identifier 0 (length content) d.extent.start d.extent.size.len (length tray)) → r ≡ Err e → k ≡ d.extent.start → Recomposed input n t r k u
  refused_at u i left content e r k p c says is back =
      subst (λ x. Recomposed input x t r k u) begun
      (subst (λ x. Recomposed input m t x k u) (sym is) (refused_packet input all m t tray u d i left content e k msg p c says back))
