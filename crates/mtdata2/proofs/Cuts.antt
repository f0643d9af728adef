-- Packets: those that are cut off are well-formed and make the content, or a fault tells what is wrong; well-formed ones are cut off again.
use Rattle.std.proofs.Common.{◌≡◌, ℕ, zero, suc, ◌+◌, ◌-◌, ◌*◌, ◌/◌, ◌%◌, ◌<◌, ◌≤◌, true, false, ltb, List, [], ◌∷◌, ◌++◌, length, take, drop, Some, None, Ok, Err, Option, Result, sym, refl, ap, ◌∙◌, subst, ⊎_elim, arith}
use Rattle.std.specs.List.{flat_map}
use Rattle.std.proofs.lemmas.List.{append_assoc, length-append, length-take-le, take-append-drop, take_at, drop_at, flat_map_more}
use Rattle.std.proofs.lemmas.Bool.{ltb-true, ltb-false, le-ltb, eqb-true, eqb-false, eq-eqb, cond-true, cond-false, cases_Bool, true≢false}
use Rattle.xbus.specs.Numbers.{Bytes}
use Rattle.xbus.specs.Frames.{encoded}
use Rattle.xbus.proofs.Bytes.{bytes_take, bytes_drop}
use Rattle.mti.specs.Identifiers.{data_size_of}
use Rattle.mtdata2.specs.Faults.{Report, packet_fault, and_then}
use Rattle.mtdata2.specs.Packets.{Item, fits_by, size_fits, item_of, cut_by, cut_of, packets_from, packet_bytes, WellFormed, EachWellFormed}
use Rattle.mtdata2.specs.Words.{data_start, Behind, Tells, packet_cut, content_cut, wrong_size}
use Rattle.mtdata2.proofs.Runs.{good_cut}

-- ---- one packet

pub fits_size : (o : Option ℕ) (n : ℕ) → fits_by o n ≡ true → (s : ℕ) → o ≡ Some s → n ≡ s
fits_size None n t s e = let z : ◌≡◌ {A = ℕ} 0 1 = cc in absurd (omega arith)
fits_size (Some m) n t s e = let f : m ≡ s = cc in eqb-true n m t ∙ f

pub size_fits_lem : (o : Option ℕ) (n : ℕ) → ((s : ℕ) → o ≡ Some s → n ≡ s) → fits_by o n ≡ true
size_fits_lem None n h = refl
size_fits_lem (Some m) n h = eq-eqb n m (h m refl)

size_wrong : (o : Option ℕ) (n : ℕ) → fits_by o n ≡ false → (s : ℕ) × (o ≡ Some s) × (n ≡ s → ⊥)
size_wrong None n t = absurd (true≢false t)
size_wrong (Some m) n t = (m, refl, eqb-false n m t)

-- a packet that is cut off is well-formed, and stands in front of the rest
record CutOff (h l n : ℕ) (xs : List ℕ) (q : Item × List ℕ) : Type 0 where
  pub well_formed : WellFormed q.0
  pub is : h ∷ l ∷ n ∷ xs ≡ packet_bytes q.0 ++ q.1
  pub rest : Bytes q.1

module _ (h l n : ℕ) (xs : List ℕ) (hb : h < 256) (lb : l < 256) (nb : n < 256) (bs : Bytes xs) where
  cut_off_is : ltb (length xs) n ≡ false → size_fits (h * 256 + l) n ≡ true → CutOff h l n xs (item_of (h * 256 + l) (take n xs), drop n xs)
  cut_off_is inside fits =
      let i : ℕ = h * 256 + l in
      let u : i / 256 % 256 ≡ h = omega arith in
      let v : i / 1 % 256 ≡ l = omega arith in
      let w : length (take n xs) ≡ n = length-take-le n xs (ltb-false (length xs) n inside) in
      record {
        well_formed = record {
          holds = refl;
          identifier = omega arith;
          bytes = bytes_take n xs bs;
          short = omega arith;
          size = λ s e. w ∙ fits_size (data_size_of i) n fits s e;
        };
        is = sym ((λ j. u j ∷ v j ∷ w j ∷ (take n xs ++ drop n xs)) ∙ ap (λ z. h ∷ l ∷ n ∷ z) (take-append-drop n xs));
        rest = bytes_drop n xs bs;
      }

-- a well-formed packet is cut off
pub cut_back : (p : ℕ) (i : Item) (rest : List ℕ) → WellFormed i → cut_of p (packet_bytes i ++ rest) ≡ Ok (i, rest)
cut_back p i rest w =
    let id : ℕ = i.identifier in
    let n : ℕ = length i.bytes in
    let lt = w.identifier in
    let same : id / 256 % 256 * 256 + id / 1 % 256 ≡ id = omega arith in
    let item : item_of id (take n (i.bytes ++ rest)) ≡ i =
    (λ j. record { holds = sym w.holds j; identifier = id; bytes = take_at i.bytes rest n refl j }) in
    ap (λ k. cut_by p k n (i.bytes ++ rest)) same
    ∙ good_cut p id n (i.bytes ++ rest) (i, rest)
    (record {
      inside = le-ltb (length (i.bytes ++ rest)) n (omega (arith, length-append i.bytes rest));
      fits = size_fits_lem (data_size_of id) n w.size;
      is = sym (λ j. (item j, drop_at i.bytes rest n refl j));
    })

-- ---- all packets

pub packets_back : (k p : ℕ) (items : List Item) → EachWellFormed items → length (flat_map packet_bytes items) ≤ k → packets_from k p (flat_map packet_bytes items) ≡ Ok items
packets_back k p [] w h = refl
packets_back zero p (i ∷ is) w h = absurd (omega arith)
packets_back (suc k) p (i ∷ is) w h =
    let rest : List ℕ = flat_map packet_bytes is in
    let K : Item × List ℕ → Result (List Item) Report = λ q. and_then (packets_from k (p + (length (packet_bytes i ++ rest) - length q.1)) q.1) (λ items. Ok (q.0 ∷ items)) in
    ap (λ r. and_then r K) (cut_back p i rest w.0)
    ∙ ap (λ r. and_then r (λ items. Ok (i ∷ items)))
    (packets_back k (p + (length (packet_bytes i ++ rest) - length rest)) is w.1 (omega (arith, length-append i.bytes rest)))

pub well_formed_push : (is : List Item) (i : Item) → EachWellFormed is → WellFormed i → EachWellFormed (is ++ (i ∷ []))
well_formed_push [] i ws w = (w, tt)
well_formed_push (j ∷ is) i ws w = (ws.0, well_formed_push is i ws.1 w)

-- xs is a data message with this content, which starts there
module _ (xs content : List ℕ) (start : ℕ) (is : xs ≡ encoded 0xFF 0x36 content) (starts : start ≡ data_start 0xFF 0x36 (length content)) (few : length content ≤ 2048) where
  -- well-formed packets and then the rest make the content
  behind : (items : List Item) (rest : List ℕ) (p : ℕ) → EachWellFormed items → content ≡ flat_map packet_bytes items ++ rest → p ≡ start + length (flat_map packet_bytes items) → Behind xs rest p
  behind items rest p w c e = record {
    items = items;
    well_formed = w;
    short = omega (arith, few, ap length c);
    is = is ∙ ap (encoded 0xFF 0x36) c;
    place = e ∙ ap (λ k. k + length (flat_map packet_bytes items)) (starts ∙ ap (λ d. data_start 0xFF 0x36 (length d)) c);
  }

  -- what a cut says
  record Cutting (rest : List ℕ) (q : Item × List ℕ) : Type 0 where
    pub well_formed : WellFormed q.0
    pub is_rest : rest ≡ packet_bytes q.0 ++ q.1
    pub bytes : Bytes q.1

  abbrev CutTold : List ℕ → Result (Item × List ℕ) Report → Type 0
  CutTold rest (Ok q) = Cutting rest q
  CutTold rest (Err f) = Tells xs f

  told_cut : (p : ℕ) (rest : List ℕ) → 0 < length rest → Bytes rest → Behind xs rest p → CutTold rest (cut_of p rest)
  told_cut p [] some bs b = absurd (omega arith)
  told_cut p (h ∷ []) some bs b = packet_cut (h ∷ []) p b (omega arith) (omega arith)
  told_cut p (h ∷ l ∷ []) some bs b = packet_cut (h ∷ l ∷ []) p b (omega arith) (omega arith)
  told_cut p (h ∷ l ∷ n ∷ ys) some bs b =
      let i : ℕ = h * 256 + l in
      ⊎_elim
      (λ (t : ltb (length ys) n ≡ true).
      subst (CutTold (h ∷ l ∷ n ∷ ys)) (sym (cond-true (ltb (length ys) n) (packet_fault 21 (p + 2)) _ t))
      (content_cut h l n ys p b (ltb-true _ _ t)))
      (λ (t : ltb (length ys) n ≡ false).
      ⊎_elim
      (λ (u : size_fits i n ≡ true).
      let c = cut_off_is h l n ys bs.0 bs.1.0 bs.1.1.0 bs.1.1.1 t u in
      subst (CutTold (h ∷ l ∷ n ∷ ys))
      (sym (cond-false (ltb (length ys) n) (packet_fault 21 (p + 2)) _ t ∙ cond-true (size_fits i n) _ (packet_fault 22 (p + 2)) u))
      (record { well_formed = c.well_formed; is_rest = c.is; bytes = c.rest }))
      (λ (u : size_fits i n ≡ false).
      let w = size_wrong (data_size_of i) n u in
      subst (CutTold (h ∷ l ∷ n ∷ ys))
      (sym (cond-false (ltb (length ys) n) (packet_fault 21 (p + 2)) _ t ∙ cond-false (size_fits i n) _ (packet_fault 22 (p + 2)) u))
      (wrong_size h l n ys p w.0 b (ltb-false _ _ t) w.1 w.2))
      (cases_Bool (size_fits i n)))
      (cases_Bool (ltb (length ys) n))

  -- the rest is these well-formed packets, or a fault
  abbrev pub PacketsTold : List ℕ → Result (List Item) Report → Type 0
  PacketsTold rest (Ok items) = EachWellFormed items × (flat_map packet_bytes items ≡ rest)
  PacketsTold rest (Err f) = Tells xs f

  told_more : (rest : List ℕ) (q : Item × List ℕ) → Cutting rest q → (r : Result (List Item) Report) → PacketsTold q.1 r → PacketsTold rest (and_then r (λ items. Ok (q.0 ∷ items)))
  told_more rest q c (Ok items) t = ((c.well_formed, t.0), ap (λ l. packet_bytes q.0 ++ l) t.1 ∙ sym c.is_rest)
  told_more rest q c (Err f) t = t

  told_step : (k p : ℕ) (rest : List ℕ) (r : Result (Item × List ℕ) Report) → CutTold rest r → ((q : Item × List ℕ) → Cutting rest q → PacketsTold q.1 (packets_from k (p + (length rest - length q.1)) q.1)) → PacketsTold rest (and_then r (λ q. and_then (packets_from k (p + (length rest - length q.1)) q.1) (λ items. Ok (q.0 ∷ items))))
  told_step k p rest (Ok q) c f = told_more rest q c _ (f q c)
  told_step k p rest (Err e) c f = c

  pub told_packets : (k p : ℕ) (items : List Item) (rest : List ℕ) → length rest ≤ k → EachWellFormed items → Bytes rest → content ≡ flat_map packet_bytes items ++ rest → p ≡ start + length (flat_map packet_bytes items) → PacketsTold rest (packets_from k p rest)
  told_packets k p items [] h w bs c e = (tt, refl)
  told_packets zero p items (x ∷ ys) h w bs c e = absurd (omega arith)
  told_packets (suc k) p items (x ∷ ys) h w bs c e =
      let rest : List ℕ = x ∷ ys in
      told_step k p rest (cut_of p rest) (told_cut p rest (omega arith) bs (behind items rest p w c e))
      (λ q d.
      let more : flat_map packet_bytes items ++ packet_bytes q.0 ≡ flat_map packet_bytes (items ++ (q.0 ∷ [])) = flat_map_more packet_bytes [] items q.0 in
      let lr : length rest ≡ length (packet_bytes q.0) + length q.1 = ap length d.is_rest ∙ length-append (packet_bytes q.0) q.1 in
      let lm = sym (length-append (flat_map packet_bytes items) (packet_bytes q.0)) ∙ ap length more in
      told_packets k (p + (length rest - length q.1)) (items ++ (q.0 ∷ [])) q.1
      (omega arith) (well_formed_push items q.0 w d.well_formed) d.bytes
      (c ∙ ap (λ l. flat_map packet_bytes items ++ l) d.is_rest ∙ sym (append_assoc (flat_map packet_bytes items) (packet_bytes q.0) q.1) ∙ ap (λ l. l ++ q.1) more)
      (omega arith))
