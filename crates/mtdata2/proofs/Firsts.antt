-- A fault that the input tells is the one that comes; and all that reading comes to.
use Rattle.std.proofs.Common.{◌≡◌, ℕ, zero, suc, ◌+◌, ◌-◌, ◌*◌, ◌%◌, ◌<◌, ◌≤◌, false, ◌&&◌, eqb, ltb, leb, ◌⊎◌, List, [], ◌∷◌, ◌++◌, length, get_or, drop, Some, Ok, Err, Result, sym, refl, ap, ◌∙◌, subst, inl, inr, ⊎_elim, arith}
use Rattle.std.specs.List.{flat_map}
use Rattle.std.proofs.lemmas.List.{append_assoc, length-append}
use Rattle.std.proofs.lemmas.Bool.{lt-ltb, le-ltb, lt-leb, le-leb, eq-eqb, ne_eqb, cond-true, cond-false, cases_Bool}
use Rattle.xbus.specs.Numbers.{Bytes}
use Rattle.xbus.specs.Front.{total}
use Rattle.xbus.specs.Frames.{encoded}
use Rattle.mti.specs.Identifiers.{data_size_of}
use Rattle.mtdata2.specs.declared.fault.Layer.TheVariants as layer
use Rattle.mtdata2.specs.Faults.{Report, frame_fault, packet_fault, and_then}
use Rattle.mtdata2.specs.Packets.{Item, fits_by, size_fits, packets_from, packet_bytes, EachWellFormed}
use Rattle.mtdata2.specs.Reading.{Parts, body_of, extended_of, started_of, frame_of, addressed, read_of}
use Rattle.mtdata2.specs.Words.{HeaderCut, report, data_start, Announces, Behind, Tells, empty, other_start, header_cut, length_ruled_out, other_length, wrong_checksum, other_address, other_identifier, no_packet, packet_cut, content_cut, wrong_size, ReadSaid}
use Rattle.mtdata2.proofs.Frames.{parts_from, announced, frame_back}
use Rattle.mtdata2.proofs.Cuts.{cut_back}
use Rattle.mtdata2.proofs.Messages.{ReadTold, told, accepts}

abbrev Read : Type 0
Read = Result (List Item) Report

abbrev packets_in : Parts → Read
packets_in m = packets_from (length m.content) m.start m.content

-- ---- faults of the frame

module _ (xs : List ℕ) (f : Report) where
  frame_err : frame_of xs ≡ Err f → read_of xs ≡ Err f
  frame_err e = ap (λ r. and_then (and_then r addressed) packets_in) e

no_start : (xs : List ℕ) → 0 < length xs → (get_or xs 0 0 ≡ 0xFA → ⊥) → frame_of xs ≡ frame_fault 14 0
no_start [] h n = absurd (omega arith)
no_start (x ∷ rest) h n = cond-false (eqb x 0xFA) _ _ (ne_eqb x 0xFA n)

-- behind FA
started : (x : ℕ) (rest : List ℕ) → x ≡ 0xFA → frame_of (x ∷ rest) ≡ started_of rest (x ∷ rest)
started x rest e = cond-true (eqb x 0xFA) _ _ (eq-eqb x 0xFA e)

long : (x a i n : ℕ) (rest : List ℕ) → x ≡ 0xFA → n ≡ 0xFF → frame_of (x ∷ a ∷ i ∷ n ∷ rest) ≡ extended_of a i rest (x ∷ a ∷ i ∷ n ∷ rest)
long x a i n rest e h =
    started x (a ∷ i ∷ n ∷ rest) e ∙ cond-true (leb 255 n) (extended_of a i rest (x ∷ a ∷ i ∷ n ∷ rest)) _ (le-leb 255 n (omega arith))

cut_header : (xs : List ℕ) → HeaderCut xs → frame_of xs ≡ frame_fault 15 (length xs)
cut_header [] h = absurd (omega (arith, h.0))
cut_header (x ∷ []) h = started x [] h.1
cut_header (x ∷ a ∷ []) h = started x (a ∷ []) h.1
cut_header (x ∷ a ∷ i ∷ []) h = started x (a ∷ i ∷ []) h.1
cut_header (x ∷ a ∷ i ∷ n ∷ []) h = long x a i n [] h.1 (⊎_elim (λ l. absurd (omega arith)) (λ l. l.0) h.2)
cut_header (x ∷ a ∷ i ∷ n ∷ b ∷ []) h = long x a i n (b ∷ []) h.1 (⊎_elim (λ l. absurd (omega arith)) (λ l. l.0) h.2)
cut_header (x ∷ a ∷ i ∷ n ∷ b ∷ c ∷ rest) h = absurd (⊎_elim (λ l. omega arith) (λ l. omega (arith, l.1)) h.2)

outside : (v : ℕ) → (v < 255) ⊎ (2048 < v) → (leb 255 v && leb v 2048) ≡ false
outside v (inl l) = ap (λ b. b && leb v 2048) (lt-leb 255 v l)
outside v (inr l) = ap (λ b. leb 255 v && b) (lt-leb v 2048 l) ∙ ⊎_elim (λ t. ap (λ b. b && false) t) (λ t. ap (λ b. b && false) t) (cases_Bool (leb 255 v))

module _ (xs : List ℕ) (start n : ℕ) (w : Announces xs start n) where
  body : frame_of xs ≡ body_of w.address w.identifier start n xs
  body =
      ap frame_of w.is ∙ announced w.address w.identifier n w.behind w.short
      ∙ (λ j. body_of w.address w.identifier (sym w.starts j) n (sym w.is j))

  wrong_length : (length xs ≡ start + n + 1 → ⊥) → frame_of xs ≡ frame_fault 15 (length xs)
  wrong_length ne = body ∙ cond-false (eqb (length xs) (start + n + 1)) _ _ (ne_eqb _ _ ne)

  wrong_sum : length xs ≡ start + n + 1 → (total (drop 1 xs) % 256 ≡ 0 → ⊥) → frame_of xs ≡ frame_fault 17 (length xs - 1)
  wrong_sum l ne =
      body ∙ cond-true (eqb (length xs) (start + n + 1)) _ _ (eq-eqb _ _ l)
      ∙ cond-false (eqb (total (drop 1 xs) % 256) 0) _ _ (ne_eqb _ 0 ne)

-- ---- faults of the message

module _ (xs : List ℕ) (a i : ℕ) (d : List ℕ) (is : xs ≡ encoded a i d) (short : length d ≤ 2048) where
  message : read_of xs ≡ and_then (addressed (parts_from a i d)) packets_in
  message = ap read_of is ∙ ap (λ r. and_then (and_then r addressed) packets_in) (frame_back a i d short)

  not_address : (a ≡ 0xFF → ⊥) → read_of xs ≡ Err (report 18 layer.Message 1)
  not_address ne = message ∙ ap (λ r. and_then r packets_in) (cond-false (eqb a 0xFF) _ _ (ne_eqb a 0xFF ne))

not_identifier : (xs : List ℕ) (i : ℕ) (d : List ℕ) → xs ≡ encoded 0xFF i d → length d ≤ 2048 → (i ≡ 0x36 → ⊥) → read_of xs ≡ Err (report 18 layer.Message 2)
not_identifier xs i d is short ne =
    message xs 0xFF i d is short ∙ ap (λ r. and_then r packets_in) (cond-false (eqb i 0x36) _ _ (ne_eqb i 0x36 ne))

-- ---- faults of a packet

-- behind well-formed packets a fault comes where it comes alone
behind_back : (k p : ℕ) (items : List Item) (rest : List ℕ) (f : Report) → EachWellFormed items → length (flat_map packet_bytes items ++ rest) ≤ k
    → ((j : ℕ) → length rest ≤ j → packets_from j (p + length (flat_map packet_bytes items)) rest ≡ Err f) → packets_from k p (flat_map packet_bytes items ++ rest) ≡ Err f
behind_back k p [] rest f w h e = let same : p ≡ p + 0 = omega arith in ap (λ q. packets_from k q rest) same ∙ e k h
behind_back zero p (i ∷ is) rest f w h e = absurd (omega arith)
behind_back (suc k) p (i ∷ is) rest f w h e =
    let more : List ℕ = flat_map packet_bytes is ++ rest in
    let next : ℕ = p + (length (packet_bytes i ++ more) - length more) in
    let K : Item × List ℕ → Read = λ q. and_then (packets_from k (p + (length (packet_bytes i ++ more) - length q.1)) q.1) (λ items. Ok (q.0 ∷ items)) in
    let l = length-append (packet_bytes i) more in
    let m = length-append (packet_bytes i) (flat_map packet_bytes is) in
    let a = append_assoc (packet_bytes i) (flat_map packet_bytes is) rest in
    let at : next + length (flat_map packet_bytes is) ≡ p + length (flat_map packet_bytes (i ∷ is)) = omega arith in
    ap (packets_from (suc k) p) a ∙ ap (λ r. and_then r K) (cut_back p i more w.0)
    ∙ ap (λ r. and_then r (λ items. Ok (i ∷ items)))
    (behind_back k next is rest f w.1 (omega (arith, ap length a))
    (λ j b. ap (λ q. packets_from j q rest) at ∙ e j b))

module _ (xs rest : List ℕ) (p : ℕ) (b : Behind xs rest p) (f : Report) where
  -- what comes of the rest comes of all of it
  rest_err : 0 < length rest → ((j : ℕ) → length rest ≤ j → packets_from j p rest ≡ Err f) → read_of xs ≡ Err f
  rest_err some e =
      let d : List ℕ = flat_map packet_bytes b.items ++ rest in
      let m : addressed (parts_from 0xFF 0x36 d) ≡ Ok (parts_from 0xFF 0x36 d) =
      cond-false (eqb (length d) 0) _ _ (ne_eqb _ 0 (λ z. omega (arith, length-append (flat_map packet_bytes b.items) rest))) in
      message xs 0xFF 0x36 d b.is b.short ∙ ap (λ r. and_then r packets_in) m
      ∙ behind_back (length d) (data_start 0xFF 0x36 (length d)) b.items rest f b.well_formed (omega arith)
      (λ j h. ap (λ q. packets_from j q rest) (sym b.place) ∙ e j h)

short_cut : (j p : ℕ) (rest : List ℕ) → 0 < length rest → length rest < 3 → length rest ≤ j → packets_from j p rest ≡ Err (report 20 layer.Packet p)
short_cut j p [] s h l = absurd (omega arith)
short_cut zero p (x ∷ ys) s h l = absurd (omega arith)
short_cut (suc j) p (x ∷ []) s h l = refl
short_cut (suc j) p (x ∷ y ∷ []) s h l = refl
short_cut (suc j) p (x ∷ y ∷ z ∷ ys) s h l = absurd (omega arith)

abbrev then_packets : ℕ → ℕ → List ℕ → Result (Item × List ℕ) Report → Read
then_packets j p ys r = and_then r (λ q. and_then (packets_from j (p + (length ys - length q.1)) q.1) (λ items. Ok (q.0 ∷ items)))

module _ (p h l n : ℕ) (rest : List ℕ) where
  data_cut : (j : ℕ) → length rest < n → length (h ∷ l ∷ n ∷ rest) ≤ j → packets_from j p (h ∷ l ∷ n ∷ rest) ≡ Err (report 21 layer.Packet (p + 2))
  data_cut zero c b = absurd (omega arith)
  data_cut (suc j) c b = ap (then_packets j p (h ∷ l ∷ n ∷ rest)) (cond-true (ltb (length rest) n) (packet_fault 21 (p + 2)) _ (lt-ltb (length rest) n c))

  other_size : (s j : ℕ) → n ≤ length rest → data_size_of (h * 256 + l) ≡ Some s → (n ≡ s → ⊥) → length (h ∷ l ∷ n ∷ rest) ≤ j
      → packets_from j p (h ∷ l ∷ n ∷ rest) ≡ Err (report 22 layer.Packet (p + 2))
  other_size s zero c e ne b = absurd (omega arith)
  other_size s (suc j) c e ne b =
      let wrong : size_fits (h * 256 + l) n ≡ false = ap (λ o. fits_by o n) e ∙ ne_eqb n s ne in
      ap (then_packets j p (h ∷ l ∷ n ∷ rest))
      (cond-false (ltb (length rest) n) (packet_fault 21 (p + 2)) _ (le-ltb (length rest) n c)
      ∙ cond-false (size_fits (h * 256 + l) n) _ (packet_fault 22 (p + 2)) wrong)

-- ---- all of it

refuses : (xs : List ℕ) {f : Report} → Tells xs f → read_of xs ≡ Err f
refuses xs (empty e) = ap read_of e
refuses xs (other_start s n) = frame_err xs _ (no_start xs s n)
refuses xs (header_cut h) = frame_err xs _ (cut_header xs h)
refuses xs (length_ruled_out a i h l rest e v) = ap read_of e ∙ frame_err (0xFA ∷ a ∷ i ∷ 0xFF ∷ h ∷ l ∷ rest) _ (cond-false (leb 255 (h * 256 + l) && leb (h * 256 + l) 2048) _ _ (outside (h * 256 + l) v))
refuses xs (other_length start n w ne) = frame_err xs _ (wrong_length xs start n w ne)
refuses xs (wrong_checksum start n w l ne) = frame_err xs _ (wrong_sum xs start n w l ne)
refuses xs (other_address a i d e s ne) = not_address xs a i d e s ne
refuses xs (other_identifier i d e s ne) = not_identifier xs i d e s ne
refuses xs (no_packet e) = ap read_of e
refuses xs (packet_cut rest p b s c) = rest_err xs rest p b _ s (λ j. short_cut j p rest s c)
refuses xs (content_cut h l n rest p b c) = rest_err xs (h ∷ l ∷ n ∷ rest) p b _ (omega arith) (λ j. data_cut p h l n rest j c)
refuses xs (wrong_size h l n rest p s b c e ne) = rest_err xs (h ∷ l ∷ n ∷ rest) p b _ (omega arith) (λ j. other_size p h l n rest s j c e ne)

pub read_said : (xs : List ℕ) → Bytes xs → ReadSaid xs
read_said xs bs = record {
  accepted = λ items e. subst (ReadTold xs) e (told xs bs);
  accepts = accepts xs;
  refused = λ f e. subst (ReadTold xs) e (told xs bs);
  refuses = λ f t. refuses xs t;
}
