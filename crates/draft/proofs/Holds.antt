-- What a tray holds for a draft: with a packet more, and when it is closed.
use Rattle.std.proofs.Common.{◌≡◌, ℕ, ◌+◌, ◌-◌, ◌<◌, ◌≤◌, ltb, List, [], ◌∷◌, ◌++◌, length, take, drop, Ok, sym, refl, ap, ◌∙◌, ⊎_elim, arith}
use lib.Seq.{paste}
use Rattle.std.specs.List.{flat_map}
use Rattle.std.proofs.lemmas.List.{append_assoc, length-append, length-take-le, take_at, take-take, take_all, drop_at, drop-drop, flat_map_more}
use Rattle.std.proofs.lemmas.Slice.{between_is}
use Rattle.std.proofs.lemmas.Bool.{lt-ltb, le-ltb, cond-true, cond-false, cases_lt}
use Rattle.xbus.specs.Frames.{header_of, checksum, encoded}
use Rattle.xbus.specs.Writing.{frame_size, content_start}
use Rattle.xbus.proofs.Headers.{length_short, length_is_long}
use Rattle.xbus.proofs.Writes.{frame_room, encoded_size}
use Rattle.mtdata2.specs.Packets.{Item, packet_bytes, WellFormed}
use Rattle.mtdata2.specs.Words.{MessageOf}
use Rattle.mtdata2.proofs.Cuts.{well_formed_push}
use Rattle.mtdata2.proofs.Messages.{accepts}
use Rattle.draft.specs.declared.draft.Draft.{Draft}
use Rattle.draft.specs.Composed.{frame_so_far, grown, content_in, laid, Holding, Added, Closed}

-- ---- closed

-- the bytes from the start to the mark are the message
message_there : (items : List Item) (tray : List ℕ) (d : Draft) → Holding items tray d → 0 < length items → MessageOf (take (d.mark.now - d.extent.start) (drop d.extent.start tray)) items
message_there [] tray d h some = absurd (omega arith)
message_there (i ∷ is) tray d h some =
    let items : List Item = i ∷ is in
    let n : d.mark.now - d.extent.start ≡ length (frame_so_far items) = omega (arith, h.marked) in
    record {
      some = some;
      well_formed = h.well_formed;
      short = omega (arith, h.sized, d.extent.size.most);
      is = ap (λ k. take k (drop d.extent.start tray)) n ∙ h.there;
    }

pub closed_full : (items : List Item) (tray : List ℕ) (d : Draft) → Holding items tray d → (d.extent.size.len ≡ 0 → ⊥) → Closed items tray d (Ok tt)
closed_full items tray d h some =
    let m = message_there items tray d h in
    record {
      refused = λ e. absurd (some (h.sized ∙ ap (λ l. length (flat_map packet_bytes l)) e));
      accepted = λ l. refl;
      message = m;
      reads = λ l. accepts _ items (m l);
    }

-- ---- the data that stand in the tray

header_length : (a i n : ℕ) → n ≤ 2048 → length (0xFA ∷ header_of a i n) ≡ content_start n
header_length a i n h =
    ⊎_elim
    (λ l. ap (λ z. length (0xFA ∷ a ∷ i ∷ z)) (length_short n l) ∙ sym (cond-true (ltb n 255) 4 6 (lt-ltb n 255 l)))
    (λ l. ap (λ z. length (0xFA ∷ a ∷ i ∷ z)) (length_is_long n l h) ∙ sym (cond-false (ltb n 255) 4 6 (le-ltb n 255 l)))
    (cases_lt n 255)

encoded_content : (a i : ℕ) (d : List ℕ) → length d ≤ 2048 → take (length d) (drop (content_start (length d)) (encoded a i d)) ≡ d
encoded_content a i d h =
    let hd : List ℕ = header_of a i (length d) in
    let c : List ℕ = checksum (hd ++ d) ∷ [] in
    ap (λ z. take (length d) (drop (content_start (length d)) (0xFA ∷ z))) (append_assoc hd d c)
    ∙ ap (take (length d)) (drop_at (0xFA ∷ hd) (d ++ c) (content_start (length d)) (header_length a i (length d) h))
    ∙ take_at d c (length d) refl

-- a part of a longer part
inner : (xs : List ℕ) (c n f : ℕ) → c + n ≤ f → take n (drop c (take f xs)) ≡ take n (drop c xs)
inner xs c n f h = ap (take n) (sym (between_is xs c f)) ∙ take-take n (f - c) (drop c xs) (omega arith)

pub content_part : (tray : List ℕ) (start n f : ℕ) → content_start n + n ≤ f → take n (drop (content_start n) (take f (drop start tray))) ≡ content_in tray start n
content_part tray start n f h = inner (drop start tray) (content_start n) n f h ∙ ap (take n) (drop-drop (content_start n) start tray)

held_content : (items : List Item) (tray : List ℕ) (start n : ℕ) → n ≡ length (flat_map packet_bytes items) → n ≤ 2048 → take (length (frame_so_far items)) (drop start tray) ≡ frame_so_far items → content_in tray start n ≡ flat_map packet_bytes items
held_content [] tray start n e h there = ap (content_in tray start) e
held_content (i ∷ is) tray start n e h there =
    let d : List ℕ = flat_map packet_bytes (i ∷ is) in
    let f : ℕ = length (encoded 0xFF 0x36 d) in
    let size : f ≡ frame_size (length d) = encoded_size 0xFF 0x36 d (omega arith) in
    ap (content_in tray start) e
    ∙ sym (content_part tray start (length d) f (omega (arith, frame_room (length d))))
    ∙ ap (λ z. take (length d) (drop (content_start (length d)) z)) there
    ∙ encoded_content 0xFF 0x36 d (omega arith)

-- ---- one packet more

pub so_far_push : (items : List Item) (i : Item) → frame_so_far (items ++ (i ∷ [])) ≡ encoded 0xFF 0x36 (flat_map packet_bytes (items ++ (i ∷ [])))
so_far_push [] i = refl
so_far_push (j ∷ js) i = refl

-- the frame that is laid is that of the packets with the new one
pub frame_grows : (items : List Item) (tray : List ℕ) (d : Draft) (i : Item) → Holding items tray d → encoded 0xFF 0x36 (content_in tray d.extent.start d.extent.size.len ++ packet_bytes i) ≡ frame_so_far (items ++ (i ∷ []))
frame_grows items tray d i h =
    ap (encoded 0xFF 0x36)
    (ap (λ z. z ++ packet_bytes i) (held_content items tray d.extent.start d.extent.size.len h.sized d.extent.size.most h.there)
    ∙ flat_map_more packet_bytes [] items i)
    ∙ sym (so_far_push items i)

pasted : (xs ys : List ℕ) (at n : ℕ) → at + n ≤ length xs → length ys ≡ n → take n (drop at (paste xs at ys n)) ≡ ys
pasted xs ys at n h l =
    let front : length (take at xs) ≡ at = length-take-le at xs (omega arith) in
    let all : take n ys ≡ ys = take_all n ys (omega arith) in
    ap (λ z. take n (drop at z)) (append_assoc (take at xs) (take n ys) (drop (at + n) xs))
    ∙ ap (take n) (drop_at (take at xs) (take n ys ++ drop (at + n) xs) at front)
    ∙ ap (λ z. take n (z ++ drop (at + n) xs)) all ∙ take_at ys (drop (at + n) xs) n l

module _ (tray u : List ℕ) (d e : Draft) (i : Item) (w : WellFormed i)
    (same_start : e.extent.start ≡ d.extent.start)
    (size : e.extent.size.len ≡ grown d.extent.size.len (length i.bytes))
    (mark : e.mark.now ≡ d.extent.start + frame_size (grown d.extent.size.len (length i.bytes)))
    (fits : d.extent.start + frame_size (grown d.extent.size.len (length i.bytes)) ≤ length tray)
    (short : grown d.extent.size.len (length i.bytes) ≤ 2048)
    (is : u ≡ laid tray d.extent.start d.extent.size.len i)
  where
    pub holds_more : (items : List Item) → Holding items tray d → Holding (items ++ (i ∷ [])) u e
    holds_more items h =
        let start = d.extent.start in
        let have = d.extent.size.len in
        let n : ℕ = grown have (length i.bytes) in
        let old : List ℕ = flat_map packet_bytes items in
        let new : List ℕ = flat_map packet_bytes (items ++ (i ∷ [])) in
        let more : old ++ packet_bytes i ≡ new = flat_map_more packet_bytes [] items i in
        let ln : length new ≡ n = sym (ap length more) ∙ length-append old (packet_bytes i) ∙ omega (arith, h.sized) in
        let frame = frame_grows items tray d i h in
        let lf : length (frame_so_far (items ++ (i ∷ []))) ≡ frame_size n =
        ap length (so_far_push items i) ∙ encoded_size 0xFF 0x36 new (omega arith) ∙ ap frame_size ln in
        record {
          well_formed = well_formed_push items i h.well_formed w;
          sized = size ∙ sym ln;
          there =
              (λ k. take (lf k) (drop (same_start k) (is k)))
              ∙ pasted tray (encoded 0xFF 0x36 (content_in tray start have ++ packet_bytes i)) start (frame_size n) fits (ap length frame ∙ lf)
              ∙ frame;
          marked = mark ∙ (λ k. sym same_start k + sym lf k);
        }

    pub added : Added d e tray u i
    added = record { size = size; mark = mark; tray = is; holds = holds_more }
