-- Messages: what is read is composed of these packets, what is composed is read, and what a fault tells.
use Rattle.std.proofs.Common.{◌≡◌, ℕ, ◌<◌, true, false, eqb, List, [], ◌∷◌, length, Ok, Err, Result, sym, refl, ap, ◌∙◌, subst, ⊎_elim, arith}
use Rattle.std.specs.List.{flat_map}
use Rattle.std.proofs.lemmas.List.{nil_from_length}
use Rattle.std.proofs.lemmas.Bool.{eqb-true, eqb-false, cond-true, cond-false, cases_Bool, ne_eqb}
use Rattle.xbus.specs.Numbers.{Bytes}
use Rattle.xbus.specs.Frames.{encoded}
use Rattle.mtdata2.specs.Faults.{Report, message_fault, and_then}
use Rattle.mtdata2.specs.Packets.{Item, packets_from, packet_bytes}
use Rattle.mtdata2.specs.Reading.{Parts, frame_of, addressed, message_of, read_of}
use Rattle.mtdata2.specs.Words.{data_start, MessageOf, Tells, other_address, other_identifier, no_packet}
use Rattle.mtdata2.proofs.Frames.{Framed, Told, told_frame, parts_from, frame_back}
use Rattle.mtdata2.proofs.Cuts.{packets_back, PacketsTold, told_packets}

-- ---- the message

-- xs is a data message of these parts
record Data (xs : List ℕ) (p : Parts) : Type 0 where
  pub framed : Framed xs p
  pub address : p.address ≡ 0xFF
  pub identifier : p.identifier ≡ 0x36
  pub some : length p.content ≡ 0 → ⊥

abbrev DataTold : List ℕ → Result Parts Report → Type 0
DataTold xs (Ok p) = Data xs p
DataTold xs (Err f) = Tells xs f

told_empty : (xs : List ℕ) (p : Parts) → Framed xs p → p.address ≡ 0xFF → p.identifier ≡ 0x36 → length p.content ≡ 0 → DataTold xs (message_fault 19 p.start)
told_empty xs p f a i z =
    let none : p.content ≡ [] = nil_from_length p.content z in
    let four : p.start ≡ 4 = f.starts ∙ (λ k. data_start (a k) (i k) (z k)) in
    subst (λ k. DataTold xs (message_fault 19 k)) (sym four) (no_packet (f.is ∙ (λ k. encoded (a k) (i k) (none k))))

told_addressed : (xs : List ℕ) (p : Parts) → Framed xs p → DataTold xs (addressed p)
told_addressed xs p f =
    let a = p.address in
    let i = p.identifier in
    let d = p.content in
    ⊎_elim
    (λ (s : eqb a 0xFF ≡ true).
    let ea = eqb-true a 0xFF s in
    ⊎_elim
    (λ (t : eqb i 0x36 ≡ true).
    let ei = eqb-true i 0x36 t in
    ⊎_elim
    (λ (u : eqb (length d) 0 ≡ true).
    subst (DataTold xs) (sym (cond-true _ _ _ s ∙ cond-true _ _ _ t ∙ cond-true _ _ _ u)) (told_empty xs p f ea ei (eqb-true _ 0 u)))
    (λ (u : eqb (length d) 0 ≡ false).
    subst (DataTold xs) (sym (cond-true _ _ _ s ∙ cond-true _ _ _ t ∙ cond-false _ _ _ u))
    (record { framed = f; address = ea; identifier = ei; some = eqb-false _ 0 u }))
    (cases_Bool (eqb (length d) 0)))
    (λ (t : eqb i 0x36 ≡ false).
    subst (DataTold xs) (sym (cond-true _ _ _ s ∙ cond-false _ _ _ t))
    (other_identifier i d (f.is ∙ ap (λ k. encoded k i d) ea) f.short (eqb-false i 0x36 t)))
    (cases_Bool (eqb i 0x36)))
    (λ (s : eqb a 0xFF ≡ false).
    subst (DataTold xs) (sym (cond-false _ _ _ s)) (other_address a i d f.is f.short (eqb-false a 0xFF s)))
    (cases_Bool (eqb a 0xFF))

told_message : (xs : List ℕ) (r : Result Parts Report) → Told xs r → DataTold xs (and_then r addressed)
told_message xs (Ok p) t = told_addressed xs p t
told_message xs (Err f) t = t

-- ---- all of it

abbrev pub ReadTold : List ℕ → Result (List Item) Report → Type 0
ReadTold xs (Ok items) = MessageOf xs items
ReadTold xs (Err f) = Tells xs f

module _ (xs : List ℕ) (p : Parts) (d : Data xs p) where
  content_is : xs ≡ encoded 0xFF 0x36 p.content
  content_is = d.framed.is ∙ (λ k. encoded (d.address k) (d.identifier k) p.content)

  content_starts : p.start ≡ data_start 0xFF 0x36 (length p.content)
  content_starts = d.framed.starts ∙ (λ k. data_start (d.address k) (d.identifier k) (length p.content))

  some_items : (items : List Item) → flat_map packet_bytes items ≡ p.content → 0 < length items
  some_items [] e = absurd (d.some (ap length (sym e)))
  some_items (i ∷ is) e = omega arith

  read_told : (r : Result (List Item) Report) → PacketsTold xs p.content p.start content_is content_starts d.framed.short p.content r → ReadTold xs r
  read_told (Ok items) t = record {
    some = some_items items t.1;
    well_formed = t.0;
    short = omega (arith, ap length t.1, d.framed.short);
    is = content_is ∙ ap (encoded 0xFF 0x36) (sym t.1);
  }
  read_told (Err f) t = t

  packets_told : ReadTold xs (packets_from (length p.content) p.start p.content)
  packets_told =
      read_told _
      (told_packets xs p.content p.start content_is content_starts d.framed.short (length p.content) p.start [] p.content
      (omega arith) tt d.framed.bytes refl (omega arith))

told_read : (xs : List ℕ) (r : Result Parts Report) → DataTold xs r → ReadTold xs (and_then r (λ m. packets_from (length m.content) m.start m.content))
told_read xs (Ok p) d = packets_told xs p d
told_read xs (Err f) t = t

pub told : (xs : List ℕ) → Bytes xs → ReadTold xs (read_of xs)
told xs bs = told_read xs (message_of xs) (told_message xs (frame_of xs) (told_frame xs bs))

pub accepts : (xs : List ℕ) (items : List Item) → MessageOf xs items → read_of xs ≡ Ok items
accepts xs items m =
    let d : List ℕ = flat_map packet_bytes items in
    let K : Parts → Result (List Item) Report = λ b. packets_from (length b.content) b.start b.content in
    let p : Parts = parts_from 0xFF 0x36 d in
    let f : message_of xs ≡ Ok p =
    ap message_of m.is ∙ ap (λ r. and_then r addressed) (frame_back 0xFF 0x36 d m.short)
    ∙ cond-false (eqb (length d) 0) _ (Ok p) (some_bytes items m.some) in
    ap (λ r. and_then r K) f ∙ packets_back (length d) p.start items m.well_formed (omega arith)
  where
    some_bytes : (is : List Item) → 0 < length is → eqb (length (flat_map packet_bytes is)) 0 ≡ false
    some_bytes [] h = absurd (omega arith)
    some_bytes (i ∷ is) h = ne_eqb _ 0 (λ e. omega arith)
