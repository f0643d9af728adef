-- What an accepted record says, and the tray and the draft after it.
use Rattle.std.proofs.Common.{◌≡◌, ℕ, ◌+◌, ◌-◌, ◌<◌, ◌≤◌, Bool, true, false, cond, not, ◌&&◌, ltb, leb, List, ◌++◌, length, take, drop, Ok, Err, Result, sym, refl, ap, ◌∙◌, arith}
use lib.Seq.{paste}
use Rattle.std.proofs.lemmas.List.{append_assoc, length-append, length-take-le, length-drop, take_all, drop-drop}
use Rattle.std.proofs.lemmas.Bool.{ltb-false, leb-true, not-false, not_from_true, and_parts, and_from, le-ltb, le-leb, cond-false}
use Rattle.xbus.specs.Numbers.{Bytes}
use Rattle.xbus.specs.Frames.{encoded}
use Rattle.xbus.specs.Writing.{frame_size, content_start}
use Rattle.xbus.proofs.Bytes.{bytes_take, bytes_drop}
use Rattle.xbus.proofs.Writes.{frame_room, encoded_size}
use Rattle.mti.specs.Identifiers.{data_size_of}
use Rattle.mtdata2.specs.Packets.{Item, item_of, size_fits, packet_bytes, WellFormed}
use Rattle.mtdata2.proofs.Cuts.{fits_size}
use Rattle.draft.specs.declared.refusal.Refusal.{Refusal}
use Rattle.draft.specs.declared.refusal.Refusal.TheVariants.{NoRoom}
use Rattle.draft.specs.Composed.{asked, grown, sized, and_then, judged, content_in, laid}
use Rattle.draft.proofs.Extends.{start_grows}
use Rattle.draft.proofs.Holds.{content_part}

-- a record that is accepted
pub record Accepted (n identifier place size start have room g : ℕ) : Type 0 where
  pub inside : place + size ≤ n
  pub byte : size ≤ 255
  pub right : size_fits identifier size ≡ true
  pub is : g ≡ grown have size
  pub short : g ≤ 2048
  pub fits : start + frame_size g ≤ room

err_not_ok : (e : Refusal) (g : ℕ) → ◌≡◌ {A = Result ℕ Refusal} (Ok g) (Err e) → ⊥
err_not_ok e g p = let z : ◌≡◌ {A = ℕ} 0 1 = cc in omega arith

sized_by : (s t : Bool) (a b : Refusal) (g k : ℕ) → ◌≡◌ {A = Result ℕ Refusal} (Ok g) (cond s (Err a) (cond t (Err b) (Ok k))) → (s ≡ false) × (t ≡ false) × (g ≡ k)
sized_by true t a b g k e = absurd (err_not_ok a g e)
sized_by false true a b g k e = absurd (err_not_ok b g e)
sized_by false false a b g k e = (refl, refl, cc)

pub accepted : (n identifier place size start have room g : ℕ) → place + size ≤ n → Ok g ≡ sized identifier size have → start + frame_size g ≤ room → Accepted n identifier place size start have room g
accepted n identifier place size start have room g inside e fits =
    let j = sized_by (not (leb size 255 && size_fits identifier size)) (ltb 2048 (grown have size)) _ _ g (grown have size) e in
    let b = and_parts (leb size 255) (size_fits identifier size) (not-false _ j.0) in
    record {
      inside = inside;
      byte = leb-true size 255 b.0;
      right = b.1;
      is = j.2;
      short = omega (arith, ltb-false 2048 (grown have size) j.1);
      fits = fits;
    }

room_by : (v : Bool) (e : Refusal) (g k : ℕ) → ◌≡◌ {A = Result ℕ Refusal} (Ok g) (cond v (Err e) (Ok k)) → (v ≡ false) × (g ≡ k)
room_by true e g k p = absurd (err_not_ok e g p)
room_by false e g k p = (refl, cc)

roomed : (r : Result ℕ Refusal) (full : ℕ → Bool) (e : Refusal) (g : ℕ) → ◌≡◌ {A = Result ℕ Refusal} (Ok g) (and_then r (λ k. cond (full k) (Err e) (Ok k))) → (Ok g ≡ r) × (full g ≡ false)
roomed (Ok k) full e g p = let q = room_by (full k) e g k p in (ap Ok q.1, ap full q.1 ∙ q.0)
roomed (Err f) full e g p = absurd (err_not_ok f g p)

-- the same, of the whole answer
pub accepted_inside : (n identifier place size start have room g : ℕ) → place + size ≤ n → Ok g ≡ judged n identifier place size start have room → Accepted n identifier place size start have room g
accepted_inside n identifier place size start have room g inside e =
    let q = roomed (sized identifier size have) (λ k. ltb room (start + frame_size k)) NoRoom g (e ∙ cond-false (ltb n (place + size)) _ _ (le-ltb n (place + size) inside)) in
    accepted n identifier place size start have room g inside q.0 (ltb-false room (start + frame_size g) q.1)

-- with its data inside the bytes and of the right size, only room decides
pub judged_room : (n identifier place size start have room : ℕ) → place + size ≤ n → size ≤ 255 → size_fits identifier size ≡ true → grown have size ≤ 2048 → judged n identifier place size start have room ≡ cond (ltb room (start + frame_size (grown have size))) (Err NoRoom) (Ok (grown have size))
judged_room n identifier place size start have room inside byte right short =
    cond-false (ltb n (place + size)) _ _ (le-ltb n (place + size) inside)
    ∙ ap (λ r. and_then r (λ g. cond (ltb room (start + frame_size g)) (Err NoRoom) (Ok g)))
    (cond-false (not (leb size 255 && size_fits identifier size)) _ _ (not_from_true _ (and_from (leb size 255) _ (le-leb size 255 byte) right))
    ∙ cond-false (ltb 2048 (grown have size)) _ _ (le-ltb 2048 (grown have size) short))

module _ (source : List ℕ) (identifier place size start have room g : ℕ) (a : Accepted (length source) identifier place size start have room g) where
  abbrev part : List ℕ
  part = take size (drop place source)

  pub part_length : length part ≡ size
  part_length = length-take-le size (drop place source) (omega (arith, length-drop place source, a.inside))

  -- the same, as the code cuts it out
  part_cut : take (place + size - place) (drop place source) ≡ part
  part_cut = let k : place + size - place ≡ size = omega arith in ap (λ m. take m (drop place source)) k

  pub asked_well_formed : identifier < 65536 → Bytes source → WellFormed (asked source identifier place size)
  asked_well_formed small bs = record {
    holds = refl;
    identifier = small;
    bytes = bytes_take size (drop place source) (bytes_drop place source bs);
    short = omega (arith, part_length, a.byte);
    size = λ s e. part_length ∙ fits_size (data_size_of identifier) size a.right s e;
  }

  -- the tray after the frame was extended in place, between what stands in front of it and the rest
  pub laid_is : (tray front behind frame rest fin content : List ℕ) (f : ℕ) → f ≡ frame_size g → room ≡ length tray → front ≡ take start tray → behind ≡ drop start tray → frame ≡ take f behind → rest ≡ drop f behind → content ≡ take (place + size - place) (drop place source) → fin ≡ encoded 0xFF 0x36 (take have (drop (content_start have) frame) ++ packet_bytes (item_of identifier content)) → front ++ (fin ++ rest) ≡ laid tray start have (asked source identifier place size)
  laid_is tray front behind frame rest fin content f n r is-front is-behind is-frame is-rest cut is =
      let i : Item = asked source identifier place size in
      let d : List ℕ = content_in tray start have ++ packet_bytes i in
      let all : List ℕ = encoded 0xFF 0x36 d in
      let p = frame_room g in
      let s = start_grows have g (omega (arith, a.is)) in
      let there : take have (drop (content_start have) frame) ≡ content_in tray start have =
      ap (λ x. take have (drop (content_start have) x)) (is-frame ∙ ap (take f) is-behind) ∙ content_part tray start have f (omega (arith, a.is)) in
      let lc : length (content_in tray start have) ≡ have =
      length-take-le have (drop (start + content_start have) tray) (omega (arith, length-drop (start + content_start have) tray, a.fits, a.is)) in
      let ld : length d ≡ g = length-append (content_in tray start have) (packet_bytes i) ∙ omega (arith, a.is, part_length) in
      let la : length all ≡ f = encoded_size 0xFF 0x36 d (omega (arith, a.short)) ∙ ap frame_size ld ∙ sym n in
      let lg : grown have (length i.bytes) ≡ g = omega (arith, a.is, part_length) in
      let written : fin ≡ take f all =
      is ∙ (λ j. encoded 0xFF 0x36 (there j ++ packet_bytes (item_of identifier ((cut ∙ part_cut) j)))) ∙ sym (take_all f all (omega arith)) in
      (λ j. is-front j ++ (written j ++ (is-rest ∙ ap (drop f) is-behind ∙ drop-drop f start tray) j))
      ∙ sym (append_assoc (take start tray) (take f all) (drop (start + f) tray)) ∙ ap (paste tray start all) (n ∙ ap frame_size (sym lg))
