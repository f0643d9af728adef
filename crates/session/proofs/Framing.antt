-- What a moment writes is frames, as many as are counted.
use Rattle.std.proofs.Common.{◌≡◌, ℕ, ◌+◌, ◌%◌, ◌<◌, ◌≤◌, true, false, ltb, List, [], ◌∷◌, ◌++◌, length, Some, Option, sym, refl, ap, subst, ⊎_elim, arith}
use Rattle.std.specs.List.{flat_map}
use Rattle.std.proofs.lemmas.List.{append-nil}
use Rattle.std.proofs.lemmas.Bool.{eqb-true, ltb-false, lt-ltb, or_cases}
use Rattle.xbus.specs.Numbers.{Bytes}
use Rattle.xbus.specs.Parts.{Parts}
use Rattle.xbus.specs.Frames.{Frame, encoded}
use Rattle.stream.specs.Reading.{EachFrame}
use Rattle.mtdata2.specs.Packets.{Item, packet_bytes}
use Rattle.draft.specs.Composed.{frame_so_far}
use Rattle.decision.specs.declared.states.State.{State}
use Rattle.decision.specs.declared.states.State.TheVariants.{Measurement}
use Rattle.decision.specs.Asked.{Changing, Baud, ErrorMode, Location, Profile, Flags, Outputs, Factory}
use Rattle.settings.specs.Values.{Values}
use Rattle.settings.specs.Valid.{valid}
use Rattle.config.specs.Changed.{changed_of}
use Rattle.config.specs.Answered.{answer_of, configuration_of}
use Rattle.session.specs.Model.{World, Core}
use Rattle.session.specs.Serving.{Step, shown, addressed}
use Rattle.session.specs.Sending.{reply, error, wake_up, configuration}
use Rattle.session.specs.Ticking.{packets_at, packets_by}
use Rattle.session.specs.Moments.{Happening, ticks, Moment}
use Rattle.session.specs.Counting.{one_if, is_request, is_wake_up, is_passage, is_sample}
use Rattle.session.proofs.Below.{changed_valid, answer_bytes, answer_short, configuration_bytes, configuration_short, outputs_bytes, outputs_short}
use Rattle.session.proofs.Packed.{packets_bytes}
use Rattle.session.proofs.Ways.{Way, powering, silent, waking, refused, configuring, measured, resetting, asking, saving, changing, sleeping, pausing, passing, idle, sampling}
use Rattle.session.proofs.Happens.{Happens, happens_way}
use Rattle.session.proofs.Told.{Row, tick_row, row_of, way_told}

-- bytes that are so many frames
abbrev Framed : List ℕ → ℕ → Type 0
Framed xs n = (fs : List (List ℕ)) × EachFrame fs × (flat_map (λ f. f) fs ≡ xs) × (length fs ≡ n)

-- how many frames are counted
abbrev counted : Row → ℕ
counted r = one_if r.request + one_if r.wake_up_lem + one_if r.passage + one_if r.sample

framed : (a i : ℕ) (xs : List ℕ) → a < 256 → i < 256 → Bytes xs → length xs ≤ 2048 → Frame (encoded a i xs)
framed a i xs h k b s = record {
  address = a;
  identifier = i;
  content = xs;
  address_byte = h;
  identifier_byte = k;
  content_bytes = b;
  content_short = s;
  is = refl;
}

none : Framed [] 0
none = ([], tt, refl, refl)

one : (xs : List ℕ) → Frame xs → Framed xs 1
one xs f = (xs ∷ [], (f, tt), append-nil xs, refl)

two : (xs ys : List ℕ) → Frame xs → Frame ys → Framed (xs ++ ys) 2
two xs ys f g = (xs ∷ ys ∷ [], (f, (g, tt)), ap (λ (zs : List ℕ). xs ++ zs) (append-nil ys), refl)

address_byte : (p : Parts) → addressed p ≡ true → p.address < 256
address_byte p h =
    ⊎_elim (λ e. let k = eqb-true p.address 0x01 e in omega arith) (λ e. let k = eqb-true p.address 0xFF e in omega arith)
    (or_cases _ _ h)

reply_frame : (p : Parts) (xs : List ℕ) → addressed p ≡ true → Bytes xs → length xs ≤ 2048 → Frame (reply p xs)
reply_frame p xs h b s = framed p.address ((p.identifier + 1) % 256) xs (address_byte p h) (omega arith) b s

configuration_frame : (id : ℕ) (s : Values) → valid s ≡ true → Frame (configuration id s)
configuration_frame id s v = framed 0xFF 0x0D (configuration_of id s) (omega arith) (omega arith) (configuration_bytes id s v) (configuration_short id s)

wake_frame : Frame wake_up
wake_frame = framed 0xFF 0x3E [] (omega arith) (omega arith) tt (omega arith)

-- the data of the reply to a change

shown_fits : (ch : Changing) (s : Values) → valid s ≡ true → Bytes (shown ch s) × (length (shown ch s) ≤ 2048)
shown_fits (Outputs xs) s v = (outputs_bytes s v, outputs_short s v)
shown_fits (Baud u) s v = (tt, omega arith)
shown_fits (ErrorMode u) s v = (tt, omega arith)
shown_fits (Location u) s v = (tt, omega arith)
shown_fits (Profile u) s v = (tt, omega arith)
shown_fits (Flags u w) s v = (tt, omega arith)
shown_fits Factory s v = (tt, omega arith)

shown_frame : (p : Parts) (c s : Values) (ch : Changing) → addressed p ≡ true → changed_of c ch ≡ Some s → Frame (reply p (shown ch s))
shown_frame p c s ch h e = let f = shown_fits ch s (changed_valid c s ch e) in reply_frame p (shown ch s) h f.0 f.1

-- the message of a tick

sample_frames : (is : List Item) → Bytes (flat_map packet_bytes is) → length (flat_map packet_bytes is) ≤ 2048
    → Framed (frame_so_far is) (counted (tick_row false false (ltb 0 (length is))))
sample_frames [] b s = none
sample_frames (i ∷ is) b s =
    rw (lt-ltb 0 (length (i ∷ is)) (omega arith))
    (one (encoded 0xFF 0x36 (flat_map packet_bytes (i ∷ is))) (framed 0xFF 0x36 (flat_map packet_bytes (i ∷ is)) (omega arith) (omega arith) b s))

packets_at_bytes : (w : World) (c : Core) → c.state ≡ Some Measurement → Bytes (flat_map packet_bytes (packets_at w.meaning c))
unfolding packets_at
packets_at_bytes w c e =
    subst (λ (o : Option State). Bytes (flat_map packet_bytes (packets_by w.meaning o c))) (sym e) (packets_bytes w.meaning c.counts c.settings.entries)

module _ {w : World} {c : Core} where
  way_frames : {h : Happening} {s : Step} (g : Way w c h s) → valid c.settings ≡ true
      → (h ≡ ticks → ltb 2048 (length (flat_map packet_bytes (packets_at w.meaning c))) ≡ false) → Framed s.1 (counted (row_of g))
  way_frames powering v short = one wake_up wake_frame
  way_frames (silent _) v short = none
  way_frames (waking _) v short = none
  way_frames (refused {p} xs h _ b s) v short = one (error p xs) (framed p.address 0x42 xs (address_byte p h) (omega arith) b s)
  way_frames (configuring {p} f) v short = one (reply p []) (reply_frame p [] f.here tt (omega arith))
  way_frames (measured {p} f) v short = two (reply p []) _ (reply_frame p [] f.here tt (omega arith)) (configuration_frame w.device_id c.settings v)
  way_frames (resetting {p} f) v short = two (reply p []) wake_up (reply_frame p [] f.here tt (omega arith)) wake_frame
  way_frames (asking {p} q f) v short =
      one _ (reply_frame p (answer_of w.device_id c.settings q) f.here (answer_bytes _ _ q v) (answer_short _ _ q v))
  way_frames (saving {p} ch s f e _ _) v short =
      one _ (shown_frame p c.settings s ch f.allowed.here e)
  way_frames (changing {p} ch s f e _) v short =
      one _ (shown_frame p c.settings s ch f.allowed.here e)
  way_frames (sleeping _ _) v short = none
  way_frames (pausing _ _ _) v short = none
  way_frames (passing _ _ _) v short = one _ (configuration_frame w.device_id c.settings v)
  way_frames (idle _) v short = none
  way_frames (sampling e) v short = sample_frames (packets_at w.meaning c) (packets_at_bytes w c e) (ltb-false 2048 _ (short refl))

pub happens_frames : (w : World) (m : Moment) → Happens w m
    → (fs : List (List ℕ)) × EachFrame fs × (flat_map (λ f. f) fs ≡ m.wrote)
    × (length fs ≡ one_if (is_request m) + one_if (is_wake_up m) + one_if (is_passage m) + one_if (is_sample w.meaning m))
happens_frames w m h =
    let g = happens_way w m h in
    let t = way_told w m.before g in
    rw (t.request, t.wake_up_lem, t.passage, t.sample) (way_frames g h.sound h.short)
