-- A frame gets its reply.
use Rattle.std.proofs.Common.{◌≡◌, ℕ, ◌+◌, ◌%◌, Bool, true, false, ◌||◌, List, [], ◌∷◌, ◌++◌, drop, sym, refl, subst, inl, inr}
use Rattle.std.proofs.lemmas.List.{append-nil}
use Rattle.std.proofs.lemmas.Bool.{both_ways, or_parts}
use Rattle.xbus.specs.Parts.{Parts}
use Rattle.config.specs.Answered.{answer_of, configuration_of}
use Rattle.session.specs.Model.{World, Core}
use Rattle.session.specs.Sending.{reply, error, wake_up, configuration}
use Rattle.session.specs.Serving.{Step, shown}
use Rattle.session.specs.Moments.{Happening, powers, serves, ticks, Moment}
use Rattle.session.specs.Counting.{acknowledged, is_request, is_wake_up, is_passage}
use Rattle.session.specs.Laws.{ReplyTo, Unasked, Replied}
use Rattle.session.proofs.Ways.{Allowed, Way, powering, silent, waking, refused, configuring, measured, resetting, asking, saving, changing, sleeping, pausing, passing, idle, sampling}
use Rattle.session.proofs.Happens.{Happens, happens_way}
use Rattle.session.proofs.Told.{moment_of, acknowledges, Told, row_of, way_told}

module _ (p : Parts) (m : Moment) where
  no_request : is_request m ≡ false → m.wrote ≡ [] → Replied p m
  no_request n e = record {
    request = λ y. absurd (both_ways (is_request m) n y);
    other = λ _. e;
    error = λ y _. absurd (both_ways (is_request m) n y);
  }

  a_request : (r u : List ℕ) → is_request m ≡ true → m.wrote ≡ r ++ u → ReplyTo p r → Unasked u → ((is_wake_up m || is_passage m) ≡ false → u ≡ [])
      → (acknowledged m ≡ false → m.after ≡ m.before) → Replied p m
  a_request r u y e t v n f = record {
    request = λ _. (r, u, e, t, v, n);
    other = λ z. absurd (both_ways (is_request m) z y);
    error = λ _. f;
  }

  -- with nothing behind the reply
  one_reply : is_request m ≡ true → ReplyTo p m.wrote → (acknowledged m ≡ false → m.after ≡ m.before) → Replied p m
  one_reply y t f = a_request m.wrote [] y (sym (append-nil m.wrote)) t (inl refl) (λ _. refl) f

to_reply : (p : Parts) (xs : List ℕ) → ReplyTo p (reply p xs)
to_reply p xs = record { identifier = (p.identifier + 1) % 256; content = xs; is = refl; names = inl refl }

to_error : (p : Parts) (xs : List ℕ) → ReplyTo p (error p xs)
to_error p xs = record { identifier = 0x42; content = xs; is = refl; names = inr refl }

-- what is done is acknowledged: of the bytes xs behind the reply's identifier nothing is asked
done : (c d : Core) (p : Parts) {g r n k : Bool} → Allowed c p g r n k → (xs : List ℕ)
    → acknowledged (moment_of c (serves p) (d, 0xFA ∷ p.address ∷ (p.identifier + 1) % 256 ∷ xs)) ≡ false → d ≡ c
done c d p f xs e =
    absurd (both_ways _ e (acknowledges c d (serves p) p.address ((p.identifier + 1) % 256) xs false f.signs.reply))

abbrev Gets : Core → Happening → Step → Type 0
Gets c powers s = Unit {0}
Gets c (serves p) s = Replied p (moment_of c (serves p) s)
Gets c ticks s = Unit {0}

module _ (w : World) (c : Core) where
  way_replied : {h : Happening} {s : Step} (g : Way w c h s) → Told w (moment_of c h s) (row_of g) → Gets c h s
  way_replied powering t = tt
  way_replied (silent {p} _) t = no_request p _ t.request refl
  way_replied (waking {p} _) t = no_request p _ t.request refl
  way_replied (refused {p} xs _ _ _ _) t = one_reply p _ t.request (to_error p xs) (λ _. refl)
  way_replied (configuring {p} f) t = one_reply p _ t.request (to_reply p []) (done c _ p f (drop 3 (reply p [])))
  way_replied (measured {p} f) t =
      let u : List ℕ = configuration w.device_id c.settings in
      a_request p _ (reply p []) u t.request refl (to_reply p []) (inr (inr (configuration_of w.device_id c.settings, refl)))
      (λ n. absurd (both_ways _ (or_parts _ _ n).1 t.passage)) (done c _ p f (drop 3 (reply p [] ++ u)))
  way_replied (resetting {p} f) t =
      a_request p _ (reply p []) wake_up t.request refl (to_reply p []) (inr (inl refl))
      (λ n. absurd (both_ways _ (or_parts _ _ n).0 t.wake_up_lem)) (done c _ p f (drop 3 (reply p [] ++ wake_up)))
  way_replied (asking {p} q f) t =
      let xs : List ℕ = answer_of w.device_id c.settings q in one_reply p _ t.request (to_reply p xs) (done c c p f (drop 3 (reply p xs)))
  way_replied (saving {p} ch s f _ _ _) t = one_reply p _ t.request (to_reply p (shown ch s)) (done c _ p f.allowed (drop 3 (reply p (shown ch s))))
  way_replied (changing {p} ch s f _ _) t = one_reply p _ t.request (to_reply p (shown ch s)) (done c _ p f.allowed (drop 3 (reply p (shown ch s))))
  way_replied (sleeping _ _) t = tt
  way_replied (pausing _ _ _) t = tt
  way_replied (passing _ _ _) t = tt
  way_replied (idle _) t = tt
  way_replied (sampling _) t = tt

pub happens_replied : (w : World) (m : Moment) → Happens w m → (p : Parts) → m.what ≡ serves p → Replied p m
happens_replied w m h p e =
    let g = happens_way w m h in
    subst (λ (x : Happening). Replied p (moment_of m.before x (m.after, m.wrote))) (sym e)
    (subst (λ (x : Happening). Gets m.before x (m.after, m.wrote)) e (way_replied w m.before g (way_told w m.before g)))
