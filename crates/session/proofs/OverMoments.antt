-- What holds of moments one behind the other, from what holds of each: frames and their count, the store, Reset.
use Rattle.std.proofs.Common.{◌≡◌, ℕ, ◌+◌, Bool, true, false, cond, ◌&&◌, ◌||◌, eqb, ◌⊎◌, List, [], ◌∷◌, ◌++◌, length, is_some, Some, None, Option, sym, refl, ap, ◌∙◌, subst, ap₂, inl, inr, ⊎_elim, append_assoc, arith, length-append}
use Rattle.std.specs.List.{flat_map, AllByRecursion}
use Rattle.std.proofs.lemmas.Bool.{cases_Bool, true≢false, false≢true}
use Rattle.stream.specs.Reading.{EachFrame}
use Rattle.settings.specs.Image.{image_of}
use Rattle.session.specs.Model.{Core, World, Meaning}
use Rattle.session.specs.Moments.{Happening, powers, serves, ticks, Moment}
use Rattle.session.specs.Counting.{one_if, is_power, is_request, is_reset, is_wake_up, is_passage, is_sample, is_stored, count, last_image, acknowledged, of_served}
use Rattle.session.specs.Laws.{Linked, keeps}
use Rattle.session.proofs.Happens.{Happens}
use Rattle.session.proofs.Framing.{happens_frames}
use Rattle.session.proofs.Keeping.{stored_settings, happens_left, happens_held, happens_keeps, happens_stays, happens_resets}
use Rattle.session.proofs.Runs.{wrote_in}

-- ---- parts of a list

all_behind : {X : Type 0} (P : X → Type 0) (xs ys : List X) → AllByRecursion P (xs ++ ys) → AllByRecursion P ys
all_behind P [] ys a = a
all_behind P (x ∷ xs) ys a = all_behind P xs ys a.1

all_before : {X : Type 0} (P : X → Type 0) (xs ys : List X) → AllByRecursion P (xs ++ ys) → AllByRecursion P xs
all_before P [] ys a = tt
all_before P (x ∷ xs) ys a = (a.0, all_before P xs ys a.1)

-- the core between two parts
linked_parts : (xs ys : List Moment) (c e : Core) → Linked c (xs ++ ys) e → (d : Core) × Linked c xs d × Linked d ys e
linked_parts [] ys c e l = (c, refl, l)
linked_parts (x ∷ xs) ys c e (b, l) = let p = linked_parts xs ys x.after e l in (p.0, (b, p.1), p.2)

-- ---- every byte is in a counted frame

abbrev pub moment_frames : Meaning → List Moment → ℕ
moment_frames s ms = count is_request ms + count is_wake_up ms + count is_passage ms + count (is_sample s) ms

each_append : (fs gs : List (List ℕ)) → EachFrame fs → EachFrame gs → EachFrame (fs ++ gs)
each_append [] gs a b = b
each_append (f ∷ fs) gs (x, a) b = (x, each_append fs gs a b)

joined_append : (fs gs : List (List ℕ)) → flat_map (λ f. f) (fs ++ gs) ≡ flat_map (λ f. f) fs ++ flat_map (λ f. f) gs
joined_append [] gs = refl
joined_append (f ∷ fs) gs = ap (λ (x : List ℕ). f ++ x) (joined_append fs gs) ∙ sym (append_assoc f (flat_map (λ f. f) fs) (flat_map (λ f. f) gs))

-- these bytes are n frames, one behind the other
pub record Frames (xs : List ℕ) (n : ℕ) : Type 0 where
  pub list : List (List ℕ)
  pub each : EachFrame list
  pub bytes : flat_map (λ f. f) list ≡ xs
  pub many : length list ≡ n

frames_append : (xs ys : List ℕ) (m n : ℕ) → Frames xs m → Frames ys n → Frames (xs ++ ys) (m + n)
frames_append xs ys m n a b = record {
  list = a.list ++ b.list;
  each = each_append a.list b.list a.each b.each;
  bytes = joined_append a.list b.list ∙ ap₂ (λ (x y : List ℕ). x ++ y) a.bytes b.bytes;
  many = length-append a.list b.list ∙ ap₂ (λ (x y : ℕ). x + y) a.many b.many;
}

moment_frames_lem : (w : World) (m : Moment) → Happens w m
    → Frames m.wrote (one_if (is_request m) + one_if (is_wake_up m) + one_if (is_passage m) + one_if (is_sample w.meaning m))
moment_frames_lem w m h = let f = happens_frames w m h in record { list = f.0; each = f.1; bytes = f.2; many = f.3 }

pub moments_frames : (w : World) (ms : List Moment) → AllByRecursion (Happens w) ms → Frames (wrote_in ms) (moment_frames w.meaning ms)
unfolding count
moments_frames w [] a = record { list = []; each = tt; bytes = refl; many = refl }
moments_frames w (m ∷ ms) (h, a) =
    subst (λ (n : ℕ). Frames (wrote_in (m ∷ ms)) n) (omega arith)
    (frames_append m.wrote (wrote_in ms) _ _ (moment_frames_lem w m h) (moments_frames w ms a))

-- ---- storing costs exactly one write

pub moments_cost : (w : World) (ms : List Moment) (c d : Core) → AllByRecursion (Happens w) ms → Linked c ms d → c.store.left ≡ d.store.left + count is_stored ms
unfolding count
moments_cost w [] c d a e = ap (λ (x : Core). x.store.left) e ∙ omega arith
moments_cost w (m ∷ ms) c d (h, a) (b, l) =
    let x = happens_left w m h in
    let y = moments_cost w ms m.after d a l in
    let z : m.before.store.left ≡ c.store.left = ap (λ (x : Core). x.store.left) b in
    omega arith

pub moments_held : (w : World) (ms : List Moment) (c d : Core) → AllByRecursion (Happens w) ms → Linked c ms d → d.store.held ≡ last_image c.store.held ms
unfolding last_image
moments_held w [] c d a e = ap (λ (x : Core). x.store.held) (sym e)
moments_held w (m ∷ ms) c d (h, a) (b, l) =
    moments_held w ms m.after d a l
    ∙ ap (λ (x : Option (List ℕ)). last_image x ms)
    (happens_held w m h ∙ ap (λ (x : Core). cond (is_stored m) (Some (image_of m.after.settings)) x.store.held) b)

-- ---- Reset restores what was stored

-- moments that neither load nor store leave what a Reset would load
moments_stays : (w : World) (ms : List Moment) (c d : Core) → AllByRecursion (Happens w) ms → Linked c ms d → AllByRecursion (λ y. keeps y ≡ false) ms
    → stored_settings d ≡ stored_settings c
moments_stays w [] c d a e n = ap stored_settings (sym e)
moments_stays w (m ∷ ms) c d (h, a) (b, l) (f, n) =
    moments_stays w ms m.after d a l n ∙ happens_stays w m h f ∙ ap stored_settings b

pub moments_restores : (w : World) (a b c : List Moment) (x r : Moment) (k d : Core) → AllByRecursion (Happens w) (a ++ (x ∷ (b ++ (r ∷ c))))
    → Linked k (a ++ (x ∷ (b ++ (r ∷ c)))) d → keeps x ≡ true → AllByRecursion (λ y. keeps y ≡ false) b → is_reset r ≡ true
    → r.after.settings ≡ x.after.settings
moments_restores w a b c x r k d h l y n z =
    let hx = all_behind (Happens w) a (x ∷ (b ++ (r ∷ c))) h in
    let hb = hx.1 in
    let hr = (all_behind (Happens w) b (r ∷ c) hb).0 in
    let lx = linked_parts a (x ∷ (b ++ (r ∷ c))) k d l in
    let lb = linked_parts b (r ∷ c) x.after d lx.2.1 in
    happens_resets w r hr z
    ∙ ap stored_settings lb.2.0
    ∙ moments_stays w b x.after lb.0 (all_before (Happens w) b (r ∷ c) hb) lb.1 n
    ∙ happens_keeps w x hx.0 y

-- a list splits at the last moment that loads or stores, if there is one
abbrev pub LastKept : List Moment → Type 0
LastKept ms = (d : List Moment) × (x : Moment) × (b : List Moment) × (ms ≡ d ++ (x ∷ b)) × (keeps x ≡ true) × AllByRecursion (λ y. keeps y ≡ false) b

last_kept : (ms : List Moment) → LastKept ms ⊎ AllByRecursion (λ y. keeps y ≡ false) ms
last_kept [] = inr tt
last_kept (m ∷ ms) =
    ⊎_elim
    (λ q. inl (m ∷ q.0, q.1, q.2, ap (λ (x : List Moment). m ∷ x) q.3, q.4, q.5))
    (λ n. ⊎_elim (λ (t : keeps m ≡ true). inl ([], m, ms, refl, t, n)) (λ (t : keeps m ≡ false). inr (t, n)) (cases_Bool (keeps m)))
    (last_kept ms)

-- a dark unit can only be powered
dark_powers : (w : World) (m : Moment) → Happens w m → m.before.state ≡ None → is_power m.what ≡ true
dark_powers w m h e =
    ⊎_elim (λ (t : is_power m.what ≡ true). t)
    (λ (t : is_power m.what ≡ false). absurd (true≢false (sym (h.powered t) ∙ ap is_some e)))
    (cases_Bool (is_power m.what))

power_no_reset : (m : Moment) → is_power m.what ≡ true → is_reset m ≡ false
power_no_reset m e = by m.what (acknowledged m) e
  where
    by : (h : Happening) (b : Bool) → is_power h ≡ true → (of_served h (λ p. eqb p.identifier 0x40) && b) ≡ false
    by powers b e = refl
    by (serves p) b e = absurd (false≢true e)
    by ticks b e = absurd (false≢true e)

power_keeps : (m : Moment) → is_power m.what ≡ true → keeps m ≡ true
power_keeps m e = ap (λ (b : Bool). b || is_stored m) e

pub moments_restorable : (w : World) (a c : List Moment) (r : Moment) (k d : Core) → AllByRecursion (Happens w) (a ++ (r ∷ c)) → Linked k (a ++ (r ∷ c)) d
    → k.state ≡ None → is_reset r ≡ true → LastKept a
moments_restorable w [] c r k d h l e z =
    let p = dark_powers w r h.0 (ap (λ (x : Core). x.state) l.0 ∙ e) in
    absurd (false≢true (sym (power_no_reset r p) ∙ z))
moments_restorable w (m ∷ a) c r k d h l e z =
    let p = dark_powers w m h.0 (ap (λ (x : Core). x.state) l.0 ∙ e) in
    ⊎_elim (λ q. q) (λ n. absurd (true≢false (sym (power_keeps m p) ∙ n.0))) (last_kept (m ∷ a))
