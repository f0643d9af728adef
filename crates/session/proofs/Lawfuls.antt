-- The laws, for every session, and for every session with one more call behind it.
use Rattle.std.proofs.Common.{◌≡◌, ℕ, List, [], ◌∷◌, ◌++◌, map, length, false, None, Ok, sym, refl, ap, ◌∙◌, subst, arith}
use Rattle.std.specs.List.{AllByRecursion}
use Rattle.stream.specs.Reading.{frame, read_of}
use Rattle.stream.proofs.Readings.{frames_are_read}
use Rattle.xbus.specs.Parts.{Parts}
use Rattle.session.specs.declared.answers.Fed.{Fed}
use Rattle.session.specs.Filling.{is_whole}
use Rattle.session.specs.Model.{Kept, Model, World, making}
use Rattle.session.specs.Sessions.{Entry, Feed, Fair, next, Session, written, bytes_taken}
use Rattle.session.specs.Moments.{Moment, serves, frames_of, frames_in, left_in, moments_from, moments}
use Rattle.session.specs.Counting.{last_image}
use Rattle.session.specs.Moves.{Moved}
use Rattle.session.specs.Laws.{Linked, Done, Replied, Lawful, Begins, Extended}
use Rattle.session.proofs.Calls.{fed_left}
use Rattle.session.proofs.Readings.{Read, reads_quiet}
use Rattle.session.proofs.Happens.{Happens}
use Rattle.session.proofs.Replying.{happens_replied}
use Rattle.session.proofs.Always.{inv_making, inv_ended}
use Rattle.session.proofs.Moving.{happens_moved}
use Rattle.session.proofs.Runs.{Told, told}
use Rattle.session.proofs.OverMoments.{Frames, moment_frames, moments_frames, moments_cost, moments_held, moments_restores, moments_restorable}
use Rattle.session.proofs.Agreeing.{agreeing}

all_of : {X : Type 0} (P Q : X → Type 0) → ((x : X) → P x → Q x) → (xs : List X) → AllByRecursion P xs → AllByRecursion Q xs
all_of P Q f [] a = tt
all_of P Q f (x ∷ xs) (h, a) = (f x h, all_of P Q f xs a)

-- ---- frames one behind the other are read as those

frames_only : (fs : List (List ℕ)) → frames_of (map frame fs) ≡ fs
frames_only [] = refl
frames_only (f ∷ fs) = ap (λ (x : List (List ℕ)). f ∷ x) (frames_only fs)

module _ (xs : List ℕ) (n : ℕ) (f : Frames xs n) where
  read_frames : read_of xs ≡ map frame f.list
  read_frames = ap read_of (sym f.bytes) ∙ frames_are_read f.list f.each

  in_frames : frames_in xs ≡ f.list
  unfolding frames_in
  in_frames = ap frames_of read_frames ∙ frames_only f.list

  pub all_read : read_of xs ≡ map frame (frames_in xs)
  all_read = read_frames ∙ ap (map frame) (sym in_frames)

  pub all_counted : length (frames_in xs) ≡ n
  all_counted = ap length in_frames ∙ f.many

-- ---- what was told from the making

module _ (w : World) (es : List Entry) (k : Model) where
  moments_told : Session (making w) es k → Told w (making w) k es (frames_in (bytes_taken es))
  unfolding making
  moments_told s = told w es (making w) k (inv_making w) s

  left_told : Told w (making w) k es (frames_in (bytes_taken es)) → left_in (bytes_taken es) ≡ left_in k.waiting
  unfolding making
  left_told t = t.left

  dark_told : (making w).core.state ≡ None
  unfolding making
  dark_told = refl

  store_told : (making w).core.store ≡ w.store
  unfolding making
  store_told = refl

-- the last call of a session began at a unit, and led to its end
last_call : (ds : List Entry) (m k : Model) (e : Entry) → Session m (ds ++ (e ∷ [])) k → (x : Model) × Fair x e × (next x e ≡ k)
unfolding Session
last_call [] m k e (f, s) = (m, f, s)
last_call (d ∷ ds) m k e (f, s) = last_call ds (next m d) k e s

quiet_feed : (ds : List Entry) (m k : Model) (bs : List ℕ) (n : ℕ) (o : List ℕ) (f : Fed) → Session m (ds ++ (Feed bs n o (Ok f) ∷ [])) k
    → f.served ≡ false → is_whole k.waiting ≡ false
quiet_feed ds m k bs n o f s q =
    let l = last_call ds m k (Feed bs n o (Ok f)) s in
    subst (λ (x : Model). is_whole x.waiting ≡ false) l.2 (fed_left l.0 bs n o f l.1 q)

pub lawful : (w : World) (es : List Entry) (k : Model) → Session (making w) es k → Lawful w es k
unfolding moments
lawful w es k s =
    let t = moments_told w es k s in
    let ms : List Moment = moments_from (making w) (frames_in (bytes_taken es)) es in
    let out = subst (λ (x : List ℕ). Frames x (moment_frames w.meaning ms)) t.wrote (moments_frames w ms t.each) in
    let l = left_told w es k t in
    let Chain : List Moment → Type 0 = λ xs. Linked (making w).core xs k.core in
    record {
      alike = λ v ds j a r e p q. agreeing v w ds es j k a r s e p q;
      in_order = t.passes;
      none_lost = t.many;
      each_served = t.served;
      left = l;
      all_served = λ q.
          let r = reads_quiet k.waiting q t.inv.settled in
          let z : length (frames_in k.waiting) ≡ 0 = ap (λ (x : Read). length x.0) r in
          (omega (arith, t.many), l ∙ ap (λ (x : Read). x.1) r);
      served_at_once = λ ds bs n o f e q. quiet_feed ds (making w) k bs n o f (subst (λ (x : List Entry). Session (making w) x k) e s) q;
      linked = t.linked;
      outputs = t.wrote;
      done = all_of (Happens w) (Done w) (λ m h. h.done) ms t.each;
      replied = all_of (Happens w) (λ m. (p : Parts) → m.what ≡ serves p → Replied p m) (λ m h. happens_replied w m h) ms t.each;
      moved = all_of (Happens w) Moved (λ m h. happens_moved w m h) ms t.each;
      restores = λ a b c x r e. moments_restores w a b c x r (making w).core k.core (subst (AllByRecursion (Happens w)) e t.each) (subst Chain e t.linked);
      restorable = λ a c r e. moments_restorable w a c r (making w).core k.core (subst (AllByRecursion (Happens w)) e t.each) (subst Chain e t.linked) (dark_told w es k);
      all_frames = all_read (written es) (moment_frames w.meaning ms) out;
      counted = all_counted (written es) (moment_frames w.meaning ms) out;
      cost = ap (λ (x : Kept). x.left) (sym (store_told w es k)) ∙ moments_cost w ms (making w).core k.core t.each t.linked;
      held = moments_held w ms (making w).core k.core t.each t.linked ∙ ap (λ (x : Kept). last_image x.held ms) (store_told w es k);
      ended = inv_ended w k t.inv;
    }

-- ---- one more call

pub session_more : (es : List Entry) (m k : Model) (e : Entry) → Session m es k → Fair k e → Session m (es ++ (e ∷ [])) (next k e)
unfolding Session
session_more [] m k e s f = (subst (λ (x : Model). Fair x e) (sym s) f, ap (λ (x : Model). next x e) s)
session_more (d ∷ es) m k e (g, s) f = (g, session_more es (next m d) k e s f)

pub session_none : (m : Model) → Session m [] m
unfolding Session
session_none m = refl

pub begins : Begins
begins w = (session_none (making w), lawful w [] (making w) (session_none (making w)))

pub extended : Extended
extended m e f w es s =
    let t = session_more es (making w) m e s f in
    (t, lawful w (es ++ (e ∷ [])) (next m e) t)
