-- Alike sessions agree: what happens is read off the tape, and the same happenings at the same core do the same.
use Rattle.std.proofs.Common.{◌≡◌, ℕ, ◌^◌, ◌<◌, false, List, [], ◌∷◌, ◌++◌, map, None, sym, refl, ap, ◌∙◌, subst, ap₂, arith}
use Rattle.std.specs.List.{AllByRecursion}
use Rattle.std.proofs.lemmas.List.{append-nil}
use Rattle.settings.specs.Factory.{factory_of}
use Rattle.session.specs.Model.{Core, Kept, Model, World, no_counts, making, end_of}
use Rattle.session.specs.Filling.{is_whole}
use Rattle.session.specs.Sessions.{Entry, Session, written, bytes_taken, Event, tape}
use Rattle.session.specs.Moments.{Happening, Moment, frames_in, moments_from}
use Rattle.session.specs.Laws.{Alike, Linked, does}
use Rattle.session.proofs.Readings.{Read, reads_quiet}
use Rattle.session.proofs.Flows.{Flow, ahead, framed, flow, flow_end}
use Rattle.session.proofs.Happens.{Happens}
use Rattle.session.proofs.Sound.{happens_number}
use Rattle.session.proofs.Meant.{does_meant}
use Rattle.session.proofs.Always.{Inv, inv_making}
use Rattle.session.proofs.Runs.{Told, told, wrote_in}

-- the same happenings from the same core: the same end, and the same bytes
pub record Agrees (ms ns : List Moment) (d e : Core) : Type 0 where
  pub wrote : wrote_in ms ≡ wrote_in ns
  pub ends : d ≡ e

abbrev what_in : List Moment → List Happening
what_in ms = map (λ x. x.what) ms

module _ (v w : World) (a : Alike v w) where
  step_agrees : (m n : Moment) → Happens v m → Happens w n → m.what ≡ n.what → m.before ≡ n.before → m.before.counts.number < 2 ^ 32
      → ◌≡◌ {A = Core × List ℕ} (m.after, m.wrote) (n.after, n.wrote)
  step_agrees m n x y h b t =
      x.done
      ∙ ap₂ (λ (q : Happening) (c : Core). does v q c) h b
      ∙ does_meant v w n.what n.before a (subst (λ (c : Core). c.counts.number < 2 ^ 32) b t)
      ∙ sym y.done

  moments_agrees : (ms ns : List Moment) (c d e : Core) → AllByRecursion (Happens v) ms → AllByRecursion (Happens w) ns → Linked c ms d → Linked c ns e
      → what_in ms ≡ what_in ns → c.counts.number < 2 ^ 32 → Agrees ms ns d e
  moments_agrees [] [] c d e x y l k h t = record { wrote = refl; ends = sym l ∙ k }
  moments_agrees [] (n ∷ ns) c d e x y l k h t = let z : ◌≡◌ {A = ℕ} 0 1 = cc in absurd (omega arith)
  moments_agrees (m ∷ ms) [] c d e x y l k h t = let z : ◌≡◌ {A = ℕ} 0 1 = cc in absurd (omega arith)
  moments_agrees (m ∷ ms) (n ∷ ns) c d e (x, xs) (y, ys) (b, l) (g, k) h t =
      let p : m.what ≡ n.what = cc in
      let q : what_in ms ≡ what_in ns = cc in
      let bt : m.before.counts.number < 2 ^ 32 = subst (λ (c : Core). c.counts.number < 2 ^ 32) (sym b) t in
      let s = step_agrees m n x y p (b ∙ sym g) bt in
      let after : n.after ≡ m.after = ap (λ (r : Core × List ℕ). r.0) (sym s) in
      let rest = moments_agrees ms ns m.after d e xs ys l (subst (λ (c : Core). Linked c ns e) after k) q (happens_number v m x bt) in
      record {
        wrote = ap₂ (λ (i j : List ℕ). i ++ j) (ap (λ (r : Core × List ℕ). r.1) s) rest.wrote;
        ends = rest.ends;
      }

-- ---- the moments of a session are read off its tape

abbrev story : World → List Entry → List Moment
story w es = moments_from (making w) (frames_in ((making w).waiting ++ bytes_taken es)) es

told_making : (w : World) (es : List Entry) (k : Model) → Session (making w) es k → Told w (making w) k es (frames_in ((making w).waiting ++ bytes_taken es))
told_making w es k s = told w es (making w) k (inv_making w) s

quiet_end : (w : World) (k : Model) → Inv w k → is_whole k.waiting ≡ false → flow k.waiting [] ≡ ([], k.waiting)
quiet_end w k i q = flow_end k.waiting ∙ ap (λ (r : Read). (framed r.0, r.1)) (reads_quiet k.waiting q i.settled)

off_tape : (w : World) (es : List Entry) (k : Model) → Session (making w) es k → is_whole k.waiting ≡ false
    → flow (making w).waiting (tape es) ≡ (what_in (story w es), k.waiting)
off_tape w es k s q =
    let t = told_making w es k s in
    ap (flow (making w).waiting) (sym (append-nil (tape es)))
    ∙ t.flows []
    ∙ ap (ahead (what_in (story w es))) (quiet_end w k t.inv q)
    ∙ ap (λ (hs : List Happening). (hs, k.waiting)) (append-nil (what_in (story w es)))

empty_making : (w : World) → (making w).waiting ≡ []
unfolding making
empty_making w = refl

core_making : (v w : World) → Alike v w → (making v).core ≡ (making w).core
unfolding making
core_making v w a =
    ap₂ (λ p (s : Kept). record { state = None; settings = factory_of p; counts = no_counts; store = s }) a.product a.store

number_making : (w : World) → (making w).core.counts.number < 2 ^ 32
unfolding making
number_making w = omega arith

pub agreeing : (v w : World) (ds es : List Entry) (j k : Model) → Alike v w → Session (making v) ds j → Session (making w) es k → tape ds ≡ tape es
    → is_whole j.waiting ≡ false → is_whole k.waiting ≡ false → (written ds ≡ written es) × (end_of j ≡ end_of k)
agreeing v w ds es j k a s t e p q =
    let x = told_making v ds j s in
    let y = told_making w es k t in
    let f : ◌≡◌ {A = Flow} (what_in (story v ds), j.waiting) (what_in (story w es), k.waiting) =
    sym (off_tape v ds j s p)
    ∙ ap₂ (λ (b : List ℕ) (t : List Event). flow b t) (empty_making v ∙ sym (empty_making w)) e
    ∙ off_tape w es k t q in
    let l : Linked (making v).core (story w es) k.core = subst (λ (c : Core). Linked c (story w es) k.core) (sym (core_making v w a)) y.linked in
    let g = moments_agrees v w a (story v ds) (story w es) (making v).core j.core k.core x.each y.each x.linked l
    (ap (λ (r : Flow). r.0) f) (number_making v) in
    (sym x.wrote ∙ g.wrote ∙ y.wrote, ap₂ (λ (c : Core) (b : List ℕ). record { core = c; waiting = b }) g.ends (ap (λ (r : Flow). r.1) f))
