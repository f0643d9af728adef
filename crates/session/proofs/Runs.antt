-- What a whole session tells: its moments, by induction over its calls.
use Rattle.std.proofs.Common.{◌≡◌, ℕ, ◌+◌, Bool, List, [], ◌∷◌, ◌++◌, map, length, drop, Some, None, Option, sym, refl, ap, ◌∙◌, subst, ap₂, append_assoc, add_assoc, zero-add, arith}
use Rattle.std.specs.List.{flat_map, AllByRecursion}
use Rattle.std.proofs.lemmas.List.{append-nil, map-append, drop-drop}
use Rattle.std.proofs.ByRecursion.{All-append}
use Rattle.session.specs.Model.{Core, Model, World}
use Rattle.session.specs.Sessions.{Entry, next, Session, output, written, taken_in, bytes_taken, served_in, frames_served, Event, events, tape}
use Rattle.session.specs.Moments.{Happening, Moment, frames_in, left_in, happening, unserved, moment_by, moments_from}
use Rattle.session.specs.Counting.{one_if, is_served, count}
use Rattle.session.specs.Laws.{Linked}
use Rattle.session.proofs.Calls.{went}
use Rattle.session.proofs.Flows.{ahead, flow}
use Rattle.session.proofs.Happens.{Happens}
use Rattle.session.proofs.Always.{Inv}
use Rattle.session.proofs.CallsToMoments.{whats, Stepped, stepped, left_stays}

-- ---- lists of moments, one behind the other

abbrev pub wrote_in : List Moment → List ℕ
wrote_in ms = flat_map (λ x. x.wrote) ms

pub wrote_append : (ms ns : List Moment) → wrote_in (ms ++ ns) ≡ wrote_in ms ++ wrote_in ns
wrote_append [] ns = refl
wrote_append (m ∷ ms) ns = ap (λ (x : List ℕ). m.wrote ++ x) (wrote_append ms ns) ∙ sym (append_assoc m.wrote (wrote_in ms) (wrote_in ns))

pub count_append : (f : Moment → Bool) (ms ns : List Moment) → count f (ms ++ ns) ≡ count f ms + count f ns
unfolding count
count_append f [] ns = sym (zero-add (count f ns))
count_append f (m ∷ ms) ns = ap (λ (n : ℕ). one_if (f m) + n) (count_append f ms ns) ∙ sym (add_assoc (one_if (f m)) (count f ms) (count f ns))

pub linked_append : (ms ns : List Moment) (c d e : Core) → Linked c ms d → Linked d ns e → Linked c (ms ++ ns) e
linked_append [] ns c d e p q = subst (λ (x : Core). Linked x ns e) (sym p) q
linked_append (m ∷ ms) ns c d e (b, p) q = (b, linked_append ms ns m.after d e p q)

-- ---- a session

pub record Told (w : World) (m k : Model) (es : List Entry) (fs : List (List ℕ)) : Type 0 where
  pub inv : Inv w k
  pub passes : drop (frames_served es) fs ≡ frames_in k.waiting
  pub many : length fs ≡ frames_served es + length (frames_in k.waiting)
  pub left : left_in (m.waiting ++ bytes_taken es) ≡ left_in k.waiting
  pub flows : (t : List Event) → flow m.waiting (tape es ++ t) ≡ ahead (map (λ x. x.what) (moments_from m fs es)) (flow k.waiting t)
  pub each : AllByRecursion (Happens w) (moments_from m fs es)
  pub linked : Linked m.core (moments_from m fs es) k.core
  pub wrote : wrote_in (moments_from m fs es) ≡ written es
  pub served : count is_served (moments_from m fs es) ≡ frames_served es

abbrev waits : Model → List Entry → List (List ℕ)
waits m es = frames_in (m.waiting ++ bytes_taken es)

what_of : (h : Option Happening) (b a : Core) (o : List ℕ) → map (λ x. x.what) (moment_by h b o a) ≡ whats h
what_of None b a o = refl
what_of (Some h) b a o = refl

told_none : (w : World) (m : Model) → Inv w m → Told w m m [] (waits m [])
unfolding frames_served bytes_taken tape moments_from written count
told_none w m i =
    let e : frames_in (m.waiting ++ []) ≡ frames_in m.waiting = ap frames_in (append-nil m.waiting) in
    record {
      inv = i;
      passes = e;
      many = ap length e ∙ omega arith;
      left = ap left_in (append-nil m.waiting);
      flows = λ t. refl;
      each = tt;
      linked = refl;
      wrote = refl;
      served = refl;
    }

-- the moments of a call and then those of the calls behind it
module _ (w : World) (m k : Model) (e : Entry) (es : List Entry) (fs : List (List ℕ)) where
  abbrev firsts : List Moment
  firsts = moment_by (happening fs e) m.core (output e) (next m e).core

  told_more : Stepped w m (next m e) (output e) (events e) (served_in e) (happening fs e) (unserved fs e) fs (waits (next m e) es)
      → left_in (m.waiting ++ bytes_taken (e ∷ es)) ≡ left_in ((next m e).waiting ++ bytes_taken es)
      → Told w (next m e) k es (unserved fs e) → Told w m k (e ∷ es) fs
  unfolding frames_served tape moments_from written
  told_more s l t =
      let later : List Moment = moments_from (next m e) (unserved fs e) es in
      let p : drop (served_in e) fs ≡ unserved fs e = s.passes ∙ sym s.unserved in
      let n : length fs ≡ served_in e + length (unserved fs e) = s.many ∙ ap (λ (x : List (List ℕ)). served_in e + length x) (sym s.unserved) in
      record {
        inv = t.inv;
        passes = sym (drop-drop (frames_served es) (served_in e) fs) ∙ ap (drop (frames_served es)) p ∙ t.passes;
        many = n ∙ ap (λ (x : ℕ). served_in e + x) t.many ∙ sym (add_assoc (served_in e) (frames_served es) (length (frames_in k.waiting)));
        left = l ∙ t.left;
        flows = λ x. ap (flow m.waiting) (append_assoc (events e) (tape es) x) ∙ s.flows (tape es ++ x)
            ∙ ap (ahead (whats (happening fs e))) (t.flows x)
            ∙ ap (λ (hs : List Happening). (hs, (flow k.waiting x).1))
            (sym (append_assoc (whats (happening fs e)) (map (λ y. y.what) later) (flow k.waiting x).0)
            ∙ ap (λ (hs : List Happening). (hs ++ map (λ y. y.what) later) ++ (flow k.waiting x).0) (sym (what_of (happening fs e) m.core (next m e).core (output e)))
            ∙ ap (λ (hs : List Happening). hs ++ (flow k.waiting x).0) (sym (map-append (λ y. y.what) firsts later)));
        each = All-append (Happens w) firsts later s.each t.each;
        linked = linked_append firsts later m.core (next m e).core k.core s.linked t.linked;
        wrote = wrote_append firsts later ∙ ap₂ (λ (x y : List ℕ). x ++ y) s.wrote t.wrote;
        served = count_append is_served firsts later ∙ ap₂ (λ (x y : ℕ). x + y) s.served t.served;
      }

taken_more : (m : Model) (e : Entry) (es : List Entry) → waits m (e ∷ es) ≡ frames_in (m.waiting ++ (taken_in e ++ bytes_taken es))
unfolding bytes_taken
taken_more m e es = refl

left_more : (m k : Model) (e : Entry) (es : List Entry) → left_in (m.waiting ++ (taken_in e ++ bytes_taken es)) ≡ left_in (k.waiting ++ bytes_taken es)
    → left_in (m.waiting ++ bytes_taken (e ∷ es)) ≡ left_in (k.waiting ++ bytes_taken es)
unfolding bytes_taken
left_more m k e es l = l

pub told : (w : World) (es : List Entry) (m k : Model) → Inv w m → Session m es k → Told w m k es (waits m es)
unfolding Session
told w [] m k i e = subst (λ (x : Model). Told w m x [] (waits m [])) e (told_none w m i)
told w (e ∷ es) m k i (f, s) =
    let way = went m e f in
    let step = stepped w m i way (bytes_taken es) in
    let fs : List (List ℕ) = frames_in (m.waiting ++ (taken_in e ++ bytes_taken es)) in
    let rest : Told w (next m e) k es (unserved fs e) =
    subst (λ (x : List (List ℕ)). Told w (next m e) k es x) (sym step.unserved) (told w es (next m e) k step.inv s) in
    subst (λ (x : List (List ℕ)). Told w m k (e ∷ es) x) (sym (taken_more m e es))
    (told_more w m k e es fs step (left_more m (next m e) e es (left_stays m way (bytes_taken es))) rest)
