-- Calls behind a session, and feeds behind feeds.
use Rattle.std.proofs.Common.{◌≡◌, ℕ, ◌+◌, List, [], ◌∷◌, ◌++◌, length, drop, sym, ap, ◌∙◌, subst, append_assoc, length-append, arith}
use Rattle.std.proofs.lemmas.List.{append-nil, drop-drop}
use Rattle.session.specs.Model.{Model, making}
use Rattle.session.specs.Sessions.{Entry, Session, output, written, taken_in, bytes_taken, served_in, frames_served}
use Rattle.session.specs.Laws.{Lawful, Extends}
use Rattle.session.proofs.Lawfuls.{lawful}
use Rattle.replay.specs.Feeding.{Continues, Lawfully, Feeds, FeedsOn}

pub continues_none : (m : Model) → Continues m [] m
continues_none m w es s =
    let t = subst (λ (l : List Entry). Session (making w) l m) (sym (append-nil es)) s in
    (t, lawful w (es ++ []) m t)

pub continues_more : (m j k : Model) (ds : List Entry) (e : Entry) → Continues m ds j → Continues j (e ∷ []) k → Continues m (ds ++ (e ∷ [])) k
continues_more m j k ds e p q w es s =
    subst (λ (l : List Entry). Session (making w) l k × Lawful w l k) (append_assoc es ds (e ∷ [])) (q w (es ++ ds) (p w es s).0)

pub lawfully : (m k : Model) (e : Entry) → Extends m e k → Lawfully m k
lawfully m k e h = (e ∷ [], h)

pub lawfully_more : (m j k : Model) (ds : List Entry) → Continues m ds j → Lawfully j k → Lawfully m k
lawfully_more m j k ds p (es, q) =
    (ds ++ es, λ w fs s. subst (λ (l : List Entry). Session (making w) l k × Lawful w l k) (append_assoc fs ds es) (q w (fs ++ ds) (p w fs s).0))

-- ---- what calls one behind the other took, wrote and served

module _ (e : Entry) where
  pub taken_more : (ds : List Entry) → bytes_taken (ds ++ (e ∷ [])) ≡ bytes_taken ds ++ taken_in e
  unfolding bytes_taken
  taken_more [] = append-nil (taken_in e)
  taken_more (d ∷ ds) = ap (λ (x : List ℕ). taken_in d ++ x) (taken_more ds) ∙ sym (append_assoc (taken_in d) (bytes_taken ds) (taken_in e))

  pub written_more : (ds : List Entry) → written (ds ++ (e ∷ [])) ≡ written ds ++ output e
  unfolding written
  written_more [] = append-nil (output e)
  written_more (d ∷ ds) = ap (λ (x : List ℕ). output d ++ x) (written_more ds) ∙ sym (append_assoc (output d) (written ds) (output e))

  pub served_more : (ds : List Entry) → frames_served (ds ++ (e ∷ [])) ≡ frames_served ds + served_in e
  unfolding frames_served
  served_more [] = omega arith
  served_more (d ∷ ds) = omega (arith, served_more ds)

  pub feeds_more : (n : ℕ) (ds : List Entry) (bs : List ℕ) → FeedsOn n bs ds → Feeds n (drop (length (bytes_taken ds)) bs) e → FeedsOn n bs (ds ++ (e ∷ []))
  unfolding bytes_taken
  feeds_more n [] bs f g = (g, tt)
  feeds_more n (d ∷ ds) bs (h, f) g =
      (h, feeds_more n ds (drop (length (taken_in d)) bs) f (subst (λ (xs : List ℕ). Feeds n xs e) dropped g))
    where
      dropped : drop (length (taken_in d ++ bytes_taken ds)) bs ≡ drop (length (bytes_taken ds)) (drop (length (taken_in d)) bs)
      dropped = ap (λ (k : ℕ). drop k bs) (length-append (taken_in d) (bytes_taken ds)) ∙ sym (drop-drop (length (bytes_taken ds)) (length (taken_in d)) bs)
