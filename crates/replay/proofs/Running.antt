-- Feeds that are under way: each that was made served a frame, and more bytes are to be fed.
use Rattle.std.proofs.Common.{◌≡◌, ℕ, ◌+◌, ◌<◌, ◌≤◌, Bool, true, false, cond, ◌⊎◌, List, [], ◌∷◌, ◌++◌, length, take, drop, Ok, Err, Result, IsErrAnd, IfErr, sym, refl, ap, ◌∙◌, subst, ⊎_elim, append_assoc, length-append, arith}
use Rattle.std.proofs.lemmas.List.{append-nil, take-append-drop}
use Rattle.std.proofs.lemmas.List.Concat.{flat_map-append}
use Rattle.std.proofs.Math.Seq.{drop-append_seam}
use Rattle.std.proofs.Math.ListN.{drop_of_length-le}
use Rattle.session.specs.declared.answers.Fed.{Fed}
use Rattle.session.specs.Model.{Model}
use Rattle.session.specs.Calls.{powered, feed_call}
use Rattle.session.specs.Sessions.{Entry, Feed, written, bytes_taken, frames_served}
use Rattle.replay.specs.declared.feeding.FeedError.{FeedError}
use Rattle.replay.specs.declared.feeding.FeedError.TheVariants.{Refused, Memory}
use Rattle.replay.specs.Feeding.{Continues, FeedsOn, fed_in, fed_answers, FedOnce, FedAll, IfRefused}
use Rattle.replay.proofs.Fed.{Accepted, fed_accepted, fed_refused}
use Rattle.replay.proofs.Continuing.{continues_none, continues_more, taken_more, written_more, served_more, feeds_more}

-- all feeds but so many served a frame, and the bytes `rest` are left
pub record Running (unserved : ℕ) (m k : Model) (bs rest : List ℕ) (n : ℕ) (before after : List Fed) (was is : List ℕ) : Type 0 where
  pub entries : List Entry
  pub continues : Continues m entries k
  pub feeds : FeedsOn n bs entries
  pub until : length entries ≡ frames_served entries + unserved
  pub taken : bytes_taken entries ++ rest ≡ bs
  pub answers : after ≡ before ++ fed_answers entries
  pub output : is ≡ was ++ written entries

pub running_none : (m : Model) (bs : List ℕ) (n : ℕ) (before : List Fed) (was : List ℕ) → Running 0 m m bs bs n before before was was
unfolding bytes_taken frames_served written
running_none m bs n before was = record {
  entries = [];
  continues = continues_none m;
  feeds = tt;
  until = refl;
  taken = refl;
  answers = sym (append-nil before);
  output = sym (append-nil was);
}

module _ {m j k : Model} {bs rest : List ℕ} {n t : ℕ} {before mid after : List Fed} {was so_far is : List ℕ} {f : Fed}
    (r : Running 0 m j bs rest n before mid was so_far) (same : t ≡ n) (fed : FedOnce j k rest t mid after so_far is f)
  where
    abbrev o : FedOnce j k rest n mid after so_far is f
    o = subst (λ (x : ℕ). FedOnce j k rest x mid after so_far is f) same fed

    abbrev e : Entry
    e = Feed rest n o.wrote (Ok f)

    says : Accepted j rest n k f
    says = fed_accepted j rest n k o.wrote f o.call

    one_more : length (r.entries ++ (e ∷ [])) ≡ frames_served (r.entries ++ (e ∷ [])) + cond f.served 0 1
    one_more = omega (arith, length-append r.entries (e ∷ []), served_more e r.entries, by f.served, r.until)
      where
        by : (b : Bool) → cond {A = ℕ} b 1 0 + cond b 0 1 ≡ 1
        by true = refl
        by false = refl

    rest_is : rest ≡ drop (length (bytes_taken r.entries)) bs
    rest_is =
        sym (drop-append_seam (bytes_taken r.entries) rest) ∙ ap (drop (length (bytes_taken r.entries))) r.taken

    all_taken : bytes_taken (r.entries ++ (e ∷ [])) ++ drop f.taken rest ≡ bs
    all_taken =
        ap (λ (xs : List ℕ). xs ++ drop f.taken rest) (taken_more e r.entries)
        ∙ append_assoc (bytes_taken r.entries) (take f.taken rest) (drop f.taken rest)
        ∙ ap (λ (xs : List ℕ). bytes_taken r.entries ++ xs) (take-append-drop f.taken rest) ∙ r.taken

    pub running_more : Running (cond f.served 0 1) m k bs (drop f.taken rest) n before after was is
    running_more = record {
      entries = r.entries ++ (e ∷ []);
      continues = continues_more m j k r.entries e r.continues o.continues;
      feeds = feeds_more e n r.entries bs r.feeds (rest_is, refl, refl);
      until = one_more;
      taken = all_taken;
      answers = o.answers ∙ ap (λ (xs : List Fed). xs ++ (f ∷ [])) r.answers ∙ append_assoc before (fed_answers r.entries) (f ∷ [])
          ∙ ap (λ (xs : List Fed). before ++ xs) (sym (flat_map-append fed_in r.entries (e ∷ [])));
      output = o.output ∙ ap (λ (xs : List ℕ). xs ++ o.wrote) r.output ∙ append_assoc was (written r.entries) o.wrote
          ∙ ap (λ (xs : List ℕ). was ++ xs) (sym (written_more e r.entries));
    }

    pub running_on : (xs : List ℕ) → xs ≡ drop f.taken rest → f.served ≡ true → Running 0 m k bs xs n before after was is
    running_on xs e s =
        subst (λ (x : List ℕ). Running 0 m k bs x n before after was is) (sym e)
        (subst (λ (b : Bool). Running (cond b 0 1) m k bs (drop f.taken rest) n before after was is) s running_more)

    pub running_fewer : (xs : List ℕ) → xs ≡ drop f.taken rest → f.served ≡ true → length xs + length k.waiting < length rest + length j.waiting
    running_fewer xs e s = subst (λ (x : List ℕ). length x + length k.waiting < length rest + length j.waiting) (sym e) (says.fewer s)

    pub running_ready : (powered k ≡ true) × (2055 ≤ t)
    running_ready = (says.on, omega (arith, says.long))

    pub running_ends : f.served ≡ false → FedAll m k bs n before after was is
    running_ends s =
        let q = says.quiet s in
        let none : drop f.taken rest ≡ [] = drop_of_length-le rest (omega (arith, q.0)) in
        let t : Running 1 m k bs (drop f.taken rest) n before after was is = subst (λ (b : Bool). Running (cond b 0 1) m k bs (drop f.taken rest) n before after was is) s running_more in
        record {
          entries = t.entries;
          continues = t.continues;
          feeds = t.feeds;
          until = t.until;
          taken = sym (append-nil (bytes_taken t.entries)) ∙ ap (λ (xs : List ℕ). bytes_taken t.entries ++ xs) (sym none) ∙ t.taken;
          none_waits = q.1;
          answers = t.answers;
          output = t.output;
        }

-- ---- only the first feed can be refused

-- what a feed is made with
abbrev Held : Type 0 → Type 0 → Type 0 → Type 0
Held D A O = D × List ℕ × A × O

module _ {D A O : Type 0} (model : D → Model) (bs rest : List ℕ) (was at is : Held D A O) where
  -- nothing has happened yet, or the unit is powered and the tray has room
  abbrev pub First : Type 0
  First =
      ((at.0 ≡ was.0) × (at.1 ≡ was.1) × (at.2 ≡ was.2) × (at.3 ≡ was.3) × (rest ≡ bs))
      ⊎ ((powered (model at.0) ≡ true) × (2055 ≤ length at.1))

  pub refused_first : (e : FeedError) → First
      → IfRefused e (λ r. (Err r ≡ (feed_call (model at.0) rest (length at.1)).2) × (is.0 ≡ at.0) × (is.1 ≡ at.1) × (is.2 ≡ at.2) × (is.3 ≡ at.3))
      → IfRefused e (λ r. (Err r ≡ (feed_call (model was.0) bs (length was.1)).2) × (is.0 ≡ was.0) × (is.1 ≡ was.1) × (is.2 ≡ was.2) × (is.3 ≡ was.3))
  refused_first Memory f h = tt
  refused_first (Refused r) f (a, d, t, x, o) =
      ⊎_elim
      (λ q. (a ∙ (λ i. (feed_call (model (q.0 i)) (q.4 i) (length (q.1 i))).2), d ∙ q.0, t ∙ q.1, x ∙ q.2, o ∙ q.3))
      (λ q. absurd (fed_refused (model at.0) rest (length at.1) r a q.0 q.1))
      f

-- an error that is passed on
pub err_same : {A E : Type 0} (r : Result A E) (e : E) (Q : E → Type 0) → IsErrAnd r (λ y. y ≡ e) → Q e → IfErr r Q
err_same (Ok x) e Q h q = tt
err_same (Err y) e Q h q = subst Q (sym h) q
