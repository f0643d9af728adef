-- Calls that are under way: those so far were all accepted, and others are left.
use Rattle.std.proofs.Common.{◌≡◌, ℕ, ◌+◌, ◌-◌, ◌≤◌, List, [], ◌∷◌, ◌++◌, length, take, drop, Ok, Err, Result, MatchResult, Some, None, Option, sym, refl, ap, ◌∙◌, subst, append_assoc, length-take, length-drop, arith}
use Rattle.std.specs.Option.{option_map_or}
use Rattle.std.proofs.lemmas.List.{append-nil, take-append-le}
use Rattle.std.proofs.Math.Seq.{take-append-add}
use Rattle.std.proofs.lemmas.Slice.{take-put_mid_below}
use borrow.Rule.Slice.PartMut.{put_mid, post_of}
use Rattle.session.specs.declared.answers.Refusal.{Refusal}
use Rattle.session.specs.Answers.{number_of}
use Rattle.session.specs.Model.{Model, World, making}
use Rattle.session.proofs.Lawfuls.{lawful, session_more, session_none}
use Rattle.session.specs.Sessions.{Entry, next, Fair, Session, written}
use Rattle.unit.specs.Units.{wrote}
use Rattle.replay.specs.Calls as replay
use Rattle.replay.proofs.Continuing.{written_more}
use Rattle.embed.specs.Scripts.{Call, calls_of}
use Rattle.embed.specs.Playing.{Saving, asked, answer_in, Plays, accepted_by, accepted, refusal_by, refusal_of, memory_next, memory_behind, Called, CallsPlayed, ScriptPlayed}

-- ---- one more call

accepted_more : (es : List Entry) (e : Entry) → accepted (es ++ (e ∷ [])) ≡ accepted es + accepted_by (answer_in e)
accepted_more [] e = omega arith
accepted_more (d ∷ es) e = omega (arith, accepted_more es e)

memory_more : (f : Saving) (es : List Entry) (m k : Model) (e : Entry) (bs : List ℕ) → Session m es k
    → memory_behind f m (es ++ (e ∷ [])) bs ≡ memory_next f k e (memory_behind f m es bs)
unfolding Session
memory_more f [] m k e bs s = ap (λ (x : Model). memory_next f x e bs) s
memory_more f (d ∷ es) m k e bs (g, s) = memory_more f es (next m d) k e (memory_next f m d bs) s

-- ---- calls under way

-- i calls were accepted, w bytes of out are written, and the calls `rest` of the script are left
pub record Running (f : Saving) (m k : Model) (calls rest : List Call) (n w : ℕ) (o : List ℕ) (i : ℕ) (was is : List ℕ) : Type 0 where
  pub entries : List Entry
  pub session : Session m entries k
  -- what completes the rest completes the script
  pub onward : (es : List Entry) → Plays (n - w) rest es → Plays n calls (entries ++ es)
  pub refusals : (es : List Entry) → refusal_of (entries ++ es) ≡ refusal_of es
  pub output : o ≡ written entries
  pub accepts : i ≡ accepted entries
  pub memory : is ≡ memory_behind f m entries was

pub running_none : (f : Saving) (m : Model) (calls : List Call) (n : ℕ) (was : List ℕ) → Running f m m calls calls n 0 [] 0 was was
unfolding written
running_none f m calls n was = record {
  entries = [];
  session = session_none m;
  onward = λ es h. let e : n - 0 ≡ n = omega arith in subst (λ (x : ℕ). Plays x calls es) e h;
  refusals = λ es. refl;
  output = refl;
  accepts = refl;
  memory = refl;
}

module _ {f : Saving} {m j k : Model} {calls cs : List Call} {n w : ℕ} {o p : List ℕ} {i t : ℕ} {was so is : List ℕ} {a : Result ℕ Refusal}
    (r : Running f m j calls cs n w o i was so) (c : Call) (rest : List Call) (first : cs ≡ c ∷ rest) (room : t ≡ n - w)
    (d : Called f j k (asked c t) p a so is) (xs : List ℕ) (front : xs ≡ o ++ p)
  where
    abbrev es : List Entry
    es = r.entries ++ (d.entry ∷ [])

    session : Session m es k
    session = subst (Session m es) d.leads (session_more r.entries m j d.entry r.session d.fair)

    joined : xs ≡ written es
    joined =
        front ∙ ap (λ (x : List ℕ). x ++ p) r.output ∙ ap (λ (x : List ℕ). written r.entries ++ x) d.writes
        ∙ sym (written_more d.entry r.entries)

    memory : is ≡ memory_behind f m es was
    memory =
        d.memory ∙ ap (memory_next f j d.entry) r.memory ∙ sym (memory_more f r.entries m j d.entry was r.session)

    -- what completes the calls behind this one completes the script
    onward : (ds : List Entry) (b : Result ℕ Refusal) → a ≡ b → MatchResult b (λ x. Plays ((n - w) - x) rest ds) (λ _. ds ≡ [])
        → Plays n calls (r.entries ++ (d.entry ∷ ds))
    onward ds b e h =
        let asks : replay.asked_in d.entry ≡ asked c (n - w) = d.asks ∙ ap (asked c) room in
        let q : MatchResult (answer_in d.entry) (λ x. Plays ((n - w) - x) rest ds) (λ _. ds ≡ []) =
        subst (λ (x : Result ℕ Refusal). MatchResult x (λ y. Plays ((n - w) - y) rest ds) (λ _. ds ≡ [])) (sym e ∙ d.answers) h in
        r.onward (d.entry ∷ ds) (subst (λ (x : List Call). Plays (n - w) x (d.entry ∷ ds)) (sym first) (asks, q))

    pub running_more : (b h : ℕ) → a ≡ Ok b → h ≡ i + 1 → Running f m k calls rest n (w + b) xs h was is
    running_more b h e g =
        let answer : answer_in d.entry ≡ Ok b = sym d.answers ∙ e in
        let less : n - (w + b) ≡ (n - w) - b = omega arith in
        record {
          entries = es;
          session = session;
          onward = λ ds q.
              subst (Plays n calls) (sym (append_assoc r.entries (d.entry ∷ []) ds))
              (onward ds (Ok b) e (subst (λ (x : ℕ). Plays x rest ds) less q));
          refusals = λ ds.
              ap refusal_of (append_assoc r.entries (d.entry ∷ []) ds) ∙ r.refusals (d.entry ∷ ds)
              ∙ ap (λ (x : Result ℕ Refusal). refusal_by x (refusal_of ds)) answer;
          output = joined;
          accepts = omega (arith, g, r.accepts, accepted_more r.entries d.entry, ap accepted_by answer);
          memory = memory;
        }

    pub running_refused : (b : Refusal) → a ≡ Err b → CallsPlayed f m k calls n xs i (Some b) was is
    running_refused b e =
        let answer : answer_in d.entry ≡ Err b = sym d.answers ∙ e in
        record {
          entries = es;
          session = session;
          plays = onward [] (Err b) e refl;
          output = joined;
          accepts = omega (arith, r.accepts, accepted_more r.entries d.entry, ap accepted_by answer);
          refusal = sym (r.refusals (d.entry ∷ []) ∙ ap (λ (x : Result ℕ Refusal). refusal_by x None) answer);
          memory = memory;
        }

module _ {f : Saving} {m k : Model} {calls cs : List Call} {n w : ℕ} {o : List ℕ} {i : ℕ} {was is : List ℕ}
    (r : Running f m k calls cs n w o i was is) (none : cs ≡ [])
  where
    pub running_ends : CallsPlayed f m k calls n o i None was is
    running_ends = record {
      entries = r.entries;
      session = r.session;
      plays = subst (Plays n calls) (append-nil r.entries) (r.onward [] (subst (λ (x : List Call). Plays (n - w) x []) (sym none) tt));
      output = r.output;
      accepts = r.accepts;
      refusal = sym (ap refusal_of (sym (append-nil r.entries)) ∙ r.refusals []);
      memory = r.memory;
    }

-- ---- a script played on a unit that was made for it

pub script_played : (w : World) {f : Saving} {m k : Model} {script : List ℕ} {n : ℕ} {o : List ℕ} {i : ℕ} {r : Option Refusal} {was is : List ℕ}
    (number written left : ℕ) → m ≡ making w → CallsPlayed f m k (calls_of script) n o i r was is
    → number ≡ option_map_or number_of r 0 → left ≡ k.core.store.left
    → ScriptPlayed w script n o (record { calls = i; refusal = number; written = written; left = left })
script_played w {k = k} number written left e p q l =
    let s = subst (λ (x : Model). Session x p.entries k) e p.session in
    record {
      entries = p.entries;
      after = k;
      session = s;
      lawful = lawful w p.entries k s;
      plays = p.plays;
      output = p.output;
      accepts = p.accepts;
      refusal = q ∙ ap (λ (x : Option Refusal). option_map_or number_of x 0) p.refusal;
      left = l;
    }

-- ---- what a call wrote stands behind what those before it wrote

module _ (w k : ℕ) (xs ys : List ℕ) where
  pub accepted_front : (a : Result ℕ Refusal) (b : ℕ) → a ≡ Ok b → w ≤ length xs → b ≤ length ys
      → take (w + b) (put_mid w k xs ys) ≡ take w xs ++ take (wrote a) ys
  accepted_front a b e h g =
      let t : length (take w xs) ≡ w = omega (arith, length-take w xs) in
      ap (λ (n : ℕ). take (n + b) (put_mid w k xs ys)) (sym t) ∙ take-append-add (take w xs) (ys ++ post_of w k xs) b
      ∙ ap (λ (zs : List ℕ). take w xs ++ zs) (take-append-le b ys (post_of w k xs) g)
      ∙ ap (λ (x : Result ℕ Refusal). take w xs ++ take (wrote x) ys) (sym e)

  pub refused_front : (a : Result ℕ Refusal) (b : Refusal) → a ≡ Err b → w ≤ length xs
      → take w (put_mid w k xs ys) ≡ take w xs ++ take (wrote a) ys
  refused_front a b e h =
      take-put_mid_below w k xs ys w (omega arith) h ∙ sym (append-nil (take w xs))
      ∙ ap (λ (x : Result ℕ Refusal). take w xs ++ take (wrote x) ys) (sym e)

pub rest_length : (w : ℕ) (xs : List ℕ) → length (take (length xs - w) (drop w xs)) ≡ length xs - w
rest_length w xs = omega (arith, length-take (length xs - w) (drop w xs), length-drop w xs)
