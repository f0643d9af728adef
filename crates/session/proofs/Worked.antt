-- The worked cases, by one test that is computed over the whole table.
use Rattle.std.proofs.Common.{◌≡◌, ℕ, Bool, true, false, cond, not, ◌&&◌, eqb, List, [], ◌∷◌, length, Ok, Err, Result, refl, sym, ◌∙◌, ap}
use lib.Ieee.{round, to_bits}
use Rattle.std.specs.List.{AllByRecursion}
use Rattle.std.specs.Str.{bytes_eq}
use Rattle.std.proofs.lemmas.Slice.Eq.{bytes_eq-Decides}
use Rattle.std.proofs.lemmas.Bool.{and_parts, eqb-true, false≢true}
use Rattle.mti.specs.declared.product.Product.TheVariants.{Mti3}
use Rattle.mti.specs.Channels.{channel_of}
use Rattle.stream.specs.Reading.{Piece, frame, stray, left, read_of, read_from}
use Rattle.numbers.specs.Steps.{steps}
use Rattle.numbers.specs.Encoding.{code_of, encoded}
use Rattle.settings.specs.declared.record.Entry.{Entry}
use Rattle.settings.specs.Values.{entry}
use Rattle.settings.specs.Rates.{largest_divisor}
use Rattle.settings.specs.Factory.{factory_of}
use Rattle.settings.specs.Valid.{valid, valid_entry}
use Rattle.settings.specs.View.{checked_of}
use Rattle.settings.specs.Image as image
use Rattle.settings.specs.Image.{places, fields_of, image_of, entries_at, load_of}
use Rattle.decision.specs.Decided.{decided}
use Rattle.config.specs.Changed.{used, asked_outputs, changed_of}
use Rattle.config.specs.Answered.{configuration_of, answer_of}
use Rattle.session.specs.declared.counts.Counts.{Counts}
use Rattle.session.specs.declared.answers.Fed.{Fed}
use Rattle.session.specs.declared.answers.Refusal.{Refusal}
use Rattle.session.specs.declared.answers.Refusal.TheVariants.{Dark, AlreadyPowered, ShortTray, FrameWaits, TooLong}
use Rattle.session.specs.Answers.{number_of}
use Rattle.session.specs.Model.{making}
use Rattle.session.specs.Waking.{woken}
use Rattle.session.specs.Serving.{adopted, performed, served}
use Rattle.session.specs.Sampling.{data_of, packets}
use Rattle.session.specs.Ticking.{wake_tick, packets_at, tick}
use Rattle.session.specs.Filling.{fills, filled}
use Rattle.session.specs.Calls.{Called, power_call, feed_call, tick_call}
use Rattle.session.specs.Deeds.{done, behind, unit}
use Rattle.session.specs.Worked.{Case, reads, rated, sent, writes, taken, counting, refused, table, Accepted, Takes, Refuses, Holds, Worked}

-- whether two lists of pieces are the same
same_piece : Piece → Piece → Bool
same_piece (frame xs) (frame ys) = bytes_eq xs ys
same_piece (frame xs) (stray y) = false
same_piece (frame xs) (left ys) = false
same_piece (stray x) (frame ys) = false
same_piece (stray x) (stray y) = eqb x y
same_piece (stray x) (left ys) = false
same_piece (left xs) (frame ys) = false
same_piece (left xs) (stray y) = false
same_piece (left xs) (left ys) = bytes_eq xs ys

same_pieces : List Piece → List Piece → Bool
same_pieces [] [] = true
same_pieces [] (q ∷ qs) = false
same_pieces (p ∷ ps) [] = false
same_pieces (p ∷ ps) (q ∷ qs) = same_piece p q && same_pieces ps qs

piece_is : (p q : Piece) → same_piece p q ≡ true → p ≡ q
unfolding same_piece
piece_is (frame xs) (frame ys) e = ap frame ((bytes_eq-Decides xs ys).0 e)
piece_is (frame xs) (stray y) e = absurd (false≢true e)
piece_is (frame xs) (left ys) e = absurd (false≢true e)
piece_is (stray x) (frame ys) e = absurd (false≢true e)
piece_is (stray x) (stray y) e = ap stray (eqb-true x y e)
piece_is (stray x) (left ys) e = absurd (false≢true e)
piece_is (left xs) (frame ys) e = absurd (false≢true e)
piece_is (left xs) (stray y) e = absurd (false≢true e)
piece_is (left xs) (left ys) e = ap left ((bytes_eq-Decides xs ys).0 e)

pieces_are : (ps qs : List Piece) → same_pieces ps qs ≡ true → ps ≡ qs
unfolding same_pieces
pieces_are [] [] e = refl
pieces_are [] (q ∷ qs) e = absurd (false≢true e)
pieces_are (p ∷ ps) [] e = absurd (false≢true e)
pieces_are (p ∷ ps) (q ∷ qs) e =
    let a = and_parts (same_piece p q) (same_pieces ps qs) e in
    let h = piece_is p q a.0 in
    let t = pieces_are ps qs a.1 in
    cc

-- whether a call came to this, and that it did then

refusal_at : ℕ → Refusal
refusal_at n =
    cond (eqb n 1) Dark (cond (eqb n 2) AlreadyPowered (cond (eqb n 3) ShortTray (cond (eqb n 4) FrameWaits TooLong)))

numbered : (e : Refusal) → refusal_at (number_of e) ≡ e
unfolding refusal_at
numbered Dark = refl
numbered AlreadyPowered = refl
numbered ShortTray = refl
numbered FrameWaits = refl
numbered TooLong = refl

answers : Result ℕ Refusal → ℕ → Bool
answers (Ok k) n = eqb k n
answers (Err e) n = false

accepted : Called ℕ → List ℕ → Bool
accepted c xs = bytes_eq c.1 xs && answers c.2 (length xs)

answer_is : (a : Result ℕ Refusal) (n : ℕ) → answers a n ≡ true → a ≡ Ok n
unfolding answers
answer_is (Ok k) n e = ap Ok (eqb-true k n e)
answer_is (Err x) n e = absurd (false≢true e)

is_accepted : (c : Called ℕ) (xs : List ℕ) → accepted c xs ≡ true → Accepted c xs
unfolding accepted
is_accepted c xs e =
    let a = and_parts (bytes_eq c.1 xs) (answers c.2 (length xs)) e in
    ((bytes_eq-Decides c.1 xs).0 a.0, answer_is c.2 (length xs) a.1)

same_truth : Bool → Bool → Bool
same_truth true b = b
same_truth false b = not b

truth_is : (a b : Bool) → same_truth a b ≡ true → a ≡ b
unfolding same_truth
truth_is true true e = refl
truth_is true false e = absurd (false≢true e)
truth_is false true e = absurd (false≢true e)
truth_is false false e = refl

takes : Result Fed Refusal → ℕ → Bool → Bool
takes (Ok f) k b = eqb f.taken k && same_truth f.served b
takes (Err e) k b = false

is_taken : (a : Result Fed Refusal) (k : ℕ) (b : Bool) → takes a k b ≡ true → Takes a k b
unfolding takes
is_taken (Ok f) k b e =
    let a = and_parts (eqb f.taken k) (same_truth f.served b) e in (eqb-true f.taken k a.0, truth_is f.served b a.1)
is_taken (Err x) k b e = absurd (false≢true e)

same_counts : Counts → Counts → Bool
same_counts a b =
    eqb a.wake_ticks b.wake_ticks
    && (eqb a.sent b.sent && (eqb a.number b.number && (eqb a.phase b.phase && eqb a.seconds b.seconds)))

counts_are : (a b : Counts) → same_counts a b ≡ true → a ≡ b
unfolding same_counts
counts_are a b e =
    let p = and_parts (eqb a.wake_ticks b.wake_ticks) _ e in
    let q = and_parts (eqb a.sent b.sent) _ p.1 in
    let r = and_parts (eqb a.number b.number) _ q.1 in
    let s = and_parts (eqb a.phase b.phase) (eqb a.seconds b.seconds) r.1 in
    λ k. record {
      wake_ticks = eqb-true a.wake_ticks b.wake_ticks p.0 k;
      sent = eqb-true a.sent b.sent q.0 k;
      number = eqb-true a.number b.number r.0 k;
      phase = eqb-true a.phase b.phase s.0 k;
      seconds = eqb-true a.seconds b.seconds s.1 k;
    }

refusing : Result ℕ Refusal → Refusal → Bool
refusing (Ok k) e = false
refusing (Err x) e = eqb (number_of x) (number_of e)

refusal_is : (a : Result ℕ Refusal) (e : Refusal) → refusing a e ≡ true → a ≡ Err e
unfolding refusing
refusal_is (Ok k) e t = absurd (false≢true t)
refusal_is (Err x) e t =
    ap Err (sym (numbered x) ∙ ap refusal_at (eqb-true (number_of x) (number_of e) t) ∙ numbered e)

refuses : Called ℕ → Refusal → Bool
refuses c e = bytes_eq c.1 [] && refusing c.2 e

is_refused : (c : Called ℕ) (e : Refusal) → refuses c e ≡ true → Refuses c e
unfolding refuses
is_refused c e t =
    let a = and_parts (bytes_eq c.1 []) (refusing c.2 e) t in
    ((bytes_eq-Decides c.1 []).0 a.0, refusal_is c.2 e a.1)

-- the test of a case
tested : Case → Bool
tested (reads xs ps) = same_pieces (read_of xs) ps
tested (rated i asked hz) = eqb (used (entry i asked)).identifier i && eqb (used (entry i asked)).frequency hz
tested (sent p v xs) = bytes_eq (encoded p v) xs
tested (writes p n ds d xs) = accepted (done 2055 d (behind ds (unit p n))) xs
tested (taken ds bs k b) = takes (feed_call (behind ds (unit Mti3 4)) bs 2055).2 k b
tested (counting ds n) = same_counts (behind ds (unit Mti3 4)).core.counts n
tested (refused ds d n e) = refuses (done n d (behind ds (unit Mti3 4))) e

entry_is : (e : Entry) (i f : ℕ) → e.identifier ≡ i → e.frequency ≡ f → e ≡ entry i f
entry_is e i f p q = λ k. record { identifier = p k; frequency = q k }

case_holds : (c : Case) → tested c ≡ true → Holds c
unfolding tested
case_holds (reads xs ps) e = pieces_are (read_of xs) ps e
case_holds (rated i asked hz) e =
    let a = and_parts (eqb (used (entry i asked)).identifier i) (eqb (used (entry i asked)).frequency hz) e in
    entry_is (used (entry i asked)) i hz (eqb-true _ _ a.0) (eqb-true _ _ a.1)
case_holds (sent p v xs) e = (bytes_eq-Decides (encoded p v) xs).0 e
case_holds (writes p n ds d xs) e = is_accepted (done 2055 d (behind ds (unit p n))) xs e
case_holds (taken ds bs k b) e = is_taken (feed_call (behind ds (unit Mti3 4)) bs 2055).2 k b e
case_holds (counting ds n) e = counts_are (behind ds (unit Mti3 4)).core.counts n e
case_holds (refused ds d n x) e = is_refused (done n d (behind ds (unit Mti3 4))) x e

all_tested : List Case → Bool
all_tested [] = true
all_tested (c ∷ cs) = tested c && all_tested cs

cases_hold : (cs : List Case) → all_tested cs ≡ true → AllByRecursion Holds cs
unfolding all_tested
cases_hold [] e = tt
cases_hold (c ∷ cs) e = let a = and_parts (tested c) (all_tested cs) e in (case_holds c a.0, cases_hold cs a.1)

table_tested : all_tested table ≡ true
unfolding all_tested tested same_pieces same_piece accepted answers takes same_truth same_counts refuses refusing done behind making power_call feed_call tick_call fills filled woken served performed adopted wake_tick packets_at tick data_of packets decided changed_of asked_outputs used answer_of configuration_of checked_of valid valid_entry factory_of load_of image.read_of image_of fields_of places entries_at read_of read_from channel_of largest_divisor encoded code_of steps round to_bits
table_tested = refl

pub worked : Worked
worked = cases_hold table table_tested
