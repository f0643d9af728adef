-- From calls to moments: each fair call keeps what a unit always is, and is the moments that reading and its answer tell.
use Rattle.std.proofs.Common.{◌≡◌, ℕ, ◌+◌, true, false, ltb, List, [], ◌∷◌, ◌++◌, map, length, take, drop, is_some, Some, None, Option, sym, refl, ap, ◌∙◌, subst, ap₂, arith}
use Rattle.std.specs.List.{flat_map, AllByRecursion}
use Rattle.std.proofs.lemmas.List.{append-nil}
use Rattle.std.proofs.lemmas.Bool.{true≢false, false≢true}
use Rattle.xbus.specs.declared.front.Front.TheVariants.{Whole}
use Rattle.xbus.specs.Front.{front_of}
use Rattle.stream.specs.Waiting.{passed}
use Rattle.mtdata2.specs.Packets.{packet_bytes}
use Rattle.decision.specs.declared.states.State.{State}
use Rattle.session.specs.Model.{Meaning, Model, World, making}
use Rattle.session.specs.Sending.{wake_up}
use Rattle.session.specs.Waking.{woken}
use Rattle.session.specs.Serving.{Step, served}
use Rattle.session.specs.Ticking.{packets_at, tick}
use Rattle.session.specs.Filling.{is_whole, fills, filled}
use Rattle.session.specs.Calls.{powered, fill, too_long}
use Rattle.session.specs.Sessions.{Event, Powered, Byte, Ticked}
use Rattle.session.specs.Moments.{Happening, powers, serves, ticks, frames_in, left_in, first_served, behind_first, moment_by}
use Rattle.session.specs.Counting.{is_served, count}
use Rattle.session.specs.Laws.{Linked}
use Rattle.session.proofs.Readings.{Read, reads, onto, few_filled, settled_passed, few_passed, reads_filled, reads_passed}
use Rattle.session.proofs.Calls.{Went, refused, took, answered, woke, ticking, front_parts, serving}
use Rattle.session.proofs.Flows.{ahead, flow, flow_bytes, flow_reads, flow_power, flow_tick, filled_reads, passed_reads}
use Rattle.session.proofs.Happens.{Happens}
use Rattle.session.proofs.Always.{Inv, moment, inv_filled, inv_after}

abbrev pub whats : Option Happening → List Happening
whats None = []
whats (Some h) = h ∷ []

-- a call from m to k with the frames fs still to be served before it, and gs behind it
pub record Stepped (w : World) (m k : Model) (o : List ℕ) (ev : List Event) (s : ℕ) (h : Option Happening) (rest fs gs : List (List ℕ)) : Type 0 where
  pub inv : Inv w k
  pub unserved : rest ≡ gs
  pub passes : drop s fs ≡ gs
  pub many : length fs ≡ s + length gs
  pub flows : (t : List Event) → flow m.waiting (ev ++ t) ≡ ahead (whats h) (flow k.waiting t)
  pub each : AllByRecursion (Happens w) (moment_by h m.core o k.core)
  pub linked : Linked m.core (moment_by h m.core o k.core) k.core
  pub wrote : flat_map (λ x. x.wrote) (moment_by h m.core o k.core) ≡ o
  pub served : count is_served (moment_by h m.core o k.core) ≡ s

no_state : (o : Option State) → is_some o ≡ false → o ≡ None
no_state None e = refl
no_state (Some s) e = absurd (true≢false e)

module _ (w : World) (m : Model) (i : Inv w m) where
  step_refused : (fs : List (List ℕ)) → Stepped w m m [] [] 0 None fs fs fs
  unfolding count
  step_refused fs = record {
    inv = i;
    unserved = refl;
    passes = refl;
    many = omega arith;
    flows = λ t. refl;
    each = tt;
    linked = refl;
    wrote = refl;
    served = refl;
  }

  module _ (bs more : List ℕ) where
    abbrev here : List (List ℕ)
    here = frames_in (m.waiting ++ (take (fills m.waiting bs) bs ++ more))

    taken_reads : reads (m.waiting ++ (take (fills m.waiting bs) bs ++ more)) ≡ reads (filled m.waiting bs ++ more)
    taken_reads = sym (reads_filled bs m.waiting more)

    step_took : powered m ≡ true
        → Stepped w m (fill m bs) [] (map Byte (take (fills m.waiting bs) bs)) 0 None here here (frames_in (filled m.waiting bs ++ more))
    unfolding count
    step_took d =
        let e : here ≡ frames_in (filled m.waiting bs ++ more) = ap (λ (r : Read). r.0) taken_reads in
        record {
          inv = inv_filled w m i bs d;
          unserved = e;
          passes = e;
          many = ap length e ∙ omega arith;
          flows = λ t. flow_bytes (take (fills m.waiting bs) bs) m.waiting t
              ∙ flow_reads t (m.waiting ++ take (fills m.waiting bs) bs) (filled m.waiting bs) [] (filled_reads m.waiting bs);
          each = tt;
          linked = refl;
          wrote = refl;
          served = refl;
        }

    module _ (k : ℕ) (d : powered m ≡ true) (f : front_of (filled m.waiting bs) ≡ Whole k) where
      abbrev whole : List ℕ
      whole = take k (filled m.waiting bs)

      abbrev behind : List ℕ
      behind = passed (filled m.waiting bs)

      answered_reads : reads (m.waiting ++ (take (fills m.waiting bs) bs ++ more)) ≡ onto (whole ∷ []) (reads (behind ++ more))
      answered_reads = taken_reads ∙ reads_passed (filled m.waiting bs) more k f

      answered_happens : Happens w (moment m.core (serves (front_parts (filled m.waiting bs) k)) (serving m (filled m.waiting bs) k))
      answered_happens = record {
        done = ap (λ (id : ℕ). served id (front_parts (filled m.waiting bs) k) m.core) i.device_id;
        sound = i.sound;
        dark = λ e. absurd (false≢true e);
        powered = λ _. d;
        early = i.early;
        short = λ e. let z : ◌≡◌ {A = ℕ} 0 1 = cc in absurd (omega arith);
      }

      step_answered : Stepped w m (record { device_id = m.device_id; meaning = m.meaning; core = (serving m (filled m.waiting bs) k).0; waiting = behind })
          (serving m (filled m.waiting bs) k).1 (map Byte (take (fills m.waiting bs) bs)) 1 (first_served here) (behind_first here) here (frames_in (behind ++ more))
      unfolding count
      step_answered =
          let e : here ≡ whole ∷ frames_in (behind ++ more) = ap (λ (r : Read). r.0) answered_reads in
          let n : Model = record { device_id = m.device_id; meaning = m.meaning; core = (serving m (filled m.waiting bs) k).0; waiting = behind } in
          let P : List (List ℕ) → Type 0 =
          λ fs. Stepped w m n (serving m (filled m.waiting bs) k).1 (map Byte (take (fills m.waiting bs) bs)) 1 (first_served fs) (behind_first fs) fs (frames_in (behind ++ more)) in
          subst P (sym e) (record {
            inv = inv_after w m i (serves (front_parts (filled m.waiting bs) k)) (serving m (filled m.waiting bs) k) behind answered_happens
                (settled_passed (filled m.waiting bs) k f) (few_passed (filled m.waiting bs) k f (few_filled bs m.waiting i.settled i.few));
            unserved = refl;
            passes = refl;
            many = omega arith;
            flows = λ t. flow_bytes (take (fills m.waiting bs) bs) m.waiting t
                ∙ flow_reads t (m.waiting ++ take (fills m.waiting bs) bs) behind (whole ∷ []) (passed_reads m.waiting bs k f);
            each = (answered_happens, tt);
            linked = (refl, refl);
            wrote = append-nil (serving m (filled m.waiting bs) k).1;
            served = refl;
          })

  module _ (fs : List (List ℕ)) where
    module _ (d : powered m ≡ false) where
      woke_happens : Happens w (moment m.core powers (woken m.core, wake_up))
      woke_happens = record {
        done = refl;
        sound = i.sound;
        dark = λ _. no_state m.core.state d;
        powered = λ e. absurd (true≢false e);
        early = i.early;
        short = λ e. let z : ◌≡◌ {A = ℕ} 0 1 = cc in absurd (omega arith);
      }

      quiet_dark : is_whole m.waiting ≡ false
      unfolding making
      quiet_dark = ap (λ (x : Model). is_whole x.waiting) (i.dark d)

      step_woke : Stepped w m (record { device_id = m.device_id; meaning = m.meaning; core = woken m.core; waiting = m.waiting }) wake_up (Powered ∷ []) 0 (Some powers) fs fs fs
      unfolding count
      step_woke = record {
        inv = inv_after w m i powers (woken m.core, wake_up) m.waiting woke_happens i.settled i.few;
        unserved = refl;
        passes = refl;
        many = omega arith;
        flows = λ t. flow_power m.waiting t quiet_dark i.settled;
        each = (woke_happens, tt);
        linked = (refl, refl);
        wrote = append-nil wake_up;
        served = refl;
      }

    module _ (d : powered m ≡ true) (q : is_whole m.waiting ≡ false) (s : too_long m ≡ false) where
      abbrev behind_tick : Step
      behind_tick = tick m.device_id m.meaning m.core

      tick_happens : Happens w (moment m.core ticks behind_tick)
      tick_happens = record {
        done = ap₂ (λ (id : ℕ) (f : Meaning). tick id f m.core) i.device_id i.meaning;
        sound = i.sound;
        dark = λ e. absurd (false≢true e);
        powered = λ _. d;
        early = i.early;
        short = λ _. subst (λ (f : Meaning). ltb 2048 (length (flat_map packet_bytes (packets_at f m.core))) ≡ false) i.meaning s;
      }

      step_tick : Stepped w m (record { device_id = m.device_id; meaning = m.meaning; core = behind_tick.0; waiting = m.waiting }) behind_tick.1 (Ticked ∷ []) 0 (Some ticks) fs fs fs
      unfolding count
      step_tick = record {
        inv = inv_after w m i ticks behind_tick m.waiting tick_happens i.settled i.few;
        unserved = refl;
        passes = refl;
        many = omega arith;
        flows = λ t. flow_tick m.waiting t q i.settled;
        each = (tick_happens, tt);
        linked = (refl, refl);
        wrote = append-nil behind_tick.1;
        served = refl;
      }

-- every call, with more bytes behind those that it takes
pub stepped : (w : World) (m : Model) {k : Model} {o : List ℕ} {ev : List Event} {s : ℕ} {tk : List ℕ} {h : List (List ℕ) → Option Happening} {u : List (List ℕ) → List (List ℕ)}
    → Inv w m → Went m k o ev s tk h u → (more : List ℕ)
    → Stepped w m k o ev s (h (frames_in (m.waiting ++ (tk ++ more)))) (u (frames_in (m.waiting ++ (tk ++ more)))) (frames_in (m.waiting ++ (tk ++ more))) (frames_in (k.waiting ++ more))
stepped w m i refused more = step_refused w m i (frames_in (m.waiting ++ more))
stepped w m i (took bs d q) more = step_took w m i bs more d
stepped w m i (answered bs k d f) more = step_answered w m i bs more k d f
stepped w m i (woke d) more = step_woke w m i (frames_in (m.waiting ++ more)) d
stepped w m i (ticking d q s) more = step_tick w m i (frames_in (m.waiting ++ more)) d q s

-- and what reading leaves stays
pub left_stays : (m : Model) {k : Model} {o : List ℕ} {ev : List Event} {s : ℕ} {tk : List ℕ} {h : List (List ℕ) → Option Happening} {u : List (List ℕ) → List (List ℕ)}
    → Went m k o ev s tk h u → (more : List ℕ) → left_in (m.waiting ++ (tk ++ more)) ≡ left_in (k.waiting ++ more)
left_stays m refused more = refl
left_stays m (took bs d q) more = ap (λ (r : Read). r.1) (sym (reads_filled bs m.waiting more))
left_stays m (answered bs k d f) more =
    ap (λ (r : Read). r.1) (sym (reads_filled bs m.waiting more) ∙ reads_passed (filled m.waiting bs) more k f)
left_stays m (woke d) more = refl
left_stays m (ticking d q s) more = refl
