-- The tape of a session, by its calls and answers, and what two alike sessions have in common.
use Rattle.std.proofs.Common.{◌≡◌, List, [], ◌∷◌, ◌++◌, map, sym, refl, ap₂, ◌∙◌}
use Rattle.session.specs.Model.{World}
use Rattle.session.specs.Sessions.{Entry, Power, Feed, Tick, Event, events, tape}
use Rattle.replay.specs.declared.calls.Call.{Call}
use Rattle.replay.specs.Calls.{asked_in, answer_in}
use Rattle.replay.specs.Replayed.{Outcome, Replayed}
use Rattle.replay.specs.Both.{reached, tape_by, tape_of, ReplayedBoth}

events_by : (e : Entry) → events e ≡ reached (asked_in e) (answer_in e)
events_by (Power n o a) = refl
events_by (Feed bs n o a) = refl
events_by (Tick n o a) = refl

tape_entries : (es : List Entry) → tape es ≡ tape_by (map asked_in es) (map answer_in es)
unfolding tape
tape_entries [] = refl
tape_entries (e ∷ es) = ap₂ (λ (x y : List Event). x ++ y) (events_by e) (tape_entries es)

tape_calls : (w : World) (calls : List Call) (r : Outcome) (p : Replayed w calls r) → tape p.played.entries ≡ tape_of calls r.answers
tape_calls w calls r p = tape_entries p.played.entries ∙ ap₂ tape_by p.played.asks (sym p.played.answered)

pub both : (v w : World) (calls others : List Call) (r s : Outcome) → Replayed v calls r → Replayed w others s → ReplayedBoth v w calls others r s
both v w calls others r s p q = record {
  first = p;
  second = q;
  agree = λ a t x y.
      let e = q.played.lawful.alike v p.played.entries p.after a p.played.session
      (tape_calls v calls r p ∙ t ∙ sym (tape_calls w others s q)) x y in
      (p.played.output ∙ e.0 ∙ sym q.played.output, e.1);
}
