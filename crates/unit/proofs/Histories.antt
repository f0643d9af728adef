-- A call that does what is defined extends every session that can have led to it, and the session stays lawful.
use Rattle.std.proofs.Common.{◌≡◌, ℕ, List, [], None, Result, sym, ap, ap₂, subst}
use Rattle.settings.specs.Values.{Values}
use Rattle.settings.specs.Factory.{factory_of}
use Rattle.session.specs.declared.answers.Fed.{Fed}
use Rattle.session.specs.declared.answers.Refusal.{Refusal}
use Rattle.session.specs.Model.{World, Model, making, no_counts}
use Rattle.session.specs.Calls.{Called, power_call, feed_call, tick_call}
use Rattle.session.specs.Sessions.{Entry, Power, Feed, Tick, next, Session}
use Rattle.session.specs.Laws.{Lawful, Extends}
use Rattle.session.proofs.Lawfuls.{begins, extended}

-- from the unit m a call led to k, wrote o and answered a, as is defined
pub record Met {A : Type 0} (call : Called A) (m k : Model) (o : List ℕ) (a : Result A Refusal) (e : Entry) : Type 0 where
  pub model : k ≡ call.0
  pub bytes : o ≡ call.1
  pub answer : a ≡ call.2
  pub history : Extends m e k

module _ (m k : Model) (n : ℕ) (o : List ℕ) where
  pub power_met : (a : Result ℕ Refusal) → (k, o, a) ≡ power_call m n → Met (power_call m n) m k o a (Power n o a)
  unfolding next
  power_met a e = record {
    model = ap (λ c. c.0) e;
    bytes = ap (λ c. c.1) e;
    answer = ap (λ c. c.2) e;
    history = subst (Extends m (Power n o a)) (sym (ap (λ c. c.0) e)) (extended m (Power n o a) (ap (λ c. c.1) e, ap (λ c. c.2) e));
  }

  pub tick_met : (a : Result ℕ Refusal) → (k, o, a) ≡ tick_call m n → Met (tick_call m n) m k o a (Tick n o a)
  unfolding next
  tick_met a e = record {
    model = ap (λ c. c.0) e;
    bytes = ap (λ c. c.1) e;
    answer = ap (λ c. c.2) e;
    history = subst (Extends m (Tick n o a)) (sym (ap (λ c. c.0) e)) (extended m (Tick n o a) (ap (λ c. c.1) e, ap (λ c. c.2) e));
  }

  pub feed_met : (bs : List ℕ) (a : Result Fed Refusal) → (k, o, a) ≡ feed_call m bs n
      → Met (feed_call m bs n) m k o a (Feed bs n o a)
  unfolding next
  feed_met bs a e = record {
    model = ap (λ c. c.0) e;
    bytes = ap (λ c. c.1) e;
    answer = ap (λ c. c.2) e;
    history = subst (Extends m (Feed bs n o a)) (sym (ap (λ c. c.0) e)) (extended m (Feed bs n o a) (ap (λ c. c.1) e, ap (λ c. c.2) e));
  }

-- the empty session leads to a unit just made
pub begun : (w : World) (k : Model) → k ≡ making w → Session (making w) [] k × Lawful w [] k
begun w k e = subst (λ (x : Model). Session (making w) [] x × Lawful w [] x) (sym e) (begins w)

abbrev pub made_with : World → Values → List ℕ → Model
made_with w s xs = record {
  device_id = w.device_id;
  meaning = w.meaning;
  core = record { state = None; settings = s; counts = no_counts; store = w.store };
  waiting = xs;
}

pub made : (w : World) (s : Values) (xs : List ℕ) → s ≡ factory_of w.product → xs ≡ [] → made_with w s xs ≡ making w
unfolding making
made w s xs e f = ap₂ (made_with w) e f
