-- Calls played one by one.
use Rattle.std.proofs.Common.{◌≡◌, ℕ, ◌+◌, ◌<◌, List, [], ◌∷◌, ◌++◌, map, length, get_or, take, sym, refl, ap, ap₂, ◌∙◌}
use Rattle.std.proofs.lemmas.List.{map-append, take_more}
use Rattle.session.specs.Model.{Model, World, making}
use Rattle.session.specs.Sessions.{Session, written}
use Rattle.session.specs.Laws.{Lawful}
use Rattle.replay.specs.declared.calls.Call.{Call}
use Rattle.replay.specs.declared.calls.Answer.{Answer}
use Rattle.replay.specs.Calls.{Asked, asked, asked_in, answer_in}
use Rattle.replay.specs.Replayed.{Added, Played}
use Rattle.replay.proofs.Continuing.{written_more}

pub played_none : (w : World) (k : Model) (answers : List Answer) (out : List ℕ) → Session (making w) [] k → Lawful w [] k → answers ≡ [] → out ≡ []
    → Played w [] answers out k
unfolding written
played_none w k answers out s l a o = record { entries = []; session = s; lawful = l; asks = refl; answered = a; output = o }

pub played_more : (w : World) (calls : List Call) {m k : Model} {before after : List Answer} {was is : List ℕ} (i : ℕ) (c : Call)
    → i < length calls → Played w (take i calls) before was m → Added m k (asked (get_or calls i c)) before after was is
    → Played w (take (i + 1) calls) after is k
played_more w calls i c h p a =
    let s = a.step.extends w p.entries p.session in
    record {
      entries = p.entries ++ (a.step.entry ∷ []);
      session = s.0;
      lawful = s.1;
      asks = map-append asked_in p.entries (a.step.entry ∷ []) ∙ ap₂ (λ (x : List Asked) (y : Asked). x ++ (y ∷ [])) p.asks a.step.asks
          ∙ sym (map-append asked (take i calls) (get_or calls i c ∷ [])) ∙ ap (map asked) (sym (take_more calls i c h));
      answered = a.answers ∙ ap₂ (λ (x : List Answer) (y : Answer). x ++ (y ∷ [])) p.answered a.step.answers
          ∙ sym (map-append answer_in p.entries (a.step.entry ∷ []));
      output = a.output ∙ ap₂ (λ (x y : List ℕ). x ++ y) p.output a.step.writes ∙ sym (written_more a.step.entry p.entries);
    }
