-- One moment of a session: what it stands on, and the way it went.
use Rattle.std.proofs.Common.{◌≡◌, true, false, ltb, length, is_some, Some, None, sym, subst}
use Rattle.std.specs.List.{flat_map}
use Rattle.mtdata2.specs.Packets.{packet_bytes}
use Rattle.settings.specs.Valid.{valid}
use Rattle.decision.specs.declared.states.State.TheVariants.{WakeUp}
use Rattle.session.specs.Model.{World}
use Rattle.session.specs.Serving.{Step}
use Rattle.session.specs.Ticking.{packets_at}
use Rattle.session.specs.Moments.{Moment, ticks}
use Rattle.session.specs.Counting.{is_power}
use Rattle.session.specs.Moves.{Early}
use Rattle.session.specs.Laws.{Done}
use Rattle.session.proofs.Ways.{Way, does_way}

pub record Happens (w : World) (m : Moment) : Type 0 where
  pub done : Done w m
  -- the settings before are valid
  pub sound : valid m.before.settings ≡ true
  -- power comes to a dark unit, and frames and ticks to a powered one
  pub dark : is_power m.what ≡ true → m.before.state ≡ None
  pub powered : is_power m.what ≡ false → is_some m.before.state ≡ true
  -- in WakeUp its ticks alone were counted
  pub early : m.before.state ≡ Some WakeUp → Early m.before.counts
  -- a tick that is accepted has a message that is not too long
  pub short : m.what ≡ ticks → ltb 2048 (length (flat_map packet_bytes (packets_at w.meaning m.before))) ≡ false

pub happens_way : (w : World) (m : Moment) → Happens w m → Way w m.before m.what (m.after, m.wrote)
happens_way w m h = subst (λ (s : Step). Way w m.before m.what s) (sym h.done) (does_way w m.before m.what h.powered)
