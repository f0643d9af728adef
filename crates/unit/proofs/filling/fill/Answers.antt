-- Each byte is taken unless a whole frame waits.
use Rattle.std.proofs.Common.{◌≡◌, List, ℕ, ◌+◌, true, false, is_err, sym, ap, ◌∙◌, subst, arith}
use Rattle.stream.specs.Waiting.{held}
use Rattle.session.specs.Filling.{is_whole}
use Rattle.unit.proofs.Fills.{Taken, refused_whole, taken_none, taken_one, taken_stop, taken_all}
use Rattle.unit.proofs.filling.fill.Goals as goal

pub loop-taken-init : goal.loop-taken-init
loop-taken-init c = record { taken = taken_none (held c.args.waiting.now) c.args.bytes.now }

pub loop-taken-preserved : goal.loop-taken-preserved
loop-taken-preserved c =
    let w : List ℕ = held c.loop-taken.waiting in
    let v : List ℕ = held c.args.waiting.now in
    let bs : List ℕ = c.args.bytes.now in
    let quiet : is_whole w ≡ false = sym (refused_whole w) ∙ sym (ap is_err c.take_byte.ensures.value) ∙ sym c.is_err.ensures.value ∙ c.if-is_err.false in
    record {
      taken = subst (Taken v bs (c.loop-taken.taken + 1)) (sym c.take_byte.ensures.after)
          (taken_one v bs c.loop-taken.taken w c.loop-taken.invariant.taken c.loop-taken-test.true quiet);
    }

pub returns-then-is_err : goal.returns-then-is_err
returns-then-is_err c =
    let w : List ℕ = held c.loop-taken.waiting in
    let whole : is_whole w ≡ true = sym (refused_whole w) ∙ sym (ap is_err c.take_byte.ensures.value) ∙ sym c.is_err.ensures.value ∙ c.if-is_err.true in
    let t = taken_stop (held c.args.waiting.now) c.args.bytes.now c.loop-taken.taken w c.loop-taken.invariant.taken whole in
    record { count = t.0; after = c.take_byte.ensures.after ∙ t.1 }

pub returns : goal.returns
returns c =
    let t = taken_all (held c.args.waiting.now) c.args.bytes.now c.loop-taken.taken (held c.loop-taken.waiting) c.loop-taken.invariant.taken
    (omega (arith, c.loop-taken.auto.taken-end, c.loop-taken-test.false)) in
    record { count = t.0; after = t.1 }
