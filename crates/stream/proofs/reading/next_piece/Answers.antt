-- The next piece is dropped bytes, a whole frame, what is left, or none, by what settling finds.
use Rattle.std.proofs.Common.{sym, ap, ◌∙◌, arith}
use Rattle.std.proofs.lemmas.List.{take_all, drop_all}
use Rattle.std.proofs.lemmas.Bool.{eqb-true, eqb-false}
use Rattle.xbus.proofs.Bytes.{bytes_typed}
use Rattle.stream.specs.Settling.{front_by}
use Rattle.stream.proofs.Nexts.{next_dropped, next_whole, next_none, next_left, hands}
use Rattle.stream.proofs.Readings.{frames_are_read, reading_said}
use Rattle.stream.proofs.reading.next_piece.Goals as goal

pub returns-then-found-gt0 : goal.returns-then-found-gt0
returns-then-found-gt0 c =
    let xs = c.args.bytes.now in
    let e =
    next_dropped xs _ _ c.settle-found.result.dropped c.if-found-gt0.true c.settle-found.ensures.dropped
    c.split_at.ensures.front c.split_at.ensures.back in
    record { value = e; hands = hands xs _ e; said = reading_said xs (bytes_typed xs c.type_inv.bytes); frames = frames_are_read }

pub returns-in-Some : goal.returns-in-Some
returns-in-Some c =
    let xs = c.args.bytes.now in
    let e =
    next_whole xs _ _ c.settle-found.result.dropped c.in-Some.size c.if-found-gt0.false
    c.settle-found.ensures.dropped (ap front_by (sym c.in-Some.is) ∙ c.settle-found.ensures.whole)
    c.split_at-in-Some.ensures.front c.split_at-in-Some.ensures.back in
    record { value = e; hands = hands xs _ e; said = reading_said xs (bytes_typed xs c.type_inv.bytes); frames = frames_are_read }

pub returns-then-is_empty : goal.returns-then-is_empty
returns-then-is_empty c =
    let xs = c.args.bytes.now in
    let e =
    next_none xs xs xs c.settle-found.result.dropped c.if-found-gt0.false
    c.settle-found.ensures.dropped (ap front_by (sym c.in_default.is) ∙ c.settle-found.ensures.whole)
    (eqb-true _ 0 (sym c.if-is_empty.ensures)) in
    record { value = e; hands = hands xs _ e; said = reading_said xs (bytes_typed xs c.type_inv.bytes); frames = frames_are_read }

pub returns : goal.returns
returns c =
    let xs = c.args.bytes.now in
    let e =
    next_left xs _ _ c.settle-found.result.dropped c.if-found-gt0.false
    c.settle-found.ensures.dropped (ap front_by (sym c.in_default.is) ∙ c.settle-found.ensures.whole)
    (eqb-false _ 0 (sym c.if-is_empty.ensures))
    (c.split_at-2.ensures.front ∙ take_all _ xs (omega arith)) (c.split_at-2.ensures.back ∙ drop_all _ xs (omega arith)) in
    record { value = e; hands = hands xs _ e; said = reading_said xs (bytes_typed xs c.type_inv.bytes); frames = frames_are_read }
