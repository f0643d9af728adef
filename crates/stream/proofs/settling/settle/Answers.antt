-- A start that is wrong is dropped, and the first other one, or the end, is settled.
use Rattle.std.proofs.Common.{◌≡◌, drop, None, sym, ap, ◌∙◌, arith}
use Rattle.std.proofs.lemmas.List.{take_rest, drop_all}
use Rattle.xbus.specs.Front.{front_of}
use Rattle.xbus.proofs.Bytes.{bytes_typed}
use Rattle.stream.specs.Settling.{front_by}
use Rattle.stream.proofs.Settles.{reached_none, reached_more, reached_all, reached_front, settles}
use Rattle.stream.proofs.settling.settle.Goals.{in-Whole, in-Waits}
use Rattle.stream.proofs.settling.settle.Goals as goal

pub loop-start-init : goal.loop-start-init
loop-start-init c = reached_none c.args.bytes.now

pub loop-start-preserved : goal.loop-start-preserved
loop-start-preserved c =
    let xs = c.args.bytes.now in
    let n = c.loop-start.start in
    reached_more xs n c.loop-start.invariant (ap front_of (sym (take_rest xs n)) ∙ sym c.in-Wrong.ensures.value)

pub returns-in-loop-start : goal.returns-in-loop-start
returns-in-loop-start c =
    let xs = c.args.bytes.now in
    let n = c.loop-start.start in
    let whole = c.match-at_front.whole in
    let here : front_by whole ≡ front_of (drop n xs) =
    elim c.match-at_front.branch [
      | in-Whole w ↦ ap front_by w.whole-is ∙ w.in-Whole.ensures.value ∙ ap front_of (take_rest xs n)
      | in-Waits w ↦ ap front_by w.whole-is ∙ w.in-Waits.ensures.value ∙ ap front_of (take_rest xs n)
    ] in
    let r = c.loop-start.invariant in
    record {
      dropped = reached_all xs n r whole here;
      whole = reached_front xs n r whole here;
      within = r.within;
      settles = settles xs (bytes_typed xs c.type_inv.bytes);
    }

pub returns : goal.returns
returns c =
    let xs = c.args.bytes.now in
    let n = c.loop-start.start in
    let r = c.loop-start.invariant in
    let here : front_by None ≡ front_of (drop n xs) = ap front_of (sym (drop_all n xs c.loop-start-test.false)) in
    record {
      dropped = omega (arith, reached_all xs n r None here);
      whole = reached_front xs n r None here;
      within = omega arith;
      settles = settles xs (bytes_typed xs c.type_inv.bytes);
    }
