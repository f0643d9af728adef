-- A refused save leaves the memory, and an accepted one writes the mark behind the next slot, and then that slot.
use Rattle.std.proofs.Common.{◌≡◌, ◌<◌, length, sym, refl, ap, ◌∙◌, arith, rules}
use Rattle.store.specs.Meaning.{image_size}
use Rattle.store.specs.Slots.{used, slots, held_in, left_in, filled, saved, rest}
use Rattle.store.proofs.Meanings.{accepted_answer, refuses_none, none_answer, refused_held, refused_left, refused_memory}
use Rattle.store.proofs.Calls.{saved_held, saved_left, saved_bytes, saved_by_steps}
use Rattle.store.proofs.Writes.{rest_saved}
use Rattle.store.proofs.slots.save_to.Goals as goal

pub returns-then-used-slots_of : goal.returns-then-used-slots_of
returns-then-used-slots_of c =
    let bs = c.args.bytes.now in
    let xs = c.args.image.now in
    let long : length xs ≡ image_size = search rules in
    let none : left_in bs ≡ 0 = omega arith in
    let e = refuses_none xs (left_in bs) none in
    record {
      answer = sym (none_answer xs (left_in bs) long none);
      held = sym (refused_held xs (left_in bs) e (held_in bs));
      left = sym (refused_left xs (left_in bs) e);
      bytes = sym (refused_memory xs (left_in bs) e saved bs);
      rest = refl;
    }

pub returns : goal.returns
returns c =
    let bs = c.args.bytes.now in
    let xs = c.args.image.now in
    let long : length xs ≡ image_size = search rules in
    let room : used bs < slots bs = omega arith in
    let same : c.in_ok-image.image.now ≡ xs = search rules in
    let s =
    saved_by_steps xs bs c.put_end_mark.new.bytes c.fill.new.bytes c.used_slots-used.result
    c.used_slots-used.ensures.value c.put_end_mark.ensures (c.fill.ensures ∙ ap (filled c.put_end_mark.new.bytes c.used_slots-used.result) same) in
    record {
      answer = sym (accepted_answer xs (left_in bs) long (omega arith));
      held = ap held_in s ∙ saved_held xs bs room long;
      left = ap left_in s ∙ saved_left xs bs room long;
      bytes = s ∙ saved_bytes xs bs room long;
      rest = ap rest s ∙ rest_saved xs bs room long;
    }
