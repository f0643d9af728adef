-- Each pair of numbers gives one entry more.
use Rattle.std.proofs.Common.{◌≡◌, ◌+◌, ◌*◌, ◌<◌, true, [], length, take, sym, ap, ◌∙◌, rules, arith}
use Rattle.std.proofs.lemmas.Grind.{common_steps}
use Rattle.std.proofs.lemmas.List.{length-take-le, length_push, get_or-take}
use Rattle.std.proofs.lemmas.Slice.Zip.{zip_turn, zip_end}
use Rattle.std.specs.Result.{is_ok}
use Rattle.settings.specs.Values.{listed}
use Rattle.settings.specs.Image.{number_at, entries_at}
use Rattle.settings.proofs.Pushes.{room}
use Rattle.settings.proofs.Spelt.{column_long, column_number, length_entries, entry_read}
use Rattle.settings.proofs.checked.loading.read_entries.Goals as goal

pub loop-identifier-init : goal.loop-identifier-init
unfolding entries_at
loop-identifier-init c = c.new-entries.ensures

pub unwrap-requires : goal.unwrap-requires
unwrap-requires c =
    let l = c.loop-identifier in
    let xs = c.args.image.now in
    let ids = c.as_chunks.result.0.now in
    let turn =
    zip_turn (take c.args.count ids) c.as_chunks-2.result.0.now l.yielded c.into_iter-identifier-iterator.result l.identifier-iterator
    c.next.new.self c.next.result (search rules) (search rules) l.yielded_by (c.in-Some.identifier, c.in-Some.frequency) c.in-Some.is
    c.next.ensures.steps in
    let long = column_long xs 12 ids (omega arith) c.as_chunks.ensures.front_len in
    let below : length l.yielded < 32 = omega (arith, turn.0, length-take-le c.args.count ids (omega arith)) in
    let is : is_ok c.push.result ≡ true =
    room (listed l.entries) (entries_at xs (length l.yielded)) (is_ok c.push.result) c.push.ensures.is l.invariant
    (omega (arith, length_entries xs (length l.yielded))) in
    grind (arith, common_steps)

pub loop-identifier-preserved : goal.loop-identifier-preserved
loop-identifier-preserved c =
    let l = c.loop-identifier in
    let i = length l.yielded in
    let xs = c.args.image.now in
    let ids = c.as_chunks.result.0.now in
    let hzs = c.as_chunks-2.result.0.now in
    let turn =
    zip_turn (take c.args.count ids) hzs l.yielded c.into_iter-identifier-iterator.result l.identifier-iterator
    c.next.new.self c.next.result (search rules) (search rules) l.yielded_by (c.in-Some.identifier, c.in-Some.frequency) c.in-Some.is
    c.next.ensures.steps in
    let long = column_long xs 12 ids (omega arith) c.as_chunks.ensures.front_len in
    let below : i < c.args.count = omega (arith, turn.0, length-take-le c.args.count ids (omega arith)) in
    let id : c.from_be_bytes.result ≡ number_at xs (12 + 2 * i) 2 =
    c.from_be_bytes.ensures
    ∙ column_number xs 12 ids (omega arith) c.as_chunks.ensures.front_len i c.in-Some.identifier.now c.as_chunks.ensures.front (omega arith)
    (turn.2 [] ∙ get_or-take c.args.count ids i [] below) in
    let hz : c.from_be_bytes-in-loop-identifier.result ≡ number_at xs (76 + 2 * i) 2 =
    c.from_be_bytes-in-loop-identifier.ensures
    ∙ column_number xs 76 hzs (omega arith) c.as_chunks-2.ensures.front_len i c.in-Some.frequency.now c.as_chunks-2.ensures.front (omega arith)
    (turn.3 []) in
    entry_read xs i (listed l.entries) (listed c.push.new.self) c.from_be_bytes.result c.from_be_bytes-in-loop-identifier.result id hz
    (is_ok c.push.result) c.push.ensures.is c.push.ensures.after l.invariant (omega arith)
    ∙ ap (entries_at xs) (sym (length_push l.yielded (c.in-Some.identifier, c.in-Some.frequency)))

pub returns : goal.returns
returns c =
    let l = c.loop-identifier in
    let xs = c.args.image.now in
    let ids = c.as_chunks.result.0.now in
    let hzs = c.as_chunks-2.result.0.now in
    let end =
    zip_end (take c.args.count ids) hzs l.yielded c.into_iter-identifier-iterator.result l.identifier-iterator
    c.next.new.self c.next.result (search rules) (search rules) l.yielded_by c.in-None.is c.next.ensures.steps in
    let long = column_long xs 12 ids (omega arith) c.as_chunks.ensures.front_len in
    let same_long = column_long xs 76 hzs (omega arith) c.as_chunks-2.ensures.front_len in
    l.invariant ∙ ap (entries_at xs) (omega (arith, end, length-take-le c.args.count ids (omega arith)))
