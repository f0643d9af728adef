-- Each part follows those before it.
use Rattle.std.proofs.Common.{rules, tests, ◌≡◌, map, length, ◌++◌, ◌∙◌, refl, ap, arith}
use Rattle.settings.specs.declared.record.Entry.{Entry}
use Rattle.settings.specs.Image.{places, fields_of, image_of}
use Rattle.settings.specs.View.{values_of}
use Rattle.settings.proofs.Columns.{room_left, parts_written}
use Rattle.settings.proofs.Placing.{image_said}
use Rattle.settings.proofs.Stores.{stored_said, length_image}
use Rattle.settings.proofs.checked.Settings.image.Goals as goal

pub returns : goal.returns
unfolding image_of
returns c =
    let v = values_of c.args.self.now in
    let ids : c.column.result ≡ places 32 (map (λ (e : Entry). e.identifier) v.entries) =
    c.column.ensures (λ e. e.identifier) (λ e n k. search (rules, tests)) in
    let hzs : c.column-2.result ≡ places 32 (map (λ (e : Entry). e.frequency) v.entries) =
    c.column-2.ensures (λ e. e.frequency) (λ e n k. search (rules, tests)) in
    let a : c.copy_from_slice.new.self ≡ fields_of v = c.copy_from_slice.ensures.after ∙ c.fields.ensures in
    let b = c.copy_from_slice-2.ensures.after ∙ ids in
    let d = c.copy_from_slice-3.ensures.after ∙ hzs in
    let is =
    parts_written c.copy_from_slice.new.self c.copy_from_slice-2.new.self _ (omega (arith, c.copy_from_slice.ensures.len))
    (omega (arith, c.copy_from_slice-2.ensures.len)) refl c.copy_from_slice-3.new.self (omega (arith, c.copy_from_slice-3.ensures.len))
    ∙ (λ t. (a t ++ b t) ++ d t) in
    record { is = is; size = ap length is ∙ length_image v; bytes = image_said; said = stored_said }

pub slice_bounds-out-end-3 : goal.slice_bounds-out-end-3
slice_bounds-out-end-3 c =
    room_left c.copy_from_slice.new.self c.copy_from_slice-2.new.self _ (omega (arith, c.copy_from_slice.ensures.len))
    (omega (arith, c.copy_from_slice-2.ensures.len)) refl
