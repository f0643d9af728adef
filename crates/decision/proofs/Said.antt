-- The decision in the words of the table.
use Rattle.std.proofs.Common.{◌≡◌, Ok, Err, sym, refl, ◌∙◌}
use Rattle.decision.specs.declared.deciding.MessageError.TheVariants.{NotAllowed, WrongLength}
use Rattle.decision.specs.Table.{Message, Allows, Says, DecisionSaid}
use Rattle.decision.proofs.Carried.{carried_says, says_carried, carried_allowed, carried_otherwise, wrong_together}
use Rattle.decision.proofs.Rows.{decided_by, decided_row, row_value}

pub said : DecisionSaid
said = record {
  asks = λ s p i xs a b.
      decided_by (λ d. d ≡ Ok a → (m : Message) × Allows s p i m × Says m.carries xs a) s p i xs
      (λ m h e. (m, h, carried_says m.carries xs a b e))
      (λ none e. cc);
  is_asked = λ s p i xs a m b h k. decided_row xs h ∙ says_carried (row_value h) k;
  not_allowed = λ s p i xs e m h. carried_allowed m.carries xs (sym (decided_row xs h) ∙ e);
  is_not_allowed = λ s p i xs none.
      decided_by (λ d. d ≡ Err NotAllowed) s p i xs (λ m h. absurd (none m h)) (λ _. refl);
  wrong_length = λ s p i xs e. (
    decided_by (λ d. d ≡ Err WrongLength → (m : Message) × Allows s p i m) s p i xs (λ m h f. (m, h))
        (λ none f. cc) e,
    λ m ys a h same k.
        wrong_together m.carries xs ys a same (sym (decided_row xs h) ∙ e) (says_carried (row_value h) k),
  );
  is_wrong_length = λ s p i xs m b h none.
      decided_row xs h ∙ carried_otherwise m.carries xs (λ a e. none xs a refl (carried_says m.carries xs a b e));
}
