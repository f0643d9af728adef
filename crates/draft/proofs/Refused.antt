-- A composer refuses by the number of the first condition that holds: case by case over the conditions.
use Rattle.std.proofs.Common.{◌≡◌, ℕ, ◌+◌, Bool, true, false, eqb, ltb, leb, cond, not, ◌&&◌, Some, None, Ok, Err, refl}
use Rattle.xbus.specs.Writing.{frame_size}
use Rattle.mtdata2.specs.Packets.{size_fits}
use Rattle.draft.specs.declared.refusal.Refusal.TheVariants.{NoPacket, PastBytes, WrongSize, TooLong, NoRoom}
use Rattle.draft.specs.Composed.{grown, and_then, judged, answered}
use Rattle.draft.specs.Refused.{refused_by, RefusedSaid}

room_cases : (g : ℕ) (full : Bool) → refused_by (answered (cond full (Err NoRoom) (Ok g))) ≡ cond full (Some 13) None
room_cases g true = refl
room_cases g false = refl

add_cases : (g : ℕ) (full : ℕ → Bool) (past wrong long : Bool)
    → refused_by (answered (cond past (Err PastBytes) (and_then (cond wrong (Err WrongSize) (cond long (Err TooLong) (Ok g))) (λ k. cond (full k) (Err NoRoom) (Ok k)))))
    ≡ cond past (Some 10) (cond wrong (Some 11) (cond long (Some 12) (cond (full g) (Some 13) None)))
add_cases g full true wrong long = refl
add_cases g full false true long = refl
add_cases g full false false true = refl
add_cases g full false false false = room_cases g (full g)

add_said : (n identifier place size start have room : ℕ)
    → refused_by (answered (judged n identifier place size start have room))
    ≡ cond (ltb n (place + size)) (Some 10)
    (cond (not (leb size 255 && size_fits identifier size)) (Some 11)
    (cond (ltb 2048 (grown have size)) (Some 12)
    (cond (ltb room (start + frame_size (grown have size))) (Some 13) None)))
add_said n identifier place size start have room =
    add_cases (grown have size) (λ g. ltb room (start + frame_size g))
    (ltb n (place + size)) (not (leb size 255 && size_fits identifier size)) (ltb 2048 (grown have size))

close_cases : {A : Type 0} (a : A) (none : Bool) → refused_by (cond none (Err NoPacket) (Ok a)) ≡ cond none (Some 9) None
close_cases a true = refl
close_cases a false = refl

pub refused_said : RefusedSaid
refused_said = record {
  add = add_said;
  close = λ n. close_cases tt (eqb n 0);
}
