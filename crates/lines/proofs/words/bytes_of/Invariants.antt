-- The bytes so far and those of the words that are left are the line's; some stand there once the first word is a byte.
use Rattle.std.proofs.Common.{◌≡◌, true, cond, eqb, length, vec_items}
use Rattle.lines.specs.Words.{words_of}
use Rattle.lines.specs.Bytes.{bytes_of}
use Rattle.lines.specs.Faults.{first_is_byte}
use Rattle.lines.proofs.Reading.{onto}
use Rattle.lines.proofs.words.bytes_of.Given as goal

abbrev pub invariant-loop-word : goal.invariant-loop-word
invariant-loop-word l = record {
  can_next : (goal.iterator-loop-word).can_next l.word-iterator;
  is_finite : (goal.iterator-loop-word).is_finite l.word-iterator;
  read : onto (vec_items l.bytes) (bytes_of l.word-iterator.rest.now) ≡ bytes_of l.line;
  first : cond (eqb (length (vec_items l.bytes)) 0) (first_is_byte (words_of l.word-iterator.rest.now)) true ≡ first_is_byte (words_of l.line);
}
