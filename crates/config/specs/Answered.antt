-- What a unit answers to questions. `Told` says what holds of it.
use Rattle.std.specs.Prelude.{ℕ, ◌+◌, cond, List, [], ◌∷◌, ◌++◌, length, drop, replicate, Some, None, codes, Option, nat_le}
use Rattle.mti.specs.declared.product.Product.{Product}
use Rattle.mti.specs.declared.product.Product.TheVariants.{Mti3, Mti30, Mti300, MtiG710}
use Rattle.mti.specs.Identifiers.{data_size_of}
use Rattle.xbus.specs.Numbers.{be}
use Rattle.settings.specs.declared.record.Entry.{Entry}
use Rattle.settings.specs.Values.{Values}
use Rattle.decision.specs.declared.actions.Question.{Question}
use Rattle.decision.specs.declared.actions.Question.TheVariants as question

abbrev pub name_of : Product → List ℕ
name_of Mti3 = codes "MTi-3"
name_of Mti30 = codes "MTi-30"
name_of Mti300 = codes "MTi-300"
name_of MtiG710 = codes "MTi-G-710"

-- four bytes for each entry: the identifier and the frequency
abbrev pub output_bytes : List Entry → List ℕ
output_bytes [] = []
output_bytes (e ∷ es) = be 2 e.identifier ++ be 2 e.frequency ++ output_bytes es

-- a packet of data: three bytes in front
abbrev pub packet_bytes : Option ℕ → ℕ
packet_bytes None = 0
packet_bytes (Some n) = 3 + n

-- the data bytes of a message that has them all
abbrev pub data_bytes : List Entry → ℕ
data_bytes [] = 0
data_bytes (e ∷ es) = packet_bytes (data_size_of e.identifier) + data_bytes es

-- the device ID, zeros, 0001, the device ID again, the size of all data, and zeros
abbrev pub configured : ℕ → ℕ → List ℕ
configured id size = be 4 id ++ replicate 92 0 ++ be 2 1 ++ be 4 id ++ be 2 size ++ replicate 14 0

-- the data of the Configuration message
unfoldable pub configuration_of : ℕ → Values → List ℕ
configuration_of id c = configured id (data_bytes c.entries)

-- what each question is answered with
abbrev pub by_question : ℕ → Values → Question → List ℕ
by_question id c question.DeviceId = be 4 id
by_question id c question.Name = name_of c.product
by_question id c question.Firmware = 1 ∷ replicate 10 0
by_question id c question.Configuration = configuration_of id c
by_question id c question.Baud = c.baud ∷ []
by_question id c question.ErrorMode = be 2 c.error_mode
by_question id c question.Location = be 2 c.location
by_question id c question.Profile = 1 ∷ c.profile ∷ []
by_question id c question.Flags = be 4 c.flags
by_question id c question.Outputs = output_bytes c.entries

-- the data of the answer
unfoldable pub answer_of : ℕ → Values → Question → List ℕ
answer_of id c q = by_question id c q

-- how many bytes are written at the front of out, and out after it: none, and as it was, if they do not fit

abbrev pub count_in : List ℕ → List ℕ → Option ℕ
count_in xs out = cond (nat_le (length xs) (length out)) (Some (length xs)) None

abbrev pub laid_in : List ℕ → List ℕ → List ℕ
laid_in xs out = cond (nat_le (length xs) (length out)) (xs ++ drop (length xs) out) out
