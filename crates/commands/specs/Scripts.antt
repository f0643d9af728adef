-- How much of a script is left, and its status.
use Rattle.std.specs.Prelude.{ℕ, List, length, Ok, Err, Option, Result}
use Rattle.std.specs.Option.{option_map}
use Rattle.std.specs.declared.process.ExitCode.{ExitCode}
use Rattle.commands.specs.declared.fault.LineError.{LineError}
use Rattle.commands.specs.declared.fault.LineError.TheVariants.{Misread, Failed}
use Rattle.commands.specs.declared.script.Script.{Script}
use Rattle.lines.specs.Lines.{next_line}

-- the text that is not read yet
abbrev pub rest_of : Script → List ℕ
rest_of s = s.rest.now

-- the number of its bytes
abbrev pub unread : Script → ℕ
unread s = length (rest_of s)

-- its first line
abbrev pub first_line : Script → Option (List ℕ)
first_line s = option_map (λ q. q.0) (next_line (rest_of s))

-- the status behind a line with this answer: failed, if it was misread
abbrev pub status_after : ExitCode → Result Unit LineError → ExitCode → ExitCode
status_after failed (Ok u) status = status
status_after failed (Err (Misread m)) status = failed
status_after failed (Err (Failed e)) status = status
