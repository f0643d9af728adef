-- The frames that a unit sends.
use Rattle.std.specs.Prelude.{ℕ, ◌+◌, ◌%◌, List, [], ◌∷◌}
use Rattle.xbus.specs.Numbers.{be}
use Rattle.xbus.specs.Parts.{Parts}
use Rattle.xbus.specs.Frames.{encoded}
use Rattle.config.specs.Answered.{configuration_of}
use Rattle.settings.specs.Values.{Values}

-- the reply to a message bears its address, and its identifier and 1
abbrev pub reply : Parts → List ℕ → List ℕ
reply p content = encoded p.address ((p.identifier + 1) % 256) content

-- or it is an Error, identifier 42
abbrev pub error : Parts → List ℕ → List ℕ
error p content = encoded p.address 0x42 content

-- Error 40, a refused save: with the message's identifier and four 00
abbrev pub save_error : Parts → List ℕ
save_error p = error p (40 ∷ p.identifier ∷ be 4 0)

-- what is sent unasked has the address FF

abbrev pub wake_up : List ℕ
wake_up = encoded 0xFF 0x3E []

abbrev pub configuration : ℕ → Values → List ℕ
configuration id s = encoded 0xFF 0x0D (configuration_of id s)
