-- What settings hold, as values; and how a change answers: the values as they would be, if these are valid.
use Rattle.std.specs.Prelude.{cond, Some, None, Option}
use Rattle.settings.specs.declared.checked.Settings.{Settings}
use Rattle.settings.specs.Values.{Values, recorded}
use Rattle.settings.specs.Valid.{valid}

abbrev pub values_of : Settings → Values
values_of s = recorded s.product s.values

unfoldable pub checked_of : Values → Option Values
checked_of c = cond (valid c) (Some c) None
