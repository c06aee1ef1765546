-- The exit status of what a program came to.
use Rattle.std.specs.Prelude.{ℕ, Result, Ok, Err}
use Rattle.say.specs.declared.Done.{Done}
use Rattle.say.specs.declared.Done.TheVariants.{Plain, Noted}
use Rattle.say.specs.declared.Stop.{Stop}
use Rattle.say.specs.declared.Stop.TheVariants.{Refused, Failed}

-- 0 is done, 1 refused, 2 bad usage or a failure of input or output, 3 done with something to look at
abbrev pub status_of : Result Done Stop → ℕ
status_of (Ok Plain) = 0
status_of (Err Refused) = 1
status_of (Err Failed) = 2
status_of (Ok Noted) = 3
