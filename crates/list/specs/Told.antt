-- What the list check answers, in the terms of the definitions. Assumes nothing: these are definitions. Public promises cite it.
use Rattle.std.specs.Prelude.{Result, Ok, Err}
use Rattle.spec.specs.Writing as spec
use Rattle.spec.specs.Told.{number_of}
use Rattle.spec.specs.declared.answers.Fault.{Fault}

-- fine, or a refusal's number and an index
unfoldable pub as_verdict : Result (Unit {0}) Fault → spec.Verdict
as_verdict (Ok u) = spec.Fine
as_verdict (Err f) = spec.Faulty (number_of f.refusal) f.index
