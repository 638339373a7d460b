-- Two generations of older readers: what one passes on, a reader with a still older schema passes on again. Assumes nothing: these are definitions. Only laws cite it.
use Rattle.std.specs.Prelude.{ℕ, ◌≡◌, List}
use Rattle.std.proofs.Math.Option.{none}
use Rattle.spec.specs.Schema.{Schema, bad_schema}
use Rattle.spec.specs.Record.{Record}
use Rattle.spec.specs.declared.Mode.{Mode}
use Rattle.spec.specs.Writing.{written}
use Rattle.onward.specs.Onward.{Older, Given, GoesOnward}

-- The list rs, written under the newest schema, goes onward under the middle one; what that one read goes onward under the oldest, and it is all the same bytes s.
-- The oldest reads the list that it would read of the newest one's bytes.
pub record GoesOnwardTwice (mode : Mode) (oldest middle newest : Schema) (payload : List ℕ) (rs : List Record) (room space : ℕ) (s : List ℕ) : Type 0 where
  pub once : GoesOnward mode middle newest payload rs room space s
  pub twice : GoesOnward mode oldest middle s once.list room space s
  pub straight : GoesOnward mode oldest newest payload rs room space s
  pub same_list : twice.list ≡ straight.list

-- It is so where demand 3's premises hold of the middle schema and the newest, and the oldest is valid and older than the middle one.
-- GenerationLaws.two_generations proves it.
abbrev pub TwoGenerations : Type 0
TwoGenerations =
    (mode : Mode) (oldest middle newest : Schema) (payload : List ℕ) (rs : List Record) (room space : ℕ) → Given middle newest payload rs room space
    → Older oldest middle → bad_schema oldest ≡ none → GoesOnwardTwice mode oldest middle newest payload rs room space (written payload rs)
