-- What a call that writes answers, by the definitions of writing. Assumes nothing: this is a definition. Public promises cite it by its parts.
use Rattle.std.specs.Prelude.{ℕ, ◌≡◌, Result}
use Rattle.spec.specs.Writing as of
use Rattle.spec.specs.Told.{written_number, written_size, written_index}
use Rattle.spec.specs.declared.answers.Unwritten.{Unwritten}

-- the answer that tells a writing
pub record Tells (w : of.Writing) (answer : Result ℕ Unwritten) : Type 0 where
  pub number : written_number answer ≡ of.number w
  pub size : written_size answer ≡ of.size w
  pub index : written_index answer ≡ of.index w
