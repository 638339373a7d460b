-- What a page holds after a text is stored on it, and how a reading ended in the numbers that are printed. Assumes nothing: these are definitions. Public promises cite it.
use Rattle.std.specs.Prelude.{ℕ, ◌≡◌, List, Result}
use Rattle.printing.specs.Text.{Shown}
use Rattle.printing.specs.declared.Page.{Page}
use Rattle.printing.specs.declared.Ending.{Ending}
use Rattle.spec.specs.declared.answers.Stopped.{Stopped}
use Rattle.spec.specs.Told.{read_number, read_count, read_place}

-- What was stored from the page's position on is the text, the position is now after it, and the slice is the one that was lent.
pub record Adds (before : Page) (text : List ℕ) (after : Page) : Type 0 where
  pub shown : Shown before.out.now before.at text after.out.now after.at
  pub same_slice : after.out.ghost_name ≡ before.out.ghost_name

-- how a reading ended, by what it answered
abbrev pub ending_of : Result ℕ Stopped → Ending
ending_of read = record { number = read_number read; count = read_count read; place = read_place read }
