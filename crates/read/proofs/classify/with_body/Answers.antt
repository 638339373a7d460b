-- `read::classify::with_body` meets its contract, case by case. Assumes nothing.
use mathlib.Core.Path.{refl}
use Rattle.read.specs.Answers.{with_body}
use Rattle.read.proofs.classify.with_body.Goals as goal

pub returns-in-Is : goal.returns-in-Is
unfolding with_body
returns-in-Is c = rw c.in-Is.is refl

pub returns-in-Group : goal.returns-in-Group
unfolding with_body
returns-in-Group c = rw c.in-Group.is refl
