-- `skip::field::past_fixed` meets its contract. Assumes nothing.
use native.Mathlib.Omega.{arith}
use lib.ListN.{length-drop}
use Rattle.wire.proofs.FixedLaws.{too_few}
use Rattle.skip.proofs.PastLaws.{ends_behind, fixed_ends, refused_behind}
use Rattle.skip.proofs.field.past_fixed.Goals as goal

pub returns-then-s-at : goal.returns-then-s-at
returns-then-s-at c = refused_behind _ (too_few _ _ (rw length-drop (omega arith)))

pub returns : goal.returns
returns c = ends_behind _ _ (fixed_ends _ _ (rw length-drop (omega arith)))
