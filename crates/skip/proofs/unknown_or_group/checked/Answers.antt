-- `skip::unknown_or_group::checked` meets its contract. Assumes nothing.
use native.Mathlib.Omega.{arith}
use mathlib.Core.Path.{sym}
use Rattle.spec.specs.Base.{Took}
use Rattle.spec.proofs.SkipLaws.{good_tag_lem, bad_wire, bad_number, checked_long, checked_bad, checked_good}
use Rattle.skip.proofs.unknown_or_group.checked.Goals as goal

pub returns-then-s-gt-MOST_BYTES : goal.returns-then-s-gt-MOST_BYTES
returns-then-s-gt-MOST_BYTES c = let a = c.args in sym (checked_long a.tag a.s.now (Took 0 0) c.if-s-gt-MOST_BYTES.true)

pub returns-then-tag-gt-FIXED32 : goal.returns-then-tag-gt-FIXED32
returns-then-tag-gt-FIXED32 c = let a = c.args in sym (checked_bad a.tag a.s.now (Took 0 0) c.if-s-gt-MOST_BYTES.false (bad_wire a.tag (omega arith)))

pub returns-then-tag-lt8 : goal.returns-then-tag-lt8
returns-then-tag-lt8 c = let a = c.args in sym (checked_bad a.tag a.s.now (Took 0 0) c.if-s-gt-MOST_BYTES.false (bad_number a.tag (omega arith)))

pub returns : goal.returns
returns c = let a = c.args in sym (checked_good a.tag a.s.now (Took 0 0) c.if-s-gt-MOST_BYTES.false (good_tag_lem a.tag (omega arith) (omega arith)))
