-- `skip::field::long_tag` meets its contract: the varint, and whether it is a good tag. Assumes nothing.
use mathlib.Core.Path.{sym, ap, ◌∙◌}
use native.Mathlib.Omega.{arith}
use Rattle.spec.proofs.SkipLaws.{good_tag_lem, bad_wire, bad_number}
use Rattle.std.proofs.lemmas.Result.{err_from_is_err_and}
use Rattle.wire.specs.Answers.{as_read}
use Rattle.skip.proofs.PastLaws.{tag_refused, tag_good, tag_bad}
use Rattle.skip.proofs.field.long_tag.Goals as goal

pub returns-in_err-found : goal.returns-in_err-found
returns-in_err-found c =
    let p = err_from_is_err_and c.from_residual.result c.from_residual.ensures.1 in
    rw (p.1, p.2) (sym (tag_refused _ (sym c.in_err-found.ensures)))

pub returns-then-found-gt-FIXED32 : goal.returns-then-found-gt-FIXED32
returns-then-found-gt-FIXED32 c =
    let e = ap (as_read _) (sym c.in_ok-found.was) ∙ c.decode_varint32.ensures in
    sym (tag_bad _ (sym e) (bad_wire c.in_ok-found.found.value (omega arith)))

pub returns-then-found-lt8 : goal.returns-then-found-lt8
returns-then-found-lt8 c =
    let e = ap (as_read _) (sym c.in_ok-found.was) ∙ c.decode_varint32.ensures in
    sym (tag_bad _ (sym e) (bad_number c.in_ok-found.found.value (omega arith)))

pub returns : goal.returns
returns c =
    let e = ap (as_read _) (sym c.in_ok-found.was) ∙ c.decode_varint32.ensures in
    sym (tag_good _ (sym e) (good_tag_lem c.in_ok-found.found.value (omega arith) (omega arith)))
