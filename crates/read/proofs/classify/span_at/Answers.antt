-- `read::classify::span_at` meets its contract: a length of one byte, or the long way. Assumes nothing.
use native.Mathlib.Omega.{arith}
use mathlib.Core.Path.{refl}
use mathlib.Core.Bool.{not}
use Rattle.spec.specs.Kind.{head_kind}
use Rattle.read.specs.Answers.{length_of}
use Rattle.skip.proofs.SpanLaws.{span_short, span_of}
use Rattle.read.proofs.ClassifyLaws.{short_length}
use Rattle.read.proofs.classify.span_at.Goals as goal

pub returns-then-s-start : goal.returns-then-s-start
returns-then-s-start c =
    let a = c.args in
    let e = short_length (not (head_kind a.kind)) a.at a.s.now c.if-at-s.true (rw c.from-n.ensures at c.if-n-lt128.true) in
    span_short (length_of a.kind) a.at a.s.now e (omega arith) (omega (arith, c.from-n.ensures))

pub returns-then-n-lt128 : goal.returns-then-n-lt128
returns-then-n-lt128 c =
    let a = c.args in
    let e = short_length (not (head_kind a.kind)) a.at a.s.now c.if-at-s.true (rw c.from-n.ensures at c.if-n-lt128.true) in
    span_of (length_of a.kind) a.at a.s.now e (omega (arith, c.from-n.ensures)) refl (omega (arith, c.from-n.ensures))
