-- `skip::document::raw_tag_at` meets its contract: a varint of one byte, or what `long_raw_tag` says. Assumes nothing.
use Prim.Native.Nat.{◌+◌, ◌-◌}
use mathlib.Core.Path.{◌≡◌, sym}
use native.Mathlib.Omega.{arith}
use Rattle.skip.proofs.PastLaws.{one_byte}
use Rattle.skip.proofs.document.raw_tag_at.Goals as goal

pub returns : goal.returns
returns c =
    let a = c.args in
    let q : a.at + 1 - a.at ≡ 1 = omega arith in
    rw (q, c.from-b.ensures) (sym (one_byte 3 15 a.at a.s.now (omega arith) (omega (arith, c.from-b.ensures))))
