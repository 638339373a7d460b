-- `copy::put_pieces` meets its contract: a piece more, and the last. Assumes nothing.
use native.Mathlib.Omega.{arith}
use Prim.Native.Nat.{ℕ, ◌+◌, ◌-◌}
use lib.ListN.{length}
use Rattle.copy.proofs.PieceLaws.{piece_on, all_copied}
use Rattle.copy.proofs.put_pieces.Goals as goal

pub loop-i-preserved : goal.loop-i-preserved
loop-i-preserved c =
    let i : ℕ = c.loop-i.i in
    (omega arith, piece_on c.args.from.now c.loop-i.to _ i i (i + 64) (omega arith) (omega arith) (omega arith) c.loop-i.invariant.1 c.put_piece.ensures)

pub returns : goal.returns
returns c =
    let from = c.args.from.now in
    let last : ℕ = length from - 64 in
    let end : ℕ = last + 64 in
    all_copied from _ end (omega arith) (omega arith)
    (piece_on from c.loop-i.to _ last c.loop-i.i end (omega arith) (omega arith) (omega arith) c.loop-i.invariant.1 c.put_piece-2.ensures)
