-- `wire::varint::decode::by_bytes` meets its contract, at any width. The loop's invariant: n bytes are passed, and `scale` is what the next one counts.
-- Assumes nothing.
use Prim.Native.Nat.{ℕ, suc, ◌-◌, ◌+◌, ◌^◌}
use native.Mathlib.Nat.{pow-suc}
use native.Mathlib.Numerals.{add-one}
use native.Mathlib.Omega.{arith}
use mathlib.Core.Path.{◌≡◌, refl, sym, ap, ◌∙◌}
use lib.ListN.{get_or}
use Rattle.wire.specs.Reached.{Reached}
use Rattle.wire.proofs.VarintSteps.{begin, ended, stopped, turned, took_last, refused_last, scale_below, digit_below, last_below}
use Rattle.wire.proofs.varint.decode.by_bytes.Goals as goal
use Rattle.wire.proofs.varint.decode.by_bytes.Goals.{After-loop-n, After-shared_slice_known-1}

pub loop-n-init : goal.loop-n-init
loop-n-init c =
    let whole : c.args.more - 0 ≡ c.args.more = omega arith in
    record { some = omega arith; scaled = refl; reached = rw whole (begin _ _ _ _) }

pub returns-then-size-n : goal.returns-then-size-n
returns-then-size-n c = ended c.loop-n.invariant.reached (omega arith)

pub overflow_cast-b : goal.overflow_cast-b
overflow_cast-b c = omega (arith, c.type_inv.s (c.args.at + c.loop-n.n))

pub overflow_add-value : goal.overflow_add-value
overflow_add-value c =
    let inv = c.loop-n.invariant in
    rw inv.scaled (omega (arith, digit_below c.loop-n-test.true inv.reached.low (get_or c.args.s.now (c.args.at + c.loop-n.n) 0), c.requires.0))

pub overflow_mul-value : goal.overflow_mul-value
overflow_mul-value c = omega (arith, overflow_add-value c)

-- with a byte still to come after this one
more_left : (c : After-shared_slice_known-1) → c.args.more - c.loop-n.n ≡ suc (c.args.more - (c.loop-n.n + 1))
more_left c = omega arith

pub returns-then-b-lt128 : goal.returns-then-b-lt128
returns-then-b-lt128 c =
    let inv = c.loop-n.invariant in
    rw inv.scaled (stopped (omega arith) (rw (more_left (goal.at.returns-then-b-lt128 c).After-shared_slice_known-1) at inv.reached) c.if-b-lt128.true)

pub overflow_mul-scale : goal.overflow_mul-scale
overflow_mul-scale c = rw c.loop-n.invariant.scaled (omega (arith, scale_below c.loop-n-test.true, c.requires.0))

pub loop-n-preserved : goal.loop-n-preserved
loop-n-preserved c =
    let inv = c.loop-n.invariant in
    record {
      some = omega arith;
      scaled = rw inv.scaled (sym (ap (λ (x : ℕ). 128 ^ x) (add-one _) ∙ pow-suc 128 _));
      reached = rw inv.scaled (turned (omega arith) (rw (more_left (goal.at.loop-n-preserved c).After-shared_slice_known-1) at inv.reached) c.if-b-lt128.false);
    }

pub returns-then-size-more : goal.returns-then-size-more
returns-then-size-more c = ended c.loop-n.invariant.reached (omega arith)

pub overflow_cast-b-2 : goal.overflow_cast-b-2
overflow_cast-b-2 c = omega (arith, c.type_inv.s (c.args.at + c.args.more))

-- all bytes but the last are passed
last-left : (c : After-loop-n) → Reached c.args.more c.args.last c.args.s.now c.args.at c.args.more 0 c.loop-n.value
last-left c =
    let full : c.loop-n.n ≡ c.args.more = omega arith in
    let none : c.args.more - c.args.more ≡ 0 = omega arith in
    rw none at (rw full at c.loop-n.invariant.reached)

pub returns-then-last-b : goal.returns-then-last-b
returns-then-last-b c = refused_last (omega arith) (last-left (goal.at.returns-then-last-b c).After-loop-n) c.if-last-b.true

pub returns : goal.returns
returns c =
    let inv = c.loop-n.invariant in
    let full : c.loop-n.n ≡ c.args.more = omega arith in
    rw (inv.scaled, full) (took_last (omega arith) (last-left (goal.at.returns c).After-loop-n) c.if-last-b.false)
