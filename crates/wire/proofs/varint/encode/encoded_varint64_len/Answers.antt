-- `wire::varint::encode::encoded_varint64_len` meets its contract: the loop climbs while the next power of 128 is not above the value.
-- Assumes nothing.
use Prim.Native.Nat.{ℕ, ◌+◌, ◌-◌, ◌*◌, ◌^◌, ◌≤◌, ◌<◌}
use native.Mathlib.Nat.{one-le-pow, pow-suc, pow-le-pow_right, zero-lt-suc}
use native.Mathlib.Numerals.{add-one}
use native.Mathlib.Omega.{arith}
use mathlib.Core.Path.{◌≡◌, refl, sym, ap}
use Rattle.spec.specs.Varint.{size}
use Rattle.spec.proofs.VarintLaws.{power_less, size_between, size_ten}
use Rattle.wire.proofs.varint.encode.encoded_varint64_len.Goals as goal
use Rattle.wire.proofs.varint.encode.encoded_varint64_len.Invariants.{Climbed}

module _ {v n rung : ℕ} (below : v < 128 ^ 9) (h : Climbed v n rung) where
  few : n ≤ 9
  few = omega (arith, power_less (n - 1) 9 v h.reached below)

  some : 1 ≤ rung
  some = omega (arith, h.next, one-le-pow n 128 (zero-lt-suc 127))

  on_rung : v < rung → n ≡ size v
  on_rung c = sym (size_between n v h.low (omega (arith, few)) h.reached (omega (arith, h.next)))

  next_fits : rung ≤ v → rung * 128 ≤ 128 ^ 9
  next_fits c =
      let more : n < 9 = power_less n 9 v (omega (arith, h.next)) below in
      omega (arith, h.next, pow-le-pow_right {n = 128} (zero-lt-suc 127) {i = n} {j = 8} (omega arith))

  climbed_on : rung ≤ v → Climbed v (n + 1) (rung * 128)
  climbed_on c =
      let less : n + 1 - 1 ≡ n = omega arith in
      record { low = omega arith; reached = rw less (omega (arith, h.next)); next = omega (arith, h.next, pow-suc 128 n, ap (◌^◌ 128) (add-one n)) }

pub returns-then-value-ge-TEN_BYTES : goal.returns-then-value-ge-TEN_BYTES
returns-then-value-ge-TEN_BYTES c = sym (size_ten c.args.value (omega arith))

pub loop-rung-init : goal.loop-rung-init
loop-rung-init c = record { low = omega arith; reached = omega arith; next = refl }

pub overflow_mul-rung : goal.overflow_mul-rung
overflow_mul-rung c = record { fits = omega (arith, next_fits (omega arith) c.loop-rung.invariant (omega arith)) }

pub overflow_add-bytes : goal.overflow_add-bytes
overflow_add-bytes c = record { fits = omega (arith, few (omega arith) c.loop-rung.invariant) }

pub loop-rung-smaller : goal.loop-rung-smaller
loop-rung-smaller c = omega (arith, some (omega arith) c.loop-rung.invariant)

pub loop-rung-preserved : goal.loop-rung-preserved
loop-rung-preserved c = climbed_on (omega arith) c.loop-rung.invariant (omega arith)

pub returns : goal.returns
returns c = on_rung (omega arith) c.loop-rung.invariant (omega arith)
