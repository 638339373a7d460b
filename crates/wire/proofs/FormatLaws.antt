-- Laws of `wire_format`: what finding a wire type shows of the number.
-- Assumes nothing.
use Prim.Native.Nat.{ℕ, ◌≤◌, ◌<◌}
use mathlib.Core.Path.{◌≡◌, refl}
use mathlib.Core.Bool.{Bool, true, false}
use native.Mathlib.Omega.{arith}
use lib.Dec.{leb}
use borrow.Author.Tests.{leb-true, leb-false}
use Rattle.spec.specs.Names.{fixed32_wire, no_wire}
use Rattle.std.specs.Prelude.{if◌then◌else◌, Option, Some, None}
use Rattle.wire.specs.FormatTold.{wire_number, wire_told}
use Rattle.wire.specs.declared.wire_format.WireType.{WireType}
use Rattle.wire.specs.declared.wire_format.WireType.TheVariants.{Varint, Fixed64, LengthDelimited, StartGroup, EndGroup, Fixed32}

pub small : (w : WireType) → wire_number w ≤ fixed32_wire
small Varint = omega arith
small Fixed64 = omega arith
small LengthDelimited = omega arith
small StartGroup = omega arith
small EndGroup = omega arith
small Fixed32 = omega arith

-- a wire type is found for its own number alone
pub known : (n : ℕ) (w : WireType) → wire_number w ≡ (if leb n fixed32_wire then n else no_wire) → (n ≤ fixed32_wire) × (wire_number w ≡ n)
known n w e = go (leb n fixed32_wire) refl e
  where
    go : (b : Bool) → leb n fixed32_wire ≡ b → wire_number w ≡ (if b then n else no_wire) → (n ≤ fixed32_wire) × (wire_number w ≡ n)
    go true p e = (leb-true n fixed32_wire p, e)
    go false p e = absurd (omega (arith, small w))

-- and none above the last one's
unknown : (n : ℕ) → no_wire ≡ (if leb n fixed32_wire then n else no_wire) → fixed32_wire < n
unknown n e = go (leb n fixed32_wire) refl e
  where
    go : (b : Bool) → leb n fixed32_wire ≡ b → no_wire ≡ (if b then n else no_wire) → fixed32_wire < n
    go true p e = absurd (omega (arith, leb-true n fixed32_wire p))
    go false p e = leb-false n fixed32_wire p

-- where no wire type was found
pub not_found : (n : ℕ) (o : Option WireType) → ((w : WireType) → o ≡ Some w → ⊥) → wire_told o ≡ (if leb n fixed32_wire then n else no_wire) → fixed32_wire < n
not_found n (Some w) h e = absurd (h w refl)
not_found n None h e = unknown n e
