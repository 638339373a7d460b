-- What the loops that bench/ counts return. Assumes nothing: these are definitions. Public promises cite it.
use Rattle.std.specs.Prelude.{ℕ, zero, suc, ◌+◌, List, [], ◌∷◌, leb, length, drop, if◌then◌else◌}
use Rattle.std.specs.Int.Bits.{bit_xor}
use Rattle.spec.specs.Base.{Read, Took, No}
use Rattle.spec.specs.Varint.{varint64, encode}
use Rattle.spec.specs.Kind.{uint64}
use Rattle.spec.specs.Pull.{Said, Number, Content, End, Refused, raw_tag, value, step_at}
use Rattle.wire.specs.Answers.{stored}

-- `acc`, or what comes of a value and the bytes it took
unfoldable pub xor_on : ℕ → Read → (ℕ → ℕ → ℕ) → ℕ
xor_on acc (Took v n) next = next (bit_xor acc v) n
xor_on acc (No k) next = acc

-- the exclusive or of `acc` and all varints at the front, up to the first that is refused; k is no less than the number of bytes
unfoldable pub xors : ℕ → ℕ → List ℕ → ℕ
xors zero acc s = acc
xors (suc k) acc s = xor_on acc (varint64 s) (λ a n. xors k a (drop n s))

unfoldable pub varints : List ℕ → ℕ
varints s = xors (length s) 0 s

-- `acc`, or what comes of the number that a step said
unfoldable pub said_on : ℕ → Said → (ℕ → ℕ) → ℕ
said_on acc (Number v) next = next v
said_on acc (Content a z) next = acc
said_on acc End next = acc
said_on acc (Refused k p) next = acc

-- the exclusive or of `acc` and the values of all fields from a position on, each a raw tag and a uint64, up to the end or the first refusal; k is no less than the
-- number of bytes left
unfoldable pub pulls : ℕ → (acc at : ℕ) → List ℕ → ℕ
pulls zero acc at s = acc
pulls (suc k) acc at s =
    let t = step_at s at 0 raw_tag in
    let m = step_at s t.at 0 (value uint64) in
    said_on acc t.said (λ tag. said_on acc m.said (λ v. pulls k (bit_xor acc v) m.at s))

unfoldable pub pulled : List ℕ → ℕ
pulled s = pulls (length s) 0 0 s

-- The shortest varints of values from a position on, one after the other: the position after the last, and the slice then. Where one has no
-- room the position is 0, and those before it are stored.
unfoldable pub puts : ℕ → List ℕ → List ℕ → ℕ × List ℕ
puts at [] out = (at, out)
puts at (v ∷ vs) out =
    let next = at + length (encode v) in
    let more = puts next vs (stored at (encode v) out) in
    if leb next (length out) then more else (0, out)
