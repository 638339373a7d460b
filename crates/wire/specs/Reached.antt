-- What is known in the middle of reading a varint, at any width.
-- Assumes nothing: these are definitions. Only inner functions and loops cite it.
use Rattle.std.specs.Prelude.{ℕ, ◌+◌, ◌*◌, ◌^◌, ◌<◌, ◌≡◌, Bool, true, false, List, drop}
use Rattle.spec.specs.Base.{Read, meaning, longer}
use Rattle.spec.specs.Varint.{varint, varint32, varint64}

-- the width by a flag
abbrev pub varint_of : Bool → List ℕ → Read
varint_of true s = varint32 s
varint_of false s = varint64 s

-- n bytes are passed, and make `value`: the answer is what the others, of which at most `left` have another after them, add to it
pub record Reached (more last : ℕ) (s : List ℕ) (at n left value : ℕ) : Type 0 where
  pub same : varint more last (drop at s) ≡ longer n (meaning (λ v. value + v * 128 ^ n) (varint left last (drop (at + n) s)))
  pub low : value < 128 ^ n
