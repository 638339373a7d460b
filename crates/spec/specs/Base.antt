-- What every definition of this folder uses: what reading at the front of some bytes finds, a part of the bytes.
-- A byte is a number below 256, and a run of bytes is a List ℕ. Refusals have the numbers of specs/Names.
-- Some definitions count down a first number k, as they recur on bytes that are no part of the pattern. Their callers give the length;
-- that any k which is no less gives the same, and the equations with no k, are laws (proofs/).
-- Assumes nothing: these are definitions. Public promises cite it.
use Rattle.std.specs.Prelude.{ℕ, suc, ◌+◌, ◌-◌, ◌*◌, Bool, ◌&&◌, List, ◌++◌, length, take, drop, leb, if◌then◌else◌}
use Rattle.spec.specs.Names.{too_large}

-- lo ≤ x ≤ hi
abbrev pub between : ℕ → ℕ → ℕ → Bool
between lo hi x = leb lo x && leb x hi

-- the bytes from a up to, not including, e
abbrev pub part : ℕ → ℕ → List ℕ → List ℕ
part a e s = take (e - a) (drop a s)

-- what a lent room holds when `new` was stored at its front
abbrev pub filled : List ℕ → List ℕ → List ℕ
filled new room = new ++ drop (length new) room

-- the most bytes that are read or written
abbrev pub limit : ℕ
limit = 2147483647

-- What reading at the front of some bytes finds: a value and how many bytes it took, or a refusal's number.
pub data Read : Type 0 where
  Took : ℕ → ℕ → Read
  No : ℕ → Read

-- its parts: the refusal's number, 0 for none; the value; the bytes taken, 0 on refusal
unfoldable pub refusal : Read → ℕ
refusal (Took v n) = 0
refusal (No k) = k

unfoldable pub found : Read → ℕ
found (Took v n) = v
found (No k) = 0

unfoldable pub taken : Read → ℕ
taken (Took v n) = n
taken (No k) = 0

-- the same bytes, another value
unfoldable pub meaning : (ℕ → ℕ) → Read → Read
meaning f (Took v n) = Took (f v) n
meaning f (No k) = No k

-- the same, where the value passes the test, and else refusal k
unfoldable pub require : ℕ → (ℕ → Bool) → Read → Read
require k ok (Took v n) = if ok v then Took v n else No k
require k ok (No j) = No j

-- the same, with n bytes more
unfoldable pub longer : ℕ → Read → Read
longer n (Took v m) = Took v (n + m)
longer n (No k) = No k

-- what is read next, from the value and how many bytes it took
infixl 20 ◌>>=◌
unfoldable pub ◌>>=◌ : Read → (ℕ → ℕ → Read) → Read
Took v n >>= next = longer n (next v n)
No k >>= next = No k

-- one digit more, below the others: b + base * v
unfoldable pub digit : ℕ → ℕ → Read → Read
digit base b (Took v n) = Took (b + base * v) (suc n)
digit base b (No k) = No k

-- a size that may be read or written, or refusal 11; no bytes are read for it
unfoldable pub limited : ℕ → Read
limited n = if leb n limit then Took n 0 else No too_large
