-- The first entry that passes the test of `lookup` is the one that the definition finds. Assumes nothing.
use mathlib.Core.Path.{◌≡◌, refl, ap, ◌∙◌}
use mathlib.Core.Bool.{Bool, true, false, cond, ◌&&◌}
use mathlib.Core.Option as math
use mathlib.Core.List.{List, [], ◌∷◌}
use Prim.Native.Nat.{ℕ, ◌+◌}
use lib.Dec.{eqb}
use Rattle.std.specs.Prelude.{Option, Some, if◌then◌else◌}
use Rattle.std.specs.List.{position, position_from}
use Rattle.std.proofs.lemmas.Iterator.Adapters.{position_from-zero}
use Rattle.spec.specs.Schema.{place_of}
use Rattle.spec.specs.declared.Entry.{Entry}
use Rattle.schema.specs.Told.{place}

-- the test of `lookup`
abbrev pub wanted : ℕ → ℕ → Entry → Bool
wanted o n e = eqb e.owner o && eqb e.number n

one_more : (b : Bool) (i : ℕ) (later : Option ℕ) (r : math.Option ℕ) → place later ≡ r → place (cond b (Some i) later) ≡ (if b then math.some i else r)
one_more true i later r e = refl
one_more false i later r e = e

from_place : (i : ℕ) (es : List Entry) (o n : ℕ) → place (position_from (wanted o n) i es) ≡ place_of i es o n
unfolding place_of
from_place i [] o n = refl
from_place i (e ∷ es) o n = one_more (wanted o n e) i (position_from (wanted o n) (i + 1) es) (place_of (i + 1) es o n) (from_place (i + 1) es o n)

pub first_place : (es : List Entry) (o n : ℕ) (found : Option ℕ) → found ≡ position (wanted o n) es → place found ≡ place_of 0 es o n
first_place es o n found e = ap place (e ∙ position_from-zero (wanted o n) es) ∙ from_place 0 es o n
