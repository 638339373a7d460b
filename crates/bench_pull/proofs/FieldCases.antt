-- The message of 21 bytes that bench/ calls `tiny`, computed: 150, the length 2, the length 4 and in it 5 and the length 0, the length 4 and in it -1, 1 and 64, and 1.
-- Assumes nothing.
use mathlib.Core.Path.{◌≡◌, refl}
use mathlib.Core.List.{[], ◌∷◌}
use Rattle.spec.specs.Base.{longer, ◌>>=◌, digit, meaning, require}
use Rattle.spec.specs.Varint.{varint, unzigzag}
use Rattle.spec.specs.Utf8.{lead, followers, behind, char, chars, valid_prefix}
use Rattle.spec.specs.Kind.{scalar}
use Rattle.spec.specs.Skip.{content}
use Rattle.spec.specs.Pull.{moved, spelled, step_at, enter_at}
use Rattle.bench_pull.specs.Fields.{root_ask, inner_ask, amount, number_on, content_on, found_on, sum_on, elements, field, turns, inner, root_content, root_holds, root, total, fields}

pub tiny : fields (8 ∷ 150 ∷ 1 ∷ 18 ∷ 2 ∷ 79 ∷ 75 ∷ 26 ∷ 4 ∷ 8 ∷ 5 ∷ 18 ∷ 0 ∷ 34 ∷ 4 ∷ 1 ∷ 2 ∷ 128 ∷ 1 ∷ 56 ∷ 1 ∷ []) ≡ 18446744073709551406
unfolding longer ◌>>=◌ digit meaning require varint unzigzag lead followers behind char chars valid_prefix scalar content moved spelled step_at enter_at root_ask inner_ask amount number_on content_on found_on sum_on elements field turns inner root_content root_holds root total fields
tiny = refl
