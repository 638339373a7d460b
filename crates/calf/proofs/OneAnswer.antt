-- Each promise of this crate allows one answer: it says that the result, and what each lent array and slice holds at the end, equal what a definition gives for
-- the values at entry. There is one law for each number of them. Assumes nothing.
use Prim.Native.Nat.{ℕ}
use mathlib.Core.Path.{◌≡◌, sym, ◌∙◌}
use mathlib.Core.List.{List}

-- `calf_record_numbers`, `calf_utf8_prefix`, `calf_is_document`, `calf_pull_open`
pub one_result {ℓ} : {A : Type ℓ} {v r q : A} → r ≡ v → q ≡ v → r ≡ q
one_result e f = e ∙ sym f

-- the varints, the skips, `calf_check_schema`, `calf_check_list`, `calf_size`, `calf_segment_size`, the pull steps
pub one_told : {v r q : ℕ} {u x y : List ℕ} → (r ≡ v) × (x ≡ u) → (q ≡ v) × (y ≡ u) → (r ≡ q) × (x ≡ y)
one_told e f = (one_result e.0 f.0, one_result e.1 f.1)

-- `calf_read`, `calf_read_prepared`, `calf_read_dropped`, `calf_read_prepared_dropped`, `calf_write`, `calf_segment_read`, `calf_segment_write`
pub one_filled : {v r q : ℕ} {u x y w a b : List ℕ} → (r ≡ v) × (x ≡ u) × (a ≡ w) → (q ≡ v) × (y ≡ u) × (b ≡ w) → (r ≡ q) × (x ≡ y) × (a ≡ b)
one_filled e f = (one_result e.0 f.0, one_result e.1 f.1, one_result e.2 f.2)

-- `calf_prepare`
pub one_prepared : {v r q : ℕ} {u x y w a b t c d : List ℕ} → (r ≡ v) × (x ≡ u) × (a ≡ w) × (c ≡ t) → (q ≡ v) × (y ≡ u) × (b ≡ w) × (d ≡ t)
    → (r ≡ q) × (x ≡ y) × (a ≡ b) × (c ≡ d)
one_prepared e f = (one_result e.0 f.0, one_result e.1 f.1, one_result e.2 f.2, one_result e.3 f.3)
