-- Laws of the first sixteen entries of some numbers. Assumes nothing.
use Prim.Native.Nat.{ℕ, ◌*◌, ◌/◌, ◌%◌, ◌≤◌, min}
use native.Mathlib.Omega.{arith}
use mathlib.Core.Path.{◌≡◌, refl, ap, ◌∙◌}
use mathlib.Core.List.{List}
use lib.ListN.{length}
use borrow.Author.Tests.{lt-ltb, le-ltb, eq-eqb}
use Rattle.spec.specs.Schema.{entries_of, schema_of, entry_stride}
use Rattle.spec.specs.declared.Entry.{Entry}
use Rattle.spec.proofs.VarintLaws.{lower_or_not}
use Rattle.bench_entries.specs.First.{most_made, first_count, first_of}

count_least : (n : ℕ) → min (n / entry_stride) most_made ≡ first_count n
unfolding first_count
count_least n = lower_or_not most_made (n / entry_stride) (λ h. rw (lt-ltb most_made (n / entry_stride) h) (omega arith)) (λ h. rw (le-ltb most_made (n / entry_stride) h) (omega arith))

-- entries that are made of these numbers, at most sixteen, are lent as their schema
pub first_made : (types : ℕ) (ns : List ℕ) {made : List Entry} → made ≡ entries_of (min (length ns / entry_stride) most_made) ns → record { types = types; entries = made } ≡ first_of types ns
unfolding first_of
first_made types ns e = ap (λ (es : List Entry). record { types = types; entries = es }) (e ∙ ap (λ (k : ℕ). entries_of k ns) (count_least (length ns)))

-- of at most sixteen entries with no remainder after them they are all
pub first_all : (types : ℕ) (ns : List ℕ) → length ns % entry_stride ≡ 0 → length ns ≤ most_made * entry_stride → first_of types ns ≡ schema_of types ns
unfolding first_of first_count schema_of
first_all types ns whole few = rw (le-ltb most_made (length ns / entry_stride) (omega arith), eq-eqb (length ns % entry_stride) 0 whole) refl
