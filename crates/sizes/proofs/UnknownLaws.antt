-- Laws of unknown fields in a list of records: what a record takes, and the list as one record and the rest. Assumes nothing.
use Prim.Native.Nat.{ℕ, zero, suc, ◌+◌, ◌-◌, ◌≤◌, ◌<◌}
use mathlib.Core.Path.{◌≡◌, refl, ap, ap₂, subst, ◌∙◌}
use mathlib.Core.Bool.{false}
use mathlib.Core.List.{List, [], ◌∷◌, ◌++◌}
use native.Mathlib.Omega.{arith}
use lib.Dec.{eqb}
use lib.ListN.{length, drop, get_or, get_or-append, drop_of_length-le}
use lib.Seq.{drop-append_seam}
use Rattle.std.proofs.Common.{length-append}
use borrow.Author.Tests.{le-leb}
use Rattle.spec.specs.Names.{kind_column, number_column, unknown_bytes, unknown_fixed32, unknown_varint}
use Rattle.std.specs.Prelude.{if◌then◌else◌}
use Rattle.spec.specs.Base.{between}
use Rattle.spec.specs.Varint.{tag_size}
use Rattle.spec.specs.Kind.{shapes, shape}
use Rattle.spec.specs.Record.{Record, row, loaded, records_of, stride}
use Rattle.spec.specs.Sizes.{scalar_size, value_size, body_size, unknowns_size}
use Rattle.spec.proofs.FlatLaws.{records_nil, records_broken, records_cons}
use Rattle.sizes.specs.SizeParts.{unknown_value}

-- the four unknown kinds are numbers and bytes
body : (d n v a e t j : ℕ) → j < 4 → body_size (shape (unknown_varint + j)) (row d n (unknown_varint + j) v a e t) 0 ≡ value_size (shape (unknown_varint + j)) (if eqb (unknown_varint + j) unknown_bytes then e - a else v)
unfolding shapes shape scalar_size value_size body_size
body d n v a e t zero h = refl
body d n v a e t (suc zero) h = refl
body d n v a e t (suc (suc zero)) h = refl
body d n v a e t (suc (suc (suc zero))) h = refl
body d n v a e t (suc (suc (suc (suc j)))) h = absurd (omega arith)

-- a record of one of them
unknown_record : (r : Record) → unknown_varint ≤ r.kind → r.kind ≤ unknown_fixed32
    → unknowns_size (r ∷ []) ≡ tag_size r.number + value_size (shape r.kind) (if eqb r.kind unknown_bytes then r.stop - r.start else r.value)
unfolding unknowns_size
unknown_record r l h =
    let k : ℕ = r.kind in
    let here : unknown_varint + (k - unknown_varint) ≡ k = omega arith in
    let is = subst (λ (m : ℕ). body_size (shape m) (row r.depth r.number m r.value r.start r.stop r.tag) 0 ≡ value_size (shape m) (if eqb m unknown_bytes then r.stop - r.start else r.value)) here (body r.depth r.number r.value r.start r.stop r.tag (k - unknown_varint) (omega arith)) in
    simp (le-leb unknown_varint k l, le-leb k unknown_fixed32 h) (omega (arith, is))

other_record : (r : Record) → between unknown_varint unknown_fixed32 r.kind ≡ false → unknowns_size (r ∷ []) ≡ 0
unfolding unknowns_size
other_record r h = simp h

-- ---- the same of its numbers

one_record : (ns : List ℕ) → length ns ≡ stride → records_of ns ≡ loaded ns ∷ []
one_record ns h = records_cons ns (omega arith) ∙ ap (λ t. loaded ns ∷ records_of t) (drop_of_length-le ns {i = stride} (omega arith)) ∙ ap (◌∷◌ (loaded ns)) records_nil

pub unknown_size : (ns : List ℕ) → length ns ≡ stride → unknown_varint ≤ get_or ns kind_column 0 → get_or ns kind_column 0 ≤ unknown_fixed32
    → unknowns_size (records_of ns) ≡ tag_size (get_or ns number_column 0) + value_size (shape (get_or ns kind_column 0)) (unknown_value ns)
unknown_size ns e l h = ap unknowns_size (one_record ns e) ∙ unknown_record (loaded ns) l h

pub other_size : (ns : List ℕ) → length ns ≡ stride → between unknown_varint unknown_fixed32 (get_or ns kind_column 0) ≡ false → unknowns_size (records_of ns) ≡ 0
other_size ns e h = ap unknowns_size (one_record ns e) ∙ other_record (loaded ns) h

-- ---- a list of numbers as one record and the rest

loaded_append : (ns more : List ℕ) → length ns ≡ stride → loaded (ns ++ more) ≡ loaded ns
loaded_append ns more h =
    let at : (k : ℕ) → k < stride → get_or (ns ++ more) k 0 ≡ get_or ns k 0 = λ k l. get_or-append ns more 0 k (omega arith) in
    rw (at 0 (omega arith), at 1 (omega arith), at 2 (omega arith), at 3 (omega arith), at 4 (omega arith), at 5 (omega arith), at 6 (omega arith))

pub unknown_step : (ns more : List ℕ) → length ns ≡ stride
    → unknowns_size (records_of (ns ++ more)) ≡ unknowns_size (records_of ns) + unknowns_size (records_of more)
unfolding unknowns_size
unknown_step ns more h =
    let rest : drop stride (ns ++ more) ≡ more = subst (λ (n : ℕ). drop n (ns ++ more) ≡ more) h (drop-append_seam ns more) in
    let front : records_of (ns ++ more) ≡ loaded ns ∷ records_of more = records_cons (ns ++ more) (omega (arith, length-append ns more)) ∙ ap₂ ◌∷◌ (loaded_append ns more h) (ap records_of rest) in
    rw (front, one_record ns h) (omega arith)

pub unknown_end : (ns : List ℕ) → length ns < stride → unknowns_size (records_of ns) ≡ 0
unfolding unknowns_size
unknown_end [] h = ap unknowns_size records_nil
unknown_end (n ∷ ns) h = ap unknowns_size (records_broken (n ∷ ns) (omega arith) h)
