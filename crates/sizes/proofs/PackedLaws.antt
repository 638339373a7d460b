-- Laws of packed fields: the size from a content that was summed up and cut off, and from a count of values of one width. Assumes nothing.
use Prim.Native.Nat.{ℕ, suc, ◌+◌, ◌*◌}
use mathlib.Core.Path.{◌≡◌, refl, sym, ap, ◌∙◌}
use mathlib.Core.List.{List, [], ◌∷◌, map, map-id}
use native.Mathlib.Omega.{arith}
use lib.Dec.{eqb}
use lib.ListN.{length, length-map}
use borrow.Author.Tests.{ne_eqb}
use Rattle.std.specs.Prelude.{if◌then◌else◌}
use Rattle.spec.specs.Base.{Read, Took, limited}
use Rattle.spec.specs.Varint.{tag_size}
use Rattle.spec.specs.Kind.{shape}
use Rattle.spec.specs.Sizes.{prefixed_size, value_size, values_size, packed_size}
use Rattle.sizes.specs.SizeParts.{capped}
use Rattle.sizes.proofs.ValueSizes.{capped_prefixed, limited_same}
use Rattle.sizes.proofs.Sums.{all_same}

-- a tag, a length and so many bytes
abbrev pub field : ℕ → ℕ → Read
field number n = limited (tag_size number + prefixed_size n)

field_cut : (number n : ℕ) → field number (capped n) ≡ field number n
unfolding prefixed_size
field_cut number n = limited_same (tag_size number + prefixed_size (capped n)) (tag_size number + prefixed_size n) (omega (arith, capped_prefixed n))

-- the values' sizes are n bytes in all, cut off above the limit
pub packed_cut : (kind number n : ℕ) (vs : List ℕ) → n ≡ capped (values_size (shape kind) vs)
    → (if eqb (length vs) 0 then Took 0 0 else field number n) ≡ packed_size kind number vs
unfolding packed_size
packed_cut kind number n [] e = refl
packed_cut kind number n (v ∷ vs) e =
    simp (ne_eqb (suc (length vs)) 0 (λ z. omega arith)) (ap (field number) e ∙ field_cut number (values_size (shape kind) (v ∷ vs)))

-- the same of what has patterns
pub packed_mapped : {A : Type 0} (kind number n : ℕ) (f : A → ℕ) (vs : List A) → n ≡ capped (values_size (shape kind) (map f vs))
    → (if eqb (length vs) 0 then Took 0 0 else field number n) ≡ packed_size kind number (map f vs)
packed_mapped kind number n f vs e = rw length-map at (packed_cut kind number n (map f vs) e)

-- values of w bytes each
pub packed_same : {A : Type 0} (kind number w : ℕ) (f : A → ℕ) → ((a : A) → value_size (shape kind) (f a) ≡ w) → (vs : List A)
    → (if eqb (length vs) 0 then Took 0 0 else field number (length vs * w)) ≡ packed_size kind number (map f vs)
unfolding packed_size
packed_same kind number w f e [] = refl
packed_same kind number w f e (a ∷ vs) =
    simp (ne_eqb (suc (length vs)) 0 (λ z. omega arith)) (ap (field number) (sym (all_same (shape kind) f w e (a ∷ vs))))

pub packed_same_plain : (kind number w : ℕ) → ((v : ℕ) → value_size (shape kind) v ≡ w) → (vs : List ℕ)
    → (if eqb (length vs) 0 then Took 0 0 else field number (length vs * w)) ≡ packed_size kind number vs
packed_same_plain kind number w e vs = packed_same kind number w (λ v. v) e vs ∙ ap (packed_size kind number) (map-id vs)
