-- A field that is written is read back, which is the step of the round trip; and the equation of the written bytes.
-- Assumes nothing.
use Prim.Native.Nat.{ℕ, zero, suc, ◌+◌, ◌-◌, ◌*◌, ◌/◌, ◌%◌, ◌≤◌, ◌<◌}
use native.Mathlib.Omega.{arith}
use mathlib.Core.Path.{◌≡◌, refl, sym, ap, ap₂, ◌∙◌}
use mathlib.Core.Bool.{Bool, true, not}
use mathlib.Core.List.{List, [], ◌∷◌, ◌++◌, append_assoc}
use lib.ListN.{length, take, drop, length-append, length-take, length-drop}
use lib.Seq.{drop-append_seam, take-append_seam}
use lib.Dec.{leb, ltb, eqb}
use borrow.Author.Tests.{le-leb}
use Rattle.spec.specs.Names.{bad_tag, ends_early, fixed32_wire, largest_number, most_levels, not_utf8, packed_head}
use Rattle.std.specs.Prelude.{if◌then◌else◌}
use Rattle.spec.specs.Base.{part, Took, No, require, limit}
use Rattle.spec.specs.Varint.{varint, encode, tag, good_tag}
use Rattle.spec.specs.Utf8.{utf8, valid_end}
use Rattle.spec.specs.Kind.{Scalar, one, other, string, bytes, message, packed, shape, encoded, fits}
use Rattle.spec.specs.Schema.{Schema, lookup, Says, says_of, says}
use Rattle.spec.specs.Skip.{content, spanned}
use Rattle.spec.specs.Reading.{Mode, looking, Field, Value, Message, Packed, Fault, shaped, field}
use Rattle.spec.specs.Record.{Record, deeper}
use Rattle.spec.proofs.Laws.{either_way, both_true}
use Rattle.spec.specs.Writing.{prefixed, body, tag_of, bytes_of}
use Rattle.spec.proofs.VarintLaws.{varint_shortest, top}
use Rattle.spec.proofs.KindLaws.{scalar_encoded}
use Rattle.spec.proofs.FieldLaws.{given_took, bytes_value, string_value, message_head, packed_head_lem}

pub tag_written : (m w : ℕ) (u : List ℕ) → 1 ≤ m → m ≤ largest_number → w ≤ fixed32_wire
    → tag (encode (m * 8 + w) ++ u) ≡ Took (m * 8 + w) (length (encode (m * 8 + w)))
unfolding tag require
tag_written m w u h i j =
    let t : ℕ = m * 8 + w in
    ap (require bad_tag good_tag) (varint_shortest 4 9 15 t u (omega arith) (omega arith) (omega arith))
    ∙ ap (λ (b : Bool). if b then Took t (length (encode t)) else No bad_tag)
    (both_true (le-leb (t % 8) fixed32_wire (omega arith)) (le-leb 1 (t / 8) (omega arith)))

-- a prefixed content is found again, whichever width its length is read in
pub content_written : (k last : ℕ) (c u : List ℕ) → k ≤ 9 → last < 128 → length c < top k last
    → content (varint k last) (prefixed c ++ u) ≡ Took (length (encode (length c))) (length (prefixed c))
unfolding content
content_written k last c u h i j =
    let p : List ℕ = encode (length c) in
    let x : List ℕ = p ++ c ++ u in
    let reads : varint k last x ≡ Took (length c) (length p) = ap (varint k last) (append_assoc p c u) ∙ varint_shortest k 9 last (length c) (c ++ u) h i j in
    let fits : leb (length p + length c) (length x) ≡ true =
    le-leb (length p + length c) (length x) (omega (arith, length-append (p ++ c) u, length-append p c)) in
    ap (spanned (length x)) reads
    ∙ ap (λ (b : Bool). if b then Took (length p) (length p + length c) else No ends_early) fits
    ∙ ap (Took (length p)) (sym (length-append p c))

pub part_written : (c u : List ℕ) → part (length (encode (length c))) (length (prefixed c)) (prefixed c ++ u) ≡ c
part_written c u =
    let p : List ℕ = encode (length c) in
    let long : length (p ++ c) - length p ≡ length c = omega (arith, length-append p c) in
    ap₂ take long (ap (drop (length p)) (append_assoc p c u) ∙ drop-append_seam p (c ++ u)) ∙ take-append_seam c u

-- the field after a written tag, as its entry and its wire type say
pub field_written : (mode : Mode) (sch : Schema) (depth type m w : ℕ) (u : List ℕ) → 1 ≤ m → m ≤ largest_number → w ≤ fixed32_wire
    → field (looking mode sch) depth type (encode (m * 8 + w) ++ u)
    ≡ shaped mode (shape (says_of (lookup sch.entries type m) w).kind) depth (says_of (lookup sch.entries type m) w).inner m (says_of (lookup sch.entries type m) w).kind
    (length (encode (m * 8 + w))) u
unfolding field says
field_written mode sch depth type m w u h i j =
    let t : ℕ = m * 8 + w in
    let s : List ℕ = encode t ++ u in
    let said : ℕ → ℕ → Says = λ x y. says_of (lookup sch.entries type x) y in
    let at : ℕ → ℕ → List ℕ → Field = λ x y v. shaped mode (shape (said x y).kind) depth (said x y).inner x (said x y).kind (length (encode t)) v in
    given_took _ (tag_written m w u h i j)
    ∙ ap (λ (x : ℕ). at x (t % 8) (drop (length (encode t)) s)) (omega arith)
    ∙ ap (λ (y : ℕ). at m y (drop (length (encode t)) s)) (omega arith)
    ∙ ap (at m w) (drop-append_seam (encode t) u)

pub scalar_written : (mode : Mode) (c : Scalar) (depth inner m kind n v : ℕ) (u : List ℕ) → fits c v ≡ true
    → shaped mode (one c) depth inner m kind n (encoded c v ++ u) ≡ Value m kind v n (n + length (encoded c v))
unfolding shaped
scalar_written mode c depth inner m kind n v u h = given_took _ (scalar_encoded c v u h)

-- the same for a content c of at most the size limit, whose start and end are then
abbrev pub from : List ℕ → ℕ
from c = length (encode (length c))

abbrev pub to : List ℕ → ℕ
to c = length (prefixed c)

module _ (mode : Mode) (depth inner m kind n : ℕ) (c u : List ℕ) (small : length c ≤ limit) where
  pub bytes_written : shaped mode (other bytes) depth inner m kind n (prefixed c ++ u) ≡ Value m kind 0 (n + from c) (n + to c)
  bytes_written = bytes_value mode depth inner m kind n (prefixed c ++ u) ∙ given_took _ (content_written 4 15 c u (omega arith) (omega arith) (omega arith))

  pub string_written : utf8 c ≡ true → shaped mode (other string) depth inner m kind n (prefixed c ++ u) ≡ Value m kind 0 (n + from c) (n + to c)
  string_written h =
      string_value mode depth inner m kind n (prefixed c ++ u) ∙ given_took _ (content_written 4 15 c u (omega arith) (omega arith) (omega arith))
      ∙ ap (λ (b : Bool). if b then Value m kind 0 (n + from c) (n + to c) else Fault not_utf8 (n + valid_end (from c) (to c) (prefixed c ++ u))) (ap utf8 (part_written c u) ∙ h)

  pub message_written : depth < most_levels → shaped mode (other message) depth inner m kind n (prefixed c ++ u) ≡ Message m inner (n + from c) (n + to c)
  message_written h = message_head mode depth inner m kind n (prefixed c ++ u) h ∙ given_took _ (content_written 9 1 c u (omega arith) (omega arith) (omega arith))

  pub packed_written : shaped mode (other packed) depth inner m kind n (prefixed c ++ u) ≡ Packed m inner (n + from c) (n + to c)
  packed_written = packed_head_lem mode depth inner m kind n (prefixed c ++ u) ∙ given_took _ (content_written 9 1 c u (omega arith) (omega arith) (omega arith))

-- ---- the bytes of a list: enough steps are enough, and the equation with no count

pub deeper_le : (d : ℕ) (rs : List Record) → deeper d rs ≤ length rs
unfolding deeper
deeper_le d [] = omega arith
deeper_le d (r ∷ rs) = either_way (λ (n : ℕ). n ≤ suc (length rs)) (ltb d r.depth) (omega (arith, deeper_le d rs)) (omega arith)

pub bytes_of_enough_lem : (f g : ℕ) (tags : Bool) (payload : List ℕ) (rs : List Record) → length rs ≤ f → length rs ≤ g
    → bytes_of f tags payload rs ≡ bytes_of g tags payload rs
unfolding bytes_of
bytes_of_enough_lem zero zero tags payload rs hf hg = refl
bytes_of_enough_lem zero (suc g) tags payload [] hf hg = refl
bytes_of_enough_lem (suc f) zero tags payload [] hf hg = refl
bytes_of_enough_lem zero (suc g) tags payload (r ∷ rs) hf hg = absurd (omega arith)
bytes_of_enough_lem (suc f) zero tags payload (r ∷ rs) hf hg = absurd (omega arith)
bytes_of_enough_lem (suc f) (suc g) tags payload [] hf hg = refl
bytes_of_enough_lem (suc f) (suc g) tags payload (r ∷ rs) hf hg =
    let n : ℕ = deeper r.depth rs in
    let first : length (take n rs) ≤ length rs = omega (arith, length-take n rs) in
    let rest : length (drop n rs) ≤ length rs = omega (arith, length-drop n rs) in
    ap₂ (λ (x y : List ℕ). tag_of tags r ++ body (shape r.kind) payload r x ++ y)
    (bytes_of_enough_lem f g (not (eqb r.kind packed_head)) payload (take n rs) (omega arith) (omega arith))
    (bytes_of_enough_lem f g tags payload (drop n rs) (omega arith) (omega arith))

-- a record's tag and body, in which the records that stand deeper are written, and then those after them
abbrev pub bytes_in : Bool → List ℕ → List Record → List ℕ
bytes_in tags payload rs = bytes_of (length rs) tags payload rs

pub bytes_cons : (tags : Bool) (payload : List ℕ) (r : Record) (rs : List Record)
    → bytes_in tags payload (r ∷ rs)
    ≡ tag_of tags r ++ body (shape r.kind) payload r (bytes_in (not (eqb r.kind packed_head)) payload (take (deeper r.depth rs) rs))
    ++ bytes_in tags payload (drop (deeper r.depth rs) rs)
unfolding bytes_of
bytes_cons tags payload r rs =
    let n : ℕ = deeper r.depth rs in
    let first : length (take n rs) ≤ length rs = omega (arith, length-take n rs) in
    let rest : length (drop n rs) ≤ length rs = omega (arith, length-drop n rs) in
    ap₂ (λ (x y : List ℕ). tag_of tags r ++ body (shape r.kind) payload r x ++ y)
    (bytes_of_enough_lem (length rs) (length (take n rs)) (not (eqb r.kind packed_head)) payload (take n rs) first (omega arith))
    (bytes_of_enough_lem (length rs) (length (drop n rs)) tags payload (drop n rs) rest (omega arith))
