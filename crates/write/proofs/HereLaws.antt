-- Laws of the record at a place of a checked list: its numbers as they are read there, and what they say of the bytes in front of what is in it.
-- Assumes nothing.
use Prim.Native.Nat.{ℕ, ◌+◌, ◌*◌, ◌/◌, ◌≤◌, ◌<◌}
use native.Mathlib.Omega.{arith}
use mathlib.Core.Path.{◌≡◌, refl, sym, ap, ap₂, ◌∙◌}
use mathlib.Core.Logic.{◌≢◌}
use mathlib.Core.Bool.{true, false, false≢true}
use mathlib.Core.List.{List, ◌++◌}
use lib.ListN.{length, take, get_or}
use lib.Dec.{leb}
use borrow.Author.Tests.{leb-true, lt-ltb}
use Rattle.spec.specs.Names.{fixed64_wire, delimited_wire, kind_column, message_kind, no_wire, number_column, packed_head, record_kinds, start_column, stop_column, value_column}
use Rattle.spec.specs.Base.{part}
use Rattle.spec.specs.Varint.{encode}
use Rattle.spec.specs.Kind.{Shape, one, other, string, bytes, message, packed, start_group, end_group, nothing, wires, shape, wire, is_scalar, head_kind}
use Rattle.spec.specs.Record.{Record, stride}
use Rattle.spec.specs.Writing.{prefixed, tag_of}
use Rattle.spec.proofs.RoundTrip.{has_content, shape_message, shape_packed}
use Rattle.spec.proofs.Laws.{both}
use Rattle.spec.proofs.RunLaws.{Fit, kind_small as kind-below, is_number, is_content}
use Rattle.write.specs.Backward.{at, kind_at, plain, lead, Here, lead_of, number_of, head_of, Leads}
use Rattle.list.proofs.FitLaws.{type_of, type_small}
use Rattle.write.proofs.KindLaws.{Head, of_message, of_packed, head}
use Rattle.sizes.specs.SizeParts.{coded}
use Rattle.write.proofs.BodyLaws.{plain_by_wire}
use Rattle.write.proofs.SpanLaws.{from}
use Rattle.write.proofs.CheckedLaws.{fit_at, lies_at}

content_lead : (x : Shape) (payload : List ℕ) (r : Record) (n : ℕ) → has_content x ≡ true → lead x payload r n ≡ prefixed (part r.start r.stop payload)
unfolding lead
content_lead (one c) payload r n h = absurd (false≢true h)
content_lead (other string) payload r n h = refl
content_lead (other bytes) payload r n h = refl
content_lead (other message) payload r n h = absurd (false≢true h)
content_lead (other packed) payload r n h = absurd (false≢true h)
content_lead (other start_group) payload r n h = absurd (false≢true h)
content_lead (other end_group) payload r n h = absurd (false≢true h)
content_lead (other nothing) payload r n h = absurd (false≢true h)

module _ {list payload : List ℕ} {b : ℕ} (h : Here list payload b) where
  -- the numbers of the record, as they are read at b
  pub read : (n : ℕ) → get_or list (b + n) 0 ≡ get_or list (stride * (b / stride) + n) 0
  read n = ap (λ (m : ℕ). get_or list (m + n) 0) h.aligned

  pub fit : Fit (at list (b / stride)) (from list (b / stride + 1))
  fit = fit_at list h.given.passed (b / stride) (omega (arith, h.aligned, h.inside))

  pub number_lead : (n : ℕ) → wire (kind_at list (b / stride)) ≢ delimited_wire
      → (is_scalar (shape (get_or list (b + kind_column) 0)) ≡ true) × (plain (shape (get_or list (b + kind_column) 0)) (get_or list (b + value_column) 0) ≡ lead_of list payload b n)
  unfolding is_scalar plain lead
  number_lead n w =
      let x = is_number fit w in (
        ap (λ (k : ℕ). is_scalar (shape k)) (read kind_column) ∙ ap is_scalar x.is,
        ap₂ (λ (k v : ℕ). plain (shape k) v) (read kind_column) (read value_column)
            ∙ ap (λ (s : Shape). plain s (at list (b / stride)).value) x.is ∙ sym (ap (λ (s : Shape). lead s payload (at list (b / stride)) n) x.is),
      )

  pub content_at : wire (kind_at list (b / stride)) ≡ delimited_wire → head_kind (kind_at list (b / stride)) ≡ false
      → (get_or list (b + start_column) 0 ≤ get_or list (b + stop_column) 0) × (get_or list (b + stop_column) 0 ≤ length payload)
      × ((n : ℕ) → lead_of list payload b n ≡ prefixed (part (get_or list (b + start_column) 0) (get_or list (b + stop_column) 0) payload))
  content_at w no_head =
      let i : ℕ = b / stride in
      let no_message : kind_at list i ≢ message_kind = λ e. false≢true (sym no_head ∙ ap head_kind e) in
      let no_packed : kind_at list i ≢ packed_head = λ e. false≢true (sym no_head ∙ ap head_kind e) in
      let x = is_content fit w no_message no_packed in
      let l = both (leb (at list i).start (at list i).stop) (leb (at list i).stop (length payload))
      (lies_at list payload h.given.held i (omega (arith, h.aligned, h.inside)) x.is) in
      let in_order : (at list i).start ≤ (at list i).stop = leb-true (at list i).start (at list i).stop l.0 in
      let inside : (at list i).stop ≤ length payload = leb-true (at list i).stop (length payload) l.1 in (
        omega (arith, read start_column, read stop_column),
        omega (arith, read stop_column),
        λ n. content_lead (shape (kind_at list i)) payload (at list i) n x.is ∙ sym (ap₂ (λ (a e : ℕ). prefixed (part a e payload)) (read start_column) (read stop_column)),
      )

  pub head_lead : (n : ℕ) → head_kind (kind_at list (b / stride)) ≡ true → lead_of list payload b n ≡ encode n
  unfolding lead
  head_lead n is = go (head (kind_at list (b / stride)) is)
    where
      go : {k : ℕ} → Head k → lead (shape k) payload (at list (b / stride)) n ≡ encode n
      go of_message = ap (λ (x : Shape). lead x payload (at list (b / stride)) n) shape_message
      go of_packed = ap (λ (x : Shape). lead x payload (at list (b / stride)) n) shape_packed

  pub kind_small : get_or list (b + kind_column) 0 < record_kinds
  kind_small = omega (arith, read kind_column, kind-below fit)

  -- its wire type, as the table says it, and its tag
  pub type_at : {table : List ℕ} → table ≡ take record_kinds wires → get_or table (get_or list (b + kind_column) 0) 0 ≡ wire (kind_at list (b / stride))
  type_at {table} types = type_of table (get_or list (b + kind_column) 0) types kind_small ∙ ap wire (read kind_column)

  pub byte_at : {table : List ℕ} → table ≡ take record_kinds wires → get_or table (get_or list (b + kind_column) 0) 0 ≤ no_wire
  byte_at {table} types =
      let k : ℕ = get_or list (b + kind_column) 0 in
      omega (arith, type_of table k types kind_small, type_small k kind_small)

  pub tag_at : {table : List ℕ} → table ≡ take record_kinds wires
      → encode (get_or list (b + number_column) 0 * 8 + get_or table (get_or list (b + kind_column) 0) 0) ≡ tag_of true (at list (b / stride))
  tag_at types = ap₂ (λ (m w : ℕ). encode (m * 8 + w)) (read number_column) (type_at types)

  -- a head, of the numbers as they are read
  pub leads : {table : List ℕ} → table ≡ take record_kinds wires → Leads table list b
  leads types = record { inside = h.inside; number = omega (arith, read number_column, fit.small); kind = kind_small; type = byte_at types }

  pub head_is : {table : List ℕ} (n : ℕ) → table ≡ take record_kinds wires → head_kind (kind_at list (b / stride)) ≡ true
      → head_of table list b n ≡ tag_of true (at list (b / stride)) ++ lead_of list payload b n
  head_is n types is = ap₂ (λ (x y : List ℕ). x ++ y) (tag_at types) (sym (head_lead n is))

  -- a varint, of the numbers as they are read
  pub number_is : {table : List ℕ} → table ≡ take record_kinds wires → get_or table (get_or list (b + kind_column) 0) 0 < fixed64_wire
      → number_of list b (get_or table (get_or list (b + kind_column) 0) 0) ≡ tag_of true (at list (b / stride)) ++ lead_of list payload b 0
  number_is {table} types small =
      let kind : ℕ = get_or list (b + kind_column) 0 in
      let v : ℕ = get_or list (b + value_column) 0 in
      let w : ℕ = get_or table kind 0 in
      let x = number_lead 0 (λ e. omega (arith, small, type_at types, e)) in
      let plainly : plain (shape kind) v ≡ encode (coded kind v) =
      simp (lt-ltb w fixed64_wire small) at (plain_by_wire kind v w x.0 (type_at types ∙ ap wire (sym (read kind_column)))) in
      ap₂ (λ (l r : List ℕ). l ++ r) (tag_at types) (sym plainly ∙ x.1)
