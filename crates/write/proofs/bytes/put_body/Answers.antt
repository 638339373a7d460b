-- `write::bytes::put_body` meets its contract: a value, or a length, with the content after it where there is one.
-- Assumes nothing.
use Prim.Native.Nat.{ℕ, ◌+◌, ◌-◌, ◌/◌, ◌≤◌}
use mathlib.Core.Path.{◌≡◌, sym, ap, ◌∙◌}
use mathlib.Core.Bool.{true, false}
use mathlib.Core.List.{List, [], ◌++◌, append-nil}
use native.Mathlib.Omega.{arith}
use lib.ListN.{length, get_or, length-append}
use Rattle.spec.specs.Record.{stride}
use Rattle.spec.specs.Names.{delimited_wire, kind_column, start_column, stop_column, value_column}
use Rattle.spec.specs.Base.{part}
use Rattle.spec.specs.Varint.{encode}
use Rattle.spec.specs.Kind.{shape, wire, is_scalar, head_kind}
use Rattle.write.specs.Backward.{Stored, kind_at, plain, lead_of}
use Rattle.write.proofs.StoreLaws.{stored_then, stored_as, room_as, stored_at, stored_none}
use Rattle.write.proofs.HereLaws.{read, number_lead, content_at, head_lead}
use Rattle.write.proofs.bytes.put_body.Goals as goal
use Rattle.write.proofs.bytes.put_body.Goals.{After-is_head, Joined-not-is_head, Then-w-ne-DELIMITED, then-not-is_head, else-not-is_head}

-- the number of a scalar
plain-is : (c : Then-w-ne-DELIMITED) →
    let a = c.args in
    let kind = get_or a.list.now (a.b + kind_column) 0 in
    (is_scalar (shape kind) ≡ true) × (plain (shape kind) (get_or a.list.now (a.b + value_column) 0) ≡ lead_of a.list.now a.payload.now a.b 0)
plain-is c =
    number_lead c.requires.0 0 (λ e. c.if-w-ne-DELIMITED.true (c.requires.1 ∙ e))

pub put_plain-requires : goal.put_plain-requires
put_plain-requires c =
    let x = plain-is (goal.at.put_plain-requires c).Then-w-ne-DELIMITED in
    (c.requires.1 ∙ ap wire (sym (read c.requires.0 kind_column)), x.0, room_as (sym x.1) c.requires.2)

pub returns-then-w-ne-DELIMITED : goal.returns-then-w-ne-DELIMITED
returns-then-w-ne-DELIMITED c = stored_as (plain-is (goal.at.returns-then-w-ne-DELIMITED c).Then-w-ne-DELIMITED).1 c.put_plain.ensures

-- the content of a record that is no head
no_head : (c : After-is_head) → c.is_head.result ≡ false →
    let a = c.args in head_kind (kind_at a.list.now (a.b / stride)) ≡ false
no_head c e =
    sym (ap head_kind (read c.requires.0 kind_column)) ∙ sym c.is_head.ensures ∙ e

delimited : (c : After-is_head) → let a = c.args in wire (kind_at a.list.now (a.b / stride)) ≡ delimited_wire
delimited c =
    let is-delimited : c.args.w ≡ delimited_wire = omega arith in
    sym c.requires.1 ∙ is-delimited

pub put_content-q-requires : goal.put_content-q-requires
put_content-q-requires c =
    let places = goal.at.put_content-q-requires c in
    let x = content_at c.requires.0 (delimited places.After-is_head) (no_head places.After-is_head c.if-not-is_head.true) in
    let a : List ℕ = part (get_or c.args.list.now (c.args.b + start_column) 0) (get_or c.args.list.now (c.args.b + stop_column) 0) c.args.payload.now in (
      x.0,
      x.1,
      record {
        few = omega (arith, c.requires.2.few, ap length (x.2 0), length-append (encode (length a)) a);
        inside = c.requires.2.inside;
      },
    )

-- what was stored when the length is: a content, or nothing
record Content (lead : List ℕ) (p : ℕ) (out₀ : List ℕ) (q : ℕ) (out : List ℕ) : Type 0 where
  new : List ℕ
  stored : Stored new p out₀ q out
  is : encode (p - q) ++ new ≡ lead
  before : q ≤ p

content : (c : Joined-not-is_head) →
    let a = c.args in
    Content (lead_of a.list.now a.payload.now a.b 0) a.p a.out.now c.if-not-is_head.q c.if-not-is_head.out
content c =
    let a = c.args in
    let q = c.if-not-is_head.q in
    let is-delimited : a.w ≡ delimited_wire = omega arith in
    let wired : wire (kind_at a.list.now (a.b / stride)) ≡ delimited_wire = sym c.requires.1 ∙ is-delimited in
    let kind : head_kind (kind_at a.list.now (a.b / stride)) ≡ c.is_head.result = sym (ap head_kind (read c.requires.0 kind_column)) ∙ sym c.is_head.ensures in
    elim c.if-not-is_head.branch [
      | then-not-is_head w ↦
          let x = content_at c.requires.0 wired (kind ∙ w.if-not-is_head.true) in
          let new : List ℕ = part (get_or a.list.now (a.b + start_column) 0) (get_or a.list.now (a.b + stop_column) 0) a.payload.now in
          let s : Stored new a.p a.out.now q c.if-not-is_head.out = stored_at w.put_content-q.ensures w.q-is w.out-is in
          let count : a.p - q ≡ length new = omega (arith, s.starts) in
          record { new = new; stored = s; is = ap (λ (m : ℕ). encode m ++ new) count ∙ sym (x.2 0); before = omega (arith, s.starts) }
      | else-not-is_head w ↦
          let is = kind ∙ w.if-not-is_head.false in
          let count : a.p - q ≡ 0 = omega (arith, w.q-is) in
          record {
            new = [];
            stored = stored_at (stored_none a.p a.out.now) w.q-is w.out-is;
            is = append-nil (encode (a.p - q)) ∙ ap encode count ∙ sym (head_lead c.requires.0 0 is);
            before = omega (arith, w.q-is);
          }
    ]

pub overflow_sub-p : goal.overflow_sub-p
overflow_sub-p c = (content (goal.at.overflow_sub-p c).Joined-not-is_head).before

pub put_varint-requires : goal.put_varint-requires
put_varint-requires c =
    let x = content (goal.at.put_varint-requires c).Joined-not-is_head in
    let q : ℕ = c.if-not-is_head.q in
    record {
      few = omega (arith, c.requires.2.few, ap length x.is, x.stored.starts, length-append (encode (c.args.p - q)) x.new);
      inside = omega (arith, c.requires.2.inside, x.stored.starts, x.stored.long);
    }

pub returns : goal.returns
returns c =
    let x = content (goal.at.returns c).Joined-not-is_head in
    stored_as x.is (stored_then x.stored c.put_varint.ensures)

pub shape_of-out : goal.shape_of-out
shape_of-out c = (returns c).long
