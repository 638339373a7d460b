-- The loop over a run of records, from the last to the first: what is known at the place b, and that an iteration keeps it. An iteration goes back over the run in
-- the record before b, if there is one, which ends at b and begins where its head stands; the head then goes in front.
-- Assumes nothing.
use Prim.Native.Nat.{ℕ, ◌+◌, ◌-◌, ◌*◌, ◌/◌, ◌≤◌, ◌<◌}
use native.Mathlib.Omega.{arith}
use mathlib.Core.Path.{◌≡◌, refl, sym, ap, ap₂, ◌∙◌, subst}
use mathlib.Core.Bool.{Bool, true, false, not}
use mathlib.Core.List.{List, [], ◌++◌, append_assoc}
use lib.Dec.{eqb}
use lib.ListN.{length, get_or, length-append}
use Rattle.spec.specs.Record.{stride}
use Rattle.spec.specs.Names.{packed_head}
use Rattle.spec.specs.Kind.{shape, head_kind}
use Rattle.spec.specs.Writing.{body, tag_of}
use Rattle.spec.proofs.VarintLaws.{lower_or_not}
use Rattle.spec.proofs.WritingLaws.{bytes_in}
use Rattle.write.specs.Backward.{Stored, Room, depth_at, kind_at, at, span, start, lead, Here, lead_of, run_bytes, Run, Inner, is_packed, Ran}
use Rattle.write.proofs.StoreLaws.{stored_then, stored_as, stored_none, room_as}
use Rattle.write.proofs.SpanLaws.{bytes_none, bytes_at, bytes_from, start_le, start_over, start_low, start_same, start_here}
use Rattle.write.proofs.CheckedLaws.{next_depth, leaf_next, deep_at}
use Rattle.write.proofs.BodyLaws.{body_lead}

-- the records of the run from the place b on are stored
pub record Back (list payload out : List ℕ) (d upto pos b p : ℕ) (now : List ℕ) : Type 0 where
  aligned : b ≡ stride * (b / stride)
  pub high : b ≤ upto
  same : start list d (b / stride) ≡ start list d (upto / stride)
  first : b < upto → depth_at list (b / stride) ≤ d
  pub stored : Stored (bytes_in true payload (span list (b / stride) (upto / stride))) pos out p now

-- and the record before b is of the run
pub record Turned (table list payload out : List ℕ) (d upto pos b p : ℕ) (now : List ℕ) : Type 0 where
  pub run : Run true table list payload out d upto pos
  pub back : Back list payload out d upto pos b p now
  pub more : stride ≤ b
  pub deep : d ≤ get_or list (b - stride) 0

module _ {table list payload out : List ℕ} {d upto pos : ℕ} (r : Run true table list payload out d upto pos) where
  pub begin : Back list payload out d upto pos upto pos out
  begin = record {
    aligned = r.ends.aligned;
    high = omega arith;
    same = refl;
    first = λ h. absurd (omega arith);
    stored = stored_as (sym (bytes_none list true payload (upto / stride) (upto / stride) (omega arith))) (stored_none pos out);
  }

  module _ {b p : ℕ} {now : List ℕ} (h : Back list payload out d upto pos b p now) where
    -- the run ends: before its first record, or at the front of the list
    ran : b / stride ≡ start list d (upto / stride) → Ran true list payload out d upto pos b p now
    ran e = record {
      begins = omega (arith, h.aligned);
      stored = stored_as (ap (λ (i : ℕ). bytes_in true payload (span list i (upto / stride))) e) h.stored;
    }

    pub ran_all : b < stride → Ran true list payload out d upto pos b p now
    ran_all l = ran (omega (arith, h.aligned, h.same, start_le list d (b / stride)))

    module _ (more : stride ≤ b) where
      -- the record before b
      abbrev i : ℕ
      i = b / stride - 1

      before : (b - stride ≡ stride * i) × (b / stride ≡ i + 1) × (stride * (b / stride) ≤ length list)
      before = (omega (arith, h.aligned), omega (arith, h.aligned), omega (arith, h.aligned, h.high, r.ends.inside))

      depth_is : get_or list (b - stride) 0 ≡ depth_at list i
      depth_is = ap (λ (n : ℕ). get_or list n 0) before.0

      pub ran_to : get_or list (b - stride) 0 < d → Ran true list payload out d upto pos b p now
      ran_to l = ran (sym (start_here list d (b / stride) (omega (arith, before.1)) (omega (arith, depth_is))) ∙ h.same)

module _ {table list payload out now : List ℕ} {d upto pos b p : ℕ} (w : Turned table list payload out d upto pos b p now) where
  abbrev r : Run true table list payload out d upto pos
  r = w.run

  abbrev h : Back list payload out d upto pos b p now
  h = w.back

  placed : (b - stride ≡ stride * (b / stride - 1)) × (b / stride ≡ b / stride - 1 + 1) × (stride * (b / stride) ≤ length list)
  placed = before r h w.more

  depth_here : get_or list (b - stride) 0 ≡ depth_at list (b / stride - 1)
  depth_here = depth_is r h w.more

  -- the run in it begins at index m, and its head is the record before that
  abbrev m : ℕ
  m = start list (d + 1) (b / stride)

  deeper : (j : ℕ) → m ≤ j → j < b / stride → d < depth_at list j
  deeper j g l = omega (arith, start_over list (d + 1) (b / stride) j g l)

  some : 1 ≤ m
  some =
      lower_or_not 0 m (λ l. l)
      (λ l. absurd (omega (arith, deeper 0 l (omega (arith, placed.1)), deep_at list r.ends.passed 0 (omega (arith, placed.1, placed.2)))))

  m_le : m ≤ b / stride
  m_le = start_le list (d + 1) (b / stride)

  after : m - 1 + 1 ≡ m
  after = omega (arith, some)

  head_depth : depth_at list (m - 1) ≡ d
  head_depth =
      let low : depth_at list (m - 1) < d + 1 = start_low list (d + 1) (b / stride) some in
      lower_or_not m (b / stride)
      (λ l.
      let next : depth_at list m ≤ depth_at list (m - 1) + 1 =
      subst (λ (n : ℕ). depth_at list n ≤ depth_at list (m - 1) + 1) after (next_depth list r.ends.passed (m - 1) (omega (arith, some, placed.2))) in
      omega (arith, deeper m (omega arith) l))
      (λ l.
      let same : m - 1 ≡ b / stride - 1 = omega (arith, m_le) in
      omega (arith, w.deep, depth_here, ap (depth_at list) same))

  -- what it says of the bytes
  abbrev inner : List ℕ
  inner = run_bytes (not (is_packed list (d + 1) b)) list payload (d + 1) b

  abbrev rest : List ℕ
  rest = bytes_in true payload (span list (b / stride) (upto / stride))

  abbrev own : List ℕ
  own = tag_of true (at list (m - 1)) ++ lead (shape (kind_at list (m - 1))) payload (at list (m - 1)) (length inner)

  leaf : head_kind (kind_at list (m - 1)) ≡ false → inner ≡ []
  leaf e =
      lower_or_not m (b / stride)
      (λ l.
      let next : depth_at list m ≤ depth_at list (m - 1) =
      subst (λ (n : ℕ). depth_at list n ≤ depth_at list (m - 1)) after (leaf_next list r.ends.passed (m - 1) (omega (arith, some, placed.2)) e) in
      absurd (omega (arith, deeper m (omega arith) l, head_depth)))
      (λ l. bytes_none list (not (is_packed list (d + 1) b)) payload m (b / stride) l)

  whole : own ++ (inner ++ rest) ≡ bytes_in true payload (span list (m - 1) (upto / stride))
  whole =
      let k : ℕ = kind_at list (m - 1) in
      let t : List ℕ = tag_of true (at list (m - 1)) in
      let n : List ℕ = lead (shape k) payload (at list (m - 1)) (length inner) in
      let all = bytes_at list (m - 1) (b / stride) (upto / stride) (omega (arith, some, m_le)) (omega (arith, h.aligned, h.high, r.ends.aligned))
      (omega (arith, r.ends.aligned, r.ends.inside)) (λ l. omega (arith, head_depth, h.first (omega (arith, h.aligned, r.ends.aligned)))) true payload
      (λ j g l. omega (arith, head_depth, deeper j (omega (arith, some)) l)) in
      sym (all
      ∙ ap (λ (x : ℕ). t ++ body (shape k) payload (at list (m - 1)) (bytes_in (not (eqb k packed_head)) payload (span list x (b / stride))) ++ rest) after
      ∙ ap (λ (x : List ℕ). t ++ x ++ rest) (body_lead k payload (at list (m - 1)) inner leaf)
      ∙ ap (λ (x : List ℕ). x ++ rest) (sym (append_assoc t n inner)) ∙ append_assoc own inner rest)

  kept : start list d (m - 1) ≡ start list d (upto / stride)
  kept =
      sym (start_same list (b / stride) d (m - 1) (b / stride) (omega (arith, m_le)) (omega arith)
      (λ j g l. lower_or_not j m
      (λ e. let same : j ≡ m - 1 = omega arith in omega (arith, head_depth, ap (depth_at list) same))
      (λ e. omega (arith, deeper j e l))))
      ∙ h.same

  few : length own + length inner + length rest ≤ pos
  few =
      let shorter = bytes_from list true payload d (start list d (upto / stride)) (m - 1) (upto / stride) (omega (arith, kept, start_le list d (m - 1)))
      (omega (arith, m_le, h.aligned, h.high, r.ends.aligned)) (omega (arith, r.ends.aligned, r.ends.inside))
      (λ j g l. start_over list d (upto / stride) j g (omega (arith, m_le, h.aligned, h.high, r.ends.aligned))) (λ l. omega (arith, head_depth)) in
      omega (arith, shorter, r.room.few, ap length whole, length-append own (inner ++ rest), length-append inner rest)

  inside : p ≤ length now
  inside = omega (arith, h.stored.starts, r.room.inside, h.stored.long)

  -- where the record before b is deeper, it is in that run
  module _ (more-deep : d < get_or list (b - stride) 0) where
    has_some : m < b / stride
    has_some =
        lower_or_not m (b / stride) (λ l. l)
        (λ l. let same : m - 1 ≡ b / stride - 1 = omega (arith, m_le) in absurd (omega (arith, head_depth, depth_here, ap (depth_at list) same)))

    -- so that is a head
    head_kind_lem : head_kind (kind_at list (m - 1)) ≡ true
    head_kind_lem = go (head_kind (kind_at list (m - 1))) refl
      where
        go : (x : Bool) → head_kind (kind_at list (m - 1)) ≡ x → head_kind (kind_at list (m - 1)) ≡ true
        go true e = e
        go false e =
            let next : depth_at list m ≤ depth_at list (m - 1) =
            subst (λ (n : ℕ). depth_at list n ≤ depth_at list (m - 1)) after (leaf_next list r.ends.passed (m - 1) (omega (arith, some, has_some, placed.2)) e) in
            absurd (omega (arith, deeper m (omega arith) has_some, head_depth))

    pub inner_run : Run (not (is_packed list (d + 1) b)) table list payload now (d + 1) b p
    inner_run = record {
      types = r.types;
      given = r.given;
      ends = record { passed = r.ends.passed; aligned = h.aligned; inside = omega (arith, h.high, r.ends.inside) };
      room = record { few = omega (arith, few, h.stored.starts); inside = inside };
    }

    pub inner_in_lem : Inner list (d + 1) b
    inner_in_lem = record { some = has_some; head = some }

    pub falls : b - stride * (d + 1) + 1 < upto - stride * d
    falls =
        omega (arith, depth_here, deep_at list r.ends.passed (b / stride - 1) (omega (arith, placed.1, placed.2)), placed.1, h.aligned, h.high)

    pub fits : d + 1 ≤ b
    fits = omega (arith, depth_here, deep_at list r.ends.passed (b / stride - 1) (omega (arith, placed.1, placed.2)), placed.1, h.aligned)

  -- and else there is none
  pub none_in : get_or list (b - stride) 0 ≤ d → Ran (not (is_packed list (d + 1) b)) list payload now (d + 1) b p b p now
  none_in l =
      let here : m ≡ b / stride = start_here list (d + 1) (b / stride) (omega (arith, placed.1)) (omega (arith, depth_here)) in
      record {
        begins = omega (arith, h.aligned);
        stored = stored_as (sym (bytes_none list (not (is_packed list (d + 1) b)) payload m (b / stride) (omega arith))) (stored_none p now);
      }

  -- the head in front of that run
  module _ {c q : ℕ} {next : List ℕ} (x : Ran (not (is_packed list (d + 1) b)) list payload now (d + 1) b p c q next) where
    place : (c - stride) / stride ≡ m - 1
    place = omega (arith, x.begins, some)

    pub head_here : d < get_or list (b - stride) 0 → head_kind (kind_at list ((c - stride) / stride)) ≡ true
    head_here l = ap (λ (j : ℕ). head_kind (kind_at list j)) place ∙ head_kind_lem l

    pub below : stride ≤ c
    below = omega (arith, x.begins, some)

    count : p - q ≡ length inner
    count = omega (arith, x.stored.starts)

    own_is : tag_of true (at list ((c - stride) / stride)) ++ lead_of list payload (c - stride) (p - q) ≡ own
    own_is = ap₂ (λ (j n : ℕ). tag_of true (at list j) ++ lead (shape (kind_at list j)) payload (at list j) n) place count

    pub here : Here list payload (c - stride)
    here = record { given = r.given; aligned = omega (arith, x.begins, some); inside = omega (arith, x.begins, some, m_le, placed.2) }

    pub room : Room (tag_of true (at list ((c - stride) / stride)) ++ lead_of list payload (c - stride) (p - q)) q next
    room = room_as (sym own_is) (record {
      few = omega (arith, few, h.stored.starts, x.stored.starts);
      inside = omega (arith, x.stored.starts, inside, x.stored.long);
    })

    pub again : {z : ℕ} {then : List ℕ} → Stored (tag_of true (at list ((c - stride) / stride)) ++ lead_of list payload (c - stride) (p - q)) q next z then
        → Back list payload out d upto pos (c - stride) z then
    again s = record {
      aligned = omega (arith, x.begins, some);
      high = omega (arith, x.begins, some, m_le, h.aligned, h.high);
      same = ap (start list d) place ∙ kept;
      first = λ l. omega (arith, head_depth, ap (depth_at list) place);
      stored =
          stored_as (whole ∙ ap (λ (j : ℕ). bytes_in true payload (span list j (upto / stride))) (sym place))
          (stored_then (stored_then h.stored x.stored) (stored_as own_is s));
    }

    pub less : c - stride < b
    less = omega (arith, x.begins, some, m_le, h.aligned)
