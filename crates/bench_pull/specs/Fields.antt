-- What the pull loop over a message of bench/bench.proto returns: the exclusive or of all values and of the lengths of contents. Assumes nothing: these are definitions.
-- Public promises cite it.
use Rattle.std.specs.Prelude.{ℕ, zero, suc, ◌+◌, ◌-◌, ◌*◌, ◌≤◌, ◌≡◌, Bool, true, List, eqb, leb, length, if◌then◌else◌, Option, Some, None, Result, Ok, Err}
use Rattle.std.specs.Int.Bits.{bit_xor}
use Rattle.spec.specs.Names.{delimited_wire, fixed32_wire, most_levels, varint_wire}
use Rattle.spec.specs.Base.{part}
use Rattle.spec.specs.Kind.{int32, uint32, sint32, fixed32, bool}
use Rattle.spec.specs.Pull.{Ask, raw_tag, value, bytes, string, skip, Said, Number, Content, End, Refused, Moved, step_at, enter_at}
use Rattle.wire.specs.declared.found.Found.{Found}
use Rattle.pull.specs.declared.step.Moved as pull
use Rattle.pull.specs.declared.step.Said.TheVariants as said
use Rattle.bench_pull.specs.declared.message.Part.{Part}

-- the exclusive or of all, or of what stands before a refusal
abbrev pub Sum : Type 0
Sum = Result ℕ Part

abbrev pub before : ℕ → Sum
before acc = Err (record { sum = acc })

-- the answer of a value, and the position after it
abbrev pub found_at : (value next : ℕ) → Option Found
found_at v n = Some (record { value = v; next = n })

-- ---- the tags of the fields of bench.proto: the field's number, eight times, and its wire type

-- of the root: 1 an int32, 2 a string, 3 a message, 4 a packed field, 5 a float, 7 a bool
abbrev pub root_int32 : ℕ
root_int32 = 1 * 8 + varint_wire

abbrev pub root_string : ℕ
root_string = 2 * 8 + delimited_wire

abbrev pub root_message : ℕ
root_message = 3 * 8 + delimited_wire

abbrev pub root_packed : ℕ
root_packed = 4 * 8 + delimited_wire

abbrev pub root_float : ℕ
root_float = 5 * 8 + fixed32_wire

abbrev pub root_bool : ℕ
root_bool = 7 * 8 + varint_wire

-- of an inner message: 1 a uint32, 2 bytes, 3 a message
abbrev pub inner_uint32 : ℕ
inner_uint32 = 1 * 8 + varint_wire

abbrev pub inner_bytes : ℕ
inner_bytes = 2 * 8 + delimited_wire

abbrev pub inner_message : ℕ
inner_message = 3 * 8 + delimited_wire

-- ---- what a field adds

-- what is asked after a tag of the root, and of an inner message; a field of another number, or of another wire type, is skipped
unfoldable pub root_ask : ℕ → Ask
root_ask tag =
    if eqb tag root_int32 then value int32 else
    if eqb tag root_string then string else
    if eqb tag root_float then value fixed32 else
    if eqb tag root_bool then value bool else skip tag

unfoldable pub inner_ask : ℕ → Ask
inner_ask tag =
    if eqb tag inner_uint32 then value uint32 else
    if eqb tag inner_bytes then bytes else skip tag

-- a number as it is, and of a content its length; no step but that for a tag says that the bytes are at their end
unfoldable pub amount : Said → ℕ → Option Found
amount (Number v) next = found_at v next
amount (Content a z) next = found_at (z - a) next
amount End next = None
amount (Refused k p) next = None

abbrev pub amount_of : Moved → Option Found
amount_of m = amount m.said m.at

-- a content that an answer has does not end before its start
abbrev pub Ordered : pull.Moved → Type 0
Ordered m = (a z : ℕ) → m.said ≡ Ok (said.Content a z) → a ≤ z

-- ---- how it goes on, or that `acc` is all there is after a refusal

unfoldable pub number_on : ℕ → Said → (ℕ → Sum) → Sum
number_on acc (Number v) next = next v
number_on acc (Content a z) next = before acc
number_on acc End next = before acc
number_on acc (Refused k p) next = before acc

unfoldable pub content_on : ℕ → Said → (ℕ → ℕ → Sum) → Sum
content_on acc (Number v) next = before acc
content_on acc (Content a z) next = next a z
content_on acc End next = before acc
content_on acc (Refused k p) next = before acc

unfoldable pub found_on : ℕ → Option Found → (ℕ → ℕ → Sum) → Sum
found_on acc (Some v) f = f v.value v.next
found_on acc None f = before acc

unfoldable pub sum_on : Sum → (ℕ → Sum) → Sum
sum_on (Ok acc) next = next acc
sum_on (Err p) next = Err p

-- ---- the elements of a packed field from a position on; k is no less than the number of bytes left

unfoldable pub elements : (k acc at : ℕ) → List ℕ → Sum
elements zero acc at s = Ok acc
elements (suc k) acc at s =
    let m = step_at s at 0 (value sint32) in
    let on = number_on acc m.said (λ v. elements k (bit_xor acc v) m.at s) in
    if leb (length s) at then Ok acc else on

-- ---- the fields of a message

-- How they are read: the message's level, what is asked after a tag, whether a tag's content is entered, and what that gives, from the exclusive or before it.
pub record Way : Type 0 where
  pub level : ℕ
  pub ask : ℕ → Ask
  pub holds : ℕ → Bool
  pub content : (tag acc : ℕ) → List ℕ → Sum

-- the field after a tag, and how it goes on from the exclusive or and the position then
unfoldable pub field : Way → (acc at tag : ℕ) → List ℕ → (ℕ → ℕ → Sum) → Sum
field w acc at tag s next =
    let e = enter_at s at w.level in
    let deep = content_on acc e.said (λ a z. sum_on (w.content tag (bit_xor acc (z - a)) (part a z s)) (λ x. next x e.at)) in
    let flat = found_on acc (amount_of (step_at s at w.level (w.ask tag))) (λ v to. next (bit_xor acc v) to) in
    if w.holds tag then deep else flat

-- the fields from a position on; k as for elements
unfoldable pub turns : Way → (k acc at : ℕ) → List ℕ → Sum
turns w zero acc at s = Ok acc
turns w (suc k) acc at s =
    let t = step_at s at 0 raw_tag in
    let on = number_on acc t.said (λ tag. field w acc t.at tag s (λ x to. turns w k x to s)) in
    if leb (length s) at then Ok acc else on

-- an inner message, with n levels from its own to the last, at which no content is entered
abbrev pub inner_way : ℕ → (ℕ → List ℕ → Sum) → Way
inner_way level deeper = record { level = level; ask = inner_ask; holds = λ tag. eqb tag inner_message; content = λ tag x c. deeper x c }

unfoldable pub inner : (n acc : ℕ) → List ℕ → Sum
inner zero acc s = before acc
inner (suc n) acc s = turns (inner_way (most_levels - n) (inner n)) (length s) acc 0 s

-- the root: messages of level 1, and packed elements
unfoldable pub root_content : (tag acc : ℕ) → List ℕ → Sum
root_content tag acc c = if eqb tag root_message then inner most_levels acc c else elements (length c) acc 0 c

unfoldable pub root_holds : ℕ → Bool
root_holds tag = if eqb tag root_message then true else eqb tag root_packed

abbrev pub root_way : Way
root_way = record { level = 0; ask = root_ask; holds = root_holds; content = root_content }

unfoldable pub root : List ℕ → Sum
root s = turns root_way (length s) 0 0 s

-- the exclusive or, whether all was read or not
unfoldable pub total : Sum → ℕ
total (Ok acc) = acc
total (Err p) = p.sum

unfoldable pub fields : List ℕ → ℕ
fields s = total (root s)
