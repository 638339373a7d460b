-- Laws of the kinds that a record has: which are heads, and their wire types, as the table says them that is lent to a pass. Assumes nothing.
use Prim.Native.Nat.{ℕ}
use mathlib.Core.Path.{◌≡◌, refl, sym, subst}
use mathlib.Core.Bool.{Bool, true, false, ◌||◌, false≢true}
use lib.Dec.{eqb}
use borrow.Author.Tests.{eqb-true}
use Rattle.spec.specs.Kind.{head_kind}
use Rattle.spec.specs.Names.{message_kind, packed_head}

-- the kinds that are heads
pub data Head : ℕ → Type 0 where
  of_message : Head message_kind
  of_packed : Head packed_head

pub head : (k : ℕ) → head_kind k ≡ true → Head k
head k e = go (eqb k message_kind) (eqb k packed_head) refl refl e
  where
    go : (a b : Bool) → eqb k message_kind ≡ a → eqb k packed_head ≡ b → (a || b) ≡ true → Head k
    go true b p q e = subst Head (sym (eqb-true k message_kind p)) of_message
    go false true p q e = subst Head (sym (eqb-true k packed_head q)) of_packed
    go false false p q e = absurd (false≢true e)
