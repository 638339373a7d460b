-- The table of lead bytes, by tests that are computed over all its entries.
-- Assumes nothing.
use Prim.Native.Nat.{ℕ, ◌≤◌, ◌<◌}
use mathlib.Core.Path.{◌≡◌, refl, sym, ap, ◌∙◌}
use mathlib.Core.Bool.{Bool, true, false, ◌&&◌}
use mathlib.Core.List.{List}
use lib.ListN.{get_or}
use lib.Dec.{T, eqb, eqb→eq, leb, leb→le}
use Rattle.std.specs.Prelude.{Option, Some, None}
use Rattle.spec.specs.Utf8 as spec
use Rattle.spec.proofs.Below.{and_left, and_right, every, holds_below}
use Rattle.utf8.specs.declared.leads.Lead.{Lead}
use Rattle.utf8.specs.declared.leads.TheConstants.{LEADS}
use Rattle.utf8.specs.Text.{lead_of, Leads}

-- two lead bytes say the same
abbrev same : spec.Lead → spec.Lead → Bool
same (spec.Follow n lo hi) (spec.Follow m l h) = eqb n m && (eqb lo l && eqb hi h)
same (spec.Follow n lo hi) spec.NoLead = false
same spec.NoLead (spec.Follow m l h) = false
same spec.NoLead spec.NoLead = true

alike : (x y : spec.Lead) → T (same x y) → x ≡ y
alike (spec.Follow n lo hi) (spec.Follow m l h) t =
    let bounds = and_right (eqb n m) (eqb lo l && eqb hi h) t in
    rw (eqb→eq n m (and_left (eqb n m) (eqb lo l && eqb hi h) t), eqb→eq lo l (and_left (eqb lo l) (eqb hi h) bounds), eqb→eq hi h (and_right (eqb lo l) (eqb hi h) bounds))
alike (spec.Follow n lo hi) spec.NoLead t = absurd t
alike spec.NoLead (spec.Follow m l h) t = absurd t
alike spec.NoLead spec.NoLead t = refl

-- the entry of a byte says what the definition's ranges say of it
abbrev pub right_at : List (Option Lead) → ℕ → Bool
right_at table b = same (lead_of (get_or table b None)) (spec.lead b)

pub all_right : (table : List (Option Lead)) → T (every (right_at table) 256) → Leads table
all_right table t = record { right = λ b h. alike (lead_of (get_or table b None)) (spec.lead b) (holds_below (right_at table) 256 b t h) }

-- so it is with the table of the code
pub leads : Leads LEADS
unfolding spec.lead lead_of
leads = all_right LEADS tt

pub has_entry : (b : ℕ) → b < 256 → {lead : Lead} → get_or LEADS b None ≡ Some lead → spec.lead b ≡ spec.Follow lead.followers lead.lowest lead.highest
unfolding lead_of
has_entry b h e = sym (leads.right b h) ∙ ap lead_of e

none : (x : Option Lead) → ((lead : Lead) → x ≡ Some lead → ⊥) → x ≡ None
none (Some lead) h = absurd (h lead refl)
none None h = refl

pub no_entry : (b : ℕ) → b < 256 → ((lead : Lead) → get_or LEADS b None ≡ Some lead → ⊥) → spec.lead b ≡ spec.NoLead
unfolding lead_of
no_entry b h e = sym (leads.right b h) ∙ ap lead_of (none _ e)

-- no entry has more than three followers
abbrev few : Option Lead → Bool
few (Some lead) = leb lead.followers 3
few None = true

pub at_most_three : (b : ℕ) → b < 256 → (lead : Lead) → get_or LEADS b None ≡ Some lead → lead.followers ≤ 3
at_most_three b h lead e = leb→le lead.followers 3 (rw e at (holds_below (λ (b : ℕ). few (get_or LEADS b None)) 256 b tt h))
