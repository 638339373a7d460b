-- What the promises of `utf8` are stated with: what the table of lead bytes says in the definition's terms, bytes of ASCII, what a run over
-- valid bytes has passed, and where they end.
-- Assumes nothing: these are definitions. Only inner functions and loops cite it.
use Rattle.std.specs.Prelude.{ℕ, ◌+◌, ◌<◌, ◌≤◌, ◌≡◌, List, Option, Some, None, length, drop, get_or}
use Rattle.spec.specs.Utf8 as spec
use Rattle.utf8.specs.declared.leads.Lead.{Lead}

-- what an entry of the table says, in the definition's terms: n bytes follow, the first between low and high; where there is none, no character begins with the byte
unfoldable pub lead_of : Option Lead → spec.Lead
lead_of (Some lead) = spec.Follow lead.followers lead.lowest lead.highest
lead_of None = spec.NoLead

-- a table says of each byte what the definition's ranges say
pub record Leads (table : List (Option Lead)) : Type 0 where
  pub right : (b : ℕ) → b < 256 → lead_of (get_or table b None) ≡ spec.lead b

-- the n bytes from i on are ASCII
abbrev pub Low : ℕ → List ℕ → ℕ → Type 0
Low n s i = (k : ℕ) → k < n → get_or s (i + k) 0 < 128

-- from i up to r stand whole characters, so that what is valid in all is what is valid from r on, and these
pub record Passed (s : List ℕ) (i r : ℕ) : Type 0 where
  pub rises : i ≤ r
  pub within : r ≤ length s
  pub same : i + spec.valid_prefix (drop i s) ≡ r + spec.valid_prefix (drop r s)

-- what is valid from i on ends at r
abbrev pub Ends : List ℕ → ℕ → ℕ → Type 0
Ends s i r = r ≡ i + spec.valid_prefix (drop i s)
