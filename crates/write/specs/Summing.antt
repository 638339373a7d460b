-- What the size pass asks of the numbers that it goes over, and what it answers of them. A place counts numbers, `stride` to a record.
-- Assumes nothing: these are definitions. Only inner functions and loops cite it.
use Rattle.std.specs.Prelude.{ℕ, ◌+◌, ◌-◌, ◌*◌, ◌/◌, ◌≤◌, ◌<◌, ◌≡◌, ◌≢◌, Bool, true, List, length, take, get_or}
use Rattle.spec.specs.Base.{limit}
use Rattle.spec.specs.Names.{message_kind, packed_head, kind_column, record_kinds}
use Rattle.spec.specs.Kind.{wires, shape, is_scalar}
use Rattle.spec.specs.Record.{Record, stride, records_from}
use Rattle.spec.proofs.ListLaws.{Low}
use Rattle.spec.proofs.SizeLaws.{size_in}
use Rattle.spec.proofs.RunLaws.{front, Row, Sane}
use Rattle.sizes.specs.SizeParts.{capped}

-- the records from a place on that are the run at depth d
abbrev pub run_from : ℕ → List ℕ → ℕ → List Record
run_from d list at = front d (records_from list at)

-- the most numbers of a list whose size is within the limit: each record takes at least a byte
abbrev pub most_numbers : ℕ
most_numbers = stride * limit

-- A record adds less than 2,400,000,000 to a size: a content that is cut off above the limit, with its length and its tag, is far from it.
-- This is the share of each of its numbers, rounded down.
abbrev pub per_number : ℕ
per_number = 2400000000 / stride

-- The run at depth d from a place on ends at the place `at`, and `size` is its size as far as the limit goes. Each record adds so little that no sum wraps.
pub record Summed (tags : Bool) (list : List ℕ) (from d at size : ℕ) : Type 0 where
  pub place : at ≡ from + stride * length (run_from d list from)
  pub inside : at ≤ length list
  pub exact : capped size ≡ capped (size_in tags (run_from d list from))
  pub bound : size ≤ per_number * (at - from)

-- a table of wire types, and a list that is short enough
pub record Lent (table list : List ℕ) : Type 0 where
  pub types : table ≡ take record_kinds wires
  pub few : length list ≤ most_numbers

-- what is asked for a run of records
pub record Run (table list : List ℕ) (from d : ℕ) : Type 0 where
  pub lent : Lent table list
  pub inside : from ≤ length list
  pub sane : Sane (records_from list from)
  pub low : Low (d + 1) (records_from list from)

-- for the values of a packed field, of which there is one at least
pub record Elements (table list : List ℕ) (from d : ℕ) : Type 0 where
  pub lent : Lent table list
  pub inside : from < length list
  pub sane : Sane (records_from list from)
  pub scalar : is_scalar (shape (get_or list (from + kind_column) 0)) ≡ true
  pub m : ℕ
  pub values : Row d m (get_or list (from + kind_column) 0) (records_from list from)

-- and for what lies below a head of this kind
pub record Below (table list : List ℕ) (from d kind : ℕ) : Type 0 where
  pub message : kind ≡ message_kind → Run table list from d
  pub packed : kind ≢ message_kind → (kind ≡ packed_head) × Elements table list from d
