use Rattle.std.specs.Prelude.{ℕ, ◌≤◌, min, max, Bool, ◌&&◌, nat_le}

-- the addresses from `first` to `last`, both included: none where `first` lies above `last`
pub record Bounds : Type 0 where
  pub first : ℕ
  pub last : ℕ

-- the address lies in the range
pub record Contains (x : Bounds) (a : ℕ) : Type 0 where
  pub from : x.first ≤ a
  pub upto : a ≤ x.last

-- some address lies in both ranges
pub record Overlap (x y : Bounds) : Type 0 where
  pub address : ℕ
  pub one : Contains x address
  pub other : Contains y address

-- `Contains` as a test
abbrev pub contains : Bounds → ℕ → Bool
contains x a = nat_le x.first a && nat_le a x.last

-- `Overlap` as a test: from the greater of the first addresses to the lesser of the last ones there is an address
abbrev pub overlaps : Bounds → Bounds → Bool
overlaps x y = nat_le (max x.first y.first) (min x.last y.last)
