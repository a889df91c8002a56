use Rattle.std.proofs.Common.{◌≡◌, ℕ, List, ◌++◌, IsErrAnd, Ok, Err, Result, refl, arith}
use Rattle.spaces.specs.declared.fault.Fault.{Fault}
use Rattle.spaces.specs.Maps.{Map}
use Rattle.spaces.specs.Walks.{Walk, give, fail, ask, after, walked, found}

-- what one walk finds, and another from there on
abbrev pub onward : {X Y : Type 0} → Result X Fault → (X → Result Y Fault) → Result Y Fault
onward (Ok v) k = k v
onward (Err f) k = Err f

-- what a walk finds and reads, after so much has been read
abbrev pub past : {X : Type 0} → List ℕ → Result X Fault × List ℕ → Result X Fault × List ℕ
past reads w = (w.0, reads ++ w.1)

-- what both walks find and read
abbrev pub further : {X Y : Type 0} → Result X Fault × List ℕ → (X → Result Y Fault × List ℕ) → Result Y Fault × List ℕ
further (Ok v, reads) k = past reads (k v)
further (Err f, reads) k = (Err f, reads)

pub walked_after : {X Y : Type 0} (a : ℕ) (w : Walk X) (k : X → Walk Y) (m : Map) → walked a (after w k) m ≡ further (walked a w m) (λ v. walked a (k v) m)
walked_after a (give v) k m = refl
walked_after a (fail c) k m = refl
walked_after a (ask x j) k m = let ih = λ (b : ℕ). walked_after a (j b) k m in grind (arith, ih)

module _ {X Y : Type 0} (a : ℕ) (w : Walk X) (k : X → Walk Y) (m : Map) where
  pub after_there : (v : X) (reads : List ℕ) → walked a w m ≡ (Ok v, reads) → walked a (after w k) m ≡ past reads (walked a (k v) m)
  after_there v reads e = grind (arith, walked_after a w k m)

  pub after_missing : (f : Fault) (reads : List ℕ) → walked a w m ≡ (Err f, reads) → walked a (after w k) m ≡ (Err f, reads)
  after_missing f reads e = grind (arith, walked_after a w k m)

-- what is found does not depend on what was read
pub found_after : {X Y : Type 0} (a : ℕ) (w : Walk X) (k : X → Walk Y) (m : Map) → found a (after w k) m ≡ onward (found a w m) (λ v. found a (k v) m)
found_after a w k m = grind (arith, walked_after a w k m)

-- what leaves by `?`
pub left_by : {X : Type 0} (r : Result X Fault) (f : Fault) → IsErrAnd r (λ g. g ≡ f) → r ≡ Err f
left_by r f h = grind arith
