use Rattle.std.specs.Prelude.{◌≡◌, ℕ, ◌+◌, ◌^◌, Bool, true, false, List, [], ◌∷◌, Ok, Err, nat_lt, refl}
use Rattle.std.proofs.Common.{inr}
use mathlib.Core.List.{Memᴰ}
use Rattle.spaces.specs.declared.fault.Fault.{Fault}
use Rattle.spaces.specs.Maps.{Answer, Map, climbed, raised}
use Rattle.spaces.specs.Rules.{Rule, Agree, Climbs, LawfulRule}

-- from the answer at an address: a byte stands, and after a fault the further address is tried if there is one
abbrev pub tried : Answer → Bool → Answer → ℕ → ℕ → Answer × List ℕ
tried (Ok b) there w a further = (Ok b, a ∷ [])
tried (Err f) true w a further = (raised w, a ∷ (further ∷ []))
tried (Err f) false w a further = (Err (climbed f), a ∷ [])

abbrev pub spare : ℕ → Rule
spare n m a = tried (m a) (nat_lt (a + n) (2 ^ 64)) (m (a + n)) a (a + n)

-- its laws

raised_from : (w : Answer) (f : Fault) → raised w ≡ Err f → (g : Fault) × (w ≡ Err g) × (f ≡ climbed g)
raised_from (Ok b) f e = cc
raised_from (Err g) f e = (g, refl, cc)

pub spare_lawful : (n : ℕ) → LawfulRule (spare n)
spare_lawful n = record {
  footing = λ m o a h. rw (← h a (tries_first m a (a + n) (m a) (nat_lt (a + n) (2 ^ 64)))) (tried_footing m a (a + n) o (m a) (nat_lt (a + n) (2 ^ 64)) h);
  faults = λ m a f e. inr (tried_faults m a (a + n) (m a) refl (nat_lt (a + n) (2 ^ 64)) f e);
}
  where
    tries_first : (m : Map) (a further : ℕ) (v : Answer) (there : Bool) → Memᴰ a (tried v there (m further) a further).1
    tries_first m a further (Ok b) there = Memᴰ.head refl
    tries_first m a further (Err f) true = Memᴰ.head refl
    tries_first m a further (Err f) false = Memᴰ.head refl

    tried_footing : (m : Map) (a further : ℕ) (o : Map) (v : Answer) (there : Bool) → Agree (tried v there (m further) a further).1 m o → tried v there (m further) a further ≡ tried v there (o further) a further
    tried_footing m a further o (Ok b) there h = refl
    tried_footing m a further o (Err f) true h = rw (h further (Memᴰ.tail (Memᴰ.head refl)))
    tried_footing m a further o (Err f) false h = refl

    tried_faults : (m : Map) (a further : ℕ) (v : Answer) → m a ≡ v → (there : Bool) (f : Fault) → (tried v there (m further) a further).0 ≡ Err f → Climbs m (tried v there (m further) a further).1 f
    tried_faults m a further (Ok b) q there f e = cc
    tried_faults m a further (Err g) q true f e = let t = raised_from (m further) f e in (further, t.0, Memᴰ.tail (Memᴰ.head refl), t.1, t.2)
    tried_faults m a further (Err g) q false f e = (a, g, Memᴰ.head refl, q, cc)
