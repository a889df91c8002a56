use Rattle.std.proofs.Common.{◌≡◌, ℕ, suc, ◌+◌, ◌≤◌, min, List, [], ◌∷◌, length, Err, inl, inr, arith}
use Rattle.spaces.specs.declared.fault.Fault.{Fault}
use Rattle.spaces.specs.Maps.{Map}
use Rattle.spaces.specs.Rules.{LawfulBase}
use Rattle.spaces.specs.Piles.{Layer, composed, LawfulLayers}
use Rattle.spaces.proofs.Overlaid.{layer_lawful}
use Rattle.spaces.specs.PileLaws.{Arose, EveryFaultAroseWhereItSays}

module _ (m : Map) where
  abbrev AroseIn : List Layer → Fault → Type 0
  AroseIn ls f = Arose (record { layers = ls; base = m }) f

  arose_in : (ls : List Layer) → LawfulLayers ls → LawfulBase m → length ls ≤ 255 → (a : ℕ) (f : Fault) → composed ls m a ≡ Err f → AroseIn ls f
  arose_in [] h base n a f e = let o = base a f e in grind arith
  arose_in (l ∷ ls) h base n a f e = elim ((layer_lawful l h.0).faults (composed ls m) a f e) [
    | inl o ↦ grind arith
    | inr c ↦
        let t = arose_in ls h.1 base (omega arith) c.0 c.1 c.3 in
        let e : min 255 (c.1.depth + 1) ≡ suc c.1.depth = omega arith in
        rw (c.4, e) (record { within = omega arith; there = t.there })
  ]

pub arose : EveryFaultAroseWhereItSays
arose p n a f e = arose_in p.pile.base p.pile.layers p.lawful.layers p.lawful.base (omega arith) a f e
