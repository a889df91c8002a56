use Rattle.std.specs.Prelude.{◌≡◌, ℕ, ◌+◌, ◌-◌, ◌*◌, ◌^◌, ◌<◌, ◌≤◌, min, cond, ◌||◌, Some, None, ◌==◌}
use Rattle.std.proofs.Common.{ap, arith, pow_mono}
use Rattle.std.proofs.lemmas.Nat.{pow_pos}
use Rattle.std.proofs.lemmas.Bool.{cond_both, eqb-true, eqb-false, and_parts}
use Rattle.paging.specs.declared.entry.Target.{Target}
use Rattle.paging.specs.Bits.{bit}
use Rattle.paging.specs.Formats.{Format, Alike, SoundTarget, SoundEntry, Sound}
use Rattle.paging.specs.Schemes.{page, table, present, large_at, two_level, pae, four_level}
use Rattle.paging.specs.Fields.{field_below, bits_below, field_alike, below_alike}

-- What the three schemes' entries share: where an entry of a level leads, by the bits that tell it.
module _ (p : Format) (l e : ℕ) where
  table_leads : (high : ℕ) → high ≤ 51 → 1 < l → SoundTarget p l (table high e)
  table_leads high h k = (bits_below high 12 52 e (omega arith) (omega arith), k)

  page_leads : (high low : ℕ) → high ≤ 51 → low ≤ 52 → Alike p l (2 ^ low) → SoundTarget p l (page high low e)
  page_leads high low h k t = (record { base = bits_below high low 52 e k (omega arith); some = pow_pos low; size = pow_mono k }, t)

  -- at one level a large page where bit 7 is set, and else what the rest leads to
  large_leads : (n high low : ℕ) (rest : Target) → high ≤ 51 → low ≤ 52 → (l ≡ n → Alike p l (2 ^ low)) → SoundTarget p l rest → SoundTarget p l (cond (large_at n l e) (page high low e) rest)
  large_leads n high low rest h k t r =
      cond_both (large_at n l e) (page high low e) rest (SoundTarget p l) (λ q. page_leads high low h k (t (eqb-true l n (and_parts (l == n) (bit 7 e) q).0))) (λ _. r)

  -- at level 1 a page of 4 KiB, and at each above it what the rest leads to
  entry_sound : (high : ℕ) (rest : Target) → 0 < l → high ≤ 51 → Alike p l (2 ^ 12) → (1 < l → SoundTarget p l rest) → SoundEntry p l (present e (cond (l == 1) (page high 12 e) rest))
  entry_sound high rest z h t r =
      cond_both (bit 0 e) (Some (record { target = cond (l == 1) (page high 12 e) rest })) None (SoundEntry p l)
      (λ _. cond_both (l == 1) (page high 12 e) rest (SoundTarget p l) (λ _. page_leads high 12 h (omega arith) t) (λ q. r (omega (arith, eqb-false l 1 q))))
      (λ _. tt)

-- each scheme's addresses of one page

two_alike : (l low : ℕ) → low ≤ 32 → low ≤ 10 * l + 2 → Alike two_level l (2 ^ low)
two_alike l low h t a b q = (below_alike low a b h q, λ k s. field_alike (10 * k + 11) (10 * k + 2) low a b (omega arith) q)

pae_alike : (l low : ℕ) → low ≤ 32 → low ≤ 9 * l + 3 → Alike pae l (2 ^ low)
pae_alike l low h t a b q = (below_alike low a b h q, λ k s. field_alike (min 31 (9 * k + 11)) (9 * k + 3) low a b (omega arith) q)

four_alike : (l low : ℕ) → low ≤ 47 → low ≤ 9 * l + 3 → Alike four_level l (2 ^ low)
four_alike l low h t a b q =
    (ap (λ (x : ℕ). (x == 0) || x == 2 ^ 17 - 1) (field_alike 63 47 low a b h q), λ k s. field_alike (9 * k + 11) (9 * k + 3) low a b (omega arith) q)

-- and what the walk needs of it

pub two_sound : Sound two_level
two_sound = record {
  some = omega arith;
  width = omega arith;
  root = λ c. bits_below 31 12 52 c (omega arith) (omega arith);
  index = λ l a. omega (arith, field_below (10 * l + 11) (10 * l + 2) 10 a (omega arith));
  entry = λ l e z _. entry_sound two_level l e 31 _ z (omega arith) (two_alike l 12 (omega arith) (omega arith))
      (λ n. large_leads two_level l e 2 31 22 _ (omega arith) (omega arith) (λ _. two_alike l 22 (omega arith) (omega arith))
      (table_leads two_level l e 31 (omega arith) n));
}

pub pae_sound : Sound pae
pae_sound = record {
  some = omega arith;
  width = omega arith;
  root = λ c. bits_below 31 5 52 c (omega arith) (omega arith);
  index = λ l a. omega (arith, field_below (min 31 (9 * l + 11)) (9 * l + 3) 9 a (omega arith));
  entry = λ l e z _. entry_sound pae l e 51 _ z (omega arith) (pae_alike l 12 (omega arith) (omega arith))
      (λ n. large_leads pae l e 2 51 21 _ (omega arith) (omega arith) (λ q. pae_alike l 21 (omega arith) (omega arith))
      (table_leads pae l e 51 (omega arith) n));
}

pub four_sound : Sound four_level
four_sound = record {
  some = omega arith;
  width = omega arith;
  root = λ c. bits_below 51 12 52 c (omega arith) (omega arith);
  index = λ l a. omega (arith, field_below (9 * l + 11) (9 * l + 3) 9 a (omega arith));
  entry = λ l e z _. entry_sound four_level l e 51 _ z (omega arith) (four_alike l 12 (omega arith) (omega arith))
      (λ n. large_leads four_level l e 2 51 21 _ (omega arith) (omega arith) (λ q. four_alike l 21 (omega arith) (omega arith))
      (large_leads four_level l e 3 51 30 _ (omega arith) (omega arith) (λ q. four_alike l 30 (omega arith) (omega arith))
      (table_leads four_level l e 51 (omega arith) n)));
}
