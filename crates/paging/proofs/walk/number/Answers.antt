use Rattle.std.proofs.Common.{◌≡◌, ℕ, ◌+◌, ◌-◌, ◌^◌, ◌<◌, ◌≤◌, List, ◌++◌, length, take, drop, replicate, Option, ◌∙◌, arith}
use Rattle.std.proofs.lemmas.List.{length-append, length-take, length-drop, take-replicate, drop-replicate, replicate-append-replicate, append_assoc, length-replicate}
use Rattle.std.specs.Option.{option_map}
use Rattle.std.specs.Int.{w64, from_le_bytes}
use Rattle.spaces.specs.declared.fault.Fault.{Fault}
use Rattle.spaces.specs.Maps.{Map, raised, climbed}
use Rattle.spaces.specs.Reads.{span, got, most, room, Fills}
use Rattle.spaces.proofs.Spans.{got_raised}
use Rattle.endian.specs.Little.{little_endian}
use Rattle.endian.proofs.Zeros.{little_endian-zeros, from_le_bytes-eight}
use Rattle.paging.proofs.walk.number.Goals as goal

abbrev zeros : List ℕ
zeros = replicate 8 0

-- The first so many of eight zeros are filled.
module _ (m : Map) (at width : ℕ) (h : width ≤ 8) (k : at + width < 2 ^ 64) (front : List ℕ) (l : length front ≡ length (take width zeros)) (r : ℕ × Option Fault)
    (f : Fills (λ a. raised (m a)) at (take width zeros) front r) where
  -- so many bytes are read
  read : got (λ a. raised (m a)) (room at (take width zeros)) ≡ record { bytes = (got m (span at width)).bytes; fault = option_map climbed (got m (span at width)).fault }
  read = let all : most at (take width zeros) ≡ width = rw take-replicate (omega (arith, length-replicate {A = ℕ})) in rw all (got_raised m (span at width))

  -- and zeros follow them
  made : from_le_bytes w64 (front ++ drop width zeros) ≡ little_endian (got m (span at width)).bytes
  made =
      let rest : front ++ drop width zeros ≡ (got m (span at width)).bytes ++ replicate (width - r.0 + (8 - width)) 0 =
      rw (f.buffer, read, take-replicate, drop-replicate, drop-replicate, append_assoc, replicate-append-replicate) in
      from_le_bytes-eight (front ++ drop width zeros) (simp (length-append, l, length-take, length-drop) (omega arith)) ∙ rw rest (little_endian-zeros _ _)

pub returns-in_default-Some : goal.returns-in_default-Some
returns-in_default-Some g c = let all = read _ c.args.at c.args.width (omega arith) (omega arith) _ c.fill_below.auto.out _ c.fill_below.ensures in grind arith

pub returns-in_default-None : goal.returns-in_default-None
returns-in_default-None g c =
    let all = read _ c.args.at c.args.width (omega arith) (omega arith) _ c.fill_below.auto.out _ c.fill_below.ensures in
    let number = made _ c.args.at c.args.width (omega arith) (omega arith) _ c.fill_below.auto.out _ c.fill_below.ensures in
    grind arith
