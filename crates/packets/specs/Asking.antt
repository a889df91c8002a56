use Rattle.std.specs.Prelude.{ℕ, ◌+◌, ◌*◌, ◌^◌, Bool, true, if◌then◌else◌, List, [], ◌∷◌, length, take, drop, codes, Some, None, Ok, Err, Option, Result, ◌==◌, nat_lt, is_some}
use Rattle.std.specs.List.{list_all}
use Rattle.std.specs.Str.{bytes_eq}
use Rattle.std.specs.Option.{option_and_then}
use Rattle.packets.specs.declared.command_refusal.CommandRefusal.{CommandRefusal}
use Rattle.packets.specs.declared.command_refusal.CommandRefusal.TheVariants.{BadForm, NoAddresses, WrongDigits, PastTheEnd}
use Prim.Native.Char.{code}
use Rattle.packets.specs.Digits.{digit, number, spelled}
use Rattle.packets.specs.Splits.{split_once}
use Rattle.packets.specs.Commands.{Asked, why_halted, read, write, registers, detach, thread, supported, depth, last_fault, unknown}

-- an address and a number of addresses, with a comma between
abbrev pub both : Option ℕ → Option ℕ → Option (ℕ × ℕ)
both None o = None
both (Some first) None = None
both (Some first) (Some count) = Some (first, count)

abbrev pub addresses : List ℕ → Option (ℕ × ℕ)
addresses text = option_and_then (λ p. both (number p.0) (number p.1)) (split_once (code ",") text)

-- the first that applies of no address, digits that are not two for each, and an end above 2 ^ 64 - 1
abbrev pub judged : ℕ → ℕ → Bool → Asked → Result Asked CommandRefusal
judged first count fits asked =
    if count == 0 then Err NoAddresses
    else if fits then (if nat_lt (2 ^ 64) (first + count) then Err PastTheEnd else Ok asked)
    else Err WrongDigits

-- what stands behind `m`, by its address and number
abbrev pub read_at : Option (ℕ × ℕ) → Result Asked CommandRefusal
read_at None = Err BadForm
read_at (Some (first, count)) = judged first count true (read first count)

abbrev pub read_of : List ℕ → Result Asked CommandRefusal
read_of text = read_at (addresses text)

-- what stands behind `M`, by its address and number before the colon and its digits behind it
abbrev pub all_digits : List ℕ → Bool
all_digits cs = list_all (λ c. is_some (digit c)) cs

abbrev pub write_at : Option (ℕ × ℕ) → List ℕ → Result Asked CommandRefusal
write_at None digits = Err BadForm
write_at (Some (first, count)) digits = if all_digits digits then judged first count (length digits == 2 * count) (write first digits) else Err BadForm

abbrev pub write_from : Option (List ℕ × List ℕ) → Result Asked CommandRefusal
write_from None = Err BadForm
write_from (Some (place, digits)) = write_at (addresses place) digits

abbrev pub write_of : List ℕ → Result Asked CommandRefusal
write_of text = write_from (split_once (code ":") text)

-- a depth in two digits
abbrev pub deep : Option ℕ → Result Asked CommandRefusal
deep None = Err BadForm
deep (Some d) = Ok (depth d)

abbrev pub deepened : List ℕ → Result Asked CommandRefusal
deepened digits = if length digits == 2 then deep (spelled 0 digits) else Err BadForm

-- names that begin with `q` or `Q`
abbrev pub begins : List ℕ → List ℕ → Bool
begins name payload = bytes_eq (take (length name) payload) name

abbrev pub query : List ℕ → Result Asked CommandRefusal
query payload =
    if bytes_eq payload (codes "qaisle.fault") then Ok last_fault
    else if begins (codes "qSupported") payload then Ok supported
    else Ok unknown

abbrev pub setting : List ℕ → Result Asked CommandRefusal
setting payload = if begins (codes "Qaisle.depth:") payload then deepened (drop 13 payload) else Ok unknown

-- a command that is a character alone; with more behind it, it is none
abbrev pub by_itself : Asked → List ℕ → Asked
by_itself asked [] = asked
by_itself asked (c ∷ cs) = unknown

-- what a payload asks for, by its first character and then by its name
abbrev pub named : ℕ → List ℕ → List ℕ → Result Asked CommandRefusal
named c rest payload =
    if c == code "?" then Ok (by_itself why_halted rest)
    else if c == code "m" then read_of rest
    else if c == code "M" then write_of rest
    else if c == code "g" then Ok (by_itself registers rest)
    else if c == code "D" then Ok (by_itself detach rest)
    else if c == code "H" then Ok thread
    else if c == code "q" then query payload
    else if c == code "Q" then setting payload
    else Ok unknown

abbrev pub asked : List ℕ → Result Asked CommandRefusal
asked [] = Ok unknown
asked (c ∷ rest) = named c rest (c ∷ rest)
