use Rattle.std.specs.Prelude.{ℕ, ◌+◌, if◌then◌else◌, List, [], ◌∷◌, length, Some, None, Option, ◌==◌}
use Prim.Native.Char.{code}
use Rattle.packets.specs.Digits.{spelled}
use Rattle.packets.specs.Splits.{split_once}
use Rattle.packets.specs.Frames.{checksum, has_frame}
use Rattle.packets.specs.Items.{Heard, unfinished, resend, ignored, wrong_sum, no_end, packet}

-- a whole frame, by its payload and the sum that its digits spell
abbrev pub weighed : List ℕ → Option ℕ → Heard
weighed payload None = wrong_sum (length payload + 4)
weighed payload (Some sum) = if sum == checksum payload then packet payload else wrong_sum (length payload + 4)

-- a frame, by its payload and what there is behind its `#`
abbrev pub closed : List ℕ → List ℕ → Heard
closed payload [] = unfinished
closed payload (c ∷ []) = unfinished
closed payload (high ∷ low ∷ rest) = weighed payload (spelled 0 (high ∷ low ∷ []))

-- a frame, by what there is behind its `$`, and the same split at its first `#`
abbrev pub parted : List ℕ → Option (List ℕ × List ℕ) → Heard
parted bytes None = if has_frame bytes then unfinished else no_end
parted bytes (Some (payload, rest)) = if has_frame payload then closed payload rest else no_end

abbrev pub opened : List ℕ → Heard
opened bytes = parted bytes (split_once (code "#") bytes)

-- what is heard first in the bytes received
abbrev pub heard : List ℕ → Heard
heard [] = unfinished
heard (c ∷ bytes) = if c == code "$" then opened bytes else if c == code "-" then resend else ignored
