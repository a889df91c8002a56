use Rattle.std.specs.Prelude.{ℕ, ◌-◌, ◌^◌, List, [], false}
use Rattle.std.specs.Fmt.{digits, padded_integral, format_spec}

-- How numbers are written.

-- a number in lower-case hex digits, with zeros in front up to a width
abbrev pub hex : ℕ → ℕ → List ℕ
hex width n = padded_integral (format_spec 32 0 4 width (2 ^ 64 - 1)) false [] (digits 16 false n)

-- the number of a cause or a refusal: two digits
abbrev pub number_text : ℕ → List ℕ
number_text n = hex 2 n
