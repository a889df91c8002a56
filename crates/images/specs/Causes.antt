use Rattle.std.specs.Prelude.{ℕ, Ok, Err, Result}
use Rattle.images.specs.declared.cause.ImageCause.{ImageCause}
use Rattle.images.specs.declared.cause.ImageCause.TheVariants.{NoExtent, NotStored}

-- the number of each cause
abbrev pub image_cause_number : ImageCause → ℕ
image_cause_number NoExtent = 0x01
image_cause_number NotStored = 0x02

-- a byte or a cause, by the cause's number
abbrev pub numbered : Result ℕ ImageCause → Result ℕ ℕ
numbered (Ok b) = Ok b
numbered (Err cause) = Err (image_cause_number cause)
