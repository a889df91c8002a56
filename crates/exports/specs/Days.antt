use Rattle.std.specs.Prelude.{◌≡◌, ◌⊎◌, ◌≤◌, ℕ, false, List, [], ◌++◌, length, take, Ok, Err, Option, Result}
use Rattle.std.specs.Io.KnownBytes.{Appends}
use Rattle.spaces.specs.Piles.{Pile}
use Rattle.patchfiles.specs.declared.stopped.Stopped.{Stopped}
use Rattle.patchfiles.specs.Refusals.{patch_file_refusal_number}
use Rattle.patchfiles.specs.Files.{asked, answer_by, left_of}
use Rattle.sessions.specs.States.{State}
use Rattle.serving.specs.Serving.{Run, fresh, gdb_service, all_served}
use Rattle.exports.specs.declared.told.Told.{Told}
use Rattle.exports.specs.Tellings.{done, refused, broke_off}
use Rattle.exports.specs.Sending.{InFront}

-- A day with a pile: a stream is served over it, a patch file is applied to the pile that is left, and a second stream is served
-- over that by a new session.
module _ (p : Pile) (before file after : List ℕ) where
  abbrev pub first : Run State
  first = all_served (gdb_service false) (fresh p) before

  -- the pile to which the file is applied
  abbrev pub between : Pile
  between = first.served.session.pile

  -- what is answered to the file
  abbrev pub applied : Result ℕ Stopped
  applied = answer_by (asked file) between

  abbrev pub second : Run State
  second = all_served (gdb_service false) (fresh (left_of (asked file) between)) after

  -- all that is sent
  abbrev pub sent : List ℕ
  sent = first.sent ++ second.sent

  -- what is answered, and what an output holds before and after
  pub record IsServed (old new : Option (List ℕ)) (r : Result ℕ Stopped) : Type 0 where
    pub answer : r ≡ applied
    pub output : Appends old new sent

  -- the same with a buffer, and how many bytes in front of it are sent
  pub record IsSent (old new : List ℕ) (r : Result ℕ Stopped) (count : ℕ) : Type 0 where
    pub answer : r ≡ applied
    pub bytes : take count new ≡ sent
    pub fits : count ≤ length new
    pub same : length new ≡ length old

-- what is told of the file, and how many bytes were sent
abbrev pub told_by : Result ℕ Stopped → (count : ℕ) → Told
told_by (Ok records) count = done records count
told_by (Err stopped) count = refused (patch_file_refusal_number stopped.refusal) stopped.index count

-- What is told of a day, and the buffer before and after.
module _ (told : Told) (old new : List ℕ) where
  pub record Tells (p : Pile) (before file after : List ℕ) : Type 0 where
    pub is : told ≡ told_by (applied p before file after) (length (sent p before file after))
    pub buffer : InFront (sent p before file after) old new

  -- only this, and nothing is sent
  pub record TellsOnly (only : Told) : Type 0 where
    pub is : told ≡ only
    pub buffer : InFront [] old new

  -- the whole day, or that serving broke off
  abbrev pub TellsUnlessItBreaksOff : Pile → (before file after : List ℕ) → Type 0
  TellsUnlessItBreaksOff p before file after = Tells p before file after ⊎ TellsOnly broke_off
