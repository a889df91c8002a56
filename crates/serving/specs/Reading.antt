use Rattle.std.specs.Prelude.{◌≡◌, Bool, false, List, ℕ, ◌++◌, [], Option}
use Rattle.std.specs.Io.KnownBytes.{Appends, Consumes, IsAtEnd}
use Rattle.sessions.specs.Services.{Service}
use Rattle.serving.specs.Serving.{Served, all_served}
use Rattle.serving.specs.Words.{InPart}

-- a piece of the input stands behind the bytes that were pending, and whether there was one; there is none only at its end
pub record Reads (old new : Option (List ℕ)) (before after : List ℕ) (some : Bool) : Type 0 where
  pub piece : List ℕ
  pub consumes : Consumes old new piece
  pub pending : after ≡ before ++ piece
  pub none : some ≡ false → (piece ≡ []) × IsAtEnd new

module _ {S : Type 0} (service : Service S) where
  -- what was read is served, but for what is pending
  pub record ServedSoFar (v : Served S) (before after old new : Option (List ℕ)) (pending : List ℕ) (w : Served S) : Type 0 where
    pub stream : List ℕ
    pub read : Consumes before after stream
    pub sent : Appends old new (all_served service v stream).sent
    pub server : w ≡ (all_served service v stream).served
    pub left : pending ≡ (all_served service v stream).left

  -- all of the input is
  pub record ToTheEnd (v : Served S) (before after old new : Option (List ℕ)) (w : Served S) : Type 0 where
    pub stream : List ℕ
    pub read : Consumes before after stream
    pub end : IsAtEnd after
    pub sent : Appends old new (all_served service v stream).sent
    pub server : w ≡ (all_served service v stream).served

  -- some of the items in what was read are
  pub record InPartOf (v : Served S) (before after : Option (List ℕ)) (w : Served S) : Type 0 where
    pub stream : List ℕ
    pub read : Consumes before after stream
    pub in_part : InPart service v stream w
