use Rattle.std.specs.Prelude.{◌≡◌, ℕ, ◌+◌, ◌≤◌, List, take, length, Ok, Err, IsOk, Result, MatchResult}
use Rattle.packets.specs.Asking.{asked}
use Rattle.packets.specs.Commands.{Asked, read, write}
use Rattle.packets.specs.Digits.{paired}
use Rattle.sessions.specs.declared.refusal.PayloadRefusal.{PayloadRefusal}
use Rattle.sessions.specs.States.{State}
use Rattle.sessions.specs.Answers.{told, told_by, text_of, after_asked, after}

-- a buffer for the longest text begins with this text
pub record Begins (words buffer : List ℕ) (n : ℕ) : Type 0 where
  pub how_many : n ≡ length words
  pub fits : n ≤ 4096
  pub front : take n buffer ≡ words

-- it begins with what is told, or that is a refusal
abbrev pub BeginsUnlessRefused : Result (List ℕ) PayloadRefusal → List ℕ → Result ℕ PayloadRefusal → Type 0
BeginsUnlessRefused told buffer r = MatchResult r (λ n. IsOk told × Begins (text_of told) buffer n) (λ refusal. told ≡ Err refusal)

-- what a command asks for is done: the buffer begins with the reply, or the command is refused, and the session is as after it
pub record CarriesOut (s : State) (asked : Asked) (t : State) (buffer : List ℕ) (r : Result ℕ PayloadRefusal) : Type 0 where
  pub text : BeginsUnlessRefused (told s asked) buffer r
  pub session : t ≡ after_asked s (Ok asked)

-- the same of a payload
pub record Replies (s : State) (payload : List ℕ) (t : State) (buffer : List ℕ) (r : Result ℕ PayloadRefusal) : Type 0 where
  pub text : BeginsUnlessRefused (told_by s (asked payload)) buffer r
  pub session : t ≡ after s payload

-- the address behind the last one that a command is for
abbrev pub end_of : Asked → ℕ
end_of (read first count) = first + count
end_of (write first digits) = first + length (paired digits)
end_of other = 0
