use Rattle.std.specs.Prelude.{◌≡◌, ℕ, false, List, codes}
use Rattle.sessions.specs.States as states
use Rattle.sessions.specs.States.{State}
use Rattle.sessions.specs.Answers.{reply, after}
use Rattle.serving.specs.Serving.{fresh, gdb_service, all_served}
use Rattle.carts.specs.Worked.{sample}

-- A session over the sample cart.

-- as it is when it is new
abbrev pub start : State
start = states.fresh sample

-- what is sent for all that comes from GDB
abbrev pub sent : List ℕ → List ℕ
sent stream = (all_served (gdb_service false) (fresh sample) stream).sent

-- what a payload is replied, and what asking for the last fault is replied behind it
pub record Told (s : State) (payload told fault : List ℕ) : Type 0 where
  pub reply_is : reply s payload ≡ told
  pub fault_is : reply (after s payload) (codes "qaisle.fault") ≡ fault

pub record SittingExamples : Type 0 where
  pub no_fault_yet : reply start (codes "qaisle.fault") ≡ codes "none"
  pub next_page : Told start (codes "mffc,8") (codes "41424344") (codes "01,0000000000001000,11")
  pub no_byte : Told start (codes "m0,4") (codes "E01") (codes "03,0000000000005000,01")
  pub no_entry : Told start (codes "m200000,1") (codes "E01") (codes "03,0000000000003008,01")
  pub unlawful : Told start (codes "m800000000000,1") (codes "E04") (codes "01,0000800000000000,04")
  -- four packets: a read, the edit depth, a patch of the page table, and a read of what it leads to
  pub stream : sent (codes "$mffc,8#00$Qaisle.depth:02#3e$M4008,2:0350#79$m1ffc,4#2d") ≡ codes "+$41424344#9a+$OK#9a+$OK#9a+$41424344#9a"
