-- What acceptance is, line by line (demand 2): with the numbers that are answered where a line doesn't hold.
use Rattle.std.specs.Prelude.{◌≡◌, Option, Ok, ℕ, T}
use Rattle.readers.specs.Listed.{live, listed}
use Rattle.page_record.specs.declared.Page.{Page}
use Rattle.soundness.specs.Soundness.{sound_of}
use Rattle.requests.specs.declared.Request.{Request}
use Rattle.requests.specs.Requests.{judged}
use Rattle.lock.specs.Moves.{Moves, Room, state_of}

-- the array is the one that holds its list, blank past it: the relation speaks of the list, and rule 8 settles the array
abbrev pub Neat : Page → Type 0
Neat p = p.readers ≡ listed (live p.readers)

-- a request on a page may lead to this page, and hand this out
pub record Allowed (p : Page) (q : Request) (p' : Page) (out : Option ℕ) : Type 0 where
  -- 1
  pub sound : T (sound_of p)
  -- 2 to 4
  pub well_formed : judged q ≡ Ok tt
  -- 5 to 9 and 17: the source's transition, or one of ours
  pub moves : Moves (state_of p) q (state_of p') out
  -- 10 and 11
  pub room : Room (state_of p) q
  -- the page after is settled by its list
  pub neat : Neat p'
