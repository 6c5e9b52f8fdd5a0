-- What a removal leaves, place by place and test by test, of an array of any filling.
use Rattle.std.specs.Prelude.{ℕ, ◌+◌, ◌-◌, ◌<◌, ◌≤◌, ◌≡◌, ◌≢◌, Bool, cond, get_or}
use Rattle.laws.specs.Lists.{tally}
use Rattle.kinds.specs.declared.Reader.{Reader}
use Rattle.readers.specs.declared.Readers.{Readers}
use Rattle.readers.specs.Listed.{live, blank_reader}

-- what stands at a place
abbrev pub entry : Readers → ℕ → Reader
entry rs place = get_or rs.items place blank_reader

-- the reader at `at` is gone
pub record GapFilled (rs : Readers) (at : ℕ) (left : Readers) : Type 0 where
  -- there is one less;
  pub one_less : left.len + 1 ≡ rs.len
  -- the gap, where it is below the new length, has the old last one,
  pub gap : at < left.len → entry left at ≡ entry rs (rs.len - 1)
  -- and each other place below the new length keeps its entry;
  pub others : (place : ℕ) → place < left.len → place ≢ at → entry left place ≡ entry rs place
  -- every test's tally falls by the one that is gone;
  pub tallies : (test : Reader → Bool) → tally test (live left) + cond (test (entry rs at)) 1 0 ≡ tally test (live rs)
  -- where the last one stood is a blank, and what lies past the length stays
  pub freed : entry left left.len ≡ blank_reader
  pub past : (place : ℕ) → rs.len ≤ place → entry left place ≡ entry rs place
