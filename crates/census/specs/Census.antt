-- The census: how many readers stand at each bucket in each phase, in the source's order.
use Rattle.std.specs.Prelude.{ℕ, cond, List, [], ◌∷◌, map}
use Rattle.kinds.specs.declared.{Count.Count, Reader.Reader}
use Rattle.readers.specs.Listed.{live, count_in}
use Rattle.page_record.specs.declared.Page.{Page}
use Rattle.rules.specs.Rules.{every_bucket}
use Rattle.soundness.specs.Soundness.{sound_of}

-- the readers at bucket b: Pending, Pending2, Obtained
abbrev pub census_row : List Reader → ℕ → List Count
census_row l b = record { 0 = count_in b 1 l } ∷ record { 0 = count_in b 2 l } ∷ record { 0 = count_in b 3 l } ∷ []

-- a row for each bucket
abbrev pub census_rows : List Reader → List (List Count)
census_rows l = map (census_row l) every_bucket

-- all zeros for a page that is not sound
unfoldable pub census_of : Page → List (List Count)
census_of p = cond (sound_of p) (census_rows (live p.readers)) (census_rows [])
