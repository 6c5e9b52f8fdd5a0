-- What an entry of the table says: demanded of every entry alike, whatever stands in the rows.
use Rattle.std.specs.Prelude.{ℕ, ◌≡◌, T}
use Rattle.kinds.specs.declared.Flag.{Flag}
use Rattle.kinds.specs.Numbers.{flag_number}
use Rattle.page_record.specs.declared.Page.{Page}
use Rattle.soundness.specs.Soundness.{sound_of}
use Rattle.requests.specs.declared.Request.{Request}
use Rattle.requests.specs.Answers.{answer_number}
use Rattle.lock.specs.Step.{step_of}
use Rattle.table.specs.Table.{step_in, clean_in, never}

-- a request of a column
pub record Asks (c : ℕ) (q : Request) : Type 0 where
  pub step : q.step ≡ step_in c
  pub clean : q.clean ≡ clean_in c

-- a sound page with this flag accepts a request of this column
pub record Takes (f : Flag) (c : ℕ) (p : Page) (q : Request) : Type 0 where
  pub sound : T (sound_of p)
  pub flag : p.flag ≡ f
  pub asks : Asks c q
  pub accepted : answer_number (step_of p q).answer ≡ 0

-- n is what the table should have for this flag and column
pub data Entry (f : Flag) (c n : ℕ) : Type 0 where
  -- never: none does
  none : (is_never : n ≡ never)
      (takes_none : (p : Page) (q : Request) → Takes f c p q → ⊥)
      → Entry f c n
  -- a flag: some page does, and each that does has that flag afterwards
  some : (g : Flag) (p : Page) (q : Request)
      (is_flag : n ≡ flag_number g)
      (takes : Takes f c p q)
      (follows : (p : Page) (q : Request) → Takes f c p q → (step_of p q).page.flag ≡ g)
      → Entry f c n
