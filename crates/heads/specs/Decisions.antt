-- A step as a list of premises, what it answers where all hold, and what it leaves: of the head, and by its edit of the list of
-- readers. What is decided of a head: the step, or the refusal of its first premise that fails.
use Rattle.std.specs.Prelude.{ℕ, Option, Some, None, Result, Ok, Err, Bool, true, false, not, ◌||◌, List, eqb, ltb}
use Rattle.kinds.specs.declared.{Bucket.Bucket, Phase.Phase, Reader.Reader}
use Rattle.kinds.specs.Limits.{ceiling}
use Rattle.page_record.specs.declared.Head.{Head}
use Rattle.page_record.specs.Pages.{number_at}
use Rattle.requests.specs.declared.{Refusal.Refusal, Answer.Answer}
use Rattle.requests.specs.Premises.{verdict}
use Rattle.heads.specs.declared.{Edit.Edit, Decision.Decision}

pub record Step : Type 0 where
  pub premises : List (Refusal × Bool)
  pub answer : Answer
  pub head : Head
  pub edit : Edit

-- accepted: what it leaves of the head, and its edit
abbrev pub accepts : List (Refusal × Bool) → Head → Edit → Step
accepts premises h edit = record { premises = premises; answer = Answer.Accepted; head = h; edit = edit }

-- accepted, and this value is handed out
abbrev pub hands_out : List (Refusal × Bool) → Head → ℕ → Step
hands_out premises h value = record { premises = premises; answer = Answer.Withdrew value; head = h; edit = Edit.Keep }

-- ---- what its parts are made of
abbrev pub is_found : Option ℕ → Bool
is_found (Some place) = true
is_found None = false

abbrev pub place_of : Option ℕ → ℕ
place_of (Some place) = place
place_of None = 0

abbrev pub reader : Phase → Bucket → Reader
reader phase bucket = record { phase = phase; bucket = bucket }

-- the count at a bucket is below the ceiling
abbrev pub under : Head → ℕ → Bool
under h b = ltb (number_at h.ref_counts b) ceiling

-- a holder that keeps this value may put that one in: if it is clean, no other than the one that it keeps
abbrev pub may_put_in : Bool → ℕ → ℕ → Bool
may_put_in clean kept value = not clean || eqb value kept

-- ---- what is decided
-- a refusal changes nothing
abbrev pub refused : Head → Refusal → Decision
refused h why = record { answer = Answer.Refused why; head = h; edit = Edit.Keep }

-- what a verdict makes of a step
abbrev pub settled : Head → Step → Result (Unit {0}) Refusal → Decision
settled h st (Ok _) = record { answer = st.answer; head = st.head; edit = st.edit }
settled h st (Err why) = refused h why

abbrev pub decided : Head → Step → Decision
decided h st = settled h st (verdict st.premises)

-- the same, where a refusal is its reason alone: what it leaves is what was there
abbrev pub allowed : Step → Result (Unit {0}) Refusal → Result Decision Refusal
allowed st (Ok _) = Ok (record { answer = st.answer; head = st.head; edit = st.edit })
allowed st (Err why) = Err why

abbrev pub granted : Step → Result Decision Refusal
granted st = allowed st (verdict st.premises)
