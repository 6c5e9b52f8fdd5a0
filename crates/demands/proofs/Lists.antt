-- The table of lists, one computed test, and a list that closing the gap would leave in another order. Assumes nothing.
use lib.Dec.{T}
use Rattle.readers.specs.Listed.{no_readers, pushed, put_at, removed_at}
use Rattle.page_record.specs.Pages.{fresh_page}
use Rattle.soundness.specs.Soundness.{sound_of, lowest_broken}
use Rattle.requests.specs.Requests.{judged}
use Rattle.steps.specs.Decide.{decide_of, sought_of}
use Rattle.lock.specs.Step.{step_of, look_for, edited_in}
use Rattle.demands.specs.Cases.{all_hold}
use Rattle.demands.specs.Lists.{list_cases, orders_differ}

-- every row has the list that it says
pub lists_exact : T (all_hold list_cases)
unfolding step_of look_for edited_in judged decide_of sought_of sound_of lowest_broken no_readers pushed put_at removed_at fresh_page
lists_exact = tt

-- so `unseen` speaks of two orders
pub orders_differ_lem : T orders_differ
unfolding step_of look_for edited_in judged decide_of sought_of sound_of lowest_broken no_readers pushed put_at removed_at fresh_page
orders_differ_lem = tt
