-- What soundness says, as named facts of a head and the list of its readers: what proofs use. proofs/Tested.antt shows that
-- the test `sound_of` and these facts are the same.
use Rattle.std.specs.Prelude.{Option}
use Prim.Native.Nat.{ℕ, ◌≤◌, ◌<◌}
use mathlib.Core.Path.{◌≡◌}
use mathlib.Core.Bool.{Bool, ◌&&◌}
use mathlib.Core.List.{List}
use lib.Dec.{T}
use lib.ListN.{length}
use Rattle.laws.specs.Lists.{every}
use Rattle.kinds.specs.declared.{Flag.Flag, Reader.Reader, ExcState.ExcState}
use Rattle.kinds.specs.declared.LoadingState.{LoadingState}
use Rattle.kinds.specs.Limits.{buckets, capacity, ceiling}
use Rattle.readers.specs.Listed.{live, listed}
use Rattle.page_record.specs.declared.{Head.Head, Page.Page}
use Rattle.page_record.specs.Pages.{head_of, number_at}
use Rattle.page_record.specs.References.{count_all_refs}
use Rattle.rules.specs.Rules.{storage_some_invariant, exc_state_invariants, writeback_state_invariants}
use Rattle.rules.specs.Rules.{loading_state_invariants, flag_invariant, shared_state_valid}

-- the rules that speak of the head alone, 1 to 4 and 6; the flag's comes first, so that what it rules out computes away
abbrev pub head_rules : Option ℕ → Flag → ExcState → LoadingState → Option ℕ → Bool
head_rules s f e l w =
    flag_invariant f e l w
    && storage_some_invariant s e l
    && exc_state_invariants e s l w
    && writeback_state_invariants w s l
    && loading_state_invariants l w

abbrev pub head_sound : Head → Bool
head_sound h = head_rules h.storage h.flag h.exc_state h.loading_state h.writeback_state

-- a head and the list of its readers
pub record Sound (h : Head) (l : List Reader) : Type 0 where
  -- rules 1 to 4 and 6
  pub head : T (head_sound h)
  -- rule 5
  pub four : length h.ref_counts ≡ buckets
  pub counts : (b : ℕ) → b < buckets → number_at h.ref_counts b ≡ count_all_refs l h.exc_state h.loading_state b
  -- rule 7
  pub readers : T (every (shared_state_valid h) l)
  -- rule 8
  pub few : (b : ℕ) → number_at h.ref_counts b ≤ ceiling
  pub room : length l ≤ capacity

-- a page: its readers are a list, blank past it, and head and list are sound
pub record SoundPage (p : Page) : Type 0 where
  pub parts : Sound (head_of p) (live p.readers)
  pub neat : p.readers ≡ listed (live p.readers)
