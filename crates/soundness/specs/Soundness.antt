-- When a page is sound: it keeps the eight rules. The rules take the limits that a page is judged under; the lock judges by those
-- of today.
use Rattle.std.specs.Prelude.{ℕ, Bool, cond, ◌&&◌, List, [], ◌∷◌, eqb, leb}
use Rattle.laws.specs.Tables.{first_broken}
use Rattle.kinds.specs.Limits.{Limits, today}
use Rattle.readers.specs.declared.Readers.{Readers}
use Rattle.readers.specs.Listed.{live}
use Rattle.page_record.specs.declared.{Head.Head, Page.Page}
use Rattle.page_record.specs.Pages.{head_of}
use Rattle.rules.specs.Rules.{storage_some_invariant, exc_state_invariants, writeback_state_invariants}
use Rattle.rules.specs.Rules.{loading_state_invariants, ref_count_invariant, flag_invariant, shared_storage_invariant}
use Rattle.rules.specs.Rules.{counts_under, limits_under}

-- how many rules there are: the code's RULES
abbrev pub rule_count : ℕ
rule_count = 8

-- ---- under any limits
-- the rules in their order
abbrev pub rules_under : Limits → Head → Readers → List Bool
rules_under limits h rs =
    storage_some_invariant h.storage h.exc_state h.loading_state
    ∷ exc_state_invariants h.exc_state h.storage h.loading_state h.writeback_state
    ∷ writeback_state_invariants h.writeback_state h.storage h.loading_state
    ∷ loading_state_invariants h.loading_state h.writeback_state
    ∷ ref_count_invariant h.ref_counts (live rs) h.exc_state h.loading_state
    ∷ flag_invariant h.flag h.exc_state h.loading_state h.writeback_state
    ∷ shared_storage_invariant h (live rs)
    ∷ limits_under limits h rs
    ∷ []

-- the lowest broken rule, 1 to 8; 0 where none is broken
abbrev pub lowest_under : Limits → Page → ℕ
lowest_under limits p = first_broken 1 (rules_under limits (head_of p) p.readers)

-- sound: none is broken
abbrev pub sound_under : Limits → Page → Bool
sound_under limits p = eqb (lowest_under limits p) 0

-- all that a page which is sound under higher limits is asked under these (`sound_between`, proofs/Under.antt): it lists no more readers,
-- and has no higher count
abbrev pub fits_under : Limits → Page → Bool
fits_under limits p = leb p.readers.len limits.readers && counts_under limits.count p.ref_counts

-- ---- under those of today
abbrev pub rules : Head → Readers → List Bool
rules = rules_under today

unfoldable pub lowest_broken : Page → ℕ
lowest_broken p = lowest_under today p

unfoldable pub sound_of : Page → Bool
sound_of p = sound_under today p

-- its number (RULES 7.1): 0 where sound, else 1
abbrev pub sound_number : Page → ℕ
sound_number p = cond (sound_of p) 0 1
