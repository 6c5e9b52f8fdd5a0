-- A head with one part exchanged: antt has no record update. A transition then reads as in the source.
use Rattle.std.specs.Prelude.{ℕ, Option, Some, None, ◌+◌, ◌-◌, List, set}
use Rattle.kinds.specs.declared.{Count.Count, Flag.Flag, ExcState.ExcState, LoadingState.LoadingState}
use Rattle.kinds.specs.declared.Bucket.{Bucket}
use Rattle.page_record.specs.declared.Head.{Head}
use Rattle.page_record.specs.Pages.{number_at, head_with}

abbrev pub with_storage : Option ℕ → Head → Head
with_storage s h = head_with s h.flag h.ref_counts h.exc_state h.loading_state h.writeback_state

abbrev pub with_flag : Flag → Head → Head
with_flag f h = head_with h.storage f h.ref_counts h.exc_state h.loading_state h.writeback_state

abbrev pub with_counts : List Count → Head → Head
with_counts cs h = head_with h.storage h.flag cs h.exc_state h.loading_state h.writeback_state

abbrev pub with_exc : ExcState → Head → Head
with_exc e h = head_with h.storage h.flag h.ref_counts e h.loading_state h.writeback_state

abbrev pub with_loading : LoadingState → Head → Head
with_loading l h = head_with h.storage h.flag h.ref_counts h.exc_state l h.writeback_state

abbrev pub with_writeback : Option ℕ → Head → Head
with_writeback w h = head_with h.storage h.flag h.ref_counts h.exc_state h.loading_state w

-- the counts with this number at a bucket
abbrev pub with_number : ℕ → ℕ → List Count → List Count
with_number b n cs = set cs b (record { 0 = n })

-- one more, or one less, at a bucket
abbrev pub raise : ℕ → List Count → List Count
raise b cs = with_number b (number_at cs b + 1) cs

abbrev pub lower : ℕ → List Count → List Count
lower b cs = with_number b (number_at cs b - 1) cs

abbrev pub raised : ℕ → Head → Head
raised b h = with_counts (raise b h.ref_counts) h

abbrev pub lowered : ℕ → Head → Head
lowered b h = with_counts (lower b h.ref_counts) h

-- one less at a holder's bucket, if it has one
abbrev pub lower_if : Option Bucket → List Count → List Count
lower_if None cs = cs
lower_if (Some b) cs = lower b.0 cs

abbrev pub lowered_if : Option Bucket → Head → Head
lowered_if own h = with_counts (lower_if own h.ref_counts) h
