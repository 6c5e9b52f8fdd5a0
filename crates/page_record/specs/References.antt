-- The references at a bucket, by the source's functions: the readers listed there, and the holders that have that bucket.
use Rattle.std.specs.Prelude.{ℕ, Option, Some, None, ◌+◌, cond, List, eqb}
use Rattle.kinds.specs.declared.{Reader.Reader, ExcState.ExcState, LoadingState.LoadingState}
use Rattle.kinds.specs.declared.Bucket.{Bucket}
use Rattle.readers.specs.Listed.{count_at}
use Rattle.page_record.specs.Holders.{exc_bucket, loading_bucket}

-- 1 where it is just this bucket, else 0
abbrev pub ref_at : Option Bucket → ℕ → ℕ
ref_at None b = 0
ref_at (Some bucket) b = cond (eqb bucket.0 b) 1 0

-- count_shared_refs, line 517: a filter's length is a count over the list
abbrev pub count_shared_refs : List Reader → ℕ → ℕ
count_shared_refs l b = count_at b l

-- count_exc_refs, line 521
abbrev pub count_exc_refs : ExcState → ℕ → ℕ
count_exc_refs e b = ref_at (exc_bucket e) b

-- count_loading_refs, line 528
abbrev pub count_loading_refs : LoadingState → ℕ → ℕ
count_loading_refs l b = ref_at (loading_bucket l) b

-- count_all_refs, line 536
abbrev pub count_all_refs : List Reader → ExcState → LoadingState → ℕ → ℕ
count_all_refs readers e l b = count_shared_refs readers b + count_exc_refs e b + count_loading_refs l b
