-- A page is a head, everything but the readers, and the readers. The fresh page (RULES 1.5).
use Rattle.std.specs.Prelude.{ℕ, Option, Some, None, List, get_or, replicate}
use Rattle.kinds.specs.declared.{Count.Count, Flag.Flag, ExcState.ExcState, LoadingState.LoadingState}
use Rattle.kinds.specs.Limits.{buckets}
use Rattle.readers.specs.declared.Readers.{Readers}
use Rattle.readers.specs.Listed.{no_readers}
use Rattle.page_record.specs.declared.{Head.Head, Page.Page}

-- a head of these parts, in the record's order
abbrev pub head_with : Option ℕ → Flag → List Count → ExcState → LoadingState → Option ℕ → Head
head_with s f cs e l w = record {
  storage = s;
  flag = f;
  ref_counts = cs;
  exc_state = e;
  loading_state = l;
  writeback_state = w;
}

-- the page without its readers
abbrev pub head_of : Page → Head
head_of p = record {
  storage = p.storage;
  flag = p.flag;
  ref_counts = p.ref_counts;
  exc_state = p.exc_state;
  loading_state = p.loading_state;
  writeback_state = p.writeback_state;
}

-- the page of a head and its readers
abbrev pub page_of : Head → Readers → Page
page_of h rs = record {
  storage = h.storage;
  flag = h.flag;
  ref_counts = h.ref_counts;
  readers = rs;
  exc_state = h.exc_state;
  loading_state = h.loading_state;
  writeback_state = h.writeback_state;
}

-- the count at a bucket
abbrev pub number_at : List Count → ℕ → ℕ
number_at cs b = (get_or cs b (record { 0 = 0 })).0

-- a page that nobody holds (the source's initialize, line 131)
unfoldable pub fresh_page : ℕ → Page
fresh_page value = record {
  storage = Some value;
  flag = Flag.Unmapped;
  ref_counts = replicate buckets (record { 0 = 0 });
  readers = no_readers;
  exc_state = ExcState.None;
  loading_state = LoadingState.None;
  writeback_state = None;
}
