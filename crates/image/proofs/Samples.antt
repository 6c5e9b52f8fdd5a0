-- The samples, one computed test over the three tables. Assumes nothing.
use lib.Dec.{T}
use Rattle.kinds.specs.Numbers.{flag_from, storage_from, bucket_from, phase_from, exc_from, loading_from, writeback_from}
use Rattle.readers.specs.Listed.{no_readers}
use Rattle.page_record.specs.Pages.{fresh_page}
use Rattle.soundness.specs.Soundness.{sound_of, lowest_broken}
use Rattle.wire.specs.Bytes.{line_with}
use Rattle.encoding.specs.Images.{kind_bytes, count_bytes, value_bytes, entries, image_of}
use Rattle.decoding.specs.Decoding.{u64_at, exc_from_bytes, head_from, reader_from, readers_from, page_from}
use Rattle.image.specs.Keeping.{known_size, limits_by, is_image, read_verdict, restored_from, kept_answer}
use Rattle.image.specs.Samples.{shown}

pub samples_shown : T shown
unfolding image_of kind_bytes count_bytes value_bytes entries line_with page_from head_from exc_from_bytes u64_at reader_from readers_from known_size limits_by
    is_image read_verdict restored_from kept_answer flag_from storage_from bucket_from phase_from exc_from loading_from writeback_from sound_of lowest_broken no_readers
    fresh_page
samples_shown = tt
