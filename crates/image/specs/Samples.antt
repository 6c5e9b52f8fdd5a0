-- Pages, and the bytes of their images: a fresh one, each kind of holder, some with a bucket and some without, and a reader of each phase. The bytes
-- are those of short images, and zeros make them images of today's length: for two that is computed too, for all it is proved
-- (`image_longer`). And bytes that are read, and pages that are written, with their numbers. That it is so is computed (proofs/Samples.antt).
use Rattle.std.specs.Prelude.{ℕ, Option, Some, None, zero, suc, ◌+◌, ◌-◌, ◌/◌, ◌%◌, Bool, true, false, cond, ◌&&◌, List, [], ◌∷◌, ◌++◌, eqb, length, drop, replicate}
use Rattle.laws.specs.Lists.{every}
use Rattle.kinds.specs.declared.{Count.Count, Flag.Flag, Phase.Phase}
use Rattle.kinds.specs.declared.{ExcState.ExcState, LoadingState.LoadingState}
use Rattle.kinds.specs.declared.Bucket.{Bucket}
use Rattle.kinds.specs.Limits.{buckets, capacity, ceiling, short_capacity, short_ceiling, short}
use Rattle.readers.specs.Listed.{listed}
use Rattle.page_record.specs.declared.Page.{Page}
use Rattle.page_record.specs.Pages.{head_with, page_of, fresh_page}
use Rattle.soundness.specs.Soundness.{sound_under, sound_of}
use Rattle.requests.specs.Answers.{answer_number}
use Rattle.encoding.specs.Images.{whole_size, short_size, short_by, image_of, lengthened}
use Rattle.image.specs.Keeping.{same_bytes, restored_from, kept_answer}

-- ---- images
pub record Sample : Type 0 where
  pub page : Page
  pub bytes : List ℕ

-- bytes, and zeros up to the length of a short image
abbrev pub padded : List ℕ → List ℕ
padded l = l ++ replicate (short_size - length l) 0

abbrev none : Option Bucket
none = None

abbrev at : ℕ → Option Bucket
at b = Some (record { 0 = b })

abbrev counts : ℕ → ℕ → ℕ → ℕ → List Count
counts a b c d = record { 0 = a } ∷ record { 0 = b } ∷ record { 0 = c } ∷ record { 0 = d } ∷ []

-- a value whose bytes are 1 to 8, and these
abbrev pub value : ℕ
value = 0x0807060504030201

abbrev v8 : List ℕ
v8 = 1 ∷ 2 ∷ 3 ∷ 4 ∷ 5 ∷ 6 ∷ 7 ∷ 8 ∷ []

abbrev z8 : List ℕ
z8 = replicate 8 0

-- a page that nobody reads
abbrev page : Option ℕ → Flag → List Count → ExcState → LoadingState → Option ℕ → Page
page s f cs e l w = page_of (head_with s f cs e l w) (listed [])

abbrev fresh : Sample
fresh = record { page = fresh_page 0; bytes = padded (0 ∷ 1 ∷ []) }

-- Claim at 2; a reader of each phase, at 0, 1 and 3
abbrev pub claim : Sample
claim = record {
  page =
      page_of (head_with (Some value) Flag.Claimed (counts 1 1 1 1) (ExcState.Claim (at 2) value) LoadingState.None None)
      (listed (
      record { phase = Phase.Pending; bucket = record { 0 = 0 } }
      ∷ record { phase = Phase.Pending2; bucket = record { 0 = 1 } }
      ∷ record { phase = Phase.Obtained value; bucket = record { 0 = 3 } }
      ∷ []
      ));
  bytes = padded (
      (4 ∷ 1 ∷ 3 ∷ 0 ∷ 1 ∷ 2 ∷ 0 ∷ 0 ∷ 0 ∷ 0 ∷ 0 ∷ 0 ∷ 0 ∷ 0 ∷ 0 ∷ 0 ∷ 1 ∷ 1 ∷ 1 ∷ 1 ∷ []) ++ replicate 12 0
      ++ v8 ++ v8 ++ z8 ++ z8
      ++ (1 ∷ 0 ∷ []) ++ replicate 14 0
      ++ (2 ∷ 1 ∷ []) ++ replicate 14 0
      ++ (3 ∷ 3 ∷ 0 ∷ 0 ∷ 0 ∷ 0 ∷ 0 ∷ 0 ∷ []) ++ v8
      );
}

-- PendingAwaitWriteback without a bucket, beside a writeback
abbrev await : Sample
await = record {
  page =
      page (Some value) Flag.WritebackAndPendingExcLock (counts 0 0 0 0) (ExcState.PendingAwaitWriteback none value) LoadingState.None
      (Some value);
  bytes = padded ((7 ∷ 1 ∷ 0 ∷ 0 ∷ 2 ∷ 255 ∷ 0 ∷ 0 ∷ 0 ∷ 0 ∷ 1 ∷ []) ++ replicate 21 0 ++ v8 ++ v8 ++ v8);
}

-- exclusive Pending at 1, which has visited two, clean
abbrev pending : Sample
pending = record {
  page =
      page (Some value) Flag.ExcLockClean (counts 0 1 0 0) (ExcState.Pending (at 1) (record { 0 = 2 }) true value) LoadingState.None
      None;
  bytes = padded (
      (9 ∷ 1 ∷ 0 ∷ 0 ∷ 3 ∷ 1 ∷ 2 ∷ 1 ∷ 0 ∷ 0 ∷ 0 ∷ 0 ∷ 0 ∷ 0 ∷ 0 ∷ 0 ∷ 0 ∷ 1 ∷ []) ++ replicate 14 0 ++ v8 ++ v8
      );
}

-- exclusive Obtained without a bucket, not clean: the page is out, and the value that was taken is kept
abbrev pub editing : Sample
editing = record {
  page = page None Flag.ExcLockDirty (counts 0 0 0 0) (ExcState.Obtained none false value) LoadingState.None None;
  bytes = padded ((10 ∷ 0 ∷ 0 ∷ 0 ∷ 5 ∷ 255 ∷ []) ++ replicate 34 0 ++ v8);
}

-- .. at 1, clean
abbrev pub editing_clean : Sample
editing_clean = record {
  page =
      page None Flag.ExcLockClean (counts 0 1 0 0) (ExcState.Obtained (at 1) true value) LoadingState.None None;
  bytes = padded (
      (9 ∷ 0 ∷ 0 ∷ 0 ∷ 5 ∷ 1 ∷ 0 ∷ 1 ∷ 0 ∷ 0 ∷ 0 ∷ 0 ∷ 0 ∷ 0 ∷ 0 ∷ 0 ∷ 0 ∷ 1 ∷ []) ++ replicate 22 0 ++ v8
      );
}

-- a loader that is Pending, PendingCounted at 3, Obtained at 0, and Obtained without a bucket
abbrev waiting : Sample
waiting = record {
  page = page None Flag.LoadingExcLock (counts 0 0 0 0) ExcState.None LoadingState.Pending None;
  bytes = padded (2 ∷ 0 ∷ 0 ∷ 0 ∷ 0 ∷ 0 ∷ 0 ∷ 0 ∷ 1 ∷ []);
}

abbrev pub counted : Sample
counted = record {
  page = page None Flag.LoadingExcLock (counts 0 0 0 1) ExcState.None (LoadingState.PendingCounted (at 3)) None;
  bytes = padded (2 ∷ 0 ∷ 0 ∷ 0 ∷ 0 ∷ 0 ∷ 0 ∷ 0 ∷ 2 ∷ 3 ∷ 0 ∷ 0 ∷ 0 ∷ 0 ∷ 0 ∷ 0 ∷ 0 ∷ 0 ∷ 0 ∷ 1 ∷ []);
}

abbrev pub loading : Sample
loading = record {
  page = page None Flag.Loading (counts 1 0 0 0) ExcState.None (LoadingState.Obtained (at 0)) None;
  bytes = padded (1 ∷ 0 ∷ 0 ∷ 0 ∷ 0 ∷ 0 ∷ 0 ∷ 0 ∷ 3 ∷ 0 ∷ 0 ∷ 0 ∷ 0 ∷ 0 ∷ 0 ∷ 0 ∷ 1 ∷ []);
}

abbrev pub prefetch : Sample
prefetch = record {
  page = page None Flag.Loading (counts 0 0 0 0) ExcState.None (LoadingState.Obtained none) None;
  bytes = padded (1 ∷ 0 ∷ 0 ∷ 0 ∷ 0 ∷ 0 ∷ 0 ∷ 0 ∷ 3 ∷ 255 ∷ []);
}

abbrev pub samples : List Sample
samples = fresh ∷ claim ∷ await ∷ pending ∷ editing ∷ editing_clean ∷ waiting ∷ counted ∷ loading ∷ prefetch ∷ []

-- each page is sound under the short limits, and its short image has just these bytes
abbrev pub written : Sample → Bool
written s = sound_under short s.page && same_bytes (image_of short_capacity s.page) s.bytes

-- and its image these and zeros
abbrev pub written_long : Sample → Bool
written_long s = sound_of s.page && same_bytes (image_of capacity s.page) (lengthened s.bytes)

-- ---- lists that are full, or nearly so
-- the bytes of a page that n readers wait for, each bucket in turn from 0 to the last, with these counts: a head, and an entry for each
abbrev waiting_from : ℕ → ℕ → ℕ → List ℕ
waiting_from zero b last = []
waiting_from (suc n) b last = (1 ∷ b ∷ []) ++ replicate 14 0 ++ waiting_from n (cond (eqb b last) 0 (b + 1)) last

abbrev pub crowd_bytes : ℕ → ℕ → List ℕ → List ℕ
crowd_bytes n last cs =
    (0 ∷ 1 ∷ n % 256 ∷ n / 256 ∷ []) ++ replicate 12 0 ++ cs ++ replicate (48 - length cs) 0 ++ waiting_from n 0 last

-- an equal share of n at each bucket
abbrev shares : ℕ → List ℕ
shares n = replicate buckets (n / buckets)

-- these bytes, and zeros up to the length of an image
abbrev lengthened_by : List ℕ → List ℕ
lengthened_by l = l ++ replicate (whole_size - length l) 0

-- ---- bytes that are read, and their number
pub record Reading : Type 0 where
  pub bytes : List ℕ
  pub number : ℕ

abbrev pub readings : List Reading
readings =
    -- another length: one byte fewer or more than a fresh page's image, short or not
    record { bytes = 0 ∷ 1 ∷ replicate (short_size - 3) 0; number = 15 }
    ∷ record { bytes = 0 ∷ 1 ∷ replicate (short_size - 1) 0; number = 15 }
    ∷ record { bytes = 0 ∷ 1 ∷ replicate (whole_size - 3) 0; number = 15 }
    ∷ record { bytes = 0 ∷ 1 ∷ replicate (whole_size - 1) 0; number = 15 }
    -- a bucket at the short ceiling; one above it is too much for a short image, and not for one of today's
    ∷ record { bytes = padded (crowd_bytes short_ceiling 0 (short_ceiling ∷ [])); number = 0 }
    ∷ record { bytes = padded (crowd_bytes (short_ceiling + 1) 0 ((short_ceiling + 1) ∷ [])); number = 16 }
    ∷ record { bytes = lengthened (padded (crowd_bytes (short_ceiling + 1) 0 ((short_ceiling + 1) ∷ []))); number = 0 }
    -- as many readers as a short image has room for; and one more, for whom it would have no entry but zeros
    ∷ record { bytes = crowd_bytes short_capacity 3 (shares short_capacity); number = 0 }
    ∷ record { bytes = 0 ∷ 1 ∷ (short_capacity + 1) ∷ drop 3 (crowd_bytes short_capacity 3 (17 ∷ 16 ∷ 16 ∷ 16 ∷ [])); number = 16 }
    -- as many as a record can list: the length is 0 in byte 2 and 1 in byte 3
    ∷ record { bytes = crowd_bytes capacity 3 (shares capacity); number = 0 }
    -- one more than that, by the length alone; a bucket above today's ceiling
    ∷ record { bytes = 0 ∷ 1 ∷ 1 ∷ 1 ∷ drop 4 (crowd_bytes capacity 3 (shares capacity)); number = 16 }
    ∷ record { bytes = lengthened_by (crowd_bytes ceiling 0 (ceiling ∷ [])); number = 0 }
    ∷ record { bytes = lengthened_by (crowd_bytes (ceiling + 1) 0 ((ceiling + 1) ∷ [])); number = 16 }
    -- zeros alone: the page is out, and nobody has it
    ∷ record { bytes = lengthened (padded []); number = 16 }
    ∷ record { bytes = padded []; number = 16 }
    -- a flag that there isn't
    ∷ record { bytes = padded (11 ∷ 1 ∷ []); number = 16 }
    -- no exclusive holder, and yet no bucket; a loader that is Pending, and yet no bucket
    ∷ record { bytes = padded (0 ∷ 1 ∷ 0 ∷ 0 ∷ 0 ∷ 255 ∷ []); number = 16 }
    ∷ record { bytes = padded (2 ∷ 0 ∷ 0 ∷ 0 ∷ 0 ∷ 0 ∷ 0 ∷ 0 ∷ 1 ∷ 255 ∷ []); number = 16 }
    -- a loader that is PendingCounted without a bucket: rule 4
    ∷ record { bytes = padded (2 ∷ 0 ∷ 0 ∷ 0 ∷ 0 ∷ 0 ∷ 0 ∷ 0 ∷ 2 ∷ 255 ∷ []); number = 16 }
    -- exclusive kind 4, which doesn't say what was taken, without a value and with one; and 6, which there isn't
    ∷ record { bytes = padded (10 ∷ 0 ∷ 0 ∷ 0 ∷ 4 ∷ 255 ∷ []); number = 16 }
    ∷ record { bytes = padded ((10 ∷ 0 ∷ 0 ∷ 0 ∷ 4 ∷ 255 ∷ []) ++ replicate 34 0 ++ v8); number = 16 }
    ∷ record { bytes = padded ((10 ∷ 0 ∷ 0 ∷ 0 ∷ 6 ∷ 255 ∷ []) ++ replicate 34 0 ++ v8); number = 16 }
    -- a value of storage that is out
    ∷ record { bytes = padded ((1 ∷ 0 ∷ 0 ∷ 0 ∷ 0 ∷ 0 ∷ 0 ∷ 0 ∷ 3 ∷ 255 ∷ []) ++ replicate 22 0 ++ v8); number = 16 }
    -- the array's filling past the list's end
    ∷ record { bytes = padded ((0 ∷ 1 ∷ []) ++ replicate 62 0 ++ 1 ∷ []); number = 16 }
    ∷ record { bytes = (0 ∷ 1 ∷ []) ++ replicate (short_size - 2) 0 ++ 1 ∷ replicate (short_by - 1) 0; number = 16 }
    ∷ []

abbrev pub numbered : Reading → Bool
numbered r = eqb (answer_number (restored_from r.bytes).answer) r.number

-- ---- a page that is written into a buffer of so many bytes
pub record Written : Type 0 where
  pub page : Page
  pub room : ℕ
  pub number : ℕ

-- a page that nobody has, and yet is out: 1, whatever the room; a fresh one: 15 where there is too little, and else accepted
abbrev pub writings : List Written
writings =
    let lost = page None Flag.Unmapped (counts 0 0 0 0) ExcState.None LoadingState.None None in
    record { page = lost; room = whole_size; number = 1 }
    ∷ record { page = lost; room = whole_size - 1; number = 1 }
    ∷ record { page = fresh_page 0; room = short_size; number = 15 }
    ∷ record { page = fresh_page 0; room = whole_size - 1; number = 15 }
    ∷ record { page = fresh_page 0; room = whole_size; number = 0 }
    ∷ record { page = fresh_page 0; room = whole_size + 1; number = 0 }
    ∷ []

abbrev pub answered : Written → Bool
answered w = eqb (answer_number (kept_answer w.page (replicate w.room 170))) w.number

-- ---- all of them
abbrev pub shown : Bool
shown = every written samples && every written_long (claim ∷ editing_clean ∷ []) && every numbered readings && every answered writings
