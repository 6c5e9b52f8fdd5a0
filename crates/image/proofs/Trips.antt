-- Writing and reading an image undo each other. In this order: that the page of a sound page's image is that page (`page_back`), part
-- by part over the number of readers; what an accepted reading tells; the round trips, that reading accepts exactly the images of sound
-- pages, and that no two of these share one. What is read is said over the limits that the length of the bytes stands for. Assumes nothing.
use Rattle.std.specs.Prelude.{Option, Some, None, Result, Ok, Err}
use Prim.Native.Nat.{ℕ, zero, suc, ◌+◌, ◌*◌, ◌-◌, ◌/◌, ◌%◌, ◌<◌, ◌≤◌}
use mathlib.Core.Bool.{Bool, true, false, cond, ◌&&◌, ◌||◌}
use mathlib.Core.List.{List, [], ◌∷◌, ◌++◌}
use mathlib.Core.Logic.{◌↔◌}
use mathlib.Core.Path.{◌≡◌, refl, sym, ap, subst, ◌∙◌}
use native.Mathlib.Omega.{arith}
use borrow.Author.Tests.{eq-eqb}
use lib.Dec.{T, eqb, leb→le}
use lib.ListN.{length, take, drop, get_or, replicate, length-take}
use lib.Seq.{drop_at}
use Rattle.laws.proofs.Tests.{to_true, is_true, both, halves, and_iff}
use Rattle.laws.proofs.Lists.{each_take}
use Rattle.kinds.specs.declared.{Visited.Visited, Phase.Phase, Reader.Reader}
use Rattle.kinds.specs.declared.ExcState.{ExcState}
use Rattle.kinds.specs.declared.Bucket.{Bucket}
use Rattle.kinds.specs.Limits.{line_size, capacity, ceiling, short_capacity, Limits, today, short}
use Rattle.kinds.specs.Numbers.{flag_number, storage_number, phase_number, exc_number, loading_number, writeback_number}
use Rattle.kinds.specs.Numbers.{flag_from, storage_from, bucket_from, phase_from, exc_from, loading_from, writeback_from}
use Rattle.readers.specs.declared.Readers.{Readers}
use Rattle.readers.specs.Listed.{live, listed, blank_reader}
use Rattle.page_record.specs.declared.{Head.Head, Page.Page}
use Rattle.page_record.specs.Holders.{value_of, exc_visited, exc_clean, exc_value, writeback_value}
use Rattle.page_record.specs.Pages.{head_of, head_with, page_of, number_at, fresh_page}
use Rattle.soundness.specs.Soundness.{sound_under, fits_under, sound_of}
use Rattle.soundness.proofs.Facts.{SoundPage}
use Rattle.soundness.proofs.Known.{holders_within_lem}
use Rattle.soundness.proofs.Tested.{facts}
use Rattle.soundness.proofs.Under.{sound_under_lem}
use Rattle.soundness.proofs.FreshPage.{fresh_sound}
use Rattle.requests.specs.declared.{Refusal.Refusal, Answer.Answer}
use Rattle.requests.proofs.Verdicts.{passed}
use Rattle.wire.specs.Bytes.{value_limit, Bytes, number, low_bytes, line_with}
use Rattle.wire.proofs.Bytes.{number_low_bytes, number_below, bytes_take, bytes_drop}
use Rattle.wire.proofs.Stores.{length_line_with}
use Rattle.encoding.specs.Carried.{phase_value, exc_bucket_number, loading_bucket_number}
use Rattle.encoding.specs.Images.{head_size, image_size, whole_size, short_size, kind_bytes, count_bytes, value_bytes, entry_of, entries}
use Rattle.encoding.specs.Images.{image_of, InRange}
use Rattle.decoding.specs.Decoding.{u64_at, exc_from_bytes, head_from, length_from, reader_from, readers_from, page_from}
use Rattle.image.specs.declared.Restored.{Restored}
use Rattle.image.specs.Keeping.{same_bytes, known_size, limits_by, is_image, ImageUnder, readable, read_verdict}
use Rattle.image.specs.Keeping.{restored, restored_as, restored_from}
use Rattle.image.specs.Applies.{is_sound_image}
use Rattle.image.proofs.Back.{flag_back, storage_back, writeback_back, phase_back, exc_back, loading_back, counts_back, length_back}
use Rattle.image.proofs.Compared.{same_equal, same_refl}
use Rattle.encoding.proofs.Rooms.{length_image, image_longer}
use Rattle.image.proofs.Lengths.{by_short, by_whole, within_today, known_whole, known_short, sound_today}

-- ---- the head of an image is the page's
-- what its bytes say, each place by what was written there
abbrev said_head : Page → Head
said_head p =
    let e = p.exc_state in
    let l = p.loading_state in
    let w = p.writeback_state in
    let cs = p.ref_counts in
    head_with (storage_from (storage_number p.storage) (number (low_bytes 8 (value_of p.storage)))) (flag_from (flag_number p.flag))
    (record { 0 = number_at cs 0 } ∷ record { 0 = number_at cs 1 } ∷ record { 0 = number_at cs 2 } ∷ record { 0 = number_at cs 3 } ∷ [])
    (exc_from (exc_number e) (bucket_from (exc_bucket_number e)) (exc_visited e) (eqb (cond (exc_clean e) 1 0) 1) (number (low_bytes 8 (exc_value e))))
    (loading_from (loading_number l) (bucket_from (loading_bucket_number l)))
    (writeback_from (writeback_number w) (number (low_bytes 8 (writeback_value w))))

head_said : (n : ℕ) (p : Page) → head_from (image_of n p) ≡ said_head p
unfolding image_of kind_bytes count_bytes value_bytes head_from exc_from_bytes u64_at
head_said n p = refl

head_back : (n : ℕ) (p : Page) → InRange p → SoundPage p → head_from (image_of n p) ≡ head_of p
head_back n p r s =
    let e = p.exc_state in
    let l = p.loading_state in
    let w = p.writeback_state in
    let within = simp and_iff at (holders_within_lem s.parts) in
    let stored : storage_from (storage_number p.storage) (number (low_bytes 8 (value_of p.storage))) ≡ p.storage =
    ap (storage_from (storage_number p.storage)) (number_low_bytes 8 (value_of p.storage) r.stored) ∙ storage_back p.storage in
    let exc : exc_from (exc_number e) (bucket_from (exc_bucket_number e)) (exc_visited e) (eqb (cond (exc_clean e) 1 0) 1)
    (number (low_bytes 8 (exc_value e))) ≡ e =
    ap (exc_from (exc_number e) (bucket_from (exc_bucket_number e)) (exc_visited e) (eqb (cond (exc_clean e) 1 0) 1))
    (number_low_bytes 8 (exc_value e) r.held)
    ∙ exc_back e within.0.0 in
    let writes : writeback_from (writeback_number w) (number (low_bytes 8 (writeback_value w))) ≡ w =
    ap (writeback_from (writeback_number w)) (number_low_bytes 8 (writeback_value w) r.written) ∙ writeback_back w in
    let loads = loading_back l within.0.1 in
    let flag = flag_back p.flag in
    let counts = counts_back p.ref_counts s.parts.four in
    head_said n p ∙ (λ i. head_with (stored i) (flag i) (counts i) (exc i) (loads i) (writes i))

-- ---- and so is its list
-- the values of these readers are as wide as the code holds them
abbrev Ranged : List Reader → Type 0
Ranged l = (i : ℕ) → phase_value (get_or l i blank_reader).phase < value_limit

reader_back : (r : Reader) (rest : List ℕ) → phase_value r.phase < value_limit → reader_from (entry_of r ++ rest) ≡ r
unfolding reader_from u64_at line_with
reader_back r rest h =
    ap (λ (v : ℕ). record { phase = phase_from (phase_number r.phase) v; bucket = r.bucket }) (number_low_bytes 8 (phase_value r.phase) h)
    ∙ ap (λ (p : Phase). record { phase = p; bucket = r.bucket }) (phase_back r.phase)

-- an entry of zeros is the array's filling
blank_back : (rest : List ℕ) → reader_from (line_with 0 0 0 0 ++ rest) ≡ blank_reader
unfolding reader_from u64_at line_with phase_from
blank_back rest = refl

past_line : (a b v : ℕ) (rest : List ℕ) → drop line_size (line_with a b 0 v ++ rest) ≡ rest
past_line a b v rest = drop_at (line_with a b 0 v) rest line_size (length_line_with a b 0 v)

-- bytes that have ended are blank entries
all_missing : (m : ℕ) → readers_from m [] ≡ replicate m blank_reader
unfolding readers_from reader_from u64_at phase_from
all_missing zero = refl
all_missing (suc m) = ap (λ (z : List Reader). blank_reader ∷ z) (all_missing m)

-- an array of m entries, read from the n entries of an image: an image may have room for fewer readers than the array
readers_back : (m n : ℕ) (l : List Reader) → length l ≤ n → n ≤ m → Ranged l
    → readers_from m (entries n l) ≡ l ++ replicate (m - length l) blank_reader
unfolding readers_from entries
readers_back m zero [] h k r =
    let all : m ≡ m - 0 = omega arith in
    all_missing m ∙ ap (λ (j : ℕ). replicate j blank_reader) all
readers_back m zero (x ∷ l) h k r = absurd (omega arith)
readers_back zero (suc n) l h k r = absurd (omega arith)
readers_back (suc m) (suc n) [] h k r =
    let rest = readers_back m n [] (omega arith) (omega arith) r in
    let zeros = entries n [] in
    let more : suc m - 0 ≡ suc (m - 0) = omega arith in
    ap (λ (x : Reader). x ∷ readers_from m (drop line_size (line_with 0 0 0 0 ++ zeros))) (blank_back zeros)
    ∙ ap (λ (z : List ℕ). blank_reader ∷ readers_from m z) (past_line 0 0 0 zeros)
    ∙ ap (λ (z : List Reader). blank_reader ∷ z) rest
    ∙ ap (λ (j : ℕ). replicate j blank_reader) (sym more)
readers_back (suc m) (suc n) (x ∷ l) h k r =
    let rest = readers_back m n l (omega arith) (omega arith) (λ i. r (suc i)) in
    let later = entries n l in
    let same : m - length l ≡ suc m - suc (length l) = omega arith in
    ap (λ (y : Reader). y ∷ readers_from m (drop line_size (entry_of x ++ later))) (reader_back x later (r 0))
    ∙ ap (λ (z : List ℕ). x ∷ readers_from m z) (past_line _ _ _ later)
    ∙ ap (λ (z : List Reader). x ∷ z) rest
    ∙ ap (λ (j : ℕ). x ∷ (l ++ replicate j blank_reader)) same

-- ---- so is all of it
list_said : (n : ℕ) (p : Page) → drop head_size (image_of n p) ≡ entries n (live p.readers)
unfolding image_of kind_bytes count_bytes value_bytes
list_said n p = refl

length_said : (n : ℕ) (p : Page) → length_from (image_of n p) ≡ p.readers.len % 256 + 256 * ((p.readers.len / 256) % 256)
unfolding image_of kind_bytes count_bytes value_bytes
length_said n p = refl

-- the page of an image that has room for its readers, and no more than the array has
pub page_back_of : (n : ℕ) (p : Page) → T (sound_of p) → InRange p → length (live p.readers) ≤ n → n ≤ capacity
    → page_from (image_of n p) ≡ p
unfolding page_from
page_back_of n p t r fits most =
    let s = facts p t in
    let l = live p.readers in
    let image = image_of n p in
    let many : p.readers.len ≡ length l = ap (λ (rs : Readers). rs.len) s.neat in
    let few : p.readers.len < 256 * 256 = omega (arith, s.parts.room) in
    let items : readers_from capacity (drop head_size image) ≡ (listed l).items =
    ap (readers_from capacity) (list_said n p) ∙ readers_back capacity n l fits most r.read in
    let len : length_from image ≡ length l = length_said n p ∙ length_back p.readers.len few ∙ many in
    let readers : ◌≡◌ {A = Readers} (record { items = readers_from capacity (drop head_size image); len = length_from image }) p.readers =
    (λ i. record { items = items i; len = len i }) ∙ sym s.neat in
    λ i. page_of (head_back n p r s i) (readers i)

-- under limits not above today's a sound page is sound today, and has few readers
module _ (limits : Limits) (fewer : limits.readers ≤ capacity) (lower : limits.count ≤ ceiling) (p : Page) (t : T (sound_under limits p)) where
  pub parted : T (sound_of p) × T (fits_under limits p)
  parted = halves (sound_of p) (fits_under limits p) (rw (← sound_under_lem limits p fewer lower) t)

  pub few_listed : length (live p.readers) ≤ limits.readers
  few_listed =
      let s = facts p parted.0 in
      let many : p.readers.len ≡ length (live p.readers) = ap (λ (rs : Readers). rs.len) s.neat in
      let few = simp and_iff at parted.1 in
      let most = leb→le p.readers.len limits.readers few.0 in
      omega arith

  pub page_back_under : InRange p → page_from (image_of limits.readers p) ≡ p
  page_back_under r = page_back_of limits.readers p parted.0 r few_listed fewer

-- today's
pub page_back : (p : Page) → T (sound_of p) → InRange p → page_from (image_of capacity p) ≡ p
page_back p t r = page_back_of capacity p t r (facts p t).parts.room (omega arith)

-- ---- what is read of bytes is in range
module _ (l : List ℕ) (bytes : Bytes l) where
  u64_below : (at : ℕ) → u64_at at l < value_limit
  unfolding u64_at
  u64_below at = number_below 8 (take 8 (drop at l)) (simp length-take (omega arith)) (bytes_take 8 (drop at l) (bytes_drop at l bytes))

storage_below : (n v : ℕ) → v < value_limit → value_of (storage_from n v) < value_limit
unfolding storage_from
storage_below n v h = go (eqb n 1)
  where
    go : (t : Bool) → value_of (cond t (Some v) None) < value_limit
    go true = h
    go false = omega arith

writeback_below : (n v : ℕ) → v < value_limit → writeback_value (writeback_from n v) < value_limit
unfolding writeback_from
writeback_below n v h = go (eqb n 1)
  where
    go : (t : Bool) → writeback_value (cond t (Some v) None) < value_limit
    go true = h
    go false = omega arith

phase_below : (n v : ℕ) → v < value_limit → phase_value (phase_from n v) < value_limit
unfolding phase_from
phase_below n v h = go (eqb n 2) (eqb n 3)
  where
    go : (s t : Bool) → phase_value (cond s Phase.Pending2 (cond t (Phase.Obtained v) Phase.Pending)) < value_limit
    go true t = omega arith
    go false true = h
    go false false = omega arith

exc_below : (n : ℕ) (m : Option Bucket) (x : Visited) (c : Bool) (v : ℕ) → v < value_limit → exc_value (exc_from n m x c v) < value_limit
unfolding exc_from
exc_below zero m x c v h = omega arith
exc_below (suc zero) m x c v h = h
exc_below (suc (suc zero)) m x c v h = h
exc_below (suc (suc (suc zero))) m x c v h = h
exc_below (suc (suc (suc (suc zero)))) m x c v h = omega arith
exc_below (suc (suc (suc (suc (suc zero))))) m x c v h = h
exc_below (suc (suc (suc (suc (suc (suc n)))))) m x c v h = omega arith

readers_below : (n : ℕ) (l : List ℕ) → Bytes l → Ranged (readers_from n l)
unfolding readers_from reader_from
readers_below zero l bytes i = omega arith
readers_below (suc n) l bytes zero = phase_below (get_or l 0 0) (u64_at 8 l) (u64_below l bytes 8)
readers_below (suc n) l bytes (suc i) = readers_below n (drop line_size l) (bytes_drop line_size l bytes) i

pub in_range : (l : List ℕ) → Bytes l → InRange (page_from l)
unfolding page_from head_from exc_from_bytes
in_range l bytes = record {
  stored = storage_below (get_or l 1 0) (u64_at 32 l) (u64_below l bytes 32);
  held = exc_below (get_or l 4 0) (bucket_from (get_or l 5 0)) (record { 0 = get_or l 6 0 }) (eqb (get_or l 7 0) 1) (u64_at 40 l) (u64_below l bytes 40);
  written = writeback_below (get_or l 10 0) (u64_at 48 l) (u64_below l bytes 48);
  read = each_take (λ r. phase_value r.phase < value_limit) blank_reader (omega arith) (length_from l)
      (readers_from capacity (drop head_size l))
      (readers_below capacity (drop head_size l) (bytes_drop head_size l bytes));
}

-- ---- what a reading tells
-- an accepted one: the page that the bytes say, which is sound under their limits and has them as its image
pub record Accepted (l : List ℕ) (p : Page) : Type 0 where
  pub page : page_from l ≡ p
  pub sound : T (sound_under (limits_by (length l)) p)
  pub image : image_of (limits_by (length l)).readers p ≡ l

pub accepted : (l : List ℕ) (p : Page) → restored_from l ≡ restored p → Accepted l p
unfolding restored_from read_verdict is_image
accepted l p e = go (read_verdict (page_from l) l) refl
  where
    go : (v : Result (Unit {0}) Refusal) → read_verdict (page_from l) l ≡ v → Accepted l p
    go (Ok _) f =
        let said = page_from l in
        let limits = limits_by (length l) in
        let h = halves (sound_under limits said) (is_image said l) (passed (readable said l) f).1.0 in
        let same : said ≡ p = ap (λ (r : Restored). r.page) (ap (restored_as said) (sym f) ∙ e) in
        record {
          page = same;
          sound = subst (λ (q : Page). T (sound_under limits q)) same h.0;
          image = sym (same_equal l (image_of limits.readers said) h.1 ∙ ap (image_of limits.readers) same);
        }
    go (Err why) f =
        let w : Answer.Refused why ≡ Answer.Accepted = ap (λ (r : Restored). r.answer) (ap (restored_as (page_from l)) (sym f) ∙ e) in
        absurd (let z : ◌≡◌ {A = ℕ} 0 1 = cc in omega arith)

-- a refused one gives a fresh page
pub refused_fresh : (l : List ℕ) (why : Refusal) → (restored_from l).answer ≡ Answer.Refused why → (restored_from l).page ≡ fresh_page 0
unfolding restored_from
refused_fresh l why e = go (read_verdict (page_from l) l) e
  where
    go : (v : Result (Unit {0}) Refusal) → (restored_as (page_from l) v).answer ≡ Answer.Refused why → (restored_as (page_from l) v).page ≡ fresh_page 0
    go (Ok _) f = absurd (let z : ◌≡◌ {A = ℕ} 0 1 = cc in omega arith)
    go (Err other) f = refl

-- whatever the bytes are, the page that is given is sound
pub restored_sound : (l : List ℕ) → T (sound_of (restored_from l).page)
unfolding restored_from read_verdict
restored_sound l = go (read_verdict (page_from l) l) refl
  where
    go : (v : Result (Unit {0}) Refusal) → read_verdict (page_from l) l ≡ v → T (sound_of (restored_as (page_from l) v).page)
    go (Ok _) f =
        let said = page_from l in
        let size = length l in
        sound_today size said (halves (sound_under (limits_by size) said) (is_image said l) (passed (readable said l) f).1.0).0
    go (Err why) f = fresh_sound 0

-- 4 is no exclusive holder's number, so no image has it at byte 4, and bytes that have it there are refused
no_number_4 : (e : ExcState) → exc_number e ≡ 4 → ⊥
no_number_4 ExcState.None e = omega arith
no_number_4 (ExcState.Claim m v) e = omega arith
no_number_4 (ExcState.PendingAwaitWriteback m v) e = omega arith
no_number_4 (ExcState.Pending m n c v) e = omega arith
no_number_4 (ExcState.Obtained m c v) e = omega arith

byte_4 : (n : ℕ) (p : Page) → get_or (image_of n p) 4 0 ≡ exc_number p.exc_state
unfolding image_of kind_bytes
byte_4 n p = refl

pub four_refused : (l : List ℕ) → T (known_size (length l)) → get_or l 4 0 ≡ 4
    → (restored_from l).answer ≡ Answer.Refused Refusal.NotAnImage
unfolding restored_from read_verdict is_image
four_refused l known four = go (sound_under (limits_by (length l)) (page_from l) && is_image (page_from l) l) refl
  where
    go : (t : Bool) → (sound_under (limits_by (length l)) (page_from l) && is_image (page_from l) l) ≡ t
        → (restored_as (page_from l) (read_verdict (page_from l) l)).answer ≡ Answer.Refused Refusal.NotAnImage
    go true e =
        let said = page_from l in
        let n = (limits_by (length l)).readers in
        let h = halves (sound_under (limits_by (length l)) said) (is_image said l) (is_true e) in
        let image = same_equal l (image_of n said) h.1 in
        let there : exc_number said.exc_state ≡ 4 = sym (byte_4 n said) ∙ ap (λ (z : List ℕ). get_or z 4 0) (sym image) ∙ four in
        absurd (no_number_4 said.exc_state there)
    go false e = rw (to_true (known_size (length l)) known, e)

-- ---- there and back
-- bytes that are judged well
read_as : (l : List ℕ) (p : Page) → page_from l ≡ p → T (known_size (length l)) → T (sound_under (limits_by (length l)) p) → T (is_image p l)
    → restored_from l ≡ restored p
unfolding restored_from read_verdict
read_as l p e known sound image =
    ap (λ (q : Page). restored_as q (read_verdict q l)) e
    ∙ simp (
      to_true (known_size (length l)) known,
      to_true (sound_under (limits_by (length l)) p) sound,
      to_true (is_image p l) image,
    )

-- an image of known length that is that of its own limits
module _ (limits : Limits) (own : limits_by (image_size limits.readers) ≡ limits) (known : T (known_size (image_size limits.readers))) where
  pub write_read_under : (p : Page) → T (sound_under limits p) → InRange p
      → restored_from (image_of limits.readers p) ≡ restored p
  unfolding is_image
  write_read_under p t r =
      let l = image_of limits.readers p in
      let long = length_image limits.readers p in
      let by : limits_by (length l) ≡ limits = ap limits_by long ∙ own in
      let among = within_today (image_size limits.readers) in
      let fewer = subst (λ (x : Limits). x.readers ≤ capacity) own among.0 in
      let lower = subst (λ (x : Limits). x.count ≤ ceiling) own among.1 in
      let same : same_bytes l (image_of (limits_by (length l)).readers p) ≡ true =
      ap (λ (x : Limits). same_bytes l (image_of x.readers p)) by ∙ same_refl l in
      read_as l p (page_back_under limits fewer lower p t r)
      (subst (λ (n : ℕ). T (known_size n)) (sym long) known)
      (subst (λ (x : Limits). T (sound_under x p)) (sym by) t)
      (is_true same)

-- today's, and a short one
pub write_read : (p : Page) → T (sound_of p) → InRange p
    → restored_from (image_of capacity p) ≡ restored p
unfolding sound_of
write_read = write_read_under today by_whole known_whole

pub write_read_short : (p : Page) → T (sound_under short p) → InRange p
    → restored_from (image_of short_capacity p) ≡ restored p
write_read_short = write_read_under short (by_short short_size refl) known_short

-- read and written again: the bytes, and zeros where they were few
pub read_write : (l : List ℕ) (p : Page) → restored_from l ≡ restored p
    → image_of capacity p ≡ l ++ replicate (whole_size - length l) 0
read_write l p e =
    let a = accepted l p e in
    let limits = limits_by (length l) in
    let among = within_today (length l) in
    let long : length l ≡ image_size limits.readers = ap length (sym a.image) ∙ length_image limits.readers p in
    let zeros : line_size * (capacity - limits.readers) ≡ whole_size - length l = omega (arith, among.0) in
    image_longer limits.readers capacity p (few_listed limits among.0 among.1 p a.sound) among.0
    ∙ ap (λ (z : List ℕ). z ++ replicate (line_size * (capacity - limits.readers)) 0) a.image
    ∙ ap (λ (n : ℕ). l ++ replicate n 0) zeros

-- ---- exactly the images of sound pages
-- what such an image says, and what its length is
module _ (l : List ℕ) (p : Page) (t : T (sound_under (limits_by (length l)) p)) (r : InRange p)
    (e : image_of (limits_by (length l)).readers p ≡ l) where
  image_said : page_from l ≡ p
  image_said =
      let among = within_today (length l) in
      ap page_from (sym e) ∙ page_back_under (limits_by (length l)) among.0 among.1 p t r

  image_same : T (is_image p l)
  unfolding is_image
  image_same =
      let image = image_of (limits_by (length l)).readers p in
      is_true (ap (λ (z : List ℕ). same_bytes z image) (sym e) ∙ same_refl image)

  image_known : T (known_size (length l))
  unfolding known_size limits_by
  image_known = go (eqb (length l) short_size) refl (ap length (sym e) ∙ length_image (limits_by (length l)).readers p)
    where
      go : (s : Bool) → eqb (length l) short_size ≡ s → length l ≡ image_size (cond s short today).readers
          → T (eqb (length l) short_size || eqb (length l) whole_size)
      go true f g = rw f tt
      go false f g = rw f (is_true (eq-eqb (length l) whole_size g))

-- bytes are the image of the page that they say, which is sound, just if they are the image of some sound page
pub image_iff : (l : List ℕ) → Bytes l → T (is_sound_image l) ↔ ImageUnder (limits_by (length l)) l
unfolding is_image
image_iff l bytes = (there, back)
  where
    there : T (is_sound_image l) → ImageUnder (limits_by (length l)) l
    there t =
        let said = page_from l in
        let limits = limits_by (length l) in
        let h = halves (sound_under limits said) (is_image said l) t in
        (said, h.0, in_range l bytes, sym (same_equal l (image_of limits.readers said) h.1))

    back : ImageUnder (limits_by (length l)) l → T (is_sound_image l)
    back t =
        let p = t.0 in
        let limits = limits_by (length l) in
        subst (λ (q : Page). T (sound_under limits q && is_image q l)) (sym (image_said l p t.1 t.2 t.3))
        (both (sound_under limits p) (is_image p l) t.1 (image_same l p t.1 t.2 t.3))

-- reading accepts exactly these
pub accepts_images : (l : List ℕ) → Bytes l
    → ((p : Page) × (restored_from l ≡ restored p)) ↔ ImageUnder (limits_by (length l)) l
accepts_images l bytes = (there, back)
  where
    there : (p : Page) × (restored_from l ≡ restored p) → ImageUnder (limits_by (length l)) l
    there t =
        let a = accepted l t.0 t.1 in
        (t.0, a.sound, subst InRange a.page (in_range l bytes), a.image)

    back : ImageUnder (limits_by (length l)) l → (p : Page) × (restored_from l ≡ restored p)
    back t =
        let p = t.0 in
        let said = image_said l p t.1 t.2 t.3 in
        (p, read_as l p said (image_known l p t.1 t.2 t.3) t.1 (image_same l p t.1 t.2 t.3))

-- no two of them share an image
pub image_injective : (p q : Page) → T (sound_of p) → InRange p → T (sound_of q) → InRange q → image_of capacity p ≡ image_of capacity q → p ≡ q
image_injective p q s r t k e = sym (page_back p s r) ∙ ap page_from e ∙ page_back q t k
