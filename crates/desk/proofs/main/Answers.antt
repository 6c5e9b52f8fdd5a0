-- What is to be written is a part of the buffer.
use Rattle.std.proofs.Common.{◌≡◌, ℕ, ◌≤◌, List, length, sym, length-take-le}
use Rattle.replay.specs.Reply.{reply_length, reply_bytes}
use Rattle.replay.proofs.Replies.{reply_within}
use Rattle.desk.proofs.main.Goals as goal

fits : (kept out now : List ℕ) (total r : ℕ) → r ≡ reply_length kept total out → now ≡ reply_bytes kept total out → r ≤ length now
fits kept out now total r length_is bytes_are = rw (length_is, bytes_are) (reply_within _ _ _).fits

pub slice_bounds-out-end : goal.slice_bounds-out-end
slice_bounds-out-end c = fits _ _ _ _ _ c.reply-length.ensures.length c.reply-length.ensures.bytes

pub slice_bounds-write_all-end : goal.slice_bounds-write_all-end
slice_bounds-write_all-end c =
    sym (length-take-le _ _ (fits _ _ _ _ _ c.reply-length.ensures.length c.reply-length.ensures.bytes))
