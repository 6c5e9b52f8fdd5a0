-- Demand 2, proved: the lock's `exact`; for a line of a run, by the page that the requests before it left; and the round trips of
-- `wire`. Assumes nothing.
use Rattle.std.specs.Prelude.{Ok}
use Prim.Native.Nat.{ℕ}
use mathlib.Core.Path.{◌≡◌, ap, sym, ◌∙◌}
use mathlib.Core.List.{List, [], ◌∷◌}
use native.Mathlib.Omega.{arith}
use lib.ListN.{length}
use Rattle.kinds.specs.Limits.{line_size}
use Rattle.requests.specs.declared.{Answer.Answer, Request.Request}
use Rattle.requests.specs.Premises.{verdict}
use Rattle.requests.specs.Requests.{formal, judged}
use Rattle.lock.proofs.Exact.{exact}
use Rattle.wire.specs.Buffers.{room}
use Rattle.wire.specs.Requests.{InRange, bytes_of, read_of, writable, wrote_answer, wrote_to}
use Rattle.wire.specs.Bytes.{Bytes}
use Rattle.wire.proofs.Buffers.{put_fits, put_whole, write_first}
use Rattle.wire.proofs.Premises.{answer_passed, holds_before, write_granted}
use Rattle.wire.proofs.Trips.{accepted, in_range, write_read, read_write, accepts_written}
use Rattle.replay.specs.Run.{line_at, page_at}
use Rattle.replay.proofs.Pages.{turn_read}
use Rattle.demands.specs.Demand2.{Demand2, Demand2Run, Demand2Bytes}

pub demand2 : Demand2
demand2 = exact

-- the line is answered as the step from the page that the requests before it left
pub demand2_run : Demand2Run
demand2_run p requests k q read p' out =
    let turn = turn_read (page_at k p requests) (line_at k requests) q read in
    let exactly = demand2 (page_at k p requests) p' q out in
    (λ f. exactly.0 (sym turn ∙ f), λ m. turn ∙ exactly.1 m)

-- ---- bytes
module _ (l buffer : List ℕ) (q : Request) (bytes : Bytes l) (sixteen : length buffer ≡ line_size) where
  -- what fits is written: into sixteen bytes, so that nothing of the buffer is left
  written : judged q ≡ Ok tt → (Answer.Accepted ≡ wrote_answer q buffer) × (bytes_of q ≡ wrote_to q buffer)
  unfolding bytes_of
  written fits =
      write_granted q buffer Answer.Accepted (bytes_of q) fits
      (sym (put_fits (bytes_of q) buffer (omega arith)).0) (sym (put_whole (bytes_of q) buffer sixteen))

  there : read_of l ≡ Ok q → InRange q × (wrote_answer q buffer ≡ Answer.Accepted) × (wrote_to q buffer ≡ l)
  there e =
      let a = accepted l q e in
      let w = written a.fits in
      (rw (← a.fields) (in_range l bytes), sym w.0, sym w.1 ∙ read_write l q bytes e)

  back : InRange q × (wrote_answer q buffer ≡ Answer.Accepted) × (wrote_to q buffer ≡ l) → read_of l ≡ Ok q
  unfolding wrote_answer judged
  back w =
      let fits = holds_before (formal q) (room buffer ∷ []) (answer_passed (verdict (writable q buffer)) w.1) in
      ap read_of (sym ((written fits).1 ∙ w.2)) ∙ write_read q fits w.0.value

pub demand2_bytes : Demand2Bytes
demand2_bytes = record {
  write_read = write_read;
  read_write = read_write;
  accepts_written = accepts_written;
  agree = λ l buffer q bytes sixteen. (there l buffer q bytes sixteen, back l buffer q bytes sixteen);
  first = write_first;
}
