-- The loop of a run. Its invariant says that the whole run, from the first page, is what is done and the run of the bytes that are
-- left: the page at the end is the same, and the buffer is to hold the answers so far, the lines still to come, and what stands past
-- them. A turn takes the first request of those that are left. In order: the first request, the invariant and its turn. Assumes nothing.
use Prim.Native.Nat.{ℕ, suc, ◌+◌, ◌*◌, ◌-◌, ◌/◌, ◌%◌, ◌<◌, ◌≤◌}
use mathlib.Core.Path.{◌≡◌, refl, ap, ◌∙◌, sym}
use mathlib.Core.List.{List, [], ◌∷◌, ◌++◌, append-nil}
use native.Mathlib.Omega.{arith}
use borrow.Rule.Slice.PartMut.{mid_of, put_mid}
use lib.ListN.{length, take, drop, length-append, take-append-drop}
use lib.Seq.{take_at, drop_at}
use Rattle.laws.specs.Lists.{cut}
use Rattle.laws.proofs.Parts.{part_length, part_turn, part_past}
use Rattle.kinds.specs.Limits.{line_size}
use Rattle.page_record.specs.declared.Page.{Page}
use Rattle.lock.specs.declared.Outcome.{Outcome}
use Rattle.wire.specs.Answers.{line_of}
use Rattle.wire.specs.Buffers.{put_to}
use Rattle.wire.proofs.Buffers.{put_part}
use Rattle.wire.proofs.Lines.{length_line}
use Rattle.replay.specs.Turns.{turn_of}
use Rattle.replay.specs.Run.{requests_of, page_after, lines_of}

-- ---- the first request of those that are left
request_first : (left x rest : List ℕ) → left ≡ x ++ rest → length x ≡ line_size → requests_of left ≡ x ∷ requests_of rest
request_first left x rest here wide =
    let n : ℕ = length rest / line_size in
    let more : length left / line_size ≡ suc n = omega (arith, ap length here, length-append x rest) in
    ap (λ (m : ℕ). cut line_size m left) more
    ∙ ap (cut line_size (suc n)) here
    ∙ (λ i. take_at x rest line_size wide i ∷ cut line_size n (drop_at x rest line_size wide i))

-- where request k begins, and where it ends
abbrev at : ℕ → ℕ
at k = line_size * k

abbrev to : ℕ → ℕ
to k = line_size * (k + 1)

-- ---- the invariant
-- k requests of qs are answered, and these bytes are left
pub record Going (qs old₀ : List ℕ) (page₀ : Page) (old : List ℕ) (page : Page) (left : List ℕ) (k : ℕ) : Type 0 where
  pub ahead : at k + length left ≡ length qs
  pub whole : length left % line_size ≡ 0
  pub room : length qs ≤ length old
  pub long : length old ≡ length old₀
  pub ends : page_after page₀ (requests_of qs) ≡ page_after page (requests_of left)
  pub says : lines_of page₀ (requests_of qs) ++ drop (length qs) old₀
      ≡ take (at k) old ++ lines_of page (requests_of left) ++ drop (length qs) old

-- at first all are left
pub begins : (qs old : List ℕ) (page : Page) (left : List ℕ) (k : ℕ) → left ≡ qs → k ≡ 0
    → length qs % line_size ≡ 0 → length qs ≤ length old → Going qs old page old page left k
begins qs old page left k all none whole room =
    record {
      ahead = omega (arith, ap length all);
      whole = ap (λ (l : List ℕ). length l % line_size) all ∙ whole;
      room = room;
      long = refl;
      ends = ap (λ (l : List ℕ). page_after page (requests_of l)) (sym all);
      says = λ i. take (at (sym none i)) old ++ lines_of page (requests_of (sym all i)) ++ drop (length qs) old;
    }

module _ {qs old₀ : List ℕ} {page₀ : Page} {old : List ℕ} {page : Page} {left : List ℕ} {k : ℕ}
    (g : Going qs old₀ page₀ old page left k) where
  -- a turn: the request's outcome, and its line, put where its answer goes
  module _ (x rest : List ℕ) (i : ℕ) (here : left ≡ x ++ rest) (wide : length x ≡ line_size) (place : i ≡ k) where
    pub inside : to i ≤ length old
    inside = omega (arith, ap length here, length-append x rest, g.ahead, g.room)

    going_at : {o : Outcome} {ys : List ℕ} {j : ℕ} → o ≡ turn_of page x
        → ys ≡ put_to (line_of o.answer) (mid_of (at i) (to i - at i) old) → j ≡ k + 1
        → Going qs old₀ page₀ (put_mid (at i) (to i - at i) old ys) o.page rest j
    going_at {o = o} {ys = ys} {j = j} turned written next =
        let new : List ℕ = put_mid (at i) (to i - at i) old ys in
        let stops : to i ≡ at i + line_size = omega arith in
        let first : requests_of left ≡ x ∷ requests_of rest = request_first left x rest here wide in
        let ys_is : ys ≡ line_of o.answer =
        written
        ∙ ap (λ (n : ℕ). put_to (line_of o.answer) (mid_of (at i) (n - at i) old)) stops
        ∙ put_part (line_of o.answer) old (at i) (omega (arith, inside)) in
        let long : length ys ≡ to i - at i = ap length ys_is ∙ length_line o.answer ∙ omega arith in
        let kept : length new ≡ length old = part_length (at i) (to i) old ys inside long in
        let after : List ℕ = lines_of o.page (requests_of rest) in
        let lines : lines_of page (requests_of left) ≡ ys ++ after =
        ap (lines_of page) first
        ∙ ap (λ (p : Outcome). line_of p.answer ++ lines_of p.page (requests_of rest)) (sym turned)
        ∙ ap (λ (z : List ℕ). z ++ after) (sym ys_is) in
        let bytes : length left ≡ length x + length rest = ap length here ∙ length-append x rest in
        let past : drop (length qs) new ≡ drop (length qs) old =
        part_past (at i) (to i) old ys inside long (omega arith) (length qs) (omega (arith, g.ahead)) in
        let end : to i ≡ at j = omega arith in
        record {
          ahead = omega (arith, g.ahead);
          whole = omega (arith, g.whole);
          room = omega (arith, g.room);
          long = kept ∙ g.long;
          ends =
              g.ends
              ∙ ap (page_after page) first
              ∙ ap (λ (p : Outcome). page_after p.page (requests_of rest)) (sym turned);
          says =
              g.says
              ∙ ap (λ (n : ℕ). take (at n) old ++ lines_of page (requests_of left) ++ drop (length qs) old) (sym place)
              ∙ ap (λ (z : List ℕ). take (at i) old ++ z ++ drop (length qs) old) lines
              ∙ ap (λ (z : List ℕ). z ++ drop (length qs) old) (part_turn (at i) (to i) old ys inside long (omega arith) after)
              ∙ ap (λ (z : List ℕ). take (to i) new ++ after ++ z) (sym past)
              ∙ ap (λ (n : ℕ). take n new ++ after ++ drop (length qs) new) end;
        }

    -- the same, however the two places are written
    pub going : {o : Outcome} {ys : List ℕ} {a b j : ℕ} → a ≡ at i → b ≡ to i → o ≡ turn_of page x
        → ys ≡ put_to (line_of o.answer) (mid_of a (b - a) old) → j ≡ k + 1
        → Going qs old₀ page₀ (put_mid a (b - a) old ys) o.page rest j
    going {o = o} {ys = ys} begin end turned written next =
        let here : ys ≡ put_to (line_of o.answer) (mid_of (at i) (to i - at i) old) =
        written ∙ (λ t. put_to (line_of o.answer) (mid_of (begin t) (end t - begin t) old)) in
        rw (begin, end) (going_at turned here next)

  -- at the end the page is the last one, and the buffer holds all the answers
  module _ (few : length left < line_size) where
    none_left : requests_of left ≡ []
    none_left = let e : length left / line_size ≡ 0 = omega arith in ap (λ (n : ℕ). cut line_size n left) e

    pub page_gone : page_after page₀ (requests_of qs) ≡ page
    page_gone = g.ends ∙ ap (page_after page) none_left

    pub lines_gone : lines_of page₀ (requests_of qs) ++ drop (length qs) old₀ ≡ old
    lines_gone =
        let all : length qs ≡ at k = omega (arith, g.ahead, g.whole) in
        g.says
        ∙ ap (λ (l : List (List ℕ)). take (at k) old ++ lines_of page l ++ drop (length qs) old) none_left
        ∙ rw (append-nil, all) (take-append-drop (at k) old)
