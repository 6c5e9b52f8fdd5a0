-- A turn's bytes follow those before it.
use Rattle.std.proofs.Common.{◌≡◌, ℕ, ◌+◌, ◌-◌, ◌≤◌, List, ◌++◌, rules, arith, length, take, sym, ap, ◌∙◌, subst, length-take-le}
use Rattle.std.proofs.lemmas.List.{take-append-le}
use Rattle.std.proofs.Math.Seq.{take-append-add}
use Rattle.std.proofs.KnownBytes.{Consumes-trans}
use Rattle.std.specs.Io.KnownBytes.{Consumes}
use borrow.Rule.Slice.PartMut.{put_mid, post_of}
use Rattle.drill.proofs.input.read_full.Goals as goal

-- what stands before a, and the first n of the part that is put there
front : (a k n : ℕ) (xs ys : List ℕ) → a ≤ length xs → n ≤ length ys → take a xs ++ take n ys ≡ take (a + n) (put_mid a k xs ys)
front a k n xs ys within fits =
    let wide : length (take a xs) ≡ a = length-take-le a xs within in
    ap (λ l. take a xs ++ l) (sym (take-append-le n ys (post_of a k xs) fits))
    ∙ sym (take-append-add (take a xs) (ys ++ post_of a k xs) n)
    ∙ ap (λ m. take (m + n) (put_mid a k xs ys)) wide

pub loop-done-preserved : goal.loop-done-preserved
loop-done-preserved g c =
    let from = c.loop-done.done in
    let old = c.loop-done.buffer in
    let so_far = c.loop-done.invariant in
    let came = front from (length old - from) c.in-Ok.n old c.read.new.buf so_far.within c.in-Ok.ensures.bound.0 in
    let both = Consumes-trans _ _ _ _ _ so_far.bytes c.in-Ok.ensures.bytes.0 in
    record { within = search rules; most = omega (arith, so_far.most, c.in-Ok.ensures.ok); bytes = subst (Consumes _ _) came both }
