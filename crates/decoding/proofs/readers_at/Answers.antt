-- Each call gives the entry at its place, and all of them are the readers.
use Rattle.std.proofs.Common.{◌≡◌, ℕ, zero, suc, ◌+◌, ◌*◌, ◌<◌, List, get_or, drop, add-zero, arith, rules, ap, ◌∙◌, subst}
use Rattle.std.specs.Array.{IsFromFnResultFrom}
use denote.Param.Members.{Mut, Called}
use Rattle.kinds.specs.declared.Reader.{Reader}
use Rattle.kinds.specs.Limits.{line_size, capacity}
use Rattle.encoding.specs.Images.{head_size}
use Rattle.decoding.specs.Decoding.{reader_from}
use Rattle.decoding.proofs.Decoded.{entries_are}
use Rattle.decoding.proofs.readers_at.Goals as goal

-- what calls that change nothing gave
given : {F B : Type 0} (g : Mut F (ℕ × Unit {0}) B) (value : ℕ → B) (f : F)
    → ((x : ℕ) (y : B) (q : F) → Called g f (x, tt) y q → (q ≡ f) × (y ≡ value x))
    → (ys : List B) (i n : ℕ) → IsFromFnResultFrom g f ys i n → (k : ℕ) (d : B) → k < n → get_or ys (i + k) d ≡ value (i + k)
given g value f says ys i zero r k d h = absurd (omega arith)
given g value f says ys i (suc n) (q, y, at, called, rest) zero d h =
    let e = says i y q called in
    rw add-zero (at.1 d ∙ e.1)
given g value f says ys i (suc n) (q, y, at, called, rest) (suc k) d h =
    let e = says i y q called in
    let next : i + 1 + k ≡ i + suc k = omega arith in
    rw (← next) (given g value f says ys (i + 1) n (subst (λ (p : _). IsFromFnResultFrom g p ys (i + 1) n) e.0 rest) k d (omega arith))

pub returns : goal.returns
returns c =
    let image = c.args.image.now in
    let made = c.from_fn.ensures.items in
    let each = given _ (λ i. reader_from (drop (head_size + line_size * i) image)) _ (λ x y q k. search rules) c.from_fn.result 0 capacity made.each in
    ap (λ (items : List Reader). record { items = items; len = c.args.len }) (entries_are capacity head_size image c.from_fn.result made.long (λ k d h. let none : 0 + k ≡ k = omega arith in rw none at (each k d h)))
