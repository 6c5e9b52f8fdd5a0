-- The page's image is made again, and compared, or as much of it as a short one has.
use Rattle.std.proofs.Common.{◌≡◌, ℕ, List, arith, refl, ap, sym, ◌∙◌, length, take}
use Rattle.std.proofs.Math.Seq.{length-take-le}
use Rattle.kinds.specs.Limits.{capacity}
use Rattle.encoding.specs.Images.{whole_size, short_size}
use Rattle.encoding.proofs.Rooms.{length_image, imaged_all}
use Rattle.image.specs.Keeping.{same_bytes}
use Rattle.image.proofs.Compared.{same_is}
use Rattle.image.proofs.Lengths.{image_other, image_short}
use Rattle.image.proofs.is_image.Goals as goal

pub slice_bounds-eq-end : goal.slice_bounds-eq-end
slice_bounds-eq-end c =
    let long : length c.encode.new.out ≡ whole_size = ap length (c.encode.ensures ∙ imaged_all _ _ refl) ∙ length_image capacity _ in
    sym (length-take-le short_size c.encode.new.out (omega arith))

pub returns-then-image-eq-SHORT_IMAGE : goal.returns-then-image-eq-SHORT_IMAGE
returns-then-image-eq-SHORT_IMAGE c =
    c.eq.ensures
    ∙ same_is c.args.image.now (take short_size c.encode.new.out)
    ∙ ap (λ (z : List ℕ). same_bytes c.args.image.now (take short_size z)) (c.encode.ensures ∙ imaged_all c.args.page _ refl)
    ∙ sym (image_short c.args.image.now c.args.page c.if-image-eq-SHORT_IMAGE.true)

pub returns : goal.returns
returns c =
    c.eq-2.ensures
    ∙ same_is c.args.image.now c.as_slice.result.now
    ∙ ap (same_bytes c.args.image.now) (c.as_slice.ensures ∙ c.encode.ensures ∙ imaged_all c.args.page _ refl)
    ∙ sym (image_other c.args.image.now c.args.page c.if-image-eq-SHORT_IMAGE.false)
