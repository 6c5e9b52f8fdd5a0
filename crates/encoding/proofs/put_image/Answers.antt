-- Its four parts are put one after the other, each as wide as its place.
use Rattle.std.proofs.Common.{◌≡◌, ℕ, List, ◌++◌, length, arith, ap, ◌∙◌}
use Rattle.laws.proofs.Parts.{four_parts}
use Rattle.kinds.specs.Limits.{capacity}
use Rattle.readers.specs.Listed.{live}
use Rattle.page_record.specs.declared.{Head.Head, Page.Page}
use Rattle.page_record.specs.Pages.{head_of}
use Rattle.encoding.specs.Images.{kind_bytes, count_bytes, value_bytes, entries, whole_size, image_of}
use Rattle.encoding.proofs.Heading.{length_kinds, length_counts, length_values}
use Rattle.encoding.proofs.Listing.{length_entries}
use Rattle.encoding.proofs.put_image.Goals as goal

by_parts : (p : Page) (h : Head) (y1 y2 y3 y4 k n l : List ℕ) → h ≡ head_of p → y1 ≡ k → k ≡ kind_bytes h p.readers.len → y2 ≡ n
    → n ≡ count_bytes h → y3 ≡ value_bytes h → y4 ≡ entries capacity (live p.readers) → l ≡ y1 ++ y2 ++ y3 ++ y4 → l ≡ image_of capacity p
unfolding image_of
by_parts p h y1 y2 y3 y4 k n l a b c d e f g w = w ∙ rw (b, c, d, e, f, g, a)

pub returns : goal.returns
returns c =
    let kinds = c.copy_from_slice.ensures.after in
    let counts = c.copy_from_slice-2.ensures.after in
    by_parts c.args.page c.head_of-head.result c.copy_from_slice.new.self c.copy_from_slice-2.new.self c.put_values.new.out c.put_list.new.out
    c.kind_bytes.result c.count_bytes.result _
    c.head_of-head.ensures kinds c.kind_bytes.ensures counts c.count_bytes.ensures c.put_values.ensures c.put_list.ensures
    (four_parts c.args.out.now c.copy_from_slice.new.self c.copy_from_slice-2.new.self c.put_values.new.out c.put_list.new.out
    16 32 64 whole_size
    (ap length (kinds ∙ c.kind_bytes.ensures) ∙ length_kinds _ _)
    (ap length (counts ∙ c.count_bytes.ensures) ∙ length_counts _)
    (ap length c.put_values.ensures ∙ length_values _)
    (ap length c.put_list.ensures ∙ length_entries capacity _)
    (omega arith) (omega arith) (omega arith) c.requires)
