-- All the entries are those that stand before the place of i, and those still to come.
use Rattle.readers.specs.Listed.{live}
use Rattle.encoding.proofs.Listing.{Filling}
use Rattle.encoding.proofs.put_list.Given as goal

abbrev pub invariant-loop-i : goal.invariant-loop-i
invariant-loop-i l = Filling (live l.readers) l.out l.i
