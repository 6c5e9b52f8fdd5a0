-- What the lowest broken rule says. A page is sound just if every rule holds (`sound_all`) and just if the number is 0
-- (`sound_broken`); the number is n just if rule n is the lowest that fails (`broken_first`). The first and the last are
-- instances of laws over any list of tests. Assumes nothing.
use Prim.Native.Nat.{ℕ, ◌≤◌}
use mathlib.Core.Path.{◌≡◌}
use mathlib.Core.Logic.{◌↔◌}
use mathlib.Core.Bool.{true}
use native.Mathlib.Omega.{arith}
use borrow.Author.Tests.{eqb-true, eq-eqb}
use Rattle.laws.specs.Lists.{every}
use Rattle.laws.specs.Tables.{Lowest}
use Rattle.laws.proofs.Firsts.{none_broken, numbered, broken_lowest}
use Rattle.page_record.specs.declared.Page.{Page}
use Rattle.page_record.specs.Pages.{head_of}
use Rattle.soundness.specs.Soundness.{rules, lowest_broken, sound_of}

module _ (p : Page) where
  pub sound_all : sound_of p ≡ every (λ t. t) (rules (head_of p) p.readers)
  unfolding sound_of
  sound_all = none_broken 1 (rules (head_of p) p.readers) (omega arith)

  pub sound_broken : sound_of p ≡ true ↔ lowest_broken p ≡ 0
  unfolding sound_of lowest_broken
  sound_broken = (eqb-true (lowest_broken p) 0, eq-eqb (lowest_broken p) 0)

  pub broken_first : (n : ℕ) → 1 ≤ n → (lowest_broken p ≡ n) ↔ Lowest (numbered 1 (rules (head_of p) p.readers)) n
  unfolding lowest_broken
  broken_first n h = broken_lowest (rules (head_of p) p.readers) n h
