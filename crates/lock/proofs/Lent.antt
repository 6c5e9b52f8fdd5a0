-- What `lend` promises is the whole outcome, page and answer: two that meet its contract are one. demands/NoSecond says so of every
-- function; here it stands for `lend`, so that a weaker promise is refused in this crate. Assumes nothing.
use mathlib.Core.Path.{◌≡◌}
use Rattle.lock.specs.declared.Outcome.{Outcome}
use Rattle.lock.proofs.lend.Reads as lend_contract

abbrev AtMostOne : {K I O : Type 0} → (K → I → Outcome → O → Type 0) → Type 0
AtMostOne {K} {I} {O} Post = (κ : K) (i : I) (o o' : O) (x y : Outcome) → Post κ i x o → Post κ i y o' → x ≡ y

pub lend_whole : AtMostOne lend_contract.Post
lend_whole κ i o o' x y d e = cc
