-- What the `else` of a `let .. else` is told of a holder, the tags of the other kinds, as the test that the definition makes:
-- each test asks for one tag (`exc_tags`, `loading_tags`), and a tag that is one of the others isn't that one (`other`). A law
-- for each kind that a step takes, in the source's order. Assumes nothing.
use Prim.Native.Nat.{ℕ}
use mathlib.Core.Bool.{false}
use mathlib.Core.List.{List, [], ◌∷◌}
use mathlib.Core.Path.{◌≡◌, refl, ◌∙◌, subst}
use types.Run.{OneOf, miss}
use denote.Enum.Declared.{tag_of}
use borrow.Author.Tests.{ne_eqb}
use lib.Dec.{eqb}
use Rattle.kinds.specs.declared.{ExcState.ExcState, LoadingState.LoadingState}
use Rattle.kinds.specs.contracts.ExcState as E
use Rattle.kinds.specs.contracts.LoadingState as L
use Rattle.page_record.specs.Holders.{is_claim, is_await, is_pending, is_editing, is_waiting, is_counted, is_loading}

-- ---- tags
abbrev exc_tag : ExcState → ℕ
exc_tag e = tag_of E.the_type e

exc_tags : (e : ExcState)
    → (is_claim e ≡ eqb (exc_tag e) 1)
    × (is_await e ≡ eqb (exc_tag e) 2)
    × (is_pending e ≡ eqb (exc_tag e) 3)
    × (is_editing e ≡ eqb (exc_tag e) 4)
exc_tags ExcState.None = (refl, refl, refl, refl)
exc_tags (ExcState.Claim bucket value) = (refl, refl, refl, refl)
exc_tags (ExcState.PendingAwaitWriteback bucket value) = (refl, refl, refl, refl)
exc_tags (ExcState.Pending bucket visited clean value) = (refl, refl, refl, refl)
exc_tags (ExcState.Obtained bucket clean value) = (refl, refl, refl, refl)

abbrev loading_tag : LoadingState → ℕ
loading_tag l = tag_of L.the_type l

loading_tags : (l : LoadingState)
    → (is_waiting l ≡ eqb (loading_tag l) 1) × (is_counted l ≡ eqb (loading_tag l) 2) × (is_loading l ≡ eqb (loading_tag l) 3)
loading_tags LoadingState.None = (refl, refl, refl)
loading_tags LoadingState.Pending = (refl, refl, refl)
loading_tags (LoadingState.PendingCounted bucket) = (refl, refl, refl)
loading_tags (LoadingState.Obtained bucket) = (refl, refl, refl)

other : (ks : List ℕ) (k n : ℕ) → (OneOf ks k → ⊥) → OneOf ks n → eqb n k ≡ false
other ks k n lacks o = ne_eqb n k (λ e. lacks (subst (OneOf ks) e o))

-- ---- the exclusive holder
pub not_claim : (e : ExcState) → OneOf (0 ∷ 2 ∷ 3 ∷ 4 ∷ []) (tag_of E.the_type e) → is_claim e ≡ false
not_claim e o = let ks : List ℕ = 0 ∷ 2 ∷ 3 ∷ 4 ∷ [] in (exc_tags e).0 ∙ other ks 1 (exc_tag e) (miss ks 1 tt) o

pub not_await : (e : ExcState) → OneOf (0 ∷ 1 ∷ 3 ∷ 4 ∷ []) (tag_of E.the_type e) → is_await e ≡ false
not_await e o = let ks : List ℕ = 0 ∷ 1 ∷ 3 ∷ 4 ∷ [] in (exc_tags e).1 ∙ other ks 2 (exc_tag e) (miss ks 2 tt) o

pub not_pending : (e : ExcState) → OneOf (0 ∷ 1 ∷ 2 ∷ 4 ∷ []) (tag_of E.the_type e) → is_pending e ≡ false
not_pending e o = let ks : List ℕ = 0 ∷ 1 ∷ 2 ∷ 4 ∷ [] in (exc_tags e).2 ∙ other ks 3 (exc_tag e) (miss ks 3 tt) o

pub not_editing : (e : ExcState) → OneOf (0 ∷ 1 ∷ 2 ∷ 3 ∷ []) (tag_of E.the_type e) → is_editing e ≡ false
not_editing e o = let ks : List ℕ = 0 ∷ 1 ∷ 2 ∷ 3 ∷ [] in (exc_tags e).3 ∙ other ks 4 (exc_tag e) (miss ks 4 tt) o

-- ---- the loader
pub not_waiting : (l : LoadingState) → OneOf (0 ∷ 2 ∷ 3 ∷ []) (tag_of L.the_type l) → is_waiting l ≡ false
not_waiting l o = let ks : List ℕ = 0 ∷ 2 ∷ 3 ∷ [] in (loading_tags l).0 ∙ other ks 1 (loading_tag l) (miss ks 1 tt) o

pub not_counted : (l : LoadingState) → OneOf (0 ∷ 1 ∷ 3 ∷ []) (tag_of L.the_type l) → is_counted l ≡ false
not_counted l o = let ks : List ℕ = 0 ∷ 1 ∷ 3 ∷ [] in (loading_tags l).1 ∙ other ks 2 (loading_tag l) (miss ks 2 tt) o

pub not_loading_lem : (l : LoadingState) → OneOf (0 ∷ 1 ∷ 2 ∷ []) (tag_of L.the_type l) → is_loading l ≡ false
not_loading_lem l o = let ks : List ℕ = 0 ∷ 1 ∷ 2 ∷ [] in (loading_tags l).2 ∙ other ks 3 (loading_tag l) (miss ks 3 tt) o
