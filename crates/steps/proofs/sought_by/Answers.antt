-- The list of those that are sought has somebody at 4 and at 20 to 24 alone.
use Rattle.std.specs.Prelude.{Some, None}
use Rattle.std.proofs.Common.{◌≡◌, [], ◌∷◌, suc, arith, sym, ◌∙◌}
use lib.ListN.{replicate}
use Rattle.laws.proofs.Arms.{elsewhere, copies_at}
use Rattle.kinds.specs.declared.Phase.{Phase}
use Rattle.requests.specs.declared.Request.{Request}
use Rattle.requests.specs.Requests.{last_step}
use Rattle.heads.specs.Decisions.{reader}
use Rattle.steps.specs.Decide.{sought_of}
use Rattle.steps.proofs.sought_by.Goals as goal

module _ (q : Request) (not4 : q.step ≡ 4 → ⊥) (not20 : q.step ≡ 20 → ⊥) (not21 : q.step ≡ 21 → ⊥)
    (not22 : q.step ≡ 22 → ⊥) (not23 : q.step ≡ 23 → ⊥) (not24 : q.step ≡ 24 → ⊥) where
  nobody : sought_of q ≡ None
  unfolding sought_of
  nobody =
      let pending = Some (reader Phase.Pending q.bucket) in
      let pending2 = Some (reader Phase.Pending2 q.bucket) in
      let obtained = Some (reader (Phase.Obtained q.value) q.bucket) in
      let leaving = (22, obtained) ∷ (21, pending2) ∷ (20, pending) ∷ (4, obtained) ∷ [] in
      let somebody = (24, pending2) ∷ (23, pending) ∷ leaving in
      elsewhere (replicate (suc last_step) None) somebody q.step None
      ((((((tt, not4), not20), not21), not22), not23), not24)
      ∙ copies_at (suc last_step) q.step None

pub returns-in_default : goal.returns-in_default
returns-in_default c =
    sym
    (nobody c.args.request
    (λ e. absurd (grind arith)) (λ e. absurd (grind arith)) (λ e. absurd (grind arith))
    (λ e. absurd (grind arith)) (λ e. absurd (grind arith)) (λ e. absurd (grind arith)))
