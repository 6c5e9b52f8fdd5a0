-- A local record that is lent by `&mut` to a function with the contract of Lent.antt's, and read again afterwards:
--     pub fn lend(own: Page, request: Request) -> Outcome {
--         let mut p = own; let a = apply(&mut p, request); Outcome { answer: a, page: p }
--     }
-- The walk of that function's MIR, over any record, request and answer; a crate may cite it at its own types. Whoever calls
-- `lend` passes and gets plain values, and needs no walk.
--     lend_fn      the function's MIR, as `lock` had it when it stood on this walk: `refl` showed that it was its `code.function`
--     Known, Back  what is known of what the callee returned, and what it gives back
--     walk         the local is lent for a lifetime that is made for the call; the lifetime is ended, and the local comes back
--                  at the value that the callee's contract says was its last
-- Assumes `Logic`.
use Prim.Native.Nat.{ℕ}
use mathlib.Core.Path.{refl, ap}
use mathlib.Core.List.{[], ◌∷◌}
use seplogic.Ra.Ura.{Ura}
use base.Fraction.{full_share}
use mir.Syntax.{Callee, Sym, Ty, Fn, named, erased, mut, ty_ref, local, value_local, memory_slot, place, copy, rv_opd}
use mir.Syntax.{addr_of, aggregate, assign, seq, call, return}
use mir.Val.{Val, WT, has_ty, vptr, vstruct, vnil, vcons}
use base.Logic.{SProp, ent, sep, emp, ex}
use base.Fml.{Fml, GName, flft, fres, flent, fat}
use prog.Wp.{Calls, Loops, WpFn}
use types.Logic.{Logic, sem}
use contract.Monad.{fact}
use types.Kit.{‵, raw, ◌⊛◌, given, some, later, ◌$◌, ◌∵◌, !, qed, by, move, use1, use2, use3, split, pick, learn}
use types.Kit.{rewrite, await}
use types.Run.{look, init, forget, stop, from, load, addr, of_opd, and_then, no_more, assigns, land, returns, enter}
use types.Run.{alloc1, alloc0, params1, pass1, pass0, free1, free0}
use types.Part.{agg}
use types.Tokens.{lft_new, lft_end}
use types.SemTy.{Body}
use sound.WpLaws.{FmC}
use denote.RattleType.{RattleType}
use denote.Memory.{mem, pointee}
use denote.Shadow.{shadow}
use denote.Ref.{MutBor, MutRef}
use denote.Lend.{lends_ref, ref_back}
use denote.Steps.{only, heard}
use denote.Triple.Call.{calls_from}
use lib.Dec.{T}
use Rattle.loans.proofs.Kind.{Kind, row, Holds, holds as its_own, lies_in, lies_out}
use Rattle.loans.proofs.Lent.{out_ty}

-- the function's MIR, over the callee's key, the outcome's name, and the types of the record (by value, and as it is written
-- behind a reference), of the request and of the answer; its locals: the result, page, request, p, a, the reference, a copy of p
abbrev pub lend_fn : Callee → Sym → Ty → Ty → Ty → Ty → Fn
lend_fn f ν τP ωP τQ τR = record {
  lifetimes = 0;
  outlives = [];
  ty_params = [];
  givens = 0;
  params = 2;
  locals =
      local (out_ty ν τR τP) value_local
      ∷ local τP value_local
      ∷ local τQ value_local
      ∷ local τP memory_slot
      ∷ local τR value_local
      ∷ local (ty_ref erased mut ωP) value_local
      ∷ local τP value_local
      ∷ [];
  body =
      seq (assign (place 3 []) (rv_opd (copy (place 1 []))))
      (seq (assign (place 5 []) (addr_of (place 3 [])))
      (seq (call f (copy (place 5 []) ∷ copy (place 2 []) ∷ []) (place 4 []))
      (seq (assign (place 6 []) (rv_opd (copy (place 3 []))))
      (seq (assign (place 0 []) (aggregate (copy (place 4 []) ∷ copy (place 6 []) ∷ []))) return))));
}

module _ {M : Type 1} {𝓤 : Ura M} (𝓛 : Logic 𝓤) (P Q R : Kind 𝓛) (ν : Sym)
    (G : R.D → P.D → Type 0) where
  open 𝓛 use {H, A}

  -- the reference to the local l, under the name γ
  abbrev pub ref : ℕ → GName → P.D → MutBor P.D
  ref l γ h = record { ref_ptr = (l, 0); ghost_name = γ; now = h }

  -- what is known of what the callee returned: it is the machine value of the answer, and its contract says G of the answer
  -- and of the record's last value
  pub record Known (v : Val) (a : R.D) (p : P.D) : Type 0 where
    pub is : shadow (R.own a (v ∷ []))
    pub good : G a p

  -- what the callee gives back: the token, the record's last value, and that
  abbrev pub Back : ℕ → GName → Val → SProp 𝓤
  Back α γ v =
      ex 𝓤 (λ (z : R.D × P.D).
      sep 𝓤 (sep 𝓤 (A.lft (α ∷ []) full_share) (A.res γ (P.coded.code z.1))) (fact 𝓤 (Known v z.0 z.1)))

  -- the machine value of an outcome
  abbrev out_val : R.D → P.D → Val
  out_val a p = vstruct (vcons (R.val a) (vcons (P.val p) vnil))

  abbrev Row : RattleType
  Row = row 𝓛 P

  -- the reference's own formula, at the lifetime α
  abbrev Lends : ℕ → ℕ → GName → P.D → Fml
  Lends α l γ h = (MutRef (named 0) (α ∷ []) Row).own_val (ref l γ h) (vptr l 0 ∷ [])

  module _ (C : Calls 𝓤 H) (Λ : Loops 𝓤 H) (fm : FmC 𝓤 H 𝓛.laws C) (f : Callee) (h : P.D) (n : Q.D)
      (pre : ℕ → ℕ → GName → SProp 𝓤) (post : ℕ → ℕ → GName → Val → SProp 𝓤)
      (met : (α l : ℕ) (γ : GName) → ent 𝓤 (pre α l γ) (C f (vptr l 0 ∷ Q.val n ∷ []) (post α l γ)))
      (goes : (α l : ℕ) (γ : GName) → ent 𝓤 (sep 𝓤 (A.lft (α ∷ []) full_share) (sem 𝓛 (Lends α l γ h))) (pre α l γ))
      (back : (α l : ℕ) (γ : GName) (v : Val) → ent 𝓤 (post α l γ v) (H.⇛ (Back α γ v)))
      (was : Holds 𝓛 P h) (asked : Holds 𝓛 Q n)
      (makes : (a : R.D) (p : P.D) → Holds 𝓛 R a → Holds 𝓛 P p
      → T (has_ty (out_ty ν R.mir P.mir) (out_val a p)) × WT (out_val a p))
      (Post : Val → SProp 𝓤)
      (exits : (a : R.D) (p : P.D) → G a p → Holds 𝓛 R a → Holds 𝓛 P p → ent 𝓤 (emp 𝓤) (Post (out_val a p))) where
    holds : (v : Val) (a : R.D) → shadow (R.own a (v ∷ [])) → Holds 𝓛 R a
    holds v a is = its_own 𝓛 R a _ is

    abbrev code : Fn
    code = lend_fn f ν P.mir (pointee P.written) Q.mir R.mir

    pub walk : ent 𝓤 (emp 𝓤) (WpFn 𝓤 H C Λ code (P.val h ∷ Q.val n ∷ []) Post)
    walk =
        qed 𝓛 [] ∵ enter ! C Λ code (P.val h ∷ Q.val n ∷ []) Post $
        alloc1 ! (λ l₀. alloc1 ! (λ l₁. alloc1 ! (λ l₂. alloc1 ! (λ l₃. alloc1 ! (λ l₄. alloc1 ! (λ l₅. alloc1 ! (λ l₆.
        alloc0 ! $ params1 ! $
        pass1 ! (init ! 10 refl (P.typed h _ was).0) $ pass1 ! (init ! 8 refl (Q.typed n _ asked).0) $ pass0 ! $
        assigns ! (of_opd ! (load ! (from ! (stop !)) (look ! 10 refl))) (from ! (stop !)) (init ! 6 refl (P.typed h _ was).0) $
        assigns ! (addr ! (from ! (stop !))) (from ! (stop !)) (init ! 2 refl (tt, tt)) $
        -- a lifetime is made for the call, and p is lent for it
        lft_new ! tt (λ α. move ! (7 ∷ []) $ use1 𝓛 (‵ ((mem Row).own_at h l₃ 0)) (lies_in 𝓛 P h l₃ 0 was) $
        use1 𝓛 (later (some (λ (γ : GName). ‵ (Lends α l₃ γ h) ⊛ ‵ (flent (α ∷ []) (Body (mem Row) l₃ 0 γ)))))
        (lends_ref 𝓛 Row (named 0) (α ∷ []) h l₃ 0) $ await ! tt $ pick ! (λ γ. split ! $
        move ! (2 ∷ 0 ∷ []) $ use2 𝓛 (raw (pre α l₃ γ)) (goes α l₃ γ) $
        -- [what the callee asks; the lender's part; room for _6; …; _5; …; room for _4; …; that _3 dies; _2; …; _1; …; room
        -- for _0; …]
        calls_from ! fm (raw (pre α l₃ γ)) (vptr l₃ 0 ∷ Q.val n ∷ []) (post α l₃ γ) (met α l₃ γ)
        (and_then ! (load ! (from ! (stop !)) (look ! 4 refl))
        (and_then ! (load ! (from ! (stop !)) (look ! 9 refl)) (no_more !))) (λ v.
        use1 𝓛
        (later (some (λ (z : R.D × P.D).
        (‵ (flft (α ∷ []) full_share) ⊛ ‵ (fres γ (P.coded.code z.1))) ⊛ raw (fact 𝓤 (Known v z.0 z.1)))))
        (back α l₃ γ v) $ await ! tt $ pick ! (λ z.
        split ! $ move ! (1 ∷ []) $ heard ! (Known v z.0 z.1) (λ k. split ! $
        land ! (from ! (stop !)) (init ! 7 refl (R.typed z.0 _ k.is).0) $
        rewrite ! 7 (λ (u : Val). ‵ (fat full_share R.mir l₄ 0 u)) (ap only (R.tells z.0 _ k.is)) refl $
        -- the lifetime is ended, and p comes back at its last value
        lft_end ! tt $ move ! (0 ∷ 2 ∷ 1 ∷ []) $
        use3 𝓛 (later (‵ ((mem Row).own_at z.1 l₃ 0))) (ref_back 𝓛 Row (α ∷ []) γ z.1 l₃ 0) $ await ! tt $
        use1 𝓛 (given (Holds 𝓛 P z.1) (‵ (fat full_share P.mir l₃ 0 (P.val z.1)))) (lies_out 𝓛 P z.1 l₃ 0) $
        learn ! (λ is.
        -- [_3; room for _6; …; _5; …; _4; …; that _3 dies; _2; …; _1; …; room for _0; …]
        assigns ! (of_opd ! (load ! (from ! (stop !)) (look ! 0 refl)))
        (from ! (stop !)) (init ! 1 refl (P.typed z.1 _ is).0) $
        assigns !
        (agg ! (and_then ! (load ! (from ! (stop !)) (look ! 5 refl))
        (and_then ! (load ! (from ! (stop !)) (look ! 1 refl)) (no_more !))))
        (from ! (stop !)) (init ! 12 refl (makes z.0 z.1 (holds v z.0 k.is) is)) $
        returns ! (look ! 12 refl) $
        forget ! 0 refl $ forget ! 1 refl $ forget ! 3 refl $ forget ! 5 refl $ forget ! 8 refl $
        forget ! 10 refl $ forget ! 12 refl $
        move ! (12 ∷ 13 ∷ []) $ free1 ! $ move ! (10 ∷ 11 ∷ []) $ free1 ! $ move ! (8 ∷ 9 ∷ []) $ free1 ! $
        move ! (0 ∷ 7 ∷ []) $ free1 ! $ move ! (4 ∷ 5 ∷ []) $ free1 ! $ move ! (2 ∷ 3 ∷ []) $ free1 ! $ free1 ! $ free0 ! $
        by ! (exits z.0 z.1 k.good (holds v z.0 k.is) is))))))))))))))
