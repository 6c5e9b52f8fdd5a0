-- A record that is lent by `&mut` to a thin function, which copies it, hands the copy to a function by value, and stores what
-- that one made of it:
--     pub fn apply(page: &mut Page, request: Request) -> Answer {
--         let was = *page; let out = step(was, request); *page = out.page; out.answer
--     }
-- The walk of that function's MIR, over any record, request and answer; a crate may cite it at its own types.
--     out_ty       the MIR type of what the callee returns
--     apply_fn     the function's MIR, as `lock` had it when it stood on this walk: `refl` showed that it was its `code.function`
--     Said         what is known of what the callee returned
--     walk         from the opened-up entry to the function's `WpFn`
-- Assumes `Logic`.
use Prim.Native.Nat.{ℕ}
use mathlib.Core.Path.{◌≡◌, refl}
use mathlib.Core.List.{[], ◌∷◌}
use seplogic.Ra.Ura.{Ura}
use base.Fraction.{full_share}
use mir.Syntax.{Callee, Sym, Ty, Fn, named, mut, ty_ref, ty_struct, tnil, tcons, local, value_local, place, deref, field}
use mir.Syntax.{copy, rv_opd, assign, seq, call, return}
use mir.Val.{Val, WT, has_ty, vptr, vstruct, vnil, vcons}
use base.Logic.{SProp, ent, sep, emp, ex}
use base.Fml.{GName, Lft, Share, flft, fobs, fbor, fat}
use prog.Wp.{Calls, Loops, WpFn}
use types.Logic.{Logic}
use contract.Monad.{fact}
use types.Kit.{‵, raw, some, later, ◌$◌, ◌∵◌, !, qed, by, move, keep, drop, use0, use1, pick, rewrite, await}
use types.Run.{look, look_raw, store_raw, init, forget, stop, hop, fld, from, load, of_opd, and_then, no_more, assigns}
use types.Run.{land, returns, enter, alloc1, alloc0, params1, pass1, pass0, free1, free0}
use types.Part.{whole, sub, look_in}
use types.SemTy.{Body}
use sound.WpLaws.{FmC}
use denote.RattleType.{RattleType}
use denote.Laws.{Is, shows}
use denote.Memory.{mem, pointee}
use denote.Steps.{opens, closes, owned, peeks, heard}
use denote.Struct.Steps.{spelt}
use denote.Triple.Call.{calls_from}
use lib.Dec.{T}
use Rattle.loans.proofs.Kind.{Kind, row, Holds}

-- the outcome's MIR type: a struct of the answer and the record
abbrev pub out_ty : Sym → Ty → Ty → Ty
out_ty ν τR τP = ty_struct ν (tcons τR (tcons τP tnil))

-- the function's MIR, over the callee's key, the outcome's name, and the types of the record (by value, and as it is written
-- behind a reference), of the request and of the answer; its locals: the result, page, request, was, out, a copy of out.page
abbrev pub apply_fn : Callee → Sym → Ty → Ty → Ty → Ty → Fn
apply_fn f ν τP ωP τQ τR = record {
  lifetimes = 1;
  outlives = [];
  ty_params = [];
  givens = 0;
  params = 2;
  locals =
      local τR value_local
      ∷ local (ty_ref (named 0) mut ωP) value_local
      ∷ local τQ value_local
      ∷ local τP value_local
      ∷ local (out_ty ν τR τP) value_local
      ∷ local τP value_local
      ∷ [];
  body =
      seq (assign (place 3 []) (rv_opd (copy (place 1 (deref τP ∷ [])))))
      (seq (call f (copy (place 3 []) ∷ copy (place 2 []) ∷ []) (place 4 []))
      (seq (assign (place 5 []) (rv_opd (copy (place 4 (field 1 ∷ [])))))
      (seq (assign (place 1 (deref τP ∷ [])) (rv_opd (copy (place 5 []))))
      (seq (assign (place 0 []) (rv_opd (copy (place 4 (field 0 ∷ []))))) return))));
}

module _ {M : Type 1} {𝓤 : Ura M} (𝓛 : Logic 𝓤) (P Q R : Kind 𝓛) (ν : Sym)
    (E : Type 0) (answer : E → R.D) (page : E → P.D) (G : E → Type 0) where
  open 𝓛 use {H, A}

  -- the machine value of an outcome
  abbrev pub out_val : E → Val
  out_val r = vstruct (vcons (R.val (answer r)) (vcons (P.val (page r)) vnil))

  -- what is known of what the callee returned: it is the machine value of the outcome r, which its contract says G of
  pub record Said (v : Val) (r : E) : Type 0 where
    pub is : v ≡ out_val r
    pub good : G r
    pub typed : T (has_ty (out_ty ν R.mir P.mir) v) × WT v
    pub answers : Holds 𝓛 R (answer r)
    pub leaves : Holds 𝓛 P (page r)

  -- the record's current value p, the borrow and the lifetime's token
  abbrev pub LentAt : Lft → Share → ℕ → ℕ → GName → P.D → SProp 𝓤
  LentAt κ q b o γ p = sep 𝓤 (A.obs γ (P.coded.code p)) (sep 𝓤 (A.bor κ (Body (mem (row 𝓛 P)) b o γ)) (A.lft κ q))

  module _ (C : Calls 𝓤 H) (Λ : Loops 𝓤 H) (fm : FmC 𝓤 H 𝓛.laws C)
      (f : Callee) (κ : Lft) (q : Share) (b o : ℕ) (γ : GName) (h : P.D) (n : Q.D)
      (pre : SProp 𝓤) (post : Val → SProp 𝓤) (met : ent 𝓤 pre (C f (P.val h ∷ Q.val n ∷ []) post))
      (goes : Holds 𝓛 P h → ent 𝓤 (emp 𝓤) pre)
      (back : (v : Val) → ent 𝓤 (post v) (H.⇛ (ex 𝓤 (λ (r : E). fact 𝓤 (Said v r)))))
      (asked : Holds 𝓛 Q n)
      (Post : Val → SProp 𝓤)
      (exits : (r : E) → G r → Holds 𝓛 R (answer r) → ent 𝓤 (LentAt κ q b o γ (page r)) (Post (R.val (answer r)))) where
    abbrev Row : RattleType
    Row = row 𝓛 P

    abbrev code : Fn
    code = apply_fn f ν P.mir (pointee P.written) Q.mir R.mir

    pub walk : ent 𝓤 (LentAt κ q b o γ h) (WpFn 𝓤 H C Λ code (vptr b o ∷ Q.val n ∷ []) Post)
    walk =
        qed 𝓛 (‵ (fobs γ (P.coded.code h)) ∷ ‵ (fbor κ (Body (mem Row) b o γ)) ∷ ‵ (flft κ q) ∷ []) ∵
        enter ! C Λ code (vptr b o ∷ Q.val n ∷ []) Post $
        alloc1 ! (λ l₀. alloc1 ! (λ l₁. alloc1 ! (λ l₂. alloc1 ! (λ l₃. alloc1 ! (λ l₄. alloc1 ! (λ l₅. alloc0 ! $ params1 ! $
        pass1 ! (init ! 8 refl (tt, tt)) $ pass1 ! (init ! 6 refl (Q.typed n _ asked).0) $ pass0 ! $
        -- the borrow is opened, and the machine value in memory is written out
        move ! (12 ∷ 13 ∷ 14 ∷ []) $ opens ! tt Row {h = h} b o (λ vs.
        spelt ! Row (Is Row) (shows 𝓛 Row) (λ d. P.val d ∷ []) P.tells full_share h vs b o $
        move ! (1 ∷ []) $ peeks ! Row (Is Row) (shows 𝓛 Row) h (P.val h ∷ []) (λ was. drop ! $
        -- [the record's cell; the open borrow; obs; auth; room for _5; …; room for _4; …; room for _3; …; _2; …; _1; …; room
        -- for _0; …]
        assigns ! (of_opd ! (load ! (from ! (hop ! (look ! 12 refl) (stop !))) (look_raw ! 0 refl)))
        (from ! (stop !)) (init ! 8 refl (P.typed h _ was).0) $
        -- the call
        use0 𝓛 (raw pre) (goes was) $
        calls_from ! fm (raw pre) (P.val h ∷ Q.val n ∷ []) post met
        (and_then ! (load ! (from ! (stop !)) (look ! 9 refl))
        (and_then ! (load ! (from ! (stop !)) (look ! 11 refl)) (no_more !))) (λ v.
        use1 𝓛 (later (some (λ (r : E). raw (fact 𝓤 (Said v r))))) (back v) $ await ! tt $ pick ! (λ r. heard ! (Said v r) (λ s.
        land ! (from ! (stop !)) (init ! 6 refl s.typed) $
        rewrite ! 6 (λ (u : Val). ‵ (fat full_share (out_ty ν R.mir P.mir) l₄ 0 u)) s.is refl $
        -- the record is copied out and stored, and the borrow is closed at it
        assigns ! (of_opd ! (load ! (from ! (fld ! refl (stop !))) (look_in ! 6 (sub ! 1 refl (whole !)))))
        (from ! (stop !)) (init ! 4 refl (P.typed (page r) _ s.leaves).0) $
        assigns ! (of_opd ! (load ! (from ! (stop !)) (look ! 4 refl)))
        (from ! (hop ! (look ! 12 refl) (stop !))) (store_raw ! 0 refl (P.typed (page r) _ s.leaves).0) $
        owned ! Row (Is Row) P.makes (page r) _ s.leaves $ move ! (1 ∷ 0 ∷ []) $
        closes ! tt Row (page r) (P.val (page r) ∷ []) b o $
        -- [obs; the borrow; the token; _5; …; _4; …; _3; …; _2; …; _1; …; room for _0; …]
        assigns ! (of_opd ! (load ! (from ! (fld ! refl (stop !))) (look_in ! 5 (sub ! 0 refl (whole !)))))
        (from ! (stop !)) (init ! 13 refl (R.typed (answer r) _ s.answers).0) $
        returns ! (look ! 13 refl) $
        forget ! 3 refl $ forget ! 5 refl $ forget ! 7 refl $ forget ! 9 refl $ forget ! 11 refl $ forget ! 13 refl $
        move ! (13 ∷ 14 ∷ []) $ free1 ! $ move ! (11 ∷ 12 ∷ []) $ free1 ! $ move ! (9 ∷ 10 ∷ []) $ free1 ! $
        move ! (7 ∷ 8 ∷ []) $ free1 ! $ move ! (5 ∷ 6 ∷ []) $ free1 ! $ move ! (3 ∷ 4 ∷ []) $ free1 ! $ free0 ! $
        keep ! (0 ∷ 1 ∷ 2 ∷ []) $ by ! (exits r s.good s.answers))))))))))))
