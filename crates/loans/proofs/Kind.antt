-- A type of plain data that has one machine value (a struct, an enum), taken apart into what a walk by hand uses of it. A walk
-- over a variable K : Kind never sees what the type is made of, so neither its size nor the length of an array in it costs
-- anything. No crate is spoken of: one that lends its record names its own types by these, once.
--     Kind                     the type's parts, and three laws
--     row                      the type itself, as the logic has it: of `struct_kind .. T.the_type ..` it computes to `T.the_row`
--     Holds, holds             d is related to its own machine value; and whatever it is related to is that
--     struct_kind, enum_kind   the kind of a declared struct, and of a declared enum
--     lies_in, lies_out        a local's cell is what a borrow of it holds, and back: what lends a local, and takes it back
--     returned                 what a callee with no lifetimes gives back, as a plain fact: the machine value of some r, of
--                              which its contract says G
-- Assumes `Logic`.
use Prim.Native.Nat.{ℕ}
use mathlib.Core.Path.{◌≡◌, subst}
use mathlib.Core.List.{[], ◌∷◌, List}
use seplogic.Ra.Ura.{Ura}
use base.Fraction.{full_share}
use mir.Syntax.{Ty, Written}
use mir.Raw.{raw as raw_ty}
use mir.Val.{Val}
use base.Logic.{SProp, ent, sep, emp, ex, guard}
use base.Stored.{Coded}
use base.Fml.{Fml, Lft, ftrue, fsep, fat}
use types.Logic.{Logic, sem}
use contract.Monad.{fact, fact_i}
use types.Kit.{‵, raw, ◌⊛◌, some, later, ◌$◌, ◌∵◌, !, qed, by, move, drop, use1, split, pick, fsplit, fjoin}
use types.Kit.{fpick, fpack, check, await, updating, now as at_once, show, done}
use denote.RattleType.{RattleType}
use denote.Laws.{Is, Typed, shows}
use denote.Memory.{lone, cell_at, mem, part_of}
use denote.Exit.{Kept, Exit}
use denote.Shadow.{shadow}
use denote.Steps.{owned, peeks, heard}
use denote.Struct.Steps.{spelt}
use denote.Struct.Struct.{Plains}
use denote.Enum.Enum.{Few, Plainss}
use denote.Struct.Declared as SD
use denote.Struct.Laws as LL
use denote.Enum.Declared as ED
use denote.Enum.Laws as EL

module _ {M : Type 1} {𝓤 : Ura M} (𝓛 : Logic 𝓤) where
  open 𝓛 use {H}

  pub record Kind : Type 2 where
    pub D : Type 0
    pub mir : Ty
    pub written : Written
    pub reaches : List (Written × List Ty)
    pub lives : Lft
    pub own : D → List Val → Fml
    pub exit : Kept → Exit D
    pub coded : Coded D
    pub shr_at : D → ℕ → ℕ → Lft → Fml
    pub val : D → Val
    pub tells : (d : D) (vs : List Val) → shadow (own d vs) → vs ≡ val d ∷ []
    pub typed : (d : D) (vs : List Val) → shadow (own d vs) → Typed (mir ∷ []) vs
    pub makes : (d : D) (vs : List Val) → shadow (own d vs) → ent 𝓤 (emp 𝓤) (sem 𝓛 (own d vs))

  abbrev pub row : Kind → RattleType
  row K = record {
    Denot = K.D;
    mir = K.mir ∷ [];
    written = K.written;
    reaches = K.reaches;
    lives = K.lives;
    own_val = K.own;
    exit = K.exit;
    coded = K.coded;
    shr_at = K.shr_at;
  }

  -- d is related to its own machine value
  abbrev pub Holds : (K : Kind) → K.D → Type 0
  Holds K d = shadow (K.own d (K.val d ∷ []))

  -- whatever d is related to is its own machine value
  pub holds : (K : Kind) (d : K.D) (vs : List Val) → shadow (K.own d vs) → Holds K d
  holds K d vs p = subst (λ (us : List Val). shadow (K.own d us)) (K.tells d vs p) p

  -- what a callee with no lifetimes gives back: some r, of which its contract says G, and so N
  pub returned : (K : Kind) (v : Val) (Ensured : K.D → SProp 𝓤) (G N : K.D → Type 0)
      → ((r : K.D) → ent 𝓤 (Ensured r) (fact 𝓤 (G r)))
      → ((r : K.D) → shadow (K.own r (v ∷ [])) → G r → N r)
      → ent 𝓤 (H.⇛ (ex 𝓤 (λ (r : K.D). sep 𝓤 (sep 𝓤 (emp 𝓤) (sem 𝓛 (K.own r (v ∷ [])))) (Ensured r))))
      (H.⇛ (ex 𝓤 (λ (r : K.D). fact 𝓤 (N r))))
  returned K v Ensured G N says_so known =
      qed 𝓛 (later (some (λ (r : K.D). (‵ ftrue ⊛ ‵ (K.own r (v ∷ []))) ⊛ raw (Ensured r))) ∷ []) ∵
      updating ! $ await ! tt $ pick ! (λ r.
      split ! $ move ! (1 ∷ []) $ use1 𝓛 (raw (fact 𝓤 (G r))) (says_so r) $ heard ! (G r) (λ g. split ! $ drop ! $
      peeks ! (row K) (Is (row K)) (shows 𝓛 (row K)) r (v ∷ []) (λ is.
      at_once ! $ show ! (λ (r' : K.D). fact 𝓤 (N r')) r $ by ! (fact_i 𝓤 (N r) _ (known r is g)))))

  -- a local's cell is what a borrow of it holds
  pub lies_in : (P : Kind) (h : P.D) (b o : ℕ)
      → Holds P h → ent 𝓤 (H.at full_share P.mir b o (P.val h)) (sem 𝓛 ((mem (row P)).own_at h b o))
  unfolding part_of
  lies_in P h b o is =
      qed 𝓛 (‵ (fat full_share P.mir b o (P.val h)) ∷ []) ∵
      use1 𝓛 (‵ (fat full_share (raw_ty P.mir) b o (P.val h))) (𝓛.laws.at_raw full_share P.mir b o (P.val h)) $
      owned ! (row P) (Is (row P)) P.makes h _ is $ move ! (1 ∷ 0 ∷ []) $ fjoin ! $
      fpack ! (List Val) (λ vs. fsep (cell_at full_share (P.mir ∷ []) vs b o) (P.own h vs)) (P.val h ∷ []) $ done !

  -- and back
  pub lies_out : (P : Kind) (h : P.D) (b o : ℕ)
      → ent 𝓤 (sem 𝓛 ((mem (row P)).own_at h b o)) (guard 𝓤 (Holds P h) (H.at full_share P.mir b o (P.val h)))
  unfolding part_of
  lies_out P h b o =
      qed 𝓛 (‵ ((mem (row P)).own_at h b o) ∷ []) ∵ fpick ! (λ vs. fsplit ! $
      spelt ! (row P) (Is (row P)) (shows 𝓛 (row P)) (λ d. P.val d ∷ []) P.tells full_share h vs b o $
      move ! (1 ∷ []) $ peeks ! (row P) (Is (row P)) (shows 𝓛 (row P)) h (P.val h ∷ []) (λ is. drop ! $ check ! is $
      use1 𝓛 (‵ (fat full_share P.mir b o (P.val h))) (𝓛.laws.raw_at full_share P.mir b o (P.val h)) $ done !))

  abbrev pub struct_kind : (T : SD.Declared) → LL.Laws T → Plains (SD.fields T) → Kind
  struct_kind T L pl = record {
    D = T.D;
    mir = lone (SD.row T).mir;
    written = (SD.row T).written;
    reaches = (SD.row T).reaches;
    lives = (SD.row T).lives;
    own = (SD.row T).own_val;
    exit = (SD.row T).exit;
    coded = (SD.row T).coded;
    shr_at = (SD.row T).shr_at;
    val = LL.val T L;
    tells = LL.tells T L;
    typed = (LL.lawful T L 𝓛).typed;
    makes = LL.makes T pl 𝓛;
  }

  abbrev pub enum_kind : (T : ED.Declared) → EL.Laws T → Plainss (ED.variants T) → Few (ED.shape T) → Kind
  enum_kind T L pl few = record {
    D = T.D;
    mir = lone (ED.row T).mir;
    written = (ED.row T).written;
    reaches = (ED.row T).reaches;
    lives = (ED.row T).lives;
    own = (ED.row T).own_val;
    exit = (ED.row T).exit;
    coded = (ED.row T).coded;
    shr_at = (ED.row T).shr_at;
    val = EL.val T L;
    tells = EL.tells T L;
    typed = (EL.lawful T L 𝓛 few).typed;
    makes = EL.makes T pl 𝓛;
  }
