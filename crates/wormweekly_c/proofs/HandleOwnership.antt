-- A handle that is not null owns what a box at the same types owns. Assumes `Logic`.
use Rattle.std.proofs.Common.{◌≡◌, ℕ, List, [], ◌∷◌, refl}
use seplogic.Ra.Ura.{Ura}
use mir.Syntax.{impl, tnil, dnil}
use mir.Raw.{raw as bare}
use mir.Val.{Val, vstruct, vcons, vnil}
use base.Logic.{SProp, ent, guard, via, snd∗, guard_i}
use base.Fml.{Fml}
use types.Logic.{Logic, sem}
use types.Kit.{Item, Goal, Seq, ‵, given, ◌$◌, drop, fpick, use1, learn}
use contract.Monad.{fact_use}
use denote.RattleType.{RattleType}
use denote.Memory.{lone}
use denote.RawPtr.{Ptr, block_ptr, null_ptr, lies_at, Testable}
use denote.Signature.{Slot, plain}
use Rattle.std.proofs.BoxSteps.Form.{Bx}
use Rattle.std.proofs.GlobalToken.{dealloc_token-Testable}
use Rattle.std.specs.Box.Ownership.{box_owns}
use Rattle.std.specs.declared.option.Option.{Option}
use Rattle.std.specs.declared.option.Option.TheVariants.{None, Some}
use Rattle.std.specs.contracts.alloc.Global as heap
use Rattle.std.proofs.alloc.Global.TheLaws as heap_laws
use Rattle.std.specs.contracts.impls.GlobalAllocator.TheImpl.{ghosts, dict}
use Rattle.wormweekly_c.specs.contracts.held.Held as Hosted
use Rattle.wormweekly_c.proofs.held.Held.TheLaws as hosted
use Rattle.wormweekly_c.specs.Held.{held}
use Rattle.wormweekly_c.specs.contracts.parts.Parts as Parts
use Rattle.wormweekly_c.specs.contracts.handles.Handle as Handle

-- a box of a hosted instrument
abbrev pub E : Bx
E = record { row = Hosted.the_row; laws = hosted.the_row_laws; al = record { row = heap.the_row; laws = heap_laws.the_row_laws; g = ghosts; d = dict; drops = impl [] tnil dnil } }

abbrev pub PartsRow : RattleType
PartsRow = Parts.the_row Hosted.the_row heap.the_row ghosts

abbrev pub FromParts : Slot 0
FromParts = plain (λ _. PartsRow)

abbrev pub FromHandle : Slot 0
FromHandle = plain (λ _. Handle.the_row)

-- the machine value of two fields
abbrev pub both : Val → Val → Val
both v w = vstruct (vcons v (vcons w vnil))

abbrev owned : heap.the_row.Denot → Ptr → Hosted.the_row.Denot → Fml
owned a = box_owns (ghosts.dealloc_token a) Hosted.the_row

module _ {M : Type 1} {𝓤 : Ura M} (𝓛 : Logic 𝓤) (a : heap.the_row.Denot) (p : Ptr) (x : Hosted.the_row.Denot) where
  pub tested : ent 𝓤 (sem 𝓛 (owned a p x)) (guard 𝓤 (Testable p) (sem 𝓛 (owned a p x)))
  tested = let B : SProp 𝓤 = sem 𝓛 (owned a p x) in
      fact_use 𝓤 (Testable p) (via 𝓤 _ (snd∗ 𝓤 (sem 𝓛 (lies_at Hosted.the_row base.Fraction.full_share p x)) (sem 𝓛 (ghosts.dealloc_token a (bare (lone Hosted.the_row.mir)) p))) (dealloc_token-Testable 𝓛 a (bare (lone Hosted.the_row.mir)) p)) (guard_i 𝓤 (Testable p) B)

module _ {M : Type 1} {𝓤 : Ura M} {𝓛 : Logic 𝓤} {K : Type 0} {Γ : List (Item 𝓤)} {G : Goal 𝓤 𝓛.H} where
  -- a handle is null and holds nothing, or it holds an instrument at a block whose pointer may be compared with null
  pub either_held : K → (a : heap.the_row.Denot) (p : Ptr) (v : Option Hosted.the_row.Denot)
      → (p ≡ null_ptr → v ≡ None → Seq K 𝓛 Γ G)
      → ((b o : ℕ) (x : Hosted.the_row.Denot) → p ≡ block_ptr b o → v ≡ Some x → Testable (block_ptr b o) → Seq K 𝓛 (‵ (owned a (block_ptr b o) x) ∷ Γ) G)
      → Seq K 𝓛 (‵ (held a p v) ∷ Γ) G
  either_held t a null_ptr None none one = drop t $ none refl refl
  either_held t a null_ptr (Some x) none one = fpick t (λ e. absurd e)
  either_held t a (block_ptr b o) None none one = fpick t (λ e. absurd e)
  either_held t a (block_ptr b o) (Some x) none one =
      use1 𝓛 (given (Testable (block_ptr b o)) (‵ (owned a (block_ptr b o) x))) (tested 𝓛 a (block_ptr b o) x) $ learn t (λ may. one b o x refl refl may)
