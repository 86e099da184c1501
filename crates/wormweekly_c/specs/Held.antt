-- What a handle owns: nothing at null, and else what it holds with the right to free their block.
use base.Fml.{Fml, ftrue, fex}
use base.Stored.{Coded}
use denote.RawPtr.{Ptr, block_ptr, null_ptr}
use Rattle.std.specs.Coded.{coded_option}
use Rattle.std.specs.Box.Ownership.{box_owns}
use Rattle.std.specs.Global.{Global}
use Rattle.std.specs.declared.option.Option.{Option}
use Rattle.std.specs.declared.option.Option.TheVariants.{None, Some}
use Rattle.std.specs.contracts.impls.GlobalAllocator.TheImpl.{ghosts}
use Rattle.wormweekly_c.specs.contracts.held.Held.{the_row}

abbrev pub held : Global → Ptr → Option the_row.Denot → Fml
held alloc null_ptr None = ftrue
held alloc null_ptr (Some x) = fex ⊥ (λ _. ftrue)
held alloc (block_ptr b o) None = fex ⊥ (λ _. ftrue)
held alloc (block_ptr b o) (Some x) =
    box_owns (ghosts.dealloc_token alloc) the_row (block_ptr b o) x

abbrev pub held_coded : Coded (Option the_row.Denot)
held_coded = coded_option the_row.coded

-- # held (profile) [held]
-- A handle owns nothing at null, else the value at its pointer with the right to free it.
