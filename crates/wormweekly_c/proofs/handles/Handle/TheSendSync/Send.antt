-- A handle goes to another thread: what it owns says the same to every thread.
use mir.Raw.{raw}
use base.Fraction.{full_share}
use base.Shift.{Keyless}
use denote.Memory.{lone}
use denote.RawPtr.{Ptr, block_ptr, null_ptr}
use denote.Struct.Struct.{exits_of}
use denote.Struct.Owning.{shape, fields, to}
use denote.Exit.{Exit, unchanged, leaves, hidden, under}
use denote.Param.Send.{IsSend, AllSend, Quiet, owning_send, struct_send, sendable, part_keyless}
use Rattle.std.proofs.Crossing as heap
use Rattle.std.proofs.alloc.Global.TheSendSync as alloc
use Rattle.std.specs.Global.{Global}
use Rattle.std.specs.declared.option.Option.{Option}
use Rattle.std.specs.declared.option.Option.TheVariants.{None, Some}
use Rattle.wormweekly_c.specs.contracts.held.Held.{the_row as R}
use Rattle.wormweekly_c.proofs.held.Held.TheSendSync.{the_send}
use Rattle.wormweekly_c.specs.Held.{held}
use Rattle.wormweekly_c.specs.contracts.handles.Handle.{the_row, the_type}

quiet : {D X : Type 0} (to : D → X) (e : Exit X) → Quiet e → Quiet (hidden (under to e))
quiet to unchanged q = λ x w. tt
quiet to (leaves L l S s r₀) q = λ d. q (to d)

held_keyless : (a : Global) (p : Ptr) (v : Option R.Denot) → Keyless (held a p v)
held_keyless a null_ptr None = tt
held_keyless a null_ptr (Some x) = λ e. absurd e
held_keyless a (block_ptr b o) None = λ e. absurd e
held_keyless a (block_ptr b o) (Some x) = (part_keyless R the_send full_share x b o, heap.frees.frees a (raw (lone R.mir)) (block_ptr b o))

pub send : IsSend the_row
send =
    let all : AllSend (fields the_type) = (search sendable, (alloc.the_field_send, tt)) in
    owning_send the_type all (λ d. held_keyless d.alloc d.at d.value)
    (λ k. quiet (to the_type) (exits_of k (fields the_type)) ((struct_send (shape the_type) all).leaving k))
