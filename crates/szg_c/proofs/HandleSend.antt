-- A handle owns a share of its value, and nothing that belongs to one thread.
use mir.Raw.{raw}
use base.Shift.{Keyless}
use denote.Memory.{lone}
use denote.RawPtr.{Ptr, block_ptr, null_ptr}
use denote.Struct.Struct.{exits_of}
use denote.Struct.Owning.{shape, fields, to}
use denote.Param.Send.{IsSend, AllSend, owning_send, struct_send, sendable}
use Rattle.std.specs.declared.option.Option.{Option}
use Rattle.std.specs.declared.option.Option.TheVariants.{None, Some}
use Rattle.std.proofs.Crossing as heap
use Rattle.std_alloc.proofs.SendSync.{quiet, lies}
use Rattle.std.proofs.alloc.Global.TheSendSync as allocator
use Rattle.szg_c.proofs.HeldValues.{Z, holds}
use Rattle.szg_c.proofs.HandleValues.{Kind, type, Handle}

module _ (N : Kind) (s : IsSend N.R) where
  held_keyless : (a : Z.Denot) (p : Ptr) (value : Option N.R.Denot) → Keyless (holds N.R a p value)
  held_keyless a null_ptr None = tt
  held_keyless a null_ptr (Some x) = tt
  held_keyless a (block_ptr b o) None = tt
  held_keyless a (block_ptr b o) (Some x) = (lies N.R s (block_ptr b o) x, heap.frees.frees a (raw (lone N.R.mir)) (block_ptr b o))

  pub handle_send : IsSend (Handle N)
  handle_send =
      let all : AllSend (fields (type N)) = (search sendable, (allocator.the_field_send, tt)) in
      owning_send (type N) all (λ d. held_keyless (N.alloc d) (N.at d) (N.value d))
      (λ k. quiet (to (type N)) (exits_of k (fields (type N))) ((struct_send (shape (type N)) all).leaving k))
