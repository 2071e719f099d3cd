-- What a `Monitored` wraps, and the bytes that it accepted.
use Rattle.std.specs.Prelude.{ℕ, List}
use Rattle.szg_files.specs.declared.monitored.Monitored.{Monitored}

abbrev pub inner_of : {T : Type 0} → Monitored T → T
inner_of h = h.inner

abbrev pub written_of : {T : Type 0} → Monitored T → List ℕ
written_of h = h.written.bytes
