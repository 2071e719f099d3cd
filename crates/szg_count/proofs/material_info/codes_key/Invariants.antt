use Rattle.std.proofs.Common.{◌≡◌, ◌≤◌, ◌*◌, ◌^◌, take}
use Rattle.szg_count.specs.Facts.{key_of}
use Rattle.szg_count.proofs.material_info.codes_key.Given as goal

abbrev pub invariant-loop-code : goal.invariant-loop-code
invariant-loop-code l = record {
  is : l.key ≡ key_of (take l.code-index l.codes);
  small : l.key ≤ l.code-index * 2 ^ 45;
}
