use Rattle.std.proofs.Common.{◌≡◌, ◌++◌, string_bytes, take}
use Rattle.szg_results.specs.Objects.{others_text}
use Rattle.szg_results.proofs.objects.add_others.Given as goal

-- the objects so far
abbrev pub invariant-others : goal.invariant-others
invariant-others l = string_bytes l.text ≡ string_bytes l.initial.text ++ others_text l.position (take l.other-index l.others)
