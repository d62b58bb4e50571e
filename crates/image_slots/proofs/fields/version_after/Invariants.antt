use Rattle.std.proofs.Common.{◌≡◌, ◌+◌, ℕ, List, ◌++◌, length, take}
use Rattle.image_slots.proofs.fields.version_after.Given as goal
use Rattle.slot_spec.specs.Layout.{version}

abbrev pub invariant-loop-byte : goal.invariant-loop-byte
invariant-loop-byte l = record {
  place : l.place ≡ l.fn.have + l.byte-index;
  so_far : (put : List ℕ) → l.fn.have ≡ length put → l.fn.version ≡ version put → l.version ≡ version (put ++ take l.byte-index l.piece);
}
