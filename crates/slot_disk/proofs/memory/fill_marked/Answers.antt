use Rattle.std.proofs.Common.{◌≡◌, ◌+◌, ◌<◌, ℕ, false, cond, set, get_or, length, take, suc, ap, ◌∙◌, arith}
use Rattle.std.proofs.lemmas.List.{get_or_read}
use Rattle.slot_disk.specs.Memory.{with_byte}
use Rattle.slot_disk.proofs.Marks.{filled_next}
use Rattle.slot_disk.proofs.memory.fill_marked.Goals as goal

pub loop-place-preserved : goal.loop-place-preserved
loop-place-preserved c =
    let l = c.loop-place in
    let marks = c.args.marks.now.items in
    let b = c.args.byte in
    let below : l.place < length marks = omega arith in
    let mark : c.index.result.now ≡ get_or marks l.place false = get_or_read marks l.place c.index.result.now below c.index.ensures false in
    let next : suc l.place ≡ l.place + 1 = omega arith in
    record {
      so_far = c.put_if.ensures.put
          ∙ (λ i. cond (mark i) (set (l.invariant.so_far i) l.place b) (l.invariant.so_far i))
          ∙ filled_next b marks c.args.bytes.now.items l.place c.requires.marks below
          ∙ ap (λ (n : ℕ). with_byte b (take n marks) c.args.bytes.now.items) next;
      len = c.put_if.ensures.len ∙ l.invariant.len;
    }
