use Rattle.std.proofs.Common.{◌≡◌, ◌+◌, ℕ, List, [], ◌∷◌, ◌++◌, ◌≤◌, length, take, drop, get_or, set, sym, ap, ◌∙◌, arith, append_assoc, length-append, length-take, take-append-drop}
use Rattle.std.proofs.lemmas.List.{take_more}
use Rattle.slot_spec.specs.Layout.{version}
use Rattle.slot_laws.proofs.Version.{version_push, version_full}
use Rattle.image_slots.proofs.fields.version_after.Goals as goal

so_many : (put piece : List ℕ) (i : ℕ) → i ≤ length piece → length (put ++ take i piece) ≡ length put + i
so_many put piece i within = omega (arith, length-append put (take i piece), length-take i piece)

pub loop-byte-preserved : goal.loop-byte-preserved
loop-byte-preserved c = let l = c.loop-byte in let piece = c.args.piece.now in record {
  place = omega (arith, l.invariant.place);
  so_far = λ put have was.
      let before = put ++ take l.byte-index piece in
      let long = so_many put piece l.byte-index (omega (arith, c.loop-byte-test.true)) in
      ap (λ (v : List ℕ). set v l.place (get_or piece l.byte-index 0)) (l.invariant.so_far put have was)
      ∙ version_push before (get_or piece l.byte-index 0) l.place (omega (arith, long, l.invariant.place, have)) c.if-place-ge-VERSION_BYTES.false
      ∙ ap version (append_assoc put (take l.byte-index piece) (get_or piece l.byte-index 0 ∷ []) ∙ ap (λ (x : List ℕ). put ++ x) (sym (take_more piece l.byte-index 0 c.loop-byte-test.true)));
}

pub returns-then-place-ge-VERSION_BYTES : goal.returns-then-place-ge-VERSION_BYTES
returns-then-place-ge-VERSION_BYTES c = record {
  version = λ put have was.
      let l = c.loop-byte in
      let piece = c.args.piece.now in
      let long = so_many put piece l.byte-index (omega (arith, c.loop-byte-test.true)) in
      l.invariant.so_far put have was ∙ sym (version_full (put ++ take l.byte-index piece) (drop l.byte-index piece) (omega (arith, long, l.invariant.place, have, c.if-place-ge-VERSION_BYTES.true)))
      ∙ ap version (append_assoc put (take l.byte-index piece) (drop l.byte-index piece) ∙ ap (λ (x : List ℕ). put ++ x) (take-append-drop l.byte-index piece));
}
