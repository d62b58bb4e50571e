use Rattle.std.proofs.Common.{◌≡◌, ◌<◌, ◌∙◌, ap, sym, subst, length, take, arith}
use Rattle.std.specs.Prelude.{slice_index_or}
use Rattle.std.proofs.lemmas.List.{length-map}
use Rattle.mib_spec.specs.Database.{bytes_of}
use Rattle.upload_spec.specs.Pieces.{mask_of}
use Rattle.mib_upload.specs.Parts.{part_as, part_at, IsKnown}
use Rattle.mib_upload.proofs.Places.{known_at}
use Rattle.mib_upload.proofs.Joined.{entry_mask, entry_values}
use Rattle.mib_upload.proofs.copy.MibCopy.entry.Goals as goal

pub returns-clause-mask : goal.returns-clause-mask
returns-clause-mask c other =
    let lt : c.args.place < length c.self.inside.parts = omega (arith, c.requires, ap length (sym c.self.view_is), length-map c.self.inside.parts part_as) in
    let is : c.part_at-part.result.now ≡ part_at c.self.inside.parts c.args.place = c.part_at-part.ensures in
    subst (λ d. c.part_at-part.result.now.mask.0 ≡ mask_of (slice_index_or d c.args.place other).1) c.self.view_is
    (entry_mask c.self.inside.parts c.args.place c.part_at-part.result.now other lt is (subst IsKnown (sym is) (known_at c.self.inside.parts c.args.place lt c.self.invariant.known)))

pub returns-clause-values : goal.returns-clause-values
returns-clause-values c other =
    let lt : c.args.place < length c.self.inside.parts = omega (arith, c.requires, ap length (sym c.self.view_is), length-map c.self.inside.parts part_as) in
    let is : c.part_at-part.result.now ≡ part_at c.self.inside.parts c.args.place = c.part_at-part.ensures in
    subst (λ d. c.cut.result.now ≡ bytes_of (slice_index_or d c.args.place other).1) c.self.view_is
    (c.cut.ensures ∙ ap (λ n. take n c.part_at-part.result.now.values) c.width_of.ensures ∙ entry_values c.self.inside.parts c.args.place c.part_at-part.result.now other lt is)
