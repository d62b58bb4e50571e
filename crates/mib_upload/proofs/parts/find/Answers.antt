use Rattle.std.proofs.Common.{◌≡◌, ℕ, ◌∙◌, ap, sym, arith}
use Rattle.std.specs.declared.cmp.Ordering.TheVariants.{Less, Equal, Greater}
use Rattle.mib_spec.specs.Database.{entity_cmp}
use Rattle.mib_upload.specs.declared.part.Part.{Part}
use Rattle.mib_upload.specs.Parts.{part_at, no_part}
use Rattle.mib_store.proofs.Order.{narrows_all, narrows_up, narrows_down, finds}
use Rattle.mib_upload.proofs.Places.{found_at, gap_at}
use Rattle.mib_upload.proofs.parts.find.Goals as goal

pub loop-low-init : goal.loop-low-init
loop-low-init c = narrows_all (λ (p : Part). p.entity) no_part c.args.parts.now c.args.entity c.len-high.result c.len-high.ensures.value

pub part_at-requires : goal.part_at-requires
part_at-requires c = omega (arith, c.place_between-middle.ensures.below, c.loop-low.invariant.in_range)

pub loop-low-preserved-in-Less : goal.loop-low-preserved-in-Less
loop-low-preserved-in-Less c =
    let middle : ℕ = c.place_between-middle.result in
    let less : entity_cmp (part_at c.args.parts.now middle).entity c.args.entity ≡ Less = ap (λ (p : Part). entity_cmp p.entity c.args.entity) (sym c.part_at.ensures) ∙ sym c.cmp.ensures ∙ c.in-Less.is in
    narrows_up (λ (p : Part). p.entity) no_part c.args.parts.now c.args.entity c.loop-low.low c.loop-low.high middle c.requires c.loop-low.invariant c.place_between-middle.ensures.from c.place_between-middle.ensures.below less

pub returns-in-Equal-clause-found : goal.returns-in-Equal-clause-found
returns-in-Equal-clause-found c =
    let middle : ℕ = c.place_between-middle.result in
    let equal : entity_cmp (part_at c.args.parts.now middle).entity c.args.entity ≡ Equal = ap (λ (p : Part). entity_cmp p.entity c.args.entity) (sym c.part_at.ensures) ∙ sym c.cmp.ensures ∙ c.in-Equal.is in
    found_at c.args.parts.now c.args.entity middle (finds (λ (p : Part). p.entity) no_part c.args.parts.now c.args.entity c.loop-low.low c.loop-low.high middle c.requires c.loop-low.invariant c.place_between-middle.ensures.below equal)

pub loop-low-preserved : goal.loop-low-preserved
loop-low-preserved c =
    let middle : ℕ = c.place_between-middle.result in
    let more : entity_cmp (part_at c.args.parts.now middle).entity c.args.entity ≡ Greater = ap (λ (p : Part). entity_cmp p.entity c.args.entity) (sym c.part_at.ensures) ∙ sym c.cmp.ensures ∙ c.in-Greater.is in
    narrows_down (λ (p : Part). p.entity) no_part c.args.parts.now c.args.entity c.loop-low.low c.loop-low.high middle c.requires c.loop-low.invariant c.place_between-middle.ensures.from c.place_between-middle.ensures.below more

pub returns-clause-absent : goal.returns-clause-absent
returns-clause-absent c = gap_at c.args.parts.now c.args.entity c.loop-low.low c.loop-low.high c.loop-low.invariant (omega (arith, c.loop-low-test.false))
