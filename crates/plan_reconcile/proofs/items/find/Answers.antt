use Rattle.std.proofs.Common.{◌≡◌, ℕ, ◌∙◌, ap, sym, arith}
use Rattle.std.specs.declared.cmp.Ordering.TheVariants.{Less, Equal, Greater}
use Rattle.mib_spec.specs.Database.{entity_cmp}
use Rattle.plan_reconcile.specs.declared.items.Item.{Item}
use Rattle.plan_reconcile.specs.Items.{item_at, no_item}
use Rattle.mib_store.proofs.Order.{narrows_all, narrows_up, narrows_down, finds}
use Rattle.plan_reconcile.proofs.Places.{found_at, gap_at}
use Rattle.plan_reconcile.proofs.items.find.Goals as goal

pub loop-low-init : goal.loop-low-init
loop-low-init c = narrows_all (λ (p : Item). p.entity) no_item c.args.items.now c.args.entity c.len-high.result c.len-high.ensures.value

pub item_at-requires : goal.item_at-requires
item_at-requires c = omega (arith, c.place_between-middle.ensures.below, c.loop-low.invariant.in_range)

pub loop-low-preserved-in-Less : goal.loop-low-preserved-in-Less
loop-low-preserved-in-Less c =
    let middle : ℕ = c.place_between-middle.result in
    let less : entity_cmp (item_at c.args.items.now middle).entity c.args.entity ≡ Less = ap (λ (p : Item). entity_cmp p.entity c.args.entity) (sym c.item_at.ensures) ∙ sym c.cmp.ensures ∙ c.in-Less.is in
    narrows_up (λ (p : Item). p.entity) no_item c.args.items.now c.args.entity c.loop-low.low c.loop-low.high middle c.requires c.loop-low.invariant c.place_between-middle.ensures.from c.place_between-middle.ensures.below less

pub returns-in-Equal-clause-found : goal.returns-in-Equal-clause-found
returns-in-Equal-clause-found c =
    let middle : ℕ = c.place_between-middle.result in
    let equal : entity_cmp (item_at c.args.items.now middle).entity c.args.entity ≡ Equal = ap (λ (p : Item). entity_cmp p.entity c.args.entity) (sym c.item_at.ensures) ∙ sym c.cmp.ensures ∙ c.in-Equal.is in
    found_at c.args.items.now c.args.entity middle (finds (λ (p : Item). p.entity) no_item c.args.items.now c.args.entity c.loop-low.low c.loop-low.high middle c.requires c.loop-low.invariant c.place_between-middle.ensures.below equal)

pub loop-low-preserved : goal.loop-low-preserved
loop-low-preserved c =
    let middle : ℕ = c.place_between-middle.result in
    let more : entity_cmp (item_at c.args.items.now middle).entity c.args.entity ≡ Greater = ap (λ (p : Item). entity_cmp p.entity c.args.entity) (sym c.item_at.ensures) ∙ sym c.cmp.ensures ∙ c.in-Greater.is in
    narrows_down (λ (p : Item). p.entity) no_item c.args.items.now c.args.entity c.loop-low.low c.loop-low.high middle c.requires c.loop-low.invariant c.place_between-middle.ensures.from c.place_between-middle.ensures.below more

pub returns-clause-absent : goal.returns-clause-absent
returns-clause-absent c = gap_at c.args.items.now c.args.entity c.loop-low.low c.loop-low.high c.loop-low.invariant (omega (arith, c.loop-low-test.false))
