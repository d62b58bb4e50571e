use Rattle.std.proofs.Common.{rules, ℕ, Result, subst, length}
use Rattle.std.specs.List.Sorted.{IsSearchInRange, IsBinarySearchResult}
use Rattle.std.specs.Ordering.{nat_cmp}
use Rattle.std.proofs.lemmas.List.Sorted.{answers_always}
use Rattle.mib_upload.specs.declared.taken.Taken.{Taken}
use Rattle.mib_upload.proofs.Carried.{held_at, held_before}
use Rattle.mib_upload.proofs.taken.holder.Goals as goal

pub returns-in-Ok : goal.returns-in-Ok
returns-in-Ok c =
    let facts = c.binary_search_by_key.ensures in
    let by_key = facts.position (λ taken. taken.first) (answers_always _ _ _ (λ f a r g called. search rules)) in
    held_at c.args.entries.now c.args.number c.requires c.in-Ok.at
    (subst (λ (r : Result ℕ ℕ). IsSearchInRange r (length c.args.entries.now)) c.in-Ok.is facts.bound)
    (subst (λ (r : Result ℕ ℕ). IsBinarySearchResult (λ (t : Taken). nat_cmp t.first c.args.number) c.args.entries.now r) c.in-Ok.is by_key)

pub returns-in-Err : goal.returns-in-Err
returns-in-Err c =
    let facts = c.binary_search_by_key.ensures in
    let by_key = facts.position (λ taken. taken.first) (answers_always _ _ _ (λ f a r g called. search rules)) in
    held_before c.args.entries.now c.args.number c.requires c.in-Err.at
    (subst (λ (r : Result ℕ ℕ). IsSearchInRange r (length c.args.entries.now)) c.in-Err.is facts.bound)
    (subst (λ (r : Result ℕ ℕ). IsBinarySearchResult (λ (t : Taken). nat_cmp t.first c.args.number) c.args.entries.now r) c.in-Err.is by_key)
    c.place_before.result c.place_before.ensures
