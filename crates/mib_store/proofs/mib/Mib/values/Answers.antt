use Rattle.std.proofs.Common.{◌≡◌, ◌<◌, List, ℕ, [], Some, None, ap, sym, subst, ◌∙◌, length, take, arith}
use Rattle.std.specs.Prelude.{slice_index_or}
use Rattle.std.proofs.lemmas.List.{length-map}
use Rattle.class_spec.specs.Classes.{class_row}
use Rattle.entity_classes.specs.Rule.{whole_width}
use Rattle.mib_spec.specs.Database.{bytes_of}
use Rattle.mib_store.specs.declared.entry.Entry.{Entry}
use Rattle.mib_store.specs.Entries.{database_of, held_of, held_in, width_in, entry_at}
use Rattle.mib_store.proofs.Kept.{values_seen, no_values_seen, held_seen, held_none, width_seen}
use Rattle.mib_store.proofs.mib.Mib.values.Goals as goal

pub returns-in-Some-clause-bytes : goal.returns-in-Some-clause-bytes
returns-in-Some-clause-bytes c other =
    let lt : c.args.place < length c.self.inside.table = omega (arith, c.requires, ap length (sym c.self.view_is), length-map c.self.inside.table held_of) in
    subst (λ d. c.front.result.now ≡ bytes_of (slice_index_or d c.args.place other).1.values) c.self.view_is
    (c.front.ensures.bytes ∙ ap (λ w. take w c.entry-entry.result.now.values) c.width.ensures.width ∙ ap (λ (e : Entry). take (whole_width c.in-Some.class.attributes) e.values) c.entry-entry.ensures
    ∙ values_seen c.self.inside.table c.args.place other c.in-Some.class lt (ap (λ (e : Entry). class_row e.entity.class) (sym c.entry-entry.ensures) ∙ sym c.in-Some.ensures.row))

pub returns-in-Some-clause-held : goal.returns-in-Some-clause-held
returns-in-Some-clause-held c other =
    let lt : c.args.place < length c.self.inside.table = omega (arith, c.requires, ap length (sym c.self.view_is), length-map c.self.inside.table held_of) in
    let row : class_row (entry_at c.self.inside.table c.args.place).entity.class ≡ Some c.in-Some.class = ap (λ (e : Entry). class_row e.entity.class) (sym c.entry-entry.ensures) ∙ sym c.in-Some.ensures.row in
    let bytes : c.front.result.now ≡ take (whole_width c.in-Some.class.attributes) (entry_at c.self.inside.table c.args.place).values =
    c.front.ensures.bytes ∙ ap (λ w. take w c.entry-entry.result.now.values) c.width.ensures.width ∙ ap (λ (e : Entry). take (whole_width c.in-Some.class.attributes) e.values) c.entry-entry.ensures in
    subst (λ d. slice_index_or d c.args.place other ≡ held_in (slice_index_or d c.args.place other).0 c.front.result.now) c.self.view_is
    (subst (λ (b : List ℕ). slice_index_or (database_of c.self.inside.table) c.args.place other ≡ held_in (slice_index_or (database_of c.self.inside.table) c.args.place other).0 b) (sym bytes)
    (held_seen c.self.inside.table c.args.place other c.in-Some.class lt row))

pub returns-in-Some-clause-width : goal.returns-in-Some-clause-width
returns-in-Some-clause-width c other =
    let lt : c.args.place < length c.self.inside.table = omega (arith, c.requires, ap length (sym c.self.view_is), length-map c.self.inside.table held_of) in
    let row : class_row (entry_at c.self.inside.table c.args.place).entity.class ≡ Some c.in-Some.class = ap (λ (e : Entry). class_row e.entity.class) (sym c.entry-entry.ensures) ∙ sym c.in-Some.ensures.row in
    subst (λ d. length c.front.result.now ≡ width_in (slice_index_or d c.args.place other).0.class) c.self.view_is
    (c.front.ensures.len ∙ c.width.ensures.width ∙ width_seen c.self.inside.table c.args.place other (Some c.in-Some.class) lt row)

pub returns-in-None-clause-bytes : goal.returns-in-None-clause-bytes
returns-in-None-clause-bytes c other =
    let lt : c.args.place < length c.self.inside.table = omega (arith, c.requires, ap length (sym c.self.view_is), length-map c.self.inside.table held_of) in
    subst (λ d. ◌≡◌ {A = List ℕ} [] (bytes_of (slice_index_or d c.args.place other).1.values)) c.self.view_is
    (no_values_seen c.self.inside.table c.args.place other lt (ap (λ (e : Entry). class_row e.entity.class) (sym c.entry-entry.ensures) ∙ sym c.in-None.ensures.row))

pub returns-in-None-clause-held : goal.returns-in-None-clause-held
returns-in-None-clause-held c other =
    let lt : c.args.place < length c.self.inside.table = omega (arith, c.requires, ap length (sym c.self.view_is), length-map c.self.inside.table held_of) in
    subst (λ d. slice_index_or d c.args.place other ≡ held_in (slice_index_or d c.args.place other).0 []) c.self.view_is
    (held_none c.self.inside.table c.args.place other lt (ap (λ (e : Entry). class_row e.entity.class) (sym c.entry-entry.ensures) ∙ sym c.in-None.ensures.row))

pub returns-in-None-clause-width : goal.returns-in-None-clause-width
returns-in-None-clause-width c other =
    let lt : c.args.place < length c.self.inside.table = omega (arith, c.requires, ap length (sym c.self.view_is), length-map c.self.inside.table held_of) in
    subst (λ d. 0 ≡ width_in (slice_index_or d c.args.place other).0.class) c.self.view_is
    (width_seen c.self.inside.table c.args.place other None lt (ap (λ (e : Entry). class_row e.entity.class) (sym c.entry-entry.ensures) ∙ sym c.in-None.ensures.row))
