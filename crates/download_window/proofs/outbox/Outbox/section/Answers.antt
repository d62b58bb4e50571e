use Rattle.std.proofs.Common.{◌+◌, Some, sym, ap, ◌∙◌}
use Rattle.window_spec.specs.Outgoing.{section_at, window_count}
use Rattle.window_laws.proofs.Sections.{section_got}
use Rattle.download_window.proofs.outbox.Outbox.section.Goals as goal

pub returns-clause-section : goal.returns-clause-section
returns-clause-section c =
    let o = c.args.self.now in
    section_got (window_count o) o.first c.args.number o.image c.requires
    ∙ ap (λ v. Some (section_at (v.first + c.args.number) v.image)) (sym c.self.view_is)
    ∙ ap (λ n. Some (section_at (c.self.inside.first + n) c.self.inside.image)) (sym c.from.ensures)
    ∙ ap (λ x. Some x) (sym c.section_of.ensures.value)
