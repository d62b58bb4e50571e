use Rattle.std.proofs.Common.{ap, ◌∙◌}
use Rattle.extended_spec.specs.Layouts.{long_layout, need_of}
use Rattle.extended_contents.proofs.Members.{there_if}
use Rattle.extended_contents.proofs.reading.read_long.Goals as goal

pub message_of_kind-requires-clause-width : goal.message_of_kind-requires-clause-width
message_of_kind-requires-clause-width c =
    (there_if (long_layout c.in_ok-kind.kind) c.args.frame.now.contents (λ n is.
    c.in_default.not-Some n (c.need.ensures.value ∙ ap (need_of (long_layout c.in_ok-kind.kind)) c.contents-contents.ensures.value ∙ is))).width

pub message_of_kind-requires-clause-list : goal.message_of_kind-requires-clause-list
message_of_kind-requires-clause-list c =
    (there_if (long_layout c.in_ok-kind.kind) c.args.frame.now.contents (λ n is.
    c.in_default.not-Some n (c.need.ensures.value ∙ ap (need_of (long_layout c.in_ok-kind.kind)) c.contents-contents.ensures.value ∙ is))).list
