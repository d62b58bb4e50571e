use Rattle.std.proofs.Common.{◌∙◌, ap}
use Rattle.message_spec.specs.declared.Response.{Response}
use Rattle.unit_spec.specs.Onu.{response_frame}
use Rattle.onu_agent.specs.Images.{image_response}
use Rattle.onu_agent.proofs.Coming.{image_carried, carried_in}
use Rattle.onu_agent.proofs.unit.Unit.carry_image.Goals as goal

pub returns-clause-carried : goal.returns-clause-carried
returns-clause-carried g c = rw (← c.self.view_is) (λ u s.
    image_carried g.D.Disk.seen g.D.Disk.may_leave g.D.Disk.clock g.D.Disk.left_since g.D.Disk.rig g.D.Disk.faults _ _ c.carry-handled.result c.slot_of-slot.result c.software-software.result c.response_to.result c.image_note.result c.args.frame.now c.args.request.now u s c.requires.asks
    (carried_in g.D.Disk.seen g.D.Disk.may_leave g.D.Disk.clock g.D.Disk.left_since g.D.Disk.rig g.D.Disk.faults _ _ c.carry-handled.result c.args.frame.now c.args.request.now u s c.carry-handled.ensures.carried)
    c.carry-handled.ensures.room c.software-software.ensures.shows c.slot_of-slot.ensures.value c.handled.ensures.after c.leaving_after-self-inside.ensures.value
    (c.response_to.ensures.value ∙ ap (λ (r : Response). response_frame c.args.frame.now r) (c.image_response.ensures.value ∙ ap (image_response c.args.request.now) c.code_of.ensures.value)) c.image_note.ensures.value)
