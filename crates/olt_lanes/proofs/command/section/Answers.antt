use Rattle.olt_lanes.proofs.Sending.{section_kept}
use Rattle.olt_lanes.proofs.command.section.Goals as goal

pub returns : goal.returns
returns c =
    record {
      value = section_kept c.args.sections.now c.args.number c.word.result.now c.front_filled.result
          c.requires.sections c.word.ensures.value c.front_filled.ensures.value;
    }
