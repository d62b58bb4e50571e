use Rattle.link_replay.proofs.Asking.{others}
use Rattle.link_replay.proofs.machine.Machine.act_apart.Goals as goal

pub returns-in_default : goal.returns-in_default
returns-in_default c = record {
  follows = λ e s l same. absurd (others c.args.event.now c.requires.apart c.in_default.not-Probe c.in_default.not-Resync c.in_default.not-Audit c.in_default.not-Check c.in_default.not-Image c.in_default.not-Deliver c.in_default.not-Flow c.in_default.not-CutIn c.in_default.not-NoiseUnit
      c.in_default.not-NoiseOlt c.in_default.not-Tick c.in_default.not-Sense c.in_default.not-Alarm c.in_default.not-CutUnit c.in_default.not-CutOlt c.in_default.not-StartUnit c.in_default.not-StartOlt);
}
