use Rattle.std.proofs.Common.{◌++◌, List, ℕ, ap, ◌∙◌}
use Rattle.world_spec.specs.declared.Effect.TheVariants as effect
use Rattle.world_spec.specs.Trace.{line_text}
use Rattle.unit_turns.proofs.Answering.{line_broke, line_written}
use Rattle.unit_turns.proofs.starting.write_start.Goals as goal

pub returns-in-Err-write_all : goal.returns-in-Err-write_all
returns-in-Err-write_all g c = record {
  written = line_broke (line_text c.args.turn (effect.UnitStarted c.args.life c.args.software))
      c.bytes.result.now (g.K.Sink.written c.args.sink.now) (g.K.Sink.written c.write_all.new.sink)
      (g.K.Sink.faults c.args.sink.now) (g.K.Sink.faults c.write_all.new.sink)
      (c.bytes.ensures.value ∙ c.in-Ok.ensures.text
      ∙ ap (λ (x : List ℕ). x ++ line_text c.args.turn (effect.UnitStarted c.args.life c.args.software))
      c.new-lines.ensures.empty) c.in-Err-write_all.ensures.broken;
}

pub returns : goal.returns
returns g c = record {
  written = line_written (line_text c.args.turn (effect.UnitStarted c.args.life c.args.software))
      c.bytes.result.now (g.K.Sink.written c.args.sink.now) (g.K.Sink.written c.write_all.new.sink)
      (g.K.Sink.faults c.args.sink.now) (g.K.Sink.faults c.write_all.new.sink)
      (c.bytes.ensures.value ∙ c.in-Ok.ensures.text
      ∙ ap (λ (x : List ℕ). x ++ line_text c.args.turn (effect.UnitStarted c.args.life c.args.software))
      c.new-lines.ensures.empty) c.in-Ok-write_all.ensures.whole c.in-Ok-write_all.ensures.kept;
}
