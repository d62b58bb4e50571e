use Rattle.std.proofs.Common.{◌≡◌, ◌+◌, ◌-◌, ◌≤◌, ◌∙◌, take, length, ap, arith}
use Rattle.std.proofs.lemmas.List.{length-take}
use Rattle.store_laws.proofs.Tests.{window_within, put_refused, put_passed}
use Rattle.image_store.proofs.Carrying.{let_go}
use Rattle.image_store.proofs.load.put.Goals as goal

pub returns-in-Ok-clause-carried : goal.returns-in-Ok-clause-carried
returns-in-Ok-clause-carried g c = λ room held s m l arrived bytes.
    let d = c.args.download in
    let passes = rw (c.size.ensures.size, c.have.ensures.have) at c.in-Ok.ensures.passed in
    let is = put_passed d.target d.size c.args.granted l.put s held d.have c.args.arrived c.args.bytes.now l.loaded.have arrived bytes passes in
    let within = window_within c.args.granted d.size d.have c.args.arrived passes in
    let piece : c.front.result.now ≡ take (d.size - d.have) c.args.bytes.now = c.front.ensures.value ∙ ap (λ n. take n c.args.bytes.now) (omega (arith, c.size-in-Ok.ensures.size, c.have-in-Ok.ensures.have, c.saturating_sub-left.ensures)) in
    let fits : d.have + length c.front.result.now ≤ d.size = omega (arith, ap (λ x. length x) piece ∙ length-take (d.size - d.have) c.args.bytes.now, within) in
    rw (is, ← piece) (c.put_piece.ensures.carried room c.args.granted held m l fits)

pub returns-in-Err-clause-carried : goal.returns-in-Err-clause-carried
returns-in-Err-clause-carried g c = λ room held s m l arrived bytes.
    let d = c.args.download in
    let code = rw (c.size.ensures.size, c.have.ensures.have) at c.in-Err.ensures.refused in
    rw (put_refused d.target d.size c.args.granted l.put s held d.have c.in-Err.code.0 c.args.arrived l.loaded.have arrived code c.in-Err.ensures.fails) (let_go g.D.Disk.seen g.D.Disk.may_leave g.D.Disk.clock g.D.Disk.left_since g.D.Disk.rig g.D.Disk.faults g.met.D.Disk.rig_reads g.met.D.Disk.cut_counts g.met.D.Disk.only_now room c.args.active _ c.in-Err.code.0 held _ _ m c.refused.ensures.value l)
