use Rattle.std.proofs.Common.{◌≡◌, ◌≤◌, ap, sym, ◌∙◌, arith, drop, length, ◌+◌, length-take}
use Rattle.pm_history.proofs.Puts.{zeros_behind}
use Rattle.pm_history.proofs.replies.Written.push.Goals as goal

pub invariant_of-self : goal.invariant_of-self
invariant_of-self c =
    let lens : length c.args.self.now ≡ c.self.inside.len = ap length (sym c.self.view_is) ∙ simp length-take (omega (arith, c.self.invariant.0, c.self.told)) in
    let room : c.self.inside.len + length c.args.bytes.now ≤ 32 = omega (arith, c.requires, lens) in (
      room,
      ap (drop (c.self.inside.len + length c.args.bytes.now)) c.put_at.ensures.written
          ∙ zeros_behind c.self.inside.bytes c.args.bytes.now c.self.inside.len room c.self.told c.self.invariant.1,
    )
