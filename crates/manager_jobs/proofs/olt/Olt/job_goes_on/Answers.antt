-- What is sent is what the job wants next.
use Rattle.std.proofs.Common.{rules, ◌++◌, ◌∙◌, ap, subst, List, ℕ}
use Rattle.manager_jobs.specs.Packets.{AreFrames}
use Rattle.manager_jobs.proofs.Sent.{goes_on}
use Rattle.manager_jobs.proofs.olt.Olt.job_goes_on.Goals as goal

pub returns-in_ok-send-clause-packets : goal.returns-in_ok-send-clause-packets
returns-in_ok-send-clause-packets c =
    c.in_ok-send.ensures.packets
    ∙ ap (λ (ps : List (List ℕ)). c.args.out.now ++ ps)
    (goes_on c.args.self.now c.next_command.new.self c.in-Some.command
    (search rules) (search rules) c.in_ok-command.ensures.manager)

pub returns-in_ok-send-clause-whole : goal.returns-in_ok-send-clause-whole
returns-in_ok-send-clause-whole c =
    subst (λ (ps : List (List ℕ)). AreFrames ps)
    (goes_on c.args.self.now c.next_command.new.self c.in-Some.command
    (search rules) (search rules) c.in_ok-command.ensures.manager)
    c.in_ok-send.ensures.whole
