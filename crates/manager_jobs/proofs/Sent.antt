-- What a job sends next, and what a second sends.
use Rattle.std.proofs.Common.{◌≡◌, true, false, List, ◌++◌, Option, Some, None}
use Rattle.std.proofs.Common.{length, sym, ap, subst, ◌∙◌}
use Rattle.std.specs.Prelude.{option_map}
use Rattle.std.proofs.lemmas.List.Elements.{All-append}
use Rattle.std.proofs.lemmas.Grind.{flat_map-append}
use Rattle.omci_types.specs.declared.Priority.TheVariants.{Low, High}
use Rattle.lane_spec.specs.Command.{Command}
use Rattle.manager_spec.specs.Manager.{Manager, Sending, command_sent, packets_of}
use Rattle.manager_spec.specs.Jobs.{Wish, wish_in, is_free, send_wish, job_goes_on, job_resumes}
use Rattle.manager_spec.specs.Steps.{tick_lane, after_tick}
use Rattle.manager_jobs.specs.Stages.{with_wish}
use Rattle.manager_jobs.specs.Packets.{AreFrames}

wish_sent : (wish : Option Wish) (c : Command) (m : Manager)
    → Some c ≡ option_map (λ w. w.command) wish
    → packets_of (command_sent false Low c (with_wish wish m)).sendings
    ≡ packets_of (send_wish true wish m).sendings
wish_sent None c m is = absurd (cc)
wish_sent (Some w) c m is =
    let same : c ≡ w.command = cc in
    ap (λ c. packets_of (command_sent false Low c (with_wish (Some w) m)).sendings) same

-- the packets of the command that the job wants next
pub goes_on : (m n : Manager) (c : Command)
    → is_free m.low ≡ true
    → Some c ≡ option_map (λ w. w.command) (wish_in m.job)
    → n ≡ with_wish (wish_in m.job) m
    → packets_of (command_sent false Low c n).sendings ≡ packets_of (job_goes_on m).sendings
unfolding job_goes_on
goes_on m n c free is e =
    ap (λ n. packets_of (command_sent false Low c n).sendings) e
    ∙ wish_sent (wish_in m.job) c m is
    ∙ ap (λ b. packets_of (send_wish b (wish_in m.job) m).sendings) (sym free)

frames_then : (a b : List Sending)
    → AreFrames (packets_of a)
    → AreFrames (packets_of b)
    → AreFrames (packets_of (a ++ b))
frames_then a b first then =
    subst (λ ps. AreFrames ps) (sym (flat_map-append (λ s. s.packets) a b))
    (All-append (λ packet. length packet ≡ 48) (packets_of a) (packets_of b) first then)

-- what both lanes send, and then the job
pub ticked_whole : (m n k : Manager)
    → n ≡ (tick_lane High m).manager
    → k ≡ (tick_lane Low n).manager
    → AreFrames (packets_of (tick_lane High m).sendings)
    → AreFrames (packets_of (tick_lane Low n).sendings)
    → AreFrames (packets_of (job_resumes k).sendings)
    → AreFrames (packets_of (after_tick m).sendings)
unfolding after_tick
ticked_whole m n k high low first second third =
    let at_low : AreFrames (packets_of (tick_lane Low (tick_lane High m).manager).sendings) =
    subst (λ n. AreFrames (packets_of (tick_lane Low n).sendings)) high second in
    let at_job : AreFrames
    (packets_of (job_resumes (tick_lane Low (tick_lane High m).manager).manager).sendings) =
    subst (λ k. AreFrames (packets_of (job_resumes k).sendings))
    (low ∙ ap (λ n. (tick_lane Low n).manager) high) third in
    frames_then
    ((tick_lane High m).sendings ++ (tick_lane Low (tick_lane High m).manager).sendings)
    (job_resumes (tick_lane Low (tick_lane High m).manager).manager).sendings
    (frames_then (tick_lane High m).sendings (tick_lane Low (tick_lane High m).manager).sendings
    first at_low)
    at_job
