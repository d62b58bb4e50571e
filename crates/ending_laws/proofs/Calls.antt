-- A caller's command leaves what is outstanding alone.
use Rattle.std.proofs.Common.{◌≡◌, ℕ, ◌+◌, Bool, true, false, cond, List, [], ◌∷◌, Option, Some, None, is_none, refl, sym, ap, subst, ◌∙◌}
use Rattle.std.proofs.lemmas.Bool.{and_parts}
use Rattle.omci_types.specs.declared.EntityId.{EntityId}
use Rattle.omci_types.specs.declared.Priority.{Priority}
use Rattle.omci_types.specs.declared.Priority.TheVariants.{Low, High}
use Rattle.message_spec.specs.declared.Request.{Request}
use Rattle.message_spec.specs.declared.Request.TheVariants as request
use Rattle.lane_spec.specs.Command.{Command, probe_command, check_command, ask, job_command, sync_entity}
use Rattle.lane_spec.specs.Lane.{Lane, Waiting}
use Rattle.manager_spec.specs.declared.Refusal.{Refusal}
use Rattle.manager_spec.specs.Upgrade.{start_command}
use Rattle.manager_spec.specs.Manager.{Order, Stage, Probing, AskingAlarms, StartingImage, Manager, Outcome, lane_in, and_then, sends_nothing, command_sent}
use Rattle.manager_spec.specs.Resync.{with_job}
use Rattle.manager_spec.specs.Submitting.{occupied, occupied_by, unproven, out_of_step, needs_copy, job_running, job_in_the_way, other_change, second_change, first_refusal, unless_refused, probe_refusal, after_probe, submit_refusal, leaves_copy, leave_if, after_submit, check_refusal, after_check, resync_refusal, resync_begun, after_resync, audit_refusal, audit_asked, after_audit, image_refusal, check_given, image_asked, after_image}
use Rattle.world_laws.proofs.Likeness.{SameLanes}
use Rattle.world_laws.proofs.Keeping.{leave_if_keeps}
use Rattle.ending_laws.proofs.Told.{reports_stay}
use Rattle.ending_laws.proofs.Lanes.{IsSound, Goes, lane_same, same_sound, sent_sound, goes_same, goes_from, goes_then, goes_sent}

-- what holds of every step but a second: both lanes are sound after it, and each goes on
pub record Steady (m : Manager) (o : Outcome) : Type 0 where
  pub sound : IsSound m → IsSound o.manager
  pub goes : (lane : Priority) → Goes lane 0 m o

pub first_none : (o : Option Refusal) (rest : List (Option Refusal))
    → first_refusal (o ∷ rest) ≡ None → (o ≡ None) × (first_refusal rest ≡ None)
first_none None rest e = (refl, e)
first_none (Some r) rest e = absurd (cc)

pub unoccupied : (o : Option Waiting) → occupied_by o ≡ None → o ≡ None
unoccupied None e = refl
unoccupied (Some w) e = absurd (cc)

-- the lane is the first of two tests, or the second of more
pub free_first : (lane : Priority) (m : Manager) (rest : List (Option Refusal))
    → first_refusal (occupied lane m ∷ rest) ≡ None → (lane_in lane m).outstanding ≡ None
free_first lane m rest e = unoccupied (lane_in lane m).outstanding (first_none (occupied lane m) rest e).0

pub free_second : (o : Option Refusal) (lane : Priority) (m : Manager)
    (rest : List (Option Refusal))
    → first_refusal (o ∷ occupied lane m ∷ rest) ≡ None → (lane_in lane m).outstanding ≡ None
free_second o lane m rest e = free_first lane m rest (first_none o (occupied lane m ∷ rest) e).1

-- a refused command comes to nothing
pub unless_steady : (r : Option Refusal) (o : Outcome) (m : Manager) → (r ≡ None → Steady m o)
    → Steady m (unless_refused r o m).outcome
unless_steady None o m f = f refl
unless_steady (Some refusal) o m f = record {
  sound = λ h. h;
  goes = λ lane. goes_same lane m (sends_nothing m) refl;
}

-- a command is drawn by a manager with the same lanes
sent_steady : (asks : Bool) (to : Priority) (c : Command) (m n : Manager) → SameLanes m n
    → (lane_in to m).outstanding ≡ None → Steady m (command_sent asks to c n)
sent_steady asks to c m n s none = record {
  sound = λ h. sent_sound asks to c n (same_sound m n s h);
  goes = λ lane. goes_from lane 0 m n (command_sent asks to c n) (lane_same lane m n s)
      (goes_sent lane to asks c n (ap (λ l. l.outstanding) (lane_same to m n s) ∙ none));
}

itself : (m : Manager) → SameLanes m m
itself m = record { low = refl; high = refl }

pub probe_steady : (lane : Priority) (m : Manager) → Steady m (after_probe lane m).outcome
unfolding after_probe
probe_steady lane m =
    unless_steady (probe_refusal lane m) (command_sent false lane probe_command m) m
    (λ none. sent_steady false lane probe_command m m (itself m)
    (free_first lane m (job_running m ∷ []) none))

pub submit_steady : (lane : Priority) (entity : EntityId) (r : Request) (m : Manager)
    → Steady m (after_submit lane entity r m).outcome
unfolding after_submit
submit_steady lane entity r m =
    unless_steady (submit_refusal lane r m)
    (command_sent false lane (ask entity r) (leave_if (leaves_copy r) m)) m
    (λ none. sent_steady false lane (ask entity r) m (leave_if (leaves_copy r) m)
    (leave_if_keeps (leaves_copy r) m).same
    (free_second (unproven lane m) lane m (out_of_step (needs_copy r) m ∷ job_in_the_way lane r m
    ∷ second_change r lane m ∷ []) none))

pub check_steady : (m : Manager) → Steady m (after_check m).outcome
unfolding after_check
check_steady m =
    unless_steady (check_refusal m) (command_sent false Low check_command m) m
    (λ none. sent_steady false Low check_command m m (itself m)
    (free_second (unproven Low m) Low m (out_of_step true m ∷ job_running m ∷ other_change Low m
    ∷ []) none))

resync_steady_by : (m : Manager) → m.high.outstanding ≡ None → m.low.outstanding ≡ None
    → Steady m (resync_begun m)
resync_steady_by m high low = record {
  sound = λ h. (sent_steady false Low probe_command a.manager a.manager (itself a.manager) low).sound
      (first.sound h);
  goes = λ lane. goes_then lane 0 0 m a (command_sent false Low probe_command)
      (reports_stay a.manager (command_sent false Low probe_command a.manager).manager refl)
      (first.goes lane)
      ((sent_steady false Low probe_command a.manager a.manager (itself a.manager) low).goes lane);
}
  where
    b : Manager
    b = with_job (Some (Probing true true)) m

    a : Outcome
    a = command_sent false High probe_command b

    first : Steady m a
    first = sent_steady false High probe_command m b (record { low = refl; high = refl }) high

pub resync_steady : (m : Manager) → Steady m (after_resync m).outcome
unfolding after_resync
resync_steady m =
    unless_steady (resync_refusal m) (resync_begun m) m
    (λ none. resync_steady_by m (free_first High m (occupied Low m ∷ job_running m ∷ []) none)
    (free_second (occupied High m) Low m (job_running m ∷ []) none))

pub audit_steady : (m : Manager) → Steady m (after_audit m).outcome
unfolding after_audit
audit_steady m =
    unless_steady (audit_refusal m) (audit_asked m) m
    (λ none. sent_steady true Low (job_command sync_entity (request.Alarms 0)) m
    (with_job (Some AskingAlarms) m) (record { low = refl; high = refl })
    (free_second (unproven Low m) Low m (job_running m ∷ []) none))

pub image_steady : (slot asked : ℕ) (check : Option ℕ) (image : List ℕ) (m : Manager)
    → Steady m (after_image slot asked check image m).outcome
unfolding after_image
image_steady slot asked check image m =
    unless_steady (image_refusal m) (image_asked order asked image m) m
    (λ none. sent_steady false Low (start_command order asked image) m
    (with_job (Some (StartingImage order asked image)) m) (record { low = refl; high = refl })
    (free_second (unproven Low m) Low m (job_running m ∷ other_change Low m ∷ []) none))
  where
    order : Order
    order = record { slot = slot; check = check_given check image }
