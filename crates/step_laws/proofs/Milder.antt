-- A step of the manager after which no more waits than before keeps all, as long as it loses no
-- change
-- while it is in step.
use Rattle.std.proofs.Common.{◌≡◌, ◌≢◌, ℕ, ◌<◌, ◌≤◌, ◌^◌, true, false, List, [], Option, Some, ◌⊎◌, inl, inr}
use Rattle.std.specs.List.{Contains}
use Rattle.std.proofs.Common.{⊎_elim, refl, sym, ap, subst, ◌∙◌}
use Rattle.omci_types.specs.declared.Priority.{Priority}
use Rattle.omci_types.specs.declared.Priority.TheVariants.{Low, High}
use Rattle.tci_spec.specs.Tci.{priority_of}
use Rattle.upload_spec.specs.Pieces.{Copy}
use Rattle.link_spec.specs.Link.{Link, lane_of}
use Rattle.lane_spec.specs.Command.{Command, command_packets, is_changing}
use Rattle.lane_spec.specs.Lane.{Waiting}
use Rattle.manager_spec.specs.declared.Phase.TheVariants as phase
use Rattle.manager_spec.specs.Manager.{Stage, Manager}
use Rattle.unit_spec.specs.Onu.{Onu}
use Rattle.world_spec.specs.History.{Told}
use Rattle.step_laws.proofs.Coming.{coming_map}
use Rattle.omci_types.specs.declared.Frame.{Frame}
use Rattle.frame_spec.specs.Baseline.{packet_frame}
use Rattle.history_spec.specs.History.{LastReply}
use Rattle.manager_spec.specs.Steps.{response_of}
use Rattle.resync_laws.specs.Agreeing.{IsCopied}
use Rattle.manager_spec.specs.Submitting.{leaves_copy}
use Rattle.resync_laws.proofs.Reading.{is_plain}
use Rattle.step_laws.proofs.Copying.{followed_copy}
use Rattle.step_laws.proofs.Reading.{IsExact}
use Rattle.step_laws.proofs.Parts.{lane_at, out_in, last_in, IsNewest, LaneOk, IsPut, IsQuiet}
use Rattle.step_laws.proofs.Parts.{AtStep, IsFollowed, AtCommand, IsImages, IsOnTheWay, InPhase}
use Rattle.step_laws.proofs.Parts.{HasCopy, Steady}

-- the same command waited before, under the same TCI
pub record Waited (lane : Priority) (m : Manager) (w : Waiting) : Type 0 where
  pub waiting : Waiting
  pub waits : out_in lane m ≡ Some waiting
  pub tci : waiting.tci ≡ w.tci
  pub command : waiting.command ≡ w.command

-- no more waits in the lanes
pub record Fewer (m a : Manager) : Type 0 where
  pub priority : (lane : Priority) → (lane_at lane a.low a.high).priority ≡ (lane_at lane m.low
      m.high).priority
  pub next : (lane : Priority) → (lane_at lane a.low a.high).next ≡ (lane_at lane m.low m.high).next
  pub out : (lane : Priority) (w : Waiting) → out_in lane a ≡ Some w → Waited lane m w

-- a job that waited for the reply to a start or an end of its download runs on
abbrev pub KeepsCommand : Option Stage → Option Stage → Type 0
KeepsCommand before after = (c : Command) → AtCommand before c → AtCommand after c

-- besides, no other job runs, and a manager that is still in step has the same copy, and lost no
-- change
pub record Milder (m a : Manager) : Type 0 where
  pub fewer : Fewer m a
  pub job : (s : Stage) → a.job ≡ Some s → m.job ≡ Some s
  pub kept : (lane : Priority) (w : Waiting) → a.phase ≡ phase.InStep → out_in lane m ≡ Some w
      → is_changing w.command.request ≡ true → Waited lane a w
  pub was : a.phase ≡ phase.InStep → m.phase ≡ phase.InStep
  pub copy : a.phase ≡ phase.InStep → a.copy ≡ m.copy
  pub command : a.phase ≡ phase.InStep → KeepsCommand m.job a.job

module _ (link : Link) (lives : ℕ) (unit : Option Onu) (m a : Manager) (t : Told)
    (f : Fewer m a) where
  pub still_changing : (lane : Priority) (w : Waiting) (e : out_in lane a ≡ Some w)
      → is_changing w.command.request ≡ true
      → is_changing (f.out lane w e).waiting.command.request ≡ true
  still_changing lane w e c = ap (λ (x : Command). is_changing x.request) (f.out lane w e).command
      ∙ c

  same_packets : (lane : Priority) (w : Waiting) (e : out_in lane a ≡ Some w)
      → command_packets (f.out lane w e).waiting.tci (f.out lane w e).waiting.command
      ≡ command_packets w.tci w.command
  same_packets lane w e =
      ap (λ n. command_packets n (f.out lane w e).waiting.command) (f.out lane w e).tci
      ∙ ap (λ c. command_packets w.tci c) (f.out lane w e).command

  pub fewer_lane : (lane : Priority) → LaneOk lane (lane_at lane m.low m.high) link t.names t.drawn
      (last_in lane t)
      → LaneOk lane (lane_at lane a.low a.high) link t.names t.drawn (last_in lane t)
  fewer_lane lane h = record {
    priority = f.priority lane ∙ h.priority;
    number = subst (λ n. n ≤ 32767) (sym (f.next lane)) h.number;
    out = λ w e.
        let k = h.out (f.out lane w e).waiting (f.out lane w e).waits in
        record {
          lane_is = ap priority_of (sym (f.out lane w e).tci) ∙ k.lane_is;
          fits = subst (λ n. n < 2 ^ 16) (f.out lane w e).tci k.fits;
          early = k.early;
        };
    newest = coming_map (IsNewest lane (last_in lane t) (out_in lane m))
        (IsNewest lane (last_in lane t) (out_in lane a)) link t.names
        (λ s name k. (
          k.0,
          λ w e same. subst (λ ps. Contains ps s.bytes) (same_packets lane w e)
              (k.1 (f.out lane w e).waiting (f.out lane w e).waits same),
        )) h.newest;
  }

  pub fewer_put : (P : List ℕ → Type 0) (upload : ℕ) → IsPut P upload link lives m t
      → IsPut P upload link lives a t
  fewer_put P upload h = record {
    early = h.early;
    packets = h.packets;
    out = λ lane w e same bytes among.
        h.out lane (f.out lane w e).waiting (f.out lane w e).waits same bytes
        (subst (λ ps. Contains ps bytes) (sym (same_packets lane w e)) among);
  }

  pub fewer_quiet : (s : Stage) → IsQuiet s m → IsQuiet s a
  fewer_quiet s h = λ lane w b e.
      ap (λ (x : Command). is_changing x.request) (sym (f.out lane w e).command)
      ∙ h lane (f.out lane w e).waiting b (f.out lane w e).waits

  pub fewer_step : (s : Stage) → AtStep link lives unit m t s → AtStep link lives unit a t s
  fewer_step s h = record {
    quiet = fewer_quiet s h.quiet;
    calm = h.calm;
    put = λ e. fewer_put _ t.asking (h.put e);
    current = h.current;
  }

  pub fewer_apart : ((w v : Waiting) → out_in Low m ≡ Some w → out_in High m ≡ Some v
      → t.low ≢ t.high)
      → (w v : Waiting) → out_in Low a ≡ Some w → out_in High a ≡ Some v → t.low ≢ t.high
  fewer_apart h w v e g = h (f.out Low w e).waiting (f.out High v g).waiting (f.out Low w e).waits
      (f.out High v g).waits

  pub fewer_one : ((w v : Waiting) → out_in Low m ≡ Some w → out_in High m ≡ Some v
      → is_changing w.command.request ≡ true → is_changing v.command.request ≡ true → ⊥)
      → (w v : Waiting) → out_in Low a ≡ Some w → out_in High a ≡ Some v
      → is_changing w.command.request ≡ true → is_changing v.command.request ≡ true → ⊥
  fewer_one h w v e g b c = h (f.out Low w e).waiting (f.out High v g).waiting (f.out Low w e).waits
      (f.out High v g).waits (still_changing Low w e b) (still_changing High v g c)

  followed_still : (lane : Priority) (w : Waiting) (e : out_in lane a ≡ Some w)
      → IsFollowed (f.out lane w e).waiting → IsFollowed w
  followed_still lane w e k =
      let x = f.out lane w e in
      record {
        submitted = ap (λ (y : Command). y.purpose) (sym x.command) ∙ k.submitted;
        plainly = subst (λ (y : Command). is_plain y.request ≡ true) x.command k.plainly;
        stays = subst (λ (y : Command). leaves_copy y.request ≡ false) x.command k.stays;
        exact = subst (λ (y : Command). IsExact w.tci y) x.command
            (subst (λ n. IsExact n x.waiting.command) x.tci k.exact);
        single = subst (λ (y : Command). y.earlier ≡ []) x.command k.single;
      }

  pub fewer_made : ((lane : Priority) (w : Waiting) → out_in lane m ≡ Some w
      → is_changing w.command.request ≡ true → IsFollowed w ⊎ IsImages lane m.job w)
      → ((w : Waiting) → out_in Low a ≡ Some w → AtCommand m.job w.command
      → AtCommand a.job w.command)
      → (lane : Priority) (w : Waiting) → out_in lane a ≡ Some w
      → is_changing w.command.request ≡ true → IsFollowed w ⊎ IsImages lane a.job w
  fewer_made h stays lane w e c =
      let x = f.out lane w e in
      ⊎_elim
      (λ (k : IsFollowed x.waiting). inl (followed_still lane w e k))
      (λ (k : IsImages lane m.job x.waiting).
      inr (record {
        low = k.low;
        at = stays w (subst (λ q. out_in q a ≡ Some w) k.low e)
            (subst (AtCommand m.job) x.command k.at);
      }))
      (h lane x.waiting x.waits (still_changing lane w e c))

  pub fewer_ahead : (copy : Copy) (u : Onu) (lane : Priority) (w : Waiting)
      (e : out_in lane a ≡ Some w)
      → IsOnTheWay lives u (f.out lane w e).waiting (last_in lane t) t.history copy
      → IsOnTheWay lives u w (last_in lane t) t.history copy
  fewer_ahead copy u lane w e h = record {
    before = h.before;
    carried = h.carried;
    agreed = h.agreed;
    later = subst (λ (y : Command). (r : List ℕ) (g : Frame)
        → LastReply (last_in lane t) r t.history → packet_frame r ≡ Some g
        → IsCopied u.database (followed_copy y.entity y.request (response_of g) copy))
        (f.out lane w e).command h.later;
  }

-- all but the job and the phase
pub fewer_steady : (link : Link) (lives : ℕ) (unit : Option Onu) (m a : Manager) (t : Told)
    → Fewer m a → Steady link lives unit m t
    → ((s : Stage) → a.job ≡ Some s → AtStep link lives unit a t s)
    → (a.phase ≡ phase.InStep → HasCopy link lives unit a t)
    → Steady link lives unit a t
fewer_steady link lives unit m a t f h j p = record {
  same = h.same;
  below = h.below;
  lanes = λ lane. fewer_lane link lives unit m a t f lane (h.lanes lane);
  apart = fewer_apart link lives unit m a t f h.apart;
  known = h.known;
  job = j;
  phase = p;
}

-- no change is lost
abbrev pub IsKept : Manager → Manager → Type 0
IsKept m a =
    (lane : Priority) (w : Waiting) → out_in lane m ≡ Some w → is_changing w.command.request ≡ true
    → Waited lane a w

module _ (link : Link) (lives : ℕ) (unit : Option Onu) (m a : Manager) (t : Told) (f : Fewer m a)
    (kept : IsKept m a)
    (stays : (w : Waiting) → out_in Low a ≡ Some w → AtCommand m.job w.command
    → AtCommand a.job w.command) where
  pub kept_phase : (copy : Copy) (upload : ℕ) → InPhase link lives unit m t copy upload
      → InPhase link lives unit a t copy upload
  kept_phase copy upload h = record {
    synced = h.synced;
    put = fewer_put link lives unit m a t f _ upload h.put;
    one = fewer_one link lives unit m a t f h.one;
    made = fewer_made link lives unit m a t f h.made stays;
    settled = λ i s may way c. ⊎_elim
        (λ x.
        let w = kept (lane_of s.bytes) x.waiting x.waits x.changing in
        inl (record {
          waiting = w.waiting;
          waits = w.waits;
          changing =
              ap (λ (y : Command). is_changing y.request) w.command ∙ x.changing;
          named = x.named;
        }))
        (λ x. inr x) (h.settled i s may way c);
    idle = λ u on up none. h.idle u on up (λ lane w e c was.
        let x = kept lane w e c in
        none lane x.waiting x.waits (ap (λ (y : Command). is_changing y.request) x.command ∙ c)
        was);
    ahead = λ u lane w on up e c was.
        fewer_ahead link lives unit m a t f copy u lane w e
        (h.ahead u lane (f.out lane w e).waiting on up (f.out lane w e).waits
        (still_changing link lives unit m a t f lane w e c) was);
  }

pub milder_steady : (link : Link) (lives : ℕ) (unit : Option Onu) (m a : Manager) (t : Told)
    → Milder m a → Steady link lives unit m t → Steady link lives unit a t
milder_steady link lives unit m a t k h =
    fewer_steady link lives unit m a t k.fewer h
    (λ s e. fewer_step link lives unit m a t k.fewer s (h.job s (k.job s e))) (λ e.
    let c = h.phase (k.was e) in
    record {
      copy = c.copy;
      upload = c.upload;
      has = k.copy e ∙ c.has;
      phase = kept_phase link lives unit m a t k.fewer
          (λ lane w. k.kept lane w e) (λ w o. k.command e w.command) c.copy c.upload c.phase;
    })

-- another job
pub rejob_steady : (link : Link) (lives : ℕ) (unit : Option Onu) (m : Manager) (j : Option Stage)
    (t : Told)
    → Steady link lives unit m t
    → ((s : Stage) → j ≡ Some s → AtStep link lives unit (record m { job = j }) t s)
    → ((w : Waiting) → out_in Low m ≡ Some w → AtCommand m.job w.command → AtCommand j w.command)
    → Steady link lives unit (record m { job = j }) t
rejob_steady link lives unit m j t h job stays =
    fewer_steady link lives unit m (record m { job = j }) t same h job (λ e.
    let c = h.phase e in
    record {
      copy = c.copy;
      upload = c.upload;
      has = c.has;
      phase = kept_phase link lives unit m (record m { job = j }) t same
          (λ lane w f g. record { waiting = w; waits = f; tci = refl; command = refl }) stays c.copy
          c.upload c.phase;
    })
  where
    same : Fewer m (record m { job = j })
    same = record {
      priority = λ lane. refl;
      next = λ lane. refl;
      out = λ lane w e. record { waiting = w; waits = e; tci = refl; command = refl };
    }
