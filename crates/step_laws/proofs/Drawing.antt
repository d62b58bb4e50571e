-- A lane that is free draws a command and sends it.
use Rattle.std.proofs.Common.{◌≡◌, ◌≢◌, ℕ, ◌+◌, ◌<◌, ◌^◌, true, false, List, Option}
use Rattle.std.proofs.Common.{Some, None, ◌⊎◌, inl, inr, ⊎_elim, refl, sym, ap, subst, ◌∙◌, arith, ◌==◌}
use Rattle.std.proofs.lemmas.Option.{same_Some}
use Rattle.omci_types.specs.declared.Priority.{Priority}
use Rattle.omci_types.specs.declared.Priority.TheVariants.{Low, High}
use Rattle.tci_spec.specs.Tci.{priority_of, tci_of}
use Rattle.upload_spec.specs.Pieces.{Copy}
use Rattle.link_spec.specs.Link.{Link, lane_of}
use Rattle.lane_spec.specs.Command.{Command, is_changing}
use Rattle.lane_spec.specs.Lane.{Lane, Waiting, next_tci, with_command}
use Rattle.manager_spec.specs.declared.Phase.TheVariants as phase
use Rattle.manager_spec.specs.Manager.{Stage, Manager}
use Rattle.unit_spec.specs.Onu.{Onu}
use Rattle.history_spec.specs.History.{WasCarried}
use Rattle.world_spec.specs.History.{Told}
use Rattle.step_laws.proofs.Coming.{coming_map}
use Rattle.step_laws.proofs.Milder.{KeepsCommand}
use Rattle.step_laws.proofs.Parts.{lane_at, out_in, last_in, IsNewest, IsWaiting, LaneOk, IsBelow}
use Rattle.step_laws.proofs.Parts.{IsPut, IsQuiet, IsCurrent, AtStep, IsFollowed, IsImages}
use Rattle.step_laws.proofs.Parts.{IsItsChange, IsSettled, IsOnTheWay, NoPacket, InPhase, Steady}
use Rattle.step_laws.proofs.Parts.{left_of}
use Rattle.step_laws.proofs.Sending.{next_in, next_fits, number_fits, same_lane}
use Rattle.step_laws.proofs.Sending.{not_both}

-- the manager, whose lane l has drawn a command, and what is told of it
pub record Draws (l : Priority) (c : Command) (m a : Manager) (t u : Told) : Type 0 where
  pub free : out_in l m ≡ None
  pub mine : lane_at l a.low a.high ≡ with_command c (lane_at l m.low m.high)
  pub others : (k : Priority) → k ≢ l → lane_at k a.low a.high ≡ lane_at k m.low m.high
  pub own : last_in l u ≡ t.drawn
  pub other : (k : Priority) → k ≢ l → last_in k u ≡ last_in k t

-- a change that is drawn is followed, or is that of the job after it; and none waits in the other
-- lane
pub record IsFair (l : Priority) (m : Manager) (job : Option Stage) (w : Waiting) : Type 0 where
  pub followed : m.phase ≡ phase.InStep → IsFollowed w ⊎ IsImages l job w
  pub alone : (k : Priority) (v : Waiting) → k ≢ l → out_in k m ≡ Some v
      → is_changing v.command.request ≡ false

module _ (l : Priority) (c : Command) (link : Link) (lives : ℕ) (unit : Option Onu) (m : Manager)
    (x y : Lane) (j : Option Stage) (t : Told) (a b asking : ℕ)
    (h : Steady link lives unit m t) where
  abbrev after : Manager
  after = record m { low = x; high = y; job = j }

  abbrev told : Told
  told = record t {
    drawn = t.drawn + 1;
    low = a;
    high = b;
    asking = asking;
  }

  abbrev drawn_by : Waiting
  drawn_by = record { tci = next_tci (lane_at l m.low m.high); command = c; ticks = 0; repeats = 0 }

  tci_is : next_tci (lane_at l m.low m.high) ≡ tci_of l (lane_at l m.low m.high).next
  tci_is = ap (λ p. tci_of p (lane_at l m.low m.high).next) (h.lanes l).priority

  in_its_lane : priority_of (next_tci (lane_at l m.low m.high)) ≡ l
  in_its_lane = ap priority_of tci_is ∙ next_in l (lane_at l m.low m.high).next (h.lanes l).number

  its_tci_fits : next_tci (lane_at l m.low m.high) < 2 ^ 16
  its_tci_fits = subst (λ n. n < 2 ^ 16) (sym tci_is)
      (next_fits l (lane_at l m.low m.high).next (h.lanes l).number)

  module _ (d : Draws l c m after t told) where
    waits_now : out_in l after ≡ Some drawn_by
    waits_now = ap (λ (z : Lane). z.outstanding) d.mine

    pub is_drawn : (w : Waiting) → out_in l after ≡ Some w → drawn_by ≡ w
    is_drawn w e = same_Some drawn_by w (sym waits_now ∙ e)

    before : (k : Priority) (w : Waiting) → k ≢ l → out_in k after ≡ Some w → out_in k m ≡ Some w
    before k w ne e = ap (λ (z : Lane). z.outstanding) (sym (d.others k ne)) ∙ e

    since : (k : Priority) (w : Waiting) → k ≢ l → out_in k m ≡ Some w → out_in k after ≡ Some w
    since k w ne e = ap (λ (z : Lane). z.outstanding) (d.others k ne) ∙ e

    waits_elsewhere : (k : Priority) (w : Waiting) → out_in k m ≡ Some w → k ≢ l
    waits_elsewhere k w e same = let z : out_in l m ≡ Some w =
        subst (λ q. out_in q m ≡ Some w) same e in let f = d.free in cc

    mine_ok : LaneOk l (with_command c (lane_at l m.low m.high)) link t.names told.drawn t.drawn
    mine_ok = let k = h.lanes l in record {
      priority = k.priority;
      number = number_fits ((lane_at l m.low m.high).next == 32767)
          (lane_at l m.low m.high).next refl k.number;
      out = λ w e. subst (IsWaiting l told.drawn t.drawn) (same_Some drawn_by w e)
          (record { lane_is = in_its_lane; fits = its_tci_fits; early = omega arith });
      newest = coming_map (IsBelow t.drawn) (IsNewest l t.drawn (Some drawn_by)) link t.names
          (λ s name lt. ((λ e. omega (arith, lt)), (λ w e n. absurd (omega (arith, lt, n)))))
          h.below;
    }

    other_ok : (k : Priority) → k ≢ l → LaneOk k (lane_at k m.low m.high) link t.names told.drawn
        (last_in k t)
    other_ok k ne = let q = h.lanes k in record {
      priority = q.priority;
      number = q.number;
      out = λ w e. let z = q.out w e in let lt = z.early in
          record { lane_is = z.lane_is; fits = z.fits; early = omega (arith, lt) };
      newest = q.newest;
    }

    lane_ok : (k : Priority) → LaneOk k (lane_at k after.low after.high) link t.names told.drawn
        (last_in k told)
    lane_ok k = ⊎_elim
        (λ (e : k ≡ l). subst (λ q. LaneOk q
        (lane_at q after.low after.high) link t.names told.drawn (last_in q told)) (sym e)
        (subst (λ z. LaneOk l z link t.names told.drawn (last_in l told)) (sym d.mine)
        (subst (LaneOk l (with_command c (lane_at l m.low m.high)) link t.names told.drawn)
        (sym d.own) mine_ok)))
        (λ (ne : k ≢ l).
        subst (λ z. LaneOk k z link t.names told.drawn (last_in k told)) (sym (d.others k ne))
        (subst (LaneOk k (lane_at k m.low m.high) link t.names told.drawn) (sym (d.other k ne))
        (other_ok k ne)))
        (same_lane k l)

    -- the other lane's command was drawn before
    pub older : (k : Priority) (w : Waiting) → k ≢ l → out_in k after ≡ Some w
        → last_in k told < t.drawn
    older k w ne e = subst (λ n. n < t.drawn) (sym (d.other k ne))
        ((h.lanes k).out w (before k w ne e)).early

    apart_by : (q : Priority) → l ≡ q → (w v : Waiting) → out_in Low after ≡ Some w
        → out_in High after ≡ Some v → told.low ≢ told.high
    apart_by Low e w v f g same =
        let lt = older High v (λ z. let s = e in cc) g in
        let own : told.low ≡ t.drawn = subst (λ q. last_in q told ≡ t.drawn) e d.own in
        omega (arith, lt, own, same)
    apart_by High e w v f g same =
        let lt = older Low w (λ z. let s = e in cc) f in
        let own : told.high ≡ t.drawn = subst (λ q. last_in q told ≡ t.drawn) e d.own in
        omega (arith, lt, own, same)

    -- ---- an upload

    pub draw_put : (P : List ℕ → Type 0) (upload : ℕ) → IsPut P upload link lives m t
        → IsPut P upload link lives after told
    draw_put P upload k = let lt = k.early in record {
      early = omega (arith, lt);
      packets = k.packets;
      out = λ lane w e n. ⊎_elim
          (λ (s : lane ≡ l). let own = subst (λ q. last_in q told ≡ t.drawn) (sym s) d.own in
          absurd (omega (arith, lt, n, own)))
          (λ (ne : lane ≢ l). k.out lane w (before lane w ne e) (sym (d.other lane ne) ∙ n))
          (same_lane lane l);
    }

    pub draw_quiet : is_changing c.request ≡ false → (s : Stage) → IsQuiet s m → IsQuiet s after
    draw_quiet mild s k = λ lane w b e. ⊎_elim
        (λ (same : lane ≡ l). subst (λ (z : Waiting). is_changing z.command.request ≡ false)
        (is_drawn w (subst (λ q. out_in q after ≡ Some w) same e)) mild)
        (λ (ne : lane ≢ l). k lane w b (before lane w ne e)) (same_lane lane l)

    -- a job that goes on as it was
    pub draw_step : is_changing c.request ≡ false → asking ≡ t.asking → (s : Stage)
        → AtStep link lives unit m t s → AtStep link lives unit after told s
    draw_step mild same s k = record {
      quiet = draw_quiet mild s k.quiet;
      calm = k.calm;
      put = λ e. subst (λ n. IsPut (left_of s) n link lives after told) (sym same)
          (draw_put (left_of s) t.asking (k.put e));
      current = λ e. subst (λ n. IsCurrent n lives unit t.history) (sym same) (k.current e);
    }

    -- ---- in step

    draw_phase : (is_changing c.request ≡ true → IsFair l m j drawn_by)
        → KeepsCommand m.job j → m.phase ≡ phase.InStep → (copy : Copy) (upload : ℕ)
        → InPhase link lives unit m t copy upload → InPhase link lives unit after told copy upload
    draw_phase fair keeps in_step copy upload k = record {
      synced = k.synced;
      put = draw_put NoPacket upload k.put;
      one = λ w v e f g i. one_by l refl w v e f g i;
      made = λ lane w e g. ⊎_elim
          (λ (s : lane ≡ l).
          let is = is_drawn w (subst (λ q. out_in q after ≡ Some w) s e) in
          subst (λ x. IsFollowed x ⊎ IsImages lane j x) is
          (subst (λ q. IsFollowed drawn_by ⊎ IsImages q j drawn_by) (sym s)
          ((fair (ap (λ (z : Waiting). is_changing z.command.request) is ∙ g)).followed in_step)))
          (λ (ne : lane ≢ l). ⊎_elim
          (λ (x : IsFollowed w). inl x)
          (λ (x : IsImages lane m.job w). inr (record { low = x.low; at = keeps w.command x.at }))
          (k.made lane w (before lane w ne e) g)) (same_lane lane l);
      settled =
          (coming_map (IsSettled lives m t) (IsSettled lives after told) link t.names
          (λ s name q ch. ⊎_elim
          (λ z. let ne = waits_elsewhere (lane_of s.bytes) z.waiting z.waits in inl (record {
            waiting = z.waiting;
            waits = since (lane_of s.bytes) z.waiting ne z.waits;
            changing = z.changing;
            named = z.named ∙ sym (d.other (lane_of s.bytes) ne);
          }))
          (λ z. inr z) (q ch)) k.settled);
      idle = λ u on up none. k.idle u on up (λ lane w e g was.
          let ne = waits_elsewhere lane w e in
          none lane w (since lane w ne e) g
          (subst (λ n. WasCarried lives n t.history) (sym (d.other lane ne)) was));
      ahead = λ u lane w on up e g was. ⊎_elim
          (λ (s : lane ≡ l).
          let lt = h.known lives (last_in lane told) was in
          let own = subst (λ q. last_in q told ≡ t.drawn) (sym s) d.own in
          absurd (omega (arith, lt, own)))
          (λ (ne : lane ≢ l).
          subst (λ n. IsOnTheWay lives u w n t.history copy) (sym (d.other lane ne))
          (k.ahead u lane w on up (before lane w ne e) g
          (subst (λ n. WasCarried lives n t.history) (d.other lane ne) was))) (same_lane lane l);
    }
      where
        one_by : (q : Priority) → l ≡ q → (w v : Waiting) → out_in Low after ≡ Some w
            → out_in High after ≡ Some v
            → is_changing w.command.request ≡ true → is_changing v.command.request ≡ true → ⊥
        one_by Low s w v e f g i =
            let is = is_drawn w (subst (λ q. out_in q after ≡ Some w) (sym s) e) in
            let ne : High ≢ l = (λ z. let r = s in cc) in
            not_both _ i ((fair (ap (λ (z : Waiting). is_changing z.command.request) is ∙ g)).alone
            High v ne (before High v ne f))
        one_by High s w v e f g i =
            let is = is_drawn v (subst (λ q. out_in q after ≡ Some v) (sym s) f) in
            let ne : Low ≢ l = (λ z. let r = s in cc) in
            not_both _ g ((fair (ap (λ (z : Waiting). is_changing z.command.request) is ∙ i)).alone
            Low w ne (before Low w ne e))

    pub draw_steady : (is_changing c.request ≡ true → IsFair l m j drawn_by)
        → KeepsCommand m.job j
        → ((s : Stage) → j ≡ Some s → AtStep link lives unit after told s)
        → Steady link lives unit after told
    draw_steady fair keeps job = record {
      same = h.same;
      below = coming_map (IsBelow t.drawn) (IsBelow told.drawn) link t.names
          (λ s name lt. omega (arith, lt)) h.below;
      lanes = lane_ok;
      apart = λ w v e f. apart_by l refl w v e f;
      known = λ life command was. let lt = h.known life command was in omega (arith, lt);
      job = job;
      phase = λ e. let k = h.phase e in
          record {
            copy = k.copy;
            upload = k.upload;
            has = k.has;
            phase =
                draw_phase fair keeps e k.copy k.upload k.phase;
          };
    }
