-- In step, as it is stated.
use Rattle.std.proofs.Common.{◌≡◌, ℕ, zero, suc, Bool, true, false, List, [], ◌∷◌, take, Option}
use Rattle.std.proofs.Common.{Some, None, ◌⊎◌, inl, inr, ⊎_elim, refl, sym, ap, subst, ◌∙◌, ◌==◌}
use Rattle.std.proofs.lemmas.Option.{same_Some}
use Rattle.std.proofs.lemmas.Bool.{eqb-true, eqb-false, false≢true}
use Rattle.std.proofs.lemmas.List.Elements.{All-nil, All-cons, All-head, All-tail}
use Rattle.std.specs.List.{All}
use Rattle.omci_types.specs.declared.Priority.{Priority}
use Rattle.omci_types.specs.declared.Priority.TheVariants.{Low, High}
use Rattle.omci_types.specs.declared.Frame.{Frame}
use Rattle.tci_spec.specs.Tci.{IsNumber}
use Rattle.frame_spec.specs.Baseline.{spelling, packet_frame}
use Rattle.mib_spec.specs.Database.{Database}
use Rattle.upload_spec.specs.Pieces.{Copy}
use Rattle.script_spec.specs.Script.{Header, Action, IsAction}
use Rattle.lane_spec.specs.Command.{sync_entity, sync_request, is_changing}
use Rattle.lane_spec.specs.Lane.{Waiting}
use Rattle.manager_spec.specs.Manager.{Manager}
use Rattle.unit_spec.specs.Onu.{Onu, answer}
use Rattle.history_spec.specs.History.{Entry, CarriedOut, TookReply, Remarked, TookSnapshot, Synced}
use Rattle.history_spec.specs.History.{TookAlarms, Audited, Stored, Downloaded, WasCarried}
use Rattle.world_spec.specs.Nodes.{Nodes, first_nodes, nodes_after}
use Rattle.world_spec.specs.History.{Told, first_told, told_after}
use Rattle.world_laws.specs.Facts.{AreReached}
use Rattle.resync_laws.specs.Agreeing.{IsCopied}
use Rattle.resync_laws.proofs.Following.{counters_agree}
use Rattle.step_laws.specs.InStep.{LastSynced, CarriedOn, AgreesWith, AreInStep, IsAhead, KeepStep}
use Rattle.step_laws.specs.InStep.{InStep, ScriptInStep, IsAtRest, AgreeOutright, ChecksEqual}
use Rattle.step_laws.proofs.Parts.{out_in, last_in, IsIdle, InPhase, Steady}
use Rattle.step_laws.proofs.Checking.{checks_equal}
use Rattle.step_laws.proofs.Turns.{out_is}
use Rattle.step_laws.proofs.Hearing.{last_is}
use Rattle.step_laws.proofs.Runs.{Channel, reached_sure}

-- one resynchronisation was the last
one_synced : (a b : ℕ) (history : List Entry) → LastSynced a history → LastSynced b history → a ≡ b
one_synced a b [] h k = absurd h
one_synced a b (CarriedOut life c r before ∷ older) h k = one_synced a b older h k
one_synced a b (TookReply c r ∷ older) h k = one_synced a b older h k
one_synced a b (Remarked (TookSnapshot life c database) ∷ older) h k = one_synced a b older h k
one_synced a b (Remarked (TookAlarms life c alarms) ∷ older) h k = one_synced a b older h k
one_synced a b (Remarked (Audited c table notices) ∷ older) h k = one_synced a b older h k
one_synced a b (Remarked (Stored entry) ∷ older) h k = one_synced a b older h k
one_synced a b (Remarked (Downloaded slot image) ∷ older) h k = one_synced a b older h k
one_synced a b (Remarked (Synced c copy) ∷ older) h k = sym h ∙ k

was_carried_or : (life command : ℕ) (history : List Entry) → WasCarried life command history
    ⊎ (WasCarried life command history → ⊥)
was_carried_or life command [] = inr (λ h. h)
was_carried_or life command (TookReply c r ∷ older) = was_carried_or life command older
was_carried_or life command (Remarked remark ∷ older) = was_carried_or life command older
was_carried_or life command (CarriedOut l c r before ∷ older) =
    go (l == life) refl (c == command) refl (was_carried_or life command older)
  where
    go : (x : Bool) → (l == life) ≡ x → (y : Bool) → (c == command) ≡ y
        → WasCarried life command older ⊎ (WasCarried life command older → ⊥)
        → WasCarried life command (CarriedOut l c r before ∷ older)
        ⊎ (WasCarried life command (CarriedOut l c r before ∷ older) → ⊥)
    go true e true f k = inl (inl (eqb-true l life e, eqb-true c command f))
    go x e y f (inl k) = inl (inr k)
    go false e y f (inr k) = inr (λ h. ⊎_elim (λ z. eqb-false l life e z.0) k h)
    go true e false f (inr k) = inr (λ h. ⊎_elim (λ z. eqb-false c command f z.1) k h)

-- a lane in which a change waits that was carried out
record IsAheadIn (lane : Priority) (lives : ℕ) (m : Manager) (t : Told) : Type 0 where
  waiting : Waiting
  waits : out_in lane m ≡ Some waiting
  changing : is_changing waiting.command.request ≡ true
  carried : WasCarried lives (last_in lane t) t.history

abbrev IsIdleIn : Priority → ℕ → Manager → Told → Type 0
IsIdleIn lane lives m t =
    (w : Waiting) → out_in lane m ≡ Some w → is_changing w.command.request ≡ true
    → WasCarried lives (last_in lane t) t.history → ⊥

ahead_or : (lane : Priority) (lives : ℕ) (m : Manager) (t : Told) → IsAheadIn lane lives m t
    ⊎ IsIdleIn lane lives m t
ahead_or lane lives m t = go (out_in lane m) refl
  where
    by_change : (w : Waiting) → out_in lane m ≡ Some w → (b : Bool)
        → is_changing w.command.request ≡ b
        → WasCarried lives (last_in lane t) t.history
        ⊎ (WasCarried lives (last_in lane t) t.history → ⊥)
        → IsAheadIn lane lives m t ⊎ IsIdleIn lane lives m t
    by_change w e true c (inl was) = inl
        (record { waiting = w; waits = e; changing = c; carried = was })
    by_change w e true c (inr never) = inr (λ v f g was. never was)
    by_change w e false c k = inr (λ v f g was.
        let same = ap (λ (x : Waiting). is_changing x.command.request)
        (same_Some w v (sym e ∙ f)) in
        false≢true (sym c ∙ same ∙ g))

    go : (o : Option Waiting) → out_in lane m ≡ o → IsAheadIn lane lives m t
        ⊎ IsIdleIn lane lives m t
    go None e = inr (λ w f g was. cc)
    go (Some w) e = by_change w e (is_changing w.command.request) refl
        (was_carried_or lives (last_in lane t) t.history)

agrees_of : (database : Database) (copy : Copy) → IsCopied database copy → AgreesWith database copy
agrees_of database copy h = record { values = h.agrees; counters = counters_agree database copy h }

module _ (c : Channel) where
  module _ (n : Nodes) (t : Told) (r : AreReached n t) (m : Manager) (u : Onu) (command : ℕ)
      (s : AreInStep n t m u command) where
    steady : Steady n.link n.ends.lives n.ends.unit m t
    steady = (reached_sure c n t r).steady m s.managed

    carried : WasCarried n.ends.lives command t.history
    carried = (reached_sure c n t r).kept.snapshots n.ends.lives command s.life

    module _ (copy : Copy) (upload : ℕ)
        (k : InPhase n.link n.ends.lives n.ends.unit m t copy upload) where
      up : WasCarried n.ends.lives upload t.history
      up = subst (λ x. WasCarried n.ends.lives x t.history)
          (one_synced command upload t.history s.synced k.synced) carried

      ahead_in : (lane : Priority) → IsAheadIn lane n.ends.lives m t → IsAhead n t m copy
      ahead_in lane a =
          let x = k.ahead u lane a.waiting s.on up a.waits a.changing a.carried in
          record {
            lane = lane;
            waiting = a.waiting;
            change = record { waits = out_is lane m ∙ a.waits; changing = a.changing };
            before = x.before;
            carried = subst (λ q. CarriedOn n.ends.lives q x.before t.history)
                (sym (last_is lane t)) x.carried;
            agreed = agrees_of x.before copy x.agreed;
          }

      agrees_by : IsAheadIn Low n.ends.lives m t ⊎ IsIdleIn Low n.ends.lives m t
          → IsAheadIn High n.ends.lives m t ⊎ IsIdleIn High n.ends.lives m t
          → AgreesWith u.database copy ⊎ IsAhead n t m copy
      agrees_by (inl a) b = inr (ahead_in Low a)
      agrees_by (inr a) (inl b) = inr (ahead_in High b)
      agrees_by (inr a) (inr b) = inl (agrees_of u.database copy (k.idle u s.on up idle))
        where
          idle : IsIdle n.ends.lives m t
          idle Low = a
          idle High = b

      keeps : m.copy ≡ Some copy → KeepStep n t m u
      keeps has = record {
        copy = copy;
        has = has;
        one = λ w v e f. k.one w v e.waits f.waits e.changing f.changing;
        agrees = agrees_by (ahead_or Low n.ends.lives m t) (ahead_or High n.ends.lives m t);
      }

    keep_step : KeepStep n t m u
    keep_step = let p = steady.phase s.in_step in keeps p.copy p.upload p.phase p.has

  -- ---- no change is outstanding

  -- a database that agrees with the copy
  record Outright (m : Manager) (u : Onu) : Type 0 where
    copy : Copy
    has : m.copy ≡ Some copy
    copied : IsCopied u.database copy

  outright : (n : Nodes) (t : Told) → AreReached n t → (m : Manager) (u : Onu) (command : ℕ)
      → AreInStep n t m u command
      → IsAtRest m → Outright m u
  outright n t r m u command s rest =
      let p = (steady n t r m u command s).phase s.in_step in
      record {
        copy = p.copy;
        has = p.has;
        copied = p.phase.idle u s.on (up n t r m u command s p.copy p.upload p.phase)
            (λ lane w e g was. rest lane w (record { waits = out_is lane m ∙ e; changing = g }));
      }

  pub agree_outright : (n : Nodes) (t : Told) → AreReached n t
      → (m : Manager) (u : Onu) (command : ℕ)
      → AreInStep n t m u command → IsAtRest m → AgreeOutright m u
  agree_outright n t r m u command s rest =
      let k = outright n t r m u command s rest in
      record { copy = k.copy; has = k.has; agrees = agrees_of u.database k.copy k.copied }

  pub check_equal : (n : Nodes) (t : Told) → AreReached n t → (m : Manager) (u : Onu) (command : ℕ)
      → AreInStep n t m u command → IsAtRest m → (asked reply : Frame) → asked.entity ≡ sync_entity
      → packet_frame (spelling (answer false asked sync_request u).reply) ≡ Some reply
      → ChecksEqual m u reply
  check_equal n t r m u command s rest asked reply entity e =
      let k = outright n t r m u command s rest in
      checks_equal asked reply m u k.copy k.copied k.has entity e

  -- ---- each node and each line

  pub reached_in_step : (n : Nodes) (t : Told) → AreReached n t → InStep n t
  reached_in_step n t r = λ m u command s. keep_step n t r m u command s

  all_front : (k : ℕ) (actions : List Action) → All IsAction actions → All IsAction (take k actions)
  all_front zero actions h = All-nil IsAction
  all_front (suc k) [] h = All-nil IsAction
  all_front (suc k) (a ∷ rest) h =
      All-cons IsAction a (take k rest) (All-head IsAction a rest h)
      (all_front k rest (All-tail IsAction a rest h))

  pub script_in_step : (h : Header) (actions : List Action) → IsNumber h.low → IsNumber h.high
      → All IsAction actions → ScriptInStep h actions
  script_in_step h actions a b all = λ lines.
      reached_in_step (nodes_after (take lines actions) (first_nodes h))
      (told_after (take lines actions) (first_nodes h) first_told)
      (record {
        header = h;
        low = a;
        high = b;
        actions = take lines actions;
        allowed = all_front lines actions all;
        nodes = refl;
        told = refl;
      })
