-- A request that is carried out while a download runs.
use Rattle.std.proofs.Common.{◌≡◌, ◌≢◌, ℕ, false, List, [], ◌∷◌, ◌++◌, length, reverse, Option, Some, None, inl, inr, refl, sym, ap, subst, ◌∙◌}
use Rattle.std.proofs.lemmas.Option.{same_Some}
use Rattle.std.proofs.lemmas.Bool.{eqb-false}
use Rattle.omci_types.specs.declared.EntityId.{EntityId}
use Rattle.omci_types.specs.declared.Frame.{Frame}
use Rattle.frame_spec.specs.Baseline.{spelling}
use Rattle.message_spec.specs.declared.Response.TheVariants as response
use Rattle.link_spec.specs.Link.{Sent}
use Rattle.window_spec.specs.Incoming.{no_window}
use Rattle.window_spec.specs.Outgoing.{Outgoing, new_outgoing}
use Rattle.store_spec.specs.State.{Loading}
use Rattle.store_spec.specs.Deeds.{Deed, Ignore, Refuse, RefuseWindow, GiveUp, Begin, Hold, Put, Seal, Activate, Commit, Recommit}
use Rattle.store_spec.specs.Effects.{handled_by}
use Rattle.manager_spec.specs.Manager.{Order, Stage, Manager}
use Rattle.manager_spec.specs.Upgrade.{image_entity}
use Rattle.unit_spec.specs.declared.Note.{Note}
use Rattle.unit_spec.specs.Images.{code_handled, granted_by}
use Rattle.unit_spec.specs.Onu.{Onu, Answer, code, image_answer}
use Rattle.history_spec.specs.History.{LastReply, WasCarried, LastChecked}
use Rattle.world_spec.specs.Ends.{stored}
use Rattle.world_spec.specs.History.{Told, name_at, tell_all}
use Rattle.download_laws.specs.Carrying.{HasBefore, Carried}
use Rattle.download_laws.proofs.Carrying.{begun_has}
use Rattle.resync_laws.proofs.Serving.{history_after, quiet_history, unit_after}
use Rattle.downloaded_laws.proofs.Unit.{IsBegin, IsPut, IsEnd, IsBesideAnswer}
use Rattle.downloaded_laws.proofs.Invariants.{State, state_of, HasFront, HasImage, HasAfter, StartSays, Starts, WindowSays, Sends, EndSays, Ends, AtStage, Keeps, stage_kept, lane_same, same_unit, keeps_of}
use Rattle.downloaded_laws.proofs.Deeds.{has_at, window_case, entered, entered_passes}

-- ---- a request is carried out

-- what is told of it
abbrev pub told_carried : Option Note → (lives number : ℕ) → Sent → List ℕ → Onu → Told → Told
told_carried n lives number s reply u t =
    record t {
      came = name_at number t.names;
      packet = s.bytes;
      names = t.names ++ name_at number t.names ∷ [];
      history = history_after n lives (name_at number t.names) reply u t.history;
    }

-- and of the store
abbrev pub told_answer : (lives number : ℕ) → Sent → Onu → Told → Answer → Told
told_answer lives number s u t a =
    tell_all (stored a.stored) (told_carried a.note lives number s (spelling a.reply) u t)

module _ (lives : ℕ) (u : Onu) (m : Manager) (number : ℕ) (s : Sent) (t : Told) where
  abbrev pub before : State
  before = state_of lives (Some u) m t

  abbrev pub later : ℕ → Answer → State
  later tci a =
      state_of lives (Some (unit_after tci a)) m (told_answer lives number s u t a)

  -- a start
  pub start_after : (d : Deed) (order : Order) (asked : ℕ) (image : List ℕ) (f : Frame) (window : ℕ)
      → name_at number t.names ≡ t.low → f.entity ≡ image_entity order.slot
      → IsBegin f.entity.instance (length image) d → Starts before order asked image
      → Starts (later f.tci (image_answer false d f
      (λ given. response.Start (code given) (granted_by given window)) u)) order asked image
  start_after (Begin slot size granted) order asked image f window own one b h = record {
    ordered = h.ordered;
    some = h.some;
    most = h.most;
    proved = h.proved;
    waiting = h.waiting;
    waits = h.waits;
    command = h.command;
    reply = λ r last. elim last as (λ _. StartSays (later f.tci (image_answer false (Begin slot size granted) f
        (λ given. response.Start (code given) (granted_by given window)) u)) order image r) [
          | inl e ↦ record {
            number = 0;
            granted = granted_by 0 window;
            frame = f;
            is = sym e.1;
            good = λ zero was. has_at (unit_after f.tci (image_answer false (Begin slot size granted) f
                (λ given. response.Start (code given) (granted_by given window)) u))
                (λ l. (most : ℕ) → HasFront order (new_outgoing image most) l)
                (λ l is most. subst (HasFront order (new_outgoing image most))
                (same_Some (record { target = slot; size = size; granted = granted; put = []; window = no_window }) l is)
                (record {
                  target = b.0 ∙ ap (λ (x : EntityId). x.instance) one;
                  has = subst (λ n. HasBefore (new_outgoing image most)
                      (record { target = slot; size = n; granted = granted; put = []; window = no_window }))
                      (sym b.1) (begun_has image most slot granted None);
                }));
          }
          | inr e ↦ absurd (e.0 own)
        ];
  }
  start_after (Refuse number') order asked image f window own one b h = record {
    ordered = h.ordered;
    some = h.some;
    most = h.most;
    proved = h.proved;
    waiting = h.waiting;
    waits = h.waits;
    command = h.command;
    reply = λ r last. elim last as (λ _. StartSays (later f.tci (image_answer false (Refuse number') f
        (λ given. response.Start (code given) (granted_by given window)) u)) order image r) [
          | inl e ↦ record {
            number = number';
            granted = granted_by number' window;
            frame = f;
            is = sym e.1;
            good = λ zero was. absurd (eqb-false number' 0 b zero);
          }
          | inr e ↦ absurd (e.0 own)
        ];
  }
  start_after Ignore order asked image f window own one b h = absurd b
  start_after (RefuseWindow number') order asked image f window own one b h = absurd b
  start_after (GiveUp number') order asked image f window own one b h = absurd b
  start_after (Hold held) order asked image f window own one b h = absurd b
  start_after (Put bytes) order asked image f window own one b h = absurd b
  start_after (Seal slot sealed) order asked image f window own one b h = absurd b
  start_after (Activate leaves) order asked image f window own one b h = absurd b
  start_after (Commit slot) order asked image f window own one b h = absurd b
  start_after (Recommit slot) order asked image f window own one b h = absurd b

  -- a window
  window_by_deed : (d : Deed) (order : Order) (o : Outgoing) (f : Frame) (section : ℕ)
      → name_at number t.names ≡ t.low → (WasCarried lives t.low t.history → ⊥) → IsPut d
      → ((l : Loading) → u.store.download ≡ Some l → (l.target ≡ order.slot) × Carried o d l)
      → Sends before order o
      → (a : Answer) → a ≡ image_answer false d f (λ given. response.Section (code given) section) u
      → (tell_all (stored a.stored) (told_carried a.note lives number s (spelling a.reply) u t)).history
      ≡ history_after None lives (name_at number t.names) (spelling a.reply) u t.history
      → (tell_all (stored a.stored) (told_carried a.note lives number s (spelling a.reply) u t)).low ≡ t.low
      → Sends (later f.tci a) order o
  window_by_deed d order o f section own fresh p carried h a is history low =
      let came = name_at number t.names in
      record {
        sending = h.sending;
        proved = h.proved;
        waiting = h.waiting;
        waits = h.waits;
        command = h.command;
        before = λ never. absurd (never
            (subst (λ es. WasCarried lives (later f.tci a).tlow es) (sym history)
            (inl (refl, own ∙ sym low))));
        reply = λ r last.
            elim (subst (λ es. LastReply (later f.tci a).tlow r es) history last) as
            (λ _. WindowSays (later f.tci a) order o r) [
              | inl e ↦ record {
                number = code_handled (handled_by false d);
                section = section;
                frame = f;
                is = sym e.1 ∙ ap (λ (x : Answer). spelling x.reply) is;
                says = λ was. has_at (unit_after f.tci a) (HasAfter (code_handled (handled_by false d)) order o)
                    (λ l has. window_case d o order u.store.download p carried l
                    (sym (ap (λ (x : Answer). x.unit.store.download) is) ∙ has));
              }
              | inr e ↦ absurd (e.0 (own ∙ sym low))
            ];
      }

  pub window_after : (d : Deed) (order : Order) (o : Outgoing) (f : Frame) (section : ℕ)
      → name_at number t.names ≡ t.low → (WasCarried lives t.low t.history → ⊥) → IsPut d
      → ((l : Loading) → u.store.download ≡ Some l → (l.target ≡ order.slot) × Carried o d l)
      → Sends before order o
      → Sends (later f.tci (image_answer false d f (λ given. response.Section (code given) section) u))
      order o
  window_after (Put bytes) order o f section own fresh p carried h =
      window_by_deed (Put bytes) order o f section own fresh p carried h _ refl refl refl
  window_after (RefuseWindow number') order o f section own fresh p carried h =
      window_by_deed (RefuseWindow number') order o f section own fresh p carried h _ refl refl refl
  window_after Ignore order o f section own fresh p carried h = absurd p
  window_after (Refuse number') order o f section own fresh p carried h = absurd p
  window_after (GiveUp number') order o f section own fresh p carried h = absurd p
  window_after (Begin slot size granted) order o f section own fresh p carried h = absurd p
  window_after (Hold window) order o f section own fresh p carried h = absurd p
  window_after (Seal slot image) order o f section own fresh p carried h = absurd p
  window_after (Activate leaves) order o f section own fresh p carried h = absurd p
  window_after (Commit slot) order o f section own fresh p carried h = absurd p
  window_after (Recommit slot) order o f section own fresh p carried h = absurd p

  -- an end
  pub end_after : (d : Deed) (order : Order) (image : List ℕ) (f : Frame)
      → name_at number t.names ≡ t.low → IsEnd u.store.download d → Ends before order image
      → Ends (later f.tci (image_answer false d f (λ given. response.End (code given)) u)) order image
  end_after (Seal slot sealed) order image f own b h = record {
    ordered = h.ordered;
    proved = h.proved;
    waiting = h.waiting;
    waits = h.waits;
    command = h.command;
    has = has_at (unit_after f.tci (image_answer false (Seal slot sealed) f (λ given. response.End (code given)) u))
        (HasImage order image) (λ l is. absurd (cc));
    reply = λ r last. elim last as (λ _. EndSays (later f.tci (image_answer false (Seal slot sealed) f
        (λ given. response.End (code given)) u)) order image r) [
          | inl e ↦ record {
            number = 0;
            frame = f;
            is = sym e.1;
            good = λ zero.
                let k = h.has u b.0 refl b.1 in inl (b.2 ∙ k.target, b.3 ∙ k.put);
          }
          | inr e ↦ absurd (e.0 own)
        ];
  }
  end_after (Refuse number') order image f own b h = record {
    ordered = h.ordered;
    proved = h.proved;
    waiting = h.waiting;
    waits = h.waits;
    command = h.command;
    has = has_at (unit_after f.tci (image_answer false (Refuse number') f (λ given. response.End (code given)) u))
        (HasImage order image) (λ l is. h.has u l refl is);
    reply = λ r last. elim last as (λ _. EndSays (later f.tci (image_answer false (Refuse number') f
        (λ given. response.End (code given)) u)) order image r) [
          | inl e ↦ record {
            number = number';
            frame = f;
            is = sym e.1;
            good = λ zero. absurd (eqb-false number' 0 b zero);
          }
          | inr e ↦ absurd (e.0 own)
        ];
  }
  end_after (GiveUp number') order image f own b h = record {
    ordered = h.ordered;
    proved = h.proved;
    waiting = h.waiting;
    waits = h.waits;
    command = h.command;
    has = has_at (unit_after f.tci (image_answer false (GiveUp number') f (λ given. response.End (code given)) u))
        (HasImage order image) (λ l is. absurd (cc));
    reply = λ r last. elim last as (λ _. EndSays (later f.tci (image_answer false (GiveUp number') f
        (λ given. response.End (code given)) u)) order image r) [
          | inl e ↦ record {
            number = number';
            frame = f;
            is = sym e.1;
            good = λ zero. absurd (eqb-false number' 0 b zero);
          }
          | inr e ↦ absurd (e.0 own)
        ];
  }
  end_after Ignore order image f own b h = absurd b
  end_after (RefuseWindow number') order image f own b h = absurd b
  end_after (Begin slot size granted) order image f own b h = absurd b
  end_after (Hold window) order image f own b h = absurd b
  end_after (Put bytes) order image f own b h = absurd b
  end_after (Activate leaves) order image f own b h = absurd b
  end_after (Commit slot) order image f own b h = absurd b
  end_after (Recommit slot) order image f own b h = absurd b

  -- ---- a request that leaves the download alone

  aside_keeps : (after : Onu) (reply : List ℕ) (v : Told) → v.low ≡ t.low
      → v.history ≡ history_after None lives (name_at number t.names) reply u t.history
      → after.store.download ≡ u.store.download → name_at number t.names ≢ t.low
      → Keeps before (state_of lives (Some after) m v)
  aside_keeps after reply v low history same apart = record {
    tlow = low;
    proved = λ e. e;
    waits = λ w e. (w, e, refl);
    none = λ e. e;
    replied = λ r last.
        elim (subst (LastReply t.low r) history last) as (λ _. LastReply t.low r t.history) [
          | inl e ↦ absurd (apart e.0)
          | inr e ↦ e.1
        ];
    put = λ v' l on has. (
      u,
      refl,
      sym same ∙ ap (λ (y : Onu). y.store.download) (same_Some after v' on) ∙ has,
    );
    carried = λ v' l on has was.
        elim (subst (WasCarried lives t.low) history was) as (λ _. WasCarried lives t.low t.history) [
          | inl e ↦ absurd (apart e.1)
          | inr e ↦ e
        ];
    still = λ v' l on has was. subst (WasCarried lives t.low) (sym history) (inr was);
    checked = λ slot image last. subst (LastChecked slot image) (sym history) last;
  }

  -- whatever its answer
  pub aside_after : (tci : ℕ) (a : Answer) → IsBesideAnswer u a → name_at number t.names ≢ t.low
      → (x : Stage) → AtStage before x → AtStage (later tci a) x
  aside_after tci a b apart x h =
      let v = told_carried a.note lives number s (spelling a.reply) u t in
      let w = told_answer lives number s u t a in
      let k = entered (reverse a.stored) v in
      stage_kept (state_of lives (Some (unit_after tci a)) m v) _
      (keeps_of lives (Some (unit_after tci a)) (Some (unit_after tci a)) m m v w k.low
      (entered_passes (reverse a.stored) v w k b.stored) (lane_same m.low m.low refl)
      (same_unit (Some (unit_after tci a)))) x
      (stage_kept before _
      (aside_keeps (unit_after tci a) (spelling a.reply) v refl
      (quiet_history a.note b.note lives (name_at number t.names) (spelling a.reply) u t.history)
      b.download apart) x h)
