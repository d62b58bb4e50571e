-- What a deed makes of a download that a unit has, the packets of a download's commands, and the
-- entries of the store.
use Rattle.std.proofs.Common.{◌≡◌, ℕ, false, List, [], ◌∷◌, map, Option, Some, None, ◌⊎◌, inl, inr, refl, sym, ap, subst, ◌∙◌, arith}
use Rattle.std.proofs.lemmas.Option.{same_Some}
use Rattle.std.proofs.lemmas.Bool.{eqb-false}
use Rattle.std.specs.List.{Contains}
use Rattle.omci_types.specs.declared.EntityId.{EntityId}
use Rattle.frame_spec.specs.Baseline.{spelling}
use Rattle.message_spec.specs.declared.Message.TheVariants.{Asked}
use Rattle.message_spec.specs.declared.Request.{Request}
use Rattle.message_spec.specs.Reading.{plain}
use Rattle.window_spec.specs.Incoming.{no_window}
use Rattle.window_spec.specs.Outgoing.{Outgoing}
use Rattle.store_spec.specs.History.{StoreEntry, Checked, CommitBegun, Committed}
use Rattle.store_spec.specs.State.{Loading}
use Rattle.store_spec.specs.Deeds.{Deed, Ignore, Refuse, RefuseWindow, GiveUp, Begin, Hold, Put, Seal, Activate, Commit, Recommit}
use Rattle.store_spec.specs.Effects.{download_after, handled_by}
use Rattle.lane_spec.specs.Command.{Command, job_command, command_frame, command_packets}
use Rattle.lane_spec.specs.Lane.{Waiting, waiting_packets}
use Rattle.manager_spec.specs.Manager.{Order}
use Rattle.manager_spec.specs.Upgrade.{image_entity, image_window}
use Rattle.unit_spec.specs.Images.{code_handled}
use Rattle.unit_spec.specs.Onu.{Onu, code}
use Rattle.history_spec.specs.History.{LastReply, WasCarried, LastChecked, DownloadedRight}
use Rattle.world_spec.specs.Happenings.{ImageStored}
use Rattle.world_spec.specs.History.{Told, tell, tell_all}
use Rattle.download_laws.specs.Carrying.{Carried}
use Rattle.download_laws.specs.Sending.{IsSent as IsSectionSent, AreSent}
use Rattle.download_laws.proofs.Sending.{window_sent}
use Rattle.resync_laws.proofs.Unit.{IsQuietDeed}
use Rattle.downloaded_laws.proofs.Reading.{among_or, none_among}
use Rattle.downloaded_laws.proofs.Unit.{IsPut, NoCheck}
use Rattle.downloaded_laws.proofs.Invariants.{Has, HasFront, HasWindow, HasAfter, IsSending, Passes}

-- ---- what a unit has

pub has_at : (v : Onu) (P : Loading → Type 0) → ((l : Loading) → v.store.download ≡ Some l → P l)
    → Has (Some v) P
has_at v P h u l on has =
    h l (ap (λ (y : Onu). y.store.download) (same_Some v u on) ∙ has)

-- a window was carried out, by its deed
pub window_case : (d : Deed) (o : Outgoing) (order : Order) (before : Option Loading) → IsPut d
    → ((l : Loading) → before ≡ Some l → (l.target ≡ order.slot) × Carried o d l)
    → (l : Loading) → download_after d before ≡ Some l
    → HasAfter (code_handled (handled_by false d)) order o l
window_case (Put bytes) o order None p h l e = absurd (cc)
window_case (Put bytes) o order (Some x) p h l e =
    let y : Loading = record x { put = bytes; window = no_window } in
    let k = h x refl in
    inl (refl, subst (HasWindow order o) (same_Some y l e) (record { target = k.0; has = k.1 }))
window_case (RefuseWindow code) o order None p h l e = absurd (cc)
window_case (RefuseWindow code) o order (Some x) p h l e =
    let y : Loading = record x { window = no_window } in
    let k = h x refl in
    inr (
      eqb-false code 0 p,
      subst (HasFront order o) (same_Some y l e) (record { target = k.0; has = k.1 }),
    )
window_case Ignore o order before p h l e = absurd p
window_case (Refuse code) o order before p h l e = absurd p
window_case (GiveUp code) o order before p h l e = absurd p
window_case (Begin slot size granted) o order before p h l e = absurd p
window_case (Hold window) o order before p h l e = absurd p
window_case (Seal slot image) o order before p h l e = absurd p
window_case (Activate leaves) o order before p h l e = absurd p
window_case (Commit slot) o order before p h l e = absurd p
window_case (Recommit slot) o order before p h l e = absurd p

-- a section was held, by its deed
pub held_case : (d : Deed) (o : Outgoing) (order : Order) (before : Option Loading) → IsQuietDeed d
    → ((l : Loading) → before ≡ Some l → (l.target ≡ order.slot) × Carried o d l)
    → (l : Loading) → download_after d before ≡ Some l → HasFront order o l
held_case Ignore o order before p h l e =
    let k = h l e in record { target = k.0; has = k.1 }
held_case (Hold window) o order None p h l e = absurd (cc)
held_case (Hold window) o order (Some x) p h l e =
    let y : Loading = record x { window = window } in
    let k = h x refl in
    subst (HasFront order o) (same_Some y l e) (record { target = k.0; has = k.1 })
held_case (Refuse code) o order before p h l e = absurd p
held_case (RefuseWindow code) o order before p h l e = absurd p
held_case (GiveUp code) o order before p h l e = absurd p
held_case (Begin slot size granted) o order before p h l e = absurd p
held_case (Put bytes) o order before p h l e = absurd p
held_case (Seal slot image) o order before p h l e = absurd p
held_case (Activate leaves) o order before p h l e = absurd p
held_case (Commit slot) o order before p h l e = absurd p
held_case (Recommit slot) o order before p h l e = absurd p

-- ---- packets of a command

pub one_packet : (w : Waiting) (entity : EntityId) (r : Request) (bytes : List ℕ)
    → Contains (waiting_packets (Some w)) bytes → w.command ≡ job_command entity r
    → bytes ≡ spelling (plain (Asked w.tci entity r))
unfolding command_frame
one_packet w entity r bytes h same =
    let c = job_command entity r in
    go (among_or (spelling (command_frame w.tci c)) [] bytes
    (subst (λ (x : Command). Contains (command_packets w.tci x) bytes) same h))
  where
    go : (bytes ≡ spelling (command_frame w.tci (job_command entity r))) ⊎ Contains [] bytes
        → bytes ≡ spelling (plain (Asked w.tci entity r))
    go (inl e) = e
    go (inr none) = none_among bytes none

sent_among : (o : Outgoing) (tci : ℕ) (one : EntityId) (ps : List (List ℕ)) (bytes : List ℕ)
    → AreSent o tci one ps → Contains ps bytes → IsSectionSent o tci one bytes
sent_among o tci one [] bytes h c = none_among bytes c
sent_among o tci one (p ∷ ps) bytes h c = elim (among_or p ps bytes c) [
  | inl e ↦ subst (IsSectionSent o tci one) (sym e) h.0
  | inr k ↦ sent_among o tci one ps bytes h.1 k
]

pub one_section : (order : Order) (o : Outgoing) (w : Waiting) (bytes : List ℕ) → IsSending order o
    → Contains (waiting_packets (Some w)) bytes → w.command ≡ image_window order o
    → IsSectionSent o w.tci (image_entity order.slot) bytes
one_section order o w bytes h c same =
    let some = h.some in let within = h.within in
    sent_among o w.tci (image_entity order.slot) (command_packets w.tci (image_window order o)) bytes
    (window_sent order o w.tci (omega (arith, some, within)))
    (subst (λ (x : Command). Contains (command_packets w.tci x) bytes) same c)

-- ---- entries of the store

pub record Entered (es : List StoreEntry) (t u : Told) : Type 0 where
  pub low : u.low ≡ t.low
  pub was : (life c : ℕ) → WasCarried life c u.history → WasCarried life c t.history
  pub still : (life c : ℕ) → WasCarried life c t.history → WasCarried life c u.history
  pub last : (c : ℕ) (r : List ℕ) → LastReply c r u.history → LastReply c r t.history
  pub right : DownloadedRight t.history → DownloadedRight u.history
  pub checked : NoCheck es → (slot : ℕ) (image : List ℕ) → LastChecked slot image t.history
      → LastChecked slot image u.history

one_entry : (e : StoreEntry) (es : List StoreEntry) (t u : Told)
    → Entered es (tell (ImageStored e) t) u → Entered (e ∷ es) t u
one_entry (Checked slot image check) es t u k = record {
  low = k.low;
  was = k.was;
  still = k.still;
  last = k.last;
  right = k.right;
  checked = λ none. absurd none;
}
one_entry (CommitBegun slot) es t u k = record {
  low = k.low;
  was = k.was;
  still = k.still;
  last = k.last;
  right = k.right;
  checked = k.checked;
}
one_entry (Committed slot) es t u k = record {
  low = k.low;
  was = k.was;
  still = k.still;
  last = k.last;
  right = k.right;
  checked = k.checked;
}

pub entered : (es : List StoreEntry) (t : Told) → Entered es t (tell_all (map ImageStored es) t)
entered [] t = record {
  low = refl;
  was = λ life c w. w;
  still = λ life c w. w;
  last = λ c r l. l;
  right = λ r. r;
  checked = λ none slot image l. l;
}
entered (e ∷ es) t = one_entry e es t _ (entered es (tell (ImageStored e) t))

pub entered_passes : (es : List StoreEntry) (t u : Told) → Entered es t u → NoCheck es
    → Passes t.history u.history
entered_passes es t u k none =
    record { was = k.was; still = k.still; last = k.last; checked = k.checked none }
