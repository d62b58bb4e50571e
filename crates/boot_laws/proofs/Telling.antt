-- Which happenings the store's history tells of: what the store had for it, and nothing else.
use Rattle.std.proofs.Common.{◌≡◌, ℕ, Bool, true, false, List, [], ◌∷◌, ◌++◌, map, reverse}
use Rattle.std.proofs.Common.{Option, Some, None, refl, sym, ap, ◌∙◌}
use Rattle.std.proofs.lemmas.List.{append_assoc, reverse-append, reverse-reverse}
use Rattle.std.specs.List.{flat_map}
use Rattle.omci_types.specs.declared.Priority.{Priority}
use Rattle.omci_types.specs.declared.Priority.TheVariants.{Low, High}
use Rattle.upload_spec.specs.Pieces.{Copy}
use Rattle.store_spec.specs.History.{StoreEntry}
use Rattle.history_spec.specs.History.{store_history}
use Rattle.unit_spec.specs.declared.Note.{Note}
use Rattle.unit_spec.specs.declared.Note.TheVariants as note
use Rattle.unit_spec.specs.declared.Did.{Did}
use Rattle.unit_spec.specs.declared.Did.TheVariants as did
use Rattle.unit_spec.specs.declared.Noticed.{Noticed}
use Rattle.unit_spec.specs.declared.Noticed.TheVariants as noticed
use Rattle.unit_spec.specs.Onu.{Onu}
use Rattle.manager_spec.specs.declared.Report.{Report}
use Rattle.manager_spec.specs.declared.Report.TheVariants as report
use Rattle.manager_spec.specs.Manager.{Stage, Probing, Asking, Gathering, AskingAlarms}
use Rattle.manager_spec.specs.Manager.{GatheringRows, StartingImage, SendingImage, EndingImage}
use Rattle.manager_spec.specs.Manager.{DelayingEnd, Manager, Outcome, Sending}
use Rattle.world_spec.specs.Happenings.{Happening, UnitStarted, ManagerStarted, PacketCame}
use Rattle.world_spec.specs.Happenings.{PacketSent, UnitCarried, UnitNoted, UnitKept, UnitDropped}
use Rattle.world_spec.specs.Happenings.{UnitHeld, ImageStored, PowerCut, CommandDrawn, JobAsked}
use Rattle.world_spec.specs.Happenings.{ReplyTaken, NoticeTaken, CopyTold, TableTold, ImageTold}
use Rattle.world_spec.specs.Happenings.{Reported, Refused, NotEnabled}
use Rattle.world_spec.specs.Ends.{Ends, if_drawn, if_asked, goes_down, sends, copy_told, image_told}
use Rattle.world_spec.specs.Ends.{download_told, stage_in, result_told, report_told, manager_did}
use Rattle.world_spec.specs.Ends.{note_told, unit_deed, notice_sent}
use Rattle.world_spec.specs.History.{Told, remark_of, with_remark, draws_in, tell, tell_all}

-- the store's history so far
abbrev pub stores_of : Told → List StoreEntry
stores_of t = store_history t.history

abbrev pub IsQuiet : Happening → Type 0
IsQuiet (ImageStored entry) = ⊥
IsQuiet _ = Unit {0}

abbrev pub AreQuiet : List Happening → Type 0
AreQuiet [] = Unit {0}
AreQuiet (x ∷ rest) = IsQuiet x × AreQuiet rest

-- some happenings, and then others
pub tell_append : (hs gs : List Happening) (t : Told)
    → tell_all (hs ++ gs) t ≡ tell_all gs (tell_all hs t)
tell_append [] gs t = refl
tell_append (h ∷ hs) gs t = tell_append hs gs (tell h t)

-- ---- what happens without the store

remark_quiet : (life command : ℕ) (n : Note) (before : Onu) (t : Told)
    → stores_of (with_remark (remark_of life command n before) t) ≡ stores_of t
remark_quiet life command (note.Snapshot entities counter) before t = refl
remark_quiet life command (note.Alarms rows) before t = refl
remark_quiet life command (note.Sealed slot size check) before t = refl
remark_quiet life command (note.Committed slot) before t = refl
remark_quiet life command (note.Leaving boot) before t = refl

draw_quiet : (lane : Priority) (t : Told) → stores_of (draws_in lane t) ≡ stores_of t
draw_quiet Low t = refl
draw_quiet High t = refl

one_quiet : (x : Happening) (t : Told) → IsQuiet x → stores_of (tell x t) ≡ stores_of t
one_quiet (ImageStored entry) t q = absurd q
one_quiet (UnitNoted life n before) t q = remark_quiet life t.came n before t
one_quiet (CommandDrawn lane) t q = draw_quiet lane t
one_quiet (UnitStarted life software) t q = refl
one_quiet ManagerStarted t q = refl
one_quiet (PacketCame number packet) t q = refl
one_quiet (PacketSent whose packet) t q = refl
one_quiet (UnitCarried life reply before) t q = refl
one_quiet UnitKept t q = refl
one_quiet UnitDropped t q = refl
one_quiet UnitHeld t q = refl
one_quiet PowerCut t q = refl
one_quiet (JobAsked lane) t q = refl
one_quiet (ReplyTaken lane) t q = refl
one_quiet (NoticeTaken notice) t q = refl
one_quiet (CopyTold copy) t q = refl
one_quiet (TableTold table) t q = refl
one_quiet (ImageTold slot image) t q = refl
one_quiet (Reported r) t q = refl
one_quiet (Refused refusal) t q = refl
one_quiet NotEnabled t q = refl

pub quiet_tells : (hs : List Happening) (t : Told) → AreQuiet hs
    → stores_of (tell_all hs t) ≡ stores_of t
quiet_tells [] t q = refl
quiet_tells (x ∷ rest) t q = quiet_tells rest (tell x t) q.1 ∙ one_quiet x t q.0

pub quiet_append : (hs gs : List Happening) → AreQuiet hs → AreQuiet gs → AreQuiet (hs ++ gs)
quiet_append [] gs q k = k
quiet_append (x ∷ hs) gs q k = (q.0, quiet_append hs gs q.1 k)

pub quiet_map : {A : Type 0} (f : A → Happening) → ((x : A) → IsQuiet (f x)) → (xs : List A)
    → AreQuiet (map f xs)
quiet_map f q [] = tt
quiet_map f q (x ∷ xs) = (q x, quiet_map f q xs)

pub quiet_flat : {A : Type 0} (f : A → List Happening) → ((x : A) → AreQuiet (f x))
    → (xs : List A) → AreQuiet (flat_map f xs)
quiet_flat f q [] = tt
quiet_flat f q (x ∷ xs) = quiet_append (f x) (flat_map f xs) (q x) (quiet_flat f q xs)

-- ---- what the store had for the history

in_order : (entries : List StoreEntry) (t : Told)
    → stores_of (tell_all (map ImageStored entries) t) ≡ reverse entries ++ stores_of t
in_order [] t = refl
in_order (e ∷ es) t =
    in_order es (tell (ImageStored e) t)
    ∙ sym (append_assoc (reverse es) (e ∷ []) (stores_of t))
    ∙ sym (ap (λ (l : List StoreEntry). l ++ stores_of t) (reverse-append (e ∷ []) es))

pub stored_tells : (entries : List StoreEntry) (t : Told)
    → stores_of (tell_all (map ImageStored (reverse entries)) t) ≡ entries ++ stores_of t
stored_tells entries t =
    in_order (reverse entries) t
    ∙ ap (λ (l : List StoreEntry). l ++ stores_of t) (reverse-reverse entries)

-- ---- the manager

copy_quiet : (copy : Option Copy) → AreQuiet (copy_told copy)
copy_quiet None = tt
copy_quiet (Some copy) = (tt, tt)

result_quiet : (r : Report) (m : Manager) → AreQuiet (result_told r m)
result_quiet (report.Synced entities counter) m = copy_quiet m.copy
result_quiet (report.Audited rows) m = (tt, tt)
result_quiet _ m = tt

image_quiet : (job : Option Stage) (slot : ℕ) → AreQuiet (image_told job slot)
image_quiet None slot = tt
image_quiet (Some (Probing high low)) slot = tt
image_quiet (Some Asking) slot = tt
image_quiet (Some (Gathering expected next copy)) slot = tt
image_quiet (Some AskingAlarms) slot = tt
image_quiet (Some (GatheringRows expected next)) slot = tt
image_quiet (Some (StartingImage order asked image)) slot = tt
image_quiet (Some (SendingImage order outgoing resent)) slot = tt
image_quiet (Some (EndingImage order image busy)) slot = (tt, tt)
image_quiet (Some (DelayingEnd order image busy)) slot = tt

download_quiet : (before : Option Stage) (r : Report) → AreQuiet (download_told before r)
download_quiet before (report.ImageDone slot) = image_quiet before slot
download_quiet before _ = tt

drawn_quiet : (drawn : Bool) (lane : Priority) → AreQuiet (if_drawn drawn lane)
drawn_quiet true lane = (tt, tt)
drawn_quiet false lane = tt

asked_quiet : (asks : Bool) (lane : Priority) → AreQuiet (if_asked asks lane)
asked_quiet true lane = (tt, tt)
asked_quiet false lane = tt

sends_quiet : (s : Sending) → AreQuiet (sends s)
sends_quiet s =
    quiet_append (if_drawn s.drawn s.lane ++ if_asked s.asks s.lane) _
    (quiet_append (if_drawn s.drawn s.lane) _ (drawn_quiet s.drawn s.lane)
    (asked_quiet s.asks s.lane))
    (quiet_map (goes_down s.lane) (λ bytes. tt) s.packets)

pub manager_quiet : (o : Outcome) (e : Ends) → AreQuiet (manager_did o e).happenings
manager_quiet o e =
    quiet_append _ (flat_map (download_told (stage_in e.manager)) o.manager.reports)
    (quiet_append _ (flat_map sends o.sendings)
    (quiet_append _ (flat_map (report_told o.manager) o.manager.reports)
    (quiet_append (map ReplyTaken o.taken) (map NoticeTaken o.noticed)
    (quiet_map ReplyTaken (λ lane. tt) o.taken)
    (quiet_map NoticeTaken (λ one. tt) o.noticed))
    (quiet_flat (report_told o.manager) (λ r. (tt, result_quiet r o.manager)) o.manager.reports))
    (quiet_flat sends sends_quiet o.sendings))
    (quiet_flat (download_told (stage_in e.manager)) (download_quiet (stage_in e.manager))
    o.manager.reports)

-- ---- the unit

note_quiet : (n : Option Note) (life : ℕ) (before : Onu) → AreQuiet (note_told n life before)
note_quiet None life before = tt
note_quiet (Some n) life before = (tt, tt)

pub deed_quiet : (d : Did) (reply : List ℕ) (before : Onu) (life : ℕ)
    → AreQuiet (unit_deed d reply before life)
deed_quiet did.Dropped reply before life = (tt, tt)
deed_quiet did.Held reply before life = (tt, tt)
deed_quiet did.Kept reply before life = (tt, (tt, tt))
deed_quiet (did.Carried n) reply before life = (
  tt,
  quiet_append (note_told n life before) _ (note_quiet n life before) (tt, tt),
)

pub notice_quiet : (n : Noticed) (packet : List ℕ) → AreQuiet (notice_sent n packet)
notice_quiet noticed.NotAllowed packet = (tt, tt)
notice_quiet noticed.Same packet = tt
notice_quiet noticed.Sent packet = (tt, tt)
